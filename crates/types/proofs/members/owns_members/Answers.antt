use Rattle.std.proofs.Common.{rules, ℕ, refl, arith, ◌∙◌, eqb}
use Rattle.std.proofs.lemmas.Iterator.{YieldsList-from_range}
use Rattle.std.proofs.lemmas.Iterator.Search.{all_from_yields_List}
use Rattle.jer.specs.Table.{table, count_of, tag_of, member_row, MEMBER}
use Rattle.types.proofs.LoopLaws.{every-list}
use Rattle.types.proofs.members.owns_members.Goals as goal

pub returns : goal.returns
returns c = λ ns.
    let a = c.args in
    let n = count_of (table a.rows.now ns) a.r in
    let test = λ (i : ℕ). eqb (tag_of (table a.rows.now ns) (member_row (table a.rows.now ns) a.r i)) MEMBER in
    all_from_yields_List test _ _ c.all.result c.all.ensures.ran (YieldsList-from_range 0 c.count_of.result n refl (omega (arith, c.count_of.ensures ns))) (λ x b q k. search rules) ∙ every-list test 0 n
