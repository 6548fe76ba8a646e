use Rattle.std.proofs.Common.{rules, ℕ, refl, arith, ◌∙◌, not, ◌&&◌}
use Rattle.std.proofs.lemmas.Iterator.{YieldsList-from_range}
use Rattle.std.proofs.lemmas.Iterator.Search.{all_from_yields_List}
use Rattle.jer.specs.Table.{table, count_of, type_at, may_miss, null_taken}
use Rattle.jer.specs.Valid.{good_array}
use Rattle.types.proofs.LoopLaws.{every-list}
use Rattle.types.proofs.members.good_array.Goals as goal

pub returns : goal.returns
unfolding good_array
returns c = λ ns.
    let a = c.args in
    let n = count_of (table a.rows.now ns) a.r in
    let test = λ (i : ℕ). not (may_miss (table a.rows.now ns) a.r i && null_taken (table a.rows.now ns) (type_at (table a.rows.now ns) a.r i)) in
    all_from_yields_List test _ _ c.all.result c.all.ensures.ran (YieldsList-from_range 0 c.count_of.result n refl (omega (arith, c.count_of.ensures ns))) (λ x b q k. search rules) ∙ every-list test 0 n
