use Rattle.std.proofs.Common.{rules, refl, arith, ◌∙◌}
use Rattle.std.proofs.lemmas.Iterator.{YieldsList-from_range}
use Rattle.std.proofs.lemmas.Iterator.Search.{all_from_yields_List}
use Rattle.jer.specs.Table.{table, count_of}
use Rattle.types.specs.Check.{name_is_new}
use Rattle.types.proofs.LoopLaws.{every-list}
use Rattle.types.proofs.RuleLaws.{all-name_is_new}
use Rattle.types.proofs.members.names_differ.Goals as goal

pub returns : goal.returns
returns c =
    let a = c.args in
    let t = table a.rows.now a.names.now in
    let n = count_of t a.r in
    all_from_yields_List (name_is_new t a.r) _ _ c.all.result c.all.ensures.ran (YieldsList-from_range 0 c.count_of.result n refl (omega (arith, c.count_of.ensures a.names.now))) (λ x b q k. search rules)
    ∙ every-list (name_is_new t a.r) 0 n ∙ all-name_is_new t a.r
