use Rattle.std.proofs.Common.{rules, refl, arith, ◌∙◌}
use Rattle.std.proofs.lemmas.Iterator.{YieldsList-from_range}
use Rattle.std.proofs.lemmas.Iterator.Search.{all_from_yields_List}
use Rattle.jer.specs.Table.{table, count_of}
use Rattle.types.specs.Check.{token_is_new}
use Rattle.types.proofs.LoopLaws.{every-list}
use Rattle.types.proofs.RuleLaws.{all-token_is_new}
use Rattle.types.proofs.members.tokens_differ.Goals as goal

pub returns : goal.returns
returns c = λ ns.
    let a = c.args in
    let t = table a.rows.now ns in
    let n = count_of t a.r in
    all_from_yields_List (token_is_new t a.r) _ _ c.all.result c.all.ensures.ran (YieldsList-from_range 0 c.count_of.result n refl (omega (arith, c.count_of.ensures ns))) (λ x b q k. search rules)
    ∙ every-list (token_is_new t a.r) 0 n ∙ all-token_is_new t a.r
