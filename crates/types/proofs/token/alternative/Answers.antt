use Rattle.std.proofs.Common.{rules, refl, arith, sym, ◌∙◌}
use Rattle.std.proofs.lemmas.Iterator.{YieldsList-from_range}
use Rattle.std.proofs.lemmas.Iterator.Search.{find_from_yields_List}
use Rattle.jer.specs.Table.{table, count_of, alternative}
use Rattle.types.proofs.LoopLaws.{first-list, map-same}
use Rattle.types.proofs.TokenLaws.{picks}
use Rattle.types.proofs.token.alternative.Goals as goal

pub returns : goal.returns
unfolding alternative
returns c = λ ns.
    let a = c.args in
    let t = table a.rows.now ns in
    sym (map-same c.find.result)
    ∙ find_from_yields_List (picks t a.r a.token) _ _ c.find.result c.find.ensures.ran (YieldsList-from_range 0 c.count_of.result (count_of t a.r) refl (omega (arith, c.count_of.ensures ns))) (λ x b q k. search rules)
    ∙ first-list (picks t a.r a.token) 0 (count_of t a.r)
