use Rattle.std.proofs.Common.{rules, ℕ, refl, arith, sym, ◌∙◌, not}
use Rattle.std.proofs.lemmas.Iterator.{YieldsList-from_range}
use Rattle.std.proofs.lemmas.Iterator.Search.{find_from_yields_List}
use Rattle.jer.specs.Table.{table, row_count}
use Rattle.jer.specs.Valid.{good_pointers, pass}
use Rattle.types.proofs.LoopLaws.{first-list, map-same}
use Rattle.types.proofs.passes.bad_pointers.Goals as goal

pub returns : goal.returns
unfolding pass
returns c =
    let a = c.args in
    let t = table a.rows.now a.names.now in
    let test = λ (r : ℕ). not (good_pointers t r) in
    sym (map-same c.find.result)
    ∙ find_from_yields_List test _ _ c.find.result c.find.ensures.ran (YieldsList-from_range 0 c.row_count.result (row_count t) refl (omega (arith, c.row_count.ensures a.names.now))) (λ x b q k. search rules)
    ∙ first-list test 0 (row_count t)
