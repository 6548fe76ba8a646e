use Rattle.std.proofs.Common.{rules, ℕ, refl, arith, sym, ◌∙◌, not}
use Rattle.std.proofs.lemmas.Iterator.{YieldsList-from_range, serves_from_Range}
use Rattle.std.proofs.lemmas.Iterator.Search.{find_from_yields_List}
use Rattle.jer.specs.Table.{table, row_count}
use Rattle.jer.specs.Valid.{good_alone, pass}
use Rattle.types.proofs.LoopLaws.{first-list, map-same}
use Rattle.types.proofs.SureMembers.{count-is}
use Rattle.types.proofs.passes.bad_alone.Goals as goal

pub returns : goal.returns
unfolding pass
returns c =
    let a = c.args in
    let t = table a.rows.now a.names.now in
    let test = λ (r : ℕ). not (good_alone t r) in
    sym (map-same c.find.result)
    ∙ find_from_yields_List test _ _ c.find.result c.find.ensures.ran (YieldsList-from_range 0 c.row_count.result (row_count t) refl (omega (arith, c.row_count.ensures a.names.now))) (λ x b q k. search rules)
    ∙ first-list test 0 (row_count t)

pub find-requires-clause-callable : goal.find-requires-clause-callable
find-requires-clause-callable c =
    let n = count-is c.args.rows.now c.args.names.now (c.row_count.ensures c.args.names.now) in
    serves_from_Range (λ x q k. search rules) (λ x l h. search rules)
