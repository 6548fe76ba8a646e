use Rattle.std.proofs.Common.{rules, ◌/◌, length, refl, arith}
use Rattle.std.specs.Bool.{⊤}
use Rattle.std.proofs.lemmas.Iterator.{YieldsList-from_range, serves_from_Range, cases_from_all}
use Rattle.jer.specs.Table.{table}
use Rattle.types.specs.Sure.{SureLinks}
use Rattle.types.proofs.LoopLaws.{told-below}
use Rattle.types.proofs.SureMembers.{count-is}
use Rattle.types.proofs.sure.sure.Goals as goal

pub all-requires-clause-callable : goal.all-requires-clause-callable
all-requires-clause-callable c =
    let n = count-is c.args.rows.now c.args.names.now (c.row_count.ensures c.args.names.now) in
    serves_from_Range (λ x q k. search rules) (λ x l h. search rules)

pub returns : goal.returns
returns c =
    let a = c.args in
    let t = table a.rows.now a.names.now in
    let n = count-is a.rows.now a.names.now (c.row_count.ensures a.names.now) in
    told-below (SureLinks t) _ (length a.rows.now / 8)
    (cases_from_all _ _ c.all.result (SureLinks t) (λ i. ⊤) c.all.ensures.ran (YieldsList-from_range 0 c.row_count.result (length a.rows.now / 8) refl (omega (arith, n))) (λ x q k. search rules) (λ x q k. search rules))
