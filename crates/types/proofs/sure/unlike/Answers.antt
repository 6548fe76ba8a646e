use Rattle.std.proofs.Common.{rules, ◌≡◌, ◌+◌, false, refl, arith}
use Rattle.std.specs.Bool.{⊤}
use Rattle.std.proofs.lemmas.Iterator.{YieldsList-from_range, serves_from_Range, cases_from_all}
use Rattle.jer.specs.Table.{name_in, same_bytes, table}
use Rattle.types.proofs.LoopLaws.{told-below}
use Rattle.types.proofs.sure.unlike.Goals as goal

pub all-requires-clause-callable : goal.all-requires-clause-callable
all-requires-clause-callable c = serves_from_Range (λ x q k. search rules) (λ x l h. search rules)

pub returns : goal.returns
returns c =
    let a = c.args in
    let t = table a.rows.now a.names.now in
    told-below (λ i. same_bytes (name_in t (a.first + i)) a.name.now ≡ false) _ a.j
    (cases_from_all _ _ c.all.result (λ i. same_bytes (name_in t (a.first + i)) a.name.now ≡ false) (λ i. ⊤) c.all.ensures.ran (YieldsList-from_range 0 a.j a.j refl (omega arith)) (λ x q k. search rules) (λ x q k. search rules))
