use Rattle.std.proofs.Common.{◌≡◌, refl, Ok, Err, ap, ◌∙◌}
use Rattle.std.specs.Result.{result_unwrap_or}
use Rattle.jer.specs.declared.Counts.{Counts}
use Rattle.jer.specs.Answer.{Reading}
use Rattle.jer.specs.Each.{rows_used, pool_used}
use Rattle.reading.proofs.each.used.Goals as goal

abbrev counts : Reading → Counts
counts r = result_unwrap_or r record { rows = 0; pool = 0 }

counted : (r : Reading) → ((counts r).rows ≡ rows_used r) × ((counts r).pool ≡ pool_used r)
unfolding rows_used pool_used
counted (Ok c) = (refl, refl)
counted (Err e) = (refl, refl)

pub returns : goal.returns
returns c = let h = c.unwrap_or.ensures in let w = counted c.args.r in (ap (λ (c : Counts). c.rows) h ∙ w.0, ap (λ (c : Counts). c.pool) h ∙ w.1)
