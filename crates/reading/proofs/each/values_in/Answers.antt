use Rattle.jer.specs.Answer.{Reading}
use mathlib.Core.Path.{sym, ap, ◌∙◌}
use Rattle.jer.specs.Reports.{reported_of}
use Rattle.jer.specs.Each.{values_in}
use Rattle.reading.proofs.each.values_in.Goals as goal

pub returns-in-Err : goal.returns-in-Err
unfolding values_in
returns-in-Err c = c.from.ensures ∙ ap (λ (r : Reading). reported_of (values_in r)) (sym c.in-Err.is)

pub returns-in-Ok : goal.returns-in-Ok
unfolding values_in
returns-in-Ok c = ap (λ (r : Reading). reported_of (values_in r)) (sym c.in-Ok.is)
