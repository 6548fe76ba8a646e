use mathlib.Core.Path.{refl}
use Rattle.capi.specs.Answers.{of_readings}
use Rattle.capi.proofs.attrywind_read_each.Goals as goal

pub returns-in-Err : goal.returns-in-Err
unfolding of_readings
returns-in-Err c =
    let each = c.read_each.ensures in
    let is = c.in-Err.is in
    record { answer = _; call = each; number = rw is c.refused.ensures.value; told = rw is c.refused.ensures.amounts_after }

pub returns-in-Ok : goal.returns-in-Ok
unfolding of_readings
returns-in-Ok c =
    let each = c.read_each.ensures in
    let is = c.in-Ok.is in
    record { answer = _; call = each; number = rw is refl; told = rw is c.told.ensures }
