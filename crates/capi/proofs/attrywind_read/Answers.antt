use mathlib.Core.Path.{refl}
use Rattle.capi.specs.Answers.{of_reading}
use Rattle.capi.proofs.attrywind_read.Goals as goal

pub returns-in-Err : goal.returns-in-Err
unfolding of_reading
returns-in-Err c =
    let read = c.read.ensures in
    let is = c.in-Err.is in
    record { answer = _; call = read; number = rw is c.refused.ensures.value; told = rw is c.refused.ensures.amounts_after }

pub returns-in-Ok : goal.returns-in-Ok
unfolding of_reading
returns-in-Ok c =
    let read = c.read.ensures in
    let is = c.in-Ok.is in
    record { answer = _; call = read; number = rw is refl; told = rw is c.told.ensures }
