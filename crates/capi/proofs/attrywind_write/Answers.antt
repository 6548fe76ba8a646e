use mathlib.Core.Path.{refl}
use Rattle.capi.specs.Answers.{of_writing}
use Rattle.capi.proofs.attrywind_write.Goals as goal

pub returns-in-Err : goal.returns-in-Err
unfolding of_writing
returns-in-Err c =
    let write = c.write.ensures in
    let is = c.in-Err.is in
    record { answer = _; call = write; number = rw is c.refused.ensures.value; told = rw is c.refused.ensures.amounts_after }

pub returns-in-Ok : goal.returns-in-Ok
unfolding of_writing
returns-in-Ok c =
    let write = c.write.ensures in
    let is = c.in-Ok.is in
    record { answer = _; call = write; number = rw is refl; told = rw is c.told.ensures }
