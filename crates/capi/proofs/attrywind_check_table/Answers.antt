use mathlib.Core.Path.{refl}
use Rattle.capi.specs.Answers.{of_table}
use Rattle.capi.proofs.attrywind_check_table.Goals as goal

pub returns-in-Err : goal.returns-in-Err
unfolding of_table
returns-in-Err c =
    let is = c.in-Err.is in
    record { answer = _; call = c.check.ensures; number = rw is c.refused.ensures.value; told = rw is c.refused.ensures.amounts_after }

pub returns-in-Ok : goal.returns-in-Ok
unfolding of_table
returns-in-Ok c =
    let is = c.in-Ok.is in
    record { answer = _; call = c.check.ensures; number = rw is refl; told = rw is c.told.ensures }
