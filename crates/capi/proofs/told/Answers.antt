use native.Mathlib.Omega.{arith}
use Rattle.capi.proofs.AnswerLaws.{stored, no_room}
use Rattle.capi.proofs.told.Goals as goal

pub returns-then-amounts-ge2 : goal.returns-then-amounts-ge2
returns-then-amounts-ge2 c = stored c.args.amounts.now c.args.first c.args.second (omega arith)

pub returns-else-amounts-ge2 : goal.returns-else-amounts-ge2
returns-else-amounts-ge2 c = no_room c.args.amounts.now c.args.first c.args.second (omega arith)
