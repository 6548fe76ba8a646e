use native.Mathlib.Omega.{arith}
use Rattle.spelled.proofs.SpaceLaws.{blank-one, blank_two}
use Rattle.spelled.proofs.space.is_space.Goals as goal

pub returns-in-32 : goal.returns-in-32
returns-in-32 c = λ h. blank-one c.in-32.is

pub returns-in-32-2 : goal.returns-in-32-2
returns-in-32-2 c = λ h. blank_two c.args.b (omega arith) (omega arith)
