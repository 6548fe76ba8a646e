use native.Mathlib.Omega.{arith}
use Rattle.types.proofs.SureMembers.{sign-told}
use Rattle.types.proofs.sure.sign.Goals as goal

pub returns : goal.returns
returns c = (sign-told c.args.name.now c.byte.ensures.0 c.byte-2.ensures.0 c.byte-3.ensures.0 c.byte-4.ensures.0, omega arith)
