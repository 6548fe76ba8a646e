use native.Mathlib.Omega.{arith}
use Rattle.types.proofs.sure.byte.Goals as goal

pub returns : goal.returns
returns c = (c.from.ensures, omega (arith, c.type_inv.s c.args.i))
