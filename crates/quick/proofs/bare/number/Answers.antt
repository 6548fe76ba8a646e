use mathlib.Core.Path.{refl}
use Rattle.quick.proofs.BareLaws.{integer_leaf}
use Rattle.quick.proofs.bare.number.Goals as goal

pub returns : goal.returns
returns c = λ t row e. integer_leaf e c.in_ok-n.ensures (refl, refl, refl, refl)
