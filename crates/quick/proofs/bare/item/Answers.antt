use native.Mathlib.Omega.{arith}
use mathlib.Core.Path.{refl}
use Rattle.quick.proofs.BareLaws.{item-leaf}
use Rattle.quick.proofs.bare.item.Goals as goal

pub position_of-requires : goal.position_of-requires
position_of-requires c = let w = c.in_ok-w.ensures in (c.requires.0, c.requires.1, λ e. omega (arith, (w.plain e).1, w.passed.inside))

pub returns : goal.returns
returns c = let w = c.in_ok-w.ensures in λ e. item-leaf e w (c.in_ok-k.ensures _ w) (refl, refl, refl, refl)
