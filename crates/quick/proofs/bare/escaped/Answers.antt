use native.Mathlib.Omega.{arith}
use mathlib.Core.Path.{refl, sym, ◌∙◌}
use Rattle.quick.proofs.BareLaws.{escaped-octets}
use Rattle.quick.proofs.bare.escaped.Goals as goal

pub returns : goal.returns
returns c = λ ns e w kd. escaped-octets kd w (sym c.in_ok-m.was ∙ c.octets_at.ensures.count ns) (omega (arith, c.if-n-m.false)) refl c.requires.0 (refl, refl, refl, refl)
