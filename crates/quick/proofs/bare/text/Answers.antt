use native.Mathlib.Omega.{arith}
use mathlib.Core.Path.{refl}
use Rattle.quick.proofs.BareLaws.{plain-leaf, escaped-leaf}
use Rattle.quick.proofs.bare.text.Goals as goal

pub overflow_cast-n : goal.overflow_cast-n
overflow_cast-n c = let k = c.in_ok-w.ensures in omega (arith, k.few, k.passed.inside, c.args.source.now.short)

pub returns-then-w : goal.returns-then-w
returns-then-w c = let k = c.in_ok-w.ensures in λ t row e. escaped-leaf e k refl refl (omega (arith, k.few, k.passed.inside, c.args.source.now.short)) (refl, refl, refl, refl)

pub returns-else-w : goal.returns-else-w
returns-else-w c = let k = c.in_ok-w.ensures in λ t row e. plain-leaf e k refl refl (omega (arith, k.few, k.passed.inside, c.args.source.now.short)) c.if-w.false (refl, refl, refl, refl)
