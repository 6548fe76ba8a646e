use native.Mathlib.Omega.{arith}
use mathlib.Core.Path.{refl}
use Rattle.spelled.proofs.StretchLaws.{passed}
use Rattle.spelled.proofs.WordLaws.{true-here, false-here, spells-ahead}
use Rattle.quick.proofs.BareLaws.{bool_true, bool_false}
use Rattle.quick.proofs.bare.boolean.Goals as goal

pub returns-then-byte_at-eq116 : goal.returns-then-byte_at-eq116
returns-then-byte_at-eq116 c = let k = c.in_ok-literal.ensures in λ t row e. bool_true e (λ d. passed _ c.args.s.now c.args.place _ (true-here k.0 d) (spells-ahead k.0 (omega arith))) (refl, refl, refl, refl)

pub returns : goal.returns
returns c = let k = c.in_ok-literal-2.ensures in λ t row e. bool_false e (λ d. passed _ c.args.s.now c.args.place _ (false-here k.0 d) (spells-ahead k.0 (omega arith))) (refl, refl, refl, refl)
