use native.Mathlib.Omega.{arith}
use Rattle.spelled.proofs.CharLaws.{escape-unit, escape-pair}
use Rattle.spelled.proofs.character.unescaped.Goals.{in_default-via-then-x-lt55296, in_default-via-else-x-lt55296+else-x-lt56320+else-x-lt57344}
use Rattle.spelled.proofs.character.unescaped.Goals as goal

pub returns-in-56320-to-57343-2 : goal.returns-in-56320-to-57343-2
returns-in-56320-to-57343-2 c = escape-pair c.args.s.now c.args.p _ _ c.in_ok-x.ensures.0 (omega arith, omega arith) c.in_ok-unit-in-55296-to-56319.ensures.0 (omega arith, omega arith)

pub returns-in_default : goal.returns-in_default
returns-in_default c = escape-unit c.args.s.now c.args.p _ _ c.in_ok-x.ensures.0 (λ i. elim c.in_default.branch [ in_default-via-then-x-lt55296 w ↦ omega (arith, i) | in_default-via-else-x-lt55296+else-x-lt56320+else-x-lt57344 w ↦ omega (arith, i) ]) c.size.ensures.0 c.size.ensures.1 c.size.ensures.2
