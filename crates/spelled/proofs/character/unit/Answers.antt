use mathlib.Core.Path.{sym}
use native.Mathlib.Omega.{arith}
use Rattle.spelled.proofs.CharLaws.{unit-here, hex-is}
use Rattle.spelled.proofs.character.unit.Goals as goal

pub returns : goal.returns
returns c = (unit-here c.args.s.now c.args.p _ _ _ _ (omega (arith, c.if-s-p-lt6.false, c.requires)) c.if-s-p-ne92.false c.if-s-p-ne117.false (rw c.from.ensures (hex-is _ _ (sym c.in_ok-i.ensures.value))) (rw c.from-2.ensures (hex-is _ _ (sym c.in_ok-j.ensures.value))) (rw c.from-3.ensures (hex-is _ _ (sym c.in_ok-k.ensures.value))) (rw c.from-4.ensures (hex-is _ _ (sym c.in_ok-l.ensures.value))), omega (arith, c.in_ok-i.ensures.few, c.in_ok-j.ensures.few, c.in_ok-k.ensures.few, c.in_ok-l.ensures.few))
