use native.Mathlib.Omega.{arith}
use Rattle.spelled.proofs.StringLaws.{chars-none, chars-self, chars-wide, chars-escape}
use Rattle.spelled.proofs.string.rest.Goals as goal

pub loop-i-init : goal.loop-i-init
loop-i-init c = chars-none c.args.s.now c.args.p

pub loop-i-preserved-then-b-eq92 : goal.loop-i-preserved-then-b-eq92
loop-i-preserved-then-b-eq92 c = let s = c.args.s.now in let p = c.args.p in let l = c.loop-i in chars-escape s p l.i _ l.n _ l.escaped l.invariant c.in_ok-e.ensures.0

pub loop-i-preserved-then-b-lt128 : goal.loop-i-preserved-then-b-lt128
loop-i-preserved-then-b-lt128 c = let s = c.args.s.now in let p = c.args.p in let l = c.loop-i in chars-self s p l.i l.n l.escaped l.invariant c.loop-i-test.true (omega arith, omega (arith, c.if-b-lt128.true), c.if-b-eq34.false, c.if-b-eq92.false)

pub loop-i-preserved : goal.loop-i-preserved
loop-i-preserved c = let s = c.args.s.now in let p = c.args.p in let l = c.loop-i in chars-wide s p l.i l.n _ l.escaped l.invariant c.in_ok-k.ensures.0
