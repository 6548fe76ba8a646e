use Prim.Native.Nat.{◌+◌, ◌-◌, ◌*◌, ◌/◌}
use mathlib.Core.Path.{◌≡◌}
use lib.ListN.{length}
use native.Mathlib.Omega.{arith}
use borrow.Author.Tests.{not-false}
use Rattle.spelled.proofs.StringLaws.{selves_none, selves_more, selves_two, selves_three, selves_four, selves_join}
use Rattle.spelled.proofs.plain.Flags.run.Goals as goal

pub returns-then-s-p-clause-stretch : goal.returns-then-s-p-clause-stretch
returns-then-s-p-clause-stretch c = selves_none c.args.s.now c.args.p

pub loop-k-init : goal.loop-k-init
loop-k-init c = let e : c.args.p + 0 * 4 ≡ c.args.p = omega arith in rw e (selves_none c.args.s.now c.args.p)

pub returns-then-not-plain-2-clause-stretch : goal.returns-then-not-plain-2-clause-stretch
returns-then-not-plain-2-clause-stretch c = let s = c.args.s.now in let p = c.args.p in let i = p + c.loop-k.k * 4 in selves_more s p i c.loop-k.invariant (omega arith) (c.plain.ensures (not-false _ c.if-not-plain.false-raw))

pub returns-then-not-plain-3-clause-stretch : goal.returns-then-not-plain-3-clause-stretch
returns-then-not-plain-3-clause-stretch c = let s = c.args.s.now in let p = c.args.p in let i = p + c.loop-k.k * 4 in selves_two s p i c.loop-k.invariant (c.plain.ensures (not-false _ c.if-not-plain.false-raw)) (c.plain-in-loop-k.ensures (not-false _ c.if-not-plain-2.false-raw)) (omega arith)

pub returns-then-not-plain-4-clause-stretch : goal.returns-then-not-plain-4-clause-stretch
returns-then-not-plain-4-clause-stretch c = let s = c.args.s.now in let p = c.args.p in let i = p + c.loop-k.k * 4 in selves_three s p i c.loop-k.invariant (c.plain.ensures (not-false _ c.if-not-plain.false-raw)) (c.plain-in-loop-k.ensures (not-false _ c.if-not-plain-2.false-raw)) (c.plain-in-loop-k-2.ensures (not-false _ c.if-not-plain-3.false-raw)) (omega arith)

pub loop-k-preserved : goal.loop-k-preserved
loop-k-preserved c = let s = c.args.s.now in let p = c.args.p in let i = p + c.loop-k.k * 4 in let e : p + (c.loop-k.k + 1) * 4 ≡ i + 4 = omega arith in rw e (selves_four s p i c.loop-k.invariant (c.plain.ensures (not-false _ c.if-not-plain.false-raw)) (c.plain-in-loop-k.ensures (not-false _ c.if-not-plain-2.false-raw)) (c.plain-in-loop-k-2.ensures (not-false _ c.if-not-plain-3.false-raw)) (omega arith) (c.plain-in-loop-k-3.ensures (not-false _ c.if-not-plain-4.false-raw)))

pub returns-clause-stretch : goal.returns-clause-stretch
returns-clause-stretch c = let s = c.args.s.now in let p = c.args.p in let i = p + c.loop-k.k * 4 in let e : p + (length s - p) / 4 * 4 ≡ i = omega arith in selves_join s p i c.run_short.result c.loop-k.invariant (rw e at c.run_short.ensures.stretch)
