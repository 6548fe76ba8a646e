use native.Mathlib.Omega.{arith}
use Rattle.spelled.specs.Stretch.{Stretch, Selves}
use borrow.Author.Tests.{not-false}
use Rattle.spelled.proofs.StretchLaws.{at-end}
use Rattle.spelled.proofs.StringLaws.{selves_none, selves_more}
use Rattle.spelled.proofs.plain.Flags.run_short.Goals as goal

pub loop-i-init : goal.loop-i-init
loop-i-init c = selves_none c.args.s.now c.args.p

pub loop-i-preserved : goal.loop-i-preserved
loop-i-preserved c = selves_more c.args.s.now c.args.p c.loop-i.i c.loop-i.invariant (omega arith) (c.plain.ensures (not-false _ c.if-not-plain.false-raw))

pub returns-clause-stretch : goal.returns-clause-stretch
returns-clause-stretch c = at-end (Stretch Selves c.args.s.now c.args.p) (selves_none c.args.s.now c.args.p) c.loop-i.invariant (omega arith) (omega arith) (omega arith) c.max.ensures
