use native.Mathlib.Omega.{arith}
use Rattle.json_text.specs.Grammar.{Space}
use Rattle.spelled.specs.Stretch.{Stretch}
use borrow.Author.Tests.{not-false}
use Rattle.spelled.proofs.StretchLaws.{at-end}
use Rattle.spelled.proofs.SpaceLaws.{space-none, space-more}
use Rattle.spelled.proofs.space.space.Goals as goal

pub loop-i-init : goal.loop-i-init
loop-i-init c = space-none c.args.s.now c.args.p

pub loop-i-preserved : goal.loop-i-preserved
loop-i-preserved c = space-more c.args.s.now c.args.p c.loop-i.i c.loop-i.invariant (omega arith) (c.type_inv.s c.loop-i.i).fits (c.is_space.ensures (not-false _ c.if-not-is_space.false-raw))

pub returns-clause-stretch : goal.returns-clause-stretch
returns-clause-stretch c = at-end (Stretch Space c.args.s.now c.args.p) (space-none c.args.s.now c.args.p) c.loop-i.invariant (omega arith) (omega arith) (omega arith) c.max.ensures
