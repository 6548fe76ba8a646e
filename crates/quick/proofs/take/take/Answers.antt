use native.Mathlib.Omega.{arith}
use Rattle.quick.proofs.WalkLaws.{within-at}
use Rattle.quick.proofs.TextLaws.{text-taken}
use Rattle.quick.proofs.take.take.Goals as goal

pub value-requires : goal.value-requires
value-requires c = record { sane = c.requires.0; typed = c.requires.0.whole; room = c.requires.1; here = omega (arith, c.args.source.now.short, within-at c.args.source.now.s.now c.space.ensures.within (omega arith)); start = omega arith }

pub returns : goal.returns
returns c = text-taken c.args.source.now.short c.space.ensures.stretch c.in_ok-g.ensures c.space-2.ensures.stretch c.if-space-source.false
