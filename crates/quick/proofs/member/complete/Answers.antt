use mathlib.Core.List.{[]}
use native.Mathlib.Omega.{arith}
use Rattle.jer.specs.Table.{table}
use Rattle.quick.proofs.MemberLaws.{missing-more}
use Rattle.quick.proofs.member.complete.Goals as goal

pub lacks-requires : goal.lacks-requires
lacks-requires c = omega (arith, c.loop-k-test.true, c.count_of-count.ensures [], c.requires [])

pub loop-k-preserved : goal.loop-k-preserved
loop-k-preserved c = λ ns. missing-more (table c.args.types.now ns) c.args.row c.args.met c.loop-k.k (c.loop-k.invariant ns) (c.lacks.ensures ns c.if-lacks.false)

pub returns : goal.returns
returns c = λ h ns i l. c.loop-k.invariant ns i (omega (arith, c.loop-k-test.false, c.count_of-count.ensures ns))
