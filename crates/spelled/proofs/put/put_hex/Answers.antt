use native.Mathlib.Omega.{arith}
use Rattle.spelled.proofs.PutLaws.{reads_or, hex-more, hex-end}
use Rattle.jer.specs.Octets.{hex_value}
use lib.ListN.{length-set}
use Rattle.spelled.proofs.put.put_hex.Goals as goal

pub loop-k-preserved : goal.loop-k-preserved
loop-k-preserved c = (hex-more c.args.s.now c.args.p c.args.count c.requires.0 c.loop-k.pool c.args.pool.now c.args.o c.loop-k.k _ _ c.loop-k-test.true (reads_or hex_value _ 0 c.hex_value.ensures.value c.unwrap_or-high.ensures) (reads_or hex_value _ 0 c.hex_value-in-loop-k.ensures.value c.unwrap_or-low.ensures) c.loop-k.invariant.0, simp length-set c.loop-k.invariant.1)

pub returns : goal.returns
returns c = hex-end c.args.s.now c.args.p c.args.count c.requires.0 c.loop-k.pool c.args.pool.now c.args.o c.loop-k.k (omega arith) (omega arith) c.loop-k.invariant.0
