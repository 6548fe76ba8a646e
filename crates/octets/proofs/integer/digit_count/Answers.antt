use native.Mathlib.Omega.{arith}
use Rattle.octets.proofs.IntegerLaws.{counting-start, counting_more, counting-few, counting-done}
use Rattle.octets.proofs.integer.digit_count.Goals as goal

pub loop-m-init : goal.loop-m-init
loop-m-init c = counting-start c.args.n c.ranges.n.fits

pub overflow_add-count : goal.overflow_add-count
overflow_add-count c = omega (arith, counting-few c.loop-m.invariant)

pub loop-m-preserved : goal.loop-m-preserved
loop-m-preserved c = counting_more c.loop-m.invariant c.loop-m-test.true

pub returns-clause-value : goal.returns-clause-value
returns-clause-value c = (counting-done c.loop-m.invariant c.loop-m-test.false).0

pub returns-clause-lower_bound : goal.returns-clause-lower_bound
returns-clause-lower_bound c = (counting-done c.loop-m.invariant c.loop-m-test.false).1
