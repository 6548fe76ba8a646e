use Rattle.octets.proofs.EscapeLaws.{counting-start, counting_more, counting-done}
use Rattle.octets.proofs.escape.escapes_len.Goals as goal

pub loop-b-init : goal.loop-b-init
loop-b-init c = counting-start c.args.octets.now

pub loop-b-preserved : goal.loop-b-preserved
loop-b-preserved c = counting_more c.args.octets.now c.loop-b.b-index c.loop-b.n c.loop-b.invariant c.loop-b-test.true c.escaped_len.result c.add-n.result c.escaped_len.ensures c.add-n.ensures

pub returns : goal.returns
returns c = counting-done c.args.octets.now c.loop-b.b-index c.loop-b.n c.loop-b.invariant c.loop-b-test.false
