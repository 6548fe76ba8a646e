use Rattle.types.specs.Bytes.{due_of}
use Rattle.types.proofs.ByteLaws.{tail_none, tail_more}
use Rattle.types.proofs.bytes.tail.Goals as goal

pub returns-then-n-eq0 : goal.returns-then-n-eq0
unfolding due_of
returns-then-n-eq0 c = tail_none c.args.n c.if-n-eq0.true

pub returns : goal.returns
unfolding due_of
returns c = tail_more c.args.n c.if-n-eq0.false
