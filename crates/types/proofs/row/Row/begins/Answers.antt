use Rattle.types.proofs.RowLaws.{begins-marked, begins-plain}
use Rattle.types.proofs.row.Row.begins.Goals as goal

pub returns-then-marked : goal.returns-then-marked
returns-then-marked c = λ t r e. begins-marked t r e c.carries-c.ensures (c.marked.ensures t r e) c.if-marked.true

pub returns-else-marked : goal.returns-else-marked
returns-else-marked c = λ t r e. begins-plain t r e c.carries-c.ensures (c.marked.ensures t r e) c.if-marked.false
