use Rattle.jer.specs.Table.{is_unwrapped}
use Rattle.types.proofs.RowLaws.{kind-marked}
use Rattle.types.proofs.row.Row.is_unwrapped.Goals as goal

pub returns : goal.returns
unfolding is_unwrapped
returns c = λ t r e. kind-marked t r 8 1 e (c.marked.ensures t r e)
