use Rattle.jer.specs.Table.{is_array}
use Rattle.types.proofs.RowLaws.{kind-marked}
use Rattle.types.proofs.row.Row.is_array.Goals as goal

pub returns : goal.returns
unfolding is_array
returns c = λ t r e. kind-marked t r 6 1 e (c.marked.ensures t r e)
