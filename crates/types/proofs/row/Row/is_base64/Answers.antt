use Rattle.jer.specs.Table.{is_base64}
use Rattle.types.proofs.RowLaws.{kind-marked}
use Rattle.types.proofs.row.Row.is_base64.Goals as goal

pub returns : goal.returns
unfolding is_base64
returns c = λ t r e. kind-marked t r 4 1 e (c.marked.ensures t r e)
