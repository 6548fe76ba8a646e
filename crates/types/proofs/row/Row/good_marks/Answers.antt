use Rattle.types.proofs.RowLaws.{marks-among}
use Rattle.types.proofs.row.Row.good_marks.Goals as goal

pub returns : goal.returns
returns c = λ t r e p. marks-among t r e p
