use Rattle.jer.specs.Table.{count_of}
use Rattle.types.proofs.row.count_of.Goals as goal

pub returns : goal.returns
unfolding count_of
returns c = c.field.ensures
