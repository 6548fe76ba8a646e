use Rattle.jer.specs.Table.{root_of}
use Rattle.types.proofs.row.root_of.Goals as goal

pub returns : goal.returns
unfolding root_of
returns c = c.field.ensures
