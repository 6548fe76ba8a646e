use Rattle.jer.specs.Table.{extensible}
use Rattle.types.proofs.row.Row.extensible.Goals as goal

pub returns : goal.returns
unfolding extensible
returns c = c.marked.ensures
