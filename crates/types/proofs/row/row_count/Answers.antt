use mathlib.Core.Path.{refl}
use Rattle.jer.specs.Table.{row_count}
use Rattle.types.proofs.row.row_count.Goals as goal

pub returns : goal.returns
unfolding row_count
returns c = λ ns. refl
