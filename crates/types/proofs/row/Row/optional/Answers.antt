use mathlib.Core.Path.{ap}
use lib.Dec.{eqb}
use Rattle.jer.specs.Table.{optional, marks_of}
use Rattle.types.specs.declared.row.Row.{Row}
use Rattle.types.proofs.row.Row.optional.Goals as goal

pub returns : goal.returns
unfolding optional marks_of
returns c = λ t r i e. ap (λ (w : Row). eqb w.marks 1) e
