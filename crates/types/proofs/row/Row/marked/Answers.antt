use mathlib.Core.Path.{ap}
use Prim.Native.Nat.{◌/◌, ◌%◌}
use lib.Dec.{eqb}
use Rattle.jer.specs.Table.{marked}
use Rattle.types.specs.declared.row.Row.{Row}
use Rattle.types.proofs.row.Row.marked.Goals as goal

pub returns : goal.returns
unfolding marked
returns c = λ t r e. ap (λ (w : Row). eqb (w.marks / c.args.mark % 2) 1) e
