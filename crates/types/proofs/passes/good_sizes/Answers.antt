use mathlib.Core.Bool.{and_assoc}
use Rattle.jer.specs.Valid.{good_sizes}
use Rattle.types.proofs.passes.good_sizes.Goals as goal

pub returns : goal.returns
unfolding good_sizes
returns c = simp and_assoc
