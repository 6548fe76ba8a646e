use mathlib.Core.Path.{refl}
use Rattle.spelled.proofs.FlagLaws.{flags-right}
use Rattle.spelled.proofs.plain.Flags.new.Goals as goal

pub invariant_of-result : goal.invariant_of-result
invariant_of-result c = record { right = flags-right _ tt refl }
