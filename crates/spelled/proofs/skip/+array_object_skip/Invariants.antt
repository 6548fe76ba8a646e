use Prim.Native.Nat.{◌<◌, ◌+◌, ◌-◌, ◌≤◌}
use lib.ListN.{length}
use Rattle.spelled.proofs.SkipLaws.{Listing, Naming}
use Rattle.spelled.proofs.skip.+array_object_skip.Given as goal

abbrev pub decreases-array : goal.decreases-array
decreases-array l = l.depth + l.depth

abbrev pub decreases-object : goal.decreases-object
decreases-object l = l.depth + l.depth

abbrev pub decreases-skip : goal.decreases-skip
decreases-skip l = l.depth + l.depth + 1

abbrev pub invariant-array-loop-q : goal.invariant-array-loop-q
invariant-array-loop-q l = Listing l.s (l.depth - 1) (l.p + 1) l.at × (l.p < l.at) × (l.at ≤ length l.s)

abbrev pub decreases-array-loop-q : goal.decreases-array-loop-q
decreases-array-loop-q l = length l.s - l.at

abbrev pub invariant-object-loop-v : goal.invariant-object-loop-v
invariant-object-loop-v l = Naming l.s (l.depth - 1) (l.p + 1) l.at × (l.p < l.at) × (l.at ≤ length l.s)

abbrev pub decreases-object-loop-v : goal.decreases-object-loop-v
decreases-object-loop-v l = length l.s - l.at
