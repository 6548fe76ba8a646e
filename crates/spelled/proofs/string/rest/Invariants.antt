use Prim.Native.Nat.{◌-◌}
use lib.ListN.{length}
use Rattle.spelled.specs.Leaves.{CharsAt}
use Rattle.spelled.proofs.string.rest.Given as goal

abbrev pub invariant-loop-i : goal.invariant-loop-i
invariant-loop-i l = CharsAt l.s l.p l.i l.n l.escaped

abbrev pub decreases-loop-i : goal.decreases-loop-i
decreases-loop-i l = length l.s - l.i
