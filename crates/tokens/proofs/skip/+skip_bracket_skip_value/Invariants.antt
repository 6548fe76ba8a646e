use Prim.Native.Nat.{◌+◌, ◌-◌}
use lib.ListN.{length}
use Rattle.tokens.proofs.SkipLaws.{Passing}
use Rattle.tokens.proofs.skip.+skip_bracket_skip_value.Given as goal

abbrev pub decreases-skip_bracket : goal.decreases-skip_bracket
decreases-skip_bracket l = l.depth + l.depth

abbrev pub decreases-skip_value : goal.decreases-skip_value
decreases-skip_value l = l.depth + l.depth + 1

abbrev pub invariant-skip_bracket-loop-b : goal.invariant-skip_bracket-loop-b
invariant-skip_bracket-loop-b l = Passing l.depth l.s l.p l.i

abbrev pub decreases-skip_bracket-loop-b : goal.decreases-skip_bracket-loop-b
decreases-skip_bracket-loop-b l = length l.s - l.i
