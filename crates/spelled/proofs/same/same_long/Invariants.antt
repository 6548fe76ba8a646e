use Prim.Native.Nat.{◌*◌}
use Rattle.spelled.specs.Bytes.{SameBytes}
use Rattle.spelled.proofs.same.same_long.Given as goal

abbrev pub invariant-loop-k : goal.invariant-loop-k
invariant-loop-k l = SameBytes l.s l.p l.x (l.k * 8)
