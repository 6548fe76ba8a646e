use Prim.Native.Nat.{◌+◌, ◌*◌}
use Rattle.spelled.specs.Stretch.{Stretch, Selves}
use Rattle.spelled.proofs.plain.Flags.run.Given as goal

abbrev pub invariant-loop-k : goal.invariant-loop-k
invariant-loop-k l = Stretch Selves l.s l.p (l.p + l.k * 4)
