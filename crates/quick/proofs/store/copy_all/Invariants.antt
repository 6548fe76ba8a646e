use Prim.Native.Nat.{◌+◌}
use mathlib.Core.Path.{◌≡◌}
use lib.ListN.{length, drop}
use lib.Seq.{sets}
use Rattle.quick.proofs.store.copy_all.Given as goal

abbrev pub invariant-loop-j : goal.invariant-loop-j
invariant-loop-j l = (sets l.pool (l.offset + l.j) (drop l.j l.x) ≡ sets l.initial.pool l.offset l.x) × (length l.pool ≡ length l.initial.pool)
