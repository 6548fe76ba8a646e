use Prim.Native.Nat.{◌*◌}
use mathlib.Core.Path.{◌≡◌}
use lib.ListN.{length, take, drop}
use Rattle.jer.specs.Octets.{unhex}
use Rattle.spelled.proofs.PutLaws.{Storing}
use Rattle.spelled.proofs.put.put_hex.Given as goal

abbrev pub invariant-loop-k : goal.invariant-loop-k
invariant-loop-k l = Storing unhex (take (l.count * 2) (drop l.p l.s)) l.pool l.initial.pool l.o (l.k * 2) l.k × (length l.pool ≡ length l.initial.pool)
