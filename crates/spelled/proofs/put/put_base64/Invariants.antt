use Prim.Native.Nat.{◌*◌}
use mathlib.Core.Path.{◌≡◌}
use lib.ListN.{length, take, drop}
use Rattle.jer.specs.Octets.{unbase64}
use Rattle.spelled.proofs.PutLaws.{Storing}
use Rattle.spelled.proofs.put.put_base64.Given as goal

abbrev pub invariant-loop-g : goal.invariant-loop-g
invariant-loop-g l = Storing unbase64 (take l.n (drop l.p l.s)) l.pool l.initial.pool l.o (l.g * 4) (l.g * 3) × (length l.pool ≡ length l.initial.pool)
