use Prim.Native.Nat.{ℕ, ◌<◌}
use mathlib.Core.Path.{◌≡◌}
use mathlib.Core.Bool.{true, false}
use mathlib.Core.List.{List}
use Rattle.jer.specs.Table.{may_miss, table}
use Rattle.places.specs.ByPlaces.{bit_of}
use Rattle.quick.proofs.member.complete.Given as goal

abbrev pub invariant-loop-k : goal.invariant-loop-k
invariant-loop-k l = (ns : List ℕ) (i : ℕ) → i < l.k → bit_of l.met i ≡ false → may_miss (table l.types ns) l.row i ≡ true
