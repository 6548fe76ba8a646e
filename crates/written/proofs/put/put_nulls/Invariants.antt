use Prim.Native.Nat.{◌≤◌, ◌-◌}
use mathlib.Core.Path.{◌≡◌}
use lib.ListN.{length}
use Rattle.written.specs.Text.{Puts, nulls}
use Rattle.written.proofs.put.put_nulls.Given as goal

abbrev pub invariant-loop-j : goal.invariant-loop-j
invariant-loop-j l = (length l.text ≡ length l.initial.text) × (l.j - l.n ≤ l.i - l.n) × Puts (nulls l.n (l.j - l.n)) l.k l.initial.text l.text l.p
