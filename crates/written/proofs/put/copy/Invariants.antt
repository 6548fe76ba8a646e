use Prim.Native.Nat.{◌+◌}
use mathlib.Core.Path.{◌≡◌}
use lib.ListN.{length, drop}
use lib.Seq.{sets}
use Rattle.written.proofs.put.copy.Given as goal

abbrev pub invariant-loop-j : goal.invariant-loop-j
invariant-loop-j l = (sets l.text (l.k + l.j) (drop l.j l.s) ≡ sets l.initial.text l.k l.s) × (length l.text ≡ length l.initial.text)
