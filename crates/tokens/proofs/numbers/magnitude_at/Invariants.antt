use Prim.Native.Nat.{◌-◌, ◌^◌, ◌≤◌}
use mathlib.Core.Path.{◌≡◌}
use Rattle.tokens.specs.Numbers.{digits_at}
use Rattle.tokens.proofs.numbers.magnitude_at.Given as goal

abbrev pub invariant-loop-i : goal.invariant-loop-i
invariant-loop-i l = (digits_at l.s l.i (l.end - l.i) l.m ≡ digits_at l.s l.p (l.end - l.p) 0) × (l.m ≤ 2 ^ 63)
