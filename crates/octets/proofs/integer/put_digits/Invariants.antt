use Prim.Native.Nat.{◌-◌}
use Rattle.octets.proofs.IntegerLaws.{PuttingDigits}
use Rattle.octets.proofs.integer.put_digits.Given as goal

abbrev pub invariant-loop-j : goal.invariant-loop-j
invariant-loop-j l = PuttingDigits l.n l.m l.initial.text l.text l.k (l.count - l.j)
