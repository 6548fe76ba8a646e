use Prim.Native.Nat.{◌-◌}
use mathlib.Core.Path.{◌≡◌}
use Rattle.tokens.specs.Strings.{string_end}
use Rattle.tokens.proofs.StringLaws.{Copying}
use Rattle.tokens.proofs.strings.copy.Given as goal

abbrev pub invariant-loop-i : goal.invariant-loop-i
invariant-loop-i l = Copying l.s l.p l.initial.pool l.j l.pool l.i (l.i - l.p) × (string_end l.s l.i ≡ string_end l.s l.p)
