-- The value of a hexadecimal digit of the grammar.
use Prim.Native.Nat.{ℕ}
use mathlib.Core.Path.{◌≡◌}
use Rattle.std.specs.Prelude.{None, Some}
use native.Mathlib.Omega.{arith}
use Rattle.json_text.specs.Grammar.{Hex, digit, upper, lower}
use Rattle.json_text.proofs.Feed.{pick-row}
use Rattle.json_text.proofs.SoundRows.{◌⨾◌}
use Rattle.jer.specs.Octets.{hex_value}

pub hex-of : {x b : ℕ} → Hex x b → hex_value b ≡ Some x
unfolding hex_value
hex-of {b = b} (digit h e) = rw e (pick-row 0 b _ None h)
hex-of {b = b} (upper h e) = rw e (pick-row 1 b _ None ((λ i. omega arith) ⨾ h))
hex-of {b = b} (lower h e) = rw e (pick-row 2 b _ None ((λ i. omega arith) ⨾ (λ i. omega arith) ⨾ h))
