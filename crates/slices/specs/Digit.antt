-- A hexadecimal digit as a number.
use Rattle.std.specs.Prelude.{ℕ}
use Rattle.std.specs.Option.{unwrap_or}
use Rattle.jer.specs.Octets.{hex_value}

-- a hexadecimal digit's value, 16 for any other number
unfoldable pub digit_of : ℕ → ℕ
digit_of b = unwrap_or (hex_value b) 16
