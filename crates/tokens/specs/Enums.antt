-- What the code's enums and structs stand for.
use Rattle.std.specs.Prelude.{ℕ, ◌^◌, ◌/◌, ◌%◌, ◌<◌, Bool, true, false, not, leb}
use Rattle.std.specs.Prelude.{Option, None, Some}
use Rattle.tokens.specs.declared.cursor.Class.{Class}
use Rattle.tokens.specs.declared.cursor.Class.TheVariants.{Space, Between, Word, Digit}
use Rattle.tokens.specs.declared.numbers.Halves.{Halves}
use Rattle.tokens.specs.Places.{is_space}
use Rattle.tokens.specs.Skip.{is_end, is_between}
use Rattle.tokens.specs.Numbers.{is_digit}
use Rattle.tokens.specs.Strings.{Piece, Close, Bare, Escaped}

-- the test of a class of bytes
abbrev pub passes : Class → ℕ → Bool
passes Space b = is_space b
passes Between b = is_between b
passes Word b = not (is_end b)
passes Digit b = is_digit b

-- a piece whose character's UTF-8 is at most four bytes
abbrev pub Coded : Piece → Type 0
Coded Close = Unit {0}
Coded (Bare b) = Unit {0}
Coded (Escaped x q) = x < 2097152

-- a magnitude that is not above 2^63
abbrev pub within : ℕ → Option ℕ
within m = elim (leb m (2 ^ 63)) [ true ↦ Some m | false ↦ None ]

-- 01, Value table: "INTEGER: a the low and b the high half of its 64-bit two's complement."
abbrev pub split : ℕ → Halves
split n = record { low = n % 2 ^ 32; high = n / 2 ^ 32 }

abbrev pub integer_of : Option ℕ → Option Halves
integer_of None = None
integer_of (Some n) = Some (split n)
