-- The INTEGER at a place.
use Rattle.std.specs.Prelude.{ℕ, zero, suc, ◌+◌, ◌-◌, ◌*◌, ◌^◌, List, Bool, true, false, ◌||◌, ◌&&◌, eqb, leb, ltb}
use Rattle.std.specs.Prelude.{Option, None, Some}
use Rattle.tokens.specs.Places.{byte_at, run_from}

abbrev pub is_digit : ℕ → Bool
is_digit b = leb 0x30 b && leb b 0x39

-- the number of n digits from p on, after the number m
unfoldable pub digits_at : List ℕ → ℕ → ℕ → ℕ → ℕ
digits_at s p zero m = m
digits_at s p (suc n) m = digits_at s (p + 1) n (m * 10 + (byte_at s p - 0x30))

-- the digits from p on
unfoldable pub magnitude_at : List ℕ → ℕ → ℕ
magnitude_at s p = digits_at s p (run_from is_digit s p - p) 0

-- a fraction or an exponent follows the digits from p on
unfoldable pub broken_at : List ℕ → ℕ → Bool
broken_at s p = let b = byte_at s (run_from is_digit s p) in eqb b 0x2E || (eqb b 0x45 || eqb b 0x65)

-- the 64-bit two's complement of the magnitude m, of its negative if minus; none outside the range
-- 01, Reading: "from -2^63 to 2^63-1; -0 is 0"
unfoldable pub complement : Bool → ℕ → Option ℕ
complement false m = elim (ltb m (2 ^ 63)) [ true ↦ Some m | false ↦ None ]
complement true zero = Some 0
complement true (suc m) = elim (leb (suc m) (2 ^ 63)) [ true ↦ Some (2 ^ 64 - suc m) | false ↦ None ]

unfoldable pub whole_at : List ℕ → ℕ → Bool → Option ℕ
whole_at s p minus = elim (broken_at s p) [ true ↦ None | false ↦ complement minus (magnitude_at s p) ]

-- the number at p, from its minus sign or first digit on: its two's complement, or none where refusal 6 is due
unfoldable pub integer_at : List ℕ → ℕ → Option ℕ
integer_at s p = elim (eqb (byte_at s p) 0x2D) [ true ↦ whole_at s (p + 1) true | false ↦ whole_at s p false ]
