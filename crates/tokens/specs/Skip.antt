-- Past a value, by places.
-- 01, Reading: "A member that the table does not know is skipped, value and all its nesting, if the sequence is extensible."
use Rattle.std.specs.Prelude.{ℕ, zero, suc, ◌+◌, List, Bool, true, false, ◌||◌, not, eqb, length}
use Rattle.tokens.specs.Places.{byte_at, is_space, run_from}
use Rattle.tokens.specs.Strings.{string_end}

-- what ends a number or a literal, and what stands between values
abbrev pub is_end : ℕ → Bool
is_end b = is_space b || (eqb b 0x2C || (eqb b 0x5D || eqb b 0x7D))

abbrev pub is_between : ℕ → Bool
is_between b = is_space b || (eqb b 0x2C || eqb b 0x3A)

abbrev pub is_opening : ℕ → Bool
is_opening b = eqb b 0x5B || eqb b 0x7B

abbrev pub is_closing : ℕ → Bool
is_closing b = eqb b 0x5D || eqb b 0x7D

-- past a number or a literal
unfoldable pub past_word : List ℕ → ℕ → ℕ
past_word s p = run_from (λ b. not (is_end b)) s p

-- past commas, colons and white space
unfoldable pub past_between : List ℕ → ℕ → ℕ
past_between s p = run_from is_between s p

-- past the parts of a bracket, given how a value is passed; at most n of them
unfoldable pub parts_past : (ℕ → ℕ) → List ℕ → ℕ → ℕ → ℕ
parts_past value s zero p = p
parts_past value s (suc n) p =
    elim (eqb (byte_at s (past_between s p)) 256) [
      | true ↦ past_between s p
      | false ↦ elim (is_closing (byte_at s (past_between s p))) [ true ↦ past_between s p + 1 | false ↦ parts_past value s n (value (past_between s p)) ]
    ]

-- past a value that opens a bracket, given how its parts are passed
unfoldable pub past_with : (ℕ → ℕ) → List ℕ → ℕ → ℕ
past_with bracket s p =
    elim (eqb (byte_at s p) 0x22) [
      | true ↦ string_end s (p + 1)
      | false ↦ elim (is_opening (byte_at s p)) [ true ↦ bracket (p + 1) | false ↦ past_word s p ]
    ]

-- past the value at p, in which d brackets may be open; at the 33rd the place is the text's end
unfoldable pub past_value : ℕ → List ℕ → ℕ → ℕ
past_value zero s p = past_with (λ q. length s) s p
past_value (suc d) s p = past_with (λ q. parts_past (λ r. past_value d s r) s (length s) q) s p

-- past a bracket whose parts begin at p, if d brackets may be open with it
unfoldable pub past_bracket : ℕ → List ℕ → ℕ → ℕ
past_bracket zero s p = length s
past_bracket (suc d) s p = parts_past (λ r. past_value d s r) s (length s) p
