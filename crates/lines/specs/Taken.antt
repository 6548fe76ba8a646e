-- A line of hexadecimal in the code's own shape: digits told apart first, then taken.
use Rattle.std.specs.Prelude.{ℕ, ◌+◌, ◌*◌, ◌/◌, ◌≡◌, refl, List, [], ◌∷◌, Bool, length, get_or, drop}
use Rattle.std.specs.Prelude.{Option, None, Some}
use Rattle.std.proofs.Common.{arith}
use Rattle.std.proofs.lemmas.List.Edits.{sets}
use Rattle.std.specs.List.{list_all}
use Rattle.std.specs.Option.{is_some, unwrap_or}
use Rattle.jer.specs.Octets.{also, hex_value}
use Rattle.jer.specs.Programs.{line_from, line_at, numbers_in}
use Rattle.lines.specs.declared.taken.Taken.{Taken}

-- whether all bytes are hexadecimal digits
abbrev pub is_hex : List ℕ → Bool
is_hex bs = list_all (λ b. is_some (hex_value b)) bs

-- a hexadecimal digit's value, 0 for any other byte
abbrev pub digit_of : ℕ → ℕ
digit_of b = unwrap_or (hex_value b) 0

-- the octets of digits
unfoldable pub octets_of : List ℕ → List ℕ
octets_of [] = []
octets_of (a ∷ []) = []
octets_of (a ∷ b ∷ s) = (digit_of a * 16 + digit_of b) ∷ octets_of s

-- how many octets and numbers there are
pub octets_each : (os : List ℕ) → length os ≡ length os / 1
octets_each os = omega arith

pub numbers_each : (os : List ℕ) → length (numbers_in os) ≡ length os / 4
unfolding numbers_in
numbers_each [] = refl
numbers_each (a ∷ []) = refl
numbers_each (a ∷ b ∷ []) = refl
numbers_each (a ∷ b ∷ c ∷ []) = refl
numbers_each (a ∷ b ∷ c ∷ d ∷ os) = omega (arith, numbers_each os)

-- the octet, and the number, whose digits stand at i
abbrev pub octet_at : List ℕ → ℕ → ℕ
octet_at l i = digit_of (get_or l i 0) * 16 + digit_of (get_or l (i + 1) 0)

abbrev pub number_at : List ℕ → ℕ → ℕ
number_at l i = ((octet_at l i * 256 + octet_at l (i + 2)) * 256 + octet_at l (i + 4)) * 256 + octet_at l (i + 6)

-- the numbers of the next line
unfoldable pub numbers_line : List ℕ → Option (List ℕ)
numbers_line s = also (line_at 4 s) (λ os. Some (numbers_in os))

-- what taking the line at a place answers, and what the buffer holds afterwards
unfoldable pub taken_of : {A : Type 0} → List ℕ → ℕ → Option (List A) → Option Taken
taken_of s at None = None
taken_of s at (Some xs) = Some (record { count = length xs; next = at + length (line_from (drop at s)).bytes + 1 })

unfoldable pub after : {A : Type 0} → List A → Option (List A) → List A
after out None = out
after out (Some xs) = sets out 0 xs
