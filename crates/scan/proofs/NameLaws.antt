-- The name of a member: its value's place, and its position in the type. Assumes nothing.
use mathlib.Core.Path.{◌≡◌, refl, ap, ◌∙◌}
use mathlib.Core.List.{List}
use mathlib.Core.Bool.{Bool}
use Prim.Native.Nat.{ℕ, ◌+◌, ◌<◌, ◌≤◌}
use native.Mathlib.Omega.{arith}
use lib.ListN.{length, take, drop}
use Rattle.jer.specs.Table.{Table, name_in, name_at, same_bytes, name_start, name_length, table}
use Rattle.types.proofs.RowLaws.{name_in_lem}
use Rattle.tokens.specs.Places.{past_space}
use Rattle.tokens.specs.Strings.{string_end}
use Rattle.tokens.proofs.StringLaws.{end-ahead}
use Rattle.places.specs.ByPlaces.{value_place}
use Rattle.scan.proofs.WithinLaws.{space-ahead, space-within, end-within}

-- ---- the value's place, by the places on the way to it

pub value-place : (s : List ℕ) (q : ℕ) {e c a v : ℕ} → e ≡ string_end s (q + 1) → c ≡ past_space s e → a ≡ c + 1 → v ≡ past_space s a → v ≡ value_place s q
unfolding value_place
value-place s q h₁ h₂ h₃ h₄ = rw (h₄, h₃, h₂, h₁)

pub place-ahead : (s : List ℕ) (q : ℕ) → q < value_place s q
unfolding value_place
place-ahead s q = omega (arith, end-ahead s (q + 1), space-ahead s (string_end s (q + 1)), space-ahead s (past_space s (string_end s (q + 1)) + 1))

-- the colon's place
pub colon-within : (s : List ℕ) (q m : ℕ) → length s < m → q < m → past_space s (string_end s (q + 1)) ≤ m
colon-within s q m l h = space-within s m (string_end s (q + 1)) (omega arith) (end-within s m l (q + 1) (omega arith))

pub place-within : (s : List ℕ) (q m : ℕ) → length s < m → q < m → value_place s q ≤ m + 1
unfolding value_place
place-within s q m l h = space-within s (m + 1) (past_space s (string_end s (q + 1)) + 1) (omega arith) (omega (arith, colon-within s q m l h))

-- ---- the position

-- the name in the row m, compared by its part of the names
pub in-row : (rows names : List ℕ) (m : ℕ) (x : List ℕ) {a n : ℕ} {b : Bool} → a ≡ name_start (table rows names) m → n ≡ name_length (table rows names) m
    → b ≡ same_bytes (take n (drop a names)) x → b ≡ same_bytes (name_in (table rows names) m) x
in-row rows names m x p q e = e ∙ ap (λ (l : List ℕ). same_bytes l x) (name_in_lem rows names m p q refl)

-- the member at i has the name
abbrev pub named : Table → ℕ → List ℕ → ℕ → Bool
named t r x i = same_bytes (name_at t r i) x
