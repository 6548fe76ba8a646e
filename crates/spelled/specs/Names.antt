-- The member of a type that has a name.
use Rattle.std.specs.Prelude.{ℕ, ◌+◌, ◌<◌, ◌≤◌, ◌≡◌, true, false, List, length, take, drop}
use Rattle.std.specs.Prelude.{Option, None, Some}
use Rattle.jer.specs.Table.{Table, first_of, count_of, name_at, name_in, same_bytes, position}

-- the name in the row m is none of n bytes
abbrev pub Unlike : Table → ℕ → ℕ → Type 0
Unlike t m n = (s : List ℕ) (p : ℕ) → p + n ≤ length s → same_bytes (name_in t m) (take n (drop p s)) ≡ false

-- o is the first position of the name x among the `count` members from the row `first` on
abbrev pub Among : Table → ℕ → ℕ → List ℕ → Option ℕ → Type 0
Among t first count x None = (i : ℕ) → i < count → same_bytes (name_in t (first + i)) x ≡ false
Among t first count x (Some k) = (k < count) × ((i : ℕ) → i < k → same_bytes (name_in t (first + i)) x ≡ false) × (same_bytes (name_in t (first + k)) x ≡ true)

-- the names of the type's members differ: `differ` of a sane table says so
abbrev pub Distinct : Table → ℕ → Type 0
Distinct t r = (i j : ℕ) → i < j → j < count_of t r → same_bytes (name_at t r i) (name_at t r j) ≡ false

-- o is its position in each type that has these members, if their names differ
abbrev pub FoundAmong : Table → ℕ → ℕ → List ℕ → Option ℕ → Type 0
FoundAmong t first count x o = (r : ℕ) → first ≡ first_of t r → count ≡ count_of t r → Distinct t r → position t r x ≡ o
