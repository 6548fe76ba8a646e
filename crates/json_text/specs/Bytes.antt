-- Tests on one byte, written as tables of ranges.
use Rattle.std.specs.Prelude.{ℕ, suc, ◌≤◌, List, [], ◌∷◌, true, false, ◌&&◌, leb}

-- from lo to hi
abbrev pub In : ℕ → ℕ → ℕ → Type 0
In lo hi b = (lo ≤ b) × (b ≤ hi)

-- the bytes from lo to hi lead there
pub data Row (A : Type 0) : Type 0 where
  on : ℕ → ℕ → (ℕ → A) → Row A

-- the first row that has the byte says what follows; else d
unfoldable pub pick : {A : Type 0} → ℕ → List (Row A) → A → A
pick b [] d = d
pick b (on lo hi f ∷ rs) d = elim (leb lo b && leb b hi) [ true ↦ f b | false ↦ pick b rs d ]

-- the place after some bytes
unfoldable pub past : ℕ → List ℕ → ℕ
past p [] = p
past p (b ∷ bs) = past (suc p) bs
