-- Bytes that stand for themselves in a string.
use Rattle.std.specs.Prelude.{ℕ, ◌≤◌, ◌<◌, ◌≡◌, List, [], ◌∷◌, length, get_or, take}
use Rattle.std.proofs.lemmas.List.Edits.{sets}
use Rattle.jer.specs.Write.{escaped}

-- a byte that has the mark: with a full stop, or more, it is ASCII
abbrev pub LiteralByte : ℕ → ℕ → Type 0
LiteralByte mark b = (escaped b ≡ b ∷ []) × (0x2E ≤ mark → b ≤ 0x7F)

-- a table of marks, which count from the hyphen on
abbrev pub IsLiteral : List ℕ → Type 0
IsLiteral l = (b mark : ℕ) → b < 256 → 0x2D ≤ mark → mark ≤ get_or l b 0 → LiteralByte mark b

-- the first n bytes of s have the mark, and are put from k on
pub record PutsLiteral (mark : ℕ) (s : List ℕ) (k : ℕ) (before after : List ℕ) (n : ℕ) : Type 0 where
  pub few : n ≤ length s
  pub same : (i : ℕ) → i < n → LiteralByte mark (get_or s i 0)
  pub stands : after ≡ sets before k (take n s)
