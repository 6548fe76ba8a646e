-- Bytes of a slice as one number, the first one lowest.
use Rattle.std.specs.Prelude.{ℕ, ◌+◌, ◌*◌, ◌<◌, ◌≡◌, List, get_or}

-- the number of four bytes
abbrev pub four_of : ℕ → ℕ → ℕ → ℕ → ℕ
four_of a b c d = a + b * 0x100 + c * 0x10000 + d * 0x1000000

-- n is that of the four from p on
pub record FourAt (s : List ℕ) (p n : ℕ) : Type 0 where
  pub sum : n ≡ four_of (get_or s p 0) (get_or s (p + 1) 0) (get_or s (p + 2) 0) (get_or s (p + 3) 0)
  pub bytes : (get_or s p 0 < 256) × (get_or s (p + 1) 0 < 256) × (get_or s (p + 2) 0 < 256) × (get_or s (p + 3) 0 < 256)

-- n is that of the eight from p on, the number of four and four
pub record EightAt (s : List ℕ) (p n : ℕ) : Type 0 where
  pub low : ℕ
  pub high : ℕ
  pub first : FourAt s p low
  pub second : FourAt s (p + 4) high
  pub sum : n ≡ low + high * 0x100000000

-- the n bytes from p on in s are those of x
abbrev pub SameBytes : List ℕ → ℕ → List ℕ → ℕ → Type 0
SameBytes s p x n = (i : ℕ) → i < n → get_or s (p + i) 0 ≡ get_or x i 0
