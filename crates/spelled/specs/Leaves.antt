-- What the readers of leaves have found.
use Rattle.std.specs.Prelude.{ℕ, ◌+◌, ◌/◌, ◌%◌, ◌^◌, ◌<◌, ◌≤◌, ◌≡◌, Bool, false, List, ◌∷◌, length, get_or, take, drop}
use Rattle.json_text.specs.Grammar.{Signed, Four, Escape, Quoted, Char, Chars}
use Rattle.jer.specs.Value.{v_int}
use Rattle.jer.specs.Answer.{ok}
use Rattle.jer.specs.Read.{read_int}
use Rattle.spelled.specs.Stretch.{Stretch, Passed}

-- from p to q stands a number that is an INTEGER with these halves
pub record IntegerAt (s : List ℕ) (p q low high : ℕ) : Type 0 where
  pub minus : Bool
  pub magnitude : ℕ
  pub number : ℕ
  pub passed : Passed (Signed minus magnitude) s p q
  pub reads : read_int p minus magnitude ≡ ok (v_int number)
  pub lower : low ≡ number % 2 ^ 32
  pub upper : high ≡ number / 2 ^ 32

-- ---- strings

-- a byte that stands for itself in a string, and is a character
abbrev pub SelfByte : ℕ → Type 0
SelfByte b = (0x20 ≤ b) × (b ≤ 0x7F) × (b ≡ 0x22 → ⊥) × (b ≡ 0x5C → ⊥)

-- the table has 0 for such bytes alone
pub record IsFlags (f : List ℕ) : Type 0 where
  pub self : (b : ℕ) → b < 256 → get_or f b 0 ≡ 0 → SelfByte b

-- a letter that may follow a backslash
pub record Letter (b : ℕ) : Type 0 where
  pub char : ℕ
  pub escape : Escape char b

-- the escape of the unit x by four digits
pub data Coded : ℕ → List ℕ → Type 0 where
  coded : {x : ℕ} {bs : List ℕ} → Four x bs → Coded x (0x5C ∷ 0x75 ∷ bs)

-- from p to q stands a character of `count` bytes; if it is not escaped, they are those that stand there
pub record CharAt (s : List ℕ) (p q count : ℕ) (escaped : Bool) : Type 0 where
  pub chars : List ℕ
  pub stretch : Stretch (Char chars) s p q
  pub size : count ≡ length chars
  pub few : p + count ≤ q
  pub plain : escaped ≡ false → stretch.bytes ≡ chars

-- the same of characters one after another
pub record CharsAt (s : List ℕ) (p q count : ℕ) (escaped : Bool) : Type 0 where
  pub chars : List ℕ
  pub stretch : Stretch (Chars chars) s p q
  pub size : count ≡ length chars
  pub few : p + count ≤ q
  pub plain : escaped ≡ false → stretch.bytes ≡ chars

-- from p to q stands a string that denotes `count` bytes; if none is escaped, those between the quotation marks
pub record StringAt (s : List ℕ) (p q count : ℕ) (escaped : Bool) : Type 0 where
  pub chars : List ℕ
  pub passed : Passed (Quoted chars) s p q
  pub size : count ≡ length chars
  pub few : p + count + 2 ≤ q
  pub plain : escaped ≡ false → (chars ≡ take count (drop (p + 1) s)) × (p + count + 2 ≡ q)
