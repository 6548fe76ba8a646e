-- What stands in a text from one place up to another, by the relations of the grammar.
use Rattle.std.specs.Prelude.{ℕ, ◌-◌, ◌+◌, ◌<◌, ◌≤◌, ◌≡◌, List, [], ◌∷◌, ◌++◌, length, drop}
use Rattle.json_text.specs.Bytes.{past}
use Rattle.json_text.specs.Tree.{Json}
use Rattle.json_text.specs.Grammar.{Space, Value, Name, Chars}

-- the bytes from p up to q are of R
pub record Stretch (R : List ℕ → Type 0) (s : List ℕ) (p q : ℕ) : Type 0 where
  pub bytes : List ℕ
  pub holds : R bytes
  pub text : drop p s ≡ bytes ++ drop q s
  pub end : past p bytes ≡ q

-- so they are, one or more, and they end inside the text
pub record Passed (R : List ℕ → Type 0) (s : List ℕ) (p q : ℕ) : Type 0 where
  pub stretch : Stretch R s p q
  pub ahead : p < q
  pub inside : q ≤ length s

-- none or more, and they end inside the text if p is inside
abbrev pub Within : List ℕ → ℕ → ℕ → Type 0
Within s p q = (p ≤ q) × (q ≤ p + (length s - p))

-- a byte of white space
abbrev pub Blank : ℕ → Type 0
Blank b = Space (b ∷ [])

-- these bytes
abbrev pub Spells : List ℕ → List ℕ → Type 0
Spells word bs = bs ≡ word

-- characters that stand for themselves
abbrev pub Selves : List ℕ → Type 0
Selves bs = Chars bs bs

-- a JSON value of at most d open brackets
pub record ValueAt (d : ℕ) (s : List ℕ) (p q : ℕ) : Type 0 where
  pub tree : Json
  pub passed : Passed (Value d p tree) s p q

-- a name at q with its colon, and white space before it from o on
pub record NameAt (s : List ℕ) (o q r : ℕ) : Type 0 where
  pub chars : List ℕ
  pub stretch : Stretch (Name o q r chars) s o r
