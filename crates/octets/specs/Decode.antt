-- What the answers of decoding stand for.
use Rattle.std.specs.Prelude.{ℕ, ◌<◌, ◌≤◌, ◌≡◌, List, [], ◌∷◌, ◌++◌, ltb, length, take}
use Rattle.std.specs.Prelude.{Option, None, Some}
use Rattle.std.proofs.lemmas.List.Edits.{sets}
use Rattle.jer.specs.Octets.{also, only_if, base64_value, unbase64}
use Rattle.tokens.specs.Strings.{denoted}
use Rattle.octets.specs.declared.decode.Next.{Next}
use Rattle.octets.specs.declared.decode.Next.TheVariants as next
use Rattle.octets.specs.declared.decode.Group.{Group}
use Rattle.octets.specs.declared.decode.Group.TheVariants as group

-- the octets stand in the pool from j on, and the rest is as it was; of a string that has none nothing is said
abbrev pub Stored : List ℕ → List ℕ → ℕ → Option (List ℕ) → Type 0
Stored after before j None = Unit {0}
Stored after before j (Some os) = after ≡ sets before j os

-- ---- one character

-- a character of one byte is its own value
unfoldable pub ascii_value : ℕ → Option ℕ
ascii_value c = only_if (ltb c 0x80) c

-- at i a string has a character of the value x, and goes on at q
pub record Digit (value : ℕ → Option ℕ) (s : List ℕ) (i x q : ℕ) : Type 0 where
  pub char : ℕ
  pub here : denoted s i ≡ char ∷ denoted s q
  pub is : value char ≡ Some x
  pub inside : i < length s
  pub ahead : i < q

-- at i a string has a character that has no value
pub record NoDigit (value : ℕ → Option ℕ) (s : List ℕ) (i : ℕ) : Type 0 where
  pub char : ℕ
  pub rest : List ℕ
  pub here : denoted s i ≡ char ∷ rest
  pub is : value char ≡ None

-- the character at i, by its value
abbrev pub Reads : (ℕ → Option ℕ) → List ℕ → ℕ → Next → Type 0
Reads value s i next.End = denoted s i ≡ []
Reads value s i (next.Is x q) = Digit value s i x q
Reads value s i next.Other = NoDigit value s i

-- ---- one group

-- some octets and those that follow them
unfoldable pub followed : List ℕ → Option (List ℕ) → Option (List ℕ)
followed xs rest = also rest (λ os. Some (xs ++ os))

-- a group of octets stands before those that follow it at q
pub record Grouped (octets : List ℕ → Option (List ℕ)) (s : List ℕ) (whole : Option (List ℕ)) (i x y z n q : ℕ) : Type 0 where
  pub here : whole ≡ followed (take n (x ∷ y ∷ z ∷ [])) (octets (denoted s q))
  pub few : n ≤ 3
  pub inside : i < length s
  pub ahead : i < q

-- the octets `whole`, whose last characters stand at i, by their first group
abbrev pub First : (List ℕ → Option (List ℕ)) → List ℕ → Option (List ℕ) → ℕ → Group → Type 0
First octets s whole i group.End = whole ≡ Some []
First octets s whole i (group.Octets x y z n q) = Grouped octets s whole i x y z n q
First octets s whole i group.Other = whole ≡ None

-- at i
abbrev pub Groups : (List ℕ → Option (List ℕ)) → List ℕ → ℕ → Group → Type 0
Groups octets s i r = First octets s (octets (denoted s i)) i r

-- at i, after the Base64 digits of x and y
abbrev pub Tail : List ℕ → ℕ → ℕ → ℕ → Group → Type 0
Tail s i x y r = (a b : ℕ) → base64_value a ≡ Some x → base64_value b ≡ Some y → First unbase64 s (unbase64 (a ∷ b ∷ denoted s i)) i r
