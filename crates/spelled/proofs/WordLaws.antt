-- The number that four bytes make, and the literals of the grammar by their words.
use Prim.Native.Nat.{ℕ, ◌+◌, ◌<◌, ◌≤◌}
use mathlib.Core.Path.{◌≡◌, refl, sym, ap, ◌∙◌}
use mathlib.Core.List.{List, [], ◌∷◌}
use mathlib.Core.Bool.{true, false}
use native.Mathlib.Omega.{arith}
use lib.ListN.{length, take, drop}
use Rattle.std.proofs.lemmas.List.{take-append-drop, drop-drop}
use Rattle.json_text.specs.Tree.{jnull, jbool}
use Rattle.json_text.specs.Grammar.{Value, literal_null, literal_true, literal_false}
use Rattle.jer.specs.Table.{same_bytes}
use Rattle.jer.proofs.ValidLaws.{same_bytes-eq}
use Rattle.tokens.proofs.TiePlace.{past-length}
use Rattle.spelled.specs.Stretch.{Stretch, Spells}
use Rattle.spelled.specs.Bytes.{four_of}
use Rattle.spelled.proofs.StretchLaws.{stretch_as}

-- four bytes are told by their number
pub record Told (a b c d i j k l : ℕ) : Type 0 where
  pub first : a ≡ i
  pub second : b ≡ j
  pub third : c ≡ k
  pub fourth : d ≡ l

pub told : (a b c d i j k l : ℕ) → (a < 256) × (b < 256) × (c < 256) × (d < 256) → (i < 256) × (j < 256) × (k < 256) × (l < 256) → four_of a b c d ≡ four_of i j k l → Told a b c d i j k l
told a b c d i j k l h g e = record { first = omega arith; second = omega arith; third = omega arith; fourth = omega arith }

-- ---- a word

pub word-here : (s : List ℕ) (p : ℕ) (word : List ℕ) → p + length word ≤ length s → same_bytes word (take (length word) (drop p s)) ≡ true → Stretch (Spells word) s p (p + length word)
word-here s p word l e =
    let f = same_bytes-eq word (take (length word) (drop p s)) e in
    record { bytes = word; holds = refl; text = sym (take-append-drop (length word) (drop p s)) ∙ rw (← f, drop-drop); end = past-length p word }

module _ {s : List ℕ} {p q : ℕ} where
  pub null-here : Stretch (Spells (0x6E ∷ 0x75 ∷ 0x6C ∷ 0x6C ∷ [])) s p q → (d : ℕ) → Stretch (Value d p (jnull p)) s p q
  null-here k d = stretch_as (Spells (0x6E ∷ 0x75 ∷ 0x6C ∷ 0x6C ∷ [])) (Value d p (jnull p)) s p q (λ xs h. rw h literal_null) k

  pub true-here : Stretch (Spells (0x74 ∷ 0x72 ∷ 0x75 ∷ 0x65 ∷ [])) s p q → (d : ℕ) → Stretch (Value d p (jbool p true)) s p q
  true-here k d = stretch_as (Spells (0x74 ∷ 0x72 ∷ 0x75 ∷ 0x65 ∷ [])) (Value d p (jbool p true)) s p q (λ xs h. rw h literal_true) k

  pub false-here : Stretch (Spells (0x66 ∷ 0x61 ∷ 0x6C ∷ 0x73 ∷ 0x65 ∷ [])) s p q → (d : ℕ) → Stretch (Value d p (jbool p false)) s p q
  false-here k d = stretch_as (Spells (0x66 ∷ 0x61 ∷ 0x6C ∷ 0x73 ∷ 0x65 ∷ [])) (Value d p (jbool p false)) s p q (λ xs h. rw h literal_false) k

-- a word with a byte goes ahead
pub spells-ahead : {s word : List ℕ} {p q : ℕ} → Stretch (Spells word) s p q → 0 < length word → p < q
spells-ahead {s} {word} {p} {q} k l = omega (arith, past-length p k.bytes, k.end, ap (length {A = ℕ}) k.holds)
