-- What the first byte of a value tells: its token, whether it is null, and whether it is a word.
use Rattle.jer.specs.declared.Token.{Token}
use Rattle.jer.specs.declared.Token.TheVariants as tok
use Prim.Native.Nat.{ℕ, zero, suc}
use mathlib.Core.Path.{◌≡◌, refl, sym, ◌∙◌}
use mathlib.Core.List.{List, [], ◌∷◌}
use mathlib.Core.Bool.{Bool, true, false}
use native.Mathlib.Omega.{arith}
use borrow.Author.Tests.{ne_eqb}
use lib.Dec.{eqb}
use Rattle.json_text.specs.Bytes.{In, Row, on, pick}
use Rattle.json_text.specs.Tree.{Json, jnull, jbool, jint, jreal, jstr, jarr, jobj}
use Rattle.json_text.proofs.Feed.{in-true, pick-none}
use Rattle.jer.specs.Read.{null?}
use Rattle.tokens.specs.Places.{byte_at}
use Rattle.tokens.specs.Skip.{is_opening, past_word, past_with, past_value}
use Rattle.tokens.specs.Numbers.{is_digit}
use Rattle.tokens.proofs.TieFirst.{FirstByte, of_null, of_true, of_false, of_minus, of_digit, of_real_minus, of_real_digit, of_string, of_array, of_object, differs}
use Rattle.places.specs.ByPlaces.{token_at, is_null_at}
use Rattle.places.proofs.MeaningStands.{Stands, stands_byte, stands-passed}

-- ---- its token

abbrev pub token_for : Json → Token
token_for (jnull p) = tok.Null
token_for (jbool p b) = tok.Boolean
token_for (jint p m n) = tok.Number
token_for (jreal p) = tok.Number
token_for (jstr p s) = tok.String
token_for (jarr p is) = tok.Array
token_for (jobj p ms) = tok.Object

abbrev pub token_rows : List (Row Token)
token_rows =
    on 0x22 0x22 (λ b. tok.String) ∷ on 0x5B 0x5B (λ b. tok.Array) ∷ on 0x66 0x66 (λ b. tok.Boolean) ∷ on 0x6E 0x6E (λ b. tok.Null) ∷ on 0x74 0x74 (λ b. tok.Boolean) ∷ on 0x7B 0x7B (λ b. tok.Object) ∷ []

pub byte_token : {j : Json} {b : ℕ} → FirstByte j b → pick b token_rows tok.Number ≡ token_for j
unfolding pick
byte_token of_null = refl
byte_token of_true = refl
byte_token of_false = refl
byte_token of_minus = refl
byte_token (of_digit {b = b} h) = pick-none b token_rows tok.Number (omega arith)
byte_token of_real_minus = refl
byte_token (of_real_digit {b = b} h) = pick-none b token_rows tok.Number (omega arith)
byte_token of_string = refl
byte_token of_array = refl
byte_token of_object = refl

pub token-at : {d p q : ℕ} {j : Json} {s : List ℕ} → Stands d s j p q → token_at s p ≡ token_for j
unfolding token_at
token-at k = byte_token (stands_byte k)

-- ---- null

digit-not-null : {b : ℕ} → In 0x30 0x39 b → eqb b 0x6E ≡ false
digit-not-null {b} h = ne_eqb b 0x6E (λ e. omega arith)

pub null_byte : {j : Json} {b : ℕ} → FirstByte j b → eqb b 0x6E ≡ null? j
unfolding null?
null_byte of_null = refl
null_byte of_true = refl
null_byte of_false = refl
null_byte of_minus = refl
null_byte (of_digit h) = digit-not-null h
null_byte of_real_minus = refl
null_byte (of_real_digit h) = digit-not-null h
null_byte of_string = refl
null_byte of_array = refl
null_byte of_object = refl

pub null-at : {d p q : ℕ} {j : Json} {s : List ℕ} → Stands d s j p q → is_null_at s p ≡ null? j
unfolding is_null_at
null-at k = null_byte (stands_byte k)

-- ---- words: null, a boolean or a number

abbrev pub is_word : Json → Bool
is_word (jnull p) = true
is_word (jbool p b) = true
is_word (jint p m n) = true
is_word (jreal p) = true
is_word (jstr p s) = false
is_word (jarr p is) = false
is_word (jobj p ms) = false

digit-word : {b : ℕ} → In 0x30 0x39 b → (eqb b 0x22 ≡ false) × (is_opening b ≡ false)
digit-word {b} h = (other 0x22 refl, rw (other 0x5B refl, other 0x7B refl))
  where
    other : (c : ℕ) → is_digit c ≡ false → eqb b c ≡ false
    other c g = differs is_digit b c (in-true 0x30 0x39 b h) g

byte_word : {j : Json} {b : ℕ} → FirstByte j b → is_word j ≡ true → (eqb b 0x22 ≡ false) × (is_opening b ≡ false)
byte_word of_null w = (refl, refl)
byte_word of_true w = (refl, refl)
byte_word of_false w = (refl, refl)
byte_word of_minus w = (refl, refl)
byte_word (of_digit h) w = digit-word h
byte_word of_real_minus w = (refl, refl)
byte_word (of_real_digit h) w = digit-word h
byte_word of_string w = (sym w, refl)
byte_word of_array w = (refl, sym w)
byte_word of_object w = (refl, sym w)

word-passed : (d : ℕ) (s : List ℕ) (p : ℕ) → (eqb (byte_at s p) 0x22 ≡ false) × (is_opening (byte_at s p) ≡ false) → past_value d s p ≡ past_word s p
unfolding past_value past_with
word-passed zero s p w = rw (w.0, past_with, w.1)
word-passed (suc d) s p w = rw (w.0, past_with, w.1)

pub word_end : {d p q : ℕ} {j : Json} {s : List ℕ} → Stands d s j p q → is_word j ≡ true → past_word s p ≡ q
word_end {d} {p} {s = s} k w = sym (word-passed d s p (byte_word (stands_byte k) w)) ∙ stands-passed k

null_word : (j : Json) → null? j ≡ true → is_word j ≡ true
unfolding null?
null_word (jnull p) h = h
null_word (jbool p b) h = refl
null_word (jint p m n) h = refl
null_word (jreal p) h = refl
null_word (jstr p s) h = h
null_word (jarr p is) h = h
null_word (jobj p ms) h = h

pub null-end : {d p q : ℕ} {j : Json} {s : List ℕ} → Stands d s j p q → null? j ≡ true → past_word s p ≡ q
null-end {j = j} k h = word_end k (null_word j h)
