-- Characters and digits of a string.
use mathlib.Core.Path.{◌≡◌, refl, ap, ◌∙◌}
use mathlib.Core.List.{List, [], ◌∷◌, ◌++◌}
use mathlib.Core.Bool.{Bool, true, false}
use Rattle.std.specs.Prelude.{Option, None, Some}
use Prim.Native.Nat.{ℕ, ◌+◌, ◌-◌, ◌<◌, ◌≤◌}
use native.Mathlib.Omega.{arith}
use borrow.Author.Tests.{lt-ltb, le-ltb, ltb-false}
use lib.Dec.{ltb}
use Rattle.json_text.specs.Utf8.{encode}
use Rattle.json_text.proofs.Feed.{pick-none}
use Rattle.json_text.proofs.SoundRows.{pick-within, ◌⨾◌}
use Rattle.jer.specs.Octets.{only_if, hex_value, base64_value}
use Rattle.tokens.specs.declared.strings.Piece.TheVariants.{Bare, Escaped}
use Rattle.tokens.specs.Strings.{piece_at, denoted}
use Rattle.tokens.proofs.StringLaws.{bare-inside, escaped-inside, denoted-bare, denoted-escaped}
use Rattle.octets.specs.Decode.{ascii_value, Digit, NoDigit}

-- ---- a character of a string, by its piece

-- the bytes of a character from U+0080 on are 0x80 or more
encode-wide : (x : ℕ) → 0x80 ≤ x → (b : ℕ) × (bs : List ℕ) × (encode x ≡ b ∷ bs) × (0x80 ≤ b)
unfolding encode
encode-wide x h = go (ltb x 0x800) (ltb x 0x10000) refl refl
  where
    go : (t u : Bool) → ltb x 0x800 ≡ t → ltb x 0x10000 ≡ u → (b : ℕ) × (bs : List ℕ) × (encode x ≡ b ∷ bs) × (0x80 ≤ b)
    go true u e f = rw (le-ltb x 0x80 h, encode) (rw e (_, _, refl, omega arith))
    go false true e f = rw (le-ltb x 0x80 h, encode) (rw e (rw f (_, _, refl, omega arith)))
    go false false e f = rw (le-ltb x 0x80 h, encode) (rw e (rw f (_, _, refl, omega arith)))

encode_ascii : (x : ℕ) → x < 0x80 → encode x ≡ x ∷ []
unfolding encode
encode_ascii x h = rw (lt-ltb x 0x80 h, encode)

ascii : (x : ℕ) → x < 0x80 → ascii_value x ≡ Some x
unfolding ascii_value only_if
ascii x h = rw (lt-ltb x 0x80 h)

wide : (x : ℕ) → 0x80 ≤ x → ascii_value x ≡ None
unfolding ascii_value only_if
wide x h = rw (le-ltb x 0x80 h)

module _ {s : List ℕ} {i : ℕ} where
  pub char-bare : {b : ℕ} → Bare b ≡ piece_at s i → b < 0x80 → Digit ascii_value s i b (i + 1)
  char-bare {b} e h = record { char = b; here = denoted-bare s i b e; is = ascii b h; inside = bare-inside s i e; ahead = omega arith }

  pub char-wide : {b : ℕ} → Bare b ≡ piece_at s i → 0x80 ≤ b → NoDigit ascii_value s i
  char-wide {b} e h = record { char = b; rest = denoted s (i + 1); here = denoted-bare s i b e; is = wide b h }

  module _ {x q : ℕ} (e : Escaped x q ≡ piece_at s i) where
    pub escape_ascii : x < 0x80 → Digit ascii_value s i x q
    escape_ascii h =
        let w = escaped-inside s i e in
        record { char = x; here = denoted-escaped s i x q e ∙ ap (λ (l : List ℕ). l ++ denoted s q) (encode_ascii x h); is = ascii x h; inside = w.0; ahead = w.1 }

    pub escape-wide : 0x80 ≤ x → NoDigit ascii_value s i
    escape-wide h =
        let w = encode-wide x h in
        record { char = w.0; rest = w.1 ++ denoted s q; here = denoted-escaped s i x q e ∙ ap (λ (l : List ℕ). l ++ denoted s q) w.2; is = wide w.0 w.3 }

-- ---- a character's value as a digit

ascii-own : (c b : ℕ) → ascii_value c ≡ Some b → c ≡ b
unfolding ascii_value only_if
ascii-own c b e = go (ltb c 0x80) refl
  where
    go : (t : Bool) → ltb c 0x80 ≡ t → c ≡ b
    go true w = let f : Some c ≡ Some b = (rw w at e) in cc
    go false w = let f : None ≡ Some b = (rw w at e) in absurd (let z : ◌≡◌ {A = ℕ} 0 1 = cc in omega arith)

ascii-wide : (c : ℕ) → ascii_value c ≡ None → 0x80 ≤ c
unfolding ascii_value only_if
ascii-wide c e = go (ltb c 0x80) refl
  where
    go : (t : Bool) → ltb c 0x80 ≡ t → 0x80 ≤ c
    go true w = let f : Some c ≡ None = (rw w at e) in absurd (let z : ◌≡◌ {A = ℕ} 0 1 = cc in omega arith)
    go false w = ltb-false c 0x80 w

module _ {s : List ℕ} {i b q : ℕ} (d : Digit ascii_value s i b q) where
  own : denoted s i ≡ b ∷ denoted s q
  own = d.here ∙ ap (λ (c : ℕ). c ∷ denoted s q) (ascii-own d.char b d.is)

  pub digit-some : {value : ℕ → Option ℕ} {x : ℕ} → value b ≡ Some x → Digit value s i x q
  digit-some e = record { char = b; here = own; is = e; inside = d.inside; ahead = d.ahead }

  pub digit-none : {value : ℕ → Option ℕ} → value b ≡ None → NoDigit value s i
  digit-none e = record { char = b; rest = denoted s q; here = own; is = e }

pub digit-wide : {value : ℕ → Option ℕ} {s : List ℕ} {i : ℕ} → ((c : ℕ) → 0x80 ≤ c → value c ≡ None) → NoDigit ascii_value s i → NoDigit value s i
digit-wide h d = record { char = d.char; rest = d.rest; here = d.here; is = h d.char (ascii-wide d.char d.is) }

-- ---- digits have no other characters, and small values

pub hex-wide : (c : ℕ) → 0x80 ≤ c → hex_value c ≡ None
unfolding hex_value
hex-wide c h = pick-none c _ None ((λ i. omega arith) ⨾ (λ i. omega arith) ⨾ (λ i. omega arith) ⨾ tt)

pub base64-wide : (c : ℕ) → 0x80 ≤ c → base64_value c ≡ None
unfolding base64_value
base64-wide c h = pick-none c _ None ((λ i. omega arith) ⨾ (λ i. omega arith) ⨾ (λ i. omega arith) ⨾ (λ i. omega arith) ⨾ (λ i. omega arith) ⨾ tt)

abbrev Below : ℕ → Option ℕ → Type 0
Below n o = (x : ℕ) → o ≡ Some x → x < n

below-some : {n : ℕ} (y : ℕ) → y < n → Below n (Some y)
below-some y h x e = let w : y ≡ x = cc in omega arith

below_none : (n : ℕ) → Below n None
below_none n x e = absurd (let z : ◌≡◌ {A = ℕ} 0 1 = cc in omega arith)

pub hex-below : {s : List ℕ} {i x q : ℕ} → Digit hex_value s i x q → x < 16
unfolding hex_value
hex-below {x = x} d =
    pick-within (Below 16) d.char _ None
    ((λ i. below-some (d.char - 0x30) (omega arith)) ⨾ (λ i. below-some (d.char - 0x37) (omega arith)) ⨾ (λ i. below-some (d.char - 0x57) (omega arith)) ⨾ tt)
    (below_none 16) x d.is

pub base64-below : {s : List ℕ} {i x q : ℕ} → Digit base64_value s i x q → x < 64
unfolding base64_value
base64-below {x = x} d =
    pick-within (Below 64) d.char _ None
    ((λ i. below-some (d.char - 0x41) (omega arith))
    ⨾ (λ i. below-some (d.char - 0x47) (omega arith))
    ⨾ (λ i. below-some (d.char + 0x04) (omega arith))
    ⨾ (λ i. below-some 62 (omega arith))
    ⨾ (λ i. below-some 63 (omega arith))
    ⨾ tt)
    (below_none 64) x d.is
