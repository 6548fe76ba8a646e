-- Strings by their pieces: what stands at a place, in the form that the code's proofs cite.
use mathlib.Core.Path.{◌≡◌, refl, sym, ap, ◌∙◌}
use mathlib.Core.List.{List, [], ◌∷◌, ◌++◌}
use mathlib.Core.Bool.{Bool, true, false, ◌||◌, ◌&&◌}
use Prim.Native.Nat.{ℕ, zero, suc, ◌+◌, ◌-◌, ◌*◌, ◌/◌, ◌%◌, ◌<◌, ◌≤◌}
use native.Mathlib.Nat.{add-zero, add-suc}
use native.Mathlib.Numerals.{add-one}
use native.Mathlib.Omega.{arith}
use borrow.Author.Tests.{lt-ltb, le-ltb, eq-eqb, ne_eqb, eqb-true, eqb-false, leb-true}
use lib.Dec.{eqb, leb, ltb}
use lib.ListN.{length, get_or, take, drop, set, length-append}
use lib.Seq.{sets}
use Rattle.json_text.specs.Utf8.{encode}
use Rattle.json_text.specs.Grammar.{paired}
use Rattle.jer.specs.Table.{same_bytes}
use Rattle.tokens.specs.Places.{byte_at}
use Rattle.std.specs.List.{starts_with}
use Rattle.tokens.specs.Strings.{unit_at, letter_of, is_high, Piece, Close, Bare, Escaped, unit_piece, escape_at, piece_at, denoted_in, denoted, close_in, string_end}
use Rattle.tokens.proofs.PlaceLaws.{byte_inside, byte_past, inside}
use Rattle.slices.proofs.PartLaws.{sets_append}
use Rattle.tokens.proofs.SliceLaws.{same_end, same_more, same-differ, same_first, same-begins, same-room, same-other}

-- ---- pairs

pub high-range : (x : ℕ) → is_high x ≡ true → (0xD800 ≤ x) × (x ≤ 0xDBFF)
high-range x h = go (leb 0xD800 x) refl (leb x 0xDBFF) refl h
  where
    go : (t : Bool) → leb 0xD800 x ≡ t → (u : Bool) → leb x 0xDBFF ≡ u → (t && u) ≡ true → (0xD800 ≤ x) × (x ≤ 0xDBFF)
    go true e true f k = (leb-true 0xD800 x e, leb-true x 0xDBFF f)
    go true e false f k = absurd (let z : ◌≡◌ {A = ℕ} 0 1 = cc in omega arith)
    go false e u f k = absurd (let z : ◌≡◌ {A = ℕ} 0 1 = cc in omega arith)

pub pair-sum : (h l : ℕ) → 0x10000 + (h - 0xD800) * 0x400 + (l - 0xDC00) ≡ paired h l
unfolding paired
pair-sum h l = refl

-- ---- escapes

module _ (s : List ℕ) (p b : ℕ) (e : b ≡ byte_at s p) where
  pub escape-letter : (c : ℕ) → (b ≡ 0x75 → ⊥) → c ≡ letter_of b → Escaped c (p + 1) ≡ escape_at s p
  unfolding escape_at
  escape-letter c h k = rw (ne_eqb (byte_at s p) 0x75 (λ w. h (e ∙ w)), escape_at, k, e)

  module _ (h : b ≡ 0x75) (x : ℕ) (f : x ≡ unit_at s (p + 1)) where
    unit_piece_lem : unit_piece s (p + 1) x ≡ escape_at s p
    unfolding escape_at
    unit_piece_lem = rw (← e, eq-eqb b 0x75 h, escape_at, f)

    five : p + 5 ≡ p + 1 + 4
    five = omega arith

    pub escape-unit : is_high x ≡ false → Escaped x (p + 5) ≡ escape_at s p
    unfolding unit_piece
    escape-unit k = rw (← unit_piece_lem, k, unit_piece, five)

    pub escape-pair : (c y : ℕ) → is_high x ≡ true → y ≡ unit_at s (p + 7) → c ≡ paired x y → Escaped c (p + 11) ≡ escape_at s p
    unfolding unit_piece
    escape-pair c y k g w =
        let n : p + 11 ≡ p + 1 + 10 = omega arith in
        let m : p + 7 ≡ p + 1 + 6 = omega arith in
        rw (← unit_piece_lem, k, unit_piece, n, w, g, m)

-- ---- pieces

module _ (s : List ℕ) (p : ℕ) where
  piece_none : byte_at s p ≡ 256 → piece_at s p ≡ Close
  unfolding piece_at
  piece_none e = rw (e, piece_at)

  pub piece_past : length s ≤ p → Close ≡ piece_at s p
  piece_past h = sym (piece_none (byte_past s p h))

  -- a piece that does not close stands inside
  pub piece_inside : (piece_at s p ≡ Close → ⊥) → p < length s
  piece_inside h = inside s p (λ e. h (piece_none e))

  -- by the byte that the total getter gives
  pub piece_plain : {b : ℕ} → b ≡ byte_at s p → b < 256 → (b ≡ 0x22 → ⊥) → (b ≡ 0x5C → ⊥) → Bare b ≡ piece_at s p
  unfolding piece_at
  piece_plain e h j k =
      rw (ne_eqb (byte_at s p) 0x22 (λ x. j (e ∙ x)), ne_eqb (byte_at s p) 256 (λ x. omega arith), piece_at)
      (rw (ne_eqb (byte_at s p) 0x5C (λ x. k (e ∙ x))) (ap Bare e))

  module _ (l : p < length s) where
    same_byte : get_or s p 0 ≡ byte_at s p
    same_byte = byte_inside s p l

    pub piece_quote : get_or s p 0 ≡ 0x22 → Close ≡ piece_at s p
    unfolding piece_at
    piece_quote e = rw (eq-eqb (byte_at s p) 0x22 (sym same_byte ∙ e), piece_at)

    pub piece_escape : get_or s p 0 ≡ 0x5C → escape_at s (p + 1) ≡ piece_at s p
    unfolding piece_at
    piece_escape e =
        let w : byte_at s p ≡ 0x5C = sym same_byte ∙ e in
        rw (ne_eqb (byte_at s p) 0x22 (λ x. omega arith), ne_eqb (byte_at s p) 256 (λ x. omega arith), piece_at) (rw (eq-eqb (byte_at s p) 0x5C w))

    pub piece_bare : get_or s p 0 < 256 → (get_or s p 0 ≡ 0x22 → ⊥) → (get_or s p 0 ≡ 0x5C → ⊥) → Bare (get_or s p 0) ≡ piece_at s p
    piece_bare = piece_plain same_byte

-- an escape goes ahead
abbrev Ahead : ℕ → Piece → Type 0
Ahead p Close = Unit {0}
Ahead p (Bare b) = Unit {0}
Ahead p (Escaped x q) = p < q

unit-ahead : (s : List ℕ) (p x : ℕ) → Ahead p (unit_piece s p x)
unfolding unit_piece
unit-ahead s p x = go (is_high x) refl
  where
    go : (t : Bool) → is_high x ≡ t → Ahead p (unit_piece s p x)
    go true e = rw (e, unit_piece) (omega arith)
    go false e = rw (e, unit_piece) (omega arith)

escape-ahead : (s : List ℕ) (p : ℕ) → Ahead p (escape_at s (p + 1))
unfolding escape_at
escape-ahead s p = go (eqb (byte_at s (p + 1)) 0x75) refl (unit-ahead s (p + 1 + 1) (unit_at s (p + 1 + 1)))
  where
    less : (x : Piece) → Ahead (p + 1 + 1) x → Ahead p x
    less Close h = tt
    less (Bare b) h = tt
    less (Escaped x q) h = omega arith

    go : (t : Bool) → eqb (byte_at s (p + 1)) 0x75 ≡ t → Ahead (p + 1 + 1) (unit_piece s (p + 1 + 1) (unit_at s (p + 1 + 1))) → Ahead p (escape_at s (p + 1))
    go true e a = rw (e, escape_at) (less (unit_piece s (p + 1 + 1) (unit_at s (p + 1 + 1))) a)
    go false e a = rw (e, escape_at) (omega arith)

piece_ahead : (s : List ℕ) (p : ℕ) → Ahead p (piece_at s p)
unfolding piece_at
piece_ahead s p = go (eqb (byte_at s p) 0x22 || eqb (byte_at s p) 256) refl
  where
    go₂ : (t : Bool) → Ahead p (elim t as (λ x. Piece) [ true ↦ escape_at s (p + 1) | false ↦ Bare (byte_at s p) ])
    go₂ true = escape-ahead s p
    go₂ false = tt

    go : (t : Bool) → (eqb (byte_at s p) 0x22 || eqb (byte_at s p) 256) ≡ t → Ahead p (piece_at s p)
    go true e = rw (e, piece_at) tt
    go false e = rw (e, piece_at) (go₂ (eqb (byte_at s p) 0x5C))

pub escaped-ahead : (s : List ℕ) (p x q : ℕ) → piece_at s p ≡ Escaped x q → p < q
escaped-ahead s p x q e = rw e at (piece_ahead s p)

-- where a piece stands
pub bare-inside : (s : List ℕ) (p : ℕ) {b : ℕ} → Bare b ≡ piece_at s p → p < length s
bare-inside s p {b} e = piece_inside s p (λ w. clash (e ∙ w))
  where
    clash : Bare b ≡ Close → ⊥
    clash w = let z : ◌≡◌ {A = ℕ} 0 1 = cc in omega arith

pub escaped-inside : (s : List ℕ) (p : ℕ) {x q : ℕ} → Escaped x q ≡ piece_at s p → (p < length s) × (p < q)
escaped-inside s p {x} {q} e = (piece_inside s p (λ w. clash (e ∙ w)), escaped-ahead s p x q (sym e))
  where
    clash : Escaped x q ≡ Close → ⊥
    clash w = let z : ◌≡◌ {A = ℕ} 0 1 = cc in omega arith

-- ---- what a string denotes, piece by piece

-- more pieces than bytes are left change nothing
denoted-more : (s : List ℕ) (k p : ℕ) → length s - p ≤ k → denoted_in k s p ≡ denoted_in (suc k) s p
unfolding denoted_in
denoted-more s zero p h = rw (← piece_past s p (omega arith), denoted_in)
denoted-more s (suc k) p h = go (λ q m. denoted-more s k q (omega arith)) (piece_at s p) refl
  where
    go : ((q : ℕ) → p < q → denoted_in k s q ≡ denoted_in (suc k) s q) → (x : Piece) → piece_at s p ≡ x → denoted_in (suc k) s p ≡ denoted_in (suc (suc k)) s p
    go ih Close e = rw (e, denoted_in)
    go ih (Bare b) e = rw (e, denoted_in) (ap (λ (l : List ℕ). b ∷ l) (ih (p + 1) (omega arith)))
    go ih (Escaped x q) e = rw (e, denoted_in) (ap (λ (l : List ℕ). encode x ++ l) (ih q (escaped-ahead s p x q e)))

module _ (s : List ℕ) (p : ℕ) where
  pub denoted-close : Close ≡ piece_at s p → denoted s p ≡ []
  unfolding denoted denoted_in
  denoted-close e = go (length s)
    where
      go : (n : ℕ) → denoted_in n s p ≡ []
      go zero = refl
      go (suc n) = rw (← e, denoted_in)

  pub denoted-bare : (b : ℕ) → Bare b ≡ piece_at s p → denoted s p ≡ b ∷ denoted s (p + 1)
  unfolding denoted denoted_in
  denoted-bare b e = go (length s) refl (bare-inside s p e)
    where
      go : (n : ℕ) → length s ≡ n → p < length s → denoted_in n s p ≡ b ∷ denoted_in n s (p + 1)
      go zero h l = absurd (omega arith)
      go (suc n) h l = rw (← e, denoted_in) (ap (λ (l : List ℕ). b ∷ l) (denoted-more s n (p + 1) (omega arith)))

  pub denoted-escaped : (x q : ℕ) → Escaped x q ≡ piece_at s p → denoted s p ≡ encode x ++ denoted s q
  unfolding denoted denoted_in
  denoted-escaped x q e = go (length s) refl (escaped-inside s p e)
    where
      go : (n : ℕ) → length s ≡ n → (p < length s) × (p < q) → denoted_in n s p ≡ encode x ++ denoted_in n s q
      go zero h l = absurd (omega arith)
      go (suc n) h l = rw (← e, denoted_in) (ap (λ (l : List ℕ). encode x ++ l) (denoted-more s n q (omega arith)))

-- a string whose first byte stands for itself, against bytes that do not begin with it
pub denoted-other : (s : List ℕ) (p : ℕ) (names : List ℕ) (from : ℕ) {b : ℕ} → Bare b ≡ piece_at s p → (byte_at names from ≡ b → ⊥)
    → (n : ℕ) → same_bytes (take n (drop from names)) (denoted s p) ≡ false
denoted-other s p names from {b} e d n = rw (denoted-bare s p b e) (same_first names from b (denoted s (p + 1)) n d)

-- ---- the end of a string

module _ (s : List ℕ) (n p : ℕ) where
  close-none : byte_at s p ≡ 256 → close_in n s p ≡ p
  unfolding close_in
  close-none e = go n
    where
      go : (k : ℕ) → close_in k s p ≡ p
      go zero = refl
      go (suc k) = rw (e, close_in)

  close-quote : byte_at s p ≡ 0x22 → close_in (suc n) s p ≡ p + 1
  unfolding close_in
  close-quote e = rw (ne_eqb (byte_at s p) 256 (λ x. omega arith), close_in) (rw (eq-eqb (byte_at s p) 0x22 e))

  close-pair : byte_at s p ≡ 0x5C → close_in (suc n) s p ≡ close_in n s (p + 2)
  unfolding close_in
  close-pair e = rw (ne_eqb (byte_at s p) 256 (λ x. omega arith), close_in) (rw (ne_eqb (byte_at s p) 0x22 (λ x. omega arith)) (rw (eq-eqb (byte_at s p) 0x5C e)))

  close_other : (byte_at s p ≡ 256 → ⊥) → (byte_at s p ≡ 0x22 → ⊥) → (byte_at s p ≡ 0x5C → ⊥) → close_in (suc n) s p ≡ close_in n s (p + 1)
  unfolding close_in
  close_other h₁ h₂ h₃ = rw (ne_eqb (byte_at s p) 256 h₁, close_in) (rw (ne_eqb (byte_at s p) 0x22 h₂) (rw (ne_eqb (byte_at s p) 0x5C h₃)))

close-start : (s : List ℕ) (p : ℕ) → p ≤ close_in zero s p
unfolding close_in
close-start s p = omega arith

-- more steps than bytes are left change nothing
close_more : (s : List ℕ) (k p : ℕ) → length s - p ≤ k → close_in k s p ≡ close_in (suc k) s p
close_more s zero p h = let e = byte_past s p (omega arith) in close-none s zero p e ∙ sym (close-none s (suc zero) p e)
close_more s (suc k) p h = go (λ q m. close_more s k q (omega arith)) (eqb (byte_at s p) 256) (eqb (byte_at s p) 0x22) (eqb (byte_at s p) 0x5C) refl refl refl
  where
    go : ((q : ℕ) → p < q → close_in k s q ≡ close_in (suc k) s q) → (t u v : Bool) → eqb (byte_at s p) 256 ≡ t → eqb (byte_at s p) 0x22 ≡ u → eqb (byte_at s p) 0x5C ≡ v
        → close_in (suc k) s p ≡ close_in (suc (suc k)) s p
    go ih true u v e f g = let w = eqb-true (byte_at s p) 256 e in close-none s (suc k) p w ∙ sym (close-none s (suc (suc k)) p w)
    go ih false true v e f g = let w = eqb-true (byte_at s p) 0x22 f in close-quote s k p w ∙ sym (close-quote s (suc k) p w)
    go ih false false true e f g = let w = eqb-true (byte_at s p) 0x5C g in close-pair s k p w ∙ ih (p + 2) (omega arith) ∙ sym (close-pair s (suc k) p w)
    go ih false false false e f g =
        let a = eqb-false (byte_at s p) 256 e in
        let b = eqb-false (byte_at s p) 0x22 f in
        let c = eqb-false (byte_at s p) 0x5C g in
        close_other s k p a b c ∙ ih (p + 1) (omega arith) ∙ sym (close_other s (suc k) p a b c)

close-ahead : (s : List ℕ) (k p : ℕ) → p ≤ close_in k s p
close-ahead s zero p = close-start s p
close-ahead s (suc k) p = go (λ q m. close-ahead s k q) (eqb (byte_at s p) 256) (eqb (byte_at s p) 0x22) (eqb (byte_at s p) 0x5C) refl refl refl
  where
    go : ((q : ℕ) → p < q → q ≤ close_in k s q) → (t u v : Bool) → eqb (byte_at s p) 256 ≡ t → eqb (byte_at s p) 0x22 ≡ u → eqb (byte_at s p) 0x5C ≡ v → p ≤ close_in (suc k) s p
    go ih true u v e f g = omega (arith, close-none s (suc k) p (eqb-true (byte_at s p) 256 e))
    go ih false true v e f g = omega (arith, close-quote s k p (eqb-true (byte_at s p) 0x22 f))
    go ih false false true e f g = omega (arith, close-pair s k p (eqb-true (byte_at s p) 0x5C g), ih (p + 2) (omega arith))
    go ih false false false e f g =
        omega (arith, close_other s k p (eqb-false (byte_at s p) 256 e) (eqb-false (byte_at s p) 0x22 f) (eqb-false (byte_at s p) 0x5C g), ih (p + 1) (omega arith))

pub end-ahead : (s : List ℕ) (p : ℕ) → p ≤ string_end s p
unfolding string_end
end-ahead s p = close-ahead s (length s) p

module _ (s : List ℕ) (p : ℕ) where
  pub end-past : length s ≤ p → string_end s p ≡ p
  unfolding string_end
  end-past h = close-none s (length s) p (byte_past s p h)

  module _ (l : p < length s) where
    at : get_or s p 0 ≡ byte_at s p
    at = byte_inside s p l

    pub end-quote : get_or s p 0 ≡ 0x22 → string_end s p ≡ p + 1
    unfolding string_end
    end-quote e = go (length s) l
      where
        go : (n : ℕ) → p < n → close_in n s p ≡ p + 1
        go zero h = absurd (omega arith)
        go (suc n) h = close-quote s n p (sym at ∙ e)

    pub end-pair : get_or s p 0 ≡ 0x5C → string_end s p ≡ string_end s (p + 2)
    unfolding string_end
    end-pair e = go (length s) refl
      where
        go : (n : ℕ) → length s ≡ n → close_in n s p ≡ close_in n s (p + 2)
        go zero h = absurd (omega arith)
        go (suc n) h = close-pair s n p (sym at ∙ e) ∙ close_more s n (p + 2) (omega arith)

    pub end-other : get_or s p 0 < 256 → (get_or s p 0 ≡ 0x22 → ⊥) → (get_or s p 0 ≡ 0x5C → ⊥) → string_end s p ≡ string_end s (p + 1)
    unfolding string_end
    end-other b f g = go (length s) refl
      where
        go : (n : ℕ) → length s ≡ n → close_in n s p ≡ close_in n s (p + 1)
        go zero h = absurd (omega arith)
        go (suc n) h = close_other s n p (λ x. omega (arith, at)) (λ x. f (at ∙ x)) (λ x. g (at ∙ x)) ∙ close_more s n (p + 1) (omega arith)

-- ---- the UTF-8 of a character

module _ (x : ℕ) where
  pub encode_one : x < 0x80 → x ∷ [] ≡ encode x
  unfolding encode
  encode_one h = rw (lt-ltb x 0x80 h, encode)

  pub encode-two : 0x80 ≤ x → x < 0x800 → (0xC0 + x / 0x40) ∷ (0x80 + x % 0x40) ∷ [] ≡ encode x
  unfolding encode
  encode-two h k = rw (le-ltb x 0x80 h, lt-ltb x 0x800 k, encode)

  pub encode-three : 0x800 ≤ x → x < 0x10000 → (0xE0 + x / 0x1000) ∷ (0x80 + x / 0x40 % 0x40) ∷ (0x80 + x % 0x40) ∷ [] ≡ encode x
  unfolding encode
  encode-three h k = rw (le-ltb x 0x80 (omega arith), le-ltb x 0x800 h, lt-ltb x 0x10000 k, encode)

  pub encode-four : 0x10000 ≤ x → (0xF0 + x / 0x40000) ∷ (0x80 + x / 0x1000 % 0x40) ∷ (0x80 + x / 0x40 % 0x40) ∷ (0x80 + x % 0x40) ∷ [] ≡ encode x
  unfolding encode
  encode-four h = rw (le-ltb x 0x80 (omega arith), le-ltb x 0x800 (omega arith), le-ltb x 0x10000 h, encode)

-- ---- how many bytes a string denotes at the most

pub encode-few : (x : ℕ) → length (encode x) ≤ 4
unfolding encode
encode-few x = go (ltb x 0x80) refl (ltb x 0x800) refl (ltb x 0x10000) refl
  where
    go : (a : Bool) → ltb x 0x80 ≡ a → (b : Bool) → ltb x 0x800 ≡ b → (c : Bool) → ltb x 0x10000 ≡ c → length (encode x) ≤ 4
    go true e b f c g = rw (e, encode) (omega arith)
    go false e true f c g = rw (e, encode) (rw f (omega arith))
    go false e false f true g = rw (e, encode) (rw f (rw g (omega arith)))
    go false e false f false g = rw (e, encode) (rw f (rw g (omega arith)))

denoted-in-few : (s : List ℕ) (k p : ℕ) → length (denoted_in k s p) ≤ 4 * k
unfolding denoted_in
denoted-in-few s zero p = omega arith
denoted-in-few s (suc k) p = go (piece_at s p) refl (denoted-in-few s k)
  where
    go : (x : Piece) → piece_at s p ≡ x → ((q : ℕ) → length (denoted_in k s q) ≤ 4 * k) → length (denoted_in (suc k) s p) ≤ 4 * suc k
    go Close e h = rw (e, denoted_in) (omega arith)
    go (Bare b) e h = rw (e, denoted_in) (omega (arith, h (p + 1)))
    go (Escaped x q) e h = rw (e, denoted_in) (omega (arith, length-append (encode x) (denoted_in k s q), encode-few x, h q))

pub denoted-few : (s : List ℕ) (p : ℕ) → length (denoted s p) ≤ 4 * length s
unfolding denoted
denoted-few s p = denoted-in-few s (length s) p

-- ---- the loops over a string: what is known at a place i, and what a piece makes of it

-- what was passed denotes n bytes
pub record Counting (s : List ℕ) (p i n : ℕ) : Type 0 where
  pub counted : n + length (denoted s i) ≡ length (denoted s p)
  pub few : n ≤ 4 * i

module _ {s : List ℕ} {p i n : ℕ} (f : Counting s p i n) where
  pub counting-close : Close ≡ piece_at s i → n ≡ length (denoted s p)
  counting-close e = omega (arith, ap length (denoted-close s i e))

  counting-bare : {b : ℕ} → Bare b ≡ piece_at s i → Counting s p (i + 1) (n + 1)
  counting-bare {b} e = record { counted = omega (arith, ap length (denoted-bare s i b e)); few = omega arith }

  counting-escaped : {x q : ℕ} {e : List ℕ} → Escaped x q ≡ piece_at s i → e ≡ encode x → Counting s p q (n + length e)
  counting-escaped {x} {q} h g = record {
    counted = omega (arith, ap length g, ap length (denoted-escaped s i x q h), length-append (encode x) (denoted s q));
    few = omega (arith, ap length g, encode-few x, escaped-inside s i h);
  }

-- and these are stored from j on
pub record Copying (s : List ℕ) (p : ℕ) (before : List ℕ) (j : ℕ) (now : List ℕ) (i n : ℕ) : Type 0 where
  pub counting : Counting s p i n
  pub stored : sets now (j + n) (denoted s i) ≡ sets before j (denoted s p)
  pub kept : length now ≡ length before

pub copying_start : (s : List ℕ) (p : ℕ) (before : List ℕ) (j : ℕ) → Copying s p before j before p 0
copying_start s p before j = record {
  counting = record { counted = omega arith; few = omega arith };
  stored = ap (λ (k : ℕ). sets before k (denoted s p)) (add-zero j);
  kept = refl;
}

module _ {s : List ℕ} {p : ℕ} {before : List ℕ} {j : ℕ} {now : List ℕ} {i n : ℕ} (f : Copying s p before j now i n) where
  pub copying_close : Close ≡ piece_at s i → now ≡ sets before j (denoted s p)
  copying_close e = rw (denoted-close s i e) at f.stored

  pub copying_bare : {b : ℕ} {after : List ℕ} → Bare b ≡ piece_at s i → after ≡ set now (j + n) b → length after ≡ length now → Copying s p before j after (i + 1) (n + 1)
  copying_bare {b} e h k = record {
    counting = counting-bare f.counting e;
    stored = rw (h, add-one n, add-suc j n) (rw (denoted-bare s i b e) at f.stored);
    kept = k ∙ f.kept;
  }

  -- the rest is stored at once
  pub copying_rest : {m : ℕ} {after : List ℕ} → m ≡ length (denoted s i) → after ≡ sets now (j + n) (denoted s i) → (n + m ≡ length (denoted s p)) × (after ≡ sets before j (denoted s p))
  copying_rest e h = (omega (arith, e, f.counting.counted), h ∙ f.stored)

  pub copying_escaped : {x q : ℕ} {e after : List ℕ} → Escaped x q ≡ piece_at s i → e ≡ encode x → after ≡ sets now (j + n) e
      → length after ≡ length now → Copying s p before j after q (n + length e)
  copying_escaped {x} {q} {e} h g w k =
      let m : j + (n + length e) ≡ j + n + length e = omega arith in
      record {
        counting = counting-escaped f.counting h g;
        stored = rw (w, m) (sym (sets_append now (j + n) e (denoted s q)) ∙ (rw (denoted-escaped s i x q h, ← g) at f.stored));
        kept = k ∙ f.kept;
      }

-- what was passed denotes the name's first k bytes
pub record Comparing (s : List ℕ) (p : ℕ) (name : List ℕ) (i k : ℕ) : Type 0 where
  pub same : same_bytes (drop k name) (denoted s i) ≡ same_bytes name (denoted s p)
  pub within : k ≤ length name

module _ {s : List ℕ} {p : ℕ} {name : List ℕ} {i k : ℕ} (f : Comparing s p name i k) where
  pub comparing_close : Close ≡ piece_at s i → eqb k (length name) ≡ same_bytes name (denoted s p)
  comparing_close e = same_end name k f.within ∙ rw (← denoted-close s i e) f.same

  module _ {b : ℕ} (e : Bare b ≡ piece_at s i) where
    rest : same_bytes (drop k name) (b ∷ denoted s (i + 1)) ≡ same_bytes name (denoted s p)
    rest = rw (← denoted-bare s i b e) f.same

    pub comparing_differ : (byte_at name k ≡ b → ⊥) → false ≡ same_bytes name (denoted s p)
    comparing_differ d = same-differ name k b (denoted s (i + 1)) d ∙ rest

    pub comparing_bare : byte_at name k ≡ b → b < 256 → Comparing s p name (i + 1) (k + 1)
    comparing_bare d h =
        let here = inside name k (λ w. omega arith) in
        record { same = sym (same_more name k b (denoted s (i + 1)) here (byte_inside name k here ∙ d)) ∙ rest; within = omega arith }

  module _ {x q : ℕ} {e : List ℕ} (h : Escaped x q ≡ piece_at s i) (g : e ≡ encode x) where
    rest-escaped : same_bytes (drop k name) (e ++ denoted s q) ≡ same_bytes name (denoted s p)
    rest-escaped = rw (g, ← denoted-escaped s i x q h) f.same

    pub comparing_other : starts_with eqb (take (length name - k) (drop k name)) e ≡ false → false ≡ same_bytes name (denoted s p)
    comparing_other w = same-other name k e (denoted s q) w ∙ rest-escaped

    pub comparing_escaped : starts_with eqb (take (length name - k) (drop k name)) e ≡ true → Comparing s p name q (k + length e)
    comparing_escaped w = record {
      same = sym (same-begins name k e (denoted s q) w) ∙ rest-escaped;
      within = omega (arith, same-room name k e (denoted s q) f.within w);
    }
