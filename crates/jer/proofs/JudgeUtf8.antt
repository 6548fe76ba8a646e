-- The strings of a JSON text denote UTF-8.
use Prim.Native.Nat.{ℕ, ◌+◌, ◌*◌, ◌/◌, ◌%◌, ◌≤◌, ◌<◌}
use mathlib.Core.Path.{◌≡◌, refl, ◌∙◌}
use mathlib.Core.List.{List, [], ◌∷◌}
use mathlib.Core.Bool.{Bool, true, false}
use native.Mathlib.Omega.{arith}
use native.Mathlib.Nat.{div-add-mod', mod-lt, div-div-eq-div-mul}
use lib.Dec.{ltb, lit<}
use borrow.Author.Tests.{ltb-true, ltb-false}
use Rattle.json_text.specs.Bytes.{In, pick}
use Rattle.json_text.specs.Utf8.{Wide, two, three_e0, three_e1, three_eD, three_eE, four_f0, four_f1, four_f4, encode, due_step, due_end, utf8_from, utf8}
use Rattle.json_text.specs.Grammar.{Hex, digit, upper, lower, Four, four, quote, backslash, slash, backspace, form_feed, line_feed, carriage_return, tabulation, paired, Char, plain, wide, escape, unit, pair, Chars, no_char, char, Quoted, quoted}
use Rattle.json_text.proofs.Utf8Ranges.{Whole, whole_plain, whole_wide}

-- ---- the bytes of a character by its number

three-wide : (a b c : ℕ) → In 0xE0 0xEF a → In 0x80 0xBF b → In 0x80 0xBF c → (a ≡ 0xE0 → 0xA0 ≤ b) → (a ≡ 0xED → b ≤ 0x9F) → Wide (a ∷ b ∷ c ∷ [])
three-wide a b c i j k low high = first (ltb a 0xE1) refl
  where
    third : (t : Bool) → ltb a 0xEE ≡ t → 0xED ≤ a → Wide (a ∷ b ∷ c ∷ [])
    third true w l = let e : a ≡ 0xED = omega (arith, ltb-true) in let h = high e in rw e (three_eD (j.0, h) k)
    third false w l = three_eE {a = a} (omega (arith, ltb-false)) j k

    second : (t : Bool) → ltb a 0xED ≡ t → 0xE1 ≤ a → Wide (a ∷ b ∷ c ∷ [])
    second true w l = three_e1 {a = a} (omega (arith, ltb-true)) j k
    second false w l = third (ltb a 0xEE) refl (ltb-false a 0xED w)

    first : (t : Bool) → ltb a 0xE1 ≡ t → Wide (a ∷ b ∷ c ∷ [])
    first true w = let e : a ≡ 0xE0 = omega (arith, ltb-true) in let h = low e in rw e (three_e0 (h, j.1) k)
    first false w = second (ltb a 0xED) refl (ltb-false a 0xE1 w)

four-wide : (a b c d : ℕ) → In 0xF0 0xF4 a → In 0x80 0xBF b → In 0x80 0xBF c → In 0x80 0xBF d → (a ≡ 0xF0 → 0x90 ≤ b) → (a ≡ 0xF4 → b ≤ 0x8F) → Wide (a ∷ b ∷ c ∷ d ∷ [])
four-wide a b c d i j k m low high = first (ltb a 0xF1) refl
  where
    second : (t : Bool) → ltb a 0xF4 ≡ t → 0xF1 ≤ a → Wide (a ∷ b ∷ c ∷ d ∷ [])
    second true w l = four_f1 {a = a} (omega (arith, ltb-true)) j k m
    second false w l = let e : a ≡ 0xF4 = omega (arith, ltb-false) in let h = high e in rw e (four_f4 (j.0, h) k m)

    first : (t : Bool) → ltb a 0xF1 ≡ t → Wide (a ∷ b ∷ c ∷ d ∷ [])
    first true w = let e : a ≡ 0xF0 = omega (arith, ltb-true) in let h = low e in rw e (four_f0 (h, j.1) k m)
    first false w = second (ltb a 0xF4) refl (ltb-false a 0xF1 w)

-- a number by its last six bits and the bits before them
record Split (x : ℕ) : Type 0 where
  whole : x / 0x40 * 0x40 + x % 0x40 ≡ x
  small : x % 0x40 < 0x40

split : (x : ℕ) → Split x
split x = record { whole = div-add-mod' x 0x40; small = mod-lt x (lit< tt) }

two-of : (x : ℕ) → 0x80 ≤ x → x < 0x800 → Wide ((0xC0 + x / 0x40) ∷ (0x80 + x % 0x40) ∷ [])
two-of x l u = let s = split x in two {a = 0xC0 + x / 0x40} {b = 0x80 + x % 0x40} (omega arith) (omega arith)

three-of : (x : ℕ) → 0x800 ≤ x → x < 0x10000 → (In 0xD800 0xDFFF x → ⊥) → Wide ((0xE0 + x / 0x1000) ∷ (0x80 + x / 0x40 % 0x40) ∷ (0x80 + x % 0x40) ∷ [])
three-of x l u n = go (split x) (split (x / 0x40)) (div-div-eq-div-mul x 0x40 0x40) (ltb x 0xD800) refl
  where
    go : Split x → Split (x / 0x40) → x / 0x40 / 0x40 ≡ x / 0x1000 → (t : Bool) → ltb x 0xD800 ≡ t → Wide ((0xE0 + x / 0x1000) ∷ (0x80 + x / 0x40 % 0x40) ∷ (0x80 + x % 0x40) ∷ [])
    go s r e true w = let m = ltb-true x 0xD800 w in three-wide _ _ _ (omega arith) (omega arith) (omega arith) (λ a. omega arith) (λ a. omega arith)
    go s r e false w = three-wide _ _ _ (omega arith) (omega arith) (omega arith) (λ a. omega arith) (λ a. absurd (n (let m = ltb-false x 0xD800 w in omega arith)))

four-of : (x : ℕ) → 0x10000 ≤ x → x ≤ 0x10FFFF → Wide ((0xF0 + x / 0x40000) ∷ (0x80 + x / 0x1000 % 0x40) ∷ (0x80 + x / 0x40 % 0x40) ∷ (0x80 + x % 0x40) ∷ [])
four-of x l u =
    let s = split x in
    let r = split (x / 0x40) in
    let q = split (x / 0x1000) in
    let e : x / 0x40 / 0x40 ≡ x / 0x1000 = div-div-eq-div-mul x 0x40 0x40 in
    let f : x / 0x1000 / 0x40 ≡ x / 0x40000 = div-div-eq-div-mul x 0x1000 0x40 in
    four-wide _ _ _ _ (omega arith) (omega arith) (omega arith) (omega arith) (λ a. omega arith) (λ a. omega arith)

whole-encode : (x : ℕ) → x ≤ 0x10FFFF → (In 0xD800 0xDFFF x → ⊥) → Whole (encode x)
unfolding encode
whole-encode x u n = first (ltb x 0x80) refl
  where
    third : (t : Bool) → ltb x 0x10000 ≡ t → ltb x 0x80 ≡ false → ltb x 0x800 ≡ false → Whole (encode x)
    third true w v r = rw (v, r, w, encode) (whole_wide (three-of x (ltb-false x 0x800 r) (ltb-true x 0x10000 w) n))
    third false w v r = rw (v, r, w, encode) (whole_wide (four-of x (ltb-false x 0x10000 w) u))

    second : (t : Bool) → ltb x 0x800 ≡ t → ltb x 0x80 ≡ false → Whole (encode x)
    second true w v = rw (v, w, encode) (whole_wide (two-of x (ltb-false x 0x80 v) (ltb-true x 0x800 w)))
    second false w v = third (ltb x 0x10000) refl v w

    first : (t : Bool) → ltb x 0x80 ≡ t → Whole (encode x)
    first true w = rw (w, encode) (whole_plain (omega (arith, ltb-true)))
    first false w = second (ltb x 0x800) refl w

hex_bound : {x b : ℕ} → Hex x b → x ≤ 15
hex_bound (digit i e) = omega arith
hex_bound (upper i e) = omega arith
hex_bound (lower i e) = omega arith

four_bound : {x : ℕ} {bs : List ℕ} → Four x bs → x ≤ 0xFFFF
four_bound (four h i j k e) = omega (arith, hex_bound h, hex_bound i, hex_bound j, hex_bound k)

-- ---- characters and strings

whole-char : {c bs : List ℕ} → Char c bs → Whole c
unfolding utf8_from due_step pick paired
whole-char (plain i m n) = whole_plain i.1
whole-char (wide w) = whole_wide w
whole-char (escape quote) = λ s. refl
whole-char (escape backslash) = λ s. refl
whole-char (escape slash) = λ s. refl
whole-char (escape backspace) = λ s. refl
whole-char (escape form_feed) = λ s. refl
whole-char (escape line_feed) = λ s. refl
whole-char (escape carriage_return) = λ s. refl
whole-char (escape tabulation) = λ s. refl
whole-char (unit {x = x} f n e) = rw e (whole-encode x (omega (arith, four_bound f)) n)
whole-char (pair {h = h} {l = l} f i g j e m) = rw e (whole-encode (paired h l) (omega arith) (λ k. omega arith))

pub chars-utf8 : {s bs : List ℕ} → Chars s bs → utf8 s ≡ true
unfolding utf8 utf8_from due_end
chars-utf8 no_char = refl
chars-utf8 (char c h e g) = rw e (whole-char c _ ∙ chars-utf8 h)

pub quoted-utf8 : {s bs : List ℕ} → Quoted s bs → utf8 s ≡ true
quoted-utf8 (quoted h e) = chars-utf8 h
