-- The written text of a string spells the string: each character of its UTF-8 stands for itself or is escaped.
use Prim.Native.Nat.{ℕ, zero, suc, ◌+◌, ◌/◌, ◌%◌, ◌≤◌, ◌<◌}
use mathlib.Core.Path.{◌≡◌, refl, ap, ◌∙◌}
use mathlib.Core.List.{List, [], ◌∷◌, ◌++◌}
use mathlib.Core.Bool.{Bool, true, false, false≢true}
use native.Mathlib.Omega.{arith}
use native.Mathlib.Nat.{div-add-mod', mod-lt, div-lt_iff_lt-mul}
use lib.Dec.{ltb, lit<}
use borrow.Author.Tests.{lt-ltb, ltb-true, ltb-false}
use Rattle.json_text.specs.Bytes.{In, pick}
use Rattle.json_text.specs.Utf8.{Wide, two, three_e0, three_e1, three_eD, three_eE, four_f0, four_f1, four_f4, encode, wide_rows, Due, start, due, never, due_next, due_step, due_end, utf8_from, utf8}
use Rattle.json_text.specs.Grammar.{Hex, digit, upper, four, quote, backslash, backspace, form_feed, line_feed, carriage_return, tabulation, Char, plain, wide, escape, unit, Chars, no_char, char, Quoted, quoted}
use Rattle.json_text.proofs.Feed.{pick-none}
use Rattle.json_text.proofs.SoundRows.{pick_first, Within, pick-within, only, ◌⨾◌}
use Rattle.json_text.proofs.SoundString.{no_cont, cont, WideEnd, wide_end, with_one, with_two, with_three}
use Rattle.jer.specs.Octets.{hex_digit}
use Rattle.jer.specs.Write.{escaped, escapes, quotes, string_text}

-- from lo on and not up to hi
pub outside : (lo hi b : ℕ) → (In lo hi b → ⊥) → lo ≤ b → hi < b
outside lo hi b h l = go (ltb hi b) refl
  where
    go : (c : Bool) → ltb hi b ≡ c → hi < b
    go true w = ltb-true hi b w
    go false w = absurd (h (l, ltb-false hi b w))

pub pick-last : {A : Type 0} (Q : A → Type 0) (b : ℕ) (d : A) → Q d → Q (pick b [] d)
unfolding pick
pick-last Q b d h = h

-- ---- a character of one byte

pub hex-digit : (x : ℕ) → x < 16 → Hex x (hex_digit x)
unfolding hex_digit
hex-digit x h = go (ltb x 10) refl
  where
    go : (c : Bool) → ltb x 10 ≡ c → Hex x (hex_digit x)
    go true w = let l = ltb-true x 10 w in rw (w, hex_digit) (digit {b = 0x30 + x} {x = x} (omega arith) (omega arith))
    go false w = let l = ltb-false x 10 w in rw (w, hex_digit) (upper {b = 0x37 + x} {x = x} (omega arith) (omega arith))

encode_byte : (b : ℕ) → b < 0x80 → (b ∷ []) ≡ encode b
unfolding encode
encode_byte b h = rw (lt-ltb b 0x80 h, encode)

control_char : (b : ℕ) → b ≤ 0x1F → Char (b ∷ []) (0x5C ∷ 0x75 ∷ 0x30 ∷ 0x30 ∷ hex_digit (b / 16) ∷ hex_digit (b % 16) ∷ [])
control_char b h =
    let q : b / 16 < 16 = (div-lt_iff_lt-mul (lit< tt)).1 (omega arith) in
    let z : Hex 0 0x30 = digit {b = 0x30} (omega arith) refl in
    unit (four {x = b} z z (hex-digit (b / 16) q) (hex-digit (b % 16) (mod-lt b (lit< tt))) (omega (arith, div-add-mod' b 16)))
    (λ i. omega arith) (encode_byte b (omega arith))

byte_char : (b : ℕ) → b ≤ 0x7F → Char (b ∷ []) (escaped b)
unfolding escaped
byte_char b h =
    pick_first (Char (b ∷ [])) b 0x22 0x22 _ _ _ (λ i. rw (only i) (escape quote))
    (λ q. pick_first (Char (b ∷ [])) b 0x5C 0x5C _ _ _ (λ i. rw (only i) (escape backslash))
    (λ s. pick_first (Char (b ∷ [])) b 0x08 0x08 _ _ _ (λ i. rw (only i) (escape backspace))
    (λ _. pick_first (Char (b ∷ [])) b 0x09 0x09 _ _ _ (λ i. rw (only i) (escape tabulation))
    (λ _. pick_first (Char (b ∷ [])) b 0x0A 0x0A _ _ _ (λ i. rw (only i) (escape line_feed))
    (λ _. pick_first (Char (b ∷ [])) b 0x0C 0x0C _ _ _ (λ i. rw (only i) (escape form_feed))
    (λ _. pick_first (Char (b ∷ [])) b 0x0D 0x0D _ _ _ (λ i. rw (only i) (escape carriage_return))
    (λ _. pick_first (Char (b ∷ [])) b 0x00 0x1F _ _ _ (λ i. control_char b i.1)
    (λ c. pick-last (Char (b ∷ [])) b _ (plain (outside 0x00 0x1F b c (omega arith), h) (λ e. q (omega arith)) (λ e. s (omega arith)))))))))))

-- ---- a character of more bytes

high-escaped : (b : ℕ) → 0x80 ≤ b → escaped b ≡ b ∷ []
unfolding escaped
high-escaped b h = pick-none b _ _ (omega arith)

high-bare : (b : ℕ) (s : List ℕ) → 0x80 ≤ b → escapes (b ∷ s) ≡ b ∷ escapes s
unfolding escapes
high-bare b s h = rw (high-escaped b h)

-- bytes in the middle of a character, and further characters
data Rest (lo hi n : ℕ) (s : List ℕ) : Type 0 where
  rest : {c u cs : List ℕ} → WideEnd lo hi n c → Chars u cs → s ≡ c ++ u → (0x80 ≤ lo → escapes s ≡ c ++ cs) → Rest lo hi n s

-- what the bytes after a state of the UTF-8 machine are
abbrev Next : Due → List ℕ → Type 0
Next start s = Chars s (escapes s)
Next (due lo hi n) s = Rest lo hi n s
Next never s = ⊥

-- a first byte and what is due after it make a character
begins : {b lo hi n : ℕ} (s : List ℕ) → 0x80 ≤ b → 0x80 ≤ lo → ((c : List ℕ) → WideEnd lo hi n c → Wide (b ∷ c)) → Rest lo hi n s → Chars (b ∷ s) (escapes (b ∷ s))
begins {b = b} s h l w (rest {c = c} e k p q) = char {u = b ∷ s} (wide (w c e)) k (rw p) (high-bare b s h ∙ ap (λ (x : List ℕ). b ∷ x) (q l))

wide-begins : (b : ℕ) (s : List ℕ) → Within (λ d. Next d s → Chars (b ∷ s) (escapes (b ∷ s))) b (wide_rows (λ b lo hi n. due lo hi n))
unfolding wide_rows
wide-begins b s =
    (λ i. begins s (omega arith) (omega arith) (with_one (λ x h. two i h)))
    ⨾ (λ i. begins s (omega arith) (omega arith) (with_two (λ x y h k. rw (only i) (three_e0 h k))))
    ⨾ (λ i. begins s (omega arith) (omega arith) (with_two (λ x y h k. three_e1 i h k)))
    ⨾ (λ i. begins s (omega arith) (omega arith) (with_two (λ x y h k. rw (only i) (three_eD h k))))
    ⨾ (λ i. begins s (omega arith) (omega arith) (with_two (λ x y h k. three_eE i h k)))
    ⨾ (λ i. begins s (omega arith) (omega arith) (with_three (λ x y z h k l. rw (only i) (four_f0 h k l))))
    ⨾ (λ i. begins s (omega arith) (omega arith) (with_three (λ x y z h k l. four_f1 i h k l)))
    ⨾ (λ i. begins s (omega arith) (omega arith) (with_three (λ x y z h k l. rw (only i) (four_f4 h k l))))
    ⨾ tt

goes_on : (lo hi n b : ℕ) (s : List ℕ) → In lo hi b → Next (due_next n) s → Rest lo hi n (b ∷ s)
unfolding due_next
goes_on lo hi zero b s i k = rest (wide_end i no_cont) k refl (λ l. high-bare b s (omega arith))
goes_on lo hi (suc n) b s i (rest (wide_end j cs) k p q) = rest (wide_end i (cont j cs)) k (rw p) (λ l. high-bare b s (omega arith) ∙ ap (λ (x : List ℕ). b ∷ x) (q (omega arith)))

-- ---- the string

next_byte : (d : Due) (b : ℕ) (s : List ℕ) → Next (due_step d b) s → Next d (b ∷ s)
unfolding due_step escapes
next_byte start b s =
    pick_first (λ d. Next d s → Chars (b ∷ s) (escapes (b ∷ s))) b 0x00 0x7F _ _ never (λ i k. char (byte_char b i.1) k refl refl)
    (λ _. pick-within (λ d. Next d s → Chars (b ∷ s) (escapes (b ∷ s))) b _ never (wide-begins b s) (λ k. absurd k))
next_byte (due lo hi n) b s = pick-within (λ d. Next d s → Rest lo hi n (b ∷ s)) b _ never ((λ i k. goes_on lo hi n b s i k) ⨾ tt) (λ k. absurd k)
next_byte never b s = λ k. k

chars-from : (d : Due) (s : List ℕ) → utf8_from d s ≡ true → Next d s
unfolding utf8_from due_end escapes
chars-from start [] e = no_char
chars-from (due lo hi n) [] e = absurd (false≢true e)
chars-from never [] e = absurd (false≢true e)
chars-from d (b ∷ s) e = next_byte d b s (chars-from (due_step d b) s e)

pub string-quoted : (s : List ℕ) → utf8 s ≡ true → Quoted s (string_text s)
unfolding utf8 string_text quotes
string-quoted s e = quoted (chars-from start s e) refl
