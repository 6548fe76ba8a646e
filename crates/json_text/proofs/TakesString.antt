-- The machine takes every string of the grammar: first the characters alone, then the string with its quotation marks.
use Prim.Native.Nat.{ℕ, suc, ◌+◌, ◌*◌, ◌≤◌, ◌<◌}
use mathlib.Core.Path.{◌≡◌, refl, sym, ap, ◌∙◌}
use mathlib.Core.List.{List, [], ◌∷◌, ◌++◌, append-nil, append_assoc}
use mathlib.Core.Bool.{Bool, true, false}
use borrow.Author.Tests.{eqb-true, eqb-false}
use native.Mathlib.Omega.{arith}
use lib.Dec.{eqb}
use Rattle.json_text.specs.Bytes.{In, pick}
use Rattle.json_text.specs.Utf8.{encode, wide_rows, Wide, two, three_e0, three_e1, three_eD, three_eE, four_f0, four_f1, four_f4}
use Rattle.json_text.specs.Grammar.{Hex, digit, upper, lower, Four, four, Escape, quote, backslash, slash, backspace, form_feed, line_feed, carriage_return, tabulation, paired, Char, plain, wide, escape, unit, pair, Chars, no_char, char, Quoted, quoted}
use Rattle.json_text.specs.Machine.{Mid, m_text, m_wide, m_unit, m_unit_d, m_hex, m_high, m_pair, m_pair_d, m_pair_digit, m_low, Act, still, never, wide_next, hex_rows, hex_next, high_next, low_next, char_step, Stack, Role, State, s_str, go, closed, str_step, step}
use Rattle.json_text.proofs.Feed.{pick-row, Feeds, stop, more, feeds_append}

-- ---- inside a string

-- from m the bytes lead to the other place in a character, and the string has so many bytes more
pub data Acts : Mid → List ℕ → List ℕ → Mid → Type 0 where
  rest : {m : Mid} → Acts m [] [] m
  next : {m n w : Mid} {b : ℕ} {bs xs ys zs : List ℕ} → char_step m b ≡ still n xs → Acts n bs ys w → zs ≡ xs ++ ys → Acts m (b ∷ bs) zs w

pub acts_append : {m n w : Mid} {bs cs xs ys : List ℕ} → Acts m bs xs n → Acts n cs ys w → Acts m (bs ++ cs) (xs ++ ys) w
acts_append rest g = g
acts_append {ys = ys} (next {xs = xs} {ys = us} e f q) g = next e (acts_append f g) (ap (λ (x : List ℕ). x ++ ys) q ∙ append_assoc xs us ys)

-- a byte that adds nothing to the string
quiet : {m n w : Mid} {b : ℕ} {bs xs : List ℕ} → char_step m b ≡ still n [] → Acts n bs xs w → Acts m (b ∷ bs) xs w
quiet e f = next e f refl

-- ---- wide characters

wide_step : (lo hi n b : ℕ) → In lo hi b → char_step (m_wide lo hi n) b ≡ still (wide_next n) (b ∷ [])
unfolding char_step
wide_step lo hi n b h = pick-row 0 b _ _ h

wide-one : {lo hi b : ℕ} → In lo hi b → Acts (m_wide lo hi 0) (b ∷ []) (b ∷ []) m_text
unfolding wide_next
wide-one h = next (wide_step _ _ 0 _ h) rest refl

wide-more : {lo hi n b : ℕ} {bs : List ℕ} → In lo hi b → Acts (m_wide 0x80 0xBF n) bs bs m_text → Acts (m_wide lo hi (suc n)) (b ∷ bs) (b ∷ bs) m_text
unfolding wide_next
wide-more h g = next (wide_step _ _ (suc _) _ h) g refl

-- the first byte of a wide character, and the others
wide_from : {b : ℕ} {bs : List ℕ} (lo hi n : ℕ) → char_step m_text b ≡ still (m_wide lo hi n) (b ∷ []) → Acts (m_wide lo hi n) bs bs m_text → Acts m_text (b ∷ bs) (b ∷ bs) m_text
wide_from lo hi n e g = next e g refl

pub wide_acts : {c : List ℕ} → Wide c → Acts m_text c c m_text
unfolding char_step wide_rows
wide_acts (two h g) = wide_from 0x80 0xBF 0 (pick-row 3 _ _ _ (omega arith)) (wide-one g)
wide_acts (three_e0 g i) = wide_from 0xA0 0xBF 1 (pick-row 4 _ _ _ (omega arith)) (wide-more g (wide-one i))
wide_acts (three_e1 h g i) = wide_from 0x80 0xBF 1 (pick-row 5 _ _ _ (omega arith)) (wide-more g (wide-one i))
wide_acts (three_eD g i) = wide_from 0x80 0x9F 1 (pick-row 6 _ _ _ (omega arith)) (wide-more g (wide-one i))
wide_acts (three_eE h g i) = wide_from 0x80 0xBF 1 (pick-row 7 _ _ _ (omega arith)) (wide-more g (wide-one i))
wide_acts (four_f0 g i j) = wide_from 0x90 0xBF 2 (pick-row 8 _ _ _ (omega arith)) (wide-more g (wide-more i (wide-one j)))
wide_acts (four_f1 h g i j) = wide_from 0x80 0xBF 2 (pick-row 9 _ _ _ (omega arith)) (wide-more g (wide-more i (wide-one j)))
wide_acts (four_f4 g i j) = wide_from 0x80 0x8F 2 (pick-row 10 _ _ _ (omega arith)) (wide-more g (wide-more i (wide-one j)))

-- ---- escapes

pub escape_acts : {c b : ℕ} → Escape c b → Acts m_text (0x5C ∷ b ∷ []) (c ∷ []) m_text
unfolding char_step pick
escape_acts quote = quiet refl (next refl rest refl)
escape_acts backslash = quiet refl (next refl rest refl)
escape_acts slash = quiet refl (next refl rest refl)
escape_acts backspace = quiet refl (next refl rest refl)
escape_acts form_feed = quiet refl (next refl rest refl)
escape_acts line_feed = quiet refl (next refl rest refl)
escape_acts carriage_return = quiet refl (next refl rest refl)
escape_acts tabulation = quiet refl (next refl rest refl)

-- \u in front of four digits
unit_acts : {c bs : List ℕ} → Acts m_unit bs c m_text → Acts m_text (0x5C ∷ 0x75 ∷ bs) c m_text
unfolding char_step pick
unit_acts f = quiet refl (quiet refl f)

hex-small : {x b : ℕ} → Hex x b → x < 16
hex-small (digit h e) = omega arith
hex-small (upper h e) = omega arith
hex-small (lower h e) = omega arith

hex-row : {x b : ℕ} (f : ℕ → Act) → Hex x b → pick b (hex_rows f) never ≡ f x
unfolding hex_rows
hex-row f (digit h e) = rw e (pick-row 0 _ _ _ (omega arith))
hex-row f (upper h e) = rw e (pick-row 1 _ _ _ (omega arith))
hex-row f (lower h e) = rw e (pick-row 2 _ _ _ (omega arith))

-- the last two digits: of a character, of a high surrogate, of a low one
hex-last : {k l c d : ℕ} (x : ℕ) → Hex k c → Hex l d → Acts (m_hex 1 x) (c ∷ d ∷ []) (encode ((x * 16 + k) * 16 + l)) m_text
unfolding char_step hex_next
hex-last x h g = quiet (hex-row _ h) (next (hex-row _ g) rest (sym (append-nil _)))

high-last : {k l c d : ℕ} (x : ℕ) → Hex k c → Hex l d → Acts (m_high 1 x) (c ∷ d ∷ []) [] (m_pair ((x * 16 + k) * 16 + l))
unfolding char_step high_next
high-last x h g = quiet (hex-row _ h) (quiet (hex-row _ g) rest)

low-last : {k l c d : ℕ} (u x : ℕ) → Hex k c → Hex l d → Acts (m_low u 1 x) (c ∷ d ∷ []) (encode (paired u ((x * 16 + k) * 16 + l))) m_text
unfolding char_step low_next
low-last u x h g = quiet (hex-row _ h) (next (hex-row _ g) rest (sym (append-nil _)))

-- the first digit: D, or another
first-d : {i b : ℕ} → Hex i b → i ≡ 13 → char_step m_unit b ≡ still m_unit_d []
unfolding char_step
first-d (digit h e) q = absurd (omega arith)
first-d (upper h e) q = pick-row 0 _ _ _ (omega arith)
first-d (lower h e) q = pick-row 1 _ _ _ (omega arith)

first-other : {i b : ℕ} → Hex i b → (i ≡ 13 → ⊥) → char_step m_unit b ≡ still (m_hex 2 i) []
unfolding char_step hex_rows
first-other (digit h e) q = rw e (pick-row 2 _ _ _ (omega arith))
first-other (upper h e) q = rw e (pick-row 3 _ _ _ (omega arith))
first-other (lower h e) q = rw e (pick-row 4 _ _ _ (omega arith))

-- the first digit of a low surrogate is D
low-d : {i b : ℕ} (u : ℕ) → Hex i b → i ≡ 13 → char_step (m_pair_d u) b ≡ still (m_pair_digit u) []
unfolding char_step
low-d u (digit h e) q = absurd (omega arith)
low-d u (upper h e) q = pick-row 0 _ _ _ (omega arith)
low-d u (lower h e) q = pick-row 1 _ _ _ (omega arith)

-- the second digit after another
second-other : {j b : ℕ} (x : ℕ) → Hex j b → char_step (m_hex 2 x) b ≡ still (m_hex 1 (x * 16 + j)) []
unfolding char_step hex_next
second-other x h = hex-row _ h

-- the second digit after D: of a character, of a high surrogate, of a low one
second-unit : {j b : ℕ} → Hex j b → j ≤ 7 → char_step m_unit_d b ≡ still (m_hex 1 (0xD0 + j)) []
unfolding char_step
second-unit (digit h e) q = rw e (pick-row 0 _ _ _ (omega arith))
second-unit (upper h e) q = absurd (omega arith)
second-unit (lower h e) q = absurd (omega arith)

second-high : {j b : ℕ} → Hex j b → In 8 11 j → char_step m_unit_d b ≡ still (m_high 1 (0xD0 + j)) []
unfolding char_step
second-high (digit h e) q = rw e (pick-row 1 _ _ _ (omega arith))
second-high (upper h e) q = rw e (pick-row 2 _ _ _ (omega arith))
second-high (lower h e) q = rw e (pick-row 3 _ _ _ (omega arith))

second-low : {j b : ℕ} (u : ℕ) → Hex j b → 12 ≤ j → char_step (m_pair_digit u) b ≡ still (m_low u 1 (0xD0 + j)) []
unfolding char_step
second-low u (digit h e) q = absurd (omega arith)
second-low u (upper h e) q = rw e (pick-row 0 _ _ _ (omega arith))
second-low u (lower h e) q = rw e (pick-row 1 _ _ _ (omega arith))

-- the digits of no surrogate
four-unit : {x : ℕ} {bs : List ℕ} → Four x bs → (In 0xD800 0xDFFF x → ⊥) → Acts m_unit bs (encode x) m_text
four-unit {x} (four {i = i} {j = j} {k = k} {l = l} {a = a} {b = b} {c = c} {d = d} hi hj hk hl e) n = split (eqb i 13) refl
  where
    split : (t : Bool) → eqb i 13 ≡ t → Acts m_unit (a ∷ b ∷ c ∷ d ∷ []) (encode x) m_text
    split true w =
        let f : i ≡ 13 = eqb-true i 13 w in
        let s : (j < 16) × (k < 16) × (l < 16) = (hex-small hj, hex-small hk, hex-small hl) in
        let m : 8 ≤ j → ⊥ = λ g. n (omega arith) in
        let q : x ≡ ((0xD0 + j) * 16 + k) * 16 + l = omega arith in
        rw q (quiet (first-d hi f) (quiet (second-unit hj (omega arith)) (hex-last (0xD0 + j) hk hl)))
    split false w = rw e (quiet (first-other hi (eqb-false i 13 w)) (quiet (second-other i hj) (hex-last (i * 16 + j) hk hl)))

-- the digits of a high surrogate
four-high : {x : ℕ} {bs : List ℕ} → Four x bs → In 0xD800 0xDBFF x → Acts m_unit bs [] (m_pair x)
four-high {x} (four {i = i} {j = j} {k = k} {l = l} hi hj hk hl e) n =
    let s : (j < 16) × (k < 16) × (l < 16) = (hex-small hj, hex-small hk, hex-small hl) in
    let q : x ≡ ((0xD0 + j) * 16 + k) * 16 + l = omega arith in
    rw q (quiet (first-d hi (omega arith)) (quiet (second-high hj (omega arith)) (high-last (0xD0 + j) hk hl)))

-- the digits of a low surrogate, after the high one u
four_low : {x : ℕ} {bs : List ℕ} (u : ℕ) → Four x bs → In 0xDC00 0xDFFF x → Acts (m_pair_d u) bs (encode (paired u x)) m_text
four_low {x} u (four {i = i} {j = j} {k = k} {l = l} hi hj hk hl e) n =
    let s : (j < 16) × (k < 16) × (l < 16) = (hex-small hj, hex-small hk, hex-small hl) in
    let q : x ≡ ((0xD0 + j) * 16 + k) * 16 + l = omega arith in
    rw q (quiet (low-d u hi (omega arith)) (quiet (second-low u hj (omega arith)) (low-last u (0xD0 + j) hk hl)))

-- \u between the two surrogates
pair_acts : {u : ℕ} {c bs : List ℕ} → Acts (m_pair_d u) bs c m_text → Acts (m_pair u) (0x5C ∷ 0x75 ∷ bs) c m_text
unfolding char_step pick
pair_acts f = quiet refl (quiet refl f)

-- ---- characters

plain_step : {b : ℕ} → In 0x20 0x7F b → (b ≡ 0x22 → ⊥) → (b ≡ 0x5C → ⊥) → char_step m_text b ≡ still m_text (b ∷ [])
unfolding char_step
plain_step h n m = pick-row 2 _ _ _ (omega arith)

pub char_acts : {c bs : List ℕ} → Char c bs → Acts m_text bs c m_text
char_acts (plain h n m) = next (plain_step h n m) rest refl
char_acts (wide w) = wide_acts w
char_acts (escape e) = escape_acts e
char_acts (unit f n e) = rw e (unit_acts (four-unit f n))
char_acts (pair f h g l e d) = rw (e, d) (unit_acts (acts_append (four-high f h) (pair_acts (four_low _ g l))))

pub chars_acts : {s bs : List ℕ} → Chars s bs → Acts m_text bs s m_text
chars_acts no_char = rest
chars_acts (char c cs e d) = rw (e, d) (acts_append (char_acts c) (chars_acts cs))

-- ---- in the machine

str_step_lem : {n : Mid} {xs : List ℕ} (m : Mid) (b p : ℕ) (r : Role) (q : ℕ) (s : List ℕ) (k : Stack) → char_step m b ≡ still n xs → step p (s_str m r q s k) b ≡ go (s_str n r q (s ++ xs) k)
unfolding step str_step
str_step_lem m b p r q s k e = rw e

pub acts_feeds : {m w : Mid} {bs xs : List ℕ} → Acts m bs xs w → (p : ℕ) (r : Role) (q : ℕ) (s : List ℕ) (k : Stack) → Feeds p (s_str m r q s k) bs (s_str w r q (s ++ xs) k)
acts_feeds rest p r q s k = rw append-nil stop
acts_feeds (next {xs = xs} e f d) p r q s k = rw d (more (str_step_lem _ _ p r q s k e) (rw append_assoc at (acts_feeds f (suc p) r q (s ++ xs) k)))

close-step : (p : ℕ) (r : Role) (q : ℕ) (s : List ℕ) (k : Stack) → step p (s_str m_text r q s k) 0x22 ≡ go (closed r q s k)
unfolding step char_step pick str_step
close-step p r q s k = refl

-- a string from a state in which it may begin
pub feeds-quoted : {p : ℕ} {st : State} {s bs : List ℕ} (r : Role) (k : Stack) → step p st 0x22 ≡ go (s_str m_text r p [] k) → Quoted s bs → Feeds p st bs (closed r p s k)
feeds-quoted {p} {s = s} r k e (quoted c d) = rw d (more e (feeds_append (acts_feeds (chars_acts c) (suc p) r p [] k) (more (close-step _ r p s k) stop)))
