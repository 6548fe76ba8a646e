-- The weight of a JSON tree: a lower bound of the number of bytes of every text that has the tree.
use Prim.Native.Nat.{ℕ, zero, suc, ◌+◌, ◌-◌, ◌*◌, ◌/◌, ◌%◌, ◌^◌, ◌≤◌, ◌<◌}
use mathlib.Core.Path.{◌≡◌, refl}
use mathlib.Core.List.{List, [], ◌∷◌, ◌++◌}
use mathlib.Core.Bool.{Bool, true, false}
use native.Mathlib.Omega.{arith}
use native.Mathlib.Nat.{div-lt_iff_lt-mul, pow-suc, add-zero}
use lib.Dec.{ltb, lit<}
use lib.ListN.{length, length-append}
use borrow.Author.Tests.{ltb-false}
use Rattle.json_text.specs.Bytes.{pick}
use Rattle.json_text.specs.Tree.{Json, jnull, jbool, jint, jreal, jstr, jarr, jobj, Items, inil, icons, Members, mnil, mcons}
use Rattle.json_text.specs.Utf8.{Wide, two, three_e0, three_e1, three_eD, three_eE, four_f0, four_f1, four_f4, encode}
use Rattle.json_text.specs.Grammar.{Escape, quote, backslash, slash, backspace, form_feed, line_feed, carriage_return, tabulation, Four, four, paired, Char, plain, wide, escape, unit, pair, Chars, no_char, char, Quoted, quoted, Digits, last_digit, more_digits, Onward, stop, onward, Whole, nought, from, Signed, bare, minus, Power, small, small_plus, small_minus, large, large_plus, large_minus, Broken, fraction, power, both, Value, literal_null, literal_true, literal_false, whole, real, string, no_elements, elements, no_members, members, Padded, padded, Elements, last_element, more_elements, Named, last_member, more_members, Name, name}
use Rattle.json_text.proofs.SoundRows.{pick-within}
use Rattle.jer.specs.Rows.{bit}
use Rattle.jer.specs.Write.{digits, escaped, escapes}
use Rattle.jer.proofs.WeightGot.{branch}

-- The writer's own spelling of a string is a shortest one; of a number's digits it writes at most 20.
abbrev mutual
  pub weight : Json → ℕ
  weight (jnull p) = 4
  weight (jbool p true) = 4
  weight (jbool p false) = 5
  weight (jint p m n) = bit m + length (digits 20 n [])
  weight (jreal p) = 3
  weight (jstr p s) = 2 + length (escapes s)
  weight (jarr p is) = 2 + (items_weight is - 1)
  weight (jobj p ms) = 2 + (members_weight ms - 1)

  -- with a comma each
  pub items_weight : Items → ℕ
  items_weight inil = 0
  items_weight (icons j is) = weight j + 1 + items_weight is

  pub members_weight : Members → ℕ
  members_weight mnil = 0
  members_weight (mcons p s j ms) = length (escapes s) + weight j + 4 + members_weight ms

-- ---- strings

-- a byte that the writer writes bare
escaped-bare : (b : ℕ) → 0x20 ≤ b → (b ≡ 0x22 → ⊥) → (b ≡ 0x5C → ⊥) → length (escaped b) ≤ 1
unfolding escaped
escaped-bare b l q s = pick-within (λ (x : List ℕ). length x ≤ 1) b _ _ (omega arith) (omega arith)

escaped-most : (b : ℕ) → length (escaped b) ≤ 6
unfolding escaped
escaped-most b = pick-within (λ (x : List ℕ). length x ≤ 6) b _ _ (omega arith) (omega arith)

pub escaped_least : (b : ℕ) → 1 ≤ length (escaped b)
unfolding escaped
escaped_least b = pick-within (λ (x : List ℕ). 1 ≤ length x) b _ _ (omega arith) (omega arith)

pub escapes_least : (s : List ℕ) → length s ≤ length (escapes s)
unfolding escapes
escapes_least [] = omega arith
escapes_least (b ∷ s) = let h = escapes_least s in let k = escaped_least b in simp length-append (omega arith)

escapes_append : (s u : List ℕ) → length (escapes (s ++ u)) ≡ length (escapes s) + length (escapes u)
unfolding escapes
escapes_append [] u = omega arith
escapes_append (b ∷ s) u = let h = escapes_append s u in simp length-append (omega arith)

escapes-one : (b : ℕ) → length (escapes (b ∷ [])) ≡ length (escaped b)
unfolding escapes
escapes-one b = simp length-append (omega arith)

-- the bytes of wide characters
abbrev High : List ℕ → Type 0
High [] = Unit {0}
High (b ∷ s) = (0x80 ≤ b) × High s

high-bare : (s : List ℕ) → High s → length (escapes s) ≤ length s
unfolding escapes
high-bare [] h = omega arith
high-bare (b ∷ s) h =
    let e = escaped-bare b (omega arith) (omega arith) (omega arith) in
    let k = high-bare s h.1 in
    simp length-append (omega arith)

wide_high : {c : List ℕ} → Wide c → High c
wide_high (two h k) = omega arith
wide_high (three_e0 h k) = omega arith
wide_high (three_e1 a h k) = omega arith
wide_high (three_eD h k) = omega arith
wide_high (three_eE a h k) = omega arith
wide_high (four_f0 h k l) = omega arith
wide_high (four_f1 a h k l) = omega arith
wide_high (four_f4 h k l) = omega arith

-- a character that is escaped by its number takes six bytes or more
encode-most : (x : ℕ) → length (escapes (encode x)) ≤ 6
unfolding encode
encode-most x = branch Q (ltb x 0x80) (λ e. one) (λ e. branch Q (ltb x 0x800) (λ f. more _ (omega arith)) (λ f. branch Q (ltb x 0x10000) (λ g. more _ (omega arith)) (λ g. more _ (omega arith))))
  where
    Q : List ℕ → Type 0
    Q c = length (escapes c) ≤ 6

    one : Q (x ∷ [])
    one = omega (arith, escapes-one x, escaped-most x)

    more : (c : List ℕ) → High c × (length c ≤ 6) → Q c
    more c h = let k = high-bare c h.0 in omega arith

letter_least : {c b : ℕ} → Escape c b → length (escapes (c ∷ [])) ≤ 2
unfolding escapes escaped pick
letter_least quote = omega arith
letter_least backslash = omega arith
letter_least slash = omega arith
letter_least backspace = omega arith
letter_least form_feed = omega arith
letter_least line_feed = omega arith
letter_least carriage_return = omega arith
letter_least tabulation = omega arith

four-length : {x : ℕ} {bs : List ℕ} → Four x bs → length bs ≡ 4
four-length (four a b c d e) = refl

char_least : {c bs : List ℕ} → Char c bs → length (escapes c) ≤ length bs
char_least (plain {b = b} h q s) = let e = escaped-bare b h.0 q s in omega (arith, escapes-one b)
char_least {c} (wide w) = high-bare c (wide_high w)
char_least (escape e) = letter_least e
char_least (unit {x = x} f n {c = c} e) = let k = four-length f in let m = encode-most x in rw e (omega arith)
char_least (pair {h = h} {l = l} {bs = bs} {cs = cs} f n g m {c = c} e d) =
    let k = four-length f in
    let o = encode-most (paired h l) in
    rw (e, d) (simp length-append (omega arith))

chars_least : {s bs : List ℕ} → Chars s bs → length (escapes s) ≤ length bs
unfolding escapes
chars_least no_char = omega arith
chars_least (char {c = c} {s = s} h k e f) =
    let a = char_least h in
    let b = chars_least k in
    rw (e, f) (simp length-append (omega (arith, escapes_append c s)))

quoted_least : {s bs : List ℕ} → Quoted s bs → 2 + length (escapes s) ≤ length bs
quoted_least (quoted h e) = let a = chars_least h in rw e (simp length-append (omega arith))

-- ---- numbers

-- the digits of a number below a power of ten
pub digits-most : (f n : ℕ) (ds : List ℕ) (m : ℕ) → n < 10 ^ suc m → length (digits f n ds) ≤ suc m + length ds
unfolding digits
digits-most zero n ds m h = omega arith
digits-most (suc f) n ds m h = branch (λ (x : List ℕ). length x ≤ suc m + length ds) (ltb n 10) (λ w. omega arith) (λ w. go m h (ltb-false _ _ w) (digits-most f))
  where
    go : (m : ℕ) → n < 10 ^ suc m → 10 ≤ n → ((x : ℕ) (es : List ℕ) (k : ℕ) → x < 10 ^ suc k → length (digits f x es) ≤ suc k + length es)
        → length (digits f (n / 10) ((0x30 + n % 10) ∷ ds)) ≤ suc m + length ds
    go zero h l ih = absurd (omega arith)
    go (suc m) h l ih =
        let q : n / 10 < 10 ^ suc m = (div-lt_iff_lt-mul (lit< tt)).1 (rw pow-suc at h) in
        let r = ih (n / 10) ((0x30 + n % 10) ∷ ds) m q in
        omega arith

onward-below : {m n : ℕ} {bs : List ℕ} (k : ℕ) → Onward m n bs → m < 10 ^ k → n < 10 ^ (k + length bs)
onward-below k stop l = rw (add-zero k) l
onward-below k (onward {m = m} {b = b} {bs = bs} h o) l =
    let q : m * 10 + (b - 0x30) < 10 ^ suc k = rw pow-suc (omega arith) in
    let e : suc k + length bs ≡ k + suc (length bs) = omega arith in
    rw e at (onward-below (suc k) o q)

whole_least : {n : ℕ} {bs : List ℕ} → Whole n bs → length (digits 20 n []) ≤ length bs
whole_least nought = digits-most 20 0 [] 0 (lit< tt)
whole_least (from {n = n} {b = b} {bs = bs} h o) =
    let q : b - 0x30 < 10 ^ 1 = omega arith in
    let e : 1 + length bs ≡ suc (length bs) = omega arith in
    let r = digits-most 20 n [] (length bs) (rw e at (onward-below 1 o q)) in
    omega arith

signed_least : {m : Bool} {n : ℕ} {bs : List ℕ} → Signed m n bs → bit m + length (digits 20 n []) ≤ length bs
unfolding bit
signed_least (bare h) = let k = whole_least h in omega arith
signed_least (minus h) = let k = whole_least h in omega arith

signed-some : {m : Bool} {n : ℕ} {bs : List ℕ} → Signed m n bs → 1 ≤ length bs
signed-some (bare nought) = omega arith
signed-some (bare (from h o)) = omega arith
signed-some (minus h) = omega arith

digits-some : {bs : List ℕ} → Digits bs → 1 ≤ length bs
digits-some (last_digit h) = omega arith
digits-some (more_digits h d) = omega arith

power-some : {bs : List ℕ} → Power bs → 2 ≤ length bs
power-some (small d) = let h = digits-some d in omega arith
power-some (small_plus d) = let h = digits-some d in omega arith
power-some (small_minus d) = let h = digits-some d in omega arith
power-some (large d) = let h = digits-some d in omega arith
power-some (large_plus d) = let h = digits-some d in omega arith
power-some (large_minus d) = let h = digits-some d in omega arith

broken-some : {bs : List ℕ} → Broken bs → 2 ≤ length bs
broken-some (fraction d) = let h = digits-some d in omega arith
broken-some (power h) = power-some h
broken-some (both d h e) = let a = digits-some d in rw e (simp length-append (omega arith))

-- ---- values

-- a law of the tree's weight, and with the closing bracket for the last comma of its elements and members
mutual
  pub weight_least : {d p : ℕ} {j : Json} {bs : List ℕ} → Value d p j bs → weight j ≤ length bs
  weight_least literal_null = omega arith
  weight_least literal_true = omega arith
  weight_least literal_false = omega arith
  weight_least (whole h) = signed_least h
  weight_least (real {bs = bs} {cs = cs} h k e) = let a = signed-some h in let b = broken-some k in rw e (simp length-append (omega arith))
  weight_least (string h) = quoted_least h
  weight_least (no_elements h e) = rw e (simp length-append (omega arith))
  weight_least (elements h) = let a = elements_least h in omega arith
  weight_least (no_members h e) = rw e (simp length-append (omega arith))
  weight_least (members h) = let a = members_least h in omega arith

  pub padded_least : {d p : ℕ} {j : Json} {bs : List ℕ} → Padded d p j bs → weight j ≤ length bs
  padded_least (padded h q v k e) = let a = weight_least v in rw e (simp length-append (omega arith))

  elements_least : {d p : ℕ} {is : Items} {bs : List ℕ} → Elements d p is bs → (1 ≤ length bs) × (items_weight is ≤ length bs)
  elements_least (last_element v e) = let a = padded_least v in rw e (simp length-append (omega arith))
  elements_least (more_elements v q es e) = let a = padded_least v in let b = elements_least es in rw e (simp length-append (omega arith))

  members_least : {d p : ℕ} {ms : Members} {bs : List ℕ} → Named d p ms bs → (1 ≤ length bs) × (members_weight ms ≤ length bs)
  members_least (last_member n v e) = let c = name_least n in let a = padded_least v in rw e (simp length-append (omega arith))
  members_least (more_members n v q ms e) = let c = name_least n in let a = padded_least v in let b = members_least ms in rw e (simp length-append (omega arith))

  name_least : {p q r : ℕ} {s bs : List ℕ} → Name p q r s bs → 3 + length (escapes s) ≤ length bs
  name_least (name h q k l e r) = let a = quoted_least k in rw e (simp length-append (omega arith))
