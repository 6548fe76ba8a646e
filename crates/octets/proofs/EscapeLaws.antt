-- Bytes of a string, escaped.
use mathlib.Core.Path.{◌≡◌, refl, sym, ap, ◌∙◌}
use mathlib.Core.List.{List, [], ◌∷◌, ◌++◌}
use mathlib.Core.Bool.{Bool, true, false, ◌&&◌}
use Rattle.std.specs.Prelude.{Option, None, Some}
use Prim.Native.Nat.{ℕ, zero, suc, ◌+◌, ◌*◌, ◌/◌, ◌%◌, ◌<◌, ◌≤◌}
use native.Mathlib.Numerals.{add-one}
use native.Mathlib.Omega.{arith}
use borrow.Author.Tests.{lt-ltb, le-ltb, eqb-true, eqb-false}
use lib.Dec.{eqb, ltb}
use lib.ListN.{length, get_or, drop, drop_of_length-le, length-append}
use lib.Seq.{drop-cons, sets}
use Rattle.json_text.specs.Bytes.{pick}
use Rattle.json_text.proofs.SoundRows.{pick-within, ◌⨾◌}
use Rattle.jer.specs.Octets.{hex_digit}
use Rattle.jer.specs.Table.{same_bytes}
use Rattle.jer.specs.Write.{escaped, escapes}
use Rattle.jer.specs.Calls.{amount}
use Rattle.jer.proofs.ValidLaws.{same_bytes-eq}
use Rattle.octets.specs.Encode.{letter_for}
use Rattle.octets.proofs.PutLaws.{Putting, putting_next}
use Rattle.octets.proofs.AmountLaws.{amount-within, amount_add, amount-most}

-- ---- a test at every number below n, which antt computes

abbrev every : (ℕ → Bool) → ℕ → Bool
every f zero = true
every f (suc n) = f n && every f n

below : (f : ℕ → Bool) (n : ℕ) → every f n ≡ true → (k : ℕ) → k < n → f k ≡ true
below f zero t k h = absurd (omega arith)
below f (suc n) t k h = go (f n) refl t (below f n) (eqb k n) refl
  where
    go : (a : Bool) → f n ≡ a → (a && every f n) ≡ true → (every f n ≡ true → (j : ℕ) → j < n → f j ≡ true) → (c : Bool) → eqb k n ≡ c → f k ≡ true
    go false e w r c u = absurd (let z : ◌≡◌ {A = ℕ} 0 1 = cc in omega arith)
    go true e w r true u = ap f (eqb-true k n u) ∙ e
    go true e w r false u = r w k (omega (arith, eqb-false k n u))

-- ---- a byte, by its letter

-- with its letter, if it has one
escaped_by : Option ℕ → ℕ → List ℕ
escaped_by None b = elim (ltb b 0x20) [ true ↦ 0x5C ∷ 0x75 ∷ 0x30 ∷ 0x30 ∷ hex_digit (b / 16) ∷ hex_digit (b % 16) ∷ [] | false ↦ b ∷ [] ]
escaped_by (Some x) b = 0x5C ∷ x ∷ []

by-letter : (b : ℕ) → b < 256 → escaped b ≡ escaped_by (letter_for b) b
unfolding escaped escaped_by letter_for pick same_bytes hex_digit
by-letter b h = same_bytes-eq (escaped b) (escaped_by (letter_for b) b) (below (λ k. same_bytes (escaped k) (escaped_by (letter_for k) k)) 256 refl b h)

module _ {b : ℕ} (f : b < 256) where
  by_this : {x : Option ℕ} → x ≡ letter_for b → escaped b ≡ escaped_by x b
  by_this e = by-letter b f ∙ ap (λ (y : Option ℕ). escaped_by y b) (sym e)

  pub escaped-letter : {x : ℕ} → Some x ≡ letter_for b → escaped b ≡ 0x5C ∷ x ∷ []
  unfolding escaped_by
  escaped-letter e = by_this e

  module _ (e : None ≡ letter_for b) where
    pub escaped-plain : 0x20 ≤ b → escaped b ≡ b ∷ []
    unfolding escaped_by
    escaped-plain h = by_this e ∙ rw (le-ltb b 0x20 h, escaped_by)

    pub escaped_control : b < 0x20 → escaped b ≡ 0x5C ∷ 0x75 ∷ 0x30 ∷ 0x30 ∷ hex_digit (b / 16) ∷ hex_digit (b % 16) ∷ []
    unfolding escaped_by
    escaped_control h = by_this e ∙ rw (lt-ltb b 0x20 h, escaped_by)

pub control_digits : (b : ℕ) {x y : ℕ} → x ≡ hex_digit (b / 16) → y ≡ hex_digit (b % 16)
    → 0x5C ∷ 0x75 ∷ 0x30 ∷ 0x30 ∷ x ∷ y ∷ [] ≡ 0x5C ∷ 0x75 ∷ 0x30 ∷ 0x30 ∷ hex_digit (b / 16) ∷ hex_digit (b % 16) ∷ []
control_digits b e f = rw (e, f)

-- ---- how many bytes there are

abbrev OneToSix : List ℕ → Type 0
OneToSix l = (1 ≤ length l) × (length l ≤ 6)

escaped-few : (b : ℕ) → OneToSix (escaped b)
unfolding escaped
escaped-few b =
    pick-within OneToSix b _ (b ∷ [])
    ((λ i. (omega arith, omega arith))
    ⨾ (λ i. (omega arith, omega arith))
    ⨾ (λ i. (omega arith, omega arith))
    ⨾ (λ i. (omega arith, omega arith))
    ⨾ (λ i. (omega arith, omega arith))
    ⨾ (λ i. (omega arith, omega arith))
    ⨾ (λ i. (omega arith, omega arith))
    ⨾ (λ i. (omega arith, omega arith))
    ⨾ tt)
    (omega arith, omega arith)

pub escapes-few : (os : List ℕ) → (length os ≤ length (escapes os)) × (length (escapes os) ≤ 6 * length os)
unfolding escapes
escapes-few [] = (omega arith, omega arith)
escapes-few (b ∷ os) = let e = escaped-few b in let f = escapes-few os in (omega (arith, length-append (escaped b) (escapes os), e, f), omega (arith, length-append (escaped b) (escapes os), e, f))

-- ---- byte by byte

module _ (os : List ℕ) (i : ℕ) where
  pub escapes-more : i < length os → escapes (drop i os) ≡ escaped (get_or os i 0) ++ escapes (drop (i + 1) os)
  unfolding escapes
  escapes-more h = rw (drop-cons os i 0 h, add-one)

  pub escapes-done : length os ≤ i → escapes (drop i os) ≡ []
  unfolding escapes
  escapes-done h = rw (drop_of_length-le os h)

-- n bytes are counted, and the rest's
pub record Counting (os : List ℕ) (i n : ℕ) : Type 0 where
  pub counted : amount (n + length (escapes (drop i os))) ≡ amount (length (escapes os))
  pub most : n ≤ 18446744073709551615

pub counting-start : (os : List ℕ) → Counting os 0 0
counting-start os = record { counted = ap amount (let w : 0 + length (escapes os) ≡ length (escapes os) = omega arith in w); most = omega arith }

module _ (os : List ℕ) (i n : ℕ) (c : Counting os i n) where
  pub counting_more : i < length os → (x m : ℕ) → x ≡ length (escaped (get_or os i 0)) → m ≡ amount (n + x) → Counting os (i + 1) m
  counting_more h x m e f =
      let rest = length (escapes (drop (i + 1) os)) in
      let w : n + x + rest ≡ n + length (escapes (drop i os)) = omega (arith, e, ap length (escapes-more os i h), length-append (escaped (get_or os i 0)) (escapes (drop (i + 1) os))) in
      record { counted = rw f (amount_add (n + x) rest ∙ ap amount w ∙ c.counted); most = omega (arith, f, amount-most (n + x)) }

  pub counting-done : length os ≤ i → n ≡ amount (length (escapes os))
  counting-done h =
      let w : n + length (escapes (drop i os)) ≡ n = omega (arith, ap length (escapes-done os i h)) in
      amount-within n c.most ∙ ap amount (sym w) ∙ c.counted

-- stored, the next byte as r bytes
module _ (os : List ℕ) {before now : List ℕ} {i k n : ℕ} (p : Putting (escapes os) (escapes (drop i os)) before now k n) (h : i < length os) {r : ℕ} (e : r ≡ length (escaped (get_or os i 0))) where
  pub escapes-room : n + r ≤ length (escapes os)
  escapes-room = omega (arith, p.count, e, ap length (escapes-more os i h), length-append (escaped (get_or os i 0)) (escapes (drop (i + 1) os)))

  pub escapes-next : {after : List ℕ} → after ≡ sets now (k + n) (escaped (get_or os i 0)) → length after ≡ length now → Putting (escapes os) (escapes (drop (i + 1) os)) before after k (n + r)
  escapes-next f l = rw e (putting_next p (escaped (get_or os i 0)) (escapes (drop (i + 1) os)) (escapes-more os i h) f l)
