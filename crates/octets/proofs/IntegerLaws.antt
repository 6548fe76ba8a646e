-- Decimal digits, from the last one to the first.
use mathlib.Core.Path.{◌≡◌, refl, sym, ap, ◌∙◌}
use mathlib.Core.List.{List, [], ◌∷◌}
use mathlib.Core.Bool.{Bool, true, false}
use Prim.Native.Nat.{ℕ, zero, suc, ◌+◌, ◌-◌, ◌/◌, ◌%◌, ◌^◌, ◌<◌, ◌≤◌}
use native.Mathlib.Nat.{pow-succ'}
use native.Mathlib.Numerals.{add-one}
use native.Mathlib.Omega.{arith}
use borrow.Author.Tests.{lt-ltb, le-ltb, ltb-true, ltb-false}
use lib.Dec.{ltb}
use lib.ListN.{length, set}
use lib.Seq.{sets}
use Rattle.jer.specs.Write.{digits, int_text}
use Rattle.octets.proofs.PutLaws.{set-sets}

module _ (f m : ℕ) (ds : List ℕ) where
  digits-one : m < 10 → digits (suc f) m ds ≡ (0x30 + m) ∷ ds
  unfolding digits
  digits-one h = rw (lt-ltb m 10 h, digits)

  digits_more : 10 ≤ m → digits (suc f) m ds ≡ digits f (m / 10) ((0x30 + m % 10) ∷ ds)
  unfolding digits
  digits_more h = rw (le-ltb m 10 h, digits)

digits-length : (f m : ℕ) (ds : List ℕ) → length (digits f m ds) ≡ length (digits f m []) + length ds
unfolding digits
digits-length zero m ds = omega arith
digits-length (suc f) m ds = go (ltb m 10) refl (λ es. digits-length f (m / 10) es)
  where
    go : (t : Bool) → ltb m 10 ≡ t → ((es : List ℕ) → length (digits f (m / 10) es) ≡ length (digits f (m / 10) []) + length es)
        → length (digits (suc f) m ds) ≡ length (digits (suc f) m []) + length ds
    go true e ih = let h = ltb-true m 10 e in omega (arith, ap length (digits-one f m ds h), ap length (digits-one f m [] h))
    go false e ih =
        let h = ltb-false m 10 e in
        omega (arith, ap length (digits_more f m ds h), ap length (digits_more f m [] h), ih ((0x30 + m % 10) ∷ ds), ih ((0x30 + m % 10) ∷ []))

-- the digits of n are those of m before ds; f + 1 are enough
pub record Digits (n m : ℕ) (ds : List ℕ) : Type 0 where
  pub fuel : ℕ
  pub small : m < 10 ^ suc fuel
  pub same : digits 20 n [] ≡ digits (suc fuel) m ds

pub digits-start : (n : ℕ) → n < 18446744073709551616 → Digits n n []
digits-start n h = record { fuel = 19; small = omega arith; same = refl }

module _ {n m : ℕ} {ds : List ℕ} (d : Digits n m ds) where
  pub digits-next : 10 ≤ m → Digits n (m / 10) ((0x30 + m % 10) ∷ ds)
  digits-next h = go d.fuel d.small d.same
    where
      go : (f : ℕ) → m < 10 ^ suc f → digits 20 n [] ≡ digits (suc f) m ds → Digits n (m / 10) ((0x30 + m % 10) ∷ ds)
      go zero s e = absurd (omega (arith, pow-succ' 10 zero))
      go (suc f) s e = record { fuel = f; small = omega (arith, pow-succ' 10 (suc f)); same = e ∙ digits_more (suc f) m ds h }

  pub digits_last : m < 10 → digits 20 n [] ≡ (0x30 + m) ∷ ds
  digits_last h = d.same ∙ digits-one d.fuel m ds h

  pub digits-left : length ds < length (digits 20 n [])
  digits-left = go (ltb m 10) refl
    where
      go : (t : Bool) → ltb m 10 ≡ t → length ds < length (digits 20 n [])
      go true e = let h = ltb-true m 10 e in omega (arith, ap length (digits-one d.fuel m ds h), ap length d.same)
      go false e =
          let h = ltb-false m 10 e in
          omega (arith, ap length (digits_more d.fuel m ds h), ap length d.same, digits-length d.fuel (m / 10) ((0x30 + m % 10) ∷ ds))

-- at most f digits
digits-few : (f m : ℕ) → length (digits f m []) ≤ f
unfolding digits
digits-few zero m = omega arith
digits-few (suc f) m = go (ltb m 10) refl (digits-few f (m / 10))
  where
    go : (t : Bool) → ltb m 10 ≡ t → length (digits f (m / 10) []) ≤ f → length (digits (suc f) m []) ≤ suc f
    go true e ih = omega (arith, ap length (digits-one f m [] (ltb-true m 10 e)))
    go false e ih = omega (arith, ap length (digits_more f m [] (ltb-false m 10 e)), digits-length f (m / 10) ((0x30 + m % 10) ∷ []))

-- ---- counted

-- count digits, and those before the last
pub record CountingDigits (n m count : ℕ) : Type 0 where
  pub ds : List ℕ
  pub left : Digits n m ds
  pub many : count ≡ length ds + 1

pub counting-start : (n : ℕ) → n < 18446744073709551616 → CountingDigits n n 1
counting-start n h = record { ds = []; left = digits-start n h; many = refl }

module _ {n m count : ℕ} (c : CountingDigits n m count) where
  pub counting_more : 10 ≤ m → CountingDigits n (m / 10) (count + 1)
  counting_more h = record { ds = (0x30 + m % 10) ∷ c.ds; left = digits-next c.left h; many = omega (arith, c.many) }

  pub counting-few : count ≤ 20
  counting-few = omega (arith, c.many, digits-left c.left, digits-few 20 n)

  pub counting-done : m < 10 → (count ≡ length (digits 20 n [])) × ((1 ≤ count) × (count ≤ 20))
  counting-done h = (omega (arith, c.many, ap length (digits_last c.left h)), (omega (arith, c.many), counting-few))

-- ---- stored

-- of the digits that are to stand from k on, all after the place i are stored
pub record PuttingDigits (n m : ℕ) (before now : List ℕ) (k i : ℕ) : Type 0 where
  pub ds : List ℕ
  pub left : Digits n m ds
  pub many : i + 1 + length ds ≡ length (digits 20 n [])
  pub stored : now ≡ sets before (k + i + 1) ds
  pub kept : length now ≡ length before

pub putting_start : (n : ℕ) (before : List ℕ) (k count : ℕ) → n < 18446744073709551616 → count ≡ length (digits 20 n []) → 1 ≤ count → PuttingDigits n n before before k (count - 1)
putting_start n before k count h e l = record { ds = []; left = digits-start n h; many = omega arith; stored = refl; kept = refl }

module _ {n m : ℕ} {before now : List ℕ} {k i : ℕ} (p : PuttingDigits n m before now k i) where
  one_more : (x : ℕ) {after : List ℕ} → after ≡ set now (k + i) x → after ≡ sets before (k + i) (x ∷ p.ds)
  one_more x e =
      e ∙ ap (λ (l : List ℕ). set l (k + i) x) p.stored ∙ set-sets before (k + i) (k + i + 1) x p.ds (omega arith)
      ∙ ap (λ (j : ℕ). sets (set before (k + i) x) j p.ds) (add-one (k + i))

  pub putting_few : i < 20
  putting_few = omega (arith, p.many, digits-few 20 n)

  pub putting_inside : 10 ≤ m → 1 ≤ i
  putting_inside h = omega (arith, p.many, digits-left (digits-next p.left h))

  pub putting_next : 10 ≤ m → {after : List ℕ} → after ≡ set now (k + i) (0x30 + m % 10) → length after ≡ length now → PuttingDigits n (m / 10) before after k (i - 1)
  putting_next h e l =
      let j = putting_inside h in
      let w : k + i ≡ k + (i - 1) + 1 = omega arith in
      record {
        ds = (0x30 + m % 10) ∷ p.ds;
        left = digits-next p.left h;
        many = omega (arith, p.many);
        stored = one_more (0x30 + m % 10) e ∙ ap (λ (q : ℕ). sets before q ((0x30 + m % 10) ∷ p.ds)) w;
        kept = l ∙ p.kept;
      }

  -- more than one digit is left while the place is not the first
  pub putting_more : 1 ≤ i → 10 ≤ m
  putting_more h = go (ltb m 10) refl
    where
      go : (t : Bool) → ltb m 10 ≡ t → 10 ≤ m
      go true e = absurd (omega (arith, p.many, ap length (digits_last p.left (ltb-true m 10 e))))
      go false e = ltb-false m 10 e

  pub putting_small : i ≡ 0 → m < 10
  putting_small h = go (ltb m 10) refl
    where
      go : (t : Bool) → ltb m 10 ≡ t → m < 10
      go true e = ltb-true m 10 e
      go false e = absurd (omega (arith, putting_inside (ltb-false m 10 e)))

  pub putting_done : m < 10 → {after : List ℕ} → after ≡ set now k (0x30 + m) → after ≡ sets before k (digits 20 n [])
  putting_done h e =
      let z : i ≡ 0 = omega (arith, p.many, ap length (digits_last p.left h)) in
      let w : k ≡ k + i = omega arith in
      one-more-first w e ∙ ap (sets before k) (sym (digits_last p.left h))
    where
      one-more-first : k ≡ k + i → {after : List ℕ} → after ≡ set now k (0x30 + m) → after ≡ sets before k ((0x30 + m) ∷ p.ds)
      one-more-first w {after} f =
          one_more (0x30 + m) (f ∙ ap (λ (q : ℕ). set now q (0x30 + m)) w) ∙ ap (λ (q : ℕ). sets before q ((0x30 + m) ∷ p.ds)) (sym w)

-- ---- the INTEGER

module _ (n : ℕ) where
  pub int-plus : n < 9223372036854775808 → int_text n ≡ digits 20 n []
  unfolding int_text
  int-plus h = rw (lt-ltb n 9223372036854775808 h, int_text)

  pub int-minus : (m : ℕ) → 9223372036854775808 ≤ n → n < 18446744073709551616 → m < 18446744073709551616 → (m + n) % 18446744073709551616 ≡ 0 → int_text n ≡ 0x2D ∷ digits 20 m []
  unfolding int_text
  int-minus m h k l e =
      let w : 18446744073709551616 - n ≡ m = omega arith in
      rw (le-ltb n 9223372036854775808 h, int_text, w)
