-- Decimal numbers, and the halves of their two's complement.
use mathlib.Core.Path.{◌≡◌, refl, sym, ap, ◌∙◌}
use mathlib.Core.List.{List}
use mathlib.Core.Bool.{Bool, true, false, ◌||◌}
use Rattle.std.specs.Prelude.{Option, None, Some}
use Prim.Native.Nat.{ℕ, zero, suc, ◌+◌, ◌-◌, ◌*◌, ◌^◌, ◌%◌, ◌<◌, ◌≤◌}
use native.Mathlib.Nat.{le_refl}
use native.Mathlib.Omega.{arith}
use borrow.Author.Tests.{eq-eqb, ne_eqb, lt-ltb, le-ltb, le-leb, lt-leb, leb-true, leb-false}
use lib.Dec.{eqb, leb}
use Rattle.tokens.specs.Places.{byte_at, run_from}
use Rattle.tokens.specs.Numbers.{is_digit, digits_at, magnitude_at, broken_at, complement, whole_at, integer_at}
use Rattle.tokens.specs.Enums.{within}

-- ---- digits

-- a number only grows with its digits
digits-grow : (s : List ℕ) (n p m : ℕ) → m ≤ digits_at s p n m
unfolding digits_at
digits-grow s zero p m = le_refl m
digits-grow s (suc n) p m = let r = digits-grow s n (p + 1) (m * 10 + (byte_at s p - 0x30)) in omega arith

module _ (s : List ℕ) (p end m : ℕ) where
  pub digits-end : end ≤ p → digits_at s p (end - p) m ≡ m
  unfolding digits_at
  digits-end h = let f : end - p ≡ 0 = omega arith in rw f

  module _ (d b : ℕ) (h : p < end) (e : d ≡ b - 0x30) (f : b ≡ byte_at s p) where
    pub digits-one : digits_at s p (end - p) m ≡ digits_at s (p + 1) (end - (p + 1)) (m * 10 + d)
    unfolding digits_at
    digits-one = let g : end - p ≡ suc (end - (p + 1)) = omega arith in rw (g, e, f)

    -- with the next digit the number is above 2^63, and stays so
    pub digits-over : (x : ℕ) → 2 ^ 63 < m * 10 + d → digits_at s p (end - p) m ≡ x → None ≡ within x
    digits-over x l g =
        let k : m * 10 + d ≤ x = omega (arith, digits-grow s (end - (p + 1)) (p + 1) (m * 10 + d), digits-one, g) in
        rw (lt-leb x (2 ^ 63) (omega arith), within)

pub digits-fit : (m x : ℕ) → m ≤ 2 ^ 63 → m ≡ x → Some m ≡ within x
digits-fit m x h e = rw (le-leb x (2 ^ 63) (omega arith), within) (ap Some e)

within-over : (x : ℕ) → None ≡ within x → 2 ^ 63 < x
within-over x h = go (leb x (2 ^ 63)) refl h
  where
    go : (t : Bool) → leb x (2 ^ 63) ≡ t → None ≡ elim t as (λ z. Option ℕ) [ true ↦ Some x | false ↦ None ] → 2 ^ 63 < x
    go true e w = absurd (let z : ◌≡◌ {A = ℕ} 0 1 = cc in omega arith)
    go false e w = leb-false x (2 ^ 63) e

pub within-fits : (m x : ℕ) → Some m ≡ within x → (m ≡ x) × (m ≤ 2 ^ 63)
within-fits m x h = go (leb x (2 ^ 63)) refl h
  where
    go : (t : Bool) → leb x (2 ^ 63) ≡ t → Some m ≡ elim t as (λ z. Option ℕ) [ true ↦ Some x | false ↦ None ] → (m ≡ x) × (m ≤ 2 ^ 63)
    go true e w = let k : m ≡ x = cc in (k, omega (arith, leb-true x (2 ^ 63) e))
    go false e w = absurd (let z : ◌≡◌ {A = ℕ} 0 1 = cc in omega arith)

-- ---- the two's complement

module _ (minus : Bool) (m : ℕ) where
  pub complement_minus : (n : ℕ) → minus ≡ true → m ≤ 2 ^ 63 → n < 2 ^ 64 → (n + m) % 2 ^ 64 ≡ 0 → Some n ≡ complement minus m
  unfolding complement
  complement_minus n e h l k = rw e (go m h k)
    where
      go : (m : ℕ) → m ≤ 2 ^ 63 → (n + m) % 2 ^ 64 ≡ 0 → Some n ≡ complement true m
      go zero h k = ap Some (omega arith)
      go (suc i) h k =
          let j : n ≡ 2 ^ 64 - suc i = omega arith in
          rw (le-leb (suc i) (2 ^ 63) h, complement, j)

  pub complement_most : minus ≡ false → m ≡ 9223372036854775808 → None ≡ complement minus m
  unfolding complement
  complement_most e h = rw (e, le-ltb m (2 ^ 63) (omega arith), complement)

  pub complement_plus : minus ≡ false → m ≤ 2 ^ 63 → (m ≡ 9223372036854775808 → ⊥) → Some m ≡ complement minus m
  unfolding complement
  complement_plus e l h = rw (e, lt-ltb m (2 ^ 63) (omega arith), complement)

  complement-over : 2 ^ 63 < m → complement minus m ≡ None
  unfolding complement
  complement-over h = go minus m h
    where
      go : (t : Bool) (n : ℕ) → 2 ^ 63 < n → complement t n ≡ None
      go false n l = rw (le-ltb n (2 ^ 63) (omega arith), complement)
      go true zero l = absurd (omega arith)
      go true (suc n) l = rw (lt-leb (suc n) (2 ^ 63) l, complement)

-- ---- whole numbers

module _ (s : List ℕ) (p end b : ℕ) (minus : Bool) (f : end ≡ run_from is_digit s p) (e : b ≡ byte_at s end) where
  broken-is : broken_at s p ≡ (eqb b 0x2E || (eqb b 0x45 || eqb b 0x65))
  unfolding broken_at
  broken-is = rw (e, f)

  pub whole_broken : (eqb b 0x2E || (eqb b 0x45 || eqb b 0x65)) ≡ true → None ≡ whole_at s p minus
  unfolding whole_at
  whole_broken h = rw (broken-is ∙ h, whole_at)

  module _ (h : (eqb b 0x2E || (eqb b 0x45 || eqb b 0x65)) ≡ false) where
    whole_is : whole_at s p minus ≡ complement minus (digits_at s p (end - p) 0)
    unfolding whole_at magnitude_at
    whole_is = rw (broken-is ∙ h, whole_at) (rw f)

    pub whole-over : None ≡ within (digits_at s p (end - p) 0) → None ≡ whole_at s p minus
    whole-over w = rw (whole_is, complement-over minus (digits_at s p (end - p) 0) (within-over (digits_at s p (end - p) 0) w))

    pub whole-fits : (m : ℕ) → Some m ≡ within (digits_at s p (end - p) 0) → complement minus m ≡ whole_at s p minus
    whole-fits m w = rw (whole_is, (within-fits m (digits_at s p (end - p) 0) w).0)

-- ---- the number at a place

module _ (s : List ℕ) (p b : ℕ) (e : b ≡ byte_at s p) where
  pub integer_minus : b ≡ 0x2D → whole_at s (p + 1) true ≡ integer_at s p
  unfolding integer_at
  integer_minus h = rw (eq-eqb (byte_at s p) 0x2D (sym e ∙ h), integer_at)

  pub integer_plain : (b ≡ 0x2D → ⊥) → whole_at s p false ≡ integer_at s p
  unfolding integer_at
  integer_plain h = rw (ne_eqb (byte_at s p) 0x2D (λ w. h (e ∙ w)), integer_at)
