-- A number's bits: one is set, the others stay.
use Prim.Native.Nat.{ℕ, suc, ◌+◌, ◌-◌, ◌/◌, ◌%◌, ◌^◌, max}
use mathlib.Core.Path.{◌≡◌, refl, ap, ◌∙◌}
use mathlib.Core.Bool.{Bool, true, false}
use native.Mathlib.Nat.{pow-suc, div-eq_of_lt, zero-div, div_self}
use native.Mathlib.Omega.{arith}
use lib.Bits.{bit_or, or_step, or_shr}
use borrow.Author.Tests.{ltb-true, ltb-false}
use lib.Dec.{eqb, ltb}
use lib.Pow.{pow-add, pow_pos, pow-lt, shl-shr}
use Rattle.places.specs.ByPlaces.{bit_of, with_bit}

or_odd : (a b : ℕ) → bit_or a b % 2 ≡ max (a % 2) (b % 2)
or_odd a b = rw (or_step a b) (omega arith)

bit_or_lem : (a k j : ℕ) → bit_or a (2 ^ k) / 2 ^ j % 2 ≡ max (a / 2 ^ j % 2) (2 ^ k / 2 ^ j % 2)
bit_or_lem a k j = rw (or_shr a (2 ^ k) j) (or_odd (a / 2 ^ j) (2 ^ k / 2 ^ j))

-- of a power of two every other bit is 0
power-other : (k j : ℕ) → (j ≡ k → ⊥) → 2 ^ k / 2 ^ j % 2 ≡ 0
power-other k j h = go' (ltb k j) refl
  where
    go' : (b : Bool) → ltb k j ≡ b → 2 ^ k / 2 ^ j % 2 ≡ 0
    go' true w = rw (div-eq_of_lt (pow-lt (ltb-true k j w)))
    go' false w =
        let n : ℕ = k - j - 1 in
        let l = ltb-false k j w in
        let e : k ≡ suc n + j = omega arith in
        rw (e, pow-add 2 (suc n) j, shl-shr (2 ^ suc n) j) (omega (arith, pow-suc 2 n))

pub no-bit : (k : ℕ) → bit_of 0 k ≡ false
no-bit k = rw (zero-div (2 ^ k))

pub bit-set : (x k : ℕ) → bit_of (with_bit x k) k ≡ true
bit-set x k =
    let e : max (x / 2 ^ k % 2) (2 ^ k / 2 ^ k % 2) ≡ 1 = rw (div_self (pow_pos k)) (omega arith) in
    rw (bit_or_lem x k k ∙ e)

pub bit_kept : (x k j : ℕ) → (j ≡ k → ⊥) → bit_of (with_bit x k) j ≡ bit_of x j
bit_kept x k j h =
    let e : max (x / 2 ^ j % 2) (2 ^ k / 2 ^ j % 2) ≡ x / 2 ^ j % 2 = rw (power-other k j h) (omega arith) in
    ap (λ (n : ℕ). eqb n 1) (bit_or_lem x k j ∙ e)
