-- Amounts that stay at the greatest 64-bit number.
use mathlib.Core.Path.{◌≡◌, refl, sym, ap, ◌∙◌}
use mathlib.Core.Bool.{Bool, true, false}
use Prim.Native.Nat.{ℕ, ◌+◌, ◌≤◌, min}
use native.Mathlib.Omega.{arith}
use borrow.Author.Tests.{le-leb, leb-true, leb-false}
use lib.Dec.{leb}
use Rattle.jer.specs.Calls.{amount}

abbrev greatest : ℕ
greatest = 18446744073709551615

pub amount-within : (n : ℕ) → n ≤ greatest → n ≡ amount n
unfolding amount
amount-within n h = rw (le-leb n greatest h, amount)

pub amount-over : (n : ℕ) → greatest ≤ n → greatest ≡ amount n
unfolding amount
amount-over n h = go (leb n greatest) refl
  where
    go : (t : Bool) → leb n greatest ≡ t → greatest ≡ amount n
    go true e = let w : greatest ≡ n = omega (arith, leb-true n greatest e) in w ∙ amount-within n (omega arith)
    go false e = rw (e, amount)

pub amount_is : (n : ℕ) → min n greatest ≡ amount n
unfolding amount
amount_is n = go (leb n greatest) refl
  where
    go : (t : Bool) → leb n greatest ≡ t → min n greatest ≡ amount n
    go true e = rw (e, amount) (omega (arith, leb-true n greatest e))
    go false e = rw (e, amount) (omega (arith, leb-false n greatest e))

-- an amount may be cut before more is added
pub amount_add : (a b : ℕ) → amount (amount a + b) ≡ amount (a + b)
amount_add a b = go (leb a greatest) refl
  where
    go : (t : Bool) → leb a greatest ≡ t → amount (amount a + b) ≡ amount (a + b)
    go true e = ap (λ (n : ℕ). amount (n + b)) (sym (amount-within a (leb-true a greatest e)))
    go false e =
        let h = leb-false a greatest e in
        ap (λ (n : ℕ). amount (n + b)) (sym (amount-over a (omega arith))) ∙ sym (amount-over (greatest + b) (omega arith)) ∙ amount-over (a + b) (omega arith)

pub amount-most : (n : ℕ) → amount n ≤ greatest
amount-most n = go (leb n greatest) refl
  where
    go : (t : Bool) → leb n greatest ≡ t → amount n ≤ greatest
    go true e = let h = leb-true n greatest e in omega (arith, amount-within n h)
    go false e = let h = leb-false n greatest e in omega (arith, amount-over n (omega arith))
