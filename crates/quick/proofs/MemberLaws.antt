-- Null at a place, members that are missing, and the bits of members met.
use Prim.Native.Nat.{ℕ, zero, suc, ◌+◌, ◌/◌, ◌%◌, ◌^◌, ◌<◌, max}
use mathlib.Core.Path.{◌≡◌, refl, sym, ap, ◌∙◌}
use mathlib.Core.List.{List}
use mathlib.Core.Bool.{Bool, true, false}
use native.Mathlib.Nat.{pow-suc, pow-succ', div-one, div-div-eq-div-mul}
use native.Mathlib.Omega.{arith}
use borrow.Author.Tests.{eqb-true, eqb-false, ne_eqb}
use lib.Bits.{bit_or, or_step, or_zero_r}
use lib.Count.{ones, ones_step}
use lib.Dec.{eqb}
use lib.ListN.{drop}
use Rattle.json_text.specs.Bytes.{In}
use Rattle.json_text.specs.Tree.{Json}
use Rattle.jer.specs.Table.{Table, may_miss}
use Rattle.jer.specs.Read.{null?}
use Rattle.tokens.specs.Places.{byte_at}
use Rattle.tokens.proofs.TieFirst.{FirstByte, of_null, of_true, of_false, of_minus, of_digit, of_real_minus, of_real_digit, of_string, of_array, of_object, first_byte}
use Rattle.places.specs.ByPlaces.{bit_of, with_bit}
use Rattle.places.proofs.MeaningFirst.{null_byte}
use Rattle.quick.specs.Stood.{TreeAt}

-- ---- null

-- the first byte tells whether a value is null
pub null-at : (s : List ℕ) (d p q : ℕ) (j : Json) → TreeAt s d p q j → eqb (byte_at s p) 0x6E ≡ null? j
null-at s d p q j k = null_byte (first_byte s (drop q s) k.holds k.text)

-- ---- the ones of the members met

or_half : (a b : ℕ) → bit_or a b / 2 ≡ bit_or (a / 2) (b / 2)
or_half a b = rw (or_step a b) (omega arith)

or_odd : (a b : ℕ) → bit_or a b % 2 ≡ max (a % 2) (b % 2)
or_odd a b = rw (or_step a b) (omega arith)

pub ones_with : (k x : ℕ) → bit_of x k ≡ false → ones (with_bit x k) ≡ ones x + 1
ones_with zero x h =
    let f = eqb-false (x / 2 ^ 0 % 2) 1 h in
    let o : x % 2 ≡ 0 = omega (arith, f, div-one x) in
    ones_step (bit_or x 1) ∙ rw (or_half x 1, or_odd x 1, or_zero_r (x / 2), o) (omega (arith, ones_step x))
ones_with (suc k) x h =
    let e : 2 ^ suc k / 2 ≡ 2 ^ k = omega (arith, pow-suc 2 k) in
    let o : 2 ^ suc k % 2 ≡ 0 = omega (arith, pow-suc 2 k) in
    let g : bit_of (x / 2) k ≡ false = ap (λ (n : ℕ). eqb (n % 2) 1) (div-div-eq-div-mul x 2 (2 ^ k) ∙ ap (λ (n : ℕ). x / n) (sym (pow-succ' 2 k))) ∙ h in
    let i = ones_with k (x / 2) g in
    ones_step (bit_or x (2 ^ suc k)) ∙ rw (or_half x (2 ^ suc k), or_odd x (2 ^ suc k), e, o, i) (omega (arith, ones_step x))

-- ---- members that are missing

pub both_ways : {b : Bool} → b ≡ true → b ≡ false → ⊥
both_ways h e = let z : ◌≡◌ {A = ℕ} 0 1 = cc in omega arith

pub never : false ≡ true → ⊥
never h = let z : ◌≡◌ {A = ℕ} 0 1 = cc in omega arith

pub missing-more : (t : Table) (r met k : ℕ) → ((i : ℕ) → i < k → bit_of met i ≡ false → may_miss t r i ≡ true) → (bit_of met k ≡ false → may_miss t r k ≡ true) → (i : ℕ) → i < k + 1 → bit_of met i ≡ false → may_miss t r i ≡ true
missing-more t r met k f g i l h = go (eqb i k) refl
  where
    go : (b : Bool) → eqb i k ≡ b → may_miss t r i ≡ true
    go true e = let w = eqb-true i k e in ap (λ (x : ℕ). may_miss t r x) w ∙ g (ap (λ (x : ℕ). bit_of met x) (sym w) ∙ h)
    go false e = f i (omega (arith, eqb-false i k e)) h
