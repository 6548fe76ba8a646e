-- Bytes and parts of lists, and runs of stores.
use mathlib.Core.Path.{◌≡◌, refl, sym, ap, ◌∙◌}
use mathlib.Core.List.{List, [], ◌∷◌, ◌++◌}
use Prim.Native.Nat.{ℕ, zero, suc, ◌+◌, ◌-◌, ◌<◌, ◌≤◌}
use native.Mathlib.Nat.{add-zero, add-suc}
use native.Mathlib.Numerals.{add-one}
use native.Mathlib.Omega.{arith}
use lib.ListN.{length, get_or, take, drop, set, drop_of_length-le, length-drop, get_or-eq_default}
use lib.Seq.{drop-cons, drop-length, take_all, take-nil, sets}

-- ---- the byte at a place

pub byte_inside : (s : List ℕ) (p : ℕ) → p < length s → get_or s p 0 ≡ get_or s p 256
byte_inside [] p h = absurd (omega arith)
byte_inside (b ∷ s) zero h = refl
byte_inside (b ∷ s) (suc p) h = byte_inside s p (omega arith)

pub byte_past : (s : List ℕ) (p : ℕ) → length s ≤ p → get_or s p 256 ≡ 256
byte_past s p h = get_or-eq_default s 256 {n = p} h

-- ---- a part

module _ (s : List ℕ) (at n : ℕ) where
  pub part_past : length s ≤ at → [] ≡ take n (drop at s)
  part_past h = rw (drop_of_length-le s h) (sym (take-nil n))

  pub part_none : length s ≤ at → take (length s - length s) (drop (length s) s) ≡ take n (drop at s)
  part_none h = rw (drop-length s, drop_of_length-le s h, take-nil (length s - length s), take-nil n)

  pub part_rest : length s - at ≤ n → take (length s - at) (drop at s) ≡ take n (drop at s)
  part_rest h =
      take_all (length s - at) (drop at s) (omega (arith, length-drop at s))
      ∙ sym (take_all n (drop at s) (omega (arith, length-drop at s)))

  pub part_whole : take (at + n - at) (drop at s) ≡ take n (drop at s)
  part_whole = let g : at + n - at ≡ n = omega arith in rw g

-- ---- runs of stores

pub sets-one : (l : List ℕ) (i : ℕ) (x : List ℕ) (j : ℕ) → j < length x → sets l (i + j) (drop j x) ≡ sets (set l (i + j) (get_or x j 0)) (i + (j + 1)) (drop (j + 1) x)
sets-one l i x j h = rw (drop-cons x j 0 h, add-one j, add-suc i j)

pub sets-done : (l : List ℕ) (i : ℕ) (x : List ℕ) (j : ℕ) → length x ≤ j → l ≡ sets l (i + j) (drop j x)
sets-done l i x j h = rw (drop_of_length-le x h)

pub sets_append : (l : List ℕ) (i : ℕ) (xs ys : List ℕ) → sets l i (xs ++ ys) ≡ sets (sets l i xs) (i + length xs) ys
sets_append l i [] ys = ap (λ (k : ℕ). sets l k ys) (sym (add-zero i))
sets_append l i (x ∷ xs) ys = sets_append (set l i x) (suc i) xs ys ∙ ap (λ (k : ℕ). sets (sets (set l i x) (suc i) xs) k ys) (let e : suc i + length xs ≡ i + suc (length xs) = omega arith in e)
