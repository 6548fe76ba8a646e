-- How lists begin, and equal bytes.
use mathlib.Core.Path.{◌≡◌, refl, sym, ap, ◌∙◌}
use mathlib.Core.List.{List, [], ◌∷◌, ◌++◌}
use mathlib.Core.Bool.{Bool, true, false, ◌&&◌}
use Prim.Native.Nat.{ℕ, zero, suc, ◌+◌, ◌-◌, ◌<◌, ◌≤◌}
use native.Mathlib.Numerals.{add-one}
use native.Mathlib.Omega.{arith}
use borrow.Author.Tests.{eq-eqb, ne_eqb, eqb-true, eqb-false}
use lib.Dec.{eqb}
use lib.ListN.{length, get_or, take, drop, drop_of_length-le, length-drop}
use lib.Seq.{drop-cons, drop-drop, take-length}
use Rattle.std.specs.List.{starts_with}
use Rattle.jer.specs.Table.{same_bytes}
use Rattle.slices.proofs.PartLaws.{part_past}
use Rattle.tokens.specs.Places.{byte_at}

-- ---- the same bytes

pub same_end : (l : List ℕ) (k : ℕ) → k ≤ length l → eqb k (length l) ≡ same_bytes (drop k l) []
unfolding same_bytes
same_end l k h = go (eqb k (length l)) refl
  where
    go : (t : Bool) → eqb k (length l) ≡ t → t ≡ same_bytes (drop k l) []
    go true e = rw (drop_of_length-le l {i = k} (omega (arith, eqb-true k (length l) e)))
    go false e = rw (drop-cons l k 0 (omega (arith, eqb-false k (length l) e)))

pub same_more : (l : List ℕ) (k b : ℕ) (ys : List ℕ) → k < length l → get_or l k 0 ≡ b → same_bytes (drop k l) (b ∷ ys) ≡ same_bytes (drop (k + 1) l) ys
unfolding same_bytes
same_more l k b ys h e = rw (drop-cons l k 0 h, add-one k, eq-eqb (get_or l k 0) b e, same_bytes)

pub same-differ : (l : List ℕ) (k b : ℕ) (ys : List ℕ) → (byte_at l k ≡ b → ⊥) → false ≡ same_bytes (drop k l) (b ∷ ys)
unfolding same_bytes
same-differ [] k b ys e = rw (drop_of_length-le {A = ℕ} [] {i = k} (omega arith))
same-differ (x ∷ l) zero b ys e = rw (ne_eqb x b e, same_bytes)
same-differ (x ∷ l) (suc k) b ys e = same-differ l k b ys e

-- a part of l that does not begin with b
pub same_first : (l : List ℕ) (k b : ℕ) (ys : List ℕ) (n : ℕ) → (byte_at l k ≡ b → ⊥) → same_bytes (take n (drop k l)) (b ∷ ys) ≡ false
unfolding same_bytes
same_first [] k b ys n e = rw (← part_past [] k n (omega arith))
same_first (x ∷ l) zero b ys zero e = refl
same_first (x ∷ l) zero b ys (suc n) e = rw (ne_eqb x b e, same_bytes)
same_first (x ∷ l) (suc k) b ys n e = same_first l k b ys n e

-- bytes that begin with x
same-cut : (x l ys : List ℕ) → starts_with eqb l x ≡ true → (same_bytes l (x ++ ys) ≡ same_bytes (drop (length x) l) ys) × (length x ≤ length l)
unfolding same_bytes
same-cut [] l ys h = (refl, omega arith)
same-cut (a ∷ x) [] ys h = absurd (let z : ◌≡◌ {A = ℕ} 0 1 = cc in omega arith)
same-cut (a ∷ x) (b ∷ l) ys h = go (eqb a b) refl h (same-cut x l ys)
  where
    go : (t : Bool) → eqb a b ≡ t → (t && starts_with eqb l x) ≡ true
        → (starts_with eqb l x ≡ true → (same_bytes l (x ++ ys) ≡ same_bytes (drop (length x) l) ys) × (length x ≤ length l))
        → (same_bytes (b ∷ l) (a ∷ (x ++ ys)) ≡ same_bytes (drop (length x) l) ys) × (suc (length x) ≤ suc (length l))
    go true e w ih = (rw (eq-eqb b a (sym (eqb-true a b e)), same_bytes) (ih w).0, omega (arith, (ih w).1))
    go false e w ih = absurd (let z : ◌≡◌ {A = ℕ} 0 1 = cc in omega arith)

same_not : (x l ys : List ℕ) → starts_with eqb l x ≡ false → false ≡ same_bytes l (x ++ ys)
unfolding same_bytes
same_not [] l ys h = absurd (let z : ◌≡◌ {A = ℕ} 0 1 = cc in omega arith)
same_not (a ∷ x) [] ys h = refl
same_not (a ∷ x) (b ∷ l) ys h = go (eqb a b) refl h (same_not x l ys)
  where
    go : (t : Bool) → eqb a b ≡ t → (t && starts_with eqb l x) ≡ false
        → (starts_with eqb l x ≡ false → false ≡ same_bytes l (x ++ ys)) → false ≡ same_bytes (b ∷ l) (a ∷ (x ++ ys))
    go true e w ih = rw (eq-eqb b a (sym (eqb-true a b e)), same_bytes) (ih w)
    go false e w ih = rw (ne_eqb b a (λ q. eqb-false a b e (sym q)), same_bytes)

-- what is left of l, as the code cuts it
module _ (l : List ℕ) (k : ℕ) (x ys : List ℕ) where
  rest_is : take (length l - k) (drop k l) ≡ drop k l
  rest_is = rw (← length-drop k l) (take-length (drop k l))

  pub same-begins : starts_with eqb (take (length l - k) (drop k l)) x ≡ true → same_bytes (drop k l) (x ++ ys) ≡ same_bytes (drop (k + length x) l) ys
  same-begins h = (same-cut x (drop k l) ys (rw rest_is at h)).0 ∙ ap (λ (m : List ℕ). same_bytes m ys) (drop-drop (length x) k l)

  pub same-room : k ≤ length l → starts_with eqb (take (length l - k) (drop k l)) x ≡ true → k + length x ≤ length l
  same-room m h = omega (arith, (same-cut x (drop k l) ys (rw rest_is at h)).1, length-drop k l)

  pub same-other : starts_with eqb (take (length l - k) (drop k l)) x ≡ false → false ≡ same_bytes (drop k l) (x ++ ys)
  same-other h = same_not x (drop k l) ys (rw rest_is at h)
