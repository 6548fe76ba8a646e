-- Octets in hexadecimal and in Base64.
use mathlib.Core.Path.{◌≡◌, refl, sym, ap}
use mathlib.Core.List.{List, [], ◌∷◌, ◌++◌}
use Prim.Native.Nat.{ℕ, suc, ◌+◌, ◌-◌, ◌*◌, ◌/◌, ◌%◌, ◌<◌, ◌≤◌}
use native.Mathlib.Numerals.{add-one}
use native.Mathlib.Omega.{arith}
use native.Mathlib.Nat.{add-zero}
use lib.ListN.{length, get_or, take, drop, set, drop_of_length-le}
use lib.Seq.{drop-cons, take-length, sets}
use Rattle.jer.specs.Octets.{hex_digit, hex, base64_digit, base64}
use Rattle.octets.proofs.PutLaws.{Putting, putting_next, putting_last}

-- ---- hexadecimal

pub hex-one : (b : ℕ) {x y : ℕ} → x ≡ hex_digit (b / 16) → y ≡ hex_digit (b % 16) → x ∷ y ∷ [] ≡ hex (b ∷ [])
unfolding hex
hex-one b e f = rw (e, f)

pub hex-length : (os : List ℕ) → length (hex os) ≡ 2 * length os
unfolding hex
hex-length [] = refl
hex-length (o ∷ os) = omega (arith, hex-length os)

module _ (os : List ℕ) (i : ℕ) where
  one : i < length os → drop i os ≡ get_or os i 0 ∷ drop (i + 1) os
  one h = rw (drop-cons os i 0 h, add-one)

  pub hex-more : i < length os → hex (drop i os) ≡ hex (get_or os i 0 ∷ []) ++ hex (drop (i + 1) os)
  unfolding hex
  hex-more h = rw (one h)

  pub hex-done : length os ≤ i → hex (drop i os) ≡ []
  unfolding hex
  hex-done h = rw (drop_of_length-le os h)

-- ---- Base64

pub base64-length : (os : List ℕ) → length (base64 os) ≡ (length os + 2) / 3 * 4
unfolding base64
base64-length [] = refl
base64-length (a ∷ []) = refl
base64-length (a ∷ b ∷ []) = refl
base64-length (a ∷ b ∷ c ∷ os) = omega (arith, base64-length os)

module _ (a b c : ℕ) where
  pub base64_group : {x y z w : ℕ} → x ≡ base64_digit (a / 4) → y ≡ base64_digit (a % 4 * 16 + b / 16) → z ≡ base64_digit (b % 16 * 4 + c / 64) → w ≡ base64_digit (c % 64)
      → x ∷ y ∷ z ∷ w ∷ [] ≡ base64 (a ∷ b ∷ c ∷ [])
  unfolding base64
  base64_group ex ey ez ew = rw (ex, ey, ez, ew)

-- the pads of a group that lacks octets
pub one-pad : (a b : ℕ) {four : List ℕ} → four ≡ base64 (a ∷ b ∷ 0 ∷ []) → set four 3 0x3D ≡ base64 (a ∷ b ∷ [])
unfolding base64
one-pad a b e = rw (e, add-zero)

pub two-pads : (a : ℕ) {four : List ℕ} → four ≡ base64 (a ∷ 0 ∷ 0 ∷ []) → set (set four 2 0x3D) 3 0x3D ≡ base64 (a ∷ [])
unfolding base64
two-pads a e = rw (e, add-zero)

pub base64-more : (l : List ℕ) → 3 ≤ length l → base64 l ≡ base64 (get_or l 0 0 ∷ get_or l 1 0 ∷ get_or l 2 0 ∷ []) ++ base64 (take (length l - 3) (drop 3 l))
unfolding base64
base64-more (a ∷ b ∷ c ∷ os) h = let e : suc (suc (suc (length os))) - 3 ≡ length os = omega arith in rw e (ap (λ (l : List ℕ). base64 (a ∷ b ∷ c ∷ []) ++ base64 l) (sym (take-length os)))
base64-more [] h = absurd (omega arith)
base64-more (a ∷ []) h = absurd (omega arith)
base64-more (a ∷ b ∷ []) h = absurd (omega arith)

pub base64-two : (l : List ℕ) → length l ≡ 2 → base64 l ≡ base64 (get_or l 0 0 ∷ get_or l 1 0 ∷ [])
base64-two (a ∷ b ∷ []) h = refl
base64-two [] h = absurd (omega arith)
base64-two (a ∷ []) h = absurd (omega arith)
base64-two (a ∷ b ∷ c ∷ os) h = absurd (omega arith)

pub base64-one : (l : List ℕ) → length l ≡ 1 → base64 l ≡ base64 (get_or l 0 0 ∷ [])
base64-one (a ∷ []) h = refl
base64-one [] h = absurd (omega arith)
base64-one (a ∷ b ∷ os) h = absurd (omega arith)

pub base64-done : (l : List ℕ) → length l ≡ 0 → base64 l ≡ []
unfolding base64
base64-done [] h = refl
base64-done (a ∷ os) h = absurd (omega arith)

-- ---- stored octet by octet, and group by group

module _ (os : List ℕ) (i : ℕ) {before now : List ℕ} {k n : ℕ} where
  pub hex-next : Putting (hex os) (hex (drop i os)) before now k n → i < length os → {after : List ℕ} → after ≡ sets now (k + n) (hex (get_or os i 0 ∷ [])) → length after ≡ length now
      → Putting (hex os) (hex (drop (i + 1) os)) before after k (n + 2)
  unfolding hex
  hex-next p h e l = putting_next p (hex (get_or os i 0 ∷ [])) (hex (drop (i + 1) os)) (hex-more os i h) e l

-- what is left of the octets, group by group
module _ (os l : List ℕ) {before now : List ℕ} {k n : ℕ} (p : Putting (base64 os) (base64 l) before now k n) {after : List ℕ} where
  pub base64-next : 3 ≤ length l → after ≡ sets now (k + n) (base64 (get_or l 0 0 ∷ get_or l 1 0 ∷ get_or l 2 0 ∷ [])) → length after ≡ length now
      → Putting (base64 os) (base64 (take (length l - 3) (drop 3 l))) before after k (n + 4)
  unfolding base64
  base64-next h e w = putting_next p (base64 (get_or l 0 0 ∷ get_or l 1 0 ∷ get_or l 2 0 ∷ [])) (base64 (take (length l - 3) (drop 3 l))) (base64-more l h) e w

  pub base64-last-two : length l ≡ 2 → after ≡ sets now (k + n) (base64 (get_or l 0 0 ∷ get_or l 1 0 ∷ [])) → (n + 4 ≡ length (base64 os)) × (after ≡ sets before k (base64 os))
  unfolding base64
  base64-last-two h e = putting_last p (base64 (get_or l 0 0 ∷ get_or l 1 0 ∷ [])) (base64-two l h) e

  pub base64-last-one : length l ≡ 1 → after ≡ sets now (k + n) (base64 (get_or l 0 0 ∷ [])) → (n + 4 ≡ length (base64 os)) × (after ≡ sets before k (base64 os))
  unfolding base64
  base64-last-one h e = putting_last p (base64 (get_or l 0 0 ∷ [])) (base64-one l h) e
