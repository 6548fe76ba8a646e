-- The table of bytes that stand for themselves, which antt computes.
use Prim.Native.Nat.{ℕ, zero, suc, ◌+◌, ◌<◌}
use mathlib.Core.Bool.{Bool, true, false, ◌&&◌, ◌||◌, not}
use mathlib.Core.List.{List, [], ◌∷◌}
use mathlib.Core.Path.{◌≡◌, refl}
use native.Mathlib.Omega.{arith}
use borrow.Author.Tests.{leb-true, eq-eqb}
use lib.Dec.{T, eqb, leb}
use lib.ListN.{get_or, length}
use Rattle.spelled.specs.Leaves.{SelfByte, IsFlags}

both : (a b : Bool) → T (a && b) → T a × T b
both true b t = (tt, t)
both false b t = absurd t

-- the byte b stands for itself, if its entry x is 0
abbrev right : ℕ → ℕ → Bool
right b x = not (eqb x 0) || (leb 0x20 b && (leb b 0x7F && (not (eqb b 0x22) && not (eqb b 0x5C))))

-- so do all from b on
abbrev all : ℕ → List ℕ → Bool
all b [] = true
all b (x ∷ xs) = right b x && all (suc b) xs

true-is : (a : Bool) → T a → a ≡ true
true-is true t = refl
true-is false t = absurd t

not_is : (b c : ℕ) → T (not (eqb b c)) → b ≡ c → ⊥
not_is b c t e = go (eqb b c) (eq-eqb b c e) t
  where
    go : (x : Bool) → x ≡ true → T (not x) → ⊥
    go true h u = u
    go false h u = let z : ◌≡◌ {A = ℕ} 0 1 = cc in omega arith

right_is : (b x : ℕ) → T (right b x) → x ≡ 0 → SelfByte b
right_is b x t e = go (eqb x 0) (eq-eqb x 0 e) t
  where
    go : (y : Bool) → y ≡ true → T (not y || (leb 0x20 b && (leb b 0x7F && (not (eqb b 0x22) && not (eqb b 0x5C))))) → SelfByte b
    go true h u =
        let i = both (leb 0x20 b) _ u in
        let j = both (leb b 0x7F) _ i.1 in
        let k = both (not (eqb b 0x22)) (not (eqb b 0x5C)) j.1 in
        (leb-true 0x20 b (true-is (leb 0x20 b) i.0), leb-true b 0x7F (true-is (leb b 0x7F) j.0), not_is b 0x22 k.0, not_is b 0x5C k.1)
    go false h u = absurd (let z : ◌≡◌ {A = ℕ} 0 1 = cc in omega arith)

all_right : (l : List ℕ) (i k : ℕ) → T (all i l) → k < length l → T (right (i + k) (get_or l k 0))
all_right [] i k t h = absurd (omega arith)
all_right (x ∷ l) i zero t h = let e : i + 0 ≡ i = omega arith in rw e (both (right i x) (all (suc i) l) t).0
all_right (x ∷ l) i (suc k) t h = let e : i + suc k ≡ suc i + k = omega arith in rw e (all_right l (suc i) k (both (right i x) (all (suc i) l) t).1 (omega arith))

pub flags-right : (l : List ℕ) → T (all 0 l) → length l ≡ 256 → IsFlags l
flags-right l t n = record { self = λ b h e. let z : 0 + b ≡ b = omega arith in right_is b (get_or l b 0) (rw z at (all_right l 0 b t (omega arith))) e }
