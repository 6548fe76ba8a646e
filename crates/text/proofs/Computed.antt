-- A table of the code against its definition, which antt computes.
use Prim.Native.Nat.{ℕ, zero, suc, ◌+◌, ◌<◌}
use mathlib.Core.Bool.{Bool, true, false, ◌&&◌}
use mathlib.Core.List.{List, [], ◌∷◌}
use mathlib.Core.Path.{◌≡◌, ◌∙◌, refl, ap}
use native.Mathlib.Omega.{arith}
use borrow.Author.Tests.{leb-true, leb-false}
use lib.Dec.{T, leb}
use lib.ListN.{get_or}

-- ---- a test at every number below n

pub both : (a b : Bool) → T (a && b) → T a × T b
both true b t = (tt, t)
both false b t = absurd t

abbrev pub all : (ℕ → Bool) → ℕ → Bool
all f zero = true
all f (suc n) = f n && all f n

pub below : (f : ℕ → Bool) (n : ℕ) → T (all f n) → (k : ℕ) → k < n → T (f k)
below f zero t k h = absurd (omega arith)
below f (suc n) t k h = go (λ l. below f n (both (f n) (all f n) t).1 k l) (leb n k) refl
  where
    go : (k < n → T (f k)) → (b : Bool) → leb n k ≡ b → T (f k)
    go r true e = let w : k ≡ n = omega (arith, leb-true n k e) in rw w (both (f n) (all f n) t).0
    go r false e = r (leb-false n k e)

-- two tests that agree at every number below n
abbrev pub same : Bool → Bool → Bool
same true b = b
same false true = false
same false false = true

same-eq : (a b : Bool) → T (same a b) → a ≡ b
same-eq true true t = refl
same-eq true false t = absurd t
same-eq false true t = absurd t
same-eq false false t = refl

pub alike-below : (f g : ℕ → Bool) (n : ℕ) → T (all (λ k. same (f k) (g k)) n) → (k : ℕ) → k < n → f k ≡ g k
alike-below f g n t k h = same-eq (f k) (g k) (below (λ i. same (f i) (g i)) n t k h)

-- ---- the n results of a function from i on

abbrev pub table : {A : Type 0} → (ℕ → A) → ℕ → ℕ → List A
table f i zero = []
table f i (suc n) = f i ∷ table f (suc i) n

pub table_at : {A : Type 0} (f : ℕ → A) (i n k : ℕ) (d : A) → k < n → get_or (table f i n) k d ≡ f (i + k)
table_at f i zero k d h = absurd (omega arith)
table_at f i (suc n) zero d h = ap f (let e : i ≡ i + 0 = omega arith in e)
table_at f i (suc n) (suc k) d h = table_at f (suc i) n k d (omega arith) ∙ ap f (let e : suc i + k ≡ i + suc k = omega arith in e)
