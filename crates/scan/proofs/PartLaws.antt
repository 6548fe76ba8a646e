-- Where the next part of a bracket stands. Assumes nothing.
use mathlib.Core.Path.{◌≡◌, refl}
use mathlib.Core.List.{List}
use mathlib.Core.Bool.{Bool, true, false}
use Prim.Native.Nat.{ℕ, ◌+◌, ◌<◌, ◌≤◌}
use native.Mathlib.Omega.{arith}
use borrow.Author.Tests.{eqb-true}
use lib.Dec.{eqb}
use lib.ListN.{length}
use Rattle.tokens.specs.Places.{byte_at, past_space}
use Rattle.tokens.proofs.PlaceLaws.{inside}
use Rattle.places.specs.declared.Follows.{Follows}
use Rattle.places.specs.declared.Follows.TheVariants.{Part, Shut}
use Rattle.places.specs.ByPlaces.{follows_at, after_part, first_part}
use Rattle.scan.proofs.WithinLaws.{space-ahead, space-within}

pub first-inside : (s : List ℕ) (k p q : ℕ) → p < length s → first_part s k p ≡ Part q → (p < q) × (q ≤ length s)
unfolding first_part
first-inside s k p q l e = go (eqb (byte_at s (past_space s (p + 1))) k) e
  where
    go : (t : Bool) → ◌≡◌ {A = Follows} (elim t [ true ↦ Shut (past_space s (p + 1) + 1) | false ↦ Part (past_space s (p + 1)) ]) (Part q) → (p < q) × (q ≤ length s)
    go true w = absurd (let z : ◌≡◌ {A = ℕ} 0 1 = cc in omega arith)
    go false w = let z : past_space s (p + 1) ≡ q = cc in omega (arith, space-ahead s (p + 1), space-within s (length s) (p + 1) (omega arith) (omega arith))

pub after-inside : (s : List ℕ) (x q : ℕ) → after_part s x ≡ Part q → (x < q) × (q ≤ length s)
unfolding after_part
after-inside s x q e = go (eqb (byte_at s (past_space s x)) 0x2C) refl e
  where
    go : (t : Bool) → eqb (byte_at s (past_space s x)) 0x2C ≡ t → ◌≡◌ {A = Follows} (elim t [ true ↦ Part (past_space s (past_space s x + 1)) | false ↦ Shut (past_space s x + 1) ]) (Part q) → (x < q) × (q ≤ length s)
    go true h w =
        let z : past_space s (past_space s x + 1) ≡ q = cc in
        let i = inside s (past_space s x) (λ n. omega (arith, eqb-true (byte_at s (past_space s x)) 0x2C h)) in
        omega (arith, space-ahead s x, space-ahead s (past_space s x + 1), space-within s (length s) (past_space s x + 1) (omega arith) (omega arith))
    go false h w = absurd (let z : ◌≡◌ {A = ℕ} 0 1 = cc in omega arith)

-- ---- places that follow fit a number, whether the bracket goes on or not

pub first-within : (s : List ℕ) (k p m : ℕ) → length s ≤ m → p < m → follows_at (first_part s k p) ≤ m + 1
unfolding first_part follows_at
first-within s k p m l h = go (eqb (byte_at s (past_space s (p + 1))) k)
  where
    go : (t : Bool) → follows_at (elim t [ true ↦ Shut (past_space s (p + 1) + 1) | false ↦ Part (past_space s (p + 1)) ]) ≤ m + 1
    go true = omega (arith, space-within s m (p + 1) l (omega arith))
    go false = omega (arith, space-within s m (p + 1) l (omega arith))

pub after-within : (s : List ℕ) (x m : ℕ) → length s ≤ m → x ≤ m → follows_at (after_part s x) ≤ m + 1
unfolding after_part follows_at
after-within s x m l h = go (eqb (byte_at s (past_space s x)) 0x2C)
  where
    go : (t : Bool) → follows_at (elim t [ true ↦ Part (past_space s (past_space s x + 1)) | false ↦ Shut (past_space s x + 1) ]) ≤ m + 1
    go true = space-within s (m + 1) (past_space s x + 1) (omega arith) (omega (arith, space-within s m x l h))
    go false = omega (arith, space-within s m x l h)
