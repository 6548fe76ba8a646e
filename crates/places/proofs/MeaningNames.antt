-- Names of one type: positions, and entries looked up by them.
use Rattle.jer.specs.declared.Token.{Token}
use Prim.Native.Nat.{ℕ, zero, suc, ◌+◌, ◌≤◌, ◌<◌}
use mathlib.Core.Path.{◌≡◌, refl, sym, ◌∙◌}
use mathlib.Core.List.{List, [], ◌∷◌}
use mathlib.Core.Bool.{Bool, true, false}
use Rattle.std.specs.Prelude.{Some}
use native.Mathlib.Omega.{arith}
use borrow.Author.Tests.{eqb-true, eq-eqb, ltb-true, ltb-false}
use lib.Dec.{eqb, ltb}
use Rattle.jer.specs.Table.{Table, is_type, count_of, name_at, first_where, same_bytes, position, alternative}
use Rattle.jer.specs.Read.{Entry, lookup}
use Rattle.jer.specs.Sane.{Sane}

same-eq : (x y : List ℕ) → same_bytes x y ≡ true → x ≡ y
unfolding same_bytes
same-eq [] [] h = refl
same-eq [] (b ∷ y) h = cc
same-eq (a ∷ x) [] h = cc
same-eq (a ∷ x) (b ∷ y) h = go' (eqb a b) refl (same-eq x y)
  where
    go' : (c : Bool) → eqb a b ≡ c → (same_bytes x y ≡ true → x ≡ y) → a ∷ x ≡ b ∷ y
    go' true w ih = let e = eqb-true a b w in let f = ih (rw (w, same_bytes) at h) in cc
    go' false w ih = let z = rw (w, same_bytes) at h in cc

same_self : (x : List ℕ) → same_bytes x x ≡ true
unfolding same_bytes
same_self [] = refl
same_self (a ∷ x) = rw (eq-eqb a a refl, same_bytes) (same_self x)

-- what is found passes the test
first_found : (f : ℕ → Bool) (i n k : ℕ) → first_where f i n ≡ Some k → (f k ≡ true) × (i ≤ k) × (k < i + n)
unfolding first_where
first_found f i zero k h = absurd (let z : ◌≡◌ {A = ℕ} 0 1 = cc in omega arith)
first_found f i (suc n) k h = go' (f i) refl (first_found f (suc i) n k)
  where
    go' : (b : Bool) → f i ≡ b → (first_where f (suc i) n ≡ Some k → (f k ≡ true) × (suc i ≤ k) × (k < suc i + n)) → (f k ≡ true) × (i ≤ k) × (k < i + suc n)
    go' true w ih = let e : i ≡ k = let z = rw (w, first_where) at h in cc in (rw (← e) w, omega arith, omega arith)
    go' false w ih = let g = ih (rw (w, first_where) at h) in (g.0, omega arith, omega arith)

pub position-found : (t : Table) (r : ℕ) (s : List ℕ) (i : ℕ) → position t r s ≡ Some i → (name_at t r i ≡ s) × (i < count_of t r)
unfolding position
position-found t r s i h = let g = first_found _ 0 (count_of t r) i h in (same-eq (name_at t r i) s g.0, omega arith)

pub alternative-found : (t : Table) (r : ℕ) (k : Token) (i : ℕ) → alternative t r k ≡ Some i → i < count_of t r
unfolding alternative
alternative-found t r k i h = let g = first_found _ 0 (count_of t r) i h in omega arith

-- names at two positions differ
pub names-differ : (t : Table) (r i j : ℕ) → Sane t → is_type t r ≡ true → i < count_of t r → j < count_of t r → (i ≡ j → ⊥) → same_bytes (name_at t r i) (name_at t r j) ≡ false
names-differ t r i j c h a b n = go' (ltb i j) refl
  where
    turned : (v : Bool) → same_bytes (name_at t r i) (name_at t r j) ≡ v → same_bytes (name_at t r j) (name_at t r i) ≡ false → v ≡ false
    turned true w g = let e = same-eq (name_at t r i) (name_at t r j) w in sym (same_self (name_at t r j)) ∙ rw e at g
    turned false w g = refl

    go' : (v : Bool) → ltb i j ≡ v → same_bytes (name_at t r i) (name_at t r j) ≡ false
    go' true w = c.differ r i j h (ltb-true i j w) b
    go' false w =
        let l = ltb-false i j w in
        let m : j < i = omega arith in
        turned _ refl (c.differ r j i h m a)

pub lookup-met : (e : Entry) (es : List Entry) → lookup e.name (e ∷ es) ≡ Some e
unfolding lookup
lookup-met e es = rw (same_self e.name, lookup)

pub lookup-other : (s : List ℕ) (e : Entry) (es : List Entry) → same_bytes e.name s ≡ false → lookup s (e ∷ es) ≡ lookup s es
unfolding lookup
lookup-other s e es h = rw (h, lookup)
