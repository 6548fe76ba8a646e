-- What a test, a reading or a decoding has met, from what it ends in.
use Prim.Native.Nat.{ℕ}
use mathlib.Core.Path.{◌≡◌, refl}
use mathlib.Core.Bool.{Bool, true, false}
use Rattle.std.specs.Prelude.{Option, None, Some}
use native.Mathlib.Omega.{arith}
use lib.Dec.{eqb}
use borrow.Author.Tests.{eqb-true}
use Rattle.jer.specs.declared.Refusal.{Refusal}
use Rattle.jer.specs.Table.{Table, kind_of}
use Rattle.jer.specs.Value.{Val}
use Rattle.jer.specs.Answer.{Res, ok, no, bind}
use Rattle.jer.specs.Octets.{also}
use Rattle.jer.specs.Read.{at_kind}

-- what holds of both branches of a test, each with its outcome, holds of the test
pub branch : {A : Type 0} (Q : A → Type 0) (c : Bool) {x y : A} → (c ≡ true → Q x) → (c ≡ false → Q y) → Q (elim c as (λ b. A) [ true ↦ x | false ↦ y ])
branch Q true h k = h refl
branch Q false h k = k refl

-- a test that ends in b: each branch, with its outcome
pub cases : {B C : Type 0} {b : B} (c : Bool) {x y : B} → (c ≡ true → x ≡ b → C) → (c ≡ false → y ≡ b → C) → elim c as (λ d. B) [ true ↦ x | false ↦ y ] ≡ b → C
cases true h k e = h refl e
cases false h k e = k refl e

-- a refusal is no success
pub refused : {A C : Type 0} {e : Refusal} {a : A} → ◌≡◌ {A = Res A} (no e) (ok a) → C
refused h = absurd (let z : ◌≡◌ {A = ℕ} 0 1 = cc in omega arith)

pub nothing : {A C : Type 0} {a : A} → None ≡ Some a → C
nothing h = absurd (let z : ◌≡◌ {A = ℕ} 0 1 = cc in omega arith)

-- equal successes have equal results
pub got : {A : Type 0} {a b : A} → ◌≡◌ {A = Res A} (ok a) (ok b) → a ≡ b
got e = cc

pub found : {A : Type 0} {a b : A} → Some a ≡ Some b → a ≡ b
found e = cc

-- two steps that succeed
pub record Steps {A B : Type 0} (x : Res A) (f : A → Res B) (b : B) : Type 0 where
  pub val : A
  pub first : x ≡ ok val
  pub then : f val ≡ ok b

pub steps : {A B : Type 0} (x : Res A) (f : A → Res B) (b : B) → bind x f ≡ ok b → Steps x f b
unfolding bind
steps (ok a) f b e = record { val = a; first = refl; then = e }
steps (no n) f b e = refused e

pub record Finds {A B : Type 0} (x : Option A) (f : A → Option B) (b : B) : Type 0 where
  pub val : A
  pub first : x ≡ Some val
  pub then : f val ≡ Some b

pub finds : {A B : Type 0} (x : Option A) (f : A → Option B) (b : B) → also x f ≡ Some b → Finds x f b
unfolding also
finds None f b e = nothing e
finds (Some a) f b e = record { val = a; first = refl; then = e }

-- a value that is read at a kind
pub at-kind : (t : Table) (r k p : ℕ) (x : Res Val) (v : Val) → at_kind t r k p x ≡ ok v → (kind_of t r ≡ k) × (x ≡ ok v)
unfolding at_kind
at-kind t r k p x v = cases (eqb (kind_of t r) k) (λ w e. (eqb-true _ _ w, e)) (λ w e. refused e)
