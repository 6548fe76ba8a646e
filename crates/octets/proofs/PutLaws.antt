-- Texts that are stored part by part.
use mathlib.Core.Path.{◌≡◌, refl, sym, ap, ◌∙◌}
use mathlib.Core.List.{List, [], ◌∷◌, ◌++◌}
use Prim.Native.Nat.{ℕ, suc, ◌+◌, ◌<◌}
use native.Mathlib.Nat.{add-zero}
use native.Mathlib.Omega.{arith}
use lib.ListN.{length, set, length-append}
use lib.Seq.{sets, set_comm}
use Rattle.slices.proofs.PartLaws.{sets_append}

-- the same bytes, said otherwise
pub sets_as : (l : List ℕ) (k : ℕ) {xs ys after : List ℕ} → xs ≡ ys → after ≡ sets l k xs → after ≡ sets l k ys
sets_as l k e f = f ∙ ap (λ (bs : List ℕ). sets l k bs) e

-- bytes after others
pub sets-next : (l : List ℕ) (k : ℕ) (xs ys : List ℕ) {a b : List ℕ} → a ≡ sets l k xs → b ≡ sets a (k + length xs) ys → b ≡ sets l k (xs ++ ys)
sets-next l k xs ys e f = f ∙ rw e (sym (sets_append l k xs ys))

-- the rest of a text that is to stand from k on, of which n bytes are stored
pub record Putting (whole rest before now : List ℕ) (k n : ℕ) : Type 0 where
  pub stored : sets now (k + n) rest ≡ sets before k whole
  pub count : n + length rest ≡ length whole
  pub kept : length now ≡ length before

pub putting_start : (whole before : List ℕ) (k : ℕ) → Putting whole whole before before k 0
putting_start whole before k = record { stored = ap (λ (i : ℕ). sets before i whole) (add-zero k); count = omega arith; kept = refl }

module _ {whole rest before now : List ℕ} {k n : ℕ} (p : Putting whole rest before now k n) where
  -- its first bytes
  pub putting_next : (xs ys : List ℕ) {after : List ℕ} → rest ≡ xs ++ ys → after ≡ sets now (k + n) xs → length after ≡ length now → Putting whole ys before after k (n + length xs)
  putting_next xs ys e f l =
      let w : k + (n + length xs) ≡ k + n + length xs = omega arith in
      record {
        stored = rw (f, w) (sym (sets_append now (k + n) xs ys)) ∙ ap (λ (r : List ℕ). sets now (k + n) r) (sym e) ∙ p.stored;
        count = omega (arith, ap length e, length-append xs ys, p.count);
        kept = l ∙ p.kept;
      }

  -- all of it
  pub putting_last : (xs : List ℕ) {after : List ℕ} → rest ≡ xs → after ≡ sets now (k + n) xs → (n + length xs ≡ length whole) × (after ≡ sets before k whole)
  putting_last xs e f = (omega (arith, ap length e, p.count), f ∙ ap (λ (r : List ℕ). sets now (k + n) r) (sym e) ∙ p.stored)

  pub putting_done : rest ≡ [] → (n ≡ length whole) × (now ≡ sets before k whole)
  putting_done e = (omega (arith, ap length e, p.count), ap (λ (r : List ℕ). sets now (k + n) r) (sym e) ∙ p.stored)

-- a byte that is stored below a run
pub set-sets : (l : List ℕ) (i j v : ℕ) (vs : List ℕ) → i < j → set (sets l j vs) i v ≡ sets (set l i v) j vs
set-sets l i j v [] h = refl
set-sets l i j v (x ∷ vs) h = set-sets (set l j x) i (suc j) v vs (omega arith) ∙ ap (λ (m : List ℕ). sets m (suc j) vs) (set_comm l j i x v (λ e. omega arith))
