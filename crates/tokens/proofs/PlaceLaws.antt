-- Bytes and runs at a place.
use mathlib.Core.Path.{◌≡◌, refl}
use mathlib.Core.List.{List, [], ◌∷◌}
use mathlib.Core.Bool.{Bool, true, false}
use Prim.Native.Nat.{ℕ, zero, suc, ◌+◌, ◌<◌, ◌≤◌}
use native.Mathlib.Nat.{add-zero, add-suc, suc-add}
use native.Mathlib.Numerals.{add-one}
use native.Mathlib.Omega.{arith}
use lib.ListN.{length, get_or, drop_of_length-le, get_or-eq_default}
use lib.Seq.{drop-cons}
use Rattle.tokens.specs.Places.{byte_at, run_length, run_from}

-- inside the text the default is of no account
pub byte_inside : (s : List ℕ) (p : ℕ) → p < length s → get_or s p 0 ≡ byte_at s p
byte_inside [] p h = absurd (omega arith)
byte_inside (b ∷ s) zero h = refl
byte_inside (b ∷ s) (suc p) h = byte_inside s p (omega arith)

pub byte_past : (s : List ℕ) (p : ℕ) → length s ≤ p → byte_at s p ≡ 256
byte_past s p h = get_or-eq_default s 256 {n = p} h

-- a byte that is not 256 stands inside
pub inside : (s : List ℕ) (p : ℕ) → (byte_at s p ≡ 256 → ⊥) → p < length s
inside [] p h = absurd (h refl)
inside (b ∷ s) zero h = omega arith
inside (b ∷ s) (suc p) h = let r = inside s p h in omega arith

-- a run, at a byte that passes, at one that does not, and at the end
module _ (f : ℕ → Bool) (s : List ℕ) (p : ℕ) where
  pub run_more : p < length s → f (get_or s p 0) ≡ true → run_from f s p ≡ run_from f s (p + 1)
  unfolding run_from run_length
  run_more h e = rw (drop-cons s p 0, e, run_length) (rw (add-one, add-suc, suc-add))

  pub run-stop : p < length s → f (get_or s p 0) ≡ false → run_from f s p ≡ p
  unfolding run_from run_length
  run-stop h e = rw (drop-cons s p 0, e, run_length) (add-zero p)

  pub run_end : length s ≤ p → run_from f s p ≡ p
  unfolding run_from run_length
  run_end h = rw (drop_of_length-le s h) (add-zero p)

  pub run-ahead : p ≤ run_from f s p
  unfolding run_from
  run-ahead = omega arith
