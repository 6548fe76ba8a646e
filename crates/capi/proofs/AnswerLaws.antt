-- What is stored in `amounts`, with room and without. Assumes nothing.
use Prim.Native.Nat.{ℕ, ◌<◌, ◌≤◌}
use mathlib.Core.Path.{◌≡◌, refl}
use mathlib.Core.List.{List, [], ◌∷◌}
use native.Mathlib.Omega.{arith}
use lib.ListN.{length, set}
use Rattle.capi.specs.Answers.{amounts_after}

pub stored : (l : List ℕ) (a b : ℕ) → 2 ≤ length l → set (set l 0 a) 1 b ≡ amounts_after l a b
unfolding amounts_after
stored [] a b h = absurd (omega arith)
stored (x ∷ []) a b h = absurd (omega arith)
stored (x ∷ y ∷ zs) a b h = refl

pub no_room : (l : List ℕ) (a b : ℕ) → length l < 2 → l ≡ amounts_after l a b
unfolding amounts_after
no_room [] a b h = refl
no_room (x ∷ []) a b h = refl
no_room (x ∷ y ∷ zs) a b h = absurd (omega arith)
