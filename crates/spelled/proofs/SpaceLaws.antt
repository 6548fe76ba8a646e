-- White space one byte after another.
use Prim.Native.Nat.{ℕ, ◌+◌, ◌<◌, ◌≤◌}
use mathlib.Core.Path.{◌≡◌, refl}
use mathlib.Core.Logic.{◌⊎◌, inl, inr}
use mathlib.Core.Bool.{Bool, true, false}
use native.Mathlib.Omega.{arith}
use borrow.Author.Tests.{leb-true, leb-false}
use lib.Dec.{leb}
use mathlib.Core.List.{List, ◌++◌}
use lib.ListN.{length, get_or}
use Rattle.json_text.specs.Grammar.{Space, no_space, tab, feed, return, blank}
use Rattle.spelled.specs.Stretch.{Stretch, Blank}
use Rattle.spelled.proofs.StretchLaws.{stretch-none, stretch-more}

space_join : {xs ys : List ℕ} → Space xs → Space ys → Space (xs ++ ys)
space_join no_space k = k
space_join (tab h) k = tab (space_join h k)
space_join (feed h) k = feed (space_join h k)
space_join (return h) k = return (space_join h k)
space_join (blank h) k = blank (space_join h k)

pub blank-one : {b : ℕ} → (b ≡ 13) ⊎ (b ≡ 32) → Blank b
blank-one (inl e) = rw e (return no_space)
blank-one (inr e) = rw e (blank no_space)

pub blank_two : (b : ℕ) → 9 ≤ b → b ≤ 10 → Blank b
blank_two b h k = go (leb b 9) refl
  where
    go : (t : Bool) → leb b 9 ≡ t → Blank b
    go true e = let f : b ≡ 9 = omega (arith, leb-true b 9 e) in rw f (tab no_space)
    go false e = let f : b ≡ 10 = omega (arith, leb-false b 9 e) in rw f (feed no_space)

pub space-none : (s : List ℕ) (p : ℕ) → Stretch Space s p p
space-none s p = stretch-none Space s p no_space

pub space-more : (s : List ℕ) (p q : ℕ) → Stretch Space s p q → q < length s → get_or s q 0 < 256 → Blank (get_or s q 0) → Stretch Space s p (q + 1)
space-more s p q k l m b = stretch-more Space Space s p q (get_or s q 0) (λ xs h. space_join h b) k l refl m
