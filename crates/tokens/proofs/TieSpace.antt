-- Runs of bytes that pass a test, white space, and where a number or a literal ends.
use Prim.Native.Nat.{ℕ, ◌+◌}
use mathlib.Core.Path.{◌≡◌, refl, ap, ◌∙◌}
use mathlib.Core.List.{List, [], ◌∷◌, ◌++◌}
use mathlib.Core.Bool.{Bool, true, false, not, ◌||◌}
use native.Mathlib.Omega.{arith}
use borrow.Author.Tests.{eqb-true, not-false}
use lib.Dec.{eqb}
use lib.ListN.{length, drop}
use Rattle.json_text.specs.Bytes.{past}
use Rattle.json_text.specs.Grammar.{Space, no_space, tab, feed, return, blank}
use Rattle.tokens.specs.Places.{byte_at, run_length, run_from, is_space, past_space}
use Rattle.tokens.specs.Skip.{is_end}
use Rattle.tokens.proofs.TiePlace.{byte_here, byte_end, drop_past, past-length}

-- ---- runs

-- every byte passes the test
abbrev pub All : (ℕ → Bool) → List ℕ → Type 0
All f [] = Unit {0}
All f (b ∷ bs) = (f b ≡ true) × All f bs

-- at the end, or before a byte that does not pass the test
pub data Stops (f : ℕ → Bool) : List ℕ → Type 0 where
  at_end : Stops f []
  before : {b : ℕ} {ys : List ℕ} → f b ≡ false → Stops f (b ∷ ys)

pub all_append : (f : ℕ → Bool) (xs ys : List ℕ) → All f xs → All f ys → All f (xs ++ ys)
all_append f [] ys h g = g
all_append f (b ∷ xs) ys h g = (h.0, all_append f xs ys h.1 g)

pub all_weaker : (f g : ℕ → Bool) (xs : List ℕ) → ((b : ℕ) → f b ≡ true → g b ≡ true) → All f xs → All g xs
all_weaker f g [] k h = tt
all_weaker f g (b ∷ xs) k h = (k b h.0, all_weaker f g xs k h.1)

length_none : {f : ℕ → Bool} {ys : List ℕ} → Stops f ys → run_length f ys ≡ 0
unfolding run_length
length_none at_end = refl
length_none (before e) = rw (e, run_length)

length-all : (f : ℕ → Bool) (xs ys : List ℕ) → All f xs → run_length f (xs ++ ys) ≡ length xs + run_length f ys
unfolding run_length
length-all f [] ys h = omega arith
length-all f (b ∷ xs) ys h = rw (h.0, run_length) (omega (arith, length-all f xs ys h.1))

-- bytes that pass the test are passed
pub run_on : (f : ℕ → Bool) (s : List ℕ) (p : ℕ) (xs ys : List ℕ) → All f xs → drop p s ≡ xs ++ ys → run_from f s p ≡ run_from f s (past p xs)
unfolding run_from
run_on f s p xs ys h e = rw (drop_past s p xs ys e, e) (omega (arith, past-length p xs, length-all f xs ys h))

pub run-stop : {f : ℕ → Bool} {ys : List ℕ} (s : List ℕ) (p : ℕ) → Stops f ys → drop p s ≡ ys → run_from f s p ≡ p
unfolding run_from
run-stop s p g e = rw e (omega (arith, length_none g))

pub run_past : (f : ℕ → Bool) (s : List ℕ) (p : ℕ) (xs ys : List ℕ) → All f xs → Stops f ys → drop p s ≡ xs ++ ys → run_from f s p ≡ past p xs
run_past f s p xs ys h g e = run_on f s p xs ys h e ∙ run-stop s (past p xs) g (drop_past s p xs ys e)

-- the byte where the test stops does not pass it
pub stop_byte : {f : ℕ → Bool} {ys : List ℕ} (s : List ℕ) (p : ℕ) → Stops f ys → f 256 ≡ false → drop p s ≡ ys → f (byte_at s p) ≡ false
stop_byte {f} s p at_end e h = ap f (byte_end s p h) ∙ e
stop_byte {f} s p (before {b = b} {ys = ys} g) e h = ap f (byte_here s p b ys h) ∙ g

-- ---- white space

-- a test that white space passes
pub space-all : {xs : List ℕ} (f : ℕ → Bool) → (f 0x09 ≡ true) × (f 0x0A ≡ true) × (f 0x0D ≡ true) × (f 0x20 ≡ true) → Space xs → All f xs
space-all f h no_space = tt
space-all f h (tab z) = (h.0, space-all f h z)
space-all f h (feed z) = (h.1, space-all f h z)
space-all f h (return z) = (h.2, space-all f h z)
space-all f h (blank z) = (h.3, space-all f h z)

pub space-passed : {xs : List ℕ} (s : List ℕ) (p : ℕ) (ys : List ℕ) → Space xs → drop p s ≡ xs ++ ys → Stops is_space ys → past_space s p ≡ past p xs
unfolding past_space
space-passed {xs} s p ys z h g = run_past is_space s p xs ys (space-all is_space (refl, refl, refl, refl) z) g h

-- ---- where a number or a literal ends

-- the bytes are none, or the first is white space, a comma or a closing bracket
abbrev pub EndsHere : List ℕ → Type 0
EndsHere ys = Stops (λ b. not (is_end b)) ys

pub space-ends : {zs : List ℕ} (ys : List ℕ) → Space zs → EndsHere ys → EndsHere (zs ++ ys)
space-ends ys no_space g = g
space-ends ys (tab z) g = before refl
space-ends ys (feed z) g = before refl
space-ends ys (return z) g = before refl
space-ends ys (blank z) g = before refl

either : (P : Type 0) (c d : Bool) → (c ≡ true → P) → (d ≡ true → P) → (c || d) ≡ true → P
either P true d f g e = f refl
either P false d f g e = g e

-- what holds of each byte that ends a number or a literal
pub end-cases : (P : ℕ → Type 0) → P 0x20 × P 0x09 × P 0x0A × P 0x0D × P 0x2C × P 0x5D × P 0x7D → (b : ℕ) → is_end b ≡ true → P b
end-cases P h b =
    either (P b) (is_space b) _ (either (P b) _ _ (is 0x20 h.0) (either (P b) _ _ (is 0x09 h.1) (either (P b) _ _ (is 0x0A h.2) (is 0x0D h.3))))
    (either (P b) _ _ (is 0x2C h.4) (either (P b) _ _ (is 0x5D h.5) (is 0x7D h.6)))
  where
    is : (c : ℕ) → P c → eqb b c ≡ true → P b
    is c h e = rw (eqb-true b c e) h

-- a test that none of those bytes passes stops there
pub ends-stop : {ys : List ℕ} (f : ℕ → Bool) → ((b : ℕ) → is_end b ≡ true → f b ≡ false) → EndsHere ys → Stops f ys
ends-stop f h at_end = at_end
ends-stop f h (before {b = b} e) = before (h b (not-false (is_end b) e))
