-- Places go ahead, and not far past the text's end: runs, strings, values. Assumes nothing.
use mathlib.Core.Path.{◌≡◌, refl}
use mathlib.Core.List.{List, [], ◌∷◌}
use mathlib.Core.Bool.{Bool, true, false, ◌||◌, not}
use Prim.Native.Nat.{ℕ, zero, suc, ◌+◌, ◌<◌, ◌≤◌}
use native.Mathlib.Omega.{arith}
use borrow.Author.Tests.{eqb-true, eqb-false}
use lib.Dec.{eqb}
use lib.ListN.{length, drop, length-drop}
use Rattle.tokens.specs.Places.{byte_at, is_space, run_length, run_from, past_space}
use Rattle.tokens.specs.Strings.{close_in, string_end}
use Rattle.tokens.specs.Skip.{is_end, is_between, is_opening, is_closing, past_word, past_between, parts_past, past_with, past_value}
use Rattle.tokens.proofs.PlaceLaws.{inside, run-ahead}
use Rattle.tokens.proofs.StringLaws.{end-ahead}
use Rattle.tokens.proofs.SkipLaws.{word-is, value-ahead, value-string, value-word}

-- whichever way a test goes
decide : (P : ℕ → Type 0) (b : Bool) (x y : ℕ) → (b ≡ true → P x) → (b ≡ false → P y) → P (elim b as (λ z. ℕ) [ true ↦ x | false ↦ y ])
decide P true x y h k = h refl
decide P false x y h k = k refl

run-few : (f : ℕ → Bool) (l : List ℕ) → run_length f l ≤ length l
unfolding run_length
run-few f [] = omega arith
run-few f (b ∷ l) = decide (λ n. n ≤ suc (length l)) (f b) (suc (run_length f l)) 0 (λ e. omega (arith, run-few f l)) (λ e. omega arith)

pub run-within : (f : ℕ → Bool) (s : List ℕ) (m p : ℕ) → length s ≤ m → p ≤ m → run_from f s p ≤ m
unfolding run_from
run-within f s m p l h = omega (arith, run-few f (drop p s), length-drop p s)

module _ (s : List ℕ) (p : ℕ) where
  pub space-ahead : p ≤ past_space s p
  unfolding past_space
  space-ahead = run-ahead is_space s p

  -- an opening bracket stands inside, and does not end a value
  opens : is_opening (byte_at s p) ≡ true → (p < length s) × (is_end (byte_at s p) ≡ false)
  opens e = go (eqb (byte_at s p) 0x5B) (eqb (byte_at s p) 0x7B) refl refl e
    where
      here : (b : ℕ) → byte_at s p ≡ b → b < 256 → is_end b ≡ false → (p < length s) × (is_end (byte_at s p) ≡ false)
      here b w l f = (inside s p (λ z. omega arith), rw w f)

      go : (t u : Bool) → eqb (byte_at s p) 0x5B ≡ t → eqb (byte_at s p) 0x7B ≡ u → (t || u) ≡ true → (p < length s) × (is_end (byte_at s p) ≡ false)
      go true u e f w = here 0x5B (eqb-true (byte_at s p) 0x5B e) (omega arith) refl
      go false true e f w = here 0x7B (eqb-true (byte_at s p) 0x7B f) (omega arith) refl
      go false false e f w = absurd (let z : ◌≡◌ {A = ℕ} 0 1 = cc in omega arith)

  -- a value does not go back
  pub value-onward : (d : ℕ) → p ≤ past_value d s p
  value-onward d = go (eqb (byte_at s p) 0x22) (is_opening (byte_at s p)) refl refl
    where
      go : (t u : Bool) → eqb (byte_at s p) 0x22 ≡ t → is_opening (byte_at s p) ≡ u → p ≤ past_value d s p
      go true u e f = omega (arith, value-string d s p (byte_at s p) refl (eqb-true (byte_at s p) 0x22 e), end-ahead s (p + 1))
      go false true e f = let o = opens f in omega (arith, value-ahead d s p o.0 o.1)
      go false false e f = omega (arith, value-word d s p (byte_at s p) refl (eqb-false (byte_at s p) 0x22 e) f, word-is s p, run-ahead (λ b. not (is_end b)) s p)

module _ (s : List ℕ) (m : ℕ) where
  pub space-within : (p : ℕ) → length s ≤ m → p ≤ m → past_space s p ≤ m
  unfolding past_space
  space-within p l h = run-within is_space s m p l h

  module _ (l : length s < m) where
    -- a backslash may be the last byte
    close-within : (n p : ℕ) → p ≤ m → close_in n s p ≤ m
    unfolding close_in
    close-within zero p h = h
    close-within (suc n) p h =
        decide (λ q. q ≤ m) (eqb (byte_at s p) 256) p _ (λ e. h)
        (λ e. let i = inside s p (eqb-false (byte_at s p) 256 e) in
        decide (λ q. q ≤ m) (eqb (byte_at s p) 0x22) (p + 1) _ (λ f. omega arith)
        (λ f. decide (λ q. q ≤ m) (eqb (byte_at s p) 0x5C) (close_in n s (p + 2)) (close_in n s (p + 1)) (λ g. close-within n (p + 2) (omega arith)) (λ g. close-within n (p + 1) (omega arith))))

    pub end-within : (p : ℕ) → p ≤ m → string_end s p ≤ m
    unfolding string_end
    end-within p h = close-within (length s) p h

    parts_within : (v : ℕ → ℕ) → ((q : ℕ) → q ≤ m → v q ≤ m) → (n p : ℕ) → p ≤ m → parts_past v s n p ≤ m
    unfolding parts_past past_between
    parts_within v w zero p h = h
    parts_within v w (suc n) p h =
        let b = run-within is_between s m p (omega arith) h in
        decide (λ q. q ≤ m) (eqb (byte_at s (past_between s p)) 256) (past_between s p) _ (λ e. b)
        (λ e. let i = inside s (past_between s p) (eqb-false (byte_at s (past_between s p)) 256 e) in
        decide (λ q. q ≤ m) (is_closing (byte_at s (past_between s p))) (past_between s p + 1) (parts_past v s n (v (past_between s p))) (λ f. omega arith) (λ f. parts_within v w n (v (past_between s p)) (w (past_between s p) b)))

    with_within : (f : ℕ → ℕ) → ((q : ℕ) → q ≤ m → f q ≤ m) → (p : ℕ) → p ≤ m → past_with f s p ≤ m
    unfolding past_with past_word
    with_within f w p h =
        decide (λ q. q ≤ m) (eqb (byte_at s p) 0x22) (string_end s (p + 1)) _ (λ e. let i = inside s p (λ z. omega (arith, eqb-true (byte_at s p) 0x22 e)) in end-within (p + 1) (omega arith))
        (λ e. decide (λ q. q ≤ m) (is_opening (byte_at s p)) (f (p + 1)) (past_word s p) (λ g. w (p + 1) (omega (arith, opens s p g))) (λ g. run-within (λ b. not (is_end b)) s m p (omega arith) h))

    pub value-within : (d p : ℕ) → p ≤ m → past_value d s p ≤ m
    unfolding past_value
    value-within zero p h = with_within (λ q. length s) (λ q w. omega arith) p h
    value-within (suc d) p h = with_within (λ q. parts_past (λ r. past_value d s r) s (length s) q) (λ q w. parts_within (λ r. past_value d s r) (λ r z. value-within d r z) (length s) q w) p h

-- past white space no place is further than the text's end and its own
pub placed : (s : List ℕ) (p : ℕ) → past_space s p ≤ length s + p
unfolding past_space
placed s p = run-within is_space s (length s + p) p (omega arith) (omega arith)
