-- Laws of rows, places and bytes: what holds at every row that has the byte holds of the row that is picked.
use Prim.Native.Nat.{ℕ, suc}
use mathlib.Core.Path.{◌≡◌, refl}
use mathlib.Core.List.{List, [], ◌∷◌, ◌++◌, append_assoc}
use mathlib.Core.Bool.{Bool, true, false, ◌&&◌}
use native.Mathlib.Omega.{arith}
use lib.Dec.{leb}
use borrow.Author.Tests.{leb-true}
use Rattle.json_text.specs.Bytes.{In, Row, on, pick, past}
use Rattle.json_text.proofs.Feed.{in-true}

in-tested : (lo hi b : ℕ) → (leb lo b && leb b hi) ≡ true → In lo hi b
in-tested lo hi b e = go (leb lo b) refl e
  where
    go : (c : Bool) → leb lo b ≡ c → (c && leb b hi) ≡ true → In lo hi b
    go true l h = (leb-true lo b l, leb-true b hi h)
    go false l h = absurd (let z : ◌≡◌ {A = ℕ} 0 1 = cc in omega arith)

-- the first row is picked, or the byte is not in it and a later one is
pub pick_first : {A : Type 0} (Q : A → Type 0) (b lo hi : ℕ) (f : ℕ → A) (rs : List (Row A)) (d : A) → (In lo hi b → Q (f b)) → ((In lo hi b → ⊥) → Q (pick b rs d)) → Q (pick b (on lo hi f ∷ rs) d)
unfolding pick
pick_first Q b lo hi f rs d h k = go (leb lo b && leb b hi) refl
  where
    go : (c : Bool) → (leb lo b && leb b hi) ≡ c → Q (pick b (on lo hi f ∷ rs) d)
    go true w = rw (w, pick) (h (in-tested lo hi b w))
    go false w = rw (w, pick) (k (λ i. let e = in-true lo hi b i in let z : ◌≡◌ {A = ℕ} 0 1 = cc in omega arith))

-- Q holds at each row that has the byte
abbrev pub Within : {A : Type 0} → (A → Type 0) → ℕ → List (Row A) → Type 0
Within Q b [] = Unit {0}
Within Q b (on lo hi f ∷ rs) = (In lo hi b → Q (f b)) × Within Q b rs

-- the rows one after the other, and `tt` at the end
infixr 20 ◌⨾◌
pub ◌⨾◌ : {X Y : Type 0} → X → Y → X × Y
◌⨾◌ x y = (x, y)

pub pick-within : {A : Type 0} (Q : A → Type 0) (b : ℕ) (rs : List (Row A)) (d : A) → Within Q b rs → Q d → Q (pick b rs d)
unfolding pick
pick-within Q b [] d h e = e
pick-within Q b (on lo hi f ∷ rs) d h e = pick_first Q b lo hi f rs d h.0 (λ m. pick-within Q b rs d h.1 e)

-- a row of one byte
pub only : {b c : ℕ} → In c c b → b ≡ c
only i = omega arith

pub past_append : (p : ℕ) (xs ys : List ℕ) → past p (xs ++ ys) ≡ past (past p xs) ys
unfolding past
past_append p [] ys = refl
past_append p (x ∷ xs) ys = past_append (suc p) xs ys

-- equal bytes are equal behind one byte
pub behind : {b : ℕ} {xs ys : List ℕ} → xs ≡ ys → ◌≡◌ {A = List ℕ} (b ∷ xs) (b ∷ ys)
behind e = cc

pub grouped : (xs vs ws : List ℕ) {zs : List ℕ} → zs ≡ vs ++ ws → xs ++ zs ≡ (xs ++ vs) ++ ws
grouped xs vs ws e = rw (e, append_assoc)
