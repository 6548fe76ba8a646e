-- Two tables of rows by the same ranges lead to related results.
use Prim.Native.Nat.{ℕ}
use mathlib.Core.Path.{◌≡◌, refl}
use mathlib.Core.List.{List, [], ◌∷◌}
use mathlib.Core.Bool.{Bool, true, false, ◌&&◌}
use native.Mathlib.Omega.{arith}
use borrow.Author.Tests.{leb-true}
use lib.Dec.{leb}
use Rattle.json_text.specs.Bytes.{Row, on, pick, In}

-- Row by row; the second table may have rows to spare, and rows at its end where the first has none.
pub data Alike {A B : Type 0} (Q : A → B → Type 0) (b : ℕ) (d : A) (e : B) : List (Row A) → List (Row B) → Type 0 where
  end : Q d e → Alike Q b d e [] []
  rest : {ss : List (Row B)} → Q d (pick b ss e) → Alike Q b d e [] ss
  row : {lo hi : ℕ} {f : ℕ → A} {g : ℕ → B} {rs : List (Row A)} {ss : List (Row B)} → Q (f b) (g b) → Alike Q b d e rs ss → Alike Q b d e (on lo hi f ∷ rs) (on lo hi g ∷ ss)
  spare : {lo hi : ℕ} {g : ℕ → B} {rs : List (Row A)} {ss : List (Row B)} → (In lo hi b → Q (pick b rs d) (g b)) → Alike Q b d e rs ss → Alike Q b d e rs (on lo hi g ∷ ss)

within : (lo hi b : ℕ) → (leb lo b && leb b hi) ≡ true → In lo hi b
within lo hi b e = go (leb lo b) (leb b hi) refl refl e
  where
    go : (x y : Bool) → leb lo b ≡ x → leb b hi ≡ y → (x && y) ≡ true → In lo hi b
    go true true u v w = (leb-true lo b u, leb-true b hi v)
    go true false u v w = absurd (let z : ◌≡◌ {A = ℕ} 0 1 = cc in omega arith)
    go false y u v w = absurd (let z : ◌≡◌ {A = ℕ} 0 1 = cc in omega arith)

pub pick-alike : {A B : Type 0} {Q : A → B → Type 0} {b : ℕ} {d : A} {e : B} {rs : List (Row A)} {ss : List (Row B)} → Alike Q b d e rs ss → Q (pick b rs d) (pick b ss e)
unfolding pick
pick-alike (end q) = q
pick-alike (rest q) = q
pick-alike {A} {B} {Q = Q} {b = b} {d = d} {e = e} (row {lo} {hi} {f} {g} {rs} {ss} q a) = go (leb lo b && leb b hi) (pick-alike a)
  where
    go : (t : Bool) → Q (pick b rs d) (pick b ss e) → Q (elim t as (λ x. A) [ true ↦ f b | false ↦ pick b rs d ]) (elim t as (λ x. B) [ true ↦ g b | false ↦ pick b ss e ])
    go true h = q
    go false h = h
pick-alike {A} {B} {Q = Q} {b = b} {d = d} {e = e} {rs = rs} (spare {lo} {hi} {g} {ss = ss} q a) = go (leb lo b && leb b hi) refl (pick-alike a)
  where
    go : (t : Bool) → (leb lo b && leb b hi) ≡ t → Q (pick b rs d) (pick b ss e) → Q (pick b rs d) (elim t as (λ x. B) [ true ↦ g b | false ↦ pick b ss e ])
    go true w h = q (within lo hi b w)
    go false w h = h

-- a row of the second table where the first has none left
pub over : {A B : Type 0} {Q : A → B → Type 0} {b : ℕ} {d : A} {e : B} {lo hi : ℕ} {g : ℕ → B} {ss : List (Row B)} → Q d (g b) → Alike Q b d e [] ss → Alike Q b d e [] (on lo hi g ∷ ss)
unfolding pick
over q a = spare (λ w. q) a

-- a row that does not have the byte
pub miss : {A : Type 0} (b lo hi : ℕ) (f : ℕ → A) (rs : List (Row A)) (d : A) → (In lo hi b → ⊥) → pick b (on lo hi f ∷ rs) d ≡ pick b rs d
unfolding pick
miss b lo hi f rs d h = go (leb lo b && leb b hi) refl
  where
    go : (t : Bool) → (leb lo b && leb b hi) ≡ t → pick b (on lo hi f ∷ rs) d ≡ pick b rs d
    go true w = absurd (h (within lo hi b w))
    go false w = rw (w, pick)
