-- The member that has a name, tried in whatever order.
use Prim.Native.Nat.{ℕ, zero, suc, ◌+◌, ◌*◌, ◌<◌, ◌≤◌}
use mathlib.Core.Path.{◌≡◌, refl, sym, ap, ◌∙◌}
use mathlib.Core.List.{List}
use mathlib.Core.Bool.{Bool, true, false, cond}
use Rattle.std.specs.List.{find, range_with_len}
use Rattle.std.specs.Prelude.{Option, None, Some}
use native.Mathlib.Omega.{arith}
use borrow.Author.Tests.{leb-true, leb-false}
use lib.Dec.{leb}
use lib.ListN.{length, get_or, take, drop, length-drop}
use lib.Seq.{length-take-le}
use Rattle.jer.specs.Table.{Table, table, field, first_of, count_of, member_row, name_at, name_in, same_bytes, position}
use Rattle.types.proofs.RowLaws.{name_in_lem}
use Rattle.jer.proofs.ValidLaws.{same_bytes-eq, same_bytes-refl, position_some, position-none}
use Rattle.spelled.specs.Names.{Unlike, Among, FoundAmong}

true-not : {A : Type 0} → true ≡ false → A
true-not e = absurd (let z : ◌≡◌ {A = ℕ} 0 1 = cc in omega arith)

-- names of different lengths differ
pub name-other : (s : List ℕ) (p n : ℕ) (x : List ℕ) → p + n ≤ length s → (length x ≡ n → ⊥) → false ≡ same_bytes x (take n (drop p s))
name-other s p n x l d = go (same_bytes x (take n (drop p s))) refl
  where
    go : (b : Bool) → same_bytes x (take n (drop p s)) ≡ b → false ≡ b
    go true e =
        let f = ap (length {A = ℕ}) (same_bytes-eq x (take n (drop p s)) e) in
        absurd (d (f ∙ length-take-le n (drop p s) (omega (arith, length-drop p s))))
    go false e = refl

pub name-same : (s : List ℕ) (p n : ℕ) (x y : List ℕ) {b : Bool} → b ≡ same_bytes x (take (length x) (drop p s)) → length x ≡ n → x ≡ y → b ≡ same_bytes y (take n (drop p s))
name-same s p n x y e f g = rw (← g, ← f) e

pub row-of : (t : Table) (first k : ℕ) (x : List ℕ) {w : ℕ} {b : Bool} → w ≡ k → b ≡ same_bytes (name_in t (first + w)) x → b ≡ same_bytes (name_in t (first + k)) x
row-of t first k x e f = rw (← e) f

-- the name in the row m has another length, where row and name end inside
pub name-unlike : (types names : List ℕ) (m n : ℕ) {start len : ℕ} → start ≡ get_or types (m * 8 + 3) 0 → len ≡ get_or types (m * 8 + 4) 0 → start + len ≤ length names → (len ≡ n → ⊥) → Unlike (table types names) m n
unfolding field
name-unlike types names m n {start} {len} a b h d s p l =
    let e = length-take-le len (drop start names) (omega (arith, length-drop start names)) in
    let f : take len (drop start names) ≡ name_in (table types names) m = name_in_lem types names m a b refl in
    sym (name-other s p n (take len (drop start names)) l (λ g. d (sym e ∙ g)) ∙ ap (λ (y : List ℕ). same_bytes y (take n (drop p s))) f)

-- ---- one member after another

-- the first of the members from the i-th on that has the name, if none before them has it
pub among-found : (t : Table) (first : ℕ) (x : List ℕ) (i n : ℕ) → ((j : ℕ) → j < i → same_bytes (name_in t (first + j)) x ≡ false) → Among t first (i + n) x (find (λ k. same_bytes (name_in t (first + k)) x) (range_with_len i n))
among-found t first x i zero h = λ j l. h j (omega arith)
among-found t first x i (suc n) h = go (same_bytes (name_in t (first + i)) x) refl (among-found t first x (i + 1) n)
  where
    more : same_bytes (name_in t (first + i)) x ≡ false → (j : ℕ) → j < i + 1 → same_bytes (name_in t (first + j)) x ≡ false
    more e j l = here (leb i j) refl
      where
        here : (b : Bool) → leb i j ≡ b → same_bytes (name_in t (first + j)) x ≡ false
        here true f = let g : i ≡ j = omega (arith, leb-true i j f) in rw g at e
        here false f = h j (leb-false i j f)

    go : (b : Bool) → same_bytes (name_in t (first + i)) x ≡ b → (((j : ℕ) → j < i + 1 → same_bytes (name_in t (first + j)) x ≡ false) → Among t first (i + 1 + n) x (find (λ k. same_bytes (name_in t (first + k)) x) (range_with_len (i + 1) n))) → Among t first (i + suc n) x (cond b (Some i) (find (λ k. same_bytes (name_in t (first + k)) x) (range_with_len (i + 1) n)))
    go true e k = (omega arith, h, e)
    go false e k = let g : i + 1 + n ≡ i + suc n = omega arith in rw g at (k (more e))

-- ---- the position

name-at : (t : Table) (r i : ℕ) → name_at t r i ≡ name_in t (first_of t r + i)
unfolding name_at member_row
name-at t r i = refl

-- a member that has the name is the one, if names differ
pub found_here : (t : Table) (first count k : ℕ) (x : List ℕ) → k < count → same_bytes (name_in t (first + k)) x ≡ true → FoundAmong t first count x (Some k)
found_here t first count k x l e r f c d = go (position t r x) refl
  where
    has : same_bytes (name_at t r k) x ≡ true
    has = rw (name-at t r k, ← f) e

    named : name_at t r k ≡ x
    named = same_bytes-eq (name_at t r k) x has

    same : (j : ℕ) → name_at t r j ≡ x → same_bytes (name_at t r j) (name_at t r k) ≡ true
    same j g = rw (g ∙ sym named) (same_bytes-refl (name_at t r k))

    same' : (j : ℕ) → name_at t r j ≡ x → same_bytes (name_at t r k) (name_at t r j) ≡ true
    same' j g = rw (g ∙ sym named) (same_bytes-refl (name_at t r k))

    pick : (j : ℕ) → j < count_of t r → name_at t r j ≡ x → (a b : Bool) → leb j k ≡ a → leb k j ≡ b → j ≡ k
    pick j m g true true u v = omega (arith, leb-true j k u, leb-true k j v)
    pick j m g true false u v = true-not (sym (same j g) ∙ d j k (leb-false k j v) (omega arith))
    pick j m g false b u v = true-not (sym (same' j g) ∙ d k j (leb-false j k u) m)

    go : (o : Option ℕ) → position t r x ≡ o → o ≡ Some k
    go None u = true-not (sym has ∙ position-none t r x u k (omega arith))
    go (Some j) u = let w = position_some t r x j u in ap Some (pick j w.0 (same_bytes-eq (name_at t r j) x w.1) (leb j k) (leb k j) refl refl)

-- so is the first that has it; with none the name is unknown
pub found_among : (t : Table) (first count : ℕ) (x : List ℕ) (o : Option ℕ) → Among t first count x o → FoundAmong t first count x o
found_among t first count x (Some k) a r f c d = found_here t first count k x a.0 a.2 r f c d
found_among t first count x None a r f c d = nothing (position t r x) refl
  where
    nothing : (o : Option ℕ) → position t r x ≡ o → o ≡ None
    nothing None u = refl
    nothing (Some j) u =
        let w = position_some t r x j u in
        true-not (sym w.1 ∙ rw (name-at t r j, ← f) (a j (omega arith)))
