-- A pairing of rows that is given as a list: a test that can be computed tells that it makes the newer table from the older by additions.
use Prim.Native.Nat.{ℕ, ◌≤◌, ◌<◌}
use mathlib.Core.Path.{◌≡◌, refl}
use mathlib.Core.List.{List, [], ◌∷◌}
use mathlib.Core.Bool.{Bool, true, false, ◌&&◌, ◌||◌, not}
use native.Mathlib.Omega.{arith}
use lib.Dec.{eqb, ltb, leb}
use borrow.Author.Tests.{eqb-true, leb-true, eq-eqb, lt-ltb}
use Rattle.jer.specs.Table.{Table, SEQUENCE-OF, tag_of, kind_of, marks_of, extensible, element_of, count_of, root_of, optional, type_at, name_at, same_bytes}
use Rattle.jer.specs.Valid.{every, implies}
use Rattle.jer.specs.Cut.{ByAdditions}
use Rattle.jer.proofs.ValidLaws.{every-below, same_bytes-eq}
use Rattle.jer.proofs.ValidRows.{both}

-- the newer's row, and the older's
pub record Pair : Type 0 where
  pub newer : ℕ
  pub older : ℕ

abbrev pub pair : ℕ → ℕ → Pair
pair a b = record { newer = a; older = b }

unfoldable pub among : List Pair → ℕ → ℕ → Bool
among [] a b = false
among (p ∷ ps) a b = (eqb p.newer a && eqb p.older b) || among ps a b

-- the relation that the list stands for
abbrev pub Listed : List Pair → ℕ → ℕ → Type 0
Listed ps a b = among ps a b ≡ true

unfoldable pub same : Bool → Bool → Bool
same true b = b
same false b = not b

-- does the member i of the paired rows a and b keep the rules?
unfoldable pub keeps_member : Table → Table → List Pair → ℕ → ℕ → ℕ → Bool
keeps_member new old ps a b i = same_bytes (name_at new a i) (name_at old b i) && (same (optional new a i) (optional old b i) && among ps (type_at new a i) (type_at old b i))

-- do the rows a and b?
unfoldable pub keeps : Table → Table → List Pair → ℕ → ℕ → Bool
keeps new old ps a b =
    eqb (tag_of new a) (tag_of old b) && (eqb (marks_of new a) (marks_of old b) && (eqb (root_of new a) (root_of old b)
    && (implies (eqb (kind_of old b) SEQUENCE-OF) (among ps (element_of new a) (element_of old b)) && (leb (count_of old b) (count_of new a)
    && (implies (ltb (count_of old b) (count_of new a)) (extensible old b) && every (keeps_member new old ps a b) 0 (count_of old b))))))

unfoldable pub all_keep : Table → Table → List Pair → List Pair → Bool
all_keep new old ps [] = true
all_keep new old ps (q ∷ qs) = keeps new old ps q.newer q.older && all_keep new old ps qs

-- the whole test
unfoldable pub by_additions : Table → Table → List Pair → Bool
by_additions new old ps = among ps 0 0 && all_keep new old ps ps

-- ---- what the test tells

split : (a b : Bool) → (a && b) ≡ true → (a ≡ true) × (b ≡ true)
split a b h = (both a b).0 h

told : (a b : Bool) → implies a b ≡ true → a ≡ true → b ≡ true
unfolding implies
told true b h e = h
told false b h e = absurd (let z : ◌≡◌ {A = ℕ} 0 1 = cc in omega arith)

same_true : (a b : Bool) → same a b ≡ true → a ≡ b
unfolding same
same_true true true h = refl
same_true true false h = absurd (let z : ◌≡◌ {A = ℕ} 0 1 = cc in omega arith)
same_true false true h = absurd (let z : ◌≡◌ {A = ℕ} 0 1 = cc in omega arith)
same_true false false h = refl

record KeptMember (new old : Table) (ps : List Pair) (a b i : ℕ) : Type 0 where
  names : name_at new a i ≡ name_at old b i
  optionals : optional new a i ≡ optional old b i
  types : Listed ps (type_at new a i) (type_at old b i)

kept-member : (new old : Table) (ps : List Pair) (a b i : ℕ) → keeps_member new old ps a b i ≡ true → KeptMember new old ps a b i
unfolding keeps_member
kept-member new old ps a b i h =
    let n = split _ _ h in
    let o = split _ _ n.1 in
    record { names = same_bytes-eq _ _ n.0; optionals = same_true _ _ o.0; types = o.1 }

record Kept (new old : Table) (ps : List Pair) (a b : ℕ) : Type 0 where
  tags : tag_of new a ≡ tag_of old b
  marks : marks_of new a ≡ marks_of old b
  roots : root_of new a ≡ root_of old b
  elements : kind_of old b ≡ SEQUENCE-OF → Listed ps (element_of new a) (element_of old b)
  fewer : count_of old b ≤ count_of new a
  grown : count_of old b < count_of new a → extensible old b ≡ true
  members : (i : ℕ) → i < count_of old b → KeptMember new old ps a b i

kept : (new old : Table) (ps : List Pair) (a b : ℕ) → keeps new old ps a b ≡ true → Kept new old ps a b
unfolding keeps
kept new old ps a b h =
    let k = split _ _ h in
    let m = split _ _ k.1 in
    let r = split _ _ m.1 in
    let e = split _ _ r.1 in
    let f = split _ _ e.1 in
    let g = split _ _ f.1 in
    record {
      tags = eqb-true _ _ k.0;
      marks = eqb-true _ _ m.0;
      roots = eqb-true _ _ r.0;
      elements = λ w. told _ _ e.0 (eq-eqb _ _ w);
      fewer = leb-true _ _ f.0;
      grown = λ l. told _ _ g.0 (lt-ltb _ _ l);
      members = λ i l. kept-member new old ps a b i (every-below (keeps_member new old ps a b) (count_of old b) g.1 i l);
    }

-- a pair of the list keeps the rules
listed-keeps : (new old : Table) (ps qs : List Pair) (a b : ℕ) → all_keep new old ps qs ≡ true → Listed qs a b → keeps new old ps a b ≡ true
unfolding all_keep among
listed-keeps new old ps [] a b h l = absurd (let z : ◌≡◌ {A = ℕ} 0 1 = cc in omega arith)
listed-keeps new old ps (q ∷ qs) a b h l = go (eqb q.newer a && eqb q.older b) refl l (listed-keeps new old ps qs a b first.1)
  where
    first : (keeps new old ps q.newer q.older ≡ true) × (all_keep new old ps qs ≡ true)
    first = split (keeps new old ps q.newer q.older) (all_keep new old ps qs) h

    go : (c : Bool) → (eqb q.newer a && eqb q.older b) ≡ c → (c || among qs a b) ≡ true → (among qs a b ≡ true → keeps new old ps a b ≡ true) → keeps new old ps a b ≡ true
    go true w l ih =
        let e = split _ _ w in
        let x : q.newer ≡ a = eqb-true _ _ e.0 in
        let y : q.older ≡ b = eqb-true _ _ e.1 in
        rw (← x, ← y) first.0
    go false w l ih = ih l

pub by_additions_lem : (new old : Table) (ps : List Pair) → by_additions new old ps ≡ true → ByAdditions new old (Listed ps)
unfolding by_additions
by_additions_lem new old ps h =
    record {
      whole = (split _ _ h).0;
      tags = λ a b l. (at a b l).tags;
      marks = λ a b l. (at a b l).marks;
      roots = λ a b l. (at a b l).roots;
      elements = λ a b l. (at a b l).elements;
      fewer = λ a b l. (at a b l).fewer;
      grown = λ a b l. (at a b l).grown;
      names = λ a b i l m. ((at a b l).members i m).names;
      optionals = λ a b i l m. ((at a b l).members i m).optionals;
      types = λ a b i l m. ((at a b l).members i m).types;
    }
  where
    at : (a b : ℕ) → Listed ps a b → Kept new old ps a b
    at a b l = kept new old ps a b (listed-keeps new old ps ps a b (split (among ps 0 0) (all_keep new old ps ps) h).1 l)
