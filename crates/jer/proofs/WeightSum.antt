-- The members of an object in table order cost no more than its entries in text order, whatever the cost.
use Rattle.std.specs.Prelude.{is_some}
use Prim.Native.Nat.{ℕ, zero, suc, ◌+◌, ◌≤◌, ◌<◌}
use mathlib.Core.Path.{◌≡◌, refl, sym, ap, subst, ◌∙◌}
use mathlib.Core.List.{List, [], ◌∷◌}
use mathlib.Core.Bool.{Bool, true, false}
use Rattle.std.specs.Prelude.{Option, None, Some}
use native.Mathlib.Omega.{arith}
use Rattle.jer.specs.Table.{Table, is_type, extensible, count_of, name_at, same_bytes, position}
use Rattle.jer.specs.Answer.{ok}
use Rattle.jer.specs.Read.{Entry, lookup, names_good}
use Rattle.jer.specs.Sane.{Sane}
use Rattle.jer.proofs.ValidLaws.{same_bytes-eq}
use Rattle.jer.proofs.WeightGot.{branch, cases, refused, nothing}

-- an entry and what it may cost
pub record Priced (P : Entry → ℕ → Type 0) : Type 0 where
  pub entry : Entry
  pub cost : ℕ
  pub fair : P entry cost

module _ {P : Entry → ℕ → Type 0} where
  abbrev pub entries_of : List (Priced P) → List Entry
  entries_of [] = []
  entries_of (x ∷ xs) = x.entry ∷ entries_of xs

  abbrev pub costs : List (Priced P) → ℕ
  costs [] = 0
  costs (x ∷ xs) = x.cost + costs xs

  -- the cost of the entry that a name finds
  unfoldable pub price : List ℕ → List (Priced P) → ℕ
  price s [] = 0
  price s (x ∷ xs) = elim (same_bytes x.entry.name s) [ true ↦ x.cost | false ↦ price s xs ]

  -- and of those that n names of the type find, from the position i on
  unfoldable pub total : Table → ℕ → List (Priced P) → ℕ → ℕ → ℕ
  total t r xs i zero = 0
  total t r xs i (suc n) = price (name_at t r i) xs + total t r xs (suc i) n

-- entries that are among those of the cost n
pub record Kept (P : Entry → ℕ → Type 0) (es : List Entry) (n : ℕ) : Type 0 where
  pub list : List (Priced P)
  pub same : es ≡ entries_of list
  pub most : costs list ≤ n

module _ {P : Entry → ℕ → Type 0} where
  -- an entry that a name finds has the name and is worth its price
  pub price-found : (s : List ℕ) (xs : List (Priced P)) (e : Entry) → lookup s (entries_of xs) ≡ Some e → (e.name ≡ s) × P e (price s xs)
  unfolding lookup price
  price-found s [] e l = nothing l
  price-found s (x ∷ xs) e l = go (same_bytes x.entry.name s) refl (price-found s xs e)
    where
      go : (c : Bool) → same_bytes x.entry.name s ≡ c → (lookup s (entries_of xs) ≡ Some e → (e.name ≡ s) × P e (price s xs)) → (e.name ≡ s) × P e (price s (x ∷ xs))
      go true w ih =
          let l' : Some x.entry ≡ Some e = rw (w, lookup) at l in
          let q : x.entry ≡ e = cc in
          (ap (λ (d : Entry). d.name) (sym q) ∙ same_bytes-eq _ _ w, rw (w, price) (subst (λ (d : Entry). P d x.cost) q x.fair))
      go false w ih = rw (w, price) (ih (rw (w, lookup) at l))

  module _ (t : Table) (g : Sane t) (r : ℕ) (y : is_type t r ≡ true) where
    -- past the entry's own name, the entry counts no more
    total-past : (x : Priced P) (xs : List (Priced P)) (k i n : ℕ) → x.entry.name ≡ name_at t r k → k < i → i + n ≤ count_of t r → total t r (x ∷ xs) i n ≡ total t r xs i n
    unfolding total price
    total-past x xs k i zero e l h = refl
    total-past x xs k i (suc n) e l h =
        let d : same_bytes x.entry.name (name_at t r i) ≡ false = rw e (g.differ r k i y l (omega arith)) in
        rw (d, price) (ap (λ (m : ℕ). price (name_at t r i) xs + m) (total-past x xs k (suc i) n e (omega arith) (omega arith)))

    -- one more entry costs at most its own cost more
    total-cons : (x : Priced P) (xs : List (Priced P)) (i n : ℕ) → i + n ≤ count_of t r → total t r (x ∷ xs) i n ≤ x.cost + total t r xs i n
    unfolding total price
    total-cons x xs i zero h = omega arith
    total-cons x xs i (suc n) h =
        branch (λ (m : ℕ). m + total t r (x ∷ xs) (suc i) n ≤ x.cost + (price (name_at t r i) xs + total t r xs (suc i) n)) (same_bytes x.entry.name (name_at t r i))
        (λ w. omega (arith, total-past x xs i (suc i) n (same_bytes-eq _ _ w) (omega arith) (omega arith)))
        (λ w. omega (arith, total-cons x xs (suc i) n (omega arith)))

    -- the law of objects: members found by different names cost no more than all entries
    pub total-most : (xs : List (Priced P)) (i n : ℕ) → i + n ≤ count_of t r → total t r xs i n ≤ costs xs
    unfolding total price
    total-most [] i n h = omega (arith, none_found i n)
      where
        none_found : (i n : ℕ) → total {P = P} t r [] i n ≡ 0
        none_found i zero = refl
        none_found i (suc n) = omega (arith, none_found (suc i) n)
    total-most (x ∷ xs) i n h = omega (arith, total-cons x xs i n h, total-most xs i n h)

  -- the entries with known names are among all entries
  pub names-kept : (t : Table) (r : ℕ) (met xs : List (Priced P)) (es : List Entry) → names_good t r (entries_of met) (entries_of xs) ≡ ok es → Kept P es (costs met + costs xs)
  unfolding names_good
  names-kept t r met [] es e = let q : entries_of met ≡ es = cc in record { list = met; same = sym q; most = omega arith }
  names-kept t r met (x ∷ xs) es e = go (position t r x.entry.name) refl (λ ys. names-kept t r ys xs es)
    where
      Goal : Type 0
      Goal = Kept P es (costs met + (x.cost + costs xs))

      go : (c : Option ℕ) → position t r x.entry.name ≡ c → ((ys : List (Priced P)) → names_good t r (entries_of ys) (entries_of xs) ≡ ok es → Kept P es (costs ys + costs xs)) → Goal
      go None w ih =
          cases (extensible t r)
          (λ u f. let k = ih met f in record { list = k.list; same = k.same; most = omega arith })
          (λ u f. refused f)
          (rw (w, names_good) at e)
      go (Some i) w ih =
          cases (is_some (lookup x.entry.name (entries_of met)))
          (λ u f. refused f)
          (λ u f. let k = ih (x ∷ met) f in record { list = k.list; same = k.same; most = omega arith })
          (rw (w, names_good) at e)
