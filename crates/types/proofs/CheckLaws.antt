-- The passes and what they answer. Assumes nothing.
use Rattle.std.specs.Prelude.{Err, Ok}
use Rattle.jer.specs.Answer.{Judged}
use mathlib.Core.Path.{◌≡◌, refl, sym, ap, ◌∙◌}
use mathlib.Core.Bool.{Bool, true, false, not}
use Rattle.std.specs.Prelude.{Option, None, Some}
use Prim.Native.Nat.{ℕ, zero, suc, ◌+◌, ◌/◌, ◌<◌}
use native.Mathlib.Omega.{arith}
use borrow.Author.Tests.{not-true, not-false}
use lib.ListN.{length}
use Rattle.jer.specs.declared.Which.TheVariants.{TypeTable}
use Rattle.jer.specs.declared.Refusal.{Refusal}
use Rattle.jer.specs.declared.Refusal.TheVariants.{AtRow}
use Rattle.jer.specs.Table.{Table, row_count, first_where}
use Rattle.jer.specs.Valid.{good_alone, good_pointers, good_rules, good_sizes, or_else, pass, first_bad}
use Rattle.jer.proofs.ValidLaws.{first-none}
use Rattle.jer.specs.Calls.{table_of, good_table, judged_by, table_judged}
use Rattle.types.specs.Check.{row_judged}
use Rattle.types.specs.Sure.{SureLinks}

-- a row that is bad by itself
abbrev pub bad_alone : Table → ℕ → Bool
bad_alone t r = not (good_alone t r)

-- a pass that finds no bad row
good_none : (o : Option ℕ) → row_judged o ≡ Ok tt → o ≡ None
good_none None h = refl
good_none (Some r) h = absurd (let z : ◌≡◌ {A = ℕ} 0 1 = cc in omega arith)

pub alone-all : (t : Table) {a : Judged} → a ≡ row_judged (pass t (good_alone t)) → a ≡ Ok tt → (r : ℕ) → r < length t.rows / 8 → good_alone t r ≡ true
unfolding pass row_count
alone-all t q g r l =
    not-false (good_alone t r) (first-none (bad_alone t) 0 (row_count t) (good_none (pass t (good_alone t)) (sym q ∙ g)) r (omega arith) (omega arith))

none_first : (f : ℕ → Bool) (n i : ℕ) → ((k : ℕ) → k < i + n → f k ≡ false) → first_where f i n ≡ None
unfolding first_where
none_first f zero i h = refl
none_first f (suc n) i h = rw (h i (omega arith), first_where) (none_first f n (suc i) (λ k l. h k (omega arith)))

none-bad : (t : Table) (good : ℕ → Bool) → ((r : ℕ) → r < length t.rows / 8 → good r ≡ true) → pass t good ≡ None
unfolding pass row_count
none-bad t good h = none_first (λ r. not (good r)) (row_count t) 0 (λ k l. ap not (h k (omega arith)))

judged-row : (t : Table) (o : Option ℕ) → row_judged o ≡ judged_by (table_of t o)
unfolding judged_by table_of
judged-row t None = refl
judged-row t (Some r) = refl

-- the first of two passes that finds a bad row answers
first-refuses : (a b : Option ℕ) {e : Refusal} → row_judged a ≡ Err e → row_judged (or_else a b) ≡ Err e
unfolding or_else
first-refuses None b h = absurd (let z : ◌≡◌ {A = ℕ} 0 1 = cc in omega arith)
first-refuses (Some r) b h = h

first_passes : (a b : Option ℕ) → row_judged a ≡ Ok tt → row_judged (or_else a b) ≡ row_judged b
unfolding or_else
first_passes None b h = refl
first_passes (Some r) b h = absurd (let z : ◌≡◌ {A = ℕ} 0 1 = cc in omega arith)

none-two : (a b : Option ℕ) → a ≡ None → b ≡ None → Ok tt ≡ row_judged (or_else a b)
unfolding or_else
none-two a b p q = rw (p, q)

bad-sizes : (t : Table) → good_sizes t ≡ false → first_bad t ≡ Some 0
unfolding first_bad
bad-sizes t h = rw (h, first_bad)

good-sizes : (t : Table) → good_sizes t ≡ true → first_bad t ≡ or_else (pass t (good_alone t)) (or_else (pass t (good_pointers t)) (pass t (good_rules t)))
unfolding first_bad
good-sizes t h = rw (h, first_bad)

-- the answer is that of the first bad row
answers : (t : Table) (o : Option ℕ) → first_bad t ≡ o → row_judged o ≡ table_judged t
unfolding table_judged good_table
answers t o e = judged-row t o ∙ rw (← e)

module _ (t : Table) {s : Bool} (p : s ≡ good_sizes t) where
  pub check_sizes : not s ≡ true → Err (AtRow TypeTable 0) ≡ table_judged t
  check_sizes h = answers t (Some 0) (bad-sizes t (sym p ∙ not-true s h))

  module _ (h : not s ≡ false) where
    all_three : row_judged (or_else (pass t (good_alone t)) (or_else (pass t (good_pointers t)) (pass t (good_rules t)))) ≡ table_judged t
    all_three = answers t _ (good-sizes t (sym p ∙ not-false s h))

    module _ {a : Judged} (q : a ≡ row_judged (pass t (good_alone t))) where
      pub check_alone : {e : Refusal} → a ≡ Err e → Err e ≡ table_judged t
      check_alone g = sym (first-refuses _ _ (sym q ∙ g)) ∙ all_three

      -- no row is bad for the second and the third pass
      pub check_sure : a ≡ Ok tt → ((r : ℕ) → r < length t.rows / 8 → SureLinks t r) → Ok tt ≡ table_judged t
      check_sure g s =
          none-two (pass t (good_pointers t)) (pass t (good_rules t)) (none-bad t (good_pointers t) (λ r l. (s r l).pointers)) (none-bad t (good_rules t) (λ r l. (s r l).rules))
          ∙ sym (first_passes (pass t (good_alone t)) (or_else (pass t (good_pointers t)) (pass t (good_rules t))) (sym q ∙ g)) ∙ all_three

      module _ (g : a ≡ Ok tt) {b : Judged} (u : b ≡ row_judged (pass t (good_pointers t))) where
        pub check_pointers : {e : Refusal} → b ≡ Err e → Err e ≡ table_judged t
        check_pointers f = sym (first-refuses _ _ (sym u ∙ f)) ∙ sym (first_passes _ _ (sym q ∙ g)) ∙ all_three

        pub check_rules : {c : Judged} → b ≡ Ok tt → c ≡ row_judged (pass t (good_rules t)) → c ≡ table_judged t
        check_rules f v = v ∙ sym (first_passes _ _ (sym u ∙ f)) ∙ sym (first_passes _ _ (sym q ∙ g)) ∙ all_three
