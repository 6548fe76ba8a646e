-- The readers of the cycle, by the facts that the code has at each call and return. Assumes nothing.
use mathlib.Core.Path.{◌≡◌, refl, sym, subst, ◌∙◌}
use mathlib.Core.List.{List, [], ◌∷◌}
use mathlib.Core.Bool.{Bool, true, false}
use Rattle.std.specs.Prelude.{Option, None, Some, Ok, Err}
use Prim.Native.Nat.{ℕ, ◌+◌, ◌-◌, ◌^◌, ◌<◌, ◌≤◌, ◌*◌}
use native.Mathlib.Omega.{arith}
use lib.Count.{ones}
use lib.Dec.{eqb}
use lib.ListN.{length}
use lib.Seq.{sets}
use Rattle.jer.specs.declared.Cause.{Cause}
use Rattle.jer.specs.declared.Cause.TheVariants.{Unknown}
use Rattle.jer.specs.declared.Refusal.{Refusal}
use Rattle.jer.specs.Table.{Table, is_type, element_of, count_of, kind_of, SEQUENCE}
use Rattle.jer.specs.Value.{Val, v_seq, v_list, Vals, Parts}
use Rattle.jer.specs.Answer.{Res, ok, no, bind, at}
use Rattle.places.specs.declared.Follows.{Follows}
use Rattle.places.specs.declared.Follows.TheVariants.{Part, Shut}
use Rattle.places.specs.ByPlaces.{Got, got, Reader, value_place, first_part, one_at, items_at, list_at, elements_at, array_at, surplus_at, within}
use Rattle.tokens.specs.Places.{byte_at, past_space}
use Rattle.tokens.specs.Skip.{past_value}
use Rattle.scan.proofs.PartLaws.{first-inside}
use Rattle.leaf.specs.declared.Taken.{Taken}
use Rattle.leaf.specs.Step.{Step, taken, refused_at}
use Rattle.typed.specs.Cycle.{Given, Reads, Small, bounded}
use Rattle.typed.proofs.StoredLaws.{Took, took, not-took, reads-no, along, closed, whole_seq}
use Rattle.typed.proofs.ListLaws.{Near}
use Rattle.typed.proofs.SequenceLaws.{Elements, elements-end, elements-surplus, surplus-near}

-- ---- a reader that was called

pub record Passed (t : Table) (r : ℕ) (x : Res (Got Val)) (b y a m : ℕ) : Type 0 where
  pub took : Took t r x y a m
  pub near : y ≤ b
  pub few_rows : a < 2 ^ 32
  pub few_bytes : m < 2 ^ 32

module _ {z : Step} {rows₁ rows₀ pool₁ pool₀ : List ℕ} {i o b : ℕ} {t : Table} {r : ℕ} {x : Res (Got Val)} (f : Reads z rows₁ rows₀ pool₁ pool₀ i o b t r x) where
  pub passed : {y : Taken} → z ≡ Ok y → Passed t r x b y.next y.rows y.pool
  passed {y} e =
      let s : Small b (Ok y) = subst (Small b) e f.small in
      record { took = took t r x y (sym e ∙ f.stepped.answer); near = s.0; few_rows = s.1; few_bytes = s.2 }

  pub failed : {e : Refusal} → z ≡ Err e → x ≡ no e
  failed {e} h = not-took t r x e (sym h ∙ f.stepped.answer)

-- ---- what a reader is given

module _ {t : Table} {s : List ℕ} {r p i o d : ℕ} where
  pub given_below : Given t s r p (i + 1) o d → Given t s r p i o d
  given_below f = record { sane = f.sane; typed = f.typed; short = f.short; near = f.near; row_room = omega (arith, f.row_room); byte_room = f.byte_room }

  pub given-type : {q : ℕ} → Given t s r p i o d → is_type t q ≡ true → Given t s q p i o d
  given-type f h = record { sane = f.sane; typed = h; short = f.short; near = f.near; row_room = f.row_room; byte_room = f.byte_room }

  -- a part, after n rows and m bytes of those before it
  pub given_part : {q u n m : ℕ} → Given t s r p i o d → 0 < d → is_type t q ≡ true → u ≤ 4294967295 → n ≤ 281474976710656 → m ≤ 281474976710656 → Given t s q u (i + 1 + n + 1) (o + m) (d - 1)
  given_part f l h k a b = record { sane = f.sane; typed = h; short = f.short; near = k; row_room = omega (arith, f.row_room); byte_room = omega (arith, f.byte_room) }

  -- the one part of a choice
  pub given-one : {q u : ℕ} → Given t s r p i o d → 0 < d → is_type t q ≡ true → u ≤ 4294967295 → Given t s q u (i + 1 + 1) o (d - 1)
  given-one f l h k = record { sane = f.sane; typed = h; short = f.short; near = k; row_room = omega (arith, f.row_room); byte_room = omega (arith, f.byte_room) }

-- ---- a bracket's result, counted

module _ (t : Table) (r : ℕ) where
  pub over-ok : {g : Got Val} {x : Res (Got Val)} → ok g ≡ x → within t r g ≡ bind x (within t r)
  unfolding bind
  over-ok e = rw (← e)

  pub over_no : {y : Refusal} {x : Res (Got Val)} → no y ≡ x → no y ≡ bind x (within t r)
  unfolding bind
  over_no e = rw (← e)

module _ (value : Reader) (t : Table) (s : List ℕ) (r p : ℕ) where
  pub list-ok : {vs : Vals} {q : ℕ} → ok (got vs q) ≡ items_at (λ q. value (element_of t r) q) s (length s) (first_part s 0x5D p) → ok (got (v_list vs) q) ≡ list_at value t s r p
  unfolding list_at bind
  list-ok e = rw (← e)

  pub list-no : {y : Refusal} → no y ≡ items_at (λ q. value (element_of t r) q) s (length s) (first_part s 0x5D p) → no y ≡ list_at value t s r p
  unfolding list_at bind
  list-no e = rw (← e)

  module _ (d : ℕ) where
    pub array_ok : {ps : Parts} {q : ℕ} → ok (got ps q) ≡ elements_at value d t s r p 0 (count_of t r) (first_part s 0x5D p) → ok (got (v_seq ps) q) ≡ array_at value d t s r p
    unfolding array_at bind
    array_ok e = rw (← e)

    pub array-no : {y : Refusal} → no y ≡ elements_at value d t s r p 0 (count_of t r) (first_part s 0x5D p) → no y ≡ array_at value d t s r p
    unfolding array_at bind
    array-no e = rw (← e)

    module _ {f : Follows} {i o n m k bits : ℕ} {rows₁ rows₀ pool₁ pool₀ : List ℕ}
        (w : Elements value d t s r p (elements_at value d t s r p 0 (count_of t r) (first_part s 0x5D p)) f i o n m k bits rows₁ rows₀ pool₁ pool₀) (l : count_of t r ≤ k) where
      -- an array with surplus elements, refused
      pub array-surplus : {e : Refusal} → Err e ≡ surplus_at d t s r f → no e ≡ array_at value d t s r p
      array-surplus u = array-no (elements-surplus value d t s r p w l u)

      -- the array's own row, after its last member
      pub array-end : {a b y q : ℕ} {z : Step} {rows₂ : List ℕ} → kind_of t r ≡ SEQUENCE → a ≡ ones bits → length s ≤ 65536 → 65537 ≤ b → b ≤ y → Near b f → Ok q ≡ surplus_at d t s r f
          → z ≡ bounded (taken q (n + 1) m) → (n + 1 < 2 ^ 32 → rows₂ ≡ sets rows₁ (i * 4) (SEQUENCE ∷ a ∷ 0 ∷ (n + 1) ∷ [])) → Reads z rows₂ rows₀ pool₁ pool₀ i o y t r (bind (array_at value d t s r p) (within t r))
      array-end {b = b} {q = q} h e short far far' near u v st =
          along (over-ok t r (array_ok (elements-end value d t s r p w l u))) (closed (whole_seq w.done.sofar h w.done.members (e ∙ w.done.count)) (omega (arith, surplus-near d t s r b q f short far near u)) v st)

-- ---- along an equation of rows, and refusals by a test

pub at_row : {z : Step} {rows₁ rows₀ pool₁ pool₀ : List ℕ} {i o b : ℕ} {t : Table} {r e : ℕ} (value : Reader) (q : ℕ) → r ≡ e → Reads z rows₁ rows₀ pool₁ pool₀ i o b t r (value r q) → Reads z rows₁ rows₀ pool₁ pool₀ i o b t e (value e q)
at_row {z} {rows₁} {rows₀} {pool₁} {pool₀} {i} {o} {b} {t} value q e f = subst (λ (u : ℕ). Reads z rows₁ rows₀ pool₁ pool₀ i o b t u (value u q)) e f

module _ {z : Step} {rows₁ rows₀ pool₁ pool₀ : List ℕ} {i o b : ℕ} {t : Table} {r : ℕ} {y : Res (Got Val)} (c : Cause) (p q : ℕ) (x : Bool) (e : z ≡ elim x as (λ b. Step) [ true ↦ refused_at Unknown p | false ↦ refused_at c q ]) where
  pub unknown-reads : elim x as (λ b. Res (Got Val)) [ true ↦ at Unknown p | false ↦ at c q ] ≡ y → Reads z rows₁ rows₀ pool₁ pool₀ i o b t r y
  unknown-reads h = go x e h
    where
      go : (x : Bool) → z ≡ elim x as (λ b. Step) [ true ↦ refused_at Unknown p | false ↦ refused_at c q ] → elim x as (λ b. Res (Got Val)) [ true ↦ at Unknown p | false ↦ at c q ] ≡ y → Reads z rows₁ rows₀ pool₁ pool₀ i o b t r y
      go true e h = reads-no e h
      go false e h = reads-no e h

  pub unknown-over : elim x as (λ b. Res (Got Val)) [ true ↦ at Unknown p | false ↦ at c q ] ≡ y → Reads z rows₁ rows₀ pool₁ pool₀ i o b t r (bind y (within t r))
  unknown-over h = go x e h
    where
      go : (x : Bool) → z ≡ elim x as (λ b. Step) [ true ↦ refused_at Unknown p | false ↦ refused_at c q ] → elim x as (λ b. Res (Got Val)) [ true ↦ at Unknown p | false ↦ at c q ] ≡ y → Reads z rows₁ rows₀ pool₁ pool₀ i o b t r (bind y (within t r))
      go true e h = reads-no e (over_no t r h)
      go false e h = reads-no e (over_no t r h)

pub at_place : {z : Step} {rows₁ rows₀ pool₁ pool₀ : List ℕ} {i o b : ℕ} {t : Table} {r e p q : ℕ} (value : Reader) → r ≡ e → p ≡ q → Reads z rows₁ rows₀ pool₁ pool₀ i o b t r (value r p) → Reads z rows₁ rows₀ pool₁ pool₀ i o b t e (value e q)
at_place {z} {rows₁} {rows₀} {pool₁} {pool₀} {i} {o} {b} {t} {r} {e} {p} {q} value h k f = subst (λ (u : ℕ). Reads z rows₁ rows₀ pool₁ pool₀ i o b t e (value e u)) k (at_row value p h f)

-- the name of the one member of an object
pub one-near : (d : ℕ) (s : List ℕ) (p : ℕ) {q : ℕ} → length s ≤ 65536 → p < length s → Some q ≡ one_at d s (first_part s 0x7D p) → q ≤ 65536
unfolding one_at
one-near d s p {q} l h e = go (first_part s 0x7D p) refl e
  where
    go : (f : Follows) → first_part s 0x7D p ≡ f → Some q ≡ one_at d s f → q ≤ 65536
    go (Shut y) w e = absurd (let z : ◌≡◌ {A = ℕ} 0 1 = cc in omega arith)
    go (Part y) w e = go₂ (eqb (byte_at s (past_space s (past_value d s (value_place s y)))) 0x2C) e
      where
        go₂ : (b : Bool) → Some q ≡ elim b as (λ x. Option ℕ) [ true ↦ None | false ↦ Some y ] → q ≤ 65536
        go₂ true e = absurd (let z : ◌≡◌ {A = ℕ} 0 1 = cc in omega arith)
        go₂ false e = let z : q ≡ y = cc in omega (arith, first-inside s 0x7D p y h w)
