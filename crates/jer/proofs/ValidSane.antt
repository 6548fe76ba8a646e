-- A good type table is sane.
use Prim.Native.Nat.{ℕ, ◌*◌, ◌≤◌, ◌<◌}
use mathlib.Core.Path.{◌≡◌, refl}
use mathlib.Core.Bool.{Bool, true, false}
use Rattle.std.specs.Prelude.{Option, None, Some}
use mathlib.Core.Logic.{◌↔◌}
use native.Mathlib.Omega.{arith}
use native.Mathlib.Nat.{div-add-mod'}
use lib.Dec.{ltb}
use lib.ListN.{length, get_or-eq_default}
use borrow.Author.Tests.{ltb-true, ltb-false, leb-true, eqb-true, not-true, not-false}
use Rattle.json_text.specs.Utf8.{utf8}
use Rattle.jer.specs.Table.{Table, row_count, field, MEMBER, tag_of, kind_of, is_type, count_of, root_of, member_row, type_at, name_in, name_at}
use Rattle.jer.specs.Valid.{good_alone, good_pointers, good_rules, names_differ, none_optional, good_array, good_unwrapped, good_sizes, or_else, pass, first_bad}
use Rattle.jer.specs.Sane.{Sane}
use Rattle.jer.proofs.ValidLaws.{every-below, differ-at, first-none}
use Rattle.jer.proofs.Forms.{kind-some}
use Rattle.jer.proofs.ValidRows.{both, Holder, Block, Alone, a_type, a_member, block_empty, member-no-type, alone, element-type, member-type, member-kind, names-differ, choice-required, array-good, unwrapped-good}

-- ---- what the passes say of the rows

or_none : (x y : Option ℕ) → (or_else x y ≡ None) ↔ ((x ≡ None) × (y ≡ None))
unfolding or_else
or_none None y = (λ e. (refl, e), λ e. e.1)
or_none (Some a) y = (λ e. absurd (let z : ◌≡◌ {A = ℕ} 0 1 = cc in omega arith), λ e. e.0)

pub pass-at : (t : Table) (good : ℕ → Bool) → pass t good ≡ None → (r : ℕ) → r < row_count t → good r ≡ true
unfolding pass
pass-at t good e r u = not-false _ (first-none _ 0 (row_count t) e r (omega arith) (omega arith))

record Passed (t : Table) : Type 0 where
  sizes : good_sizes t ≡ true
  alones : (r : ℕ) → r < row_count t → good_alone t r ≡ true
  pointers : (r : ℕ) → r < row_count t → good_pointers t r ≡ true
  rules : (r : ℕ) → r < row_count t → good_rules t r ≡ true

passed : (t : Table) → first_bad t ≡ None → Passed t
unfolding first_bad
passed t e = go (good_sizes t) refl e
  where
    go : (c : Bool) → good_sizes t ≡ c → ◌≡◌ {A = Option ℕ} (elim c [ false ↦ Some 0 | true ↦ or_else (pass t (good_alone t)) (or_else (pass t (good_pointers t)) (pass t (good_rules t))) ]) None → Passed t
    go false s w = absurd (let z : ◌≡◌ {A = ℕ} 0 1 = cc in omega arith)
    go true s w = let p = simp or_none at w in record { sizes = s; alones = pass-at t _ p.0; pointers = pass-at t _ p.1.0; rules = pass-at t _ p.1.1 }

-- ---- rows past the end

rows_whole : (t : Table) → good_sizes t ≡ true → (0 < row_count t) × (length t.rows ≡ row_count t * 8)
unfolding good_sizes row_count
rows_whole t e = let p = simp both at e in let d = div-add-mod' (length t.rows) 8 in omega (arith, leb-true, eqb-true)

past_end : (t : Table) → good_sizes t ≡ true → (r i : ℕ) → row_count t ≤ r → field t r i ≡ 0
unfolding field
past_end t e r i l = let w = rows_whole t e in get_or-eq_default t.rows 0 (omega arith)

module _ (t : Table) (g : Passed t) where
  -- a row in which a field is not 0 is in the table
  row_inside : (r i : ℕ) → 0 < field t r i → r < row_count t
  row_inside r i h = go (ltb r (row_count t)) refl
    where
      go : (c : Bool) → ltb r (row_count t) ≡ c → r < row_count t
      go true w = ltb-true r _ w
      go false w = absurd (let z = past_end t g.sizes r i (ltb-false r _ w) in omega arith)

  row-members : (r i : ℕ) → i < count_of t r → r < row_count t
  unfolding count_of
  row-members r i u = row_inside r 3 (omega arith)

  row-kind : (r : ℕ) → 0 < kind_of t r → r < row_count t
  unfolding tag_of
  row-kind r u = row_inside r 0 (kind-some t r u)

  block_at : (r : ℕ) → is_type t r ≡ true → Block t r
  unfolding count_of root_of
  block_at r k = go (ltb r (row_count t)) refl
    where
      of : Alone t r → Block t r
      of (a_type l b) = b
      of (a_member m n u) = member-no-type t r m k

      go : (c : Bool) → ltb r (row_count t) ≡ c → Block t r
      go true w = of (alone t r (g.alones r (ltb-true r _ w)))
      go false w = let e = past_end t g.sizes r in block_empty t r (e 3 (ltb-false r _ w)) (e 4 (ltb-false r _ w))

  whole-type : is_type t 0 ≡ true
  whole-type = go (alone t 0 (g.alones 0 (rows_whole t g.sizes).0))
    where
      go : Alone t 0 → is_type t 0 ≡ true
      go (a_type l b) = l
      go (a_member m n u) = absurd (omega arith)

  holder-at : (r i : ℕ) → is_type t r ≡ true → i < count_of t r → Holder (kind_of t r)
  holder-at r i k u = (block_at r k).holder i u

  kind_at : (r i : ℕ) → is_type t r ≡ true → i < count_of t r → tag_of t (member_row t r i) ≡ MEMBER
  kind_at r i k u = member-kind t r i (holder-at r i k u) (g.pointers r (row-members r i u)) u

  type-at : (r i : ℕ) → is_type t r ≡ true → i < count_of t r → is_type t (type_at t r i) ≡ true
  unfolding type_at
  type-at r i k u = member-type t _ (kind_at r i k u) (g.pointers _ ((block_at r k).inside i u))

  name-at : (r i : ℕ) → is_type t r ≡ true → i < count_of t r → utf8 (name_at t r i) ≡ true
  unfolding name_at
  name-at r i k u = go (alone t _ (g.alones _ ((block_at r k).inside i u)))
    where
      go : Alone t (member_row t r i) → utf8 (name_in t (member_row t r i)) ≡ true
      go (a_type l b) = member-no-type t _ (kind_at r i k u) l
      go (a_member m n e) = e

pub valid_sane : (t : Table) → first_bad t ≡ None → Sane t
unfolding names_differ none_optional good_array good_unwrapped
valid_sane t e =
    let g = passed t e in
    let rules : (r i : ℕ) → i < count_of t r → good_rules t r ≡ true = λ r i u. g.rules r (row-members t g r i u) in
    record {
      whole = whole-type t g;
      few = λ r k. (block_at t g r k).few;
      roots = λ r k. (block_at t g r k).roots;
      closed = λ r k. (block_at t g r k).closed;
      element = λ r k. element-type t r k (g.pointers r (row-kind t g r (omega arith)));
      member = type-at t g;
      named = name-at t g;
      differ = λ r i j k l u. differ-at _ _ (names-differ t r (holder-at t g r j k u) (rules r j u)) i j l u;
      required = λ r i k u. not-true _ (every-below _ _ (choice-required t r k (rules r i u)) i u);
      array = λ r i a u m. not-true _ (rw m at (every-below _ _ (array-good t r a (rules r i u)) i u));
      plain = λ r i w u. not-true _ (every-below _ _ (simp both at (unwrapped-good t r w (rules r i u))).0 i u);
      tokens = λ r i j w l u. differ-at _ _ (simp both at (unwrapped-good t r w (rules r j u))).1 i j l u;
    }
