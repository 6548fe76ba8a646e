-- The rows of a value table, by their numbers.
use mathlib.Core.Path.{◌≡◌, refl, sym, ap, ◌∙◌}
use mathlib.Core.List.{List, [], ◌∷◌}
use mathlib.Core.Bool.{Bool, true, false, ◌&&◌, ◌||◌}
use Prim.Native.Nat.{ℕ, zero, suc, ◌+◌, ◌*◌, ◌/◌, ◌%◌, ◌<◌, ◌≤◌}
use native.Mathlib.Omega.{arith}
use lib.Dec.{eqb}
use borrow.Author.Tests.{ne_eqb}
use lib.ListN.{length, get_or, take, drop, get_or-eq_default}
use lib.Seq.{drop-nil}
use Rattle.jer.specs.Table.{Table, table, field, tag_of, marks_of, kind_of, is_unwrapped, first_of, count_of, root_of, member_row, type_at, name_in, may_be_absent}
use Rattle.types.specs.Rows.{row_of}
use Rattle.types.specs.declared.row.Row.{Row}
use Rattle.jer.specs.Rows.{ValueRow, row}
use Rattle.jer.specs.Judge.{is_absent, rows_in}
use Rattle.written.specs.Rows.{rows_from, absent_next, null_next}

pub rows_past : (ns : List ℕ) (q : ℕ) → length ns / 4 ≤ q → rows_from ns q ≡ []
unfolding rows_in
rows_past [] q h = drop-nil q
rows_past (k ∷ []) q h = drop-nil q
rows_past (k ∷ a ∷ []) q h = drop-nil q
rows_past (k ∷ a ∷ b ∷ []) q h = drop-nil q
rows_past (k ∷ a ∷ b ∷ n ∷ ns) zero h = absurd (omega arith)
rows_past (k ∷ a ∷ b ∷ n ∷ ns) (suc q) h = rows_past ns q (omega arith)

pub rows_at : (ns : List ℕ) (q : ℕ) → q < length ns / 4 → rows_from ns q ≡ row (get_or ns (q * 4) 0) (get_or ns (q * 4 + 1) 0) (get_or ns (q * 4 + 2) 0) (get_or ns (q * 4 + 3) 0) ∷ rows_from ns (suc q)
unfolding rows_in
rows_at [] q h = absurd (omega arith)
rows_at (k ∷ []) q h = absurd (omega arith)
rows_at (k ∷ a ∷ []) q h = absurd (omega arith)
rows_at (k ∷ a ∷ b ∷ []) q h = absurd (omega arith)
rows_at (k ∷ a ∷ b ∷ n ∷ ns) zero h = refl
rows_at (k ∷ a ∷ b ∷ n ∷ ns) (suc q) h =
    let e : suc q * 4 ≡ suc (suc (suc (suc (q * 4)))) = omega arith in
    let f : (i : ℕ) → suc (suc (suc (suc (q * 4)))) + i ≡ suc (suc (suc (suc (q * 4 + i)))) = λ i. omega arith in
    rw (e, f 1, f 2, f 3) (rows_at ns q (omega arith))

-- ---- what the next row says

pub never : {A : Type 0} → ◌≡◌ {A = Bool} false true → A
never e = absurd (let z : ◌≡◌ {A = ℕ} 0 1 = cc in omega arith)

and-false : (b : Bool) → (b && false) ≡ false
and-false true = refl
and-false false = refl

module _ (t : Table) (r i : ℕ) {ws : List ValueRow} where
  pub absent-row : {w : ValueRow} {us : List ValueRow} {m a : Bool} → ws ≡ w ∷ us → m ≡ may_be_absent t r i → a ≡ is_absent w → (m && a) ≡ absent_next t r i ws
  unfolding absent_next
  absent-row e f g = rw (e, f, g)

  pub absent_none : ws ≡ [] → false ≡ absent_next t r i ws
  unfolding absent_next
  absent_none e = rw e

  pub absent-other : {w : ValueRow} {us : List ValueRow} → ws ≡ w ∷ us → (w.kind ≡ 15 → ⊥) → false ≡ absent_next t r i ws
  unfolding absent_next is_absent
  absent-other {w} e h = rw e (sym (ap (λ (b : Bool). may_be_absent t r i && b) (rw (ne_eqb w.kind 15 h)) ∙ and-false (may_be_absent t r i)))

module _ (t : Table) (r : ℕ) {ws : List ValueRow} where
  pub null-row : {w : ValueRow} {us : List ValueRow} {k c m : ℕ} {u : Bool} → ws ≡ w ∷ us → k ≡ kind_of t r → u ≡ is_unwrapped t r → c ≡ kind_of t m → m ≡ type_at t r w.a → (eqb k 3 || (u && eqb c 3)) ≡ null_next t r ws
  unfolding null_next
  null-row e f g h k = rw (e, f, g, h, k)

  pub null-none : ws ≡ [] → false ≡ null_next t r ws
  unfolding null_next
  null-none e = rw e

-- ---- the row of a member

module _ (t : Table) (r i : ℕ) {w : Row} where
  pub member_is : {x y : ℕ} → w ≡ row_of t (x + y) → x ≡ first_of t r → y ≡ i → w ≡ row_of t (member_row t r i)
  unfolding member_row
  member_is e f g = rw (← f, ← g) e

  module _ (e : w ≡ row_of t (member_row t r i)) where
    pub member-type : {x : ℕ} → x ≡ w.first → x ≡ type_at t r i
    unfolding type_at first_of
    member-type f = f ∙ ap (λ (v : Row). v.first) e

    pub member-name : {x y : ℕ} {s : List ℕ} → x ≡ w.members → y ≡ w.root → s ≡ take y (drop x t.names) → s ≡ name_in t (member_row t r i)
    unfolding name_in count_of root_of
    member-name f g h = h ∙ rw (f ∙ ap (λ (v : Row). v.members) e, g ∙ ap (λ (v : Row). v.root) e)

-- past the rows of a table all is 0
pub row_past : (ts ns : List ℕ) (r : ℕ) → length ts % 8 ≡ 0 → length ts / 8 ≤ r → ◌≡◌ {A = Row} (record { kind = 0; marks = 0; first = 0; members = 0; root = 0 }) (row_of (table ts ns) r)
unfolding tag_of marks_of first_of count_of root_of field
row_past ts ns r w h = sym (rw (nought 0, nought 1, nought 2, nought 3, nought 4))
  where
    nought : (i : ℕ) → get_or ts (r * 8 + i) 0 ≡ 0
    nought i = get_or-eq_default ts 0 {n = r * 8 + i} (omega arith)
