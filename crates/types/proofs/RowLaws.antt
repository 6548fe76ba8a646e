-- Rows and their fields. Assumes nothing.
use mathlib.Core.Path.{◌≡◌, sym, ap, ◌∙◌}
use mathlib.Core.List.{List}
use mathlib.Core.Bool.{Bool, true, false, ◌&&◌, ◌||◌}
use Rattle.std.specs.Prelude.{None}
use Prim.Native.Nat.{ℕ, ◌+◌, ◌*◌, ◌/◌, ◌%◌, ◌≤◌}
use native.Mathlib.Omega.{arith}
use lib.Dec.{eqb, leb}
use lib.ListN.{length, get_or, take, drop, get_or-eq_default}
use Rattle.json_text.specs.Bytes.{pick}
use Rattle.jer.specs.Table.{Table, field, token_pick, carried, carries, tag_of, kind_of, marks_of, marked, first_of, count_of, root_of, member_row, optional, addition, may_miss, may_be_absent, name_start, name_length, name_in, token_of, table}
use Rattle.jer.specs.Valid.{good_marks}
use Rattle.types.specs.declared.row.Row.{Row}
use Rattle.jer.specs.declared.Layout.TheVariants.{Unknown}
use Rattle.jer.specs.declared.Carried.{Carried}
use Rattle.types.specs.Rows.{row_of}
use Rattle.jer.proofs.Forms.{kind_tag}
use Rattle.types.proofs.ByteLaws.{other}

-- a field past the end
pub field_out : (rows ns : List ℕ) (r i : ℕ) → length rows ≤ r * 8 + i → 0 ≡ field (table rows ns) r i
unfolding field
field_out rows ns r i h = sym (get_or-eq_default rows 0 h)

pub field-zero : (rows ns : List ℕ) (r : ℕ) → get_or rows (r * 8) 0 ≡ field (table rows ns) r 0
unfolding field
field-zero rows ns r = let e : r * 8 + 0 ≡ r * 8 = omega arith in rw e

-- a row by its fields
module _ (rows ns : List ℕ) (r : ℕ) where
  pub row-of : {a b c d e : ℕ} → a ≡ field (table rows ns) r 0 → b ≡ field (table rows ns) r 1 → c ≡ field (table rows ns) r 2
      → d ≡ field (table rows ns) r 3 → e ≡ field (table rows ns) r 4
      → ◌≡◌ {A = Row} (record { kind = a; marks = b; first = c; members = d; root = e }) (row_of (table rows ns) r)
  unfolding tag_of marks_of first_of count_of root_of
  row-of p q u v w = rw (p, q, u, v, w)

  pub member-row : (i : ℕ) {a b : ℕ} → a ≡ first_of (table rows ns) r → b ≡ i → a + b ≡ member_row (table rows ns) r i
  unfolding member_row
  member-row i p q = rw (p, q)

  pub may_miss_lem : (i : ℕ) {o : Bool} {n : ℕ} → o ≡ optional (table rows ns) r i → n ≡ root_of (table rows ns) r
      → (o || leb n i) ≡ may_miss (table rows ns) r i
  unfolding may_miss addition
  may_miss_lem i p q = rw (p, q)

  pub may_be_absent_lem : (i : ℕ) {o : Bool} {n : ℕ} → o ≡ optional (table rows ns) r i → n ≡ root_of (table rows ns) r
      → (o || leb n i) ≡ may_be_absent (table rows ns) r i
  unfolding may_be_absent addition
  may_be_absent_lem i p q = rw (p, q)

pub name_in_lem : (rows names : List ℕ) (m : ℕ) {a b : ℕ} {s : List ℕ} → a ≡ name_start (table rows names) m → b ≡ name_length (table rows names) m
    → s ≡ take b (drop a names) → s ≡ name_in (table rows names) m
unfolding name_in
name_in_lem rows names m p q e = e ∙ rw (p, q)

-- ---- marks

pub kind-marked : (t : Table) (r k mark : ℕ) {w : Row} {b : Bool} → w ≡ row_of t r → b ≡ marked t r mark → (eqb w.kind k && b) ≡ (eqb (kind_of t r) k && marked t r mark)
kind-marked t r k mark e p = rw (e, p, kind_tag t r)

pub marks-among : (t : Table) (r : ℕ) {w : Row} {may : ℕ} → w ≡ row_of t r → may ≡ (carries (tag_of t r)).marks → (leb (w.marks % 2) (may % 2) && leb (w.marks / 2) (may / 2)) ≡ good_marks t r
unfolding good_marks
marks-among t r e p = rw (p, e)

-- ---- kinds

pub tag_of_lem : (t : Table) (r : ℕ) {w : Row} → w ≡ row_of t r → w.kind ≡ tag_of t r
tag_of_lem t r e = ap (λ (w : Row). w.kind) e

pub tag_is : (t : Table) (r : ℕ) {k : ℕ} {w : Row} → w ≡ row_of t r → w.kind ≡ k → tag_of t r ≡ k
tag_is t r e h = sym (tag_of_lem t r e) ∙ h

pub kind-of : (t : Table) (r : ℕ) {w : Row} → w ≡ row_of t r → w.kind ≡ kind_of t r
kind-of t r e = tag_of_lem t r e ∙ sym (kind_tag t r)

pub kind-is : (t : Table) (r : ℕ) {k : ℕ} {w : Row} → w ≡ row_of t r → w.kind ≡ k → kind_of t r ≡ k
kind-is t r e h = sym (kind-of t r e) ∙ h

pub kind-not : (t : Table) (r : ℕ) {w : Row} → w ≡ row_of t r → (k : ℕ) → (w.kind ≡ k → ⊥) → kind_of t r ≡ k → ⊥
kind-not t r e k h q = h (kind-of t r e ∙ q)

-- ---- what a kind carries

pub carries-none : (k : ℕ) → (k ≡ 0 → ⊥) → (k ≡ 1 → ⊥) → (k ≡ 2 → ⊥) → (k ≡ 3 → ⊥) → (k ≡ 4 → ⊥) → (k ≡ 5 → ⊥) → (k ≡ 6 → ⊥) → (k ≡ 7 → ⊥) → (k ≡ 8 → ⊥) → (k ≡ 9 → ⊥)
    → carried 0 Unknown None None ≡ carries k
unfolding carries pick
carries-none k n₀ n₁ n₂ n₃ n₄ n₅ n₆ n₇ n₈ n₉ =
    rw (other k 0 n₀, other k 1 n₁, other k 2 n₂, other k 3 n₃, other k 4 n₄, other k 5 n₅, other k 6 n₆, other k 7 n₇, other k 8 n₈, other k 9 n₉, pick)

module _ (t : Table) (r : ℕ) {w : Row} {c : Carried} (e : w ≡ row_of t r) (p : c ≡ carries w.kind) where
  pub marks-told : c.marks ≡ (carries (tag_of t r)).marks
  marks-told = ap (λ (x : Carried). x.marks) p ∙ rw e

  pub layout-told : c.layout ≡ (carries (tag_of t r)).layout
  layout-told = ap (λ (x : Carried). x.layout) p ∙ rw e

  module _ {b : Bool} (v : b ≡ marked t r 1) where
    pub begins-marked : b ≡ true → c.other ≡ token_of t r
    unfolding token_of token_pick
    begins-marked h = ap (λ (x : Carried). x.other) p ∙ rw (e, kind_tag t r, sym v ∙ h)

    pub begins-plain : b ≡ false → c.token ≡ token_of t r
    unfolding token_of token_pick
    begins-plain h = ap (λ (x : Carried). x.token) p ∙ rw (e, kind_tag t r, sym v ∙ h)
