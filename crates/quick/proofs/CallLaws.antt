-- The call: its answer and its buffers, once the whole text was taken.
use Rattle.std.specs.Prelude.{Err, Ok}
use Rattle.jer.specs.Answer.{read_as, Reading}
use Prim.Native.Nat.{ℕ, ◌+◌, ◌*◌, ◌<◌, ◌≤◌}
use mathlib.Core.Path.{◌≡◌, refl, ◌∙◌}
use mathlib.Core.List.{List}
use mathlib.Core.Bool.{true, false}
use Rattle.std.specs.Prelude.{Option, None, Some}
use native.Mathlib.Omega.{arith}
use borrow.Author.Tests.{le-leb, lt-leb}
use lib.ListN.{length}
use lib.Seq.{sets, sets-eq}
use Rattle.jer.specs.declared.Limit.TheVariants.{LentRoom}
use Rattle.jer.specs.declared.Refusal.TheVariants.{Amounts}
use Rattle.jer.specs.Table.{Table, table}
use Rattle.jer.specs.Valid.{first_bad}
use Rattle.jer.specs.Answer.{read_as, ok, bind}
use Rattle.jer.specs.Calls.{table_of, good_table, judged_by, table_judged, read_text, over, row_numbers, roomy, read_answer, rows_after, pool_after}
use Rattle.jer.specs.CallClauses.{ReadCall}
use Rattle.jer.specs.Rows.{numbers, rows_of, pool_of}
use Rattle.jer.specs.Sane.{Sane}
use Rattle.jer.proofs.ValidSane.{valid_sane}
use Rattle.leaf.proofs.StoreLaws.{numbers-length}
use Rattle.quick.specs.declared.Got.{Got}
use Rattle.quick.specs.Taken.{Whole}
use Rattle.quick.specs.Emit.{Noted, Emits}

-- ---- the table

good-table : (t : Table) → (Ok tt) ≡ table_judged t → first_bad t ≡ None
unfolding table_judged good_table table_of judged_by
good-table t h = go (first_bad t) h
  where
    go : (x : Option ℕ) → (Ok tt) ≡ judged_by (table_of t x) → x ≡ None
    go None h = refl
    go (Some r) h = absurd (let z : ◌≡◌ {A = ℕ} 0 1 = cc in omega arith)

pub sane-table : (t : Table) → (Ok tt) ≡ table_judged t → Sane t
sane-table t h = valid_sane t (good-table t h)

table-ok : (t : Table) → (Ok tt) ≡ table_judged t → good_table t ≡ ok t
unfolding good_table table_of
table-ok t h = rw (good-table t h)

-- ---- answers and buffers

over-sets : (xs l : List ℕ) → length xs ≤ length l → sets l 0 xs ≡ over xs l
unfolding over
over-sets xs l h = sets-eq xs l 0 (omega arith) ∙ (let z : 0 + length xs ≡ length xs = omega arith in rw z)

module _ {t : Table} {s z : List ℕ} {g : Got} (table-good : (Ok tt) ≡ table_judged t) (w : Whole t s z g) (rows₀ pool₀ : List ℕ) where
  text-means : read_text t s ≡ ok w.value
  unfolding read_text bind
  text-means = rw (table-ok t table-good) w.reads

  numbers_are : length (row_numbers t w.value) ≡ g.rows * 4
  unfolding row_numbers
  numbers_are = numbers-length (rows_of w.value t 0 0) ∙ omega (arith, w.rows)

  short-of : roomy t w.value (length rows₀) (length pool₀) ≡ false → ReadCall t s rows₀ pool₀ (Err (Amounts LentRoom g.rows g.pool)) rows₀ pool₀
  unfolding read_answer rows_after pool_after
  short-of h = record { answer = rw (text-means, h, read_answer) (rw (w.rows, w.pool)); rows_left = rw (text-means, h, rows_after); pool_left = rw (text-means, h, pool_after) }

  pub few-rows : {r : Reading} → r ≡ Err (Amounts LentRoom g.rows g.pool) → length rows₀ < g.rows * 4 → ReadCall t s rows₀ pool₀ r rows₀ pool₀
  unfolding roomy
  few-rows e l = rw e (short-of (rw (lt-leb (length (row_numbers t w.value)) (length rows₀) (omega (arith, numbers_are)), roomy)))

  pub few_bytes_lem : {r : Reading} → r ≡ Err (Amounts LentRoom g.rows g.pool) → g.rows * 4 ≤ length rows₀ → length pool₀ < g.pool → ReadCall t s rows₀ pool₀ r rows₀ pool₀
  unfolding roomy
  few_bytes_lem e a l =
      rw e (short-of (rw (le-leb (length (row_numbers t w.value)) (length rows₀) (omega (arith, numbers_are)), lt-leb (length (pool_of w.value)) (length pool₀) (omega (arith, w.pool)), roomy)))

  stored : {rows₁ pool₁ : List ℕ} → g.rows * 4 ≤ length rows₀ → g.pool ≤ length pool₀ → rows₁ ≡ sets rows₀ 0 (numbers (rows_of w.value t 0 0)) → pool₁ ≡ sets pool₀ 0 (pool_of w.value)
      → ReadCall t s rows₀ pool₀ (read_as g.rows g.pool) rows₁ pool₁
  unfolding read_answer rows_after pool_after roomy row_numbers
  stored a b c d =
      let h : roomy t w.value (length rows₀) (length pool₀) ≡ true = rw (le-leb (length (row_numbers t w.value)) (length rows₀) (omega (arith, numbers_are)), le-leb (length (pool_of w.value)) (length pool₀) (omega (arith, w.pool)), roomy) in
      record {
        answer = rw (text-means, h, read_answer) (rw (w.rows, w.pool));
        rows_left = rw (text-means, h, rows_after) (c ∙ over-sets (numbers (rows_of w.value t 0 0)) rows₀ (omega (arith, numbers_are)));
        pool_left = rw (text-means, h, pool_after) (d ∙ over-sets (pool_of w.value) pool₀ (omega (arith, w.pool)));
      }

module _ {types names s z : List ℕ} {g : Got} (table-good : (Ok tt) ≡ table_judged (table types names)) (w : Whole (table types names) s z g) (rows₀ pool₀ : List ℕ) where
  pub whole_noted : length s ≤ 65536 → g.rows * 4 ≤ length rows₀ → g.pool ≤ length pool₀ → Noted types s z rows₀ pool₀ 0 0 0 0
  whole_noted l a b =
      record { names = names; value = w.value; end = g.tape; stands = w.stands; inside = w.inside; room = record { slots = omega (arith, w.rows); bytes = omega (arith, w.pool); small = omega (arith, w.pool, w.few) } }

  pub whole-stored : {rows₁ pool₁ : List ℕ} {next : ℕ} → g.rows * 4 ≤ length rows₀ → g.pool ≤ length pool₀ → Emits types s z 0 0 0 0 rows₀ rows₁ pool₀ pool₁ next → ReadCall (table types names) s rows₀ pool₀ (read_as g.rows g.pool) rows₁ pool₁
  whole-stored a b f = let e = f names w.value g.tape w.stands in stored table-good w rows₀ pool₀ a b e.0 e.1
