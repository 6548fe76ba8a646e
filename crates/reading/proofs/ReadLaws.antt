-- The whole call, by what its parts answer. Assumes nothing.
use Rattle.std.specs.Prelude.{Err, Ok}
use Rattle.jer.specs.Answer.{read_as, Reading}
use mathlib.Core.Path.{◌≡◌, refl, subst, ◌∙◌}
use mathlib.Core.List.{List}
use mathlib.Core.Bool.{Bool, true, false}
use Rattle.std.specs.Prelude.{Option, None, Some}
use Prim.Native.Nat.{ℕ, ◌+◌, ◌*◌, ◌^◌, ◌<◌, ◌≤◌}
use native.Mathlib.Omega.{arith}
use borrow.Author.Tests.{leb-true, le-leb, lt-leb}
use lib.Dec.{leb}
use lib.ListN.{length}
use lib.Seq.{sets, sets-eq}
use Rattle.json_text.specs.Tree.{Json}
use Rattle.json_text.specs.Machine.{Parsed, tree, refused, not_json, too_deep, parse}
use Rattle.json_text.proofs.Sound.{text-taken}
use Rattle.jer.specs.declared.Cause.TheVariants.{TooLong}
use Rattle.jer.specs.declared.Limit.TheVariants.{LentRoom}
use Rattle.jer.specs.declared.Refusal.{Refusal}
use Rattle.jer.specs.declared.Refusal.TheVariants.{Amounts}
use Rattle.jer.specs.Table.{Table}
use Rattle.jer.specs.Valid.{first_bad}
use Rattle.jer.specs.Value.{Val}
use Rattle.jer.specs.Answer.{Res, ok, no, bind, at}
use Rattle.jer.specs.Rows.{numbers, rows_of, pool_of}
use Rattle.jer.specs.Read.{read_whole}
use Rattle.jer.specs.Calls.{table_of, good_table, tree_of, good_text, judged_by, table_judged, text_judged, read_text, over, row_numbers, roomy, read_answer, rows_after, pool_after}
use Rattle.jer.specs.CallClauses.{ReadCall}
use Rattle.jer.specs.Sane.{Sane}
use Rattle.jer.proofs.ValidSane.{valid_sane}
use Rattle.tokens.specs.Places.{past_space}
use Rattle.places.specs.ByPlaces.{Got, read_at}
use Rattle.places.proofs.MeaningAt.{reads-text}
use Rattle.scan.proofs.WithinLaws.{space-within}
use Rattle.leaf.specs.Step.{Step, RowsStored, PoolStored, Stepped}
use Rattle.leaf.proofs.StoreLaws.{numbers-length}
use Rattle.typed.specs.Cycle.{Given}
use Rattle.typed.proofs.StoredLaws.{Took}

-- what the call does: its answer, and both buffers after it
pub record Outcome (t : Table) (x : Res Val) (r : Reading) (rows₁ rows₀ pool₁ pool₀ : List ℕ) : Type 0 where
  pub answer : r ≡ read_answer t (length rows₀) (length pool₀) x
  pub rows : rows₁ ≡ rows_after t rows₀ (length pool₀) x
  pub pool : pool₁ ≡ pool_after t (length rows₀) pool₀ x

-- ---- tables and texts that are judged

pub table-refused : (t : Table) {e : Refusal} (x : Res Table) → Err e ≡ judged_by x → x ≡ no e
unfolding judged_by
table-refused t (ok u) h = absurd (let z : ◌≡◌ {A = ℕ} 0 1 = cc in omega arith)
table-refused t (no y) h = cc

text-refused : {e : Refusal} (x : Res Json) → Err e ≡ judged_by x → x ≡ no e
unfolding judged_by
text-refused (ok u) h = absurd (let z : ◌≡◌ {A = ℕ} 0 1 = cc in omega arith)
text-refused (no y) h = cc

pub bad-table : (t : Table) (s : List ℕ) {e : Refusal} → Err e ≡ table_judged t → no e ≡ read_text t s
unfolding table_judged read_text bind
bad-table t s h = rw (table-refused t (good_table t) h)

good-table : (t : Table) → Ok tt ≡ table_judged t → first_bad t ≡ None
unfolding table_judged good_table table_of judged_by
good-table t h = go (first_bad t) h
  where
    go : (x : Option ℕ) → Ok tt ≡ judged_by (table_of t x) → x ≡ None
    go None h = refl
    go (Some r) h = absurd (let z : ◌≡◌ {A = ℕ} 0 1 = cc in omega arith)

pub table-ok : (t : Table) → Ok tt ≡ table_judged t → good_table t ≡ ok t
unfolding good_table table_of
table-ok t h = rw (good-table t h)

pub bad-text : (t : Table) (s : List ℕ) {e : Refusal} → Ok tt ≡ table_judged t → Err e ≡ text_judged s → no e ≡ read_text t s
unfolding text_judged read_text bind
bad-text t s g h = rw (table-ok t g, text-refused (good_text s) h)

-- a text that is good, with its tree
record Good (s : List ℕ) : Type 0 where
  j : Json
  short : length s ≤ 65536
  text : good_text s ≡ ok j
  parsed : parse s ≡ tree j

good-text : (s : List ℕ) → Ok tt ≡ text_judged s → Good s
unfolding text_judged good_text judged_by tree_of
good-text s h = go (leb (length s) 65536) (parse s) refl refl h
  where
    go : (b : Bool) (x : Parsed) → leb (length s) 65536 ≡ b → parse s ≡ x → Ok tt ≡ judged_by {A = Json} (elim b as (λ c. Res Json) [ true ↦ tree_of x | false ↦ at TooLong 65536 ]) → Good s
    go true (tree j) e f h = record { j = j; short = leb-true (length s) 65536 e; text = rw (e, f, good_text); parsed = f }
    go true (refused not_json p) e f h = absurd (let z : ◌≡◌ {A = ℕ} 0 1 = cc in omega arith)
    go true (refused too_deep p) e f h = absurd (let z : ◌≡◌ {A = ℕ} 0 1 = cc in omega arith)
    go false x e f h = absurd (let z : ◌≡◌ {A = ℕ} 0 1 = cc in omega arith)

module _ (t : Table) (s : List ℕ) (g : Ok tt ≡ table_judged t) (h : Ok tt ≡ text_judged s) where
  sane : Sane t
  sane = valid_sane t (good-table t g)

  pub given : {p : ℕ} → p ≡ past_space s 0 → Given t s 0 p (0 + 1) 0 32
  given e =
      let f = good-text s h in
      record { sane = sane; typed = sane.whole; short = f.short; near = omega (arith, f.short, space-within s 65536 0 f.short (omega arith)); row_room = omega arith; byte_room = omega arith }

  -- the meaning of the text
  pub meaning : bind (read_at 32 t s 0 (past_space s 0)) (λ g. ok g.value) ≡ read_text t s
  unfolding read_text read_whole bind parse
  meaning =
      let f = good-text s h in
      reads-text t sane s f.short (text-taken 32 f.j s f.parsed) ∙ rw (table-ok t g, f.text)

  pub means-no : {e : Refusal} → read_at 32 t s 0 (past_space s 0) ≡ no e → no e ≡ read_text t s
  unfolding bind
  means-no w = rw w at meaning

  pub means-ok : {v : Got Val} → read_at 32 t s 0 (past_space s 0) ≡ ok v → ok v.value ≡ read_text t s
  unfolding bind
  means-ok w = rw w at meaning

-- ---- answers and buffers

pub refuses : (t : Table) {e : Refusal} {x : Res Val} (rows pool : List ℕ) → no e ≡ x → Outcome t x (Err e) rows rows pool pool
unfolding read_answer rows_after pool_after
refuses t rows pool h = record { answer = rw (← h); rows = rw (← h); pool = rw (← h) }

pub over-sets : (xs l : List ℕ) → length xs ≤ length l → sets l 0 xs ≡ over xs l
unfolding over
over-sets xs l h = sets-eq xs l 0 (omega arith) ∙ (let z : 0 + length xs ≡ length xs = omega arith in rw z)

module _ (t : Table) {v : Val} {n m : ℕ} {x : Res Val} (e : ok v ≡ x) (f : length (rows_of v t 0 0) ≡ n) (k : length (pool_of v) ≡ m) (rows₀ pool₀ : List ℕ) where
  numbers_are : length (row_numbers t v) ≡ n * 4
  unfolding row_numbers
  numbers_are = numbers-length (rows_of v t 0 0) ∙ omega arith

  short-of : roomy t v (length rows₀) (length pool₀) ≡ false → Outcome t x (Err (Amounts LentRoom n m)) rows₀ rows₀ pool₀ pool₀
  unfolding read_answer rows_after pool_after
  short-of h = record { answer = rw (← e, h, read_answer) (rw (f, k)); rows = rw (← e, h, rows_after); pool = rw (← e, h, pool_after) }

  pub few-rows : {r : Reading} → r ≡ Err (Amounts LentRoom n m) → length rows₀ < n * 4 → Outcome t x r rows₀ rows₀ pool₀ pool₀
  unfolding roomy
  few-rows w l = rw w (short-of (rw (lt-leb (length (row_numbers t v)) (length rows₀) (omega (arith, numbers_are)), roomy)))

  pub few_bytes_lem : {r : Reading} → r ≡ Err (Amounts LentRoom n m) → n * 4 ≤ length rows₀ → length pool₀ < m → Outcome t x r rows₀ rows₀ pool₀ pool₀
  unfolding roomy
  few_bytes_lem w a l = rw w (short-of (rw (le-leb (length (row_numbers t v)) (length rows₀) (omega (arith, numbers_are)), lt-leb (length (pool_of v)) (length pool₀) (omega arith), roomy)))

  pub stored : {rows₁ pool₁ : List ℕ} → n * 4 ≤ length rows₀ → m ≤ length pool₀ → rows₁ ≡ sets rows₀ 0 (numbers (rows_of v t 0 0)) → pool₁ ≡ sets pool₀ 0 (pool_of v) → Outcome t x (read_as n m) rows₁ rows₀ pool₁ pool₀
  unfolding read_answer rows_after pool_after roomy row_numbers
  stored a b c d =
      let h : roomy t v (length rows₀) (length pool₀) ≡ true = rw (le-leb (length (row_numbers t v)) (length rows₀) (omega (arith, numbers_are)), le-leb (length (pool_of v)) (length pool₀) (omega arith), roomy) in
      record {
        answer = rw (← e, h, read_answer) (rw (f, k));
        rows = rw (← e, h, rows_after) (c ∙ over-sets (numbers (rows_of v t 0 0)) rows₀ (omega (arith, numbers_are)));
        pool = rw (← e, h, pool_after) (d ∙ over-sets (pool_of v) pool₀ (omega arith));
      }

pub tell : {t : Table} {s : List ℕ} {r : Reading} {rows₁ rows₀ pool₁ pool₀ : List ℕ} → Outcome t (read_text t s) r rows₁ rows₀ pool₁ pool₀
    → ReadCall t s rows₀ pool₀ r rows₁ pool₁
tell f = record { answer = f.answer; rows_left = f.rows; pool_left = f.pool }

-- what stands once a whole value was stored
module _ {z : Step} {rows₁ rows₀ pool₁ pool₀ : List ℕ} {t : Table} {r : ℕ} {x : Res (Got Val)} {y a b : ℕ} (w : Took t r x y a b) (l : b < 2 ^ 32) (f : Stepped z rows₁ rows₀ pool₁ pool₀ 0 0 t r x) where
  pub whole-rows : rows₁ ≡ sets rows₀ 0 (numbers (rows_of w.g.value t r 0))
  whole-rows = subst (λ (y : Res (Got Val)). RowsStored rows₁ rows₀ 0 0 t r y) w.is f.rows (omega (arith, w.long))

  pub whole-pool : pool₁ ≡ sets pool₀ 0 (pool_of w.g.value)
  whole-pool = subst (λ (y : Res (Got Val)). PoolStored pool₁ pool₀ 0 y) w.is f.pool (omega (arith, w.long))

-- a call over buffers that are as they were
pub kept_on : {t : Table} {s rows₀ pool₀ rows pool rows' pool' : List ℕ} {r : Reading} → (rows ≡ rows₀) × (pool ≡ pool₀) → ReadCall t s rows pool r rows' pool' → ReadCall t s rows₀ pool₀ r rows' pool'
kept_on h c = rw (← h.0, ← h.1) c
