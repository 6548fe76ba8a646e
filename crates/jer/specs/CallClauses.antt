-- What the calls from outside promise: their `ensures` cite these, and the theorems of `promises` follow from them alone. t is the type table
-- lent as two slices.
use Rattle.jer.specs.Answer.{Judged, Reading, Writing}
use Rattle.std.specs.Prelude.{ℕ, ◌≡◌, List, length}
use Rattle.jer.specs.Table.{Table}
use Rattle.jer.specs.Calls.{table_judged, text_judged, read_text, read_answer, rows_after, pool_after, write_text, write_answer, text_after}

-- `types::check` answers r
abbrev pub TableCall : Table → Judged → Type 0
TableCall t r = r ≡ table_judged t

-- `text::check` of the text s answers r
abbrev pub TextCall : List ℕ → Judged → Type 0
TextCall s r = r ≡ text_judged s

-- `reading::read` of the text s, with these buffers lent, answers r and leaves the buffers rows' and pool'
-- 01, What the library handles: "A type table, a text and room for a value table: reading."
pub record ReadCall (t : Table) (s rows pool : List ℕ) (r : Reading) (rows' pool' : List ℕ) : Type 0 where
  pub answer : r ≡ read_answer t (length rows) (length pool) (read_text t s)
  pub rows_left : rows' ≡ rows_after t rows (length pool) (read_text t s)
  pub pool_left : pool' ≡ pool_after t (length rows) pool (read_text t s)

-- `writing::write` of the value table ns with its pool, with this room for text lent, answers r and leaves text'
-- 01, What the library handles: "A type table and a value table: writing."
pub record WriteCall (t : Table) (ns pool text : List ℕ) (r : Writing) (text' : List ℕ) : Type 0 where
  pub answer : r ≡ write_answer (length text) (write_text t ns pool)
  pub text_left : text' ≡ text_after text (write_text t ns pool)
