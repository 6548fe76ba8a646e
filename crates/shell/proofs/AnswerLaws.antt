-- What is printed for an answer is what the definitions say of the value, or of the text.
use Rattle.std.specs.Prelude.{Err, Ok}
use Rattle.jer.specs.Answer.{Reading, Writing, read_as}
use Prim.Native.Nat.{ℕ}
use mathlib.Core.Path.{◌≡◌, refl, ap, ◌∙◌}
use mathlib.Core.List.{List, [], ◌∷◌, ◌++◌}
use mathlib.Core.Bool.{Bool, true, false, ◌&&◌}
use lib.Dec.{leb}
use lib.ListN.{length, drop}
use Rattle.jer.specs.Octets.{hex}
use Rattle.jer.specs.Table.{Table}
use Rattle.jer.specs.Value.{Val}
use Rattle.jer.specs.Answer.{Res, ok, no}
use Rattle.jer.specs.Rows.{ValueRow, numbers, rows_of, pool_of}
use Rattle.jer.specs.Calls.{over, row_numbers, roomy, read_text, read_answer, rows_after, pool_after, write_text, amount, write_answer, text_after}
use Rattle.jer.specs.CallClauses.{ReadCall, WriteCall}
use Rattle.jer.specs.Programs.{row_lines, end_line, print_read, read_printed, print_write, write_printed}
use Rattle.jer.specs.declared.Limit.TheVariants.{HouseSize, LentRoom}
use Rattle.jer.specs.declared.Refusal.TheVariants.{Amounts}
use Rattle.promises.proofs.Buffers.{over-taken}
use Rattle.lines.specs.Shown.{four_line, four_lines, reading_lines, writing_lines}

-- the lines of rows, from the numbers that begin a buffer
row_lines_lem : (ws : List ValueRow) (rest : List ℕ) → four_lines (length ws) (numbers ws ++ rest) ≡ row_lines ws
unfolding four_lines four_line numbers row_lines
row_lines_lem [] rest = refl
row_lines_lem (w ∷ ws) rest = rw (row_lines_lem ws rest)

rows-shown : (t : Table) (v : Val) (rows : List ℕ) → four_lines (length (rows_of v t 0 0)) (over (row_numbers t v) rows) ≡ row_lines (rows_of v t 0 0)
unfolding over row_numbers
rows-shown t v rows = row_lines_lem (rows_of v t 0 0) (drop (length (row_numbers t v)) rows)

module _ (t : Table) (rows pool : List ℕ) where
  read_printed_lem : (x : Res Val)
      → reading_lines (read_answer t (length rows) (length pool) x) (rows_after t rows (length pool) x) (pool_after t (length rows) pool x) ≡ print_read t x (read_answer t (length rows) (length pool) x)
  unfolding print_read read_answer reading_lines rows_after pool_after
  read_printed_lem (no e) = refl
  read_printed_lem (ok v) = go (roomy t v (length rows) (length pool))
    where
      ws : List ValueRow
      ws = rows_of v t 0 0

      answer : Bool → Reading
      answer b = elim b [ true ↦ read_as (length ws) (length (pool_of v)) | false ↦ Err (Amounts LentRoom (length ws) (length (pool_of v))) ]

      go : (b : Bool) → reading_lines (answer b) (elim b [ true ↦ over (row_numbers t v) rows | false ↦ rows ]) (elim b [ true ↦ over (pool_of v) pool | false ↦ pool ]) ≡ print_read t (ok v) (answer b)
      go true = rw (over-taken (pool_of v) pool (length (pool_of v)) refl) (ap (λ (l : List ℕ). l ++ end_line (hex (pool_of v))) (rows-shown t v rows))
      go false = refl

  pub reading_shown : length rows ≡ 16384 → length pool ≡ 16384 → (s : List ℕ) {r : Reading} {rows' pool' : List ℕ} → ReadCall t s rows pool r rows' pool' → reading_lines r rows' pool' ≡ read_printed t (read_text t s)
  unfolding read_printed
  reading_shown h k s c =
      rw (c.answer, c.rows_left, c.pool_left) (read_printed_lem (read_text t s))
      ∙ ap (λ (n : ℕ). print_read t (read_text t s) (read_answer t n (length pool) (read_text t s))) h
      ∙ ap (λ (m : ℕ). print_read t (read_text t s) (read_answer t 16384 m (read_text t s))) k

module _ (text : List ℕ) where
  write_printed_lem : (x : Res (List ℕ)) → writing_lines (write_answer (length text) x) (text_after text x) ≡ print_write x (write_answer (length text) x)
  unfolding print_write write_answer writing_lines text_after
  write_printed_lem (no e) = refl
  write_printed_lem (ok s) = go (leb (length s) 65536) (leb (length s) (length text))
    where
      answer : Bool → Bool → Writing
      answer a b =
          elim a [
            | false ↦ Err (Amounts HouseSize (amount (length s)) 0)
            | true ↦ elim b [ true ↦ Ok (length s) | false ↦ Err (Amounts LentRoom (length s) 0) ]
          ]

      go : (a b : Bool) → writing_lines (answer a b) (elim (a && b) [ true ↦ over s text | false ↦ text ]) ≡ print_write (ok s) (answer a b)
      go true true = ap (λ (l : List ℕ). end_line (hex l)) (over-taken s text (length s) refl)
      go true false = refl
      go false b = refl

  pub writing_shown : (t : Table) → length text ≡ 65536 → (ns pool : List ℕ) {r : Writing} {text' : List ℕ} → WriteCall t ns pool text r text' → writing_lines r text' ≡ write_printed (write_text t ns pool)
  unfolding write_printed
  writing_shown t h ns pool c =
      rw (c.answer, c.text_left) (write_printed_lem (write_text t ns pool)) ∙ ap (λ (n : ℕ). print_write (write_text t ns pool) (write_answer n (write_text t ns pool))) h
