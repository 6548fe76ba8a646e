-- The programs `jerread` and `jerwrite`: what they print for what stands on standard input.
use Rattle.std.specs.Prelude.{Err, Ok}
use Rattle.jer.specs.Answer.{Reading, Writing}
use Rattle.std.specs.Prelude.{ℕ, ◌+◌, ◌*◌, ◌/◌, ◌%◌, ◌^◌, List, [], ◌∷◌, ◌++◌, true, false, eqb, leb, length}
use Rattle.std.specs.Prelude.{Option, None, Some}
use Rattle.jer.specs.Table.{Table, table}
use Rattle.jer.specs.Value.{Val}
use Rattle.jer.specs.Answer.{Res, ok, no, Values, values, values_of}
use Rattle.jer.specs.Octets.{also, unhex, only_if, hex}
use Rattle.jer.specs.Rows.{ValueRow, rows_of, pool_of}
use Rattle.jer.specs.Calls.{read_text, read_answer, write_text, write_answer}

-- ---- lines

-- a line up to its line feed or the end of the input, and the input after it
pub record Line : Type 0 where
  pub bytes : List ℕ
  pub rest : List ℕ

unfoldable pub line_from : List ℕ → Line
line_from [] = record { bytes = []; rest = [] }
line_from (b ∷ s) =
    elim (eqb b 0x0A) [
      | true ↦ record { bytes = []; rest = s }
      | false ↦ record { bytes = b ∷ (line_from s).bytes; rest = (line_from s).rest }
    ]

-- a line of octets: hexadecimal of at most 16,384 digits, a whole number of units of n octets
-- 01, Sample texts on both sides: "either letter case (..) each line at most 16,384 digits."
unfoldable pub octets_in : ℕ → List ℕ → Option (List ℕ)
octets_in n bs = elim (leb (length bs) 16384) [ true ↦ also (unhex bs) (λ os. only_if (eqb (length os % n) 0) os) | false ↦ None ]

-- the octets of the next line: "The first line that is missing (no byte left), odd, not hexadecimal or, for line one, not whole eights is 15"
unfoldable pub line_at : ℕ → List ℕ → Option (List ℕ)
line_at n [] = None
line_at n (b ∷ s) = octets_in n (line_from (b ∷ s)).bytes

-- octets as numbers: "(eight digits a number)"
unfoldable pub numbers_in : List ℕ → List ℕ
numbers_in [] = []
numbers_in (a ∷ []) = []
numbers_in (a ∷ b ∷ []) = []
numbers_in (a ∷ b ∷ c ∷ []) = []
numbers_in (a ∷ b ∷ c ∷ d ∷ os) = (((a * 256 + b) * 256 + c) * 256 + d) ∷ numbers_in os

-- ---- what is printed

-- "eight upper-case digits each, nothing between"
unfoldable pub digits8 : List ℕ → List ℕ
digits8 [] = []
digits8 (n ∷ ns) = hex (n / 2 ^ 24 % 256 ∷ n / 2 ^ 16 % 256 ∷ n / 2 ^ 8 % 256 ∷ n % 256 ∷ []) ++ digits8 ns

unfoldable pub end_line : List ℕ → List ℕ
end_line s = s ++ (0x0A ∷ [])

-- "or one line FFFFFFFF, refusal, first and second amount (0 if none)"
unfoldable pub refusal_line : Values → List ℕ
refusal_line v = end_line (digits8 (0xFFFFFFFF ∷ v.number ∷ v.first ∷ v.second ∷ []))

-- "It prints one value row a line (kind, a, b, size (..))"
unfoldable pub row_lines : List ValueRow → List ℕ
row_lines [] = []
row_lines (w ∷ ws) = end_line (digits8 (w.kind ∷ w.a ∷ w.b ∷ w.size ∷ [])) ++ row_lines ws

-- 01, Refusal numbers, 15: "program only: bad or over-long input line | line from 1"
-- what is printed for the next line, the i-th, in units of n octets, and for the input after it
unfoldable pub with_line : ℕ → ℕ → List ℕ → (List ℕ → List ℕ → List ℕ) → List ℕ
with_line i n s f = elim (line_at n s) [ None ↦ refusal_line (values 15 i 0) | Some os ↦ f os (line_from s).rest ]

-- ---- jerread

-- after the rows "then the pool as one line"
unfoldable pub print_read : Table → Res Val → Reading → List ℕ
print_read t (no e) x = refusal_line (values_of e)
print_read t (ok v) (Err e) = refusal_line (values_of e)
print_read t (ok v) (Ok c) = row_lines (rows_of v t 0 0) ++ end_line (hex (pool_of v))

-- "It lends 4,096 rows and 16,384 pool bytes.": a row is four numbers
unfoldable pub read_printed : Table → Res Val → List ℕ
read_printed t x = print_read t x (read_answer t 16384 16384 x)

-- a text read by the type table whose rows and names are given
unfoldable pub read_shown : List ℕ → List ℕ → List ℕ → List ℕ
read_shown types names text = read_printed (table types names) (read_text (table types names) text)

-- "input after line three is not read"
unfoldable pub read_third : List ℕ → List ℕ → List ℕ → List ℕ
read_third types names s = with_line 3 1 s (λ text rest. read_shown types names text)

unfoldable pub read_second : List ℕ → List ℕ → List ℕ
read_second types s = with_line 2 1 s (λ names rest. read_third types names rest)

-- "The program `jerread` takes three lines of hexadecimal (..) on standard input: type table (..) names, text"
unfoldable pub jerread : List ℕ → List ℕ
jerread s = with_line 1 4 s (λ types rest. read_second (numbers_in types) rest)

-- ---- jerwrite, the reader's counterpart: type table, names, value rows, pool; 65,536 bytes of text are lent

unfoldable pub print_write : Res (List ℕ) → Writing → List ℕ
print_write (no e) x = refusal_line (values_of e)
print_write (ok s) (Err e) = refusal_line (values_of e)
print_write (ok s) (Ok n) = end_line (hex s)

unfoldable pub write_printed : Res (List ℕ) → List ℕ
write_printed x = print_write x (write_answer 65536 x)

unfoldable pub write_shown : List ℕ → List ℕ → List ℕ → List ℕ → List ℕ
write_shown types names values pool = write_printed (write_text (table types names) values pool)

unfoldable pub write_fourth : List ℕ → List ℕ → List ℕ → List ℕ → List ℕ
write_fourth types names values s = with_line 4 1 s (λ pool rest. write_shown types names values pool)

unfoldable pub write_third : List ℕ → List ℕ → List ℕ → List ℕ
write_third types names s = with_line 3 4 s (λ values rest. write_fourth types names (numbers_in values) rest)

unfoldable pub write_second : List ℕ → List ℕ → List ℕ
write_second types s = with_line 2 1 s (λ names rest. write_third types names rest)

unfoldable pub jerwrite : List ℕ → List ℕ
jerwrite s = with_line 1 4 s (λ types rest. write_second (numbers_in types) rest)
