-- The calls from outside: the answer and what each buffer holds afterwards, in document 01's order of refusals.
use Rattle.std.specs.Prelude.{Err, Ok}
use Rattle.jer.specs.Answer.{read_as}
use Rattle.jer.specs.Answer.{Judged, Reading, Writing}
use Rattle.std.specs.Prelude.{ℕ, ◌-◌, ◌^◌, List, ◌++◌, Bool, true, false, ◌&&◌, leb, length, drop}
use Rattle.std.specs.Prelude.{Option, None, Some}
use Rattle.json_text.specs.Tree.{Json}
use Rattle.json_text.specs.Machine.{Parsed, tree, refused, not_json, too_deep, parse}
use Rattle.jer.specs.declared.Cause.TheVariants.{TooLong, NotJson, TooDeep}
use Rattle.jer.specs.declared.Which.TheVariants.{TypeTable}
use Rattle.jer.specs.declared.Limit.TheVariants.{HouseSize, LentRoom}
use Rattle.jer.specs.declared.Refusal.TheVariants.{AtRow, Amounts}
use Rattle.jer.specs.Table.{Table}
use Rattle.jer.specs.Valid.{first_bad}
use Rattle.jer.specs.Value.{Val}
use Rattle.jer.specs.Answer.{Res, ok, no, bind, at}
use Rattle.jer.specs.Read.{read_whole}
use Rattle.jer.specs.Rows.{numbers, rows_of, pool_of}
use Rattle.jer.specs.Judge.{judge}
use Rattle.jer.specs.Write.{write}

-- ---- 1 to 4

unfoldable pub table_of : Table → Option ℕ → Res Table
table_of t None = ok t
table_of t (Some r) = no (AtRow TypeTable r)

-- 01, Refusal numbers, 1: "type table or names break a rule above"
unfoldable pub good_table : Table → Res Table
good_table t = table_of t (first_bad t)

unfoldable pub tree_of : Parsed → Res Json
tree_of (tree j) = ok j
tree_of (refused not_json p) = at NotJson p
tree_of (refused too_deep p) = at TooDeep p

-- 2: "text over 65,536 bytes | 65,536"; 01, What the library handles: "and of text"
unfoldable pub good_text : List ℕ → Res Json
good_text s = elim (leb (length s) 65536) [ true ↦ tree_of (parse s) | false ↦ at TooLong 65536 ]

unfoldable pub judged_by : {A : Type 0} → Res A → Judged
judged_by (ok a) = Ok tt
judged_by (no e) = Err e

-- what judging a type table answers, and what judging a text answers
unfoldable pub table_judged : Table → Judged
table_judged t = judged_by (good_table t)

unfoldable pub text_judged : List ℕ → Judged
text_judged s = judged_by (good_text s)

-- ---- reading

-- 01, Refusal numbers: "Order when reading: 1, 2, then 3 or 4 by first byte (3 where both fall on one byte), then the typed reading, then 14."
unfoldable pub read_text : Table → List ℕ → Res Val
read_text t s = bind (good_table t) (λ u. bind (good_text s) (λ j. read_whole t j))

-- a buffer of which the first numbers are written over
-- 01, Refusal numbers: "Success changes only the rows, pool bytes or text bytes used."
unfoldable pub over : List ℕ → List ℕ → List ℕ
over xs buffer = xs ++ drop (length xs) buffer

-- the numbers of the rows of a whole value
unfoldable pub row_numbers : Table → Val → List ℕ
row_numbers t v = numbers (rows_of v t 0 0)

unfoldable pub roomy : Table → Val → ℕ → ℕ → Bool
roomy t v n m = leb (length (row_numbers t v)) n && leb (length (pool_of v)) m

-- 14: "lent room too small | rows and pool bytes (..) needed": room for n numbers of rows and m bytes of pool
unfoldable pub read_answer : Table → ℕ → ℕ → Res Val → Reading
read_answer t n m (no e) = Err e
read_answer t n m (ok v) =
    elim (roomy t v n m) [
      | true ↦ read_as (length (rows_of v t 0 0)) (length (pool_of v))
      | false ↦ Err (Amounts LentRoom (length (rows_of v t 0 0)) (length (pool_of v)))
    ]

-- the buffers afterwards; refusals: "All leave every buffer untouched."
unfoldable pub rows_after : Table → List ℕ → ℕ → Res Val → List ℕ
rows_after t rows m (no e) = rows
rows_after t rows m (ok v) = elim (roomy t v (length rows) m) [ true ↦ over (row_numbers t v) rows | false ↦ rows ]

unfoldable pub pool_after : Table → ℕ → List ℕ → Res Val → List ℕ
pool_after t n pool (no e) = pool
pool_after t n pool (ok v) = elim (roomy t v n (length pool)) [ true ↦ over (pool_of v) pool | false ↦ pool ]

-- ---- writing

-- 01, Refusal numbers: "Writing: 1, 12, 13, 14."
unfoldable pub write_text : Table → List ℕ → List ℕ → Res (List ℕ)
write_text t ns pool = bind (good_table t) (λ u. bind (judge t ns pool) (λ v. ok (write v t 0)))

-- an amount is a 64-bit number; one that would pass 2^64-1 is given as 2^64-1
unfoldable pub amount : ℕ → ℕ
amount n = elim (leb n (2 ^ 64 - 1)) [ true ↦ n | false ↦ 2 ^ 64 - 1 ]

-- 13: "written text over 65,536 bytes | bytes needed"; 14: "or text bytes"
unfoldable pub write_answer : ℕ → Res (List ℕ) → Writing
write_answer n (no e) = Err e
write_answer n (ok s) =
    elim (leb (length s) 65536) [
      | false ↦ Err (Amounts HouseSize (amount (length s)) 0)
      | true ↦ elim (leb (length s) n) [ true ↦ Ok (length s) | false ↦ Err (Amounts LentRoom (length s) 0) ]
    ]

unfoldable pub text_after : List ℕ → Res (List ℕ) → List ℕ
text_after text (no e) = text
text_after text (ok s) = elim (leb (length s) 65536 && leb (length s) (length text)) [ true ↦ over s text | false ↦ text ]
