-- Many texts under one type table: what is told of each, and what the buffers hold afterwards.
-- The texts stand one after another, with the places where they end; so do, in the room that is lent, their rows and their pool bytes.
-- Each text is read as a call reads it that is lent the room which those before it leave. One that finds no room is the last.
use Rattle.std.specs.Prelude.{Err, Ok}
use Rattle.jer.specs.Answer.{Reading, Readings}
use Rattle.std.specs.Prelude.{ℕ, suc, ◌+◌, ◌-◌, ◌*◌, ◌≡◌, List, [], ◌∷◌, ◌++◌, true, false, eqb, leb, length, take, drop}
use Rattle.jer.specs.Table.{Table}
use Rattle.jer.specs.Value.{Val}
use Rattle.jer.specs.Answer.{Res, ok, no, bind, Values, values, values_of}
use Rattle.jer.specs.Calls.{good_table, read_text, read_answer, rows_after, pool_after}

-- the text from a place up to its end; an end before the place gives an empty text
unfoldable pub text_from : List ℕ → ℕ → ℕ → List ℕ
text_from texts from end = take (end - from) (drop from texts)

-- 0 with the rows and pool bytes, or a refusal's number and values
unfoldable pub values_in : Reading → Values
values_in (Ok c) = values 0 c.rows c.pool
values_in (Err e) = values_of e

-- rows and pool bytes that an answer takes up
unfoldable pub rows_used : Reading → ℕ
rows_used (Ok c) = c.rows
rows_used (Err e) = 0

unfoldable pub pool_used : Reading → ℕ
pool_used (Ok c) = c.pool
pool_used (Err e) = 0

-- what is told of a text, in five numbers: its answer's values, and where its rows and its pool bytes end
unfoldable pub told : Values → ℕ → ℕ → List ℕ
told v rows pool = v.number ∷ v.first ∷ v.second ∷ rows ∷ pool ∷ []

-- how many texts are answered, and what the buffers hold
pub record Each : Type 0 where
  pub count : ℕ
  pub rows : List ℕ
  pub pool : List ℕ
  pub tells : List ℕ

abbrev pub each : ℕ → List ℕ → List ℕ → List ℕ → Each
each n rows pool tells = record { count = n; rows = rows; pool = pool; tells = tells }

-- what one text takes up, before what those after it leave
unfoldable pub ahead : List ℕ → List ℕ → List ℕ → Each → Each
ahead rows pool line z = each (suc z.count) (rows ++ z.rows) (pool ++ z.pool) (line ++ z.tells)

-- a text that is read as x, with n rows and m pool bytes taken up before it and this room left: then those after it, unless it finds no room
unfoldable pub read_one : Table → Res Val → Reading → ℕ → ℕ → List ℕ → List ℕ → List ℕ → (ℕ → ℕ → List ℕ → List ℕ → List ℕ → Each) → Each
read_one t x r n m rows pool tells rest =
    elim (eqb (values_in r).number 14) [
      | true ↦ each 1 rows pool (told (values_in r) n m ++ drop 5 tells)
      | false ↦ ahead (take (rows_used r * 4) (rows_after t rows (length pool) x)) (take (pool_used r) (pool_after t (length rows) pool x)) (told (values_in r) (n + rows_used r) (m + pool_used r))
          (rest (n + rows_used r) (m + pool_used r) (drop (rows_used r * 4) (rows_after t rows (length pool) x)) (drop (pool_used r) (pool_after t (length rows) pool x)) (drop 5 tells))
    ]

-- what a call answers that reads the text into this room
abbrev pub alone : Table → List ℕ → List ℕ → List ℕ → Reading
alone t s rows pool = read_answer t (length rows) (length pool) (read_text t s)

-- the texts that end there, the first of them from a place on; a text of which there is no room to tell is not read
unfoldable pub read_each : Table → List ℕ → ℕ → List ℕ → ℕ → ℕ → List ℕ → List ℕ → List ℕ → Each
read_each t texts from [] n m rows pool tells = each 0 rows pool tells
read_each t texts from (end ∷ ends) n m rows pool tells =
    elim (leb 5 (length tells)) [
      | false ↦ each 0 rows pool tells
      | true ↦ read_one t (read_text t (text_from texts from end)) (alone t (text_from texts from end) rows pool) n m rows pool tells
          (λ n' m' rows' pool' tells'. read_each t texts end ends n' m' rows' pool' tells')
    ]

-- ---- the call

unfoldable pub each_read : Table → List ℕ → List ℕ → List ℕ → List ℕ → List ℕ → Res Each
each_read t texts ends rows pool tells = bind (good_table t) (λ u. ok (read_each t texts 0 ends 0 0 rows pool tells))

unfoldable pub each_answer : Res Each → Readings
each_answer (ok z) = Ok z.count
each_answer (no e) = Err e

-- the buffers afterwards: of a type table that is refused, as they were
unfoldable pub each_left : (Each → List ℕ) → List ℕ → Res Each → List ℕ
each_left part buffer (ok z) = part z
each_left part buffer (no e) = buffer

-- `reading::each::read_each` of these texts, with these buffers lent, answers r and leaves the buffers so
pub record EachCall (t : Table) (texts ends rows pool tells : List ℕ) (r : Readings) (rows' pool' tells' : List ℕ) : Type 0 where
  pub answer : r ≡ each_answer (each_read t texts ends rows pool tells)
  pub rows_left : rows' ≡ each_left (λ z. z.rows) rows (each_read t texts ends rows pool tells)
  pub pool_left : pool' ≡ each_left (λ z. z.pool) pool (each_read t texts ends rows pool tells)
  pub tells_left : tells' ≡ each_left (λ z. z.tells) tells (each_read t texts ends rows pool tells)
