-- What a call from C returns and what it leaves in `amounts`: a number with two amounts, for each answer of `jer`.
use Rattle.std.specs.Prelude.{Err, Ok}
use Rattle.jer.specs.Answer.{Judged, Reading, Readings, Writing}
use Rattle.std.specs.Prelude.{ℕ, ◌≡◌, List, [], ◌∷◌}
use Rattle.jer.specs.Table.{Table}
use Rattle.jer.specs.Answer.{Values, values, values_of}
use Rattle.jer.specs.CallClauses.{TableCall, ReadCall, WriteCall}
use Rattle.jer.specs.Each.{EachCall}

-- A success is number 0; a refusal has document 01's number and amounts (`values_of`).

-- a good type table: no amounts
unfoldable pub of_table : Judged → Values
of_table (Ok tt) = values 0 0 0
of_table (Err e) = values_of e

-- a text that was read: value rows and pool bytes
unfoldable pub of_reading : Reading → Values
of_reading (Ok c) = values 0 c.rows c.pool
of_reading (Err e) = values_of e

-- many texts: how many are answered
unfoldable pub of_readings : Readings → Values
of_readings (Ok n) = values 0 n 0
of_readings (Err e) = values_of e

-- a text that was written: its bytes
unfoldable pub of_writing : Writing → Values
of_writing (Ok n) = values 0 n 0
of_writing (Err e) = values_of e

-- `amounts` afterwards: its first two numbers are replaced; where it has room for less than two, nothing is stored
unfoldable pub amounts_after : List ℕ → ℕ → ℕ → List ℕ
amounts_after [] first second = []
amounts_after (x ∷ []) first second = x ∷ []
amounts_after (x ∷ y ∷ zs) first second = first ∷ second ∷ zs

-- the same, by an answer's two amounts
abbrev pub amounts_by : List ℕ → Values → List ℕ
amounts_by amounts v = amounts_after amounts v.first v.second

-- A call from C is the library's call: r and what is left in `amounts` say its answer, and the buffers are as it leaves them.

pub record TableFromC (t : Table) (amounts : List ℕ) (r : ℕ) (amounts' : List ℕ) : Type 0 where
  pub answer : Judged
  pub call : TableCall t answer
  pub number : r ≡ (of_table answer).number
  pub told : amounts' ≡ amounts_by amounts (of_table answer)

pub record ReadFromC (t : Table) (s rows pool amounts : List ℕ) (r : ℕ) (rows' pool' amounts' : List ℕ) : Type 0 where
  pub answer : Reading
  pub call : ReadCall t s rows pool answer rows' pool'
  pub number : r ≡ (of_reading answer).number
  pub told : amounts' ≡ amounts_by amounts (of_reading answer)

pub record EachFromC (t : Table) (texts ends rows pool tells amounts : List ℕ) (r : ℕ) (rows' pool' tells' amounts' : List ℕ) : Type 0 where
  pub answer : Readings
  pub call : EachCall t texts ends rows pool tells answer rows' pool' tells'
  pub number : r ≡ (of_readings answer).number
  pub told : amounts' ≡ amounts_by amounts (of_readings answer)

pub record WriteFromC (t : Table) (ns pool text amounts : List ℕ) (r : ℕ) (text' amounts' : List ℕ) : Type 0 where
  pub answer : Writing
  pub call : WriteCall t ns pool text answer text'
  pub number : r ≡ (of_writing answer).number
  pub told : amounts' ≡ amounts_by amounts (of_writing answer)
