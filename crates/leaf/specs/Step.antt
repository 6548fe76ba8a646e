-- What reading a value answers, and what it stores.
use Rattle.jer.specs.declared.Token.{Token}
use Rattle.std.specs.Prelude.{ℕ, ◌+◌, ◌*◌, ◌^◌, ◌<◌, ◌≡◌, List, length, Result, Ok, Err}
use Rattle.std.proofs.lemmas.List.Edits.{sets}
use Rattle.jer.specs.declared.Cause.{Cause}
use Rattle.jer.specs.declared.Refusal.{Refusal}
use Rattle.jer.specs.declared.Refusal.TheVariants.{AtByte}
use Rattle.jer.specs.Table.{Table, table, type_at, position}
use Rattle.jer.specs.Value.{Val}
use Rattle.jer.specs.Answer.{Res, ok, no}
use Rattle.jer.specs.Rows.{numbers, rows_of, pool_of}
use Rattle.jer.specs.Read.{read_item, missing_element}
use Rattle.tokens.specs.Strings.{denoted, string_end}
use Rattle.places.specs.ByPlaces.{Got, ending, leaf_at}
use Rattle.slices.specs.Lent.{Shown, Lent, held, before, after, table_in}
use Rattle.leaf.specs.declared.Taken.{Taken}

-- what reading a value answers
abbrev pub Step : Type 0
Step = Result Taken Refusal

-- the place after it, and how many rows and pool bytes it has
abbrev pub taken : ℕ → ℕ → ℕ → Taken
taken next rows pool = record { next = next; rows = rows; pool = pool }

-- the answer for a value of the type at r; how many rows it has does not depend on where its strings stand in the pool
abbrev pub step_of : Table → ℕ → Res (Got Val) → Step
step_of t r (ok g) = Ok (taken g.next (length (rows_of g.value t r 0)) (length (pool_of g.value)))
step_of t r (no e) = Err e

-- the pool bytes of a value, from o on, stand at places of 32 bits, as its rows say them; of a whole value, with o = 0, `within` shows it
abbrev pub Fits : ℕ → Val → Type 0
Fits o v = o + length (pool_of v) < 2 ^ 32

-- the value's rows stand from row i on, and the rest is as it was; a refused reading may have stored anything
abbrev pub RowsStored : List ℕ → List ℕ → ℕ → ℕ → Table → ℕ → Res (Got Val) → Type 0
RowsStored after before i o t r (ok g) = Fits o g.value → after ≡ sets before (i * 4) (numbers (rows_of g.value t r o))
RowsStored after before i o t r (no e) = Unit {0}

-- its strings stand in the pool from o on
abbrev pub PoolStored : List ℕ → List ℕ → ℕ → Res (Got Val) → Type 0
PoolStored after before o (ok g) = Fits o g.value → after ≡ sets before o (pool_of g.value)
PoolStored after before o (no e) = Unit {0}

-- what a call does that reads x as a value of the type at r: its answer, and the rows and the pool, after it (₁) and before it (₀)
pub record Stepped (z : Step) (rows₁ rows₀ pool₁ pool₀ : List ℕ) (i o : ℕ) (t : Table) (r : ℕ) (x : Res (Got Val)) : Type 0 where
  pub answer : z ≡ step_of t r x
  pub rows : RowsStored rows₁ rows₀ i o t r x
  pub pool : PoolStored pool₁ pool₀ o x

abbrev pub refused_at : Cause → ℕ → Step
refused_at cause place = Err (AtByte cause place)

-- ---- what the readers of leaves do

-- a leaf of the token k is read at a place and stored from a slot of the rows and an offset of the pool on
abbrev pub LeafRead : Token → Shown → Shown → Shown → ℕ → ℕ → ℕ → ℕ → Step → Lent → Lent → Type 0
LeafRead k types names s row place slot offset z rows pool =
    Stepped z (after rows) (before rows) (after pool) (before pool) slot offset (table_in types names) row (leaf_at (table_in types names) (held s) k row place)

-- one without bytes in the pool, whatever the names and the pool are
abbrev pub RowRead : Token → Shown → Shown → ℕ → ℕ → ℕ → Step → Lent → Type 0
RowRead k types s row place slot z rows =
    (ns pool : List ℕ) (offset : ℕ) → Stepped z (after rows) (before rows) pool pool slot offset (table (held types) ns) row (leaf_at (table (held types) ns) (held s) k row place)

-- an item of an ENUMERATED
abbrev pub ItemRead : Shown → Shown → Shown → ℕ → ℕ → ℕ → Step → Lent → Type 0
ItemRead types names s row place slot z rows =
    (pool : List ℕ) (offset : ℕ) → Stepped z (after rows) (before rows) pool pool slot offset (table_in types names) row
    (ending (string_end (held s) (place + 1)) (read_item (table_in types names) row place (position (table_in types names) row (denoted (held s) (place + 1)))))

-- a missing element of an array at a place, after which next follows
abbrev pub MissingRead : Shown → ℕ → ℕ → ℕ → ℕ → ℕ → Step → Lent → Type 0
MissingRead types row member place slot next z rows =
    (ns pool : List ℕ) (offset : ℕ) → Stepped z (after rows) (before rows) pool pool slot offset (table (held types) ns) (type_at (table (held types) ns) row member)
    (ending next (missing_element (table (held types) ns) row place member))
