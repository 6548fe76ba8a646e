-- What each reader of the cycle is given, and what it does; how a value is closed above its parts.
use Rattle.jer.specs.declared.Token.{Token}
use Rattle.std.specs.Prelude.{ℕ, zero, suc, ◌+◌, ◌-◌, ◌*◌, ◌^◌, ◌≤◌, ◌<◌, ◌≡◌, true, false, ◌&&◌, List, ltb, length, Ok, Err}
use Rattle.jer.specs.declared.Limit.TheVariants.{LentRoom}
use Rattle.jer.specs.declared.Refusal.TheVariants.{Amounts}
use Rattle.jer.specs.Table.{Table, is_type}
use Rattle.jer.specs.Value.{Val}
use Rattle.jer.specs.Answer.{Res, bind}
use Rattle.jer.specs.Sane.{Sane}
use Rattle.places.specs.declared.Scanned.{Scanned}
use Rattle.places.specs.ByPlaces.{Got, Reader, shallow_at, bracket_at, read_at, token_at, list_at, array_at, object_at, choice_at, within, after_scan}
use Rattle.slices.specs.Lent.{Shown, Lent, held, before, after, table_in}
use Rattle.leaf.specs.declared.Taken.{Taken}
use Rattle.leaf.specs.Step.{Step, Stepped}

-- a good table, a type's row, a text and a place within the sizes; and room to count: each bracket adds less than 2^49 rows and bytes
pub record Given (t : Table) (s : List ℕ) (row place slot offset depth : ℕ) : Type 0 where
  pub sane : Sane t
  pub typed : is_type t row ≡ true
  pub short : length s ≤ 65536
  pub near : place ≤ 4294967295
  pub row_room : slot + depth * 562949953421312 ≤ 72057594037927936
  pub byte_room : offset + depth * 562949953421312 ≤ 72057594037927936

-- a value at p ends here, or one place further for each bracket that the text leaves open
abbrev pub limit : ℕ → ℕ
limit p = p + (65539 - p)

-- an answer whose numbers are small
abbrev pub Small : ℕ → Step → Type 0
Small b (Ok x) = (x.next ≤ b) × (x.rows < 2 ^ 32) × (x.pool < 2 ^ 32)
Small b (Err e) = Unit {0}

-- what a reader of the cycle does: it reads x, and its answer is small
pub record Reads (z : Step) (rows₁ rows₀ pool₁ pool₀ : List ℕ) (i o b : ℕ) (t : Table) (r : ℕ) (x : Res (Got Val)) : Type 0 where
  pub stepped : Stepped z rows₁ rows₀ pool₁ pool₀ i o t r x
  pub small : Small b z

-- the value of a token, whose type is not UNWRAPPED, in which so many brackets may be open
unfoldable pub plain_at : ℕ → Table → List ℕ → Token → Reader
plain_at zero t s k r p = shallow_at t s k r p
plain_at (suc d) t s k r p = bracket_at (λ q u. read_at d t s q u) d t s k r p

-- `within` of `ByPlaces.antt`, of what a value took
unfoldable pub bounded : Taken → Step
bounded x = elim (ltb x.rows (2 ^ 32) && ltb x.pool (2 ^ 32)) [ true ↦ Ok x | false ↦ Err (Amounts LentRoom (2 ^ 32) (2 ^ 32)) ]

-- ---- what the members of the cycle read

-- how something of the type at a row is read from a place, with so many brackets that may be open
abbrev pub Way : Type 0
Way = ℕ → Table → List ℕ → Reader

-- a value inside a bracket
abbrev pub inside : ℕ → Table → List ℕ → Reader
inside d t s q u = read_at (d - 1) t s q u

-- rows and pool bytes counted in 32 bits
abbrev pub counted : Way → Way
counted x d t s r p = bind (x d t s r p) (within t r)

-- by the token at the place
abbrev pub by_token : Way
by_token d t s r p = plain_at d t s (token_at s p) r p

abbrev pub list : Way
list d t s r p = list_at (λ q u. inside d t s q u) t s r p

abbrev pub array : Way
array d t s r p = array_at (λ q u. inside d t s q u) (d - 1) t s r p

abbrev pub object : Way
object d t s r p = object_at (λ q u. inside d t s q u) (d - 1) t s r p

-- the members of an object whose names are scanned
abbrev pub members : Scanned → Way
members x d t s r p = after_scan (λ q u. inside d t s q u) t s r p (Ok x)

abbrev pub choice : Way
choice d t s r p = choice_at (λ q u. inside d t s q u) (d - 1) t s r p

-- it is read so at a place, and stored from a slot of the rows and an offset of the pool on
abbrev pub ReadsAs : Way → Shown → Shown → Shown → ℕ → ℕ → ℕ → ℕ → ℕ → Step → Lent → Lent → Type 0
ReadsAs x types names s row place slot offset depth z rows pool =
    Reads z (after rows) (before rows) (after pool) (before pool) slot offset (limit place + depth) (table_in types names) row (x depth (table_in types names) (held s) row place)
