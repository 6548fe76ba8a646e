-- What the theorems about the calls say beside the calls' own contracts.
use Rattle.std.specs.Prelude.{Err, Ok}
use Rattle.jer.specs.Answer.{read_as}
use Rattle.jer.specs.Answer.{Reading}
use Rattle.std.specs.Prelude.{ℕ, ◌*◌, ◌≡◌, List, Bool, true, false, length, take}
use Rattle.jer.specs.declared.Refusal.{Refusal}
use Rattle.jer.specs.Table.{Table}
use Rattle.jer.specs.Value.{Val}
use Rattle.jer.specs.Answer.{Res, number_of}
use Rattle.jer.specs.Rows.{rows_of, pool_of}
use Rattle.jer.specs.Means.{Reads}
use Rattle.jer.specs.Cut.{cut}
use Rattle.jer.specs.Calls.{over, row_numbers, read_answer, rows_after, pool_after}

-- one exactly when the other
abbrev pub Exactly : Type 0 → Type 0 → Type 0
Exactly P Q = (P → Q) × (Q → P)

-- the same room: equal lengths, whatever the buffers hold
pub record SameRoom (rows pool rows₂ pool₂ : List ℕ) : Type 0 where
  pub numbers : length rows ≡ length rows₂
  pub bytes : length pool ≡ length pool₂

-- the same value table: the n rows and m bytes that stand first in two buffers, and the n₂ and m₂ in two others
pub record SameTable (n m : ℕ) (rows pool : List ℕ) (n₂ m₂ : ℕ) (rows₂ pool₂ : List ℕ) : Type 0 where
  pub numbers : take (n * 4) rows ≡ take (n₂ * 4) rows₂
  pub bytes : take m pool ≡ take m₂ pool₂

-- a call stores the value v: r and both buffers afterwards
pub record Stores (t : Table) (v : Val) (rows pool : List ℕ) (r : Reading) (rows' pool' : List ℕ) : Type 0 where
  pub answer : r ≡ read_as (length (rows_of v t 0 0)) (length (pool_of v))
  pub rows_left : rows' ≡ over (row_numbers t v) rows
  pub pool_left : pool' ≡ over (pool_of v) pool

-- what the older table answers where the newer one read v: the value cut down is stored; or 11, with nothing touched, if it still lacks something
pub data Older (old : Table) (rows pool : List ℕ) (v : Val) (r : Reading) (rows' pool' : List ℕ) : Bool → Type 0 where
  cut_down : Stores old (cut v old 0) rows pool r rows' pool' → Older old rows pool v r rows' pool' false
  lacking : {e : Refusal} → number_of e ≡ 11 → r ≡ Err e → rows' ≡ rows → pool' ≡ pool → Older old rows pool v r rows' pool' true

-- a reading by the grammar: what the text says at the table, answered and stored
pub record ReadsBy (t : Table) (s rows pool : List ℕ) (r : Reading) (rows' pool' : List ℕ) : Type 0 where
  pub says : Res Val
  pub reads : Reads t s says
  pub answer : r ≡ read_answer t (length rows) (length pool) says
  pub rows_left : rows' ≡ rows_after t rows (length pool) says
  pub pool_left : pool' ≡ pool_after t (length rows) pool says
