-- What the walk over the tape is given, and what it stores.
use Rattle.std.specs.Prelude.{ℕ, ◌+◌, ◌*◌, ◌≤◌, ◌<◌, ◌≡◌, List, length}
use Rattle.std.proofs.lemmas.List.Edits.{sets}
use Rattle.jer.specs.Table.{table, kind_of}
use Rattle.jer.specs.Value.{Val, Vals, Parts}
use Rattle.jer.specs.Rows.{numbers, rows_of, item_rows, part_rows, pool_of, item_pool, part_pool}
use Rattle.quick.specs.Tape.{Stands, Listed, Linked}

-- a text and a tape within the sizes
abbrev pub Sizes : List ℕ → List ℕ → Type 0
Sizes s z = (length s ≤ 65536) × (length z ≤ 1048576)

-- there is room for n rows from the slot i on, and for m pool bytes from the offset o on
pub record Room (rows pool : List ℕ) (i o n m : ℕ) : Type 0 where
  pub slots : i * 4 + n * 4 ≤ length rows
  pub bytes : o + m ≤ length pool
  pub small : o + m ≤ 65536

-- from j on some value of the type at r is noted, which ends inside the tape, and there is room for it
pub record Noted (types s z rows pool : List ℕ) (r j i o : ℕ) : Type 0 where
  pub names : List ℕ
  pub value : Val
  pub end : ℕ
  pub stands : Stands s z (table types names) r value j end
  pub inside : end ≤ length z
  pub room : Room rows pool i o (length (rows_of value (table types names) r 0)) (length (pool_of value))

-- and items from j up to end
pub record NotedItems (types s z rows pool : List ℕ) (r j end i o : ℕ) : Type 0 where
  pub names : List ℕ
  pub items : Vals
  pub listed : Listed s z (table types names) r items j end
  pub inside : end ≤ length z
  pub room : Room rows pool i o (length (item_rows items (table types names) r 0)) (length (item_pool items))

-- and the members of the type at r, whose links stand from b on
pub record NotedParts (types s z rows pool : List ℕ) (r b i o : ℕ) : Type 0 where
  pub names : List ℕ
  pub parts : Parts
  pub end : ℕ
  pub linked : Linked s z (table types names) r b end 0 parts
  pub inside : end ≤ length z
  pub room : Room rows pool i o (length (part_rows parts (table types names) r 0 0)) (length (part_pool parts))

-- stored from the slot i and the offset o on: these rows and these bytes
abbrev pub Stores : List ℕ → List ℕ → List ℕ → List ℕ → ℕ → ℕ → ℕ → List ℕ → List ℕ → Type 0
Stores rows₀ rows₁ pool₀ pool₁ i o next ns bytes = (rows₁ ≡ sets rows₀ (i * 4) ns) × (pool₁ ≡ sets pool₀ o bytes) × (next ≡ o + length bytes)

-- whatever value of the type at r stands from j on, it is stored
abbrev pub Emits : List ℕ → List ℕ → List ℕ → ℕ → ℕ → ℕ → ℕ → List ℕ → List ℕ → List ℕ → List ℕ → ℕ → Type 0
Emits types s z r j i o rows₀ rows₁ pool₀ pool₁ next =
    (ns : List ℕ) (v : Val) (k : ℕ) → Stands s z (table types ns) r v j k → Stores rows₀ rows₁ pool₀ pool₁ i o next (numbers (rows_of v (table types ns) r o)) (pool_of v)

abbrev pub Pours : List ℕ → List ℕ → List ℕ → ℕ → ℕ → ℕ → ℕ → ℕ → List ℕ → List ℕ → List ℕ → List ℕ → ℕ → Type 0
Pours types s z r j end i o rows₀ rows₁ pool₀ pool₁ next =
    (ns : List ℕ) (vs : Vals) → Listed s z (table types ns) r vs j end → Stores rows₀ rows₁ pool₀ pool₁ i o next (numbers (item_rows vs (table types ns) r o)) (item_pool vs)

abbrev pub EmitsParts : List ℕ → List ℕ → List ℕ → ℕ → ℕ → ℕ → ℕ → List ℕ → List ℕ → List ℕ → List ℕ → ℕ → Type 0
EmitsParts types s z r b i o rows₀ rows₁ pool₀ pool₁ next =
    (ns : List ℕ) (ps : Parts) (end : ℕ) → Linked s z (table types ns) r b end 0 ps → Stores rows₀ rows₁ pool₀ pool₁ i o next (numbers (part_rows ps (table types ns) r 0 o)) (part_pool ps)

-- whatever value of the type at r stands from j on, it ends at `end` and has n rows
abbrev pub Passes : List ℕ → List ℕ → ℕ → ℕ → ℕ → ℕ → Type 0
Passes types z r j end n = (s ns : List ℕ) (v : Val) (k : ℕ) → Stands s z (table types ns) r v j k → (end ≡ k) × (n ≡ length (rows_of v (table types ns) r 0))

-- the type at r is one of those whose bytes stand in the pool
abbrev pub InPool : List ℕ → ℕ → Type 0
InPool types r = (ns : List ℕ) → (4 ≤ kind_of (table types ns) r) × (kind_of (table types ns) r < 6)
