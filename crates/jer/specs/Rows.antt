-- The value table: the rows and the pool of a value.
use Rattle.std.specs.Prelude.{ℕ, suc, ◌+◌, ◌/◌, ◌%◌, ◌^◌, List, [], ◌∷◌, ◌++◌, Bool, true, false, length}
use Rattle.jer.specs.Table.{Table, tag_of, element_of, type_at}
use Rattle.jer.specs.Value.{Leaf, l_bool, l_int, l_enum, l_null, l_bytes, Val, v_leaf, v_seq, v_list, v_choice, Vals, vnil, vcons, Parts, pnil, absent, present, count_vals, count_present}

-- 01, Value table: "Rows of four 32-bit numbers (kind, a, b, size) with a byte pool beside."
pub record ValueRow : Type 0 where
  pub kind : ℕ
  pub a : ℕ
  pub b : ℕ
  pub size : ℕ

abbrev pub row : ℕ → ℕ → ℕ → ℕ → ValueRow
row k a b n = record { kind = k; a = a; b = b; size = n }

-- an absent member "is the row (15, 0, 0, 1)"
abbrev pub absent_row : ValueRow
absent_row = row 15 0 0 1

unfoldable pub numbers : List ValueRow → List ℕ
numbers [] = []
numbers (w ∷ ws) = w.kind ∷ w.a ∷ w.b ∷ w.size ∷ numbers ws

unfoldable pub bit : Bool → ℕ
bit true = 1
bit false = 0

abbrev pub leaf_pool : Leaf → List ℕ
leaf_pool (l_bool b) = []
leaf_pool (l_int n) = []
leaf_pool (l_enum i) = []
leaf_pool l_null = []
leaf_pool (l_bytes s) = s

-- "Strings stand in the pool in row order from 0 without gaps."
unfoldable mutual
  pub pool_of : Val → List ℕ
  pool_of (v_leaf l) = leaf_pool l
  pool_of (v_seq ps) = part_pool ps
  pool_of (v_list vs) = item_pool vs
  pool_of (v_choice i v) = pool_of v

  pub item_pool : Vals → List ℕ
  item_pool vnil = []
  item_pool (vcons v vs) = pool_of v ++ item_pool vs

  pub part_pool : Parts → List ℕ
  part_pool pnil = []
  part_pool (absent ps) = part_pool ps
  part_pool (present v ps) = pool_of v ++ part_pool ps

-- a row above its parts
-- "A value is its row followed by its parts; size counts all these rows."
unfoldable pub above : ℕ → ℕ → List ValueRow → List ValueRow
above k a ws = row k a 0 (suc (length ws)) ∷ ws

-- the row of a value without parts, of the kind k
abbrev pub leaf_row : Leaf → ℕ → ℕ → ValueRow
leaf_row (l_bool b) k o = row k (bit b) 0 1
leaf_row (l_int n) k o = row k (n % 2 ^ 32) (n / 2 ^ 32) 1
leaf_row (l_enum i) k o = row k i 0 1
leaf_row l_null k o = row k 0 0 1
leaf_row (l_bytes s) k o = row k o (length s) 1

-- the rows of a value of the type at r, whose strings stand in the pool from o on
-- "BOOLEAN: a 0 or 1. INTEGER: a the low and b the high half of its 64-bit two's complement. ENUMERATED: a the item's position from 0.
-- OCTET STRING and UTF8String: a start, b length in the pool. SEQUENCE: a the number present, then one value for each member in table
-- order (..) SEQUENCE OF: a the count, then the items. CHOICE: a the position, then the chosen value. Other numbers are 0."
unfoldable mutual
  pub rows_of : Val → Table → ℕ → ℕ → List ValueRow
  rows_of (v_leaf l) t r o = leaf_row l (tag_of t r) o ∷ []
  rows_of (v_seq ps) t r o = above (tag_of t r) (count_present ps) (part_rows ps t r 0 o)
  rows_of (v_list vs) t r o = above (tag_of t r) (count_vals vs) (item_rows vs t (element_of t r) o)
  rows_of (v_choice i v) t r o = above (tag_of t r) i (rows_of v t (type_at t r i) o)

  pub item_rows : Vals → Table → ℕ → ℕ → List ValueRow
  item_rows vnil t r o = []
  item_rows (vcons v vs) t r o = rows_of v t r o ++ item_rows vs t r (o + length (pool_of v))

  -- the members from the position i on
  pub part_rows : Parts → Table → ℕ → ℕ → ℕ → List ValueRow
  part_rows pnil t r i o = []
  part_rows (absent ps) t r i o = absent_row ∷ part_rows ps t r (suc i) o
  part_rows (present v ps) t r i o = rows_of v t (type_at t r i) o ++ part_rows ps t r (suc i) (o + length (pool_of v))
