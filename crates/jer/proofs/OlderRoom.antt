-- A value cut down needs no more room: where the newer table's value was stored, the older one's is.
use Prim.Native.Nat.{ℕ, zero, suc, ◌*◌, ◌≤◌}
use mathlib.Core.Path.{◌≡◌, refl}
use mathlib.Core.List.{List, [], ◌∷◌}
use mathlib.Core.Bool.{Bool, true, false}
use native.Mathlib.Omega.{arith}
use lib.Dec.{ltb}
use lib.ListN.{length, length-append}
use borrow.Author.Tests.{leb-true, le-leb}
use Rattle.jer.specs.Table.{Table, element_of, count_of, type_at}
use Rattle.jer.specs.Value.{Val, v_leaf, v_seq, v_list, v_choice, Vals, vnil, vcons, Parts, pnil, absent, present}
use Rattle.jer.specs.Rows.{ValueRow, numbers, rows_of, pool_of, item_pool, part_pool}
use Rattle.jer.specs.Cut.{cut, cut_items, cut_parts, cut_chosen}
use Rattle.jer.specs.Calls.{row_numbers, roomy}
use Rattle.jer.proofs.ValidRows.{both}
use Rattle.jer.proofs.WeightMeasure.{rows_in, items_in, parts_in, rows-length}

-- ---- rows

chosen-rows : (c : Bool) (i : ℕ) (w v : Val) → rows_in w ≤ rows_in v → rows_in (cut_chosen c i w v) ≤ rows_in (v_choice i v)
unfolding cut_chosen
chosen-rows true i w v l = omega arith
chosen-rows false i w v l = omega arith

mutual
  unfolding cut

  value-rows : (v : Val) (t : Table) (r : ℕ) → rows_in (cut v t r) ≤ rows_in v
  value-rows (v_leaf l) t r = omega arith
  value-rows (v_seq ps) t r = omega (arith, part_rows_lem ps t r 0 (count_of t r))
  value-rows (v_list vs) t r = omega (arith, item-rows vs t (element_of t r))
  value-rows (v_choice i v) t r = chosen-rows (ltb i (count_of t r)) i (cut v t (type_at t r i)) v (value-rows v t (type_at t r i))

  item-rows : (vs : Vals) (t : Table) (r : ℕ) → items_in (cut_items vs t r) ≤ items_in vs
  item-rows vnil t r = omega arith
  item-rows (vcons v vs) t r = omega (arith, value-rows v t r, item-rows vs t r)

  part_rows_lem : (ps : Parts) (t : Table) (r i n : ℕ) → parts_in (cut_parts ps t r i n) ≤ parts_in ps
  part_rows_lem pnil t r i n = omega arith
  part_rows_lem (absent ps) t r i zero = omega arith
  part_rows_lem (absent ps) t r i (suc n) = omega (arith, part_rows_lem ps t r (suc i) n)
  part_rows_lem (present v ps) t r i zero = omega arith
  part_rows_lem (present v ps) t r i (suc n) = omega (arith, value-rows v t (type_at t r i), part_rows_lem ps t r (suc i) n)

pub cut-rows : (v : Val) (new old : Table) (a b o p : ℕ) → length (rows_of (cut v old b) old b o) ≤ length (rows_of v new a p)
cut-rows v new old a b o p = omega (arith, rows-length (cut v old b) old b o, rows-length v new a p, value-rows v old b)

-- ---- pool

chosen-pool : (c : Bool) (i : ℕ) (w v : Val) → length (pool_of w) ≤ length (pool_of v) → length (pool_of (cut_chosen c i w v)) ≤ length (pool_of (v_choice i v))
unfolding cut_chosen pool_of
chosen-pool true i w v l = l
chosen-pool false i w v l = omega arith

mutual
  unfolding cut pool_of

  pub cut-pool : (v : Val) (t : Table) (r : ℕ) → length (pool_of (cut v t r)) ≤ length (pool_of v)
  cut-pool (v_leaf l) t r = omega arith
  cut-pool (v_seq ps) t r = part_pool_lem ps t r 0 (count_of t r)
  cut-pool (v_list vs) t r = item-pool vs t (element_of t r)
  cut-pool (v_choice i v) t r = chosen-pool (ltb i (count_of t r)) i (cut v t (type_at t r i)) v (cut-pool v t (type_at t r i))

  item-pool : (vs : Vals) (t : Table) (r : ℕ) → length (item_pool (cut_items vs t r)) ≤ length (item_pool vs)
  item-pool vnil t r = omega arith
  item-pool (vcons v vs) t r = simp length-append (omega (arith, cut-pool v t r, item-pool vs t r))

  part_pool_lem : (ps : Parts) (t : Table) (r i n : ℕ) → length (part_pool (cut_parts ps t r i n)) ≤ length (part_pool ps)
  part_pool_lem pnil t r i n = omega arith
  part_pool_lem (absent ps) t r i zero = omega arith
  part_pool_lem (absent ps) t r i (suc n) = part_pool_lem ps t r (suc i) n
  part_pool_lem (present v ps) t r i zero = omega arith
  part_pool_lem (present v ps) t r i (suc n) = simp length-append (omega (arith, cut-pool v t (type_at t r i), part_pool_lem ps t r (suc i) n))

-- ---- room

numbers-length : (ws : List ValueRow) → length (numbers ws) ≡ 4 * length ws
unfolding numbers
numbers-length [] = refl
numbers-length (w ∷ ws) = omega (arith, numbers-length ws)

-- where the newer's value has room, the older's has
pub cut-roomy : (v : Val) (new old : Table) (n m : ℕ) → roomy new v n m ≡ true → roomy old (cut v old 0) n m ≡ true
unfolding roomy row_numbers
cut-roomy v new old n m h =
    let fits = simp both at h in
    let l = cut-rows v new old 0 0 0 0 in
    let k = cut-pool v old 0 in
    let x = numbers-length (rows_of v new 0 0) in
    let y = numbers-length (rows_of (cut v old 0) old 0 0) in
    simp both (le-leb (length (numbers (rows_of (cut v old 0) old 0 0))) n (omega (arith, leb-true)), le-leb (length (pool_of (cut v old 0))) m (omega (arith, leb-true)))
