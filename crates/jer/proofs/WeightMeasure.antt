-- The three measures of a value: its rows, its bytes of pool and the bytes of its text.
use Prim.Native.Nat.{ℕ, suc, ◌+◌, ◌-◌, ◌*◌, ◌≤◌}
use mathlib.Core.Path.{◌≡◌, refl}
use mathlib.Core.List.{List, [], ◌∷◌}
use mathlib.Core.Bool.{true}
use native.Mathlib.Omega.{arith}
use lib.ListN.{length, length-append}
use Rattle.jer.specs.Table.{Table, is_type, element_of, type_at, same_bytes}
use Rattle.jer.specs.Value.{Val, v_leaf, v_seq, v_list, v_choice, Vals, vnil, vcons, Parts, pnil, absent, present}
use Rattle.jer.specs.Answer.{ok}
use Rattle.jer.specs.Read.{Meaning}
use Rattle.jer.specs.Rows.{rows_of, item_rows, part_rows, pool_of, above}
use Rattle.jer.specs.Write.{write, escapes, quotes, string_text, member_text, joined, keep, brackets, braces, null_text}
use Rattle.jer.proofs.WeightGot.{branch}

-- With n members that may be missing and the weight w: so many rows, bytes of pool and bytes of text are not too many.
-- A missing member has at most two rows.
pub record Held (n w rows pool text : ℕ) : Type 0 where
  pub few_rows : rows ≤ 2 * n + 130 * w
  pub small_pool : pool ≤ w
  pub short_text : text ≤ w

-- ---- rows

-- the number of rows does not depend on the table or the pool
abbrev mutual
  pub rows_in : Val → ℕ
  rows_in (v_leaf l) = 1
  rows_in (v_seq ps) = suc (parts_in ps)
  rows_in (v_list vs) = suc (items_in vs)
  rows_in (v_choice i v) = suc (rows_in v)

  pub items_in : Vals → ℕ
  items_in vnil = 0
  items_in (vcons v vs) = rows_in v + items_in vs

  pub parts_in : Parts → ℕ
  parts_in pnil = 0
  parts_in (absent ps) = suc (parts_in ps)
  parts_in (present v ps) = rows_in v + parts_in ps

cons-rows : (v : Val) (vs : Vals) (t : Table) (r o : ℕ) → length (item_rows (vcons v vs) t r o) ≡ length (rows_of v t r o) + length (item_rows vs t r (o + length (pool_of v)))
unfolding rows_of
cons-rows v vs t r o = simp length-append

present-rows : (v : Val) (ps : Parts) (t : Table) (r i o : ℕ) → length (part_rows (present v ps) t r i o) ≡ length (rows_of v t (type_at t r i) o) + length (part_rows ps t r (suc i) (o + length (pool_of v)))
unfolding rows_of
present-rows v ps t r i o = simp length-append

mutual
  unfolding rows_of above

  pub rows-length : (v : Val) (t : Table) (r o : ℕ) → length (rows_of v t r o) ≡ rows_in v
  rows-length (v_leaf l) t r o = refl
  rows-length (v_seq ps) t r o = omega (arith, parts-length ps t r 0 o)
  rows-length (v_list vs) t r o = omega (arith, items-length vs t (element_of t r) o)
  rows-length (v_choice i v) t r o = omega (arith, rows-length v t (type_at t r i) o)

  items-length : (vs : Vals) (t : Table) (r o : ℕ) → length (item_rows vs t r o) ≡ items_in vs
  items-length vnil t r o = refl
  items-length (vcons v vs) t r o = omega (arith, cons-rows v vs t r o, rows-length v t r o, items-length vs t r (o + length (pool_of v)))

  parts-length : (ps : Parts) (t : Table) (r i o : ℕ) → length (part_rows ps t r i o) ≡ parts_in ps
  parts-length pnil t r i o = refl
  parts-length (absent ps) t r i o = omega (arith, parts-length ps t r (suc i) o)
  parts-length (present v ps) t r i o = omega (arith, present-rows v ps t r i o, rows-length v t (type_at t r i) o, parts-length ps t r (suc i) (o + length (pool_of v)))

-- ---- text

-- texts with a comma each
abbrev pub commaed : List (List ℕ) → ℕ
commaed [] = 0
commaed (x ∷ xs) = suc (length x) + commaed xs

joined_length : (xs : List (List ℕ)) → length (joined xs) ≡ commaed xs - 1
unfolding joined
joined_length [] = refl
joined_length (x ∷ []) = omega arith
joined_length (x ∷ y ∷ xs) = let h = joined_length (y ∷ xs) in simp length-append (omega arith)

pub brackets-length : (xs : List (List ℕ)) → length (brackets xs) ≡ 2 + (commaed xs - 1)
unfolding brackets
brackets-length xs = simp length-append (omega (arith, joined_length xs))

pub braces-length : (xs : List (List ℕ)) → length (braces xs) ≡ 2 + (commaed xs - 1)
unfolding braces
braces-length xs = simp length-append (omega (arith, joined_length xs))

pub string-length : (s : List ℕ) → length (string_text s) ≡ 2 + length (escapes s)
unfolding string_text quotes
string-length s = simp length-append (omega arith)

pub member-length : (s x : List ℕ) → length (member_text s x) ≡ length (escapes s) + length x + 3
unfolding member_text
member-length s x = simp length-append (omega (arith, string-length s))

-- a text is kept, or dropped before none
pub keep-most : (x : List ℕ) (xs : List (List ℕ)) → commaed (keep x xs) ≤ suc (length x) + commaed xs
unfolding keep
keep-most x [] = branch (λ (ys : List (List ℕ)). commaed ys ≤ suc (length x) + 0) (same_bytes x null_text) (λ e. omega arith) (λ e. omega arith)
keep-most x (y ∷ ys) = omega arith

-- ---- meanings

-- a value of the type at r, of the weight w
abbrev pub Light : Table → ℕ → ℕ → Val → Type 0
Light t w r v = Held 0 w (rows_in v) (length (pool_of v)) (length (write v t r))

-- with room for the row of an UNWRAPPED choice above it
abbrev pub LightUnder : Table → ℕ → ℕ → Val → Type 0
LightUnder t w r v = Held 0 w (suc (rows_in v)) (length (pool_of v)) (length (write v t r))

-- a meaning all of whose values fit the weight w
abbrev pub Fair : Table → ℕ → Meaning → Type 0
Fair t w m = (r : ℕ) (v : Val) → is_type t r ≡ true → m r ≡ ok v → Light t w r v

abbrev pub FairUnder : Table → ℕ → Meaning → Type 0
FairUnder t w m = (r : ℕ) (v : Val) → is_type t r ≡ true → m r ≡ ok v → LightUnder t w r v
