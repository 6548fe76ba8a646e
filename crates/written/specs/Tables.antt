-- What the tables that a writing reads have to be.
use Rattle.std.specs.Prelude.{ℕ, ◌%◌, ◌<◌, ◌≡◌, List, true, false, length}
use Rattle.jer.specs.Table.{Table, table, is_unwrapped, count_of, type_at}

-- 01, Type table: "An UNWRAPPED choice has no UNWRAPPED alternative"
abbrev pub Wrapped : Table → Type 0
Wrapped t = (r i : ℕ) → is_unwrapped t r ≡ true → i < count_of t r → is_unwrapped t (type_at t r i) ≡ false

-- what is used of a type table that was judged good
pub record GoodTable (types names : List ℕ) : Type 0 where
  pub wrapped : Wrapped (table types names)
  pub whole : length types % 8 ≡ 0
