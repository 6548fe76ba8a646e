-- What a good type table gives to whoever follows its pointers: the facts that reading, writing and cutting rest on.
use Rattle.std.specs.Prelude.{ℕ, ◌≤◌, ◌<◌, ◌≡◌, true, false}
use Rattle.json_text.specs.Utf8.{utf8}
use Rattle.jer.specs.Table.{Table, SEQUENCE-OF, CHOICE, kind_of, is_type, extensible, is_array, is_unwrapped, element_of, count_of, root_of, optional, type_at, name_at, may_miss, same_bytes, same_token, token_of, null_taken}

pub record Sane (t : Table) : Type 0 where
  pub whole : is_type t 0 ≡ true
  pub few : (r : ℕ) → is_type t r ≡ true → count_of t r ≤ 64
  pub roots : (r : ℕ) → is_type t r ≡ true → root_of t r ≤ count_of t r
  pub closed : (r : ℕ) → is_type t r ≡ true → extensible t r ≡ false → root_of t r ≡ count_of t r
  pub element : (r : ℕ) → kind_of t r ≡ SEQUENCE-OF → is_type t (element_of t r) ≡ true
  -- of an enumeration item the type row is 0, a type too
  pub member : (r i : ℕ) → is_type t r ≡ true → i < count_of t r → is_type t (type_at t r i) ≡ true
  pub named : (r i : ℕ) → is_type t r ≡ true → i < count_of t r → utf8 (name_at t r i) ≡ true
  pub differ : (r i j : ℕ) → is_type t r ≡ true → i < j → j < count_of t r → same_bytes (name_at t r i) (name_at t r j) ≡ false
  -- the members of a CHOICE are not OPTIONAL
  pub required : (r i : ℕ) → kind_of t r ≡ CHOICE → i < count_of t r → optional t r i ≡ false
  -- X.697 14.2
  pub array : (r i : ℕ) → is_array t r ≡ true → i < count_of t r → may_miss t r i ≡ true → null_taken t (type_at t r i) ≡ false
  -- X.697 19.2.2
  pub plain : (r i : ℕ) → is_unwrapped t r ≡ true → i < count_of t r → is_unwrapped t (type_at t r i) ≡ false
  pub tokens : (r i j : ℕ) → is_unwrapped t r ≡ true → i < j → j < count_of t r → same_token (token_of t (type_at t r i)) (token_of t (type_at t r j)) ≡ false
