-- What the quick pass over a type table makes sure of.
use Rattle.std.specs.Prelude.{ℕ, ◌+◌, ◌-◌, ◌*◌, ◌/◌, ◌%◌, ◌<◌, ◌≤◌, ◌≡◌, List, true, false, length, get_or}
use Rattle.jer.specs.Table.{Table, MEMBER, field, tag_of, first_of, count_of, name_in, same_bytes}
use Rattle.jer.specs.Valid.{good_alone, good_pointers, good_rules}

-- each row is good by itself
abbrev pub Alone : Table → Type 0
Alone t = (r : ℕ) → r < length t.rows / 8 → good_alone t r ≡ true

-- the rows of the members of the type at r are there
abbrev pub BlockInside : Table → ℕ → Type 0
BlockInside t r = first_of t r + count_of t r ≤ length t.rows / 8

-- a number below 256 that equal names share
unfoldable pub sign_of : List ℕ → ℕ
sign_of s = (get_or s 0 0 * 5 + get_or s (length s - 1) 0 * 3 + (get_or s (length s / 2) 0 * 11 + get_or s (length s / 3) 0 * 7) + length s % 256) % 256

-- the name in the row m is inside the names
abbrev pub NameInside : Table → ℕ → Type 0
NameInside t m = field t m 3 + field t m 4 ≤ length t.names

abbrev pub NamesInside : Table → ℕ → ℕ → Type 0
NamesInside t first j = (i : ℕ) → i < j → NameInside t (first + i)

-- no row of j from the row first on has the name
abbrev pub Apart : Table → ℕ → ℕ → List ℕ → Type 0
Apart t first j name = (i : ℕ) → i < j → same_bytes (name_in t (first + i)) name ≡ false

-- the row m is a member's, with no mark and no type row above these
pub record Fits (t : Table) (m marks types : ℕ) : Type 0 where
  pub kind : tag_of t m ≡ MEMBER
  pub mark : field t m 1 ≤ marks
  pub type : field t m 2 ≤ types

-- so is the member i of those from the row first on, and its name is its own
pub record SureMember (t : Table) (first marks types i : ℕ) : Type 0 where
  pub fit : Fits t (first + i) marks types
  pub own : Apart t first i (name_in t (first + i))

abbrev pub SureMembers : Table → ℕ → ℕ → ℕ → Type 0
SureMembers t r marks types = (i : ℕ) → i < count_of t r → SureMember t (first_of t r) marks types i

-- the row r is good by those it points to and by the rules of its type
pub record SureLinks (t : Table) (r : ℕ) : Type 0 where
  pub pointers : good_pointers t r ≡ true
  pub rules : good_rules t r ≡ true
