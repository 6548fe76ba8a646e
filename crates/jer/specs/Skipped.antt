-- Trees that differ only inside the values of skipped members, and answers that agree but for places.
-- 01's promise on two such texts, which docs/PROMISES.md quotes, says `SameCall` of their readings.
use Rattle.std.specs.Prelude.{Err}
use Rattle.jer.specs.Answer.{Reading}
use Rattle.std.specs.Prelude.{ℕ, suc, ◌≤◌, ◌≡◌, List, true, false, length}
use Rattle.std.specs.Prelude.{None, Some}
use Rattle.json_text.specs.Tree.{Json, jarr, jobj, Items, inil, icons, Members, mnil, mcons}
use Rattle.jer.specs.declared.Refusal.{Refusal}
use Rattle.jer.specs.Table.{Table, SEQUENCE-OF, kind_of, extensible, is_array, is_unwrapped, element_of, count_of, type_at, position, alternative}
use Rattle.jer.specs.Answer.{Res, ok, no, number_of}
use Rattle.jer.specs.Value.{Val}
use Rattle.jer.specs.Calls.{read_answer, rows_after, pool_after}
use Rattle.jer.specs.Moved.{Moved, token_in}

-- the same value, or two refusals with the same number
pub data SameAnswer {A : Type 0} : Res A → Res A → Type 0 where
  same_value : {a : A} → SameAnswer (ok a) (ok a)
  same_number : {e f : Refusal} → number_of e ≡ number_of f → SameAnswer (no e) (no f)

-- the same of what the call answers
pub data SameReading : Reading → Reading → Type 0 where
  same_reading : {a : Reading} → SameReading a a
  same_refusal : {e f : Refusal} → number_of e ≡ number_of f → SameReading (Err e) (Err f)

-- the same rows and pool, or the same refusal number: of two readings with the same room, the answers and what the buffers hold afterwards
pub record SameCall (t : Table) (rows pool : List ℕ) (x y : Res Val) : Type 0 where
  pub answer : SameReading (read_answer t (length rows) (length pool) x) (read_answer t (length rows) (length pool) y)
  pub rows_same : rows_after t rows (length pool) x ≡ rows_after t rows (length pool) y
  pub pool-same : pool_after t (length rows) pool x ≡ pool_after t (length rows) pool y

-- The trees j and k, read at the row r, have equal names in the same order and equal values, but for what is skipped.
mutual
  pub data SkipAlike (t : Table) : ℕ → Json → Json → Type 0 where
    -- equal but for places
    moved : {r : ℕ} {j k : Json} → Moved j k → SkipAlike t r j k
    -- a SEQUENCE OF: item by item
    items : {r p q : ℕ} {is js : Items} → kind_of t r ≡ SEQUENCE-OF → SkipAlikeItems t (element_of t r) is js → SkipAlike t r (jarr p is) (jarr q js)
    -- an ARRAY sequence: element by element
    elements : {r p q : ℕ} {is js : Items} → is_array t r ≡ true → SkipAlikeElements t r 0 is js → SkipAlike t r (jarr p is) (jarr q js)
    -- another sequence or a wrapped choice: member by member
    members : {r p q : ℕ} {ms ns : Members} → is_unwrapped t r ≡ false → SkipAlikeMembers t r ms ns → SkipAlike t r (jobj p ms) (jobj q ns)
    -- an UNWRAPPED choice: at the alternative that the token picks
    picked : {r i : ℕ} {j k : Json} → is_unwrapped t r ≡ true → alternative t r (token_in j) ≡ Some i → SkipAlike t (type_at t r i) j k → SkipAlike t r j k

  pub data SkipAlikeItems (t : Table) : ℕ → Items → Items → Type 0 where
    no_item : {r : ℕ} → SkipAlikeItems t r inil inil
    item : {r : ℕ} {j k : Json} {is js : Items} → SkipAlike t r j k → SkipAlikeItems t r is js → SkipAlikeItems t r (icons j is) (icons k js)

  -- the elements from the position i on
  pub data SkipAlikeElements (t : Table) : ℕ → ℕ → Items → Items → Type 0 where
    no_element : {r i : ℕ} → SkipAlikeElements t r i inil inil
    -- the element of the member i
    element : {r i : ℕ} {j k : Json} {is js : Items} → SkipAlike t (type_at t r i) j k → SkipAlikeElements t r (suc i) is js → SkipAlikeElements t r i (icons j is) (icons k js)
    -- surplus elements, which are skipped if extensible: they may be any, and any number
    surplus : {r i : ℕ} {is js : Items} → count_of t r ≤ i → extensible t r ≡ true → SkipAlikeElements t r i is js

  pub data SkipAlikeMembers (t : Table) : ℕ → Members → Members → Type 0 where
    no_member : {r : ℕ} → SkipAlikeMembers t r mnil mnil
    -- a member that the table knows: alike at its type
    known : {r p q i : ℕ} {s : List ℕ} {j k : Json} {ms ns : Members} → position t r s ≡ Some i → SkipAlike t (type_at t r i) j k → SkipAlikeMembers t r ms ns
        → SkipAlikeMembers t r (mcons p s j ms) (mcons q s k ns)
    -- one that it does not know is skipped if the type is an extensible sequence, and else refused by its name: its value may be any
    unknown : {r p q : ℕ} {s : List ℕ} {j k : Json} {ms ns : Members} → position t r s ≡ None → SkipAlikeMembers t r ms ns → SkipAlikeMembers t r (mcons p s j ms) (mcons q s k ns)
