-- A text in which a value is skipped, and what it is with another value in its place.
-- 01's promise on the values of skipped members, on the bytes themselves.
use Rattle.std.specs.Prelude.{ℕ, suc, ◌≤◌, ◌≡◌, List, ◌++◌, true, false, length}
use Rattle.std.specs.Prelude.{None, Some}
use Rattle.json_text.specs.Tree.{Json, jarr, jobj, Items, icons, Members, mcons, place_of}
use Rattle.json_text.specs.Grammar.{Value, Text}
use Rattle.jer.specs.Table.{Table, SEQUENCE-OF, kind_of, extensible, is_array, is_unwrapped, element_of, count_of, type_at, position, alternative}
use Rattle.jer.specs.Calls.{read_text}
use Rattle.jer.specs.Moved.{token_in}
use Rattle.jer.specs.Skipped.{SameAnswer}

-- In the tree j, read at the row r, the value i is skipped: it stands somewhere inside an item, an element or a member that is read.
mutual
  pub data Skips (t : Table) (i : Json) : ℕ → Json → Type 0 where
    -- inside an item of a SEQUENCE OF
    in_items : {r p : ℕ} {is : Items} → kind_of t r ≡ SEQUENCE-OF → SkipsItems t i (element_of t r) is → Skips t i r (jarr p is)
    -- inside an element of an ARRAY sequence, or a surplus one
    in_elements : {r p : ℕ} {is : Items} → is_array t r ≡ true → SkipsElements t i r 0 is → Skips t i r (jarr p is)
    -- inside a member of another sequence or of a wrapped choice, or one that the table does not know
    in_members : {r p : ℕ} {ms : Members} → is_unwrapped t r ≡ false → SkipsMembers t i r ms → Skips t i r (jobj p ms)
    -- inside the alternative that the token picks of an UNWRAPPED choice
    in_picked : {r n : ℕ} {j : Json} → is_unwrapped t r ≡ true → alternative t r (token_in j) ≡ Some n → Skips t i (type_at t r n) j → Skips t i r j

  pub data SkipsItems (t : Table) (i : Json) : ℕ → Items → Type 0 where
    in_item : {r : ℕ} {j : Json} {is : Items} → Skips t i r j → SkipsItems t i r (icons j is)
    later_item : {r : ℕ} {j : Json} {is : Items} → SkipsItems t i r is → SkipsItems t i r (icons j is)

  -- in the elements from the position n on
  pub data SkipsElements (t : Table) (i : Json) : ℕ → ℕ → Items → Type 0 where
    in_element : {r n : ℕ} {j : Json} {is : Items} → Skips t i (type_at t r n) j → SkipsElements t i r n (icons j is)
    later_element : {r n : ℕ} {j : Json} {is : Items} → SkipsElements t i r (suc n) is → SkipsElements t i r n (icons j is)
    -- a surplus element is skipped if extensible
    surplus_element : {r n : ℕ} {j : Json} {is : Items} → count_of t r ≤ n → extensible t r ≡ true → j ≡ i → SkipsElements t i r n (icons j is)

  pub data SkipsMembers (t : Table) (i : Json) : ℕ → Members → Type 0 where
    in_member : {r p n : ℕ} {s : List ℕ} {j : Json} {ms : Members} → position t r s ≡ Some n → Skips t i (type_at t r n) j → SkipsMembers t i r (mcons p s j ms)
    later_member : {r p : ℕ} {s : List ℕ} {j : Json} {ms : Members} → SkipsMembers t i r ms → SkipsMembers t i r (mcons p s j ms)
    -- a member that the table does not know is skipped if the sequence is extensible
    unknown_member : {r p : ℕ} {s : List ℕ} {j : Json} {ms : Members} → position t r s ≡ None → extensible t r ≡ true → j ≡ i → SkipsMembers t i r (mcons p s j ms)

-- The bytes of the value i in the text s can be replaced: with any other value in their place the text gets the same answer, if it still is
-- JSON within the sizes.
pub record Replaceable (t : Table) (s : List ℕ) (i : Json) : Type 0 where
  pub before : List ℕ
  pub spelled : List ℕ
  pub after : List ℕ
  pub whole : s ≡ before ++ (spelled ++ after)
  -- what is spelled there is i, with so many brackets open at one time
  pub place : place_of i ≡ length before
  pub brackets : ℕ
  pub value : Value brackets (length before) i spelled
  pub instead : {d : ℕ} {j k : Json} (other : List ℕ) → Value d (length before) j other → Text 32 k (before ++ (other ++ after)) → length (before ++ (other ++ after)) ≤ 65536
      → SameAnswer (read_text t s) (read_text t (before ++ (other ++ after)))
