-- The options of a sender: trees that say the same at a type.
-- Demand 2: "A text is read as the value that X.697 gives it, whatever options its sender chose"
-- Where one of two respelled texts is read, the other is read as the same value (`respelled-texts`), and no other text is (`only-respelled-texts`).
-- Where both are refused the numbers may differ: at an ARRAY of two INTEGERs, [1] is 10 for the missing element and [1,null] is 5 at the null.
use Rattle.std.specs.Prelude.{ℕ, suc, ◌≤◌, ◌<◌, ◌≡◌, List, Bool, true, false}
use Rattle.std.specs.Prelude.{Option, None, Some}
use Rattle.json_text.specs.Tree.{Json, jnull, jint, jstr, jarr, jobj, Items, inil, icons, Members, mnil, mcons}
use Rattle.jer.specs.Table.{Table, OCTET-STRING, SEQUENCE, SEQUENCE-OF, CHOICE, kind_of, extensible, is_array, is_unwrapped, element_of, count_of, type_at, name_at, same_bytes, position, alternative}
use Rattle.jer.specs.Read.{octets_of, null_absent}
use Rattle.jer.specs.Moved.{Moved, token_in}

-- the value that an object has under a name
unfoldable pub held : Members → List ℕ → Option Json
held mnil s = None
held (mcons p u j ms) s = elim (same_bytes u s) [ true ↦ Some j | false ↦ held ms s ]

-- The names that an object may have at the sequence at r: known ones once, unknown ones if it is extensible.
pub data NamesTaken (t : Table) (r : ℕ) : Members → Type 0 where
  no_name : NamesTaken t r mnil
  -- a known name, which is not held again
  known : {p i : ℕ} {s : List ℕ} {j : Json} {ms : Members} → position t r s ≡ Some i → held ms s ≡ None → NamesTaken t r ms → NamesTaken t r (mcons p s j ms)
  -- an unknown one, which is skipped with its value if the sequence is extensible
  unknown : {p : ℕ} {s : List ℕ} {j : Json} {ms : Members} → position t r s ≡ None → extensible t r ≡ true → NamesTaken t r ms → NamesTaken t r (mcons p s j ms)

-- The trees j and k say the same at the row r, spelled with other options.
mutual
  pub data Respelled (t : Table) : ℕ → Json → Json → Type 0 where
    -- other white space, other escapes: equal but for places
    moved : {r : ℕ} {j k : Json} → Moved j k → Respelled t r j k
    -- -0 is 0
    minus_zero : {r p q : ℕ} {m n : Bool} → Respelled t r (jint p m 0) (jint q n 0)
    -- hexadecimal of either letter case: strings that spell the same octets
    letter_case : {r p q : ℕ} {s u : List ℕ} → kind_of t r ≡ OCTET-STRING → octets_of t r s ≡ octets_of t r u → Respelled t r (jstr p s) (jstr q u)
    -- a SEQUENCE OF: item by item
    items : {r p q : ℕ} {is js : Items} → kind_of t r ≡ SEQUENCE-OF → RespelledItems t (element_of t r) is js → Respelled t r (jarr p is) (jarr q js)
    -- an ARRAY sequence: element by element
    elements : {r p q : ℕ} {is js : Items} → is_array t r ≡ true → RespelledElements t r 0 is js → Respelled t r (jarr p is) (jarr q js)
    -- another sequence, members in any order: what the two objects hold for each member of the type
    members : {r p q : ℕ} {ms ns : Members} → kind_of t r ≡ SEQUENCE → is_array t r ≡ false → NamesTaken t r ms → NamesTaken t r ns → RespelledMembers t r 0 ms ns
        → Respelled t r (jobj p ms) (jobj q ns)
    -- a wrapped choice: the same alternative
    chosen : {r p q a b i : ℕ} {s : List ℕ} {j k : Json} → kind_of t r ≡ CHOICE → is_unwrapped t r ≡ false → position t r s ≡ Some i → Respelled t (type_at t r i) j k
        → Respelled t r (jobj p (mcons a s j mnil)) (jobj q (mcons b s k mnil))
    -- an UNWRAPPED choice: at the alternative that the token picks
    picked : {r i : ℕ} {j k : Json} → is_unwrapped t r ≡ true → alternative t r (token_in j) ≡ Some i → Respelled t (type_at t r i) j k → Respelled t r j k

  pub data RespelledItems (t : Table) : ℕ → Items → Items → Type 0 where
    no_item : {r : ℕ} → RespelledItems t r inil inil
    item : {r : ℕ} {j k : Json} {is js : Items} → Respelled t r j k → RespelledItems t r is js → RespelledItems t r (icons j is) (icons k js)

  -- the elements from the position i on
  pub data RespelledElements (t : Table) : ℕ → ℕ → Items → Items → Type 0 where
    no_element : {r i : ℕ} → RespelledElements t r i inil inil
    -- the element of the member i
    element : {r i : ℕ} {j k : Json} {is js : Items} → Respelled t (type_at t r i) j k → RespelledElements t r (suc i) is js → RespelledElements t r i (icons j is) (icons k js)
    -- an element missing at the end counts as null: a null at the end is dropped, or put there
    null_dropped : {r i p : ℕ} {is : Items} → i < count_of t r → RespelledElements t r (suc i) is inil → RespelledElements t r i (icons (jnull p) is) inil
    null_added : {r i q : ℕ} {js : Items} → i < count_of t r → RespelledElements t r (suc i) inil js → RespelledElements t r i inil (icons (jnull q) js)
    -- surplus elements are skipped if extensible
    surplus : {r i : ℕ} {is js : Items} → count_of t r ≤ i → extensible t r ≡ true → RespelledElements t r i is js

  -- the members of the type from the position i on
  pub data RespelledMembers (t : Table) : ℕ → ℕ → Members → Members → Type 0 where
    no_member : {r i : ℕ} {ms ns : Members} → count_of t r ≤ i → RespelledMembers t r i ms ns
    member : {r i : ℕ} {ms ns : Members} → RespelledMember t r i (held ms (name_at t r i)) (held ns (name_at t r i)) → RespelledMembers t r (suc i) ms ns → RespelledMembers t r i ms ns

  -- what the two objects hold for the member i
  pub data RespelledMember (t : Table) : ℕ → ℕ → Option Json → Option Json → Type 0 where
    -- both hold the same, or neither holds anything
    present : {r i : ℕ} {j k : Json} → Respelled t (type_at t r i) j k → RespelledMember t r i (Some j) (Some k)
    absent : {r i : ℕ} → RespelledMember t r i None None
    -- null means absent here: one holds null, the other nothing
    null_left : {r i p : ℕ} → null_absent t r i ≡ true → RespelledMember t r i (Some (jnull p)) None
    null_right : {r i q : ℕ} → null_absent t r i ≡ true → RespelledMember t r i None (Some (jnull q))
