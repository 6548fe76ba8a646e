-- Typed reading: what a JSON tree means at a type row, a value or a refusal.
-- 01, Type table: "Types may be recursive." The recursion is on the tree: a member is handed on as its meaning, a function of the type row.
use Rattle.std.specs.Prelude.{is_some}
use Rattle.jer.specs.declared.Token.{Token}
use Rattle.jer.specs.declared.Token.TheVariants as tok
use Rattle.std.specs.Prelude.{ℕ, zero, suc, ◌-◌, ◌^◌, List, [], ◌∷◌, Bool, true, false, ◌&&◌, not, eqb, ltb, leb}
use Rattle.std.specs.Prelude.{Option, None, Some}
use Rattle.json_text.specs.Bytes.{on, pick}
use Rattle.json_text.specs.Tree.{Json, jnull, jbool, jint, jreal, jstr, jarr, jobj, Items, inil, icons, Members, mnil, mcons, place_of}
use Rattle.jer.specs.declared.Cause.TheVariants.{OtherKind, BadNumber, BadString, UnknownName, RepeatedName, Missing, Surplus, NotOne, Unknown}
use Rattle.jer.specs.Table.{Table, BOOLEAN, INTEGER, ENUMERATED, NULL, OCTET-STRING, UTF8String, SEQUENCE, SEQUENCE-OF, CHOICE, kind_of, extensible, is_base64, is_array, is_unwrapped, element_of, count_of, optional, type_at, name_at, may_miss, same_bytes, position, alternative, open_unwrapped, null_taken}
use Rattle.jer.specs.Value.{Val, v_bool, v_int, v_enum, v_null, v_bytes, v_seq, v_list, v_choice, Vals, vnil, vcons, Parts, pnil, absent, present}
use Rattle.jer.specs.Answer.{Res, ok, bind, at}
use Rattle.jer.specs.Octets.{unhex, unbase64}

-- the meaning of a tree: at each type row a result
abbrev pub Meaning : Type 0
Meaning = ℕ → Res Val

-- an element of an array, and a member of an object, as the typed reading meets them
pub record Element : Type 0 where
  pub place : ℕ
  pub is_null : Bool
  pub means : Meaning

pub record Entry : Type 0 where
  pub place : ℕ
  pub name : List ℕ
  pub is_null : Bool
  pub means : Meaning

-- ---- leaves

-- 01, Reading: "INTEGER: a number without fraction or exponent, from -2^63 to 2^63-1; -0 is 0."
-- The value has its 64-bit two's complement. 01, Refusal numbers, 6: "or outside the range | its place"
unfoldable pub read_int : ℕ → Bool → ℕ → Res Val
read_int p false n = elim (ltb n (2 ^ 63)) [ true ↦ ok (v_int n) | false ↦ at BadNumber p ]
read_int p true zero = ok (v_int 0)
read_int p true (suc n) = elim (leb (suc n) (2 ^ 63)) [ true ↦ ok (v_int (2 ^ 64 - suc n)) | false ↦ at BadNumber p ]

-- 01, Reading: "ENUMERATED: a string."
-- 01, Refusal numbers, 7: "or no such item and not extensible | the string"; 11: "item (..) unknown, extensible | the string"
unfoldable pub read_item : Table → ℕ → ℕ → Option ℕ → Res Val
read_item t r p None = elim (extensible t r) [ true ↦ at Unknown p | false ↦ at BadString p ]
read_item t r p (Some i) = ok (v_enum i)

-- 01, Refusal numbers, 7: "bad octets"
unfoldable pub read_octets : ℕ → Option (List ℕ) → Res Val
read_octets p None = at BadString p
read_octets p (Some os) = ok (v_bytes os)

unfoldable pub octets_of : Table → ℕ → List ℕ → Option (List ℕ)
octets_of t r s = elim (is_base64 t r) [ true ↦ unbase64 s | false ↦ unhex s ]

unfoldable pub read_string : Table → ℕ → List ℕ → Meaning
read_string t p s r =
    pick (kind_of t r)
    (on ENUMERATED ENUMERATED (λ k. read_item t r p (position t r s))
    ∷ on OCTET-STRING OCTET-STRING (λ k. read_octets p (octets_of t r s))
    ∷ on UTF8String UTF8String (λ k. ok (v_bytes s))
    ∷ [])
    (at OtherKind p)

-- the value where the row has the kind k, else 5 at the token
-- 01, Refusal numbers, 5: "token of another kind | its place"
unfoldable pub at_kind : Table → ℕ → ℕ → ℕ → Res Val → Res Val
at_kind t r k p v = elim (eqb (kind_of t r) k) [ true ↦ v | false ↦ at OtherKind p ]

-- ---- UNWRAPPED choices

-- The token has picked an alternative; with none, 11 at the token if extensible, else 5. 01, Refusal numbers, 11: "or alternative (..) token"
unfoldable pub picked : Table → ℕ → ℕ → Meaning → Option ℕ → Res Val
picked t r p plain None = elim (extensible t r) [ true ↦ at Unknown p | false ↦ at OtherKind p ]
picked t r p plain (Some i) = bind (plain (type_at t r i)) (λ v. ok (v_choice i v))

-- a token at p whose meaning at types that are not UNWRAPPED is plain
unfoldable pub unwrapping : Table → Token → ℕ → Meaning → Meaning
unwrapping t k p plain r = elim (is_unwrapped t r) [ true ↦ picked t r p plain (alternative t r k) | false ↦ plain r ]

-- ---- sequences as objects

unfoldable pub lookup : List ℕ → List Entry → Option Entry
lookup s [] = None
lookup s (e ∷ es) = elim (same_bytes e.name s) [ true ↦ Some e | false ↦ lookup s es ]

-- 01, Refusal numbers: "The typed reading of an object sequence: 5; names in text order, 8 or 9";
-- 8: "unknown name, not extensible | the name"; 9: "known name repeated | the second"
-- 01, Reading: "A member that the table does not know is skipped, value and all its nesting, if the sequence is extensible."
unfoldable pub names_good : Table → ℕ → List Entry → List Entry → Res (List Entry)
names_good t r met [] = ok met
names_good t r met (e ∷ es) =
    elim (position t r e.name) [
      | None ↦ elim (extensible t r) [ true ↦ names_good t r met es | false ↦ at UnknownName e.place ]
      | Some i ↦ elim (is_some (lookup e.name met)) [ true ↦ at RepeatedName e.place | false ↦ names_good t r (e ∷ met) es ]
    ]

-- 01, Reading: "Null means absent where the member is OPTIONAL and its type neither can be null nor is an extensible UNWRAPPED
-- choice (27.3.4)."
unfoldable pub null_absent : Table → ℕ → ℕ → Bool
null_absent t r i = optional t r i && not (null_taken t (type_at t r i))

unfoldable pub with_absent : Res Parts → Res Parts
with_absent rest = bind rest (λ ps. ok (absent ps))

unfoldable pub with_present : Res Val → Res Parts → Res Parts
with_present v rest = bind v (λ w. bind rest (λ ps. ok (present w ps)))

-- the member i of the object at o, and the members after it
-- 01, Reading: "An addition may be absent, whichever others are present; if not OPTIONAL, its null is read as a value."
-- 01, Refusal numbers, 10: "member missing (..) | opening bracket"
unfoldable pub read_member : Table → ℕ → ℕ → ℕ → Option Entry → Res Parts → Res Parts
read_member t r o i None rest = elim (may_miss t r i) [ true ↦ with_absent rest | false ↦ at (Missing i) o ]
read_member t r o i (Some e) rest =
    elim (e.is_null && null_absent t r i) [ true ↦ with_absent rest | false ↦ with_present (e.means (type_at t r i)) rest ]

-- 01, Reading: "Object: members in any order." 01, Refusal numbers: "then members in table order, missing or read"; n members from i on
unfoldable pub read_members : Table → ℕ → ℕ → List Entry → ℕ → ℕ → Res Parts
read_members t r o es i zero = ok pnil
read_members t r o es i (suc n) = read_member t r o i (lookup (name_at t r i) es) (read_members t r o es (suc i) n)

unfoldable pub read_object : Table → ℕ → List Entry → Meaning
read_object t o es r = bind (names_good t r [] es) (λ met. bind (read_members t r o met 0 (count_of t r)) (λ ps. ok (v_seq ps)))

-- ---- sequences as arrays

-- the null value of a type: "the null value where the type can be null"
unfoldable pub null_value : Table → ℕ → Option Val
null_value t r =
    elim (is_unwrapped t r) [
      | true ↦ elim (alternative t r tok.Null) [ None ↦ None | Some i ↦ Some (v_choice i v_null) ]
      | false ↦ elim (eqb (kind_of t r) NULL) [ true ↦ Some v_null | false ↦ None ]
    ]

-- a member of the array at o that has no element, and may not be absent
-- 01, Reading: "11 where it is an extensible UNWRAPPED choice without NULL, else 10."
-- 01, Refusal numbers, 11: "the array's bracket for a missing element"
unfoldable pub missing_element : Table → ℕ → ℕ → ℕ → Res Val
missing_element t r o i =
    elim (null_value t (type_at t r i)) [
      | Some v ↦ ok v
      | None ↦ elim (open_unwrapped t (type_at t r i)) [ true ↦ at Unknown o | false ↦ at (Missing i) o ]
    ]

-- the member i of the array at o: its element, if there is one
-- 01, Reading: "Null is absent for an OPTIONAL member or an addition. An element missing at the end counts as null (27.2.2): absent for
-- those"
unfoldable pub read_element : Table → ℕ → ℕ → ℕ → Option Element → Res Parts → Res Parts
read_element t r o i None rest = elim (may_miss t r i) [ true ↦ with_absent rest | false ↦ with_present (missing_element t r o i) rest ]
read_element t r o i (Some e) rest = elim (e.is_null && may_miss t r i) [ true ↦ with_absent rest | false ↦ with_present (e.means (type_at t r i)) rest ]

-- "Surplus elements are skipped if extensible."; 01, Refusal numbers, 10: "surplus element (..) the element"
unfoldable pub surplus : Table → ℕ → List Element → Res Parts
surplus t r [] = ok pnil
surplus t r (e ∷ es) = elim (extensible t r) [ true ↦ ok pnil | false ↦ at Surplus e.place ]

-- 01, Reading: "ARRAY: elements in member order."
-- 01, Refusal numbers: "An ARRAY: 5; elements in member order, read or missing; then the first surplus one."
unfoldable pub read_elements : Table → ℕ → ℕ → List Element → ℕ → ℕ → Res Parts
read_elements t r o es i zero = surplus t r es
read_elements t r o [] i (suc n) = read_element t r o i None (read_elements t r o [] (suc i) n)
read_elements t r o (e ∷ es) i (suc n) = read_element t r o i (Some e) (read_elements t r o es (suc i) n)

-- ---- lists and wrapped choices

unfoldable pub read_items : List Element → ℕ → Res Vals
read_items [] r = ok vnil
read_items (e ∷ es) r = bind (e.means r) (λ v. bind (read_items es r) (λ vs. ok (vcons v vs)))

-- an array at o
unfoldable pub read_array : Table → ℕ → List Element → Meaning
read_array t o es r =
    elim (eqb (kind_of t r) SEQUENCE-OF) [
      | true ↦ bind (read_items es (element_of t r)) (λ vs. ok (v_list vs))
      | false ↦ elim (is_array t r) [
        | true ↦ bind (read_elements t r o es 0 (count_of t r)) (λ ps. ok (v_seq ps))
        | false ↦ at OtherKind o
      ]
    ]

-- 01, Refusal numbers: "A wrapped choice: 5, 10, name (8 or 11), value."; 11: "or choice's bracket"
unfoldable pub read_chosen : Table → ℕ → ℕ → Entry → Option ℕ → Res Val
read_chosen t r o e None = elim (extensible t r) [ true ↦ at Unknown o | false ↦ at UnknownName e.place ]
read_chosen t r o e (Some i) = bind (e.means (type_at t r i)) (λ v. ok (v_choice i v))

-- 01, Reading: "Wrapped CHOICE: an object of exactly one member."
-- 01, Refusal numbers, 10: "choice object without exactly one member (..) the element; opening bracket"
unfoldable pub read_choice : Table → ℕ → ℕ → List Entry → Res Val
read_choice t r o [] = at NotOne o
read_choice t r o (e ∷ []) = read_chosen t r o e (position t r e.name)
read_choice t r o (e ∷ f ∷ es) = at NotOne o

-- an object at o
unfoldable pub read_braces : Table → ℕ → List Entry → Meaning
read_braces t o es r =
    elim (eqb (kind_of t r) CHOICE) [
      | true ↦ read_choice t r o es
      | false ↦ elim (eqb (kind_of t r) SEQUENCE && not (is_array t r)) [ true ↦ read_object t o es r | false ↦ at OtherKind o ]
    ]

-- ---- a tree

unfoldable pub null? : Json → Bool
null? (jnull p) = true
null? (jbool p b) = false
null? (jint p m n) = false
null? (jreal p) = false
null? (jstr p s) = false
null? (jarr p is) = false
null? (jobj p ms) = false

-- 01, Reading: "A value may hold a sequence whose members again hold values, so these rules call one another; the depth of brackets
-- bounds them." 01, Refusal numbers, 6: "number with fraction or exponent"
unfoldable mutual
  pub read : Json → Table → Meaning
  read (jnull p) t r = unwrapping t tok.Null p (λ q. at_kind t q NULL p (ok v_null)) r
  read (jbool p b) t r = unwrapping t tok.Boolean p (λ q. at_kind t q BOOLEAN p (ok (v_bool b))) r
  read (jint p m n) t r = unwrapping t tok.Number p (λ q. at_kind t q INTEGER p (read_int p m n)) r
  read (jreal p) t r = unwrapping t tok.Number p (λ q. at_kind t q INTEGER p (at BadNumber p)) r
  read (jstr p s) t r = unwrapping t tok.String p (λ q. read_string t p s q) r
  read (jarr p is) t r = unwrapping t tok.Array p (λ q. read_array t p (elements is t) q) r
  read (jobj p ms) t r = unwrapping t tok.Object p (λ q. read_braces t p (entries ms t) q) r

  pub elements : Items → Table → List Element
  elements inil t = []
  elements (icons j is) t = record { place = place_of j; is_null = null? j; means = λ r. read j t r } ∷ elements is t

  pub entries : Members → Table → List Entry
  entries mnil t = []
  entries (mcons p s j ms) t = record { place = p; name = s; is_null = null? j; means = λ r. read j t r } ∷ entries ms t

-- the typed reading of a whole tree
-- 01, Type table: "Row 0 is the whole message's type."
unfoldable pub read_whole : Table → Json → Res Val
read_whole t j = read j t 0
