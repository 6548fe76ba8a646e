-- The type table: its rows and fields by name.
use Rattle.std.specs.Prelude.{is_some}
use Rattle.jer.specs.declared.Token.{Token}
use Rattle.jer.specs.declared.Token.TheVariants as tok
use Rattle.jer.specs.declared.Carried.{Carried}
use Rattle.std.specs.Prelude.{ℕ, zero, suc, ◌+◌, ◌*◌, ◌/◌, ◌%◌, List, [], ◌∷◌, Bool, true, false, ◌&&◌, ◌||◌, eqb, leb, length, get_or, take, drop}
use Rattle.std.specs.Prelude.{Option, None, Some}
use Rattle.json_text.specs.Bytes.{on, pick}
use Rattle.jer.specs.declared.Layout.{Layout}
use Rattle.jer.specs.declared.Layout.TheVariants.{Bare, Holds, Lists, Names, Unknown}

-- 01, Type table: "Rows of eight 32-bit numbers, fields 0 to 7." The rows are one list of numbers; the names are bytes beside it.
pub record Table : Type 0 where
  pub rows : List ℕ
  pub names : List ℕ

-- the table whose rows and names are lent
abbrev pub table : List ℕ → List ℕ → Table
table rows names = record { rows = rows; names = names }

unfoldable pub row_count : Table → ℕ
row_count t = length t.rows / 8

unfoldable pub field : Table → ℕ → ℕ → ℕ
field t r i = get_or t.rows (r * 8 + i) 0

-- ---- kinds

-- 01, What the library handles: "Types: BOOLEAN, INTEGER, ENUMERATED, NULL, OCTET STRING, UTF8String, SEQUENCE, SEQUENCE OF, CHOICE"
-- 01, Type table: "Type kinds (field 0): 0 BOOLEAN, 1 INTEGER, 2 ENUMERATED, 3 NULL, 4 OCTET STRING, 5 UTF8String, 6 SEQUENCE,
-- 7 SEQUENCE OF, 8 CHOICE." "A member row has kind 9"
abbrev pub BOOLEAN : ℕ
BOOLEAN = 0

abbrev pub INTEGER : ℕ
INTEGER = 1

abbrev pub ENUMERATED : ℕ
ENUMERATED = 2

abbrev pub NULL : ℕ
NULL = 3

abbrev pub OCTET-STRING : ℕ
OCTET-STRING = 4

abbrev pub UTF8String : ℕ
UTF8String = 5

abbrev pub SEQUENCE : ℕ
SEQUENCE = 6

abbrev pub SEQUENCE-OF : ℕ
SEQUENCE-OF = 7

abbrev pub CHOICE : ℕ
CHOICE = 8

abbrev pub MEMBER : ℕ
MEMBER = 9

-- ---- marks

-- 01, What the library handles: "extension markers, ARRAY, BASE64, UNWRAPPED"
-- 01, Type table: "Field 1, sum of marks: 1 = BASE64 (4), ARRAY (6), UNWRAPPED (8); 2 = extensible (2, 6, 8)."
abbrev pub BASE64 : ℕ
BASE64 = 1

abbrev pub ARRAY : ℕ
ARRAY = 1

abbrev pub UNWRAPPED : ℕ
UNWRAPPED = 1

abbrev pub EXTENSIBLE : ℕ
EXTENSIBLE = 2

-- of a member
abbrev pub OPTIONAL : ℕ
OPTIONAL = 1

-- ---- tokens

unfoldable pub token_code : Token → ℕ
token_code tok.Null = 0
token_code tok.Boolean = 1
token_code tok.Number = 2
token_code tok.String = 3
token_code tok.Array = 4
token_code tok.Object = 5

-- 6 where there is none
unfoldable pub code_of : Option Token → ℕ
code_of None = 6
code_of (Some k) = token_code k

unfoldable pub same_token : Option Token → Option Token → Bool
same_token a b = eqb (code_of a) (code_of b)

unfoldable pub token_pick : Bool → Option Token → Option Token → Option Token
token_pick true a b = a
token_pick false a b = b

-- ---- what a row of each kind carries

abbrev pub carried : ℕ → Layout → Option Token → Option Token → Carried
carried m l a b = record { marks = m; layout = l; token = a; other = b }

-- a kind that has no line here is no kind
-- 01, Type table: "ARRAY sequences and SEQUENCE OF make arrays; other sequences and wrapped choices make objects."
unfoldable pub carries : ℕ → Carried
carries kind =
    pick kind
    (on BOOLEAN BOOLEAN (λ k. carried 0 Bare (Some tok.Boolean) (Some tok.Boolean))
    ∷ on INTEGER INTEGER (λ k. carried 0 Bare (Some tok.Number) (Some tok.Number))
    ∷ on ENUMERATED ENUMERATED (λ k. carried EXTENSIBLE (Holds 1) (Some tok.String) (Some tok.String))
    ∷ on NULL NULL (λ k. carried 0 Bare (Some tok.Null) (Some tok.Null))
    ∷ on OCTET-STRING OCTET-STRING (λ k. carried BASE64 Bare (Some tok.String) (Some tok.String))
    ∷ on UTF8String UTF8String (λ k. carried 0 Bare (Some tok.String) (Some tok.String))
    ∷ on SEQUENCE SEQUENCE (λ k. carried (ARRAY + EXTENSIBLE) (Holds 0) (Some tok.Object) (Some tok.Array))
    ∷ on SEQUENCE-OF SEQUENCE-OF (λ k. carried 0 Lists (Some tok.Array) (Some tok.Array))
    ∷ on CHOICE CHOICE (λ k. carried (UNWRAPPED + EXTENSIBLE) (Holds 1) (Some tok.Object) (Some tok.Object))
    ∷ on MEMBER MEMBER (λ k. carried OPTIONAL Names None None)
    ∷ [])
    (carried 0 Unknown None None)

-- the kinds of types
unfoldable pub type_kind : ℕ → Bool
type_kind kind = is_some (carries kind).token

-- the number in field 0, which a value's row repeats
unfoldable pub tag_of : Table → ℕ → ℕ
tag_of t r = field t r 0

-- the kind that a row of this number is read and written as: as yet itself
unfoldable pub form_of : ℕ → ℕ
form_of tag = tag

unfoldable pub kind_of : Table → ℕ → ℕ
kind_of t r = form_of (tag_of t r)

unfoldable pub is_type : Table → ℕ → Bool
is_type t r = type_kind (tag_of t r)

-- ---- marks of a row

unfoldable pub marks_of : Table → ℕ → ℕ
marks_of t r = field t r 1

unfoldable pub marked : Table → ℕ → ℕ → Bool
marked t r mark = eqb (marks_of t r / mark % 2) 1

unfoldable pub extensible : Table → ℕ → Bool
extensible t r = marked t r EXTENSIBLE

unfoldable pub is_base64 : Table → ℕ → Bool
is_base64 t r = eqb (kind_of t r) OCTET-STRING && marked t r BASE64

unfoldable pub is_array : Table → ℕ → Bool
is_array t r = eqb (kind_of t r) SEQUENCE && marked t r ARRAY

unfoldable pub is_unwrapped : Table → ℕ → Bool
is_unwrapped t r = eqb (kind_of t r) CHOICE && marked t r UNWRAPPED

-- ---- members

-- 01, Type table: "Field 2: first member row (2, 6, 8) or element type row (7)."
unfoldable pub first_of : Table → ℕ → ℕ
first_of t r = field t r 2

unfoldable pub element_of : Table → ℕ → ℕ
element_of t r = field t r 2

-- "Field 3: how many members, in consecutive rows"
unfoldable pub count_of : Table → ℕ → ℕ
count_of t r = field t r 3

-- "Field 4: how many of them are root"
unfoldable pub root_of : Table → ℕ → ℕ
root_of t r = field t r 4

-- the row of the member at the position i of the type at r
unfoldable pub member_row : Table → ℕ → ℕ → ℕ
member_row t r i = first_of t r + i

-- 01, What the library handles: "with OPTIONAL"
-- 01, Type table: "field 1 is 1 if OPTIONAL"
unfoldable pub optional : Table → ℕ → ℕ → Bool
optional t r i = eqb (field t (member_row t r i) 1) OPTIONAL

-- "field 2 its type row", in the member's row m
abbrev pub type_in : Table → ℕ → ℕ
type_in t m = field t m 2

unfoldable pub type_at : Table → ℕ → ℕ → ℕ
type_at t r i = type_in t (member_row t r i)

-- "fields 3 and 4 start and length of its name"; it is taken as it stands there:
-- 01, What the library handles: "Names in the table are final, NAME and TEXT already applied."
abbrev pub name_start : Table → ℕ → ℕ
name_start t m = field t m 3

abbrev pub name_length : Table → ℕ → ℕ
name_length t m = field t m 4

unfoldable pub name_in : Table → ℕ → List ℕ
name_in t m = take (name_length t m) (drop (name_start t m) t.names)

unfoldable pub name_at : Table → ℕ → ℕ → List ℕ
name_at t r i = name_in t (member_row t r i)

-- 01, Type table: "the rest are additions"
unfoldable pub addition : Table → ℕ → ℕ → Bool
addition t r i = leb (root_of t r) i

-- a member that may be left out of the text
unfoldable pub may_miss : Table → ℕ → ℕ → Bool
may_miss t r i = optional t r i || addition t r i

-- a member that may be absent in the value: as yet the same
-- 01, Value table: "an absent one, OPTIONAL or an addition"
unfoldable pub may_be_absent : Table → ℕ → ℕ → Bool
may_be_absent t r i = optional t r i || addition t r i

-- ---- searching the members of a type

-- the first position, of n from i on, that passes the test
unfoldable pub first_where : (ℕ → Bool) → ℕ → ℕ → Option ℕ
first_where f i zero = None
first_where f i (suc n) = elim (f i) [ true ↦ Some i | false ↦ first_where f (suc i) n ]

unfoldable pub same_bytes : List ℕ → List ℕ → Bool
same_bytes [] [] = true
same_bytes [] (b ∷ bs) = false
same_bytes (a ∷ xs) [] = false
same_bytes (a ∷ xs) (b ∷ bs) = elim (eqb a b) [ true ↦ same_bytes xs bs | false ↦ false ]

-- the position of a name
-- 01, Reading: "Names and strings are compared as the characters they denote"
unfoldable pub position : Table → ℕ → List ℕ → Option ℕ
position t r s = first_where (λ i. same_bytes (name_at t r i) s) 0 (count_of t r)

-- ---- the token of a type

-- the token that a value of the type at r begins with, if it is not UNWRAPPED; none of what is no type
unfoldable pub token_of : Table → ℕ → Option Token
token_of t r = token_pick (marked t r 1) (carries (kind_of t r)).other (carries (kind_of t r)).token

-- the alternative of an UNWRAPPED choice that a token picks
-- 01, Reading: "UNWRAPPED: the token's kind picks the alternative."
unfoldable pub alternative : Table → ℕ → Token → Option ℕ
alternative t r k = first_where (λ i. same_token (token_of t (type_at t r i)) (Some k)) 0 (count_of t r)

-- ---- null

-- 01, Type table: "can be null (NULL, or UNWRAPPED with a NULL alternative)"
unfoldable pub can_be_null : Table → ℕ → Bool
can_be_null t r = eqb (kind_of t r) NULL || (is_unwrapped t r && is_some (alternative t r tok.Null))

-- an extensible UNWRAPPED choice
unfoldable pub open_unwrapped : Table → ℕ → Bool
open_unwrapped t r = is_unwrapped t r && extensible t r

-- X.697 14.2 and 27.3.4: null cannot stand for absence where it is, or may become, a value
unfoldable pub null_taken : Table → ℕ → Bool
null_taken t r = can_be_null t r || open_unwrapped t r
