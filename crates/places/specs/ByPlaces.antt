-- Typed reading by places of the text, in the shape of the code: open recursion, one knot on the brackets that may be open.
-- `proofs/` shows that on a JSON text it is the meaning of the text's tree (`read` of crate jer); public contracts cite that meaning alone.
use Rattle.jer.specs.declared.Token.{Token}
use Rattle.jer.specs.declared.Token.TheVariants as tok
use Rattle.std.specs.Prelude.{ℕ, zero, suc, ◌+◌, ◌/◌, ◌%◌, ◌^◌, List, [], ◌∷◌, Bool, true, false, ◌&&◌, not, eqb, ltb, length, get_or, set, replicate}
use Rattle.std.specs.Prelude.{Option, None, Some, Result, Ok, Err}
use Rattle.std.specs.Int.Bits.{bit_or}
use Rattle.json_text.specs.Bytes.{on, pick}
use Rattle.jer.specs.declared.Cause.TheVariants.{TooDeep, OtherKind, BadNumber, UnknownName, RepeatedName, Missing, Surplus, NotOne, Unknown}
use Rattle.jer.specs.declared.Limit.TheVariants.{LentRoom}
use Rattle.jer.specs.declared.Refusal.{Refusal}
use Rattle.jer.specs.declared.Refusal.TheVariants.{AtByte, Amounts}
use Rattle.jer.specs.Table.{Table, BOOLEAN, INTEGER, NULL, SEQUENCE, SEQUENCE-OF, CHOICE, kind_of, extensible, is_array, is_unwrapped, element_of, count_of, type_at, may_miss, position, alternative}
use Rattle.jer.specs.Value.{Val, v_bool, v_int, v_null, v_seq, v_list, v_choice, Vals, vnil, vcons, Parts, pnil, absent, present}
use Rattle.jer.specs.Answer.{Res, ok, no, bind, at}
use Rattle.jer.specs.Read.{read_string, at_kind, null_absent, missing_element}
use Rattle.jer.specs.Rows.{rows_of, pool_of}
use Rattle.tokens.specs.Places.{byte_at, past_space}
use Rattle.tokens.specs.Strings.{denoted, string_end}
use Rattle.tokens.specs.Skip.{past_word, past_value, parts_past}
use Rattle.tokens.specs.Numbers.{integer_at}
pub use Rattle.places.specs.declared.Follows.{Follows}
pub use Rattle.places.specs.declared.Follows.TheVariants.{Part, Shut}
pub use Rattle.places.specs.declared.Scanned.{Scanned}
pub use Rattle.places.specs.declared.Stopped.{Stopped}
pub use Rattle.places.specs.declared.Member.{Member}
use Rattle.places.specs.declared.Member.TheVariants as member
pub use Rattle.places.specs.declared.Element.{Element}
use Rattle.places.specs.declared.Element.TheVariants as element

-- what was read, and the place after it
pub record Got (A : Type 0) : Type 0 where
  pub value : A
  pub next : ℕ

abbrev pub got : {A : Type 0} → A → ℕ → Got A
got a q = record { value = a; next = q }

-- a result that ends at q
unfoldable pub ending : {A : Type 0} → ℕ → Res A → Res (Got A)
ending q x = bind x (λ a. ok (got a q))

-- how a value of the type at a row is read from a place
abbrev pub Reader : Type 0
Reader = ℕ → ℕ → Res (Got Val)

-- ---- leaves

-- the token that begins with a byte
unfoldable pub token_at : List ℕ → ℕ → Token
token_at s p =
    pick (byte_at s p)
    (on 0x22 0x22 (λ b. tok.String)
    ∷ on 0x5B 0x5B (λ b. tok.Array)
    ∷ on 0x66 0x66 (λ b. tok.Boolean)
    ∷ on 0x6E 0x6E (λ b. tok.Null)
    ∷ on 0x74 0x74 (λ b. tok.Boolean)
    ∷ on 0x7B 0x7B (λ b. tok.Object)
    ∷ [])
    tok.Number

unfoldable pub is_null_at : List ℕ → ℕ → Bool
is_null_at s p = eqb (byte_at s p) 0x6E

unfoldable pub integer_read : ℕ → Option ℕ → Res Val
integer_read p None = at BadNumber p
integer_read p (Some n) = ok (v_int n)

-- a leaf at p, by its token; the type at r is not UNWRAPPED
unfoldable pub leaf_at : Table → List ℕ → Token → Reader
leaf_at t s tok.Null r p = ending (past_word s p) (at_kind t r NULL p (ok v_null))
leaf_at t s tok.Boolean r p = ending (past_word s p) (at_kind t r BOOLEAN p (ok (v_bool (eqb (byte_at s p) 0x74))))
leaf_at t s tok.Number r p = ending (past_word s p) (at_kind t r INTEGER p (integer_read p (integer_at s p)))
leaf_at t s tok.String r p = ending (string_end s (p + 1)) (read_string t p (denoted s (p + 1)) r)
leaf_at t s tok.Array r p = at OtherKind p
leaf_at t s tok.Object r p = at OtherKind p

-- ---- what follows a part of a bracket

unfoldable pub follows_at : Follows → ℕ
follows_at (Part q) = q
follows_at (Shut q) = q

-- after a part that ends at q: white space, then a comma and the next part, or the closing bracket
unfoldable pub after_part : List ℕ → ℕ → Follows
after_part s q = elim (eqb (byte_at s (past_space s q)) 0x2C) [ true ↦ Part (past_space s (past_space s q + 1)) | false ↦ Shut (past_space s q + 1) ]

-- after the opening bracket at p, which the byte c closes
unfoldable pub first_part : List ℕ → ℕ → ℕ → Follows
first_part s c p = elim (eqb (byte_at s (past_space s (p + 1))) c) [ true ↦ Shut (past_space s (p + 1) + 1) | false ↦ Part (past_space s (p + 1)) ]

-- ---- lists

unfoldable pub with_item : Val → Res (Got Vals) → Res (Got Vals)
with_item v rest = bind rest (λ g. ok (got (vcons v g.value) g.next))

-- the items from here on, at most n of them
unfoldable pub items_at : (ℕ → Res (Got Val)) → List ℕ → ℕ → Follows → Res (Got Vals)
items_at value s zero f = ok (got vnil (follows_at f))
items_at value s (suc n) (Shut q) = ok (got vnil q)
items_at value s (suc n) (Part q) = bind (value q) (λ g. with_item g.value (items_at value s n (after_part s g.next)))

unfoldable pub list_at : Reader → Table → List ℕ → Reader
list_at value t s r p = bind (items_at (λ q. value (element_of t r) q) s (length s) (first_part s 0x5D p)) (λ g. ok (got (v_list g.value) g.next))

-- ---- sequences as arrays

unfoldable pub got_absent : Res (Got Parts) → Res (Got Parts)
got_absent rest = bind rest (λ g. ok (got (absent g.value) g.next))

unfoldable pub got_present : Val → Res (Got Parts) → Res (Got Parts)
got_present v rest = bind rest (λ g. ok (got (present v g.value) g.next))

-- the place after the bracket, in which d more may be open, from what follows its last member
unfoldable pub surplus_at : ℕ → Table → List ℕ → ℕ → Follows → Result ℕ Refusal
surplus_at d t s r (Shut q) = Ok q
surplus_at d t s r (Part q) = elim (extensible t r) [ true ↦ Ok (parts_past (λ p. past_value d s p) s (length s) q) | false ↦ Err (AtByte Surplus q) ]

-- no member is left
unfoldable pub no_more : Result ℕ Refusal → Res (Got Parts)
no_more (Ok q) = ok (got pnil q)
no_more (Err e) = no e

-- the member i: absent, with what follows it; missing, at the array's end; or at a place
unfoldable pub element_found : Table → List ℕ → ℕ → ℕ → Follows → Element
element_found t s r i (Shut q) = elim (may_miss t r i) [ true ↦ element.Absent (Shut q) | false ↦ element.Missing q ]
element_found t s r i (Part q) = elim (is_null_at s q && may_miss t r i) [ true ↦ element.Absent (after_part s (past_word s q)) | false ↦ element.There q ]

-- the member i of the array at o as it was found, then the rest
unfoldable pub element_then : Reader → Table → List ℕ → ℕ → ℕ → ℕ → (Follows → Res (Got Parts)) → Element → Res (Got Parts)
element_then value t s r o i rest (element.Absent f) = got_absent (rest f)
element_then value t s r o i rest (element.Missing q) = bind (missing_element t r o i) (λ v. got_present v (rest (Shut q)))
element_then value t s r o i rest (element.There q) = bind (value (type_at t r i) q) (λ g. got_present g.value (rest (after_part s g.next)))

-- n members from i on of the array at o
unfoldable pub elements_at : Reader → ℕ → Table → List ℕ → ℕ → ℕ → ℕ → ℕ → Follows → Res (Got Parts)
elements_at value d t s r o i zero f = no_more (surplus_at d t s r f)
elements_at value d t s r o i (suc n) f = element_then value t s r o i (λ h. elements_at value d t s r o (suc i) n h) (element_found t s r i f)

unfoldable pub array_at : Reader → ℕ → Table → List ℕ → Reader
array_at value d t s r p = bind (elements_at value d t s r p 0 (count_of t r) (first_part s 0x5D p)) (λ g. ok (got (v_seq g.value) g.next))

-- ---- sequences as objects

-- 01, Reading: "One 64-bit number records which members were met"
abbrev pub bit_of : ℕ → ℕ → Bool
bit_of x k = eqb (x / 2 ^ k % 2) 1

abbrev pub with_bit : ℕ → ℕ → ℕ
with_bit x k = bit_or x (2 ^ k)

-- the value of the member whose name stands at q: past the name, its colon and white space
unfoldable pub value_place : List ℕ → ℕ → ℕ
value_place s q = past_space s (past_space s (string_end s (q + 1)) + 1)

-- the place after the names, the members met, and where their values stand
abbrev pub scanned : ℕ → ℕ → List ℕ → Scanned
scanned next met places = record { next = next; met = met; places = places }

-- why a name is refused, the members met before it, and where their values stand
abbrev pub stopped : Refusal → ℕ → List ℕ → Stopped
stopped why met places = record { why = why; met = met; places = places }

-- the names from here on in text order, at most n of them
unfoldable pub scan_at : ℕ → Table → List ℕ → ℕ → ℕ → Follows → ℕ → List ℕ → Result Scanned Stopped
scan_at d t s r zero f met places = Ok (scanned (follows_at f) met places)
scan_at d t s r (suc n) (Shut q) met places = Ok (scanned q met places)
scan_at d t s r (suc n) (Part q) met places =
    elim (position t r (denoted s (q + 1))) [
      | None ↦ elim (extensible t r) [
        | true ↦ scan_at d t s r n (after_part s (past_value d s (value_place s q))) met places
        | false ↦ Err (stopped (AtByte UnknownName q) met places)
      ]
      | Some i ↦ elim (bit_of met i) [
        | true ↦ Err (stopped (AtByte RepeatedName q) met places)
        | false ↦ scan_at d t s r n (after_part s (past_value d s (value_place s q))) (with_bit met i) (set places i (value_place s q))
      ]
    ]

-- the member i, given whether it was met and where its value stands
unfoldable pub member_found : Table → List ℕ → ℕ → ℕ → Bool → ℕ → Member
member_found t s r i false q = elim (may_miss t r i) [ true ↦ member.Absent | false ↦ member.Missing ]
member_found t s r i true q = elim (is_null_at s q && null_absent t r i) [ true ↦ member.Absent | false ↦ member.There q ]

-- the member i of the object at o as it was found, then the rest
unfoldable pub member_then : Reader → Table → ℕ → ℕ → ℕ → Res Parts → Member → Res Parts
member_then value t r o i rest member.Absent = bind rest (λ ps. ok (absent ps))
member_then value t r o i rest member.Missing = at (Missing i) o
member_then value t r o i rest (member.There q) = bind (value (type_at t r i) q) (λ g. bind rest (λ ps. ok (present g.value ps)))

-- n members from i on of the object at o
unfoldable pub members_at : Reader → Table → List ℕ → ℕ → ℕ → ℕ → List ℕ → ℕ → ℕ → Res Parts
members_at value t s r o met places i zero = ok pnil
members_at value t s r o met places i (suc n) = member_then value t r o i (members_at value t s r o met places (suc i) n) (member_found t s r i (bit_of met i) (get_or places i 0))

unfoldable pub no_places : List ℕ
no_places = replicate 64 0

unfoldable pub after_scan : Reader → Table → List ℕ → ℕ → ℕ → Result Scanned Stopped → Res (Got Val)
after_scan value t s r o (Err x) = no x.why
after_scan value t s r o (Ok x) = ending x.next (bind (members_at value t s r o x.met x.places 0 (count_of t r)) (λ ps. ok (v_seq ps)))

unfoldable pub object_at : Reader → ℕ → Table → List ℕ → Reader
object_at value d t s r p = after_scan value t s r p (scan_at d t s r (length s) (first_part s 0x7D p) 0 no_places)

-- ---- wrapped choices

unfoldable pub chosen_at : Reader → Table → List ℕ → ℕ → ℕ → ℕ → Option ℕ → Res (Got Val)
chosen_at value t s r p q None = elim (extensible t r) [ true ↦ at Unknown p | false ↦ at UnknownName q ]
chosen_at value t s r p q (Some i) = bind (value (type_at t r i) (value_place s q)) (λ g. ok (got (v_choice i g.value) (past_space s g.next + 1)))

-- the name of the one member, in whose value d brackets may be open
unfoldable pub one_at : ℕ → List ℕ → Follows → Option ℕ
one_at d s (Shut q) = None
one_at d s (Part q) = elim (eqb (byte_at s (past_space s (past_value d s (value_place s q)))) 0x2C) [ true ↦ None | false ↦ Some q ]

-- the one member
unfoldable pub member_at : Reader → Table → List ℕ → ℕ → ℕ → Option ℕ → Res (Got Val)
member_at value t s r p None = at NotOne p
member_at value t s r p (Some q) = chosen_at value t s r p q (position t r (denoted s (q + 1)))

unfoldable pub choice_at : Reader → ℕ → Table → List ℕ → Reader
choice_at value d t s r p = member_at value t s r p (one_at d s (first_part s 0x7D p))

-- ---- values

-- rows and pool bytes of a value are counted in 32 bits; on a JSON text no count comes near
unfoldable pub within : Table → ℕ → Got Val → Res (Got Val)
within t r g =
    elim (ltb (length (rows_of g.value t r 0)) (2 ^ 32) && ltb (length (pool_of g.value)) (2 ^ 32)) [
      | true ↦ ok g
      | false ↦ no (Amounts LentRoom (2 ^ 32) (2 ^ 32))
    ]

-- a value in a bracket, given how its parts are read, in which d brackets may be open; its type is not UNWRAPPED
unfoldable pub bracket_at : Reader → ℕ → Table → List ℕ → Token → Reader
bracket_at value d t s tok.Null r p = leaf_at t s tok.Null r p
bracket_at value d t s tok.Boolean r p = leaf_at t s tok.Boolean r p
bracket_at value d t s tok.Number r p = leaf_at t s tok.Number r p
bracket_at value d t s tok.String r p = leaf_at t s tok.String r p
bracket_at value d t s tok.Array r p =
    elim (eqb (kind_of t r) SEQUENCE-OF) [
      | true ↦ list_at value t s r p
      | false ↦ elim (is_array t r) [ true ↦ array_at value d t s r p | false ↦ at OtherKind p ]
    ]
bracket_at value d t s tok.Object r p =
    elim (eqb (kind_of t r) CHOICE) [
      | true ↦ choice_at value d t s r p
      | false ↦ elim (eqb (kind_of t r) SEQUENCE && not (is_array t r)) [ true ↦ object_at value d t s r p | false ↦ at OtherKind p ]
    ]

-- where no bracket may be opened any more
unfoldable pub shallow_at : Table → List ℕ → Token → Reader
shallow_at t s tok.Null r p = leaf_at t s tok.Null r p
shallow_at t s tok.Boolean r p = leaf_at t s tok.Boolean r p
shallow_at t s tok.Number r p = leaf_at t s tok.Number r p
shallow_at t s tok.String r p = leaf_at t s tok.String r p
shallow_at t s tok.Array r p = at TooDeep p
shallow_at t s tok.Object r p = at TooDeep p

unfoldable pub picked_at : Reader → Table → ℕ → ℕ → Option ℕ → Res (Got Val)
picked_at plain t r p None = elim (extensible t r) [ true ↦ at Unknown p | false ↦ at OtherKind p ]
picked_at plain t r p (Some i) = bind (bind (plain (type_at t r i) p) (within t (type_at t r i))) (λ g. ok (got (v_choice i g.value) g.next))

-- a value, given how one is read whose type is not UNWRAPPED
unfoldable pub value_with : (Token → Reader) → Table → List ℕ → Reader
value_with plain t s r p =
    bind (elim (is_unwrapped t r) [ true ↦ picked_at (plain (token_at s p)) t r p (alternative t r (token_at s p)) | false ↦ plain (token_at s p) r p ]) (within t r)

-- the value of the type at r from p on, in which d brackets may be open
unfoldable pub read_at : ℕ → Table → List ℕ → Reader
read_at zero t s r p = value_with (shallow_at t s) t s r p
read_at (suc d) t s r p = value_with (bracket_at (λ q u. read_at d t s q u) d t s) t s r p
