-- The typed reading refuses at a byte, and for nothing else: never by a row, and never for want of room.
use Rattle.std.specs.Prelude.{is_some}
use Rattle.jer.specs.declared.Token.{Token}
use Rattle.jer.specs.declared.Token.TheVariants as tok
use Prim.Native.Nat.{ℕ, zero, suc, ◌^◌}
use mathlib.Core.List.{List, [], ◌∷◌}
use mathlib.Core.Bool.{Bool, true, false, ◌&&◌, not}
use Rattle.std.specs.Prelude.{Option, None, Some}
use lib.Dec.{eqb, ltb, leb}
use Rattle.json_text.specs.Tree.{Json, jnull, jbool, jint, jreal, jstr, jarr, jobj, Items, inil, icons, Members, mnil, mcons}
use Rattle.json_text.proofs.SoundRows.{pick-within, ◌⨾◌}
use Rattle.jer.specs.declared.Cause.{Cause}
use Rattle.jer.specs.declared.Cause.TheVariants.{UnknownName, RepeatedName, Missing, Unknown}
use Rattle.jer.specs.declared.Refusal.TheVariants.{AtByte}
use Rattle.jer.specs.Table.{Table, NULL, BOOLEAN, INTEGER, SEQUENCE, SEQUENCE-OF, CHOICE, kind_of, extensible, is_array, is_unwrapped, open_unwrapped, element_of, count_of, type_at, name_at, may_miss, same_bytes, position, alternative}
use Rattle.jer.specs.Value.{Val, v_seq, Parts}
use Rattle.jer.specs.Answer.{Res, ok, no, bind}
use Rattle.jer.specs.Read.{Meaning, Element, Entry, read_int, read_item, read_octets, octets_of, read_string, at_kind, picked, unwrapping, lookup, names_good, null_absent, with_absent, with_present, read_member, read_members, read_object, null_value, missing_element, read_element, surplus, read_elements, read_items, read_array, read_chosen, read_choice, read_braces, read, elements, entries}
use Rattle.jer.proofs.WeightGot.{branch}

-- a success, or a refusal at a byte
pub data AtBytes {A : Type 0} : Res A → Type 0 where
  fine : {a : A} → AtBytes (ok a)
  place : {c : Cause} {p : ℕ} → AtBytes (no (AtByte c p))

bind-at : {A B : Type 0} {x : Res A} {f : A → Res B} → AtBytes x → ((a : A) → AtBytes (f a)) → AtBytes (bind x f)
unfolding bind
bind-at (fine {a = a}) h = h a
bind-at place h = place

-- of a meaning: at every row
abbrev Everywhere : Meaning → Type 0
Everywhere m = (r : ℕ) → AtBytes (m r)

-- ---- leaves

int_at : (p : ℕ) (m : Bool) (n : ℕ) → AtBytes (read_int p m n)
unfolding read_int
int_at p false n = branch AtBytes (ltb n (2 ^ 63)) (λ e. fine) (λ e. place)
int_at p true zero = fine
int_at p true (suc n) = branch AtBytes (leb (suc n) (2 ^ 63)) (λ e. fine) (λ e. place)

item-at : (t : Table) (r p : ℕ) (o : Option ℕ) → AtBytes (read_item t r p o)
unfolding read_item
item-at t r p None = branch AtBytes (extensible t r) (λ e. place) (λ e. place)
item-at t r p (Some i) = fine

octets-at : (p : ℕ) (o : Option (List ℕ)) → AtBytes (read_octets p o)
unfolding read_octets
octets-at p None = place
octets-at p (Some os) = fine

string-at : (t : Table) (p : ℕ) (s : List ℕ) → Everywhere (read_string t p s)
unfolding read_string
string-at t p s r = pick-within AtBytes (kind_of t r) _ _ ((λ i. item-at t r p (position t r s)) ⨾ (λ i. octets-at p (octets_of t r s)) ⨾ (λ i. fine) ⨾ tt) place

kind_at : (t : Table) (r k p : ℕ) {v : Res Val} → AtBytes v → AtBytes (at_kind t r k p v)
unfolding at_kind
kind_at t r k p h = branch AtBytes (eqb (kind_of t r) k) (λ e. h) (λ e. place)

-- ---- UNWRAPPED choices

picked-at : (t : Table) (r p : ℕ) (plain : Meaning) (o : Option ℕ) → Everywhere plain → AtBytes (picked t r p plain o)
unfolding picked
picked-at t r p plain None h = branch AtBytes (extensible t r) (λ e. place) (λ e. place)
picked-at t r p plain (Some i) h = bind-at (h (type_at t r i)) (λ v. fine)

unwrapping-at : (t : Table) (k : Token) (p : ℕ) (plain : Meaning) → Everywhere plain → Everywhere (unwrapping t k p plain)
unfolding unwrapping
unwrapping-at t k p plain h r = branch AtBytes (is_unwrapped t r) (λ e. picked-at t r p plain (alternative t r k) h) (λ e. h r)

-- ---- parts

absent-at : {x : Res Parts} → AtBytes x → AtBytes (with_absent x)
unfolding with_absent
absent-at h = bind-at h (λ ps. fine)

present-at : {v : Res Val} {x : Res Parts} → AtBytes v → AtBytes x → AtBytes (with_present v x)
unfolding with_present
present-at h k = bind-at h (λ w. bind-at k (λ ps. fine))

-- ---- objects

abbrev Entries : List Entry → Type 0
Entries [] = Unit {0}
Entries (e ∷ es) = Everywhere e.means × Entries es

abbrev Held : Option Entry → Type 0
Held None = Unit {0}
Held (Some e) = Everywhere e.means

lookup-held : (s : List ℕ) (es : List Entry) → Entries es → Held (lookup s es)
unfolding lookup
lookup-held s [] h = tt
lookup-held s (e ∷ es) h = branch Held (same_bytes e.name s) (λ w. h.0) (λ w. lookup-held s es h.1)

-- the entries met, where the names are good
data Met : Res (List Entry) → Type 0 where
  met : {es : List Entry} → Entries es → Met (ok es)
  bad : {c : Cause} {p : ℕ} → Met (no (AtByte c p))

names-met : (t : Table) (r : ℕ) (es ms : List Entry) → Entries ms → Entries es → Met (names_good t r ms es)
unfolding names_good
names-met t r [] ms h k = met h
names-met t r (e ∷ es) ms h k = known (position t r e.name) (names-met t r es ms h k.1) (names-met t r es (e ∷ ms) (k.0, h) k.1)
  where
    known : (o : Option ℕ) → Met (names_good t r ms es) → Met (names_good t r (e ∷ ms) es)
        → Met (elim o [ None ↦ elim (extensible t r) [ true ↦ names_good t r ms es | false ↦ no (AtByte UnknownName e.place) ] | Some i ↦ elim (is_some (lookup e.name ms)) [ true ↦ no (AtByte RepeatedName e.place) | false ↦ names_good t r (e ∷ ms) es ] ])
    known None a b = branch Met (extensible t r) (λ w. a) (λ w. bad)
    known (Some i) a b = branch Met (is_some (lookup e.name ms)) (λ w. bad) (λ w. b)

member-at : (t : Table) (r o i : ℕ) (e : Option Entry) {rest : Res Parts} → Held e → AtBytes rest → AtBytes (read_member t r o i e rest)
unfolding read_member
member-at t r o i None h k = branch AtBytes (may_miss t r i) (λ w. absent-at k) (λ w. place)
member-at t r o i (Some e) h k = branch AtBytes (e.is_null && null_absent t r i) (λ w. absent-at k) (λ w. present-at (h (type_at t r i)) k)

members-at : (t : Table) (r o : ℕ) (es : List Entry) (i n : ℕ) → Entries es → AtBytes (read_members t r o es i n)
unfolding read_members
members-at t r o es i zero h = fine
members-at t r o es i (suc n) h = member-at t r o i (lookup (name_at t r i) es) (lookup-held (name_at t r i) es h) (members-at t r o es (suc i) n h)

object-at : (t : Table) (o : ℕ) (es : List Entry) → Entries es → Everywhere (read_object t o es)
unfolding read_object bind
object-at t o es h r = go (names_good t r [] es) (names-met t r es [] tt h)
  where
    go : (x : Res (List Entry)) → Met x → AtBytes (bind x (λ ms. bind (read_members t r o ms 0 (count_of t r)) (λ ps. ok (v_seq ps))))
    go (ok ms) (met k) = bind-at (members-at t r o ms 0 (count_of t r) k) (λ ps. fine)
    go (no e) bad = place

-- ---- arrays

abbrev Elements : List Element → Type 0
Elements [] = Unit {0}
Elements (e ∷ es) = Everywhere e.means × Elements es

abbrev Given : Option Element → Type 0
Given None = Unit {0}
Given (Some e) = Everywhere e.means

missing_at : (t : Table) (r o i : ℕ) → AtBytes (missing_element t r o i)
unfolding missing_element
missing_at t r o i = go (null_value t (type_at t r i))
  where
    go : (x : Option Val) → AtBytes {A = Val} (elim x [ Some v ↦ ok v | None ↦ elim (open_unwrapped t (type_at t r i)) [ true ↦ no (AtByte Unknown o) | false ↦ no (AtByte (Missing i) o) ] ])
    go (Some v) = fine
    go None = branch AtBytes (open_unwrapped t (type_at t r i)) (λ w. place) (λ w. place)

element-at : (t : Table) (r o i : ℕ) (e : Option Element) {rest : Res Parts} → Given e → AtBytes rest → AtBytes (read_element t r o i e rest)
unfolding read_element
element-at t r o i None h k = branch AtBytes (may_miss t r i) (λ w. absent-at k) (λ w. present-at (missing_at t r o i) k)
element-at t r o i (Some e) h k = branch AtBytes (e.is_null && may_miss t r i) (λ w. absent-at k) (λ w. present-at (h (type_at t r i)) k)

surplus-at : (t : Table) (r : ℕ) (es : List Element) → AtBytes (surplus t r es)
unfolding surplus
surplus-at t r [] = fine
surplus-at t r (e ∷ es) = branch AtBytes (extensible t r) (λ w. fine) (λ w. place)

elements-at : (t : Table) (r o : ℕ) (es : List Element) (i n : ℕ) → Elements es → AtBytes (read_elements t r o es i n)
unfolding read_elements
elements-at t r o es i zero h = surplus-at t r es
elements-at t r o [] i (suc n) h = element-at t r o i None tt (elements-at t r o [] (suc i) n tt)
elements-at t r o (e ∷ es) i (suc n) h = element-at t r o i (Some e) h.0 (elements-at t r o es (suc i) n h.1)

items_at_lem : (es : List Element) (r : ℕ) → Elements es → AtBytes (read_items es r)
unfolding read_items
items_at_lem [] r h = fine
items_at_lem (e ∷ es) r h = bind-at (h.0 r) (λ v. bind-at (items_at_lem es r h.1) (λ vs. fine))

array_at : (t : Table) (o : ℕ) (es : List Element) → Elements es → Everywhere (read_array t o es)
unfolding read_array
array_at t o es h r =
    branch AtBytes (eqb (kind_of t r) SEQUENCE-OF) (λ w. bind-at (items_at_lem es (element_of t r) h) (λ vs. fine))
    (λ w. branch AtBytes (is_array t r) (λ w. bind-at (elements-at t r o es 0 (count_of t r) h) (λ ps. fine)) (λ w. place))

-- ---- choices and braces

chosen_at_lem : (t : Table) (r o : ℕ) (e : Entry) (i : Option ℕ) → Everywhere e.means → AtBytes (read_chosen t r o e i)
unfolding read_chosen
chosen_at_lem t r o e None h = branch AtBytes (extensible t r) (λ w. place) (λ w. place)
chosen_at_lem t r o e (Some i) h = bind-at (h (type_at t r i)) (λ v. fine)

choice-at : (t : Table) (r o : ℕ) (es : List Entry) → Entries es → AtBytes (read_choice t r o es)
unfolding read_choice
choice-at t r o [] h = place
choice-at t r o (e ∷ []) h = chosen_at_lem t r o e (position t r e.name) h.0
choice-at t r o (e ∷ f ∷ es) h = place

braces-at : (t : Table) (o : ℕ) (es : List Entry) → Entries es → Everywhere (read_braces t o es)
unfolding read_braces
braces-at t o es h r =
    branch AtBytes (eqb (kind_of t r) CHOICE) (λ w. choice-at t r o es h)
    (λ w. branch AtBytes (eqb (kind_of t r) SEQUENCE && not (is_array t r)) (λ w. object-at t o es h r) (λ w. place))

-- ---- trees

mutual
  unfolding read elements entries

  pub read_at_lem : (j : Json) (t : Table) (r : ℕ) → AtBytes (read j t r)
  read_at_lem (jnull p) t r = unwrapping-at t tok.Null p _ (λ q. kind_at t q NULL p fine) r
  read_at_lem (jbool p b) t r = unwrapping-at t tok.Boolean p _ (λ q. kind_at t q BOOLEAN p fine) r
  read_at_lem (jint p m n) t r = unwrapping-at t tok.Number p _ (λ q. kind_at t q INTEGER p (int_at p m n)) r
  read_at_lem (jreal p) t r = unwrapping-at t tok.Number p _ (λ q. kind_at t q INTEGER p place) r
  read_at_lem (jstr p s) t r = unwrapping-at t tok.String p _ (λ q. string-at t p s q) r
  read_at_lem (jarr p is) t r = unwrapping-at t tok.Array p _ (λ q. array_at t p (elements is t) (elements-every is t) q) r
  read_at_lem (jobj p ms) t r = unwrapping-at t tok.Object p _ (λ q. braces-at t p (entries ms t) (entries-every ms t) q) r

  elements-every : (is : Items) (t : Table) → Elements (elements is t)
  elements-every inil t = tt
  elements-every (icons j is) t = (λ r. read_at_lem j t r, elements-every is t)

  entries-every : (ms : Members) (t : Table) → Entries (entries ms t)
  entries-every mnil t = tt
  entries-every (mcons p s j ms) t = (λ r. read_at_lem j t r, entries-every ms t)
