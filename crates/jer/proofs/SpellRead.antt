-- What a tree is read as at a row of known kind, and what a reading says of the row: its token, and whether null is its value.
use Rattle.std.specs.Prelude.{is_some}
use Rattle.jer.specs.declared.Token.{Token}
use Rattle.jer.specs.declared.Token.TheVariants as tok
use Prim.Native.Nat.{ℕ}
use mathlib.Core.Path.{◌≡◌, refl, sym, ap, ◌∙◌}
use mathlib.Core.List.{List}
use mathlib.Core.Bool.{Bool, true, false, ◌&&◌, not, or-true, false≢true}
use Rattle.std.specs.Prelude.{Option, None, Some}
use native.Mathlib.Omega.{arith}
use lib.Dec.{eqb}
use borrow.Author.Tests.{eqb-true, eq-eqb, ne_eqb, not-true}
use Rattle.json_text.specs.Bytes.{pick}
use Rattle.json_text.specs.Tree.{Json, jnull, jbool, jint, jreal, jstr, jarr, jobj, Items, Members, mnil, mcons, place_of}
use Rattle.json_text.proofs.SoundRows.{pick-within, only, ◌⨾◌}
use Rattle.jer.specs.declared.Cause.TheVariants.{BadNumber}
use Rattle.jer.specs.Table.{Table, BOOLEAN, INTEGER, ENUMERATED, NULL, OCTET-STRING, UTF8String, SEQUENCE, SEQUENCE-OF, CHOICE, carries, kind_of, marked, extensible, is_array, is_unwrapped, element_of, count_of, type_at, position, token_pick, token_of, alternative, can_be_null, null_taken}
use Rattle.jer.specs.Value.{Val, v_bool, v_enum, v_null, v_bytes, v_seq, v_list, v_choice, Vals, Parts}
use Rattle.jer.specs.Answer.{Res, ok, bind, at}
use Rattle.jer.specs.Moved.{token_in}
use Rattle.jer.specs.Read.{Meaning, read_int, read_item, read_octets, octets_of, read_string, at_kind, picked, unwrapping, read_object, null_value, read_elements, read_items, read_array, read_chosen, read_choice, read_braces, null?, read, elements, entries}
use Rattle.jer.proofs.ValidRows.{both, array_kind}
use Rattle.jer.proofs.WeightGot.{cases, refused, nothing, got, steps, at-kind}

-- ---- trees by their tokens

-- what a tree means at a type that is not UNWRAPPED
unfoldable plainly : Json → Table → Meaning
plainly (jnull p) t r = at_kind t r NULL p (ok v_null)
plainly (jbool p b) t r = at_kind t r BOOLEAN p (ok (v_bool b))
plainly (jint p m n) t r = at_kind t r INTEGER p (read_int p m n)
plainly (jreal p) t r = at_kind t r INTEGER p (at BadNumber p)
plainly (jstr p s) t r = read_string t p s r
plainly (jarr p is) t r = read_array t p (elements is t) r
plainly (jobj p ms) t r = read_braces t p (entries ms t) r

read_as_lem : (j : Json) (t : Table) (r : ℕ) → read j t r ≡ unwrapping t (token_in j) (place_of j) (λ q. plainly j t q) r
unfolding read token_in place_of plainly
read_as_lem (jnull p) t r = refl
read_as_lem (jbool p b) t r = refl
read_as_lem (jint p m n) t r = refl
read_as_lem (jreal p) t r = refl
read_as_lem (jstr p s) t r = refl
read_as_lem (jarr p is) t r = refl
read_as_lem (jobj p ms) t r = refl

read_plain : (j : Json) (t : Table) (r : ℕ) → is_unwrapped t r ≡ false → read j t r ≡ plainly j t r
unfolding unwrapping
read_plain j t r w = read_as_lem j t r ∙ rw (w, unwrapping)

-- the token picks the alternative
pub read-picked : (j : Json) (t : Table) (r i : ℕ) (v : Val) → is_unwrapped t r ≡ true → alternative t r (token_in j) ≡ Some i → is_unwrapped t (type_at t r i) ≡ false
    → read j t (type_at t r i) ≡ ok v → read j t r ≡ ok (v_choice i v)
unfolding unwrapping picked bind
read-picked j t r i v w a u e = read_as_lem j t r ∙ rw (w, unwrapping, a) (rw (sym (read_plain j t (type_at t r i) u) ∙ e))

-- ---- leaves

kind-wrapped : (t : Table) (r k : ℕ) → kind_of t r ≡ k → (k ≡ CHOICE → ⊥) → is_unwrapped t r ≡ false
unfolding is_unwrapped
kind-wrapped t r k e h = rw (ne_eqb (kind_of t r) CHOICE (λ z. h (sym e ∙ z)))

read-kind : {k : ℕ} (j : Json) (t : Table) (r : ℕ) → kind_of t r ≡ k → (k ≡ CHOICE → ⊥) → read j t r ≡ plainly j t r
read-kind {k} j t r e h = read_plain j t r (kind-wrapped t r k e h)

at-own-kind : (t : Table) (r k p : ℕ) (v : Res Val) → kind_of t r ≡ k → at_kind t r k p v ≡ v
unfolding at_kind
at-own-kind t r k p v e = rw (eq-eqb _ _ e, at_kind)

pub null-read : (t : Table) (r p : ℕ) → kind_of t r ≡ NULL → read (jnull p) t r ≡ ok v_null
unfolding plainly
null-read t r p e = read-kind (jnull p) t r e (λ z. omega arith) ∙ at-own-kind t r NULL p (ok v_null) e

pub bool_read : (t : Table) (r p : ℕ) (b : Bool) → kind_of t r ≡ BOOLEAN → read (jbool p b) t r ≡ ok (v_bool b)
unfolding plainly
bool_read t r p b e = read-kind (jbool p b) t r e (λ z. omega arith) ∙ at-own-kind t r BOOLEAN p (ok (v_bool b)) e

pub int-read : (t : Table) (r p : ℕ) (m : Bool) (n : ℕ) → kind_of t r ≡ INTEGER → read (jint p m n) t r ≡ read_int p m n
unfolding plainly
int-read t r p m n e = read-kind (jint p m n) t r e (λ z. omega arith) ∙ at-own-kind t r INTEGER p (read_int p m n) e

pub item-read : (t : Table) (r p : ℕ) (s : List ℕ) (i : ℕ) → kind_of t r ≡ ENUMERATED → position t r s ≡ Some i → read (jstr p s) t r ≡ ok (v_enum i)
unfolding plainly read_string pick read_item
item-read t r p s i e h = read-kind (jstr p s) t r e (λ z. omega arith) ∙ rw (e, read_string, h)

pub octets-read : (t : Table) (r p : ℕ) (s os : List ℕ) → kind_of t r ≡ OCTET-STRING → octets_of t r s ≡ Some os → read (jstr p s) t r ≡ ok (v_bytes os)
unfolding plainly read_string pick read_octets
octets-read t r p s os e h = read-kind (jstr p s) t r e (λ z. omega arith) ∙ rw (e, read_string, h)

pub text-read : (t : Table) (r p : ℕ) (s : List ℕ) → kind_of t r ≡ UTF8String → read (jstr p s) t r ≡ ok (v_bytes s)
unfolding plainly read_string pick
text-read t r p s e = read-kind (jstr p s) t r e (λ z. omega arith) ∙ rw (e, read_string)

-- ---- arrays and objects

pub list_read : (t : Table) (r p : ℕ) (is : Items) (vs : Vals) → kind_of t r ≡ SEQUENCE-OF → read_items (elements is t) (element_of t r) ≡ ok vs → read (jarr p is) t r ≡ ok (v_list vs)
unfolding plainly read_array bind
list_read t r p is vs e h = read-kind (jarr p is) t r e (λ z. omega arith) ∙ rw (eq-eqb _ _ e, read_array, h)

pub array-read : (t : Table) (r p : ℕ) (is : Items) (ps : Parts) → kind_of t r ≡ SEQUENCE → is_array t r ≡ true → read_elements t r p (elements is t) 0 (count_of t r) ≡ ok ps → read (jarr p is) t r ≡ ok (v_seq ps)
unfolding plainly read_array bind
array-read t r p is ps e a h =
    read-kind (jarr p is) t r e (λ z. omega arith) ∙ rw (ne_eqb (kind_of t r) SEQUENCE-OF (λ z. omega arith), read_array, a, h)

pub object-read : (t : Table) (r p : ℕ) (ms : Members) (v : Val) → kind_of t r ≡ SEQUENCE → is_array t r ≡ false → read_object t p (entries ms t) r ≡ ok v → read (jobj p ms) t r ≡ ok v
unfolding plainly read_braces
object-read t r p ms v e a h =
    read-kind (jobj p ms) t r e (λ z. omega arith) ∙ rw (ne_eqb (kind_of t r) CHOICE (λ z. omega arith), eq-eqb _ _ e, a, read_braces) h

pub choice-read : (t : Table) (r p q : ℕ) (s : List ℕ) (j : Json) (i : ℕ) (v : Val) → kind_of t r ≡ CHOICE → is_unwrapped t r ≡ false → position t r s ≡ Some i → read j t (type_at t r i) ≡ ok v
    → read (jobj p (mcons q s j mnil)) t r ≡ ok (v_choice i v)
unfolding plainly read_braces read read_choice read_chosen bind
choice-read t r p q s j i v e w h k = read_plain (jobj p (mcons q s j mnil)) t r w ∙ rw (eq-eqb _ _ e, read_braces, h, k)

-- ---- what a successful reading says of the row

pick_same : (b : Bool) (x : Option Token) → token_pick b x x ≡ x
unfolding token_pick
pick_same true x = refl
pick_same false x = refl

item-token : (t : Table) (r : ℕ) → kind_of t r ≡ ENUMERATED → token_of t r ≡ Some tok.String
unfolding token_of carries pick
item-token t r k = rw k (pick_same (marked t r 1) (Some tok.String))

octets-token : (t : Table) (r : ℕ) → kind_of t r ≡ OCTET-STRING → token_of t r ≡ Some tok.String
unfolding token_of carries pick
octets-token t r k = rw k (pick_same (marked t r 1) (Some tok.String))

text-token : (t : Table) (r : ℕ) → kind_of t r ≡ UTF8String → token_of t r ≡ Some tok.String
unfolding token_of carries pick
text-token t r k = rw k (pick_same (marked t r 1) (Some tok.String))

string-token : (t : Table) (r p : ℕ) (s : List ℕ) (v : Val) → read_string t p s r ≡ ok v → token_of t r ≡ Some tok.String
unfolding read_string
string-token t r p s v =
    pick-within (λ x. x ≡ ok v → token_of t r ≡ Some tok.String) (kind_of t r) _ _
    ((λ i e. item-token t r (only i)) ⨾ (λ i e. octets-token t r (only i)) ⨾ (λ i e. text-token t r (only i)) ⨾ tt)
    (λ e. refused e)

list-token : (t : Table) (r : ℕ) → kind_of t r ≡ SEQUENCE-OF → token_of t r ≡ Some tok.Array
unfolding token_of carries pick
list-token t r k = rw k (pick_same (marked t r 1) (Some tok.Array))

choice-token : (t : Table) (r : ℕ) → kind_of t r ≡ CHOICE → token_of t r ≡ Some tok.Object
unfolding token_of carries pick
choice-token t r k = rw k (pick_same (marked t r 1) (Some tok.Object))

sequence-token : (t : Table) (r : ℕ) → kind_of t r ≡ SEQUENCE → token_of t r ≡ token_pick (is_array t r) (Some tok.Array) (Some tok.Object)
unfolding token_of carries pick is_array
sequence-token t r k = rw k

bracket-token : (t : Table) (r p : ℕ) (is : Items) (v : Val) → read_array t p (elements is t) r ≡ ok v → token_of t r ≡ Some tok.Array
unfolding read_array token_pick
bracket-token t r p is v =
    cases (eqb (kind_of t r) SEQUENCE-OF) (λ k e. list-token t r (eqb-true _ _ k)) (λ k. cases (is_array t r) (λ a e. sequence-token t r (array_kind t r a) ∙ rw a) (λ a e. refused e))

brace_token : (t : Table) (r p : ℕ) (ms : Members) (v : Val) → read_braces t p (entries ms t) r ≡ ok v → token_of t r ≡ Some tok.Object
unfolding read_braces token_pick
brace_token t r p ms v =
    cases (eqb (kind_of t r) CHOICE) (λ k e. choice-token t r (eqb-true _ _ k))
    (λ k. cases (eqb (kind_of t r) SEQUENCE && not (is_array t r)) (λ a e. let b = (both _ _).0 a in sequence-token t r (eqb-true _ _ b.0) ∙ rw (not-true (is_array t r) b.1)) (λ a e. refused e))

plain-token : (j : Json) (t : Table) (r : ℕ) (v : Val) → plainly j t r ≡ ok v → token_of t r ≡ Some (token_in j)
unfolding plainly token_of carries pick token_in
plain-token (jnull p) t r v e = rw (at-kind t r NULL p _ v e).0 (pick_same (marked t r 1) (Some tok.Null))
plain-token (jbool p b) t r v e = rw (at-kind t r BOOLEAN p _ v e).0 (pick_same (marked t r 1) (Some tok.Boolean))
plain-token (jint p m n) t r v e = rw (at-kind t r INTEGER p _ v e).0 (pick_same (marked t r 1) (Some tok.Number))
plain-token (jreal p) t r v e = rw (at-kind t r INTEGER p _ v e).0 (pick_same (marked t r 1) (Some tok.Number))
plain-token (jstr p s) t r v e = string-token t r p s v e
plain-token (jarr p is) t r v e = bracket-token t r p is v e
plain-token (jobj p ms) t r v e = brace_token t r p ms v e

-- a tree that a type reads, if the type is not UNWRAPPED, has the type's token
pub read-token : (j : Json) (t : Table) (r : ℕ) (v : Val) → is_unwrapped t r ≡ false → read j t r ≡ ok v → token_of t r ≡ Some (token_in j)
read-token j t r v w e = plain-token j t r v (sym (read_plain j t r w) ∙ e)

-- ---- null

-- no alternative, no value
not-picked : {C : Type 0} (t : Table) (r p : ℕ) (f : Meaning) (v : Val) → picked t r p f None ≡ ok v → C
unfolding picked
not-picked t r p f v = cases (extensible t r) (λ w e. refused e) (λ w e. refused e)

-- null is read as the null value
null-value : (p : ℕ) (t : Table) (r : ℕ) (v : Val) → read (jnull p) t r ≡ ok v → null_value t r ≡ Some v
unfolding null_value read unwrapping picked
null-value p t r v =
    cases (is_unwrapped t r) (λ w. chosen (alternative t r tok.Null) refl w)
    (λ w e. let k = at-kind t r NULL p (ok v_null) v e in rw (w, null_value, eq-eqb _ _ k.0) (ap Some (got k.1)))
  where
    chosen : (x : Option ℕ) → alternative t r tok.Null ≡ x → is_unwrapped t r ≡ true → picked t r p (λ q. at_kind t q NULL p (ok v_null)) x ≡ ok v → null_value t r ≡ Some v
    chosen None a w e = not-picked t r p (λ q. at_kind t q NULL p (ok v_null)) v e
    chosen (Some i) a w e =
        let b = steps (at_kind t (type_at t r i) NULL p (ok v_null)) (λ (u : Val). ok (v_choice i u)) v e in
        rw (w, null_value, a) (cc ((at-kind t (type_at t r i) NULL p (ok v_null) b.val b.first).1, b.then))

pub null-is-value : (j : Json) (t : Table) (r : ℕ) (v : Val) → null? j ≡ true → read j t r ≡ ok v → null_value t r ≡ Some v
unfolding null?
null-is-value (jnull p) t r v n e = null-value p t r v e
null-is-value (jbool p b) t r v n e = absurd (false≢true n)
null-is-value (jint p m x) t r v n e = absurd (false≢true n)
null-is-value (jreal p) t r v n e = absurd (false≢true n)
null-is-value (jstr p s) t r v n e = absurd (false≢true n)
null-is-value (jarr p is) t r v n e = absurd (false≢true n)
null-is-value (jobj p ms) t r v n e = absurd (false≢true n)

-- a type that has a null value takes null
pub value_takes_null : (t : Table) (r : ℕ) (v : Val) → null_value t r ≡ Some v → null_taken t r ≡ true
unfolding null_value null_taken can_be_null
value_takes_null t r v =
    cases (is_unwrapped t r) (λ w. chosen (alternative t r tok.Null) refl w) (λ w. cases (eqb (kind_of t r) NULL) (λ k e. rw k) (λ k e. nothing e))
  where
    chosen : (x : Option ℕ) → alternative t r tok.Null ≡ x → is_unwrapped t r ≡ true → ◌≡◌ {A = Option Val} (elim x [ None ↦ None | Some i ↦ Some (v_choice i v_null) ]) (Some v) → null_taken t r ≡ true
    chosen None a w e = nothing e
    chosen (Some i) a w e = rw (w, a, or-true)
