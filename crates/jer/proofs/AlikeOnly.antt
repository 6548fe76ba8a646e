-- Trees that are read as the same value are respellings of one another: leaves and UNWRAPPED choices.
use Rattle.jer.specs.declared.Token.{Token}
use Rattle.jer.specs.declared.Token.TheVariants as tok
use Prim.Native.Nat.{ℕ, zero, suc, ◌-◌, ◌^◌, ◌≤◌, ◌<◌}
use mathlib.Core.Path.{◌≡◌, refl, sym, ap, ◌∙◌}
use mathlib.Core.List.{List}
use mathlib.Core.Bool.{Bool, true, false}
use Rattle.std.specs.Prelude.{Option, None, Some}
use native.Mathlib.Omega.{arith}
use lib.Dec.{ltb, leb}
use borrow.Author.Tests.{ltb-true, leb-true}
use Rattle.json_text.specs.Bytes.{pick}
use Rattle.json_text.specs.Tree.{Json, jnull, jbool, jint, jreal, jstr, jarr, jobj, Items, inil, icons, Members}
use Rattle.json_text.proofs.SoundRows.{pick-within, only, ◌⨾◌}
use Rattle.jer.specs.Table.{Table, ENUMERATED, OCTET-STRING, UTF8String, kind_of, extensible, is_unwrapped, type_at, position, alternative}
use Rattle.jer.specs.Value.{Val, v_int, v_bytes, v_choice}
use Rattle.jer.specs.Answer.{ok}
use Rattle.jer.specs.Read.{read_int, read_item, read_octets, octets_of, read_string, picked, unwrapping, read}
use Rattle.jer.specs.Moved as moved
use Rattle.jer.specs.Moved.{token_in}
use Rattle.jer.specs.Respelled as spell
use Rattle.jer.specs.Respelled.{Respelled}
use Rattle.jer.specs.Sane.{Sane}
use Rattle.jer.proofs.ValidLaws.{same_bytes-eq, position_some, alternative-some}
use Rattle.jer.proofs.WeightGot.{cases, refused, got, steps}
use Rattle.jer.proofs.OlderChoice.{refused-both}
use Rattle.jer.proofs.AlikeRead.{picked_as}

-- ---- trees by their tokens

pub data Shape : Token → Json → Type 0 where
  is_null : {p : ℕ} → Shape tok.Null (jnull p)
  is_bool : {p : ℕ} {b : Bool} → Shape tok.Boolean (jbool p b)
  is_int : {p n : ℕ} {m : Bool} → Shape tok.Number (jint p m n)
  is_real : {p : ℕ} → Shape tok.Number (jreal p)
  is_string : {p : ℕ} {s : List ℕ} → Shape tok.String (jstr p s)
  is_brackets : {p : ℕ} {is : Items} → Shape tok.Array (jarr p is)
  is_braces : {p : ℕ} {ms : Members} → Shape tok.Object (jobj p ms)

pub shape : (j : Json) → Shape (token_in j) j
unfolding token_in
shape (jnull p) = is_null
shape (jbool p b) = is_bool
shape (jint p m n) = is_int
shape (jreal p) = is_real
shape (jstr p s) = is_string
shape (jarr p is) = is_brackets
shape (jobj p ms) = is_braces

-- ---- numbers

-- the two's complement of a number that is read
data Number (m : Bool) (n : ℕ) : ℕ → Type 0 where
  positive : m ≡ false → n < 2 ^ 63 → Number m n n
  minus_zero : m ≡ true → n ≡ 0 → Number m n 0
  negative : {x : ℕ} → m ≡ true → 0 < n → n ≤ 2 ^ 63 → x ≡ 2 ^ 64 - n → Number m n x

data ReadAs (m : Bool) (n : ℕ) : Val → Type 0 where
  read_as : {x : ℕ} → Number m n x → ReadAs m n (v_int x)

as_read : {m : Bool} {n x : ℕ} {v : Val} → Number m n x → ok (v_int x) ≡ ok v → ReadAs m n v
as_read h e = rw (← got e) (read_as h)

number : (p : ℕ) (m : Bool) (n : ℕ) (v : Val) → read_int p m n ≡ ok v → ReadAs m n v
unfolding read_int
number p false n v e = cases (ltb n (2 ^ 63)) (λ w f. as_read (positive refl (ltb-true _ _ w)) f) (λ w f. refused f) e
number p true zero v e = as_read (minus_zero refl refl) e
number p true (suc n) v e = cases (leb (suc n) (2 ^ 63)) (λ w f. as_read (negative refl (omega arith) (leb-true _ _ w) refl) f) (λ w f. refused f) e

module _ (t : Table) (r p q : ℕ) (m l : Bool) (n o : ℕ) where
  both_zero : n ≡ 0 → o ≡ 0 → Respelled t r (jint p m n) (jint q l o)
  both_zero e f = rw (e, f) spell.minus_zero

  equal : m ≡ l → n ≡ o → Respelled t r (jint p m n) (jint q l o)
  equal e f = rw (e, f) (spell.moved moved.number)

  same_number_lem : (x y : ℕ) → x ≡ y → Number m n x → Number l o y → Respelled t r (jint p m n) (jint q l o)
  same_number_lem x y z (positive a b) (positive c d) = equal (a ∙ sym c) z
  same_number_lem x y z (positive a b) (minus_zero c d) = both_zero z d
  same_number_lem x y z (positive a b) (negative c d e f) = absurd (omega arith)
  same_number_lem x y z (minus_zero a b) (positive c d) = both_zero b (sym z)
  same_number_lem x y z (minus_zero a b) (minus_zero c d) = both_zero b d
  same_number_lem x y z (minus_zero a b) (negative c d e f) = absurd (omega arith)
  same_number_lem x y z (negative a b g h) (positive c d) = absurd (omega arith)
  same_number_lem x y z (negative a b g h) (minus_zero c d) = absurd (omega arith)
  same_number_lem x y z (negative a b g h) (negative c d e f) = equal (a ∙ sym c) (omega arith)

  pub number-only : (v : Val) → read_int p m n ≡ ok v → read_int q l o ≡ ok v → Respelled t r (jint p m n) (jint q l o)
  number-only v e f = go (number p m n v e) (number q l o v f)
    where
      go : {v : Val} → ReadAs m n v → ReadAs l o v → Respelled t r (jint p m n) (jint q l o)
      go (read_as {x = x} a) (read_as b) = same_number_lem x x refl a b

-- ---- strings

-- one position has one name
pub same_name : (t : Table) (r : ℕ) (s u : List ℕ) (i : ℕ) → position t r s ≡ Some i → position t r u ≡ Some i → s ≡ u
same_name t r s u i a b = sym (same_bytes-eq _ _ (position_some t r s i a).1) ∙ same_bytes-eq _ _ (position_some t r u i b).1

module _ (t : Table) (r p q : ℕ) (s u : List ℕ) (v : Val) where
  same-string : s ≡ u → Respelled t r (jstr p s) (jstr q u)
  same-string e = rw e (spell.moved moved.string)

  item-only : (x y : Option ℕ) → position t r s ≡ x → position t r u ≡ y → read_item t r p x ≡ ok v → read_item t r q y ≡ ok v → Respelled t r (jstr p s) (jstr q u)
  unfolding read_item
  item-only None y a b e f = refused-both (extensible t r) _ _ e
  item-only (Some i) None a b e f = refused-both (extensible t r) _ _ f
  item-only (Some i) (Some j) a b e f = let z : i ≡ j = cc in same-string (same_name t r s u i a (rw (← z) at b))

  octets-only : (x y : Option (List ℕ)) → octets_of t r s ≡ x → octets_of t r u ≡ y → kind_of t r ≡ OCTET-STRING → read_octets p x ≡ ok v → read_octets q y ≡ ok v → Respelled t r (jstr p s) (jstr q u)
  unfolding read_octets
  octets-only None y a b k e f = refused e
  octets-only (Some x) None a b k e f = refused f
  octets-only (Some x) (Some y) a b k e f = spell.letter_case k (let z : x ≡ y = cc in a ∙ ap Some z ∙ sym b)

  item-string : kind_of t r ≡ ENUMERATED → read_string t q u r ≡ read_item t r q (position t r u)
  unfolding read_string pick
  item-string k = rw k

  octet-string : kind_of t r ≡ OCTET-STRING → read_string t q u r ≡ read_octets q (octets_of t r u)
  unfolding read_string pick
  octet-string k = rw k

  text-string : kind_of t r ≡ UTF8String → read_string t q u r ≡ ok (v_bytes u)
  unfolding read_string pick
  text-string k = rw k

  text-only : kind_of t r ≡ UTF8String → ok (v_bytes s) ≡ ok v → read_string t q u r ≡ ok v → Respelled t r (jstr p s) (jstr q u)
  text-only k e f = same-string (let z : ok (v_bytes u) ≡ ok v = sym (text-string k) ∙ f in cc)

  pub string-only : read_string t p s r ≡ ok v → read_string t q u r ≡ ok v → Respelled t r (jstr p s) (jstr q u)
  unfolding read_string
  string-only e f =
      pick-within (λ x. x ≡ ok v → Respelled t r (jstr p s) (jstr q u)) (kind_of t r) _ _
      ((λ i e. item-only _ _ refl refl e (sym (item-string (only i)) ∙ f)) ⨾ (λ i e. octets-only _ _ refl refl (only i) e (sym (octet-string (only i)) ∙ f)) ⨾ (λ i e. text-only (only i) e f) ⨾ tt)
      (λ e. refused e)
      e

-- ---- trees at a row

-- the tree j is read as what only its respellings are read as, at the row r
abbrev pub Only : Table → Json → ℕ → Type 0
Only t j r = (k : Json) (v : Val) → read j t r ≡ ok v → read k t r ≡ ok v → Respelled t r j k

-- the same of each item
abbrev pub OnlyItems : Table → Items → Type 0
OnlyItems t inil = Unit {0}
OnlyItems t (icons j is) = ((r : ℕ) → Only t j r) × OnlyItems t is

-- an UNWRAPPED choice reads a value as the alternative that the token picks
record Picked (t : Table) (r : ℕ) (j : Json) (v : Val) : Type 0 where
  at : ℕ
  inner : Val
  picks : alternative t r (token_in j) ≡ Some at
  plain : is_unwrapped t (type_at t r at) ≡ false
  reads : read j t (type_at t r at) ≡ ok inner
  gives : v_choice at inner ≡ v

not-picked : {C : Type 0} (j : Json) (t : Table) (r : ℕ) (v : Val) → is_unwrapped t r ≡ true → alternative t r (token_in j) ≡ None → read j t r ≡ ok v → C
unfolding read unwrapping picked token_in
not-picked (jnull p) t r v w a e = refused-both (extensible t r) _ _ (rw (w, a, unwrapping) at e)
not-picked (jbool p b) t r v w a e = refused-both (extensible t r) _ _ (rw (w, a, unwrapping) at e)
not-picked (jint p m n) t r v w a e = refused-both (extensible t r) _ _ (rw (w, a, unwrapping) at e)
not-picked (jreal p) t r v w a e = refused-both (extensible t r) _ _ (rw (w, a, unwrapping) at e)
not-picked (jstr p s) t r v w a e = refused-both (extensible t r) _ _ (rw (w, a, unwrapping) at e)
not-picked (jarr p is) t r v w a e = refused-both (extensible t r) _ _ (rw (w, a, unwrapping) at e)
not-picked (jobj p ms) t r v w a e = refused-both (extensible t r) _ _ (rw (w, a, unwrapping) at e)

read-picks : (t : Table) (g : Sane t) (r : ℕ) (j : Json) (v : Val) → is_unwrapped t r ≡ true → read j t r ≡ ok v → Picked t r j v
read-picks t g r j v w e = go (alternative t r (token_in j)) refl
  where
    go : (x : Option ℕ) → alternative t r (token_in j) ≡ x → Picked t r j v
    go None a = not-picked j t r v w a e
    go (Some i) a =
        let u = g.plain r i w (alternative-some t r (token_in j) i a).0 in
        let k = steps (read j t (type_at t r i)) _ v (sym (picked_as j t r i w a u) ∙ e) in
        record { at = i; inner = k.val; picks = a; plain = u; reads = k.first; gives = got k.then }

pub from-plain : (t : Table) → Sane t → (j : Json) → ((r : ℕ) → is_unwrapped t r ≡ false → Only t j r) → (r : ℕ) → Only t j r
from-plain t g j h r k v e f = go (is_unwrapped t r) refl
  where
    go : (c : Bool) → is_unwrapped t r ≡ c → Respelled t r j k
    go false w = h r w k v e f
    go true w =
        let a = read-picks t g r j v w e in
        let b = read-picks t g r k v w f in
        let z : b.at ≡ a.at = cc (a.gives, b.gives) in
        let y : b.inner ≡ a.inner = cc (a.gives, b.gives) in
        let c : read k t (type_at t r a.at) ≡ ok a.inner = rw (← z, ← y) b.reads in
        spell.picked w a.picks (h (type_at t r a.at) a.plain k a.inner a.reads c)
