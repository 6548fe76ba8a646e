-- What reading a tree comes to at a row of known kind.
use Prim.Native.Nat.{ℕ}
use mathlib.Core.Path.{◌≡◌, sym, ◌∙◌}
use mathlib.Core.List.{List}
use mathlib.Core.Bool.{true, false}
use Rattle.std.specs.Prelude.{Some}
use native.Mathlib.Omega.{arith}
use borrow.Author.Tests.{eq-eqb, ne_eqb}
use Rattle.json_text.specs.Bytes.{pick}
use Rattle.json_text.specs.Tree.{Json, jnull, jbool, jint, jreal, jstr, jarr, jobj, Items, Members}
use Rattle.jer.specs.Table.{Table, OCTET-STRING, SEQUENCE, SEQUENCE-OF, CHOICE, kind_of, is_array, is_unwrapped, element_of, count_of, type_at, alternative}
use Rattle.jer.specs.Value.{v_seq, v_list, v_choice}
use Rattle.jer.specs.Answer.{ok, bind}
use Rattle.jer.specs.Read.{read_octets, octets_of, read_string, picked, unwrapping, read_object, read_elements, read_items, read_array, read_choice, read_braces, read, elements, entries}
use Rattle.jer.specs.Moved.{token_in}
use Rattle.jer.proofs.ValidRows.{array_kind}

-- only a CHOICE is UNWRAPPED
pub wrapped : (t : Table) (r k : ℕ) → kind_of t r ≡ k → (k ≡ CHOICE → ⊥) → is_unwrapped t r ≡ false
unfolding is_unwrapped
wrapped t r k e h = rw (ne_eqb (kind_of t r) CHOICE (λ z. h (sym e ∙ z)))

module _ (t : Table) (r p : ℕ) where
  pub octets_as : (s : List ℕ) → kind_of t r ≡ OCTET-STRING → read (jstr p s) t r ≡ read_octets p (octets_of t r s)
  unfolding read unwrapping read_string pick
  octets_as s k = rw (wrapped t r OCTET-STRING k (λ z. omega arith), unwrapping, k)

  pub brackets_as : (is : Items) → is_unwrapped t r ≡ false → read (jarr p is) t r ≡ read_array t p (elements is t) r
  unfolding read unwrapping
  brackets_as is w = rw (w, unwrapping)

  pub items_as : (is : Items) → kind_of t r ≡ SEQUENCE-OF → read (jarr p is) t r ≡ bind (read_items (elements is t) (element_of t r)) (λ vs. ok (v_list vs))
  unfolding read_array
  items_as is k = brackets_as is (wrapped t r SEQUENCE-OF k (λ z. omega arith)) ∙ rw (eq-eqb _ _ k, read_array)

  pub elements_as : (is : Items) → is_array t r ≡ true → read (jarr p is) t r ≡ bind (read_elements t r p (elements is t) 0 (count_of t r)) (λ ps. ok (v_seq ps))
  unfolding read_array
  elements_as is a =
      let k = array_kind t r a in
      brackets_as is (wrapped t r SEQUENCE k (λ z. omega arith)) ∙ rw (ne_eqb (kind_of t r) SEQUENCE-OF (λ z. omega arith), a, read_array)

  pub braces_as : (ms : Members) → is_unwrapped t r ≡ false → read (jobj p ms) t r ≡ read_braces t p (entries ms t) r
  unfolding read unwrapping
  braces_as ms w = rw (w, unwrapping)

  pub object_as : (ms : Members) → kind_of t r ≡ SEQUENCE → is_array t r ≡ false → read (jobj p ms) t r ≡ read_object t p (entries ms t) r
  unfolding read_braces
  object_as ms k a =
      braces_as ms (wrapped t r SEQUENCE k (λ z. omega arith)) ∙ rw (ne_eqb (kind_of t r) CHOICE (λ z. omega arith), eq-eqb _ _ k, a, read_braces)

  pub choice_as : (ms : Members) → kind_of t r ≡ CHOICE → is_unwrapped t r ≡ false → read (jobj p ms) t r ≡ read_choice t r p (entries ms t)
  unfolding read_braces
  choice_as ms k w = braces_as ms w ∙ rw (eq-eqb _ _ k, read_braces)

-- the token picks the alternative
pub picked_as : (j : Json) (t : Table) (r i : ℕ) → is_unwrapped t r ≡ true → alternative t r (token_in j) ≡ Some i → is_unwrapped t (type_at t r i) ≡ false
    → read j t r ≡ bind (read j t (type_at t r i)) (λ v. ok (v_choice i v))
unfolding read unwrapping picked token_in
picked_as (jnull p) t r i w a u = rw (w, a, u, unwrapping)
picked_as (jbool p b) t r i w a u = rw (w, a, u, unwrapping)
picked_as (jint p m n) t r i w a u = rw (w, a, u, unwrapping)
picked_as (jreal p) t r i w a u = rw (w, a, u, unwrapping)
picked_as (jstr p s) t r i w a u = rw (w, a, u, unwrapping)
picked_as (jarr p is) t r i w a u = rw (w, a, u, unwrapping)
picked_as (jobj p ms) t r i w a u = rw (w, a, u, unwrapping)
