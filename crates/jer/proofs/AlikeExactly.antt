-- Demand 2, the other way: only respellings are read as the same value. With `respelled-reads`, two trees of which one is read are respellings
-- of one another exactly if the other is read as the same value.
use Rattle.jer.specs.declared.Token.TheVariants as tok
use Prim.Native.Nat.{ℕ}
use mathlib.Core.Path.{◌≡◌, refl, sym, ◌∙◌}
use mathlib.Core.List.{List}
use mathlib.Core.Bool.{Bool, true, false, ◌&&◌, not}
use native.Mathlib.Omega.{arith}
use lib.Dec.{eqb}
use borrow.Author.Tests.{eqb-true, not-true}
use Rattle.json_text.specs.Tree.{Json, jnull, jbool, jint, jreal, jstr, jarr, jobj, Items, inil, icons, Members, mnil, mcons}
use Rattle.jer.specs.declared.Cause.TheVariants.{BadNumber}
use Rattle.jer.specs.Table.{Table, BOOLEAN, INTEGER, SEQUENCE, SEQUENCE-OF, CHOICE, kind_of, is_array, is_unwrapped, element_of, count_of}
use Rattle.jer.specs.Value.{Val, v_bool, v_seq, v_list}
use Rattle.jer.specs.Answer.{ok, bind, at}
use Rattle.jer.specs.Read.{read_int, read_string, unwrapping, read_elements, read_items, read_array, read_braces, read, elements, entries}
use Rattle.jer.specs.Moved as moved
use Rattle.jer.specs.Moved.{token_in}
use Rattle.jer.specs.Respelled as spell
use Rattle.jer.specs.Respelled.{Respelled}
use Rattle.jer.specs.Sane.{Sane}
use Rattle.jer.proofs.ValidRows.{both}
use Rattle.jer.proofs.WeightGot.{refused, steps, at-kind}
use Rattle.jer.proofs.SpellRead.{read-token}
use Rattle.jer.proofs.AlikeRead.{brackets_as, braces_as}
use Rattle.jer.proofs.AlikeOnly.{Shape, is_null, is_bool, is_int, is_real, is_string, is_brackets, is_braces, shape, number-only, string-only, Only, OnlyItems, from-plain}
use Rattle.jer.proofs.AlikeOnlyArray.{nulls, items-only, elements-only}
use Rattle.jer.proofs.AlikeOnlyObject.{OnlyMembers, object-only, choice-only}

-- ---- a row that is not UNWRAPPED

module _ (t : Table) (r : ℕ) (w : is_unwrapped t r ≡ false) (v : Val) where
  -- two trees that it reads have one token
  same_shape : (j k : Json) → read j t r ≡ ok v → read k t r ≡ ok v → Shape (token_in j) k
  same_shape j k e f = let z : token_in k ≡ token_in j = cc (read-token j t r v w e, read-token k t r v w f) in rw z at (shape k)

  bool_plain : (p : ℕ) (b : Bool) → read (jbool p b) t r ≡ ok v → ok (v_bool b) ≡ ok v
  unfolding read unwrapping
  bool_plain p b e = (at-kind t r BOOLEAN p (ok (v_bool b)) v (rw (w, unwrapping) at e)).1

  bool_case : {k : Json} (p : ℕ) (b : Bool) → Shape tok.Boolean k → read (jbool p b) t r ≡ ok v → read k t r ≡ ok v → Respelled t r (jbool p b) k
  bool_case p b (is_bool {p = q} {b = c}) e f = let z : b ≡ c = cc (bool_plain p b e, bool_plain q c f) in rw z (spell.moved moved.boolean)

  int-plain : (p : ℕ) (m : Bool) (n : ℕ) → read (jint p m n) t r ≡ ok v → read_int p m n ≡ ok v
  unfolding read unwrapping
  int-plain p m n e = (at-kind t r INTEGER p (read_int p m n) v (rw (w, unwrapping) at e)).1

  real-plain : {C : Type 0} (p : ℕ) → read (jreal p) t r ≡ ok v → C
  unfolding read unwrapping
  real-plain p e = refused (at-kind t r INTEGER p (at BadNumber p) v (rw (w, unwrapping) at e)).1

  int-case : {k : Json} (p : ℕ) (m : Bool) (n : ℕ) → Shape tok.Number k → read (jint p m n) t r ≡ ok v → read k t r ≡ ok v → Respelled t r (jint p m n) k
  int-case p m n (is_int {p = q} {n = o} {m = l}) e f = number-only t r p q m l n o v (int-plain p m n e) (int-plain q l o f)
  int-case p m n (is_real {p = q}) e f = real-plain q f

  string-plain : (p : ℕ) (s : List ℕ) → read (jstr p s) t r ≡ ok v → read_string t p s r ≡ ok v
  unfolding read unwrapping
  string-plain p s e = rw (w, unwrapping) at e

  string-case : {k : Json} (p : ℕ) (s : List ℕ) → Shape tok.String k → read (jstr p s) t r ≡ ok v → read k t r ≡ ok v → Respelled t r (jstr p s) k
  string-case p s (is_string {p = q} {s = u}) e f = string-only t r p q s u v (string-plain p s e) (string-plain q u f)

  -- ---- arrays

  list-case : (p q : ℕ) (is js : Items) → OnlyItems t is → kind_of t r ≡ SEQUENCE-OF → bind (read_items (elements is t) (element_of t r)) (λ vs. ok (v_list vs)) ≡ ok v
      → bind (read_items (elements js t) (element_of t r)) (λ vs. ok (v_list vs)) ≡ ok v → Respelled t r (jarr p is) (jarr q js)
  list-case p q is js h k e f =
      let a = steps (read_items (elements is t) (element_of t r)) _ v e in
      let b = steps (read_items (elements js t) (element_of t r)) _ v f in
      let z : b.val ≡ a.val = cc (a.then, b.then) in
      spell.items k (items-only t (element_of t r) is js a.val h a.first (rw z at b.first))

  array-case : (p q : ℕ) (is js : Items) → ((r : ℕ) → Only t (jnull 0) r) → OnlyItems t is → is_array t r ≡ true → bind (read_elements t r p (elements is t) 0 (count_of t r)) (λ ps. ok (v_seq ps)) ≡ ok v
      → bind (read_elements t r q (elements js t) 0 (count_of t r)) (λ ps. ok (v_seq ps)) ≡ ok v → Respelled t r (jarr p is) (jarr q js)
  array-case p q is js n h k e f =
      let a = steps (read_elements t r p (elements is t) 0 (count_of t r)) _ v e in
      let b = steps (read_elements t r q (elements js t) 0 (count_of t r)) _ v f in
      let z : b.val ≡ a.val = cc (a.then, b.then) in
      spell.elements k (elements-only t n r p q (count_of t r) 0 is js a.val h (omega arith) a.first (rw z at b.first))

  brackets-case : {k : Json} (p : ℕ) (is : Items) → ((r : ℕ) → Only t (jnull 0) r) → OnlyItems t is → Shape tok.Array k → read (jarr p is) t r ≡ ok v → read k t r ≡ ok v → Respelled t r (jarr p is) k
  unfolding read_array
  brackets-case p is n h (is_brackets {p = q} {is = js}) e f =
      go (eqb (kind_of t r) SEQUENCE-OF) refl (is_array t r) refl (sym (brackets_as t r p is w) ∙ e) (sym (brackets_as t r q js w) ∙ f)
    where
      go : (c : Bool) → eqb (kind_of t r) SEQUENCE-OF ≡ c → (d : Bool) → is_array t r ≡ d → read_array t p (elements is t) r ≡ ok v → read_array t q (elements js t) r ≡ ok v → Respelled t r (jarr p is) (jarr q js)
      go true c d a e f = list-case p q is js h (eqb-true _ _ c) (rw (c, read_array) at e) (rw (c, read_array) at f)
      go false c true a e f = array-case p q is js n h a (rw (c, a, read_array) at e) (rw (c, a, read_array) at f)
      go false c false a e f = refused (rw (c, a, read_array) at e)

  -- ---- objects

  braces-case : {k : Json} (p : ℕ) (ms : Members) → OnlyMembers t ms → Shape tok.Object k → read (jobj p ms) t r ≡ ok v → read k t r ≡ ok v → Respelled t r (jobj p ms) k
  unfolding read_braces
  braces-case p ms h (is_braces {p = q} {ms = ns}) e f =
      go (eqb (kind_of t r) CHOICE) refl (eqb (kind_of t r) SEQUENCE && not (is_array t r)) refl (sym (braces_as t r p ms w) ∙ e) (sym (braces_as t r q ns w) ∙ f)
    where
      go : (c : Bool) → eqb (kind_of t r) CHOICE ≡ c → (d : Bool) → (eqb (kind_of t r) SEQUENCE && not (is_array t r)) ≡ d → read_braces t p (entries ms t) r ≡ ok v → read_braces t q (entries ns t) r ≡ ok v
          → Respelled t r (jobj p ms) (jobj q ns)
      go true c d a e f = choice-only t r p q ms ns v h (eqb-true _ _ c) w (rw (c, read_braces) at e) (rw (c, read_braces) at f)
      go false c true a e f = let b = (both _ _).0 a in object-only t r p q ms ns v h (eqb-true _ _ b.0) (not-true _ b.1) (rw (c, a, read_braces) at e) (rw (c, a, read_braces) at f)
      go false c false a e f = refused (rw (c, a, read_braces) at e)

-- ---- trees

module _ (t : Table) (g : Sane t) where
  null-only : (p r : ℕ) → Only t (jnull p) r
  unfolding token_in
  null-only p = from-plain t g (jnull p) (λ r w k v e f. nulls is_null (same_shape t r w v (jnull p) k e f))

  mutual
    unfolding token_in

    plain-only : (j : Json) (r : ℕ) → is_unwrapped t r ≡ false → Only t j r
    plain-only (jnull p) r w k v e f = null-only p r k v e f
    plain-only (jbool p b) r w k v e f = bool_case t r w v p b (same_shape t r w v (jbool p b) k e f) e f
    plain-only (jint p m n) r w k v e f = int-case t r w v p m n (same_shape t r w v (jint p m n) k e f) e f
    plain-only (jreal p) r w k v e f = real-plain t r w v p e
    plain-only (jstr p s) r w k v e f = string-case t r w v p s (same_shape t r w v (jstr p s) k e f) e f
    plain-only (jarr p is) r w k v e f = brackets-case t r w v p is (null-only 0) (items-all is) (same_shape t r w v (jarr p is) k e f) e f
    plain-only (jobj p ms) r w k v e f = braces-case t r w v p ms (members-all ms) (same_shape t r w v (jobj p ms) k e f) e f

    items-all : (is : Items) → OnlyItems t is
    items-all inil = tt
    items-all (icons j is) = (from-plain t g j (λ r w k v e f. plain-only j r w k v e f), items-all is)

    members-all : (ms : Members) → OnlyMembers t ms
    members-all mnil = tt
    members-all (mcons p s j ms) = (from-plain t g j (λ r w k v e f. plain-only j r w k v e f), members-all ms)

pub respelled_only : {t : Table} {r : ℕ} {j k : Json} {v : Val} → Sane t → read j t r ≡ ok v → read k t r ≡ ok v → Respelled t r j k
respelled_only {t} {r} {j} {k} {v} g e f = from-plain t g j (plain-only t g j) r k v e f
