-- The typed reading of leaves, by the kind of the type.
use Prim.Native.Nat.{ℕ}
use mathlib.Core.Path.{◌≡◌, refl, ◌∙◌}
use mathlib.Core.List.{List}
use mathlib.Core.Bool.{Bool, true, false}
use Rattle.std.specs.Prelude.{Some}
use native.Mathlib.Omega.{arith}
use lib.Dec.{eqb}
use Rattle.json_text.proofs.Feed.{pick-row}
use Rattle.json_text.proofs.SoundRows.{◌⨾◌}
use Rattle.json_text.specs.Tree.{jnull, jbool, jint, jstr}
use Rattle.jer.specs.Table.{Table, kind_of, is_unwrapped, is_base64, position, BOOLEAN, INTEGER, ENUMERATED, NULL, OCTET-STRING, UTF8String, CHOICE}
use Rattle.jer.specs.Value.{v_null, v_bool, v_int, v_enum, v_bytes}
use Rattle.jer.specs.Answer.{ok}
use Rattle.jer.specs.Octets.{unhex, unbase64}
use Rattle.jer.specs.Read.{read, read_int, read_string, read_item, read_octets, octets_of, unwrapping, at_kind}

pub not-unwrapped : (t : Table) (r k : ℕ) → kind_of t r ≡ k → eqb k CHOICE ≡ false → is_unwrapped t r ≡ false
unfolding is_unwrapped
not-unwrapped t r k e f = rw (e, f)

module _ (t : Table) (r p : ℕ) where
  pub read-null : kind_of t r ≡ NULL → read (jnull p) t r ≡ ok v_null
  unfolding read unwrapping at_kind
  read-null e = rw (not-unwrapped t r NULL e refl, unwrapping) (rw (e, at_kind))

  pub read_bool : (b : Bool) → kind_of t r ≡ BOOLEAN → read (jbool p b) t r ≡ ok (v_bool b)
  unfolding read unwrapping at_kind
  read_bool b e = rw (not-unwrapped t r BOOLEAN e refl, unwrapping) (rw (e, at_kind))

  pub read_int_lem : (n x : ℕ) (m : Bool) → kind_of t r ≡ INTEGER → read_int p m n ≡ ok (v_int x) → read (jint p m n) t r ≡ ok (v_int x)
  unfolding read unwrapping at_kind
  read_int_lem n x m e h = rw (not-unwrapped t r INTEGER e refl, unwrapping) (rw (e, at_kind) h)

  read-string : (x : List ℕ) (k : ℕ) → kind_of t r ≡ k → eqb k CHOICE ≡ false → read (jstr p x) t r ≡ read_string t p x r
  unfolding read unwrapping
  read-string x k e f = rw (not-unwrapped t r k e f, unwrapping)

  pub read-item : (x : List ℕ) (k : ℕ) → kind_of t r ≡ ENUMERATED → position t r x ≡ Some k → read (jstr p x) t r ≡ ok (v_enum k)
  unfolding read_string read_item
  read-item x k e h = read-string x ENUMERATED e refl ∙ pick-row 0 (kind_of t r) _ _ (omega arith) ∙ rw (h, read_item)

  pub read-utf8 : (x : List ℕ) → kind_of t r ≡ UTF8String → read (jstr p x) t r ≡ ok (v_bytes x)
  unfolding read_string
  read-utf8 x e = read-string x UTF8String e refl ∙ pick-row 2 (kind_of t r) _ _ ((λ i. omega arith) ⨾ (λ i. omega arith) ⨾ (omega arith))

  read-octets : (x os : List ℕ) → kind_of t r ≡ OCTET-STRING → octets_of t r x ≡ Some os → read (jstr p x) t r ≡ ok (v_bytes os)
  unfolding read_string read_octets
  read-octets x os e h = read-string x OCTET-STRING e refl ∙ pick-row 1 (kind_of t r) _ _ ((λ i. omega arith) ⨾ (omega arith)) ∙ rw (h, read_octets)

  pub read-hex : (x os : List ℕ) → kind_of t r ≡ OCTET-STRING → is_base64 t r ≡ false → unhex x ≡ Some os → read (jstr p x) t r ≡ ok (v_bytes os)
  unfolding octets_of
  read-hex x os e f h = read-octets x os e (rw (f, octets_of) h)

  pub read-base64 : (x os : List ℕ) → kind_of t r ≡ OCTET-STRING → is_base64 t r ≡ true → unbase64 x ≡ Some os → read (jstr p x) t r ≡ ok (v_bytes os)
  unfolding octets_of
  read-base64 x os e f h = read-octets x os e (rw (f, octets_of) h)
