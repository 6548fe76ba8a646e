-- Arrays whose elements are read alike: as SEQUENCE OF and as SEQUENCE.
use Prim.Native.Nat.{ℕ, zero, suc, ◌+◌, ◌≤◌}
use mathlib.Core.Path.{◌≡◌, refl}
use mathlib.Core.List.{List, [], ◌∷◌}
use mathlib.Core.Bool.{true, ◌&&◌}
use Rattle.std.specs.Prelude.{Option, None, Some}
use native.Mathlib.Omega.{arith}
use lib.Dec.{eqb}
use Rattle.jer.specs.Table.{Table, SEQUENCE-OF, kind_of, extensible, is_array, element_of, count_of, type_at, may_miss, open_unwrapped}
use Rattle.jer.specs.Value.{Val, vcons, Parts, pnil, absent, present}
use Rattle.jer.specs.Answer.{Res, ok}
use Rattle.jer.specs.Read.{Element, with_absent, with_present, null_value, missing_element, read_element, surplus, read_elements, read_items, read_array}
use Rattle.jer.specs.Skipped.{SameAnswer, same_value}
use Rattle.jer.proofs.OlderAgrees.{Each, end, more}
use Rattle.jer.proofs.AlikeSame.{same_cause, same-bind, same_map, same_test}

-- ---- members one after the other

pub same-absent : {x y : Res Parts} → SameAnswer x y → SameAnswer (with_absent x) (with_absent y)
unfolding with_absent
same-absent h = same_map absent h

pub same-present : {v w : Res Val} {x y : Res Parts} → SameAnswer v w → SameAnswer x y → SameAnswer (with_present v x) (with_present w y)
unfolding with_present
same-present g h = same-bind g (λ v. same_map (present v) h)

-- ---- items

-- two elements that the row r reads alike
abbrev pub ReadAlike : ℕ → Element → Element → Type 0
ReadAlike r e f = SameAnswer (e.means r) (f.means r)

pub items-same : (r : ℕ) {es fs : List Element} → Each (ReadAlike r) es fs → SameAnswer (read_items es r) (read_items fs r)
unfolding read_items
items-same r end = same_value
items-same r (more h t) = same-bind h (λ v. same_map (vcons v) (items-same r t))

-- ---- elements in member order

-- The elements from i on: for a member of the type read alike, past the last one skipped.
pub data Elementwise (t : Table) (r : ℕ) : ℕ → List Element → List Element → Type 0 where
  done : {i : ℕ} → Elementwise t r i [] []
  each : {i : ℕ} {e f : Element} {es fs : List Element} → e.is_null ≡ f.is_null → SameAnswer (e.means (type_at t r i)) (f.means (type_at t r i)) → Elementwise t r (suc i) es fs
      → Elementwise t r i (e ∷ es) (f ∷ fs)
  rest : {i : ℕ} {es fs : List Element} → count_of t r ≤ i → extensible t r ≡ true → Elementwise t r i es fs

module _ (t : Table) (r o u : ℕ) where
  missing-same : (i : ℕ) → SameAnswer (missing_element t r o i) (missing_element t r u i)
  unfolding missing_element
  missing-same i = go (null_value t (type_at t r i)) (same_test (open_unwrapped t (type_at t r i)) (same_cause _ o u) (same_cause _ o u))
    where
      go : (x : Option Val) {y z : Res Val} → SameAnswer y z → SameAnswer {A = Val} (elim x [ Some v ↦ ok v | None ↦ y ]) (elim x [ Some v ↦ ok v | None ↦ z ])
      go None h = h
      go (Some v) h = same_value

  no-element-same : (i : ℕ) {x y : Res Parts} → SameAnswer x y → SameAnswer (read_element t r o i None x) (read_element t r u i None y)
  unfolding read_element
  no-element-same i h = same_test (may_miss t r i) (same-absent h) (same-present (missing-same i) h)

  element-same : (i : ℕ) (e f : Element) {x y : Res Parts} → e.is_null ≡ f.is_null → SameAnswer (e.means (type_at t r i)) (f.means (type_at t r i)) → SameAnswer x y
      → SameAnswer (read_element t r o i (Some e) x) (read_element t r u i (Some f) y)
  unfolding read_element
  element-same i e f z m h = rw (z, read_element) (same_test (f.is_null && may_miss t r i) (same-absent h) (same-present m h))

  pub surplus-skipped : (es : List Element) → extensible t r ≡ true → surplus t r es ≡ ok pnil
  unfolding surplus
  surplus-skipped [] x = refl
  surplus-skipped (e ∷ es) x = rw (x, surplus)

  surplus-same : (i : ℕ) {es fs : List Element} → Elementwise t r i es fs → SameAnswer (surplus t r es) (surplus t r fs)
  unfolding surplus
  surplus-same i done = same_value
  surplus-same i (each z m h) = same_test (extensible t r) same_value (same_cause _ _ _)
  surplus-same i (rest {es = es} {fs = fs} l x) = rw (surplus-skipped es x, surplus-skipped fs x) same_value

  pub elements_same : (i n : ℕ) {es fs : List Element} → i + n ≡ count_of t r → Elementwise t r i es fs → SameAnswer (read_elements t r o es i n) (read_elements t r u fs i n)
  unfolding read_elements
  elements_same i zero c h = surplus-same i h
  elements_same i (suc n) c done = no-element-same i (elements_same (suc i) n (omega arith) done)
  elements_same i (suc n) c (each {e = e} {f = f} z m h) = element-same i e f z m (elements_same (suc i) n (omega arith) h)
  elements_same i (suc n) c (rest l x) = absurd (omega arith)

  -- ---- an array

  pub array_same : {es fs : List Element} → Each (ReadAlike (element_of t r)) es fs → Elementwise t r 0 es fs → SameAnswer (read_array t o es r) (read_array t u fs r)
  unfolding read_array
  array_same g h =
      same_test (eqb (kind_of t r) SEQUENCE-OF)
      (same_map _ (items-same (element_of t r) g))
      (same_test (is_array t r) (same_map _ (elements_same 0 (count_of t r) (omega arith) h)) (same_cause _ o u))
