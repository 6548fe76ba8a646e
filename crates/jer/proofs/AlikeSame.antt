-- Answers that agree but for places: laws of results, leaves and UNWRAPPED choices.
use Rattle.jer.specs.declared.Token.{Token}
use Prim.Native.Nat.{ℕ, zero, suc, ◌^◌}
use mathlib.Core.Path.{refl}
use mathlib.Core.List.{List, [], ◌∷◌}
use mathlib.Core.Bool.{Bool, true, false, ◌&&◌}
use Rattle.std.specs.Prelude.{Option, None, Some}
use lib.Dec.{eqb, ltb, leb}
use Rattle.json_text.specs.Bytes.{Row, on, pick}
use Rattle.jer.specs.declared.Cause.{Cause}
use Rattle.jer.specs.Table.{Table, ENUMERATED, OCTET-STRING, UTF8String, kind_of, extensible, is_unwrapped, type_at, position, alternative}
use Rattle.jer.specs.Value.{Val}
use Rattle.jer.specs.Answer.{Res, ok, bind, at, number_of}
use Rattle.jer.specs.Read.{Meaning, read_int, read_item, read_octets, octets_of, read_string, at_kind, picked, unwrapping}
use Rattle.jer.specs.Skipped.{SameAnswer, same_value, same_number}

-- ---- results

-- the same cause at two places
pub same_cause : {A : Type 0} (c : Cause) (p q : ℕ) → SameAnswer {A = A} (at c p) (at c q)
unfolding number_of
same_cause c p q = same_number refl

pub same-bind : {A B : Type 0} {x y : Res A} {f g : A → Res B} → SameAnswer x y → ((a : A) → SameAnswer (f a) (g a)) → SameAnswer (bind x f) (bind y g)
unfolding bind
same-bind (same_value {a = a}) h = h a
same-bind (same_number e) h = same_number e

pub same_map : {A B : Type 0} {x y : Res A} (f : A → B) → SameAnswer x y → SameAnswer (bind x (λ a. ok (f a))) (bind y (λ a. ok (f a)))
same_map f h = same-bind h (λ a. same_value)

-- one test with two outcomes in each
pub same_test : {A : Type 0} (c : Bool) {x y u w : Res A} → SameAnswer x y → SameAnswer u w
    → SameAnswer {A = A} (elim c [ true ↦ x | false ↦ u ]) (elim c [ true ↦ y | false ↦ w ])
same_test true h k = h
same_test false h k = k

same-pick : {A : Type 0} (k lo hi : ℕ) (f g : ℕ → Res A) (rs us : List (Row (Res A))) (x y : Res A) → SameAnswer (f k) (g k) → SameAnswer (pick k rs x) (pick k us y)
    → SameAnswer (pick k (on lo hi f ∷ rs) x) (pick k (on lo hi g ∷ us) y)
unfolding pick
same-pick k lo hi f g rs us x y h t = same_test (leb lo k && leb k hi) h t

-- ---- leaves

module _ (t : Table) (p q : ℕ) where
  pub int_same : (m : Bool) (n : ℕ) → SameAnswer (read_int p m n) (read_int q m n)
  unfolding read_int
  int_same false n = same_test (ltb n (2 ^ 63)) same_value (same_cause _ p q)
  int_same true zero = same_value
  int_same true (suc n) = same_test (leb (suc n) (2 ^ 63)) same_value (same_cause _ p q)

  item-same : (r : ℕ) (x : Option ℕ) → SameAnswer (read_item t r p x) (read_item t r q x)
  unfolding read_item
  item-same r None = same_test (extensible t r) (same_cause _ p q) (same_cause _ p q)
  item-same r (Some i) = same_value

  pub octets-same : (x : Option (List ℕ)) → SameAnswer (read_octets p x) (read_octets q x)
  unfolding read_octets
  octets-same None = same_cause _ p q
  octets-same (Some os) = same_value

  nothing-same : (k : ℕ) (c : Cause) → SameAnswer {A = Val} (pick k [] (at c p)) (pick k [] (at c q))
  unfolding pick
  nothing-same k c = same_cause c p q

  pub string-same : (s : List ℕ) (r : ℕ) → SameAnswer (read_string t p s r) (read_string t q s r)
  unfolding read_string
  string-same s r =
      same-pick (kind_of t r) ENUMERATED ENUMERATED _ _ _ _ _ _ (item-same r (position t r s))
      (same-pick (kind_of t r) OCTET-STRING OCTET-STRING _ _ _ _ _ _ (octets-same (octets_of t r s))
      (same-pick (kind_of t r) UTF8String UTF8String _ _ _ _ _ _ same_value (nothing-same (kind_of t r) _)))

  pub kind-same : (k r : ℕ) {x y : Res Val} → SameAnswer x y → SameAnswer (at_kind t r k p x) (at_kind t r k q y)
  unfolding at_kind
  kind-same k r h = same_test (eqb (kind_of t r) k) h (same_cause _ p q)

  -- ---- UNWRAPPED choices

  picked_same : (f g : Meaning) (r : ℕ) → ((r : ℕ) → SameAnswer (f r) (g r)) → (x : Option ℕ) → SameAnswer (picked t r p f x) (picked t r q g x)
  unfolding picked
  picked_same f g r h None = same_test (extensible t r) (same_cause _ p q) (same_cause _ p q)
  picked_same f g r h (Some i) = same_map _ (h (type_at t r i))

  pub unwrapping-same : (k : Token) (f g : Meaning) → ((r : ℕ) → SameAnswer (f r) (g r)) → (r : ℕ) → SameAnswer (unwrapping t k p f r) (unwrapping t k q g r)
  unfolding unwrapping
  unwrapping-same k f g h r = same_test (is_unwrapped t r) (picked_same f g r h (alternative t r k)) (h r)
