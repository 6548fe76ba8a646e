-- The number in a row's field 0, and the kind that it is read and written as: what the form of a number keeps.
use Rattle.std.specs.Prelude.{is_some}
use Prim.Native.Nat.{ℕ, ◌<◌}
use mathlib.Core.Path.{◌≡◌, refl, sym, ap, ◌∙◌}
use mathlib.Core.Bool.{Bool, true, false, false≢true}
use lib.Dec.{eqb}
use borrow.Author.Tests.{eqb-true}
use Rattle.json_text.specs.Bytes.{pick}
use Rattle.jer.specs.Table.{Table, CHOICE, carries, type_kind, tag_of, form_of, kind_of, is_type}

-- how a row uses its fields
pub form_layout : (n : ℕ) → (carries (form_of n)).layout ≡ (carries n).layout
unfolding form_of
form_layout n = refl

-- whether it is a type's
pub form_type : (n : ℕ) → type_kind (form_of n) ≡ type_kind n
unfolding form_of
form_type n = refl

-- no other number has the form of a choice
pub form_choice : (n : ℕ) → form_of n ≡ CHOICE → n ≡ CHOICE
unfolding form_of
form_choice n e = e

-- 0 is the number of no row but a BOOLEAN's
pub form_some : (n : ℕ) → 0 < form_of n → 0 < n
unfolding form_of
form_some n l = l

-- as yet each number is its own form; the code goes by it
pub kind_tag : (t : Table) (r : ℕ) → kind_of t r ≡ tag_of t r
unfolding kind_of form_of
kind_tag t r = refl

module _ (t : Table) (r : ℕ) where
  pub tag_kind : (n : ℕ) → tag_of t r ≡ n → kind_of t r ≡ form_of n
  unfolding kind_of
  tag_kind n e = ap form_of e

  pub kind-layout : (k : ℕ) → kind_of t r ≡ k → (carries (tag_of t r)).layout ≡ (carries k).layout
  unfolding kind_of
  kind-layout k e = sym (form_layout (tag_of t r)) ∙ ap (λ (n : ℕ). (carries n).layout) e

  pub kind-type : (k : ℕ) → kind_of t r ≡ k → type_kind k ≡ true → is_type t r ≡ true
  unfolding kind_of is_type
  kind-type k e h = sym (form_type (tag_of t r)) ∙ ap type_kind e ∙ h

  pub kind-some : 0 < kind_of t r → 0 < tag_of t r
  unfolding kind_of
  kind-some l = form_some (tag_of t r) l

  pub choice_tag : kind_of t r ≡ CHOICE → tag_of t r ≡ CHOICE
  unfolding kind_of
  choice_tag e = form_choice (tag_of t r) e

-- a type's row is not taken for that of an absent member
pub type-present : (t : Table) (r : ℕ) → is_type t r ≡ true → eqb (tag_of t r) 15 ≡ false
unfolding is_type type_kind carries pick
type-present t r h = go (eqb (tag_of t r) 15) refl
  where
    go : (c : Bool) → eqb (tag_of t r) 15 ≡ c → c ≡ false
    go true w = absurd (false≢true (rw (eqb-true (tag_of t r) 15 w) at h))
    go false w = refl
