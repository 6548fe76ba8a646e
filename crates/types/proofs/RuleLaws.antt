-- The second and the third pass. Assumes nothing.
use mathlib.Core.Path.{◌≡◌, refl, sym, ap, ◌∙◌}
use mathlib.Core.Bool.{Bool, true, false, false≢true, ◌&&◌, and_assoc, and-true}
use Prim.Native.Nat.{ℕ}
use Rattle.json_text.specs.Bytes.{pick}
use Rattle.jer.specs.declared.Layout.{Layout}
use Rattle.jer.specs.declared.Layout.TheVariants.{Bare, Holds, Lists, Names, Unknown}
use Rattle.jer.specs.Table.{Table, carries, tag_of, kind_of, is_type, is_array, is_unwrapped, first_of, element_of, count_of}
use Rattle.jer.specs.Valid.{every, all_differ, implies, owns_members, good_links, good_pointers, names_differ, none_optional, good_array, good_unwrapped, good_rules}
use Rattle.types.specs.declared.row.Row.{Row}
use Rattle.types.specs.Rows.{row_of}
use Rattle.types.specs.Check.{name_is_new, token_is_new, untyped, tokens_differ}
use Rattle.jer.proofs.Forms.{kind-layout}
use Rattle.types.proofs.ByteLaws.{other}
use Rattle.types.proofs.RowLaws.{kind-is, kind-not}

-- whether a row laid out so has members
unfoldable pub holder : Layout → Bool
holder Bare = false
holder (Holds least) = true
holder Lists = false
holder Names = false
holder Unknown = false

-- a row without members has no other rules
module _ (t : Table) (r : ℕ) (h : holder (carries (tag_of t r)).layout ≡ false) where
  no_kind : (k : ℕ) → holder (carries k).layout ≡ true → kind_of t r ≡ k → ⊥
  no_kind k y q = false≢true (sym h ∙ ap holder (kind-layout t r k q) ∙ y)

  pub rules-plain : true ≡ good_rules t r
  unfolding good_rules carries pick holder
  rules-plain = rw (other (kind_of t r) 2 (no_kind 2 refl), other (kind_of t r) 6 (no_kind 6 refl), other (kind_of t r) 8 (no_kind 8 refl), pick)

-- ---- the members of a type, one by one

module _ (t : Table) (r : ℕ) where
  pub all-name_is_new : every (name_is_new t r) 0 (count_of t r) ≡ names_differ t r
  unfolding name_is_new names_differ all_differ
  all-name_is_new = refl

  pub all-token_is_new : every (token_is_new t r) 0 (count_of t r) ≡ tokens_differ t r
  unfolding token_is_new all_differ
  all-token_is_new = refl

module _ (t : Table) (r : ℕ) {w : Row} (e : w ≡ row_of t r) where
  -- ---- by the kinds of the rows it points to

  module _ {l : Layout} (p : l ≡ (carries (tag_of t r)).layout) where
    pub pointers-bare : l ≡ Bare → true ≡ good_pointers t r
    unfolding good_pointers good_links
    pointers-bare k = rw (sym p ∙ k)

    pub pointers-members : {n : ℕ} {b : Bool} → l ≡ Holds n → b ≡ owns_members t r → b ≡ good_pointers t r
    unfolding good_pointers good_links
    pointers-members k q = q ∙ rw (sym p ∙ k)

    pub pointers-element : {a : ℕ} {b : Bool} → l ≡ Lists → a ≡ w.first → b ≡ is_type t a → b ≡ good_pointers t r
    unfolding good_pointers good_links element_of first_of
    pointers-element k u q = q ∙ rw (sym p ∙ k) (rw (u, e))

    pub pointers-member : {a : ℕ} {b : Bool} → l ≡ Names → a ≡ w.first → b ≡ is_type t a → b ≡ good_pointers t r
    unfolding good_pointers good_links first_of
    pointers-member k u q = q ∙ rw (sym p ∙ k) (rw (u, e))

    pub pointers-unknown : l ≡ Unknown → true ≡ good_pointers t r
    unfolding good_pointers good_links
    pointers-unknown k = rw (sym p ∙ k)

  -- ---- each type by its other rules

  module _ {n : Bool} (d : n ≡ names_differ t r) where
    pub rules-enumerated : {o u : Bool} → w.kind ≡ 2 → o ≡ none_optional t r → u ≡ untyped t r → (n && o && u) ≡ good_rules t r
    unfolding good_rules pick
    rules-enumerated k p q = rw (kind-is t r e k) (rw (d, p, q) (simp and_assoc))

    module _ {a : Bool} (k : w.kind ≡ 6) (p : a ≡ is_array t r) where
      pub rules-array : {g : Bool} → a ≡ true → g ≡ good_array t r → (n && g) ≡ good_rules t r
      unfolding good_rules pick implies
      rules-array h q = rw (kind-is t r e k, sym p ∙ h) (rw (d, q))

      pub rules-sequence : a ≡ false → n ≡ good_rules t r
      unfolding good_rules pick implies
      rules-sequence h = d ∙ rw (kind-is t r e k, sym p ∙ h, and-true)

    module _ {o u : Bool} (k : w.kind ≡ 8) (v : o ≡ none_optional t r) (p : u ≡ is_unwrapped t r) where
      pub rules-unwrapped : {g : Bool} → u ≡ true → g ≡ good_unwrapped t r → (n && o && g) ≡ good_rules t r
      unfolding good_rules pick implies
      rules-unwrapped h q = rw (kind-is t r e k, sym p ∙ h) (rw (d, v, q) (simp and_assoc))

      pub rules-choice : u ≡ false → (n && o) ≡ good_rules t r
      unfolding good_rules pick implies
      rules-choice h = rw (kind-is t r e k, sym p ∙ h, and-true) (rw (d, v))

  pub rules-none : (w.kind ≡ 2 → ⊥) → (w.kind ≡ 6 → ⊥) → (w.kind ≡ 8 → ⊥) → true ≡ good_rules t r
  unfolding good_rules pick
  rules-none h g f = rw (other (kind_of t r) 2 (kind-not t r e 2 h), other (kind_of t r) 6 (kind-not t r e 6 g), other (kind_of t r) 8 (kind-not t r e 8 f), pick)
