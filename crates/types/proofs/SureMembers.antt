-- The quick pass: the members of a type, what a row points to, and the table. Assumes nothing.
use mathlib.Core.Path.{◌≡◌, refl, sym, ap, ◌∙◌}
use mathlib.Core.List.{List}
use mathlib.Core.Bool.{Bool, true, false, not}
use Prim.Native.Nat.{ℕ, zero, suc, ◌+◌, ◌-◌, ◌*◌, ◌/◌, ◌%◌, ◌<◌, ◌≤◌}
use native.Mathlib.Omega.{arith}
use borrow.Author.Tests.{eqb-true, eqb-false, eq-eqb, ne_eqb}
use lib.Dec.{eqb}
use lib.ListN.{length, get_or, set, replicate, drop, length-drop, length-set, length-replicate}
use lib.Seq.{length-take-le, get_or-set_same, get_or-set_other}
use Rattle.jer.proofs.ValidLaws.{same_bytes-eq}
use Rattle.jer.specs.Table.{Table, row_count, field, is_type, is_array, is_unwrapped, carries, tag_of, first_of, count_of, member_row, optional, type_at, name_in, name_at, same_bytes, table}
use Rattle.jer.specs.Valid.{every, owns_members, good_pointers, all_differ, names_differ, none_optional, good_array, good_unwrapped}
use Rattle.json_text.specs.Bytes.{pick}
use Rattle.jer.specs.declared.Layout.{Layout}
use Rattle.jer.specs.declared.Layout.TheVariants.{Bare, Lists, Names, Unknown}
use Rattle.types.specs.declared.row.Row.{Row}
use Rattle.types.specs.Rows.{row_of}
use Rattle.types.specs.Check as check
use Rattle.types.specs.Sure.{NameInside, BlockInside, sign_of, Apart, Fits, SureMember, SureMembers, SureLinks}
use Rattle.types.proofs.RuleLaws.{holder, pointers-bare, pointers-members, pointers-element, pointers-member, pointers-unknown, rules-plain, rules-enumerated, rules-array, rules-sequence, rules-unwrapped, rules-choice}
use Rattle.types.proofs.RowLaws.{tag_is}
use Rattle.types.proofs.SureLaws.{no_true, split-next}

pub count-is : (rows ns : List ℕ) {n : ℕ} → n ≡ row_count (table rows ns) → n ≡ length rows / 8
unfolding row_count
count-is rows ns e = e

-- ---- names

pub name-length : (t : Table) (m : ℕ) (s : List ℕ) → 1 ≤ field t m 4 → NameInside t m → s ≡ name_in t m → 1 ≤ length s
unfolding name_in
name-length t m s l h e =
    let g : length (name_in t m) ≡ field t m 4 = length-take-le (field t m 4) (drop (field t m 3) t.names) (omega (arith, length-drop (field t m 3) t.names)) in
    let z : length s ≡ length (name_in t m) = ap (λ (x : List ℕ). length x) e in
    omega (arith, g, z)

-- equal names have equal signs
signs_differ : (x y : List ℕ) → (sign_of x ≡ sign_of y → ⊥) → same_bytes x y ≡ false
signs_differ x y h = go (same_bytes x y) refl
  where
    go : (b : Bool) → same_bytes x y ≡ b → same_bytes x y ≡ false
    go true e = absurd (h (ap sign_of (same_bytes-eq x y e)))
    go false e = e

pub sign-told : (s : List ℕ) {a b c d : ℕ} → a ≡ get_or s 0 0 → b ≡ get_or s (length s - 1) 0 → c ≡ get_or s (length s / 2) 0 → d ≡ get_or s (length s / 3) 0
    → (a * 5 + b * 3 + (c * 11 + d * 7) + length s % 256) % 256 ≡ sign_of s
unfolding sign_of
sign-told s p q u v = rw (p, q, u, v)

-- j members from the row first on are sure, and their signs are marked
pub record SoFar (t : Table) (first marks types : ℕ) (seen : List Bool) (j : ℕ) : Type 0 where
  pub sure : (i : ℕ) → i < j → SureMember t first marks types i
  pub marked : (i : ℕ) → i < j → get_or seen (sign_of (name_in t (first + i))) false ≡ true
  pub size : length seen ≡ 256

pub so_far_starts : (t : Table) (first marks types : ℕ) → SoFar t first marks types (replicate 256 false) 0
so_far_starts t first marks types = record {
  sure = λ i l. absurd (omega arith);
  marked = λ i l. absurd (omega arith);
  size = length-replicate {A = Bool} 256 false;
}

module _ (t : Table) (first marks types : ℕ) (seen : List Bool) (j s : ℕ) (name : List ℕ) (f : SoFar t first marks types seen j)
    (p : name ≡ name_in t (first + j)) (q : s ≡ sign_of name) where
  apart-all : (get_or seen s false ≡ true → Apart t first j name) → Apart t first j (name_in t (first + j))
  apart-all g i l = rw (sym p) (go (get_or seen s false) refl)
    where
      go : (b : Bool) → get_or seen s false ≡ b → same_bytes (name_in t (first + i)) name ≡ false
      go true e = g e i l
      go false e =
          signs_differ (name_in t (first + i)) name
          (λ z. let y : sign_of (name_in t (first + i)) ≡ s = z ∙ sym q in
          let x : get_or seen s false ≡ true = ap (λ (k : ℕ). get_or seen k false) (sym y) ∙ f.marked i l in
          no_true (sym e ∙ x))

  marked_all : s < 256 → (i : ℕ) → i < j + 1 → get_or (set seen s true) (sign_of (name_in t (first + i))) false ≡ true
  marked_all h = split-next (λ i. get_or (set seen s true) (sign_of (name_in t (first + i))) false ≡ true) j old new
    where
      here : (k : ℕ) → k ≡ s → get_or (set seen s true) k false ≡ true
      here k e = rw e (get_or-set_same seen s true false (omega (arith, f.size)))

      new : get_or (set seen s true) (sign_of (name_in t (first + j))) false ≡ true
      new = here (sign_of (name_in t (first + j))) (ap sign_of (sym p) ∙ sym q)

      old : (i : ℕ) → i < j → get_or (set seen s true) (sign_of (name_in t (first + i))) false ≡ true
      old i l = go (eqb (sign_of (name_in t (first + i))) s) refl
        where
          go : (b : Bool) → eqb (sign_of (name_in t (first + i))) s ≡ b → get_or (set seen s true) (sign_of (name_in t (first + i))) false ≡ true
          go true e = here (sign_of (name_in t (first + i))) (eqb-true (sign_of (name_in t (first + i))) s e)
          go false e = get_or-set_other seen s (sign_of (name_in t (first + i))) true false (eqb-false (sign_of (name_in t (first + i))) s e) ∙ f.marked i l

  pub so_far_next : Fits t (first + j) marks types → s < 256 → (get_or seen s false ≡ true → Apart t first j name) → SoFar t first marks types (set seen s true) (j + 1)
  so_far_next u h g = record {
    sure = split-next (λ i. SureMember t first marks types i) j f.sure (record { fit = u; own = apart-all g });
    marked = marked_all h;
    size = length-set seen s true ∙ f.size;
  }

pub members-room : (t : Table) (r : ℕ) {w : Row} {first count : ℕ} → w ≡ row_of t r → first ≡ w.first → count ≡ w.members → BlockInside t r
    → first + count ≤ length t.rows / 8
members-room t r {w = w} {first = first} {count = count} e p q h =
    let a : first ≡ first_of t r = p ∙ ap (λ (x : Row). x.first) e in
    let b : count ≡ count_of t r = q ∙ ap (λ (x : Row). x.members) e in
    omega arith

pub members-told : (t : Table) (r marks types : ℕ) {w : Row} {first count j : ℕ} {seen : List Bool} → w ≡ row_of t r → first ≡ w.first → count ≡ w.members
    → count ≤ j → SoFar t first marks types seen j → SureMembers t r marks types
members-told t r marks types {w = w} {first = first} {count = count} e p q h f i l =
    let a : first ≡ first_of t r = p ∙ ap (λ (x : Row). x.first) e in
    let b : count ≡ count_of t r = q ∙ ap (λ (x : Row). x.members) e in
    rw (sym a) (f.sure i (omega arith))

-- ---- what a row points to

every_true : (f : ℕ → Bool) (n i : ℕ) → ((k : ℕ) → k < i + n → f k ≡ true) → true ≡ every f i n
unfolding every
every_true f zero i h = refl
every_true f (suc n) i h = rw (h i (omega arith), every) (every_true f n (suc i) (λ k l. h k (omega arith)))

module _ (t : Table) (r : ℕ) {marks types : ℕ} (s : SureMembers t r marks types) where
  owned : true ≡ owns_members t r
  unfolding member_row
  owned = every_true _ (count_of t r) 0 (λ k l. eq-eqb (tag_of t (first_of t r + k)) 9 (s k (omega arith)).fit.kind)

  differ : true ≡ names_differ t r
  unfolding names_differ all_differ name_at member_row
  differ =
      every_true (λ j. every (λ i. not (same_bytes (name_in t (first_of t r + i)) (name_in t (first_of t r + j)))) 0 j) (count_of t r) 0
      (λ j l. sym (every_true (λ i. not (same_bytes (name_in t (first_of t r + i)) (name_in t (first_of t r + j)))) j 0 (λ i m. ap not ((s j (omega arith)).own i (omega arith)))))

  required : marks ≡ 0 → true ≡ none_optional t r
  unfolding none_optional optional member_row
  required z =
      every_true (λ i. not (eqb (field t (first_of t r + i) 1) 1)) (count_of t r) 0
      (λ k l. ap not (ne_eqb (field t (first_of t r + k) 1) 1 (λ e. let m : field t (first_of t r + k) 1 ≤ marks = (s k (omega arith)).fit.mark in absurd (omega arith))))

  untyped : types ≡ 0 → true ≡ check.untyped t r
  unfolding type_at member_row
  untyped z =
      every_true (λ i. eqb (field t (first_of t r + i) 2) 0) (count_of t r) 0
      (λ k l. eq-eqb (field t (first_of t r + k) 2) 0 (let m : field t (first_of t r + k) 2 ≤ types = (s k (omega arith)).fit.type in omega arith))

module _ (t : Table) (r : ℕ) {w : Row} (e : w ≡ row_of t r) where
  module _ {l : Layout} (c : l ≡ (carries (tag_of t r)).layout) where
    plain : {b : Bool} → holder l ≡ false → b ≡ good_pointers t r → b ≡ true → SureLinks t r
    plain k p h = record { pointers = sym p ∙ h; rules = sym (rules-plain t r (ap holder (sym c) ∙ k)) }

    pub links-bare : l ≡ Bare → SureLinks t r
    unfolding holder
    links-bare k = plain (ap holder k) (pointers-bare t r e c k) refl

    pub links-unknown : l ≡ Unknown → SureLinks t r
    unfolding holder
    links-unknown k = plain (ap holder k) (pointers-unknown t r e c k) refl

    module _ {a : ℕ} {b : Bool} (p : a ≡ w.first) (g : b ≡ is_type t a) where
      pub links-element : l ≡ Lists → b ≡ true → SureLinks t r
      unfolding holder
      links-element k h = plain (ap holder k) (pointers-element t r e c k p g) h

      pub links-member : l ≡ Names → b ≡ true → SureLinks t r
      unfolding holder
      links-member k h = plain (ap holder k) (pointers-member t r e c k p g) h

  holds : {k : ℕ} → w.kind ≡ k → (carries (tag_of t r)).layout ≡ (carries k).layout
  holds k = ap (λ (n : ℕ). (carries n).layout) (tag_is t r e k)

  pub links-enumerated : w.kind ≡ 2 → SureMembers t r 0 0 → SureLinks t r
  unfolding carries pick
  links-enumerated k s = record {
    pointers = sym (pointers-members t r e (sym (holds k)) refl (owned t r s));
    rules = sym (rules-enumerated t r e (differ t r s) k (required t r s refl) (untyped t r s refl));
  }

  module _ {types : ℕ} (k : w.kind ≡ 6) (s : SureMembers t r 1 types) {a : Bool} (p : a ≡ is_array t r) where
    pub links-array : {g : Bool} → a ≡ true → g ≡ good_array t r → g ≡ true → SureLinks t r
    unfolding carries pick
    links-array h q z = record {
      pointers = sym (pointers-members t r e (sym (holds k)) refl (owned t r s));
      rules = sym (rules-array t r e (differ t r s) k p h (sym z ∙ q));
    }

    pub links-sequence : a ≡ false → SureLinks t r
    unfolding carries pick
    links-sequence h = record {
      pointers = sym (pointers-members t r e (sym (holds k)) refl (owned t r s));
      rules = sym (rules-sequence t r e (differ t r s) k p h);
    }

  module _ {types : ℕ} (k : w.kind ≡ 8) (s : SureMembers t r 0 types) {u : Bool} (p : u ≡ is_unwrapped t r) where
    pub links-unwrapped : {g : Bool} → u ≡ true → g ≡ good_unwrapped t r → g ≡ true → SureLinks t r
    unfolding carries pick
    links-unwrapped h q z = record {
      pointers = sym (pointers-members t r e (sym (holds k)) refl (owned t r s));
      rules = sym (rules-unwrapped t r e (differ t r s) k (required t r s refl) p h (sym z ∙ q));
    }

    pub links-choice : u ≡ false → SureLinks t r
    unfolding carries pick
    links-choice h = record {
      pointers = sym (pointers-members t r e (sym (holds k)) refl (owned t r s));
      rules = sym (rules-choice t r e (differ t r s) k (required t r s refl) p h);
    }
