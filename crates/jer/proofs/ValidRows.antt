-- What the three passes over a type table say of one row.
use Rattle.std.specs.Prelude.{is_some}
use Rattle.jer.specs.declared.Carried.{Carried}
use Prim.Native.Nat.{ℕ, ◌+◌, ◌≤◌, ◌<◌}
use mathlib.Core.Path.{◌≡◌, refl}
use mathlib.Core.List.{List, [], ◌∷◌}
use mathlib.Core.Bool.{Bool, true, false, ◌&&◌, not, false≢true}
use mathlib.Core.Logic.{◌↔◌}
use native.Mathlib.Omega.{arith}
use lib.Dec.{eqb, leb}
use borrow.Author.Tests.{leb-true, eqb-true, eqb-false, not-true}
use Rattle.json_text.specs.Bytes.{Row, on, pick}
use Rattle.json_text.specs.Utf8.{utf8}
use Rattle.json_text.proofs.SoundRows.{pick-within, only, ◌⨾◌}
use Rattle.jer.specs.declared.Layout.TheVariants.{Bare, Holds, Lists, Names, Unknown}
use Rattle.jer.specs.Table.{Table, row_count, field, BOOLEAN, INTEGER, ENUMERATED, NULL, OCTET-STRING, UTF8String, SEQUENCE, SEQUENCE-OF, CHOICE, MEMBER, carries, type_kind, tag_of, form_of, kind_of, is_type, extensible, is_array, is_unwrapped, element_of, count_of, root_of, member_row, type_in, name_in}
use Rattle.jer.specs.Valid.{implies, unused, good_block, good_name, good_fields, good_alone, good_links, good_pointers, good_rules, names_differ, none_optional, good_array, good_unwrapped}
use Rattle.jer.proofs.ValidLaws.{every-at, every-below}
use Rattle.jer.proofs.Forms.{kind-type, tag_kind, kind-layout}

pub both : (a b : Bool) → ((a && b) ≡ true) ↔ ((a ≡ true) × (b ≡ true))
both true b = (λ e. (refl, e), λ e. e.1)
both false b = (λ e. absurd (false≢true e), λ e. e.0)

-- `pick` that unfolds everywhere: at a known kind it is the kind's row
abbrev pub pick_now : {A : Type 0} → ℕ → List (Row A) → A → A
pick_now b [] d = d
pick_now b (on lo hi f ∷ rs) d = elim (leb lo b && leb b hi) [ true ↦ f b | false ↦ pick_now b rs d ]

pub pick_now_lem : {A : Type 0} (b : ℕ) (rs : List (Row A)) (d : A) → pick b rs d ≡ pick_now b rs d
unfolding pick
pick_now_lem b [] d = refl
pick_now_lem {A} b (on lo hi f ∷ rs) d = go (leb lo b && leb b hi) (pick_now_lem b rs d)
  where
    go : (c : Bool) → pick b rs d ≡ pick_now b rs d → ◌≡◌ {A = A} (elim c [ true ↦ f b | false ↦ pick b rs d ]) (elim c [ true ↦ f b | false ↦ pick_now b rs d ])
    go true ih = refl
    go false ih = ih

-- ---- each row by itself

-- the kinds that have members
pub data Holder (k : ℕ) : Type 0 where
  enumerated : k ≡ ENUMERATED → Holder k
  sequence : k ≡ SEQUENCE → Holder k
  choice : k ≡ CHOICE → Holder k

-- the members of a type
pub record Block (t : Table) (r : ℕ) : Type 0 where
  pub few : count_of t r ≤ 64
  pub roots : root_of t r ≤ count_of t r
  pub closed : extensible t r ≡ false → root_of t r ≡ count_of t r
  pub inside : (i : ℕ) → i < count_of t r → member_row t r i < row_count t
  pub holder : (i : ℕ) → i < count_of t r → Holder (kind_of t r)

pub data Alone (t : Table) (r : ℕ) : Type 0 where
  a_type : is_type t r ≡ true → Block t r → Alone t r
  a_member : tag_of t r ≡ MEMBER → 0 < r → utf8 (name_in t r) ≡ true → Alone t r

-- the kinds of types, in the order of their lines
pub type_kinds : (type_kind BOOLEAN ≡ true) × (type_kind INTEGER ≡ true) × (type_kind ENUMERATED ≡ true) × (type_kind NULL ≡ true) × (type_kind OCTET-STRING ≡ true)
    × (type_kind UTF8String ≡ true) × (type_kind SEQUENCE ≡ true) × (type_kind SEQUENCE-OF ≡ true) × (type_kind CHOICE ≡ true)
unfolding type_kind carries pick
type_kinds = (refl, refl, refl, refl, refl, refl, refl, refl, refl)

tag_type : (t : Table) (r n : ℕ) → tag_of t r ≡ n → type_kind n ≡ true → is_type t r ≡ true
unfolding is_type
tag_type t r n e h = rw e h

pub enumerated-type : (t : Table) (r : ℕ) → kind_of t r ≡ ENUMERATED → is_type t r ≡ true
enumerated-type t r e = kind-type t r ENUMERATED e type_kinds.2

pub sequence-type : (t : Table) (r : ℕ) → kind_of t r ≡ SEQUENCE → is_type t r ≡ true
sequence-type t r e = kind-type t r SEQUENCE e type_kinds.6

pub choice-type : (t : Table) (r : ℕ) → kind_of t r ≡ CHOICE → is_type t r ≡ true
choice-type t r e = kind-type t r CHOICE e type_kinds.8

-- a member's row is no type's
pub member-no-type : {C : Type 0} (t : Table) (r : ℕ) → tag_of t r ≡ MEMBER → is_type t r ≡ true → C
unfolding is_type type_kind carries pick
member-no-type t r k h = absurd (false≢true (rw k at h))

pub block_empty : (t : Table) (r : ℕ) → count_of t r ≡ 0 → root_of t r ≡ 0 → Block t r
block_empty t r c o = record { few = omega arith; roots = omega arith; closed = λ e. omega arith; inside = λ i u. absurd (omega arith); holder = λ i u. absurd (omega arith) }

leaf-alone : (t : Table) (r i n : ℕ) → i ≤ 3 → 4 < i + n → is_type t r ≡ true → unused t r i n ≡ true → Alone t r
unfolding unused count_of root_of
leaf-alone t r i n l u k e = a_type k (block_empty t r (at 3 (omega arith) (omega arith)) (at 4 (omega arith) (omega arith)))
  where
    at : (j : ℕ) → i ≤ j → j < i + n → field t r j ≡ 0
    at j p q = eqb-true _ 0 (every-at _ i n e j p q)

block_alone : (t : Table) (r least : ℕ) → Holder (kind_of t r) → is_type t r ≡ true → good_block t r least ≡ true → Alone t r
unfolding good_block member_row
block_alone t r least k l e =
    let p = simp both at e in
    a_type l record { few = omega (arith, leb-true); roots = omega (arith, leb-true); closed = λ x. eqb-true _ _ (rw x at p.1.1.1.1.1); inside = λ i u. omega (arith, leb-true); holder = λ i u. k }

member-alone : (t : Table) (r : ℕ) → tag_of t r ≡ MEMBER → not (eqb r 0) ≡ true → good_name t r ≡ true → Alone t r
unfolding good_name
member-alone t r k n e = a_member k (let z = eqb-false r 0 (not-true _ n) in omega arith) (simp both at e).1.1.1

module _ (t : Table) (r : ℕ) where
  bare_fields : {k : ℕ} → tag_of t r ≡ k → type_kind k ≡ true → good_fields Bare t r ≡ true → Alone t r
  unfolding good_fields
  bare_fields k y e = leaf-alone t r 2 6 (omega arith) (omega arith) (tag_type t r _ k y) e

  holds_fields : {k : ℕ} (least : ℕ) → Holder (form_of k) → tag_of t r ≡ k → type_kind k ≡ true → good_fields (Holds least) t r ≡ true → Alone t r
  unfolding good_fields
  holds_fields least h k y e = block_alone t r least (rw (tag_kind t r _ k) h) (tag_type t r _ k y) (simp both at e).1.0

  lists_fields : {k : ℕ} → tag_of t r ≡ k → type_kind k ≡ true → good_fields Lists t r ≡ true → Alone t r
  unfolding good_fields
  lists_fields k y e = leaf-alone t r 3 5 (omega arith) (omega arith) (tag_type t r _ k y) (simp both at e).0

  names_fields : tag_of t r ≡ MEMBER → good_fields Names t r ≡ true → Alone t r
  unfolding good_fields
  names_fields k e = let p = simp both at e in member-alone t r k p.1.0 p.1.1.1

  no_fields : good_fields Unknown t r ≡ true → Alone t r
  unfolding good_fields
  no_fields e = absurd (false≢true e)

  pub alone : good_alone t r ≡ true → Alone t r
  unfolding good_alone carries form_of
  alone h =
      pick-within (λ (x : Carried). good_fields x.layout t r ≡ true → Alone t r) (tag_of t r) _ _
      ((λ k. bare_fields (only k) type_kinds.0)
      ⨾ (λ k. bare_fields (only k) type_kinds.1)
      ⨾ (λ k. holds_fields 1 (enumerated refl) (only k) type_kinds.2)
      ⨾ (λ k. bare_fields (only k) type_kinds.3)
      ⨾ (λ k. bare_fields (only k) type_kinds.4)
      ⨾ (λ k. bare_fields (only k) type_kinds.5)
      ⨾ (λ k. holds_fields 0 (sequence refl) (only k) type_kinds.6)
      ⨾ (λ k. lists_fields (only k) type_kinds.7)
      ⨾ (λ k. holds_fields 1 (choice refl) (only k) type_kinds.8)
      ⨾ (λ k. names_fields (only k))
      ⨾ tt)
      no_fields
      (simp both at h).1

-- ---- by the kinds of the rows it points to

pub element-type : (t : Table) (r : ℕ) → kind_of t r ≡ SEQUENCE-OF → good_pointers t r ≡ true → is_type t (element_of t r) ≡ true
unfolding good_pointers good_links carries pick
element-type t r k h = rw (kind-layout t r _ k) at h

pub member-type : (t : Table) (r : ℕ) → tag_of t r ≡ MEMBER → good_pointers t r ≡ true → is_type t (type_in t r) ≡ true
unfolding good_pointers good_links carries pick
member-type t r k h = rw k at h

pub member-kind : (t : Table) (r i : ℕ) → Holder (kind_of t r) → good_pointers t r ≡ true → i < count_of t r → tag_of t (member_row t r i) ≡ MEMBER
unfolding good_pointers good_links carries pick
member-kind t r i (enumerated k) h u = eqb-true _ _ (every-below _ _ (rw (kind-layout t r _ k) at h) i u)
member-kind t r i (sequence k) h u = eqb-true _ _ (every-below _ _ (rw (kind-layout t r _ k) at h) i u)
member-kind t r i (choice k) h u = eqb-true _ _ (every-below _ _ (rw (kind-layout t r _ k) at h) i u)

-- ---- each type by its other rules

pub names-differ : (t : Table) (r : ℕ) → Holder (kind_of t r) → good_rules t r ≡ true → names_differ t r ≡ true
unfolding good_rules
names-differ t r (enumerated k) h = (simp both at (rw (k, pick_now_lem) at h)).0
names-differ t r (sequence k) h = (simp both at (rw (k, pick_now_lem) at h)).0
names-differ t r (choice k) h = (simp both at (rw (k, pick_now_lem) at h)).0

pub choice-required : (t : Table) (r : ℕ) → kind_of t r ≡ CHOICE → good_rules t r ≡ true → none_optional t r ≡ true
unfolding good_rules
choice-required t r k h = (simp both at (rw (k, pick_now_lem) at h)).1.0

pub array_kind : (t : Table) (r : ℕ) → is_array t r ≡ true → kind_of t r ≡ SEQUENCE
unfolding is_array
array_kind t r e = eqb-true _ _ (simp both at e).0

pub unwrapped-kind : (t : Table) (r : ℕ) → is_unwrapped t r ≡ true → kind_of t r ≡ CHOICE
unfolding is_unwrapped
unwrapped-kind t r e = eqb-true _ _ (simp both at e).0

pub array-good : (t : Table) (r : ℕ) → is_array t r ≡ true → good_rules t r ≡ true → good_array t r ≡ true
unfolding good_rules implies
array-good t r a h = rw a at (simp both at (rw (array_kind t r a, pick_now_lem) at h)).1

pub unwrapped-good : (t : Table) (r : ℕ) → is_unwrapped t r ≡ true → good_rules t r ≡ true → good_unwrapped t r ≡ true
unfolding good_rules implies
unwrapped-good t r a h = rw a at (simp both at (rw (unwrapped-kind t r a, pick_now_lem) at h)).1.1
