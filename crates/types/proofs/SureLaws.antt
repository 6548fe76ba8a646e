-- The quick pass: bytes, types and members, one row at a time. Assumes nothing.
use mathlib.Core.Path.{◌≡◌, refl, sym, ap, ◌∙◌}
use mathlib.Core.Logic.{◌⊎◌, inl, inr}
use mathlib.Core.List.{List}
use mathlib.Core.Bool.{Bool, true, false, not, ◌&&◌, ◌||◌}
use Prim.Native.Nat.{ℕ, ◌+◌, ◌*◌, ◌/◌, ◌<◌, ◌≤◌}
use native.Mathlib.Omega.{arith}
use borrow.Author.Tests.{eqb-true, leb-true, leb-false, ltb-true}
use lib.Dec.{eqb, leb, ltb}
use lib.ListN.{length, get_or}
use Rattle.json_text.specs.Bytes.{pick}
use Rattle.json_text.specs.Utf8.{utf8}
use Rattle.jer.specs.declared.Layout.{Layout}
use Rattle.jer.specs.declared.Layout.TheVariants.{Holds, Lists, Names}
use Rattle.jer.specs.Table.{Table, row_count, field, carries, type_kind, is_type, tag_of, marks_of, extensible, first_of, element_of, count_of, root_of, name_in, table}
use Rattle.jer.specs.Valid.{implies, unused, good_block, good_name, good_marks, good_fields, good_alone}
use Rattle.types.specs.declared.row.Row.{Row}
use Rattle.types.specs.Rows.{row_of}
use Rattle.types.specs.Sure.{NameInside, BlockInside, Fits}
use Rattle.types.proofs.RowLaws.{field-zero, tag_is}

pub no_true : {A : Type 0} → false ≡ true → A
no_true q = absurd (let z : ◌≡◌ {A = ℕ} 0 1 = cc in omega arith)

-- ---- rows

pub type-told : (rows ns : List ℕ) (r : ℕ) → type_kind (get_or rows (r * 8) 0) ≡ is_type (table rows ns) r
unfolding is_type tag_of
type-told rows ns r = rw (field-zero rows ns r)

-- ---- counts

-- below the next number: below this one, or this one
pub split-next : (P : ℕ → Type 0) (i : ℕ) → ((k : ℕ) → k < i → P k) → P i → (k : ℕ) → k < i + 1 → P k
split-next P i f p k l = go (leb i k) refl
  where
    go : (b : Bool) → leb i k ≡ b → P k
    go true e = let w : k ≡ i = omega (arith, leb-true i k e) in rw w p
    go false e = f k (leb-false i k e)

and_both : (a b : Bool) → (a && b) ≡ true → (a ≡ true) × (b ≡ true)
and_both true true h = (refl, refl)
and_both true false h = no_true h
and_both false b h = no_true h

-- ---- members

three : (a b c : Bool) → (a && b && c) ≡ true → (a ≡ true) × (b ≡ true) × (c ≡ true)
three true true true h = (refl, refl, refl)
three true true false h = no_true h
three true false c h = no_true h
three false b c h = no_true h

pub fits_told : (t : Table) (m marks types : ℕ) {w : Row} → w ≡ row_of t m → (eqb w.kind 9 && leb w.marks marks && leb w.first types) ≡ true
    → Fits t m marks types
unfolding tag_of marks_of first_of
fits_told t m marks types {w = w} e h =
    let g = three (eqb w.kind 9) (leb w.marks marks) (leb w.first types) h in
    let k : w.kind ≡ field t m 0 = ap (λ (x : Row). x.kind) e in
    let u : w.marks ≡ field t m 1 = ap (λ (x : Row). x.marks) e in
    let v : w.first ≡ field t m 2 = ap (λ (x : Row). x.first) e in
    record {
      kind = sym k ∙ eqb-true w.kind 9 g.0;
      mark = omega (arith, leb-true w.marks marks g.1, u);
      type = omega (arith, leb-true w.first types g.2, v);
    }

-- ---- what a row that is good by itself has

and_three : (a b c : Bool) → (a && (b && c)) ≡ true → c ≡ true
and_three a b c h = (and_both b c (and_both a (b && c) h).1).1

and_four : (a b c d : Bool) → (a && (b && (c && d))) ≡ true → (c ≡ true) × (d ≡ true)
and_four a b c d h = and_both c d (and_three a b (c && d) h)

block_inside : (t : Table) (r least : ℕ) → good_block t r least ≡ true → BlockInside t r
unfolding good_block row_count
block_inside t r least h =
    leb-true (first_of t r + count_of t r) (length t.rows / 8)
    (and_four (leb least (count_of t r)) (leb (count_of t r) 64) (leb (first_of t r + count_of t r) (length t.rows / 8)) (leb least (root_of t r) && (leb (root_of t r) (count_of t r) && (extensible t r || eqb (root_of t r) (count_of t r)))) h).0

module _ (t : Table) (r : ℕ) {w : Row} (e : w ≡ row_of t r) (h : good_alone t r ≡ true) where
  block_of : (least : ℕ) → (good_marks t r && good_fields (Holds least) t r) ≡ true → BlockInside t r
  unfolding good_fields
  block_of least g = block_inside t r least (and_four (good_marks t r) (unused t r 5 3) (good_block t r least) (implies (eqb (count_of t r) 0) (eqb (first_of t r) 0)) g).0

  pub block_room : (w.kind ≡ 2) ⊎ ((w.kind ≡ 6) ⊎ (w.kind ≡ 8)) → BlockInside t r
  unfolding good_alone carries pick
  block_room (inl k) = block_of 1 (rw (tag_is t r e k) at h)
  block_room (inr (inl k)) = block_of 0 (rw (tag_is t r e k) at h)
  block_room (inr (inr k)) = block_of 1 (rw (tag_is t r e k) at h)

  -- the row that it points to
  module _ {l : Layout} (c : l ≡ (carries (tag_of t r)).layout) {a : ℕ} where
    pub lists_room : l ≡ Lists → a ≡ w.first → a < length t.rows / 8
    unfolding good_alone good_fields element_of first_of row_count
    lists_room k p =
        let q : a ≡ field t r 2 = p ∙ ap (λ (x : Row). x.first) e in
        let l = ltb-true (field t r 2) (length t.rows / 8) (and_three (good_marks t r) (unused t r 3 5) (ltb (field t r 2) (length t.rows / 8)) (rw (sym c ∙ k) at h)) in
        omega arith

    pub names-room : l ≡ Names → a ≡ w.first → a < length t.rows / 8
    unfolding good_alone good_fields first_of row_count
    names-room k p =
        let q : a ≡ field t r 2 = p ∙ ap (λ (x : Row). x.first) e in
        let g = (and_four (good_marks t r) (unused t r 5 3) (not (eqb r 0)) (ltb (field t r 2) (length t.rows / 8) && good_name t r) (rw (sym c ∙ k) at h)).1 in
        let l = ltb-true (field t r 2) (length t.rows / 8) (and_both (ltb (field t r 2) (length t.rows / 8)) (good_name t r) g).0 in
        omega arith

member-named : (t : Table) (m : ℕ) → good_alone t m ≡ true → tag_of t m ≡ 9 → good_name t m ≡ true
unfolding good_alone good_fields carries pick
member-named t m h k =
    let g = (and_four (good_marks t m) (unused t m 5 3) (not (eqb m 0)) (ltb (field t m 2) (row_count t) && good_name t m) (rw k at h)).1 in
    (and_both (ltb (field t m 2) (row_count t)) (good_name t m) g).1

pub alone-name : (t : Table) (m : ℕ) → good_alone t m ≡ true → tag_of t m ≡ 9 → (1 ≤ field t m 4) × NameInside t m
unfolding good_name
alone-name t m h k =
    let g = member-named t m h k in (
      leb-true 1 (field t m 4) (and_both (leb 1 (field t m 4)) (leb (field t m 4) 128 && (leb (field t m 3 + field t m 4) (length t.names) && utf8 (name_in t m))) g).0,
      leb-true (field t m 3 + field t m 4) (length t.names) (and_four (leb 1 (field t m 4)) (leb (field t m 4) 128) (leb (field t m 3 + field t m 4) (length t.names)) (utf8 (name_in t m)) g).0,
    )
