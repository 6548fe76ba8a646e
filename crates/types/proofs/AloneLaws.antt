-- The first pass. Assumes nothing.
use mathlib.Core.Path.{◌≡◌, refl, sym, ap, ◌∙◌}
use mathlib.Core.List.{List}
use mathlib.Core.Bool.{Bool, true, false, not, ◌&&◌, ◌||◌, and_assoc}
use Prim.Native.Nat.{ℕ, zero, suc, ◌+◌, ◌-◌, ◌<◌, ◌≤◌}
use native.Mathlib.Omega.{arith}
use borrow.Author.Tests.{not-true, not-false, le-leb, lt-leb}
use lib.Dec.{eqb, leb, ltb}
use lib.ListN.{length, take, drop}
use Rattle.json_text.specs.Utf8.{utf8}
use Rattle.jer.specs.declared.Layout.{Layout}
use Rattle.jer.specs.declared.Layout.TheVariants.{Bare, Holds, Lists, Names, Unknown}
use Rattle.jer.specs.Table.{Table, row_count, field, carries, tag_of, extensible, first_of, element_of, count_of, root_of, name_in}
use Rattle.jer.specs.Valid.{implies, unused, good_block, good_name, good_marks, good_fields, good_alone}
use Rattle.types.specs.declared.row.Row.{Row}
use Rattle.types.specs.Rows.{row_of}
use Rattle.types.specs.Bytes.{Ascii}
use Rattle.types.specs.Sure.{NameInside}
use Rattle.types.proofs.ByteLaws.{ascii-utf8, ascii_part}

-- ---- unused fields

abbrev pub zero-at : Table → ℕ → ℕ → Bool
zero-at t r i = eqb (field t r i) 0

-- ---- blocks and names

pub good_block_lem : (t : Table) (r least : ℕ) {w : Row} {a b n : ℕ} {x : Bool} → w ≡ row_of t r → a ≡ w.first → b ≡ w.members → n ≡ row_count t → x ≡ extensible t r
    → ((leb least w.members && leb w.members 64) && leb (a + b) n && (leb least w.root && leb w.root w.members) && (x || eqb w.root w.members)) ≡ good_block t r least
unfolding good_block
good_block_lem t r least e p q u v = rw (p, q, e, u, v) (simp and_assoc)

-- the name in the row m, from a and of b bytes
module _ (t : Table) (m : ℕ) {w : Row} {a b : ℕ} (e : w ≡ row_of t m) (p : a ≡ w.members) (q : b ≡ w.root) where
  name-start : a ≡ field t m 3
  unfolding count_of
  name-start = p ∙ ap (λ (x : Row). x.members) e

  name-size : b ≡ field t m 4
  unfolding root_of
  name-size = q ∙ ap (λ (x : Row). x.root) e

  pub name-room : NameInside t m → a + b ≤ length t.names
  name-room h = omega (arith, name-start, name-size)

  pub name-told : (s : List ℕ) → s ≡ take (a + b - a) (drop a t.names) → s ≡ name_in t m
  unfolding name_in
  name-told s h = let g : a + b - a ≡ b = omega arith in h ∙ rw (g, name-start, name-size)

  pub name-empty : b ≡ 0 → false ≡ good_name t m
  unfolding good_name
  name-empty h = rw (sym name-size ∙ h)

  module _ (h₀ : b ≡ 0 → ⊥) where
    l₀ : leb 1 (field t m 4) ≡ true
    l₀ = rw (sym name-size) (le-leb 1 b (go b h₀))
      where
        go : (n : ℕ) → (n ≡ 0 → ⊥) → 1 ≤ n
        go zero h = absurd (h refl)
        go (suc n) h = omega arith

    pub name-long : 128 < b → false ≡ good_name t m
    unfolding good_name
    name-long h = rw (l₀, lt-leb (field t m 4) 128 (omega (arith, name-size)))

    module _ (h₁ : b ≤ 128) where
      l₁ : leb (field t m 4) 128 ≡ true
      l₁ = le-leb (field t m 4) 128 (omega (arith, name-size))

      pub name_out : length t.names < a + b → false ≡ good_name t m
      unfolding good_name
      name_out h = rw (l₀, l₁, lt-leb (field t m 3 + field t m 4) (length t.names) (omega (arith, name-size, name-start)))

      module _ (h₂ : a + b ≤ length t.names) where
        l₂ : leb (field t m 3 + field t m 4) (length t.names) ≡ true
        l₂ = le-leb (field t m 3 + field t m 4) (length t.names) (omega (arith, name-size, name-start))

        pub name-ascii : Ascii t.names → true ≡ good_name t m
        unfolding good_name name_in utf8
        name-ascii f =
            rw (l₀, l₁, l₂)
            (sym (ascii-utf8 (take (field t m 4) (drop (field t m 3) t.names)) (ascii_part t.names (field t m 3) (field t m 4) (omega (arith, name-size, name-start)) f)))

        pub name-utf8 : (s : List ℕ) {u : Bool} → s ≡ take (a + b - a) (drop a t.names) → u ≡ utf8 s → u ≡ good_name t m
        unfolding good_name
        name-utf8 s g v = v ∙ rw (l₀, l₁, l₂) (ap utf8 (name-told s g))

-- ---- rows by their kinds

implies_or : (a b : Bool) → (not a || b) ≡ implies a b
unfolding implies
implies_or true b = refl
implies_or false b = refl

-- a row by its layout
module _ (t : Table) (r : ℕ) {m : Bool} (n : m ≡ good_marks t r) where
  pub alone-marked : not m ≡ true → false ≡ good_alone t r
  unfolding good_alone
  alone-marked f = rw (sym n ∙ not-true m f)

  module _ (f : not m ≡ false) {l : Layout} (y : l ≡ (carries (tag_of t r)).layout) where
    fields_at : (k : Layout) → l ≡ k → good_fields k t r ≡ good_alone t r
    unfolding good_alone
    fields_at k e = rw (sym n ∙ not-false m f) (ap (λ (x : Layout). good_fields x t r) (sym e ∙ y))

    pub alone-bare : {u : Bool} → l ≡ Bare → u ≡ unused t r 2 6 → u ≡ good_alone t r
    unfolding good_fields
    alone-bare k p = p ∙ fields_at Bare k

    pub alone-unknown : l ≡ Unknown → false ≡ good_alone t r
    unfolding good_fields
    alone-unknown k = fields_at Unknown k

    module _ {w : Row} (e : w ≡ row_of t r) {u : Bool} where
      pub alone-holds : {least : ℕ} {b : Bool} → l ≡ Holds least → u ≡ unused t r 5 3 → b ≡ good_block t r least
          → (u && b && (not (eqb w.members 0) || eqb w.first 0)) ≡ good_alone t r
      unfolding good_fields
      alone-holds {least = least} k p q = rw (e, p, q, implies_or (eqb (count_of t r) 0) (eqb (first_of t r) 0), and_assoc) (fields_at (Holds least) k)

      pub alone_lists : {a n : ℕ} → l ≡ Lists → u ≡ unused t r 3 5 → a ≡ w.first → n ≡ row_count t → (u && ltb a n) ≡ good_alone t r
      unfolding good_fields element_of first_of
      alone_lists k p q n = rw (q, e, p, n) (fields_at Lists k)

      pub alone-names : {a n : ℕ} {b : Bool} → l ≡ Names → u ≡ unused t r 5 3 → a ≡ w.first → n ≡ row_count t → b ≡ good_name t r
          → (u && not (eqb r 0) && ltb a n && b) ≡ good_alone t r
      unfolding good_fields first_of
      alone-names {a = a} {n = n} {b = b} k p q v g =
          let z : (u && not (eqb r 0) && ltb a n && b) ≡ (u && (not (eqb r 0) && (ltb a n && b))) = simp and_assoc in
          z ∙ rw (q, e, p, v, g) (fields_at Names k)
