-- The rows of a well-formed value are taken, and give the value.
use Prim.Native.Nat.{ℕ, zero, suc, ◌+◌, ◌-◌, ◌/◌, ◌%◌, ◌^◌, ◌<◌}
use mathlib.Core.Path.{◌≡◌, refl, sym, ap, ◌∙◌}
use mathlib.Core.List.{List, [], ◌∷◌, ◌++◌, append_assoc}
use mathlib.Core.Bool.{Bool, true, false, ◌||◌, not}
use Rattle.std.specs.Prelude.{Option, Some}
use native.Mathlib.Omega.{arith}
use native.Mathlib.Nat.{div-add-mod'}
use lib.Dec.{eqb}
use lib.ListN.{length, length-append}
use borrow.Author.Tests.{eq-eqb, ne_eqb, lt-ltb, le-leb}
use Rattle.json_text.specs.Bytes.{pick}
use Rattle.json_text.specs.Utf8.{utf8}
use Rattle.jer.specs.Table.{Table, BOOLEAN, INTEGER, ENUMERATED, NULL, OCTET-STRING, UTF8String, SEQUENCE, SEQUENCE-OF, CHOICE, tag_of, kind_of, is_type, is_unwrapped, element_of, count_of, type_at, may_be_absent}
use Rattle.jer.specs.Value.{Leaf, l_bool, l_int, l_enum, l_null, l_bytes, Val, v_leaf, v_bool, v_int, v_enum, v_null, v_bytes, v_seq, v_list, v_choice, Vals, vnil, vcons, Parts, pnil, absent, present, count_vals, count_present}
use Rattle.jer.specs.Rows.{ValueRow, row, bit, leaf_row, pool_of, item_pool, part_pool, above, rows_of, item_rows, part_rows}
use Rattle.jer.specs.Judge.{took, and_then, Taker, is_absent, take_parts, take_items, right_row, leaf, string_row, sized, in_bracket, take_sequence, take_list, take_choice, take_row, on_row, take_unwrapped, take_value}
use Rattle.jer.specs.Fits.{FitsLeaf, Fits, f_leaf, f_bool, f_int, f_enum, f_null, f_octets, f_text, f_seq, f_list, f_wrapped, f_unwrapped, FitsItems, no_item, item, FitsParts, no_member, absent_member, present_member}
use Rattle.jer.specs.Sane.{Sane}
use Rattle.jer.proofs.Forms.{kind-type, choice_tag, type-present}
use Rattle.jer.proofs.ValidRows.{type_kinds, unwrapped-kind}
use Rattle.jer.proofs.JudgeTakes.{Stands, stands-first, stands-later, inner, take-plain, take-unwrapped}

leaf_type : {t : Table} {r : ℕ} {l : Leaf} → FitsLeaf t r l → is_type t r ≡ true
leaf_type {t = t} {r = r} (f_bool k) = kind-type t r _ k type_kinds.0
leaf_type {t = t} {r = r} (f_int k h) = kind-type t r _ k type_kinds.1
leaf_type {t = t} {r = r} (f_enum k h) = kind-type t r _ k type_kinds.2
leaf_type {t = t} {r = r} (f_null k) = kind-type t r _ k type_kinds.3
leaf_type {t = t} {r = r} (f_octets k h) = kind-type t r _ k type_kinds.4
leaf_type {t = t} {r = r} (f_text k h) = kind-type t r _ k type_kinds.5

-- a row at which a value fits is a type's
pub fits-type : {t : Table} {d r : ℕ} {v : Val} → Fits t d r v → is_type t r ≡ true
fits-type (f_leaf f) = leaf_type f
fits-type {t = t} {r = r} (f_seq k h) = kind-type t r _ k type_kinds.6
fits-type {t = t} {r = r} (f_list k h) = kind-type t r _ k type_kinds.7
fits-type {t = t} {r = r} (f_wrapped k u h f) = kind-type t r _ k type_kinds.8
fits-type {t = t} {r = r} (f_unwrapped u h f) = kind-type t r _ (unwrapped-kind t r u) type_kinds.8

-- a value's first row has the number of its type
record Headed (t : Table) (r : ℕ) (ws : List ValueRow) : Type 0 where
  first : ValueRow
  rest : List ValueRow
  all : ws ≡ first ∷ rest
  kind : first.kind ≡ tag_of t r

headed-leaf : (l : Leaf) (t : Table) (r o : ℕ) → Headed t r (leaf_row l (tag_of t r) o ∷ [])
headed-leaf (l_bool b) t r o = record { first = _; rest = _; all = refl; kind = refl }
headed-leaf (l_int n) t r o = record { first = _; rest = _; all = refl; kind = refl }
headed-leaf (l_enum i) t r o = record { first = _; rest = _; all = refl; kind = refl }
headed-leaf l_null t r o = record { first = _; rest = _; all = refl; kind = refl }
headed-leaf (l_bytes s) t r o = record { first = _; rest = _; all = refl; kind = refl }

headed : (v : Val) (t : Table) (r o : ℕ) → Headed t r (rows_of v t r o)
unfolding rows_of above
headed (v_leaf l) t r o = headed-leaf l t r o
headed (v_seq ps) t r o = record { first = _; rest = _; all = refl; kind = refl }
headed (v_list vs) t r o = record { first = _; rest = _; all = refl; kind = refl }
headed (v_choice i v) t r o = record { first = _; rest = _; all = refl; kind = refl }

pub not-choice : (t : Table) (r : ℕ) → (kind_of t r ≡ CHOICE → ⊥) → is_unwrapped t r ≡ false
unfolding is_unwrapped
not-choice t r h = rw (ne_eqb (kind_of t r) CHOICE h)

-- ---- one row

module _ (i : Option Taker) (t : Table) (pool : List ℕ) (r : ℕ) (ws : List ValueRow) (q o : ℕ) where
  row_bool : (b : Bool) → kind_of t r ≡ BOOLEAN → take_row i t pool r (row (tag_of t r) (bit b) 0 1) ws q o ≡ took (v_bool b) ws (suc q) o
  unfolding take_row pick leaf right_row bit
  row_bool true k = rw (eq-eqb (tag_of t r) (tag_of t r) refl, take_row) (rw k)
  row_bool false k = rw (eq-eqb (tag_of t r) (tag_of t r) refl, take_row) (rw k)

  row-int : (n : ℕ) → kind_of t r ≡ INTEGER → take_row i t pool r (row (tag_of t r) (n % 2 ^ 32) (n / 2 ^ 32) 1) ws q o ≡ took (v_int n) ws (suc q) o
  unfolding take_row pick right_row
  row-int n k = rw (eq-eqb (tag_of t r) (tag_of t r) refl, take_row) (rw k (rw (div-add-mod' n (2 ^ 32))))

  row_enum : (n : ℕ) → kind_of t r ≡ ENUMERATED → n < count_of t r → take_row i t pool r (row (tag_of t r) n 0 1) ws q o ≡ took (v_enum n) ws (suc q) o
  unfolding take_row pick leaf right_row
  row_enum n k h = rw (eq-eqb (tag_of t r) (tag_of t r) refl, take_row) (rw k (rw (lt-ltb n (count_of t r) h, right_row)))

  row-null : kind_of t r ≡ NULL → take_row i t pool r (row (tag_of t r) 0 0 1) ws q o ≡ took v_null ws (suc q) o
  unfolding take_row pick leaf right_row
  row-null k = rw (eq-eqb (tag_of t r) (tag_of t r) refl, take_row) (rw k)

  row-string : (text : Bool) (k : ℕ) (s : List ℕ) → Stands pool o s → (not text || utf8 s) ≡ true → string_row text pool (row k o (length s) 1) ws q o ≡ took (v_bytes s) ws (suc q) (o + length s)
  unfolding string_row
  row-string text k s h u = rw (eq-eqb o o refl, le-leb (o + length s) (length pool) h.inside, string_row) (rw (h.same, u) (rw h.same))

  row-octets : (s : List ℕ) → kind_of t r ≡ OCTET-STRING → Stands pool o s → take_row i t pool r (row (tag_of t r) o (length s) 1) ws q o ≡ took (v_bytes s) ws (suc q) (o + length s)
  unfolding take_row pick
  row-octets s k h = rw (eq-eqb (tag_of t r) (tag_of t r) refl, take_row) (rw k (row-string false (tag_of t r) s h refl))

  row-text : (s : List ℕ) → kind_of t r ≡ UTF8String → Stands pool o s → utf8 s ≡ true → take_row i t pool r (row (tag_of t r) o (length s) 1) ws q o ≡ took (v_bytes s) ws (suc q) (o + length s)
  unfolding take_row pick
  row-text s k h u = rw (eq-eqb (tag_of t r) (tag_of t r) refl, take_row) (rw k (row-string true (tag_of t r) s h u))

-- ---- rows with parts

module _ (f : Taker) (t : Table) (pool : List ℕ) (r : ℕ) (us : List ValueRow) (q o : ℕ) where
  row_seq : (a n : ℕ) → kind_of t r ≡ SEQUENCE → take_row (Some f) t pool r (row (tag_of t r) a 0 n) us q o ≡ take_sequence t r (row (tag_of t r) a 0 n) us q o f
  unfolding take_row pick in_bracket
  row_seq a n k = rw (eq-eqb (tag_of t r) (tag_of t r) refl, take_row) (rw k)

  row_list : (a n : ℕ) → kind_of t r ≡ SEQUENCE-OF → take_row (Some f) t pool r (row (tag_of t r) a 0 n) us q o ≡ take_list t r (row (tag_of t r) a 0 n) us q o f
  unfolding take_row pick in_bracket
  row_list a n k = rw (eq-eqb (tag_of t r) (tag_of t r) refl, take_row) (rw k)

  row-choice : (a n : ℕ) → kind_of t r ≡ CHOICE → a < count_of t r → take_row (Some f) t pool r (row (tag_of t r) a 0 n) us q o ≡ take_choice t r (row (tag_of t r) a 0 n) us q o f
  unfolding take_row pick in_bracket
  row-choice a n k h = rw (eq-eqb (tag_of t r) (tag_of t r) refl, take_row) (rw k (rw (lt-ltb a (count_of t r) h, in_bracket)))

  -- w the row, and what its parts give
  module _ (w : ValueRow) (ws : List ValueRow) (p u : ℕ) (n : w.size ≡ p - q) where
    seq_taken : (ps : Parts) → w.a ≡ count_present ps → take_parts f t r 0 (count_of t r) us (suc q) o ≡ took ps ws p u → take_sequence t r w us q o f ≡ took (v_seq ps) ws p u
    unfolding take_sequence and_then
    seq_taken ps a e = rw (e, and_then) (rw (eq-eqb w.a (count_present ps) a, eq-eqb w.size (p - q) n))

    list-taken : (vs : Vals) → take_items f (element_of t r) w.a us (suc q) o ≡ took vs ws p u → take_list t r w us q o f ≡ took (v_list vs) ws p u
    unfolding take_list sized and_then
    list-taken vs e = rw (e, and_then) (rw (eq-eqb w.size (p - q) n))

    choice-taken : (v : Val) → f (type_at t r w.a) us (suc q) o ≡ took v ws p u → take_choice t r w us q o f ≡ took (v_choice w.a v) ws p u
    unfolding take_choice sized and_then
    choice-taken v e = rw (e, and_then) (rw (eq-eqb w.size (p - q) n))

-- ---- values, items and members

module _ (t : Table) (pool : List ℕ) where
  -- the rows of v are taken wherever its strings stand in the pool
  abbrev pub Takes : ℕ → ℕ → Val → Type 0
  Takes d r v =
      (ws : List ValueRow) (q o : ℕ) → Stands pool o (pool_of v)
      → take_value d t pool r (rows_of v t r o ++ ws) q o ≡ took v ws (q + length (rows_of v t r o)) (o + length (pool_of v))

  abbrev pub TakesItems : ℕ → ℕ → Vals → Type 0
  TakesItems d r vs =
      (ws : List ValueRow) (q o : ℕ) → Stands pool o (item_pool vs)
      → take_items (take_value d t pool) r (count_vals vs) (item_rows vs t r o ++ ws) q o ≡ took vs ws (q + length (item_rows vs t r o)) (o + length (item_pool vs))

  abbrev pub TakesParts : ℕ → ℕ → ℕ → Parts → Type 0
  TakesParts d r i ps =
      (n : ℕ) → i + n ≡ count_of t r → (ws : List ValueRow) (q o : ℕ) → Stands pool o (part_pool ps)
      → take_parts (take_value d t pool) t r i n (part_rows ps t r i o ++ ws) q o ≡ took ps ws (q + length (part_rows ps t r i o)) (o + length (part_pool ps))

  -- a value of one row, whose kind is not CHOICE
  one-row : (d r k a b : ℕ) (v : Val) (ws : List ValueRow) (q o p : ℕ) → kind_of t r ≡ k → eqb k CHOICE ≡ false → take_row (inner d t pool) t pool r (row (tag_of t r) a b 1) ws q o ≡ took v ws (suc q) p
      → (u : ℕ) → p ≡ u → take_value d t pool r (row (tag_of t r) a b 1 ∷ ws) q o ≡ took v ws (q + 1) u
  unfolding on_row
  one-row d r k a b v ws q o p e n h u m =
      let c : is_unwrapped t r ≡ false = not-choice t r (λ x. let y = eq-eqb k CHOICE (omega arith) in let z : ◌≡◌ {A = ℕ} 0 1 = cc in omega arith) in
      let x : suc q ≡ q + 1 = omega arith in
      take-plain t pool d r (row (tag_of t r) a b 1 ∷ ws) q o c ∙ rw (x, m) at h

  takes_bool : (d r : ℕ) (b : Bool) → kind_of t r ≡ BOOLEAN → Takes d r (v_bool b)
  unfolding rows_of pool_of
  takes_bool d r b k ws q o h = one-row d r _ _ _ _ ws q o _ k refl (row_bool _ t pool r ws q o b k) _ (omega arith)

  takes_int : (d r n : ℕ) → kind_of t r ≡ INTEGER → Takes d r (v_int n)
  unfolding rows_of pool_of
  takes_int d r n k ws q o h = one-row d r _ _ _ _ ws q o _ k refl (row-int _ t pool r ws q o n k) _ (omega arith)

  takes_enum : (d r n : ℕ) → kind_of t r ≡ ENUMERATED → n < count_of t r → Takes d r (v_enum n)
  unfolding rows_of pool_of
  takes_enum d r n k l ws q o h = one-row d r _ _ _ _ ws q o _ k refl (row_enum _ t pool r ws q o n k l) _ (omega arith)

  takes_null : (d r : ℕ) → kind_of t r ≡ NULL → Takes d r v_null
  unfolding rows_of pool_of
  takes_null d r k ws q o h = one-row d r _ _ _ _ ws q o _ k refl (row-null _ t pool r ws q o k) _ (omega arith)

  takes_octets : (d r : ℕ) (s : List ℕ) → kind_of t r ≡ OCTET-STRING → Takes d r (v_bytes s)
  unfolding rows_of pool_of
  takes_octets d r s k ws q o h = one-row d r _ _ _ _ ws q o _ k refl (row-octets _ t pool r ws q o s k h) _ refl

  takes_text : (d r : ℕ) (s : List ℕ) → kind_of t r ≡ UTF8String → utf8 s ≡ true → Takes d r (v_bytes s)
  unfolding rows_of pool_of
  takes_text d r s k u ws q o h = one-row d r _ _ _ _ ws q o _ k refl (row-text _ t pool r ws q o s k h u) _ refl

  -- ---- items and members

  no_items_lem : (d r : ℕ) → TakesItems d r vnil
  unfolding take_items count_vals item_rows item_pool
  no_items_lem d r ws q o h = let x : q + 0 ≡ q = omega arith in let y : o + 0 ≡ o = omega arith in rw (x, y)

  more-items : (d r : ℕ) (v : Val) (vs : Vals) → Takes d r v → TakesItems d r vs → TakesItems d r (vcons v vs)
  unfolding take_items count_vals item_rows item_pool and_then
  more-items d r v vs f g ws q o h =
      let e = f (item_rows vs t r (o + length (pool_of v)) ++ ws) q o (stands-first pool o (pool_of v) (item_pool vs) h) in
      let i = g ws (q + length (rows_of v t r o)) (o + length (pool_of v)) (stands-later pool o (pool_of v) (item_pool vs) h) in
      let x : (q + length (rows_of v t r o)) + length (item_rows vs t r (o + length (pool_of v))) ≡ q + length (rows_of v t r o ++ item_rows vs t r (o + length (pool_of v))) = simp length-append (omega arith) in
      let y : (o + length (pool_of v)) + length (item_pool vs) ≡ o + length (pool_of v ++ item_pool vs) = simp length-append (omega arith) in
      rw (append_assoc, e, and_then) (rw (i, and_then) (rw (x, y)))

  no-parts : (d r i : ℕ) → i ≡ count_of t r → TakesParts d r i pnil
  unfolding take_parts part_rows part_pool
  no-parts d r i l zero m ws q o h = let x : q + 0 ≡ q = omega arith in let y : o + 0 ≡ o = omega arith in rw (x, y)
  no-parts d r i l (suc n) m ws q o h = absurd (omega arith)

  absent_part : (d r i : ℕ) (ps : Parts) → i < count_of t r → may_be_absent t r i ≡ true → TakesParts d r (suc i) ps → TakesParts d r i (absent ps)
  unfolding take_parts part_rows part_pool and_then is_absent
  absent_part d r i ps l e g zero m ws q o h = absurd (omega arith)
  absent_part d r i ps l e g (suc n) m ws q o h =
      let x : suc q + length (part_rows ps t r (suc i) o) ≡ q + suc (length (part_rows ps t r (suc i) o)) = omega arith in
      rw (e, take_parts) (rw (g n (omega arith) ws (suc q) o h, and_then) (rw x))

  -- a row that is not absent
  present-row : (f : Taker) (r i n : ℕ) (w : ValueRow) (ws us : List ValueRow) (q o : ℕ) → us ≡ w ∷ ws → eqb w.kind 15 ≡ false → take_parts f t r i (suc n) us q o
      ≡ and_then (f (type_at t r i) us q o) (λ v us p u. and_then (take_parts f t r (suc i) n us p u) (λ ps ws' q' o'. took (present v ps) ws' q' o'))
  unfolding take_parts is_absent
  present-row f r i n w ws us q o e l = rw e (go (may_be_absent t r i) refl)
    where
      go : (c : Bool) → may_be_absent t r i ≡ c → take_parts f t r i (suc n) (w ∷ ws) q o
          ≡ and_then (f (type_at t r i) (w ∷ ws) q o) (λ v us p u. and_then (take_parts f t r (suc i) n us p u) (λ ps ws' q' o'. took (present v ps) ws' q' o'))
      go true m = rw (m, l, take_parts)
      go false m = rw (m, take_parts)

  present_part : (d r i : ℕ) (v : Val) (ps : Parts) → i < count_of t r → is_type t (type_at t r i) ≡ true → Takes d (type_at t r i) v → TakesParts d r (suc i) ps → TakesParts d r i (present v ps)
  unfolding part_rows part_pool and_then
  present_part d r i v ps l k f g zero m ws q o h = absurd (omega arith)
  present_part d r i v ps l k f g (suc n) m ws q o h =
      let a = rows_of v t (type_at t r i) o in
      let b = part_rows ps t r (suc i) (o + length (pool_of v)) in
      let w = headed v t (type_at t r i) o in
      let e = f (b ++ ws) q o (stands-first pool o (pool_of v) (part_pool ps) h) in
      let j = g n (omega arith) ws (q + length a) (o + length (pool_of v)) (stands-later pool o (pool_of v) (part_pool ps) h) in
      let x : (q + length a) + length b ≡ q + length (a ++ b) = simp length-append (omega arith) in
      let y : (o + length (pool_of v)) + length (part_pool ps) ≡ o + length (pool_of v ++ part_pool ps) = simp length-append (omega arith) in
      let s : a ++ (b ++ ws) ≡ w.first ∷ (w.rest ++ (b ++ ws)) = ap (λ (z : List ValueRow). z ++ (b ++ ws)) w.all in
      let c : eqb w.first.kind 15 ≡ false = rw w.kind (type-present t (type_at t r i) k) in
      rw append_assoc (present-row (take_value d t pool) r i n w.first _ (a ++ (b ++ ws)) q o s c ∙ rw (e, and_then) (rw (j, and_then) (rw (x, y))))

  -- ---- values that have parts

  takes_seq : (d r : ℕ) (ps : Parts) → kind_of t r ≡ SEQUENCE → TakesParts d r 0 ps → Takes (suc d) r (v_seq ps)
  unfolding rows_of pool_of above on_row inner
  takes_seq d r ps k f ws q o h =
      let a = part_rows ps t r 0 o in
      let x : suc q + length a ≡ q + suc (length a) = omega arith in
      let c = not-choice t r (λ e. omega arith) in
      let e = rw x at (f (count_of t r) (omega arith) ws (suc q) o h) in
      take-plain t pool (suc d) r (row (tag_of t r) (count_present ps) 0 (suc (length a)) ∷ (a ++ ws)) q o c
      ∙ row_seq (take_value d t pool) t pool r (a ++ ws) q o (count_present ps) (suc (length a)) k
      ∙ seq_taken (take_value d t pool) t pool r (a ++ ws) q o _ ws _ _ (omega arith) ps refl e

  takes_list : (d r : ℕ) (vs : Vals) → kind_of t r ≡ SEQUENCE-OF → TakesItems d (element_of t r) vs → Takes (suc d) r (v_list vs)
  unfolding rows_of pool_of above on_row inner
  takes_list d r vs k f ws q o h =
      let a = item_rows vs t (element_of t r) o in
      let x : suc q + length a ≡ q + suc (length a) = omega arith in
      let c = not-choice t r (λ e. omega arith) in
      let e = rw x at (f ws (suc q) o h) in
      take-plain t pool (suc d) r (row (tag_of t r) (count_vals vs) 0 (suc (length a)) ∷ (a ++ ws)) q o c
      ∙ row_list (take_value d t pool) t pool r (a ++ ws) q o (count_vals vs) (suc (length a)) k
      ∙ list-taken (take_value d t pool) t pool r (a ++ ws) q o _ ws _ _ (omega arith) vs e

  takes_wrapped : (d r i : ℕ) (v : Val) → kind_of t r ≡ CHOICE → is_unwrapped t r ≡ false → i < count_of t r → Takes d (type_at t r i) v → Takes (suc d) r (v_choice i v)
  unfolding rows_of pool_of above on_row inner
  takes_wrapped d r i v k c l f ws q o h =
      let a = rows_of v t (type_at t r i) o in
      let x : suc q + length a ≡ q + suc (length a) = omega arith in
      let e = rw x at (f ws (suc q) o h) in
      take-plain t pool (suc d) r (row (tag_of t r) i 0 (suc (length a)) ∷ (a ++ ws)) q o c
      ∙ row-choice (take_value d t pool) t pool r (a ++ ws) q o i (suc (length a)) k l
      ∙ choice-taken (take_value d t pool) t pool r (a ++ ws) q o _ ws _ _ (omega arith) v e

  unwrapped-row : (d r i n : ℕ) (us : List ValueRow) (q o : ℕ) → is_unwrapped t r ≡ true → i < count_of t r
      → take_value d t pool r (row CHOICE i 0 n ∷ us) q o ≡ take_choice t r (row CHOICE i 0 n) us q o (λ e us p u. on_row (λ x xs. take_row (inner d t pool) t pool e x xs p u) us p)
  unfolding on_row take_unwrapped
  unwrapped-row d r i n us q o c l = take-unwrapped t pool d r (row CHOICE i 0 n ∷ us) q o c ∙ rw (lt-ltb i (count_of t r) l, take_unwrapped)

  takes_unwrapped : (d r i : ℕ) (v : Val) → is_unwrapped t r ≡ true → i < count_of t r → is_unwrapped t (type_at t r i) ≡ false → Takes d (type_at t r i) v → Takes d r (v_choice i v)
  unfolding rows_of pool_of above
  takes_unwrapped d r i v c l p f ws q o h =
      let a = rows_of v t (type_at t r i) o in
      let x : suc q + length a ≡ q + suc (length a) = omega arith in
      let e = rw x at (sym (take-plain t pool d (type_at t r i) (a ++ ws) (suc q) o p) ∙ f ws (suc q) o h) in
      rw (choice_tag t r (unwrapped-kind t r c)) (unwrapped-row d r i (suc (length a)) (a ++ ws) q o c l ∙ choice-taken _ t pool r (a ++ ws) q o _ ws _ _ (omega arith) v e)

takes_leaf : (t : Table) (pool : List ℕ) (d : ℕ) {r : ℕ} {l : Leaf} → FitsLeaf t r l → Takes t pool d r (v_leaf l)
takes_leaf t pool d (f_bool k) = takes_bool t pool _ _ _ k
takes_leaf t pool d (f_int k l) = takes_int t pool _ _ _ k
takes_leaf t pool d (f_enum k l) = takes_enum t pool _ _ _ k l
takes_leaf t pool d (f_null k) = takes_null t pool _ _ k
takes_leaf t pool d (f_octets k h) = takes_octets t pool _ _ _ k
takes_leaf t pool d (f_text k u) = takes_text t pool _ _ _ k u

module _ (t : Table) (g : Sane t) (pool : List ℕ) where
  mutual
    -- where the strings of a well-formed value stand in the pool, its rows are taken for it, and none of those after them
    pub takes_rows : {d r : ℕ} {v : Val} → Fits t d r v → Takes t pool d r v
    takes_rows (f_leaf f) = takes_leaf t pool _ f
    takes_rows (f_seq k f) = takes_seq t pool _ _ _ k (takes_parts f)
    takes_rows (f_list k f) = takes_list t pool _ _ _ k (takes_items f)
    takes_rows (f_wrapped k c l f) = takes_wrapped t pool _ _ _ _ k c l (takes_rows f)
    takes_rows (f_unwrapped {r = r} {i = i} c l f) = takes_unwrapped t pool _ _ _ _ c l (g.plain r i c l) (takes_rows f)

    takes_items : {d r : ℕ} {vs : Vals} → FitsItems t d r vs → TakesItems t pool d r vs
    takes_items no_item = no_items_lem t pool _ _
    takes_items (item f fs) = more-items t pool _ _ _ _ (takes_rows f) (takes_items fs)

    takes_parts : {d r i : ℕ} {ps : Parts} → FitsParts t d r i ps → TakesParts t pool d r i ps
    takes_parts (no_member l) = no-parts t pool _ _ _ l
    takes_parts (absent_member l m fs) = absent_part t pool _ _ _ _ l m (takes_parts fs)
    takes_parts (present_member l f fs) = present_part t pool _ _ _ _ _ l (fits-type f) (takes_rows f) (takes_parts fs)
