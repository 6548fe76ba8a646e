-- What is taken of a value table is the rows of a well-formed value, and nothing else.
use Prim.Native.Nat.{ℕ, zero, suc, ◌+◌, ◌-◌, ◌*◌, ◌/◌, ◌%◌, ◌^◌, ◌≤◌, ◌<◌}
use mathlib.Core.Path.{◌≡◌, refl, sym, ap, ◌∙◌}
use mathlib.Core.List.{List, [], ◌∷◌}
use mathlib.Core.Bool.{Bool, true, false, ◌&&◌, ◌||◌, not}
use Rattle.std.specs.Prelude.{Option, None, Some}
use native.Mathlib.Omega.{arith}
use native.Mathlib.Nat.{mul-add-div_right, mul-add-mod_self_right, mod-eq_of_lt, div-eq_of_lt}
use lib.Dec.{eqb, ltb, leb, lit<}
use lib.ListN.{length, take, drop, length-drop}
use lib.Seq.{length-take-le}
use borrow.Author.Tests.{ltb-true, leb-true, eqb-true}
use Rattle.json_text.specs.Utf8.{utf8}
use Rattle.json_text.proofs.SoundRows.{pick-within, ◌⨾◌}
use Rattle.jer.specs.Table.{Table, BOOLEAN, INTEGER, ENUMERATED, NULL, SEQUENCE, SEQUENCE-OF, CHOICE, tag_of, kind_of, is_unwrapped, element_of, count_of, type_at, may_be_absent}
use Rattle.jer.specs.Value.{Val, v_bool, v_int, v_enum, v_null, v_bytes, v_choice, Vals, vcons, Parts, absent, present, count_vals, count_present}
use Rattle.jer.specs.Rows.{ValueRow, row, absent_row, bit, pool_of, item_pool, part_pool, above, rows_of, item_rows, part_rows}
use Rattle.jer.specs.Judge.{Took, wrong, Taker, is_absent, take_parts, take_items, right_row, leaf, string_row, sized, in_bracket, take_sequence, take_list, take_choice, take_row, on_row, take_unwrapped, take_value}
use Rattle.jer.specs.Fits.{Octets, no_octets, octet, Fits, f_leaf, f_bool, f_int, f_enum, f_null, f_octets, f_text, f_seq, f_list, f_wrapped, f_unwrapped, FitsItems, no_item, item, FitsParts, no_member, absent_member, present_member}
use Rattle.jer.proofs.Forms.{choice_tag}
use Rattle.jer.proofs.ValidRows.{both, unwrapped-kind}
use Rattle.jer.proofs.JudgeTakes.{inner, take-plain, take-unwrapped}
use Rattle.jer.proofs.JudgeSpent.{After, after_then, after_if, WordRows, word_row, Left, Spent, spent-none, spent-row, spent_append}

-- ---- what fits

-- one bracket more may be open
mutual
  fits_more : {t : Table} {d r : ℕ} {v : Val} → Fits t d r v → Fits t (suc d) r v
  fits_more (f_leaf f) = f_leaf f
  fits_more (f_seq k f) = f_seq k (parts_more f)
  fits_more (f_list k f) = f_list k (items_more_lem f)
  fits_more (f_wrapped k c l f) = f_wrapped k c l (fits_more f)
  fits_more (f_unwrapped c l f) = f_unwrapped c l (fits_more f)

  items_more_lem : {t : Table} {d r : ℕ} {vs : Vals} → FitsItems t d r vs → FitsItems t (suc d) r vs
  items_more_lem no_item = no_item
  items_more_lem (item f fs) = item (fits_more f) (items_more_lem fs)

  parts_more : {t : Table} {d r i : ℕ} {ps : Parts} → FitsParts t d r i ps → FitsParts t (suc d) r i ps
  parts_more (no_member l) = no_member l
  parts_more (absent_member l m fs) = absent_member l m (parts_more fs)
  parts_more (present_member l f fs) = present_member l (fits_more f) (parts_more fs)

-- a choice that has opened a bracket, though it may be UNWRAPPED
choice-fits : {t : Table} {d r i : ℕ} {v : Val} → kind_of t r ≡ CHOICE → i < count_of t r → Fits t d (type_at t r i) v → Fits t (suc d) r (v_choice i v)
choice-fits {t} {d} {r} {i} {v} k l f = go (is_unwrapped t r) refl
  where
    go : (c : Bool) → is_unwrapped t r ≡ c → Fits t (suc d) r (v_choice i v)
    go true c = f_unwrapped c l (fits_more f)
    go false c = f_wrapped k c l f

octets-take : (n : ℕ) (s : List ℕ) → Octets s → Octets (take n s)
octets-take zero s h = no_octets
octets-take (suc n) [] h = no_octets
octets-take (suc n) (b ∷ s) (octet l h) = octet l (octets-take n s h)

octets-drop : (n : ℕ) (s : List ℕ) → Octets s → Octets (drop n s)
octets-drop zero s h = h
octets-drop (suc n) [] h = no_octets
octets-drop (suc n) (b ∷ s) (octet l h) = octets-drop n s h

row_is : {k a b n : ℕ} (w : ValueRow) → w.kind ≡ k → w.a ≡ a → w.b ≡ b → w.size ≡ n → w ≡ row k a b n
row_is w x y z u = rw (← x, ← y, ← z, ← u)

bit-of : (a : ℕ) → a < 2 → a ≡ bit (eqb a 1)
unfolding bit
bit-of zero l = refl
bit-of (suc zero) l = refl
bit-of (suc (suc a)) l = absurd (omega arith)

module _ (t : Table) (pool : List ℕ) (os : Octets pool) where
  -- of the rows ws, the rows of the value v of the type at r were taken
  pub record Taken (d r : ℕ) (ws : List ValueRow) (q o : ℕ) (v : Val) (ws' : List ValueRow) (q' o' : ℕ) : Type 0 where
    pub fits : Fits t d r v
    pub spent : Spent pool ws q o (rows_of v t r o) (pool_of v) ws' q' o'

  record TakenItems (d r n : ℕ) (ws : List ValueRow) (q o : ℕ) (vs : Vals) (ws' : List ValueRow) (q' o' : ℕ) : Type 0 where
    fits : FitsItems t d r vs
    spent : Spent pool ws q o (item_rows vs t r o) (item_pool vs) ws' q' o'
    count : n ≡ count_vals vs

  record TakenParts (d r i : ℕ) (ws : List ValueRow) (q o : ℕ) (ps : Parts) (ws' : List ValueRow) (q' o' : ℕ) : Type 0 where
    fits : FitsParts t d r i ps
    spent : Spent pool ws q o (part_rows ps t r i o) (part_pool ps) ws' q' o'

  -- whatever f takes are the rows of a well-formed value
  abbrev Sound : ℕ → Taker → Type 0
  Sound d f = (r : ℕ) (ws : List ValueRow) (q o : ℕ) → Left pool ws o → After (Taken d r ws q o) (f r ws q o)

  -- ---- one row

  module _ (d r : ℕ) (w : ValueRow) (ws : List ValueRow) (q o : ℕ) (l : Left pool (w ∷ ws) o) where
    left_after : Left pool ws o
    left_after = record { words = elim l.words [ word_row x y h ↦ h ]; within = l.within }

    spent-one : (x : ValueRow) → w ≡ x → Spent pool (w ∷ ws) q o (x ∷ []) [] ws (suc q) o
    spent-one x e = spent-row e (spent-none left_after)

    right_sound : (c : Bool) (v : Val) → (c ≡ true → Taken d r (w ∷ ws) q o v ws (suc q) o) → After (Taken d r (w ∷ ws) q o) (right_row c v ws q o)
    unfolding right_row
    right_sound true v h = h refl
    right_sound false v h = tt

    leaf_sound : (good : Bool) (v : Val) → (good ≡ true → w.b ≡ 0 → w.size ≡ 1 → Taken d r (w ∷ ws) q o v ws (suc q) o) → After (Taken d r (w ∷ ws) q o) (leaf good v w ws q o)
    unfolding leaf
    leaf_sound good v h = right_sound _ v (λ e. let p = simp both at e in h p.0 (eqb-true _ _ p.1.0) (eqb-true _ _ p.1.1))

    module _ (k : w.kind ≡ tag_of t r) where
      bool_sound : kind_of t r ≡ BOOLEAN → After (Taken d r (w ∷ ws) q o) (leaf (ltb w.a 2) (v_bool (eqb w.a 1)) w ws q o)
      unfolding rows_of pool_of
      bool_sound c = leaf_sound _ _ (λ g x y. record { fits = f_leaf (f_bool c); spent = spent-one _ (row_is w k (bit-of w.a (ltb-true _ _ g)) x y) })

      int_sound : kind_of t r ≡ INTEGER → After (Taken d r (w ∷ ws) q o) (right_row (eqb w.size 1) (v_int (w.b * 2 ^ 32 + w.a)) ws q o)
      unfolding rows_of pool_of
      int_sound c = right_sound _ _ (λ e. go l.words e)
        where
          go : WordRows (w ∷ ws) → eqb w.size 1 ≡ true → Taken d r (w ∷ ws) q o (v_int (w.b * 2 ^ 32 + w.a)) ws (suc q) o
          go (word_row x y h) e =
              let low : w.a ≡ (w.b * 2 ^ 32 + w.a) % 2 ^ 32 = rw (mul-add-mod_self_right w.b (2 ^ 32) w.a, mod-eq_of_lt x) in
              let high : w.b ≡ (w.b * 2 ^ 32 + w.a) / 2 ^ 32 = rw (mul-add-div_right (lit< tt) w.b w.a, div-eq_of_lt x) (omega arith) in
              let n : w.b * 2 ^ 32 + w.a < 2 ^ 64 = omega arith in
              record { fits = f_leaf (f_int c n); spent = spent-one _ (row_is w k low high (eqb-true _ _ e)) }

      enum_sound : kind_of t r ≡ ENUMERATED → After (Taken d r (w ∷ ws) q o) (leaf (ltb w.a (count_of t r)) (v_enum w.a) w ws q o)
      unfolding rows_of pool_of
      enum_sound c = leaf_sound _ _ (λ g x y. record { fits = f_leaf (f_enum c (ltb-true _ _ g)); spent = spent-one _ (row_is w k refl x y) })

      null_sound : kind_of t r ≡ NULL → After (Taken d r (w ∷ ws) q o) (leaf (eqb w.a 0) v_null w ws q o)
      unfolding rows_of pool_of
      null_sound c = leaf_sound _ _ (λ g x y. record { fits = f_leaf (f_null c); spent = spent-one _ (row_is w k (eqb-true _ _ g) x y) })

      string-taken : let s = take w.b (drop o pool) in Fits t d r (v_bytes s) → w.a ≡ o → o + w.b ≤ length pool → w.size ≡ 1 → Taken d r (w ∷ ws) q o (v_bytes s) ws (suc q) (o + w.b)
      unfolding rows_of pool_of
      string-taken f a i z =
          let m : w.b ≤ length (drop o pool) = rw (length-drop o pool) (omega arith) in
          let n : length (take w.b (drop o pool)) ≡ w.b = length-take-le w.b (drop o pool) m in
          record {
            fits = f;
            spent = record {
              rows = ap (λ (x : ValueRow). x ∷ ws) (row_is w k a (sym n) z);
              next = omega arith;
              used = omega arith;
              stands = record { inside = omega arith; same = rw n };
              left = record { words = left_after.words; within = i };
            };
          }

      string_sound : (text : Bool) → ((s : List ℕ) → Octets s → (not text || utf8 s) ≡ true → Fits t d r (v_bytes s)) → After (Taken d r (w ∷ ws) q o) (string_row text pool w ws q o)
      unfolding string_row
      string_sound text f =
          after_if (Taken d r (w ∷ ws) q o) (eqb w.a o && (leb (o + w.b) (length pool) && eqb w.size 1)) _ q (λ e. after_if (Taken d r (w ∷ ws) q o) _ _ q (λ u.
          let p = simp both at e in string-taken (f _ (octets-take w.b _ (octets-drop o pool os)) u) (eqb-true _ _ p.0) (leb-true _ _ p.1.0) (eqb-true _ _ p.1.1)))

  -- ---- items and members

  item-taken : {d r n : ℕ} {ws us ws' : List ValueRow} {q o p u q' o' : ℕ} {v : Val} {vs : Vals} → Taken d r ws q o v us p u → TakenItems d r n us p u vs ws' q' o' → TakenItems d r (suc n) ws q o (vcons v vs) ws' q' o'
  unfolding item_rows item_pool count_vals
  item-taken {r = r} {vs = vs} x y = record { fits = item x.fits y.fits; spent = spent_append (λ z. item_rows vs t r z) x.spent y.spent; count = ap suc y.count }

  items_sound : (d : ℕ) (f : Taker) → Sound d f → (r n : ℕ) (ws : List ValueRow) (q o : ℕ) → Left pool ws o → After (TakenItems d r n ws q o) (take_items f r n ws q o)
  unfolding take_items item_rows item_pool count_vals
  items_sound d f s r zero ws q o l = record { fits = no_item; spent = spent-none l; count = refl }
  items_sound d f s r (suc n) ws q o l =
      after_then (Taken d r ws q o) (TakenItems d r (suc n) ws q o) _ _ (s r ws q o l)
      (λ v us p u x. after_then (TakenItems d r n us p u) (TakenItems d r (suc n) ws q o) _ _ (items_sound d f s r n us p u x.spent.left)
      (λ vs ws' q' o' y. item-taken x y))

  part_taken : {d r i : ℕ} {ws us ws' : List ValueRow} {q o p u q' o' : ℕ} {v : Val} {ps : Parts} → i < count_of t r → Taken d (type_at t r i) ws q o v us p u → TakenParts d r (suc i) us p u ps ws' q' o'
      → TakenParts d r i ws q o (present v ps) ws' q' o'
  unfolding part_rows part_pool
  part_taken {r = r} {i = i} {ps = ps} l x y = record { fits = present_member l x.fits y.fits; spent = spent_append (λ z. part_rows ps t r (suc i) z) x.spent y.spent }

  absent-is : (w : ValueRow) → is_absent w ≡ true → w ≡ absent_row
  unfolding is_absent
  absent-is w e = let p = simp both at e in row_is w (eqb-true _ _ p.0) (eqb-true _ _ p.1.0) (eqb-true _ _ p.1.1.0) (eqb-true _ _ p.1.1.1)

  absent-taken : {d r i : ℕ} {w : ValueRow} {ws ws' : List ValueRow} {q o q' o' : ℕ} {ps : Parts} → i < count_of t r → may_be_absent t r i ≡ true → is_absent w ≡ true → TakenParts d r (suc i) ws (suc q) o ps ws' q' o'
      → TakenParts d r i (w ∷ ws) q o (absent ps) ws' q' o'
  unfolding part_rows part_pool
  absent-taken {w = w} l m a y = record { fits = absent_member l m y.fits; spent = spent-row (absent-is w a) y.spent }

  parts_sound : (d : ℕ) (f : Taker) → Sound d f → (r i n : ℕ) (ws : List ValueRow) (q o : ℕ) → i + n ≡ count_of t r → Left pool ws o → After (TakenParts d r i ws q o) (take_parts f t r i n ws q o)
  unfolding take_parts part_rows part_pool
  parts_sound d f s r i zero ws q o m l = let e : i ≡ count_of t r = omega arith in record { fits = no_member e; spent = spent-none l }
  parts_sound d f s r i (suc n) [] q o m l = tt
  parts_sound d f s r i (suc n) (w ∷ ws) q o m l = go (may_be_absent t r i && is_absent w) refl (λ us p u. parts_sound d f s r (suc i) n us p u (omega arith))
    where
      go : (c : Bool) → (may_be_absent t r i && is_absent w) ≡ c → ((us : List ValueRow) (p u : ℕ) → Left pool us u → After (TakenParts d r (suc i) us p u) (take_parts f t r (suc i) n us p u))
          → After (TakenParts d r i (w ∷ ws) q o) (take_parts f t r i (suc n) (w ∷ ws) q o)
      go true e ih =
          let p = simp both at e in
          rw (e, take_parts) (after_then (TakenParts d r (suc i) ws (suc q) o) (TakenParts d r i (w ∷ ws) q o) _ _ (ih ws (suc q) o (left_after d r w ws q o l))
          (λ ps ws' q' o' y. absent-taken (omega arith) p.0 p.1 y))
      go false e ih =
          rw (e, take_parts) (after_then (Taken d (type_at t r i) (w ∷ ws) q o) (TakenParts d r i (w ∷ ws) q o) _ _ (s (type_at t r i) (w ∷ ws) q o l)
          (λ v us p u x. after_then (TakenParts d r (suc i) us p u) (TakenParts d r i (w ∷ ws) q o) _ _ (ih us p u x.spent.left)
          (λ ps ws' q' o' y. part_taken (omega arith) x y)))

  -- ---- rows with parts

  above-spent : {k a : ℕ} {w : ValueRow} {ws rs ws' : List ValueRow} {bs : List ℕ} {q o q' o' : ℕ} → w.kind ≡ k → w.a ≡ a → w.b ≡ 0 → w.size ≡ q' - q → Spent pool ws (suc q) o rs bs ws' q' o'
      → Spent pool (w ∷ ws) q o (above k a rs) bs ws' q' o'
  unfolding above
  above-spent {w = w} x y z n s = spent-row (row_is w x y z (omega (arith, s.next))) s

  module _ (d : ℕ) (f : Taker) (r : ℕ) (w : ValueRow) (ws : List ValueRow) (q o : ℕ) (l : Left pool (w ∷ ws) o) (k : w.kind ≡ tag_of t r) (b : w.b ≡ 0) where
    seq_sound : Sound d f → kind_of t r ≡ SEQUENCE → After (Taken (suc d) r (w ∷ ws) q o) (take_sequence t r w ws q o f)
    unfolding take_sequence rows_of pool_of
    seq_sound s c =
        after_then (TakenParts d r 0 ws (suc q) o) (Taken (suc d) r (w ∷ ws) q o) _ _ (parts_sound d f s r 0 (count_of t r) ws (suc q) o (omega arith) (left_after d r w ws q o l))
        (λ ps ws' q' o' y. after_if (Taken (suc d) r (w ∷ ws) q o) (eqb w.a (count_present ps) && eqb w.size (q' - q)) _ q
        (λ e. let p = simp both at e in record { fits = f_seq c y.fits; spent = above-spent k (eqb-true _ _ p.0) b (eqb-true _ _ p.1) y.spent }))

    sized_sound : (e : ℕ) (x : Took Val) → After (λ v ws' q' o'. w.size ≡ q' - q → Taken e r (w ∷ ws) q o v ws' q' o') x → After (Taken e r (w ∷ ws) q o) (sized w q true x)
    unfolding sized
    sized_sound e x h =
        after_then (λ v ws' q' o'. w.size ≡ q' - q → Taken e r (w ∷ ws) q o v ws' q' o') (Taken e r (w ∷ ws) q o) x _ h
        (λ v ws' q' o' y. after_if (Taken e r (w ∷ ws) q o) (eqb w.size (q' - q)) _ q (λ m. y (eqb-true _ _ m)))

    list_sound : Sound d f → kind_of t r ≡ SEQUENCE-OF → After (Taken (suc d) r (w ∷ ws) q o) (take_list t r w ws q o f)
    unfolding take_list rows_of pool_of
    list_sound s c =
        sized_sound (suc d) _ (after_then (TakenItems d (element_of t r) w.a ws (suc q) o) (λ v ws' q' o'. w.size ≡ q' - q → Taken (suc d) r (w ∷ ws) q o v ws' q' o') _ _
        (items_sound d f s (element_of t r) w.a ws (suc q) o (left_after d r w ws q o l))
        (λ vs ws' q' o' y n. record { fits = f_list c y.fits; spent = above-spent k y.count b n y.spent }))

    choice_sound : (e : ℕ) → After (Taken d (type_at t r w.a) ws (suc q) o) (f (type_at t r w.a) ws (suc q) o) → ((v : Val) → Fits t d (type_at t r w.a) v → Fits t e r (v_choice w.a v))
        → After (Taken e r (w ∷ ws) q o) (take_choice t r w ws q o f)
    unfolding take_choice rows_of pool_of
    choice_sound e x g =
        sized_sound e _ (after_then (Taken d (type_at t r w.a) ws (suc q) o) (λ v ws' q' o'. w.size ≡ q' - q → Taken e r (w ∷ ws) q o v ws' q' o') _ _
        x
        (λ v ws' q' o' y n. record { fits = g v y.fits; spent = above-spent k refl b n y.spent }))

  -- ---- one value

  -- the parts of a value with at most d brackets open
  data Inside : ℕ → Option Taker → Type 0 where
    no_bracket : {d : ℕ} → Inside d None
    bracket : {d : ℕ} {f : Taker} → Sound d f → Inside (suc d) (Some f)

  bracket_sound : {d : ℕ} {i : Option Taker} (r : ℕ) (ws : List ValueRow) (q o : ℕ) (good : Bool) (F : Taker → Took Val) → Inside d i
      → ((e : ℕ) (f : Taker) → Sound e f → good ≡ true → After (Taken (suc e) r ws q o) (F f)) → After (Taken d r ws q o) (in_bracket i good q F)
  unfolding in_bracket
  bracket_sound r ws q o good F no_bracket h = tt
  bracket_sound r ws q o good F (bracket {d = d} {f = f} s) h = after_if (Taken (suc d) r ws q o) good (F f) q (h d f s)

  row_sound : {d : ℕ} {i : Option Taker} → Inside d i → (r : ℕ) (w : ValueRow) (ws : List ValueRow) (q o : ℕ) → Left pool (w ∷ ws) o
      → After (Taken d r (w ∷ ws) q o) (take_row i t pool r w ws q o)
  unfolding take_row
  row_sound {d = d} n r w ws q o l =
      let P = Taken d r (w ∷ ws) q o in
      after_if P (eqb w.kind (tag_of t r)) _ q (λ e.
      let k = eqb-true w.kind (tag_of t r) e in
      pick-within (After P) (kind_of t r) _ (wrong q)
      ((λ i. bool_sound d r w ws q o l k (omega arith))
      ⨾ (λ i. int_sound d r w ws q o l k (omega arith))
      ⨾ (λ i. enum_sound d r w ws q o l k (omega arith))
      ⨾ (λ i. null_sound d r w ws q o l k (omega arith))
      ⨾ (λ i. string_sound d r w ws q o l k false (λ s h u. f_leaf (f_octets (omega arith) h)))
      ⨾ (λ i. string_sound d r w ws q o l k true (λ s h u. f_leaf (f_text (omega arith) u)))
      ⨾ (λ i. bracket_sound r (w ∷ ws) q o _ _ n (λ x f s b. seq_sound x f r w ws q o l k (eqb-true _ _ b) s (omega arith)))
      ⨾ (λ i. bracket_sound r (w ∷ ws) q o _ _ n (λ x f s b. list_sound x f r w ws q o l k (eqb-true _ _ b) s (omega arith)))
      ⨾ (λ i. bracket_sound r (w ∷ ws) q o _ _ n (λ x f s b.
      let p = simp both at b in
      choice_sound x f r w ws q o l k (eqb-true _ _ p.1) (suc x) (s _ ws (suc q) o (left_after x r w ws q o l)) (λ v h. choice-fits (omega arith) (ltb-true _ _ p.0) h)))
      ⨾ tt)
      tt)

  plain_sound : {d : ℕ} {i : Option Taker} → Inside d i → (r : ℕ) (ws : List ValueRow) (q o : ℕ) → Left pool ws o
      → After (Taken d r ws q o) (on_row (λ w us. take_row i t pool r w us q o) ws q)
  unfolding on_row
  plain_sound n r [] q o l = tt
  plain_sound n r (w ∷ ws) q o l = row_sound n r w ws q o l

  unwrapped_sound : {d : ℕ} {i : Option Taker} → Inside d i → (r : ℕ) (ws : List ValueRow) (q o : ℕ) → is_unwrapped t r ≡ true → Left pool ws o
      → After (Taken d r ws q o) (on_row (λ w us. take_unwrapped i t pool r w us q o) ws q)
  unfolding on_row take_unwrapped
  unwrapped_sound n r [] q o c l = tt
  unwrapped_sound {d = d} n r (w ∷ ws) q o c l =
      after_if (Taken d r (w ∷ ws) q o) (eqb w.kind CHOICE && (ltb w.a (count_of t r) && eqb w.b 0)) _ q (λ e.
      let p = simp both at e in
      let m = ltb-true w.a (count_of t r) p.1.0 in
      let k = eqb-true w.kind CHOICE p.0 ∙ sym (choice_tag t r (unwrapped-kind t r c)) in
      choice_sound d _ r w ws q o l k (eqb-true _ _ p.1.1) d (plain_sound n _ ws (suc q) o (left_after d r w ws q o l)) (λ v h. f_unwrapped c m h))

  with_sound : (d : ℕ) → Inside d (inner d t pool) → Sound d (take_value d t pool)
  with_sound d n r ws q o l = go (is_unwrapped t r) refl
    where
      go : (c : Bool) → is_unwrapped t r ≡ c → After (Taken d r ws q o) (take_value d t pool r ws q o)
      go false c = rw (take-plain t pool d r ws q o c) (plain_sound n r ws q o l)
      go true c = rw (take-unwrapped t pool d r ws q o c) (unwrapped_sound n r ws q o c l)

  pub value_sound : (d : ℕ) → Sound d (take_value d t pool)
  unfolding inner
  value_sound zero = with_sound zero no_bracket
  value_sound (suc d) = with_sound (suc d) (bracket (value_sound d))
