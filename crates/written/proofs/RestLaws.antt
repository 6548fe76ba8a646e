-- The rows that are left after a value are those from the next number on.
use mathlib.Core.Path.{◌≡◌, refl, ap, ◌∙◌}
use mathlib.Core.List.{List, [], ◌∷◌}
use mathlib.Core.Bool.{Bool, true, false, ◌&&◌, ◌||◌, not}
use Rattle.std.specs.Prelude.{Option, None, Some}
use Prim.Native.Nat.{ℕ, zero, suc, ◌+◌, ◌-◌}
use native.Mathlib.Numerals.{add-one}
use lib.Dec.{eqb, ltb, leb}
use lib.ListN.{length, take, drop}
use lib.Seq.{drop-drop}
use Rattle.json_text.specs.Utf8.{utf8}
use Rattle.json_text.proofs.SoundRows.{pick-within, ◌⨾◌}
use Rattle.jer.specs.Table.{Table, CHOICE, tag_of, kind_of, is_unwrapped, element_of, count_of, type_at, may_be_absent}
use Rattle.jer.specs.Value.{Val, Vals, Parts, count_present}
use Rattle.jer.specs.Rows.{ValueRow}
use Rattle.jer.specs.Judge.{Took, wrong, Taker, is_absent, take_parts, take_items, right_row, leaf, string_row, sized, in_bracket, take_sequence, take_list, take_choice, take_row, on_row, take_unwrapped, take_value}
use Rattle.jer.proofs.JudgeTakes.{inner, take-plain, take-unwrapped}
use Rattle.jer.proofs.JudgeSpent.{After, after_then, after_if}

module _ (rows : List ValueRow) where
  pub record Rest (A : Type 0) (a : A) (ws : List ValueRow) (q o : ℕ) : Type 0 where
    pub is : ws ≡ drop q rows

  same : {A B : Type 0} {a : A} {b : B} {ws : List ValueRow} {q o : ℕ} → Rest A a ws q o → Rest B b ws q o
  same h = record { is = h.is }

  abbrev pub Rests : Taker → Type 0
  Rests f = (r : ℕ) (ws : List ValueRow) (q o : ℕ) → ws ≡ drop q rows → After (Rest Val) (f r ws q o)

  pub next-rows : {w : ValueRow} {ws : List ValueRow} (q : ℕ) → w ∷ ws ≡ drop q rows → ws ≡ drop (suc q) rows
  next-rows q e = ap (drop 1) e ∙ drop-drop 1 q rows ∙ ap (λ (n : ℕ). drop n rows) (add-one q)

  -- ---- items and members

  items-rest : (f : Taker) → Rests f → (r n : ℕ) (ws : List ValueRow) (q o : ℕ) → ws ≡ drop q rows → After (Rest Vals) (take_items f r n ws q o)
  unfolding take_items
  items-rest f s r zero ws q o e = record { is = e }
  items-rest f s r (suc n) ws q o e =
      after_then (Rest Val) (Rest Vals) _ _ (s r ws q o e) (λ v us p u x. after_then (Rest Vals) (Rest Vals) _ _ (items-rest f s r n us p u x.is) (λ vs ws' q' o' y. same y))

  parts-rest : (f : Taker) → Rests f → (t : Table) (r i n : ℕ) (ws : List ValueRow) (q o : ℕ) → ws ≡ drop q rows → After (Rest Parts) (take_parts f t r i n ws q o)
  unfolding take_parts
  parts-rest f s t r i zero ws q o e = record { is = e }
  parts-rest f s t r i (suc n) [] q o e = tt
  parts-rest f s t r i (suc n) (w ∷ ws) q o e = go (may_be_absent t r i && is_absent w) refl (λ us p u. parts-rest f s t r (suc i) n us p u)
    where
      go : (c : Bool) → (may_be_absent t r i && is_absent w) ≡ c → ((us : List ValueRow) (p u : ℕ) → us ≡ drop p rows → After (Rest Parts) (take_parts f t r (suc i) n us p u)) → After (Rest Parts) (take_parts f t r i (suc n) (w ∷ ws) q o)
      go true m ih = rw (m, take_parts) (after_then (Rest Parts) (Rest Parts) _ _ (ih ws (suc q) o (next-rows q e)) (λ ps ws' q' o' y. same y))
      go false m ih =
          rw (m, take_parts) (after_then (Rest Val) (Rest Parts) _ _ (s (type_at t r i) (w ∷ ws) q o e)
          (λ v us p u x. after_then (Rest Parts) (Rest Parts) _ _ (ih us p u x.is) (λ ps ws' q' o' y. same y)))

  -- ---- one row

  right-rest : (c : Bool) (v : Val) (ws : List ValueRow) (q o : ℕ) → ws ≡ drop (suc q) rows → After (Rest Val) (right_row c v ws q o)
  unfolding right_row
  right-rest true v ws q o e = record { is = e }
  right-rest false v ws q o e = tt

  leaf-rest : (c : Bool) (v : Val) (w : ValueRow) (ws : List ValueRow) (q o : ℕ) → ws ≡ drop (suc q) rows → After (Rest Val) (leaf c v w ws q o)
  unfolding leaf
  leaf-rest c v w ws q o e = right-rest _ v ws q o e

  string-rest : (text : Bool) (pool : List ℕ) (w : ValueRow) (ws : List ValueRow) (q o : ℕ) → ws ≡ drop (suc q) rows → After (Rest Val) (string_row text pool w ws q o)
  unfolding string_row
  string-rest text pool w ws q o e = after_if (Rest Val) (eqb w.a o && (leb (o + w.b) (length pool) && eqb w.size 1)) _ q (λ _. after_if (Rest Val) (not text || utf8 (take w.b (drop o pool))) _ q (λ _. record { is = e }))

  sized-rest : (w : ValueRow) (q : ℕ) (x : Took Val) → After (Rest Val) x → After (Rest Val) (sized w q true x)
  unfolding sized
  sized-rest w q x h = after_then (Rest Val) (Rest Val) x _ h (λ v ws' q' o' y. after_if (Rest Val) (true && eqb w.size (q' - q)) _ q (λ _. y))

  module _ (t : Table) (r : ℕ) (w : ValueRow) (ws : List ValueRow) (q o : ℕ) (e : ws ≡ drop (suc q) rows) (f : Taker) (s : Rests f) where
    seq_rest : After (Rest Val) (take_sequence t r w ws q o f)
    unfolding take_sequence
    seq_rest = after_then (Rest Parts) (Rest Val) _ _ (parts-rest f s t r 0 (count_of t r) ws (suc q) o e) (λ ps ws' q' o' y. after_if (Rest Val) (eqb w.a (count_present ps) && eqb w.size (q' - q)) _ q (λ _. same y))

    list-rest : After (Rest Val) (take_list t r w ws q o f)
    unfolding take_list
    list-rest = sized-rest w q _ (after_then (Rest Vals) (Rest Val) _ _ (items-rest f s (element_of t r) w.a ws (suc q) o e) (λ vs ws' q' o' y. same y))

    choice-rest : After (Rest Val) (take_choice t r w ws q o f)
    unfolding take_choice
    choice-rest = sized-rest w q _ (after_then (Rest Val) (Rest Val) _ _ (s (type_at t r w.a) ws (suc q) o e) (λ v ws' q' o' y. same y))

  abbrev Inside : Option Taker → Type 0
  Inside None = Unit {0}
  Inside (Some f) = Rests f

  bracket-rest : (i : Option Taker) → Inside i → (good : Bool) (q : ℕ) (F : Taker → Took Val) → ((f : Taker) → Rests f → After (Rest Val) (F f)) → After (Rest Val) (in_bracket i good q F)
  unfolding in_bracket
  bracket-rest None n good q F h = tt
  bracket-rest (Some f) n good q F h = after_if (Rest Val) good (F f) q (λ _. h f n)

  module _ (i : Option Taker) (n : Inside i) (t : Table) (pool : List ℕ) where
    row-rest : (r : ℕ) (w : ValueRow) (ws : List ValueRow) (q o : ℕ) → ws ≡ drop (suc q) rows → After (Rest Val) (take_row i t pool r w ws q o)
    unfolding take_row
    row-rest r w ws q o e =
        after_if (Rest Val) (eqb w.kind (tag_of t r)) _ q (λ _. pick-within (After (Rest Val)) (kind_of t r) _ (wrong q)
        ((λ _. leaf-rest _ _ w ws q o e)
        ⨾ (λ _. right-rest _ _ ws q o e)
        ⨾ (λ _. leaf-rest _ _ w ws q o e)
        ⨾ (λ _. leaf-rest _ _ w ws q o e)
        ⨾ (λ _. string-rest false pool w ws q o e)
        ⨾ (λ _. string-rest true pool w ws q o e)
        ⨾ (λ _. bracket-rest i n _ q _ (λ f s. seq_rest t r w ws q o e f s))
        ⨾ (λ _. bracket-rest i n _ q _ (λ f s. list-rest t r w ws q o e f s))
        ⨾ (λ _. bracket-rest i n _ q _ (λ f s. choice-rest t r w ws q o e f s))
        ⨾ tt)
        tt)

    plain-rest : Rests (λ r ws q o. on_row (λ w us. take_row i t pool r w us q o) ws q)
    unfolding on_row
    plain-rest r [] q o e = tt
    plain-rest r (w ∷ ws) q o e = row-rest r w ws q o (next-rows q e)

    unwrapped-rest : Rests (λ r ws q o. on_row (λ w us. take_unwrapped i t pool r w us q o) ws q)
    unfolding on_row take_unwrapped
    unwrapped-rest r [] q o e = tt
    unwrapped-rest r (w ∷ ws) q o e = after_if (Rest Val) (eqb w.kind CHOICE && (ltb w.a (count_of t r) && eqb w.b 0)) _ q (λ _. choice-rest t r w ws q o (next-rows q e) _ plain-rest)

  with_rest : (t : Table) (pool : List ℕ) (d : ℕ) → Inside (inner d t pool) → Rests (take_value d t pool)
  with_rest t pool d n r ws q o e = go (is_unwrapped t r) refl
    where
      go : (c : Bool) → is_unwrapped t r ≡ c → After (Rest Val) (take_value d t pool r ws q o)
      go false c = rw (take-plain t pool d r ws q o c) (plain-rest (inner d t pool) n t pool r ws q o e)
      go true c = rw (take-unwrapped t pool d r ws q o c) (unwrapped-rest (inner d t pool) n t pool r ws q o e)

  pub value-rest : (t : Table) (pool : List ℕ) (d : ℕ) → Rests (take_value d t pool)
  unfolding inner
  value-rest t pool zero = with_rest t pool zero tt
  value-rest t pool (suc d) = with_rest t pool (suc d) (value-rest t pool d)
