-- One value, by its row and its type: laws in the form of the code's returns.
use mathlib.Core.Path.{◌≡◌, refl, sym, ap, ◌∙◌}
use mathlib.Core.List.{List, [], ◌∷◌, ◌++◌, append_assoc}
use mathlib.Core.Bool.{Bool, true, false, ◌&&◌}
use Rattle.std.specs.Prelude.{Option, None, Some}
use Prim.Native.Nat.{ℕ, zero, suc, ◌+◌, ◌-◌, ◌≤◌, ◌<◌}
use native.Mathlib.Omega.{arith}
use native.Mathlib.Numerals.{add-one}
use lib.Dec.{eqb, ltb}
use lib.ListN.{drop}
use borrow.Author.Tests.{eqb-true, eq-eqb, ne_eqb, lt-ltb, le-ltb, ltb-true}
use Rattle.json_text.specs.Bytes.{pick}
use Rattle.json_text.proofs.SoundRows.{pick-within, ◌⨾◌, only}
use Rattle.jer.specs.Table.{Table, CHOICE, tag_of, kind_of, is_unwrapped, count_of, type_at, name_at}
use Rattle.jer.proofs.Forms.{kind_tag}
use Rattle.jer.specs.Value.{Val, v_choice}
use Rattle.jer.specs.Rows.{ValueRow, row}
use Rattle.jer.specs.Judge.{Took, took, wrong, and_then, Taker, sized, in_bracket, take_sequence, take_list, take_choice, take_row, on_row, take_unwrapped, take_value}
use Rattle.jer.specs.Write.{string_text, joined, braces, member_text, choice_text, write}
use Rattle.jer.proofs.ValidRows.{both}
use Rattle.jer.proofs.JudgeTakes.{inner, take-plain, take-unwrapped}
use Rattle.written.specs.Text.{Puts, text_of, value_text, bracket_text, Writes, name_text, ended_as}
use Rattle.written.specs.Tables.{Wrapped}
use Rattle.written.proofs.PutLaws.{puts_append, puts_as}
use Rattle.written.proofs.NullLaws.{unwrapped-write}
use Rattle.written.proofs.TextLaws.{Value, NoValue, value_none, closed, ends, text-ended, text-wrong}

-- a CHOICE's row, by the test that the code made
pub right_is : (k a b : ℕ) {c d : ℕ} {g : Bool} → c ≡ d → (eqb k 8 && (ltb a c && eqb b 0)) ≡ g → (eqb k CHOICE && (ltb a d && eqb b 0)) ≡ g
right_is k a b f h = rw (← f) h

pub text-none : (d : ℕ) (t : Table) (pool : List ℕ) {ws : List ValueRow} (r q o : ℕ) → ws ≡ [] → value_text d t pool ws r q o ≡ wrong q
unfolding value_text
text-none d t pool r q o e = rw (e, value_none d t pool r q o) (text-wrong (λ v. write v t r) q)

-- ---- a row whose kind has parts, and is bad

and-false : (b : Bool) → (b && false) ≡ false
and-false true = refl
and-false false = refl

bracket-false : (i : Option Taker) (q : ℕ) (F : Taker → Took Val) {c : Bool} → c ≡ false → in_bracket i c q F ≡ wrong q
unfolding in_bracket
bracket-false None q F e = refl
bracket-false (Some f) q F e = rw e

bracket-none : (c : Bool) (q : ℕ) (F : Taker → Took Val) → in_bracket None c q F ≡ wrong q
unfolding in_bracket
bracket-none c q F = refl

module _ (i : Option Taker) (t : Table) (pool : List ℕ) (r : ℕ) (w : ValueRow) (us : List ValueRow) (q o : ℕ) where
  row_other : (w.kind ≡ kind_of t r → ⊥) → take_row i t pool r w us q o ≡ wrong q
  unfolding take_row
  row_other h = rw (ne_eqb w.kind (tag_of t r) (λ x. h (x ∙ sym (kind_tag t r))), take_row)

  row-wrong : 6 ≤ w.kind
      → (w.kind ≡ 6 → in_bracket i (eqb w.b 0) q (take_sequence t r w us q o) ≡ wrong q)
      → (w.kind ≡ 7 → in_bracket i (eqb w.b 0) q (take_list t r w us q o) ≡ wrong q)
      → (w.kind ≡ 8 → in_bracket i (ltb w.a (count_of t r) && eqb w.b 0) q (take_choice t r w us q o) ≡ wrong q)
      → take_row i t pool r w us q o ≡ wrong q
  unfolding take_row
  row-wrong l x y z = go (eqb w.kind (tag_of t r)) refl
    where
      go : (c : Bool) → eqb w.kind (tag_of t r) ≡ c → take_row i t pool r w us q o ≡ wrong q
      go false e = rw (e, take_row)
      go true e =
          let s : w.kind ≡ kind_of t r = eqb-true w.kind (tag_of t r) e ∙ sym (kind_tag t r) in
          rw (e, take_row) (pick-within (λ (k : Took Val). k ≡ wrong q) (kind_of t r) _ (wrong q)
          ((λ j. absurd (omega arith)) ⨾ (λ j. absurd (omega arith)) ⨾ (λ j. absurd (omega arith)) ⨾ (λ j. absurd (omega arith)) ⨾ (λ j. absurd (omega arith)) ⨾ (λ j. absurd (omega arith))
          ⨾ (λ j. x (s ∙ only j)) ⨾ (λ j. y (s ∙ only j)) ⨾ (λ j. z (s ∙ only j)) ⨾ tt)
          refl)

-- ---- a row whose kind has parts, and is right so far

module _ (f : Taker) (t : Table) (pool : List ℕ) (r a n : ℕ) (us : List ValueRow) (q o : ℕ) where
  row_seq : {k b : ℕ} → k ≡ 6 → k ≡ kind_of t r → b ≡ 0 → take_row (Some f) t pool r (row k a b n) us q o ≡ take_sequence t r (row k a b n) us q o f
  unfolding take_row pick in_bracket
  row_seq {k} e h z = rw (eq-eqb k (tag_of t r) (h ∙ kind_tag t r), take_row) (rw (sym h ∙ e) (rw z))

  row_list : {k b : ℕ} → k ≡ 7 → k ≡ kind_of t r → b ≡ 0 → take_row (Some f) t pool r (row k a b n) us q o ≡ take_list t r (row k a b n) us q o f
  unfolding take_row pick in_bracket
  row_list {k} e h z = rw (eq-eqb k (tag_of t r) (h ∙ kind_tag t r), take_row) (rw (sym h ∙ e) (rw z))

  row-choice : {k b : ℕ} → k ≡ 8 → k ≡ kind_of t r → b ≡ 0 → a < count_of t r → take_row (Some f) t pool r (row k a b n) us q o ≡ take_choice t r (row k a b n) us q o f
  unfolding take_row pick in_bracket
  row-choice {k} e h z l = rw (eq-eqb k (tag_of t r) (h ∙ kind_tag t r), take_row) (rw (sym h ∙ e) (rw z (rw (lt-ltb a (count_of t r) l, in_bracket))))

inner-is : (d : ℕ) (t : Table) (pool : List ℕ) → (d ≡ 0 → ⊥) → inner d t pool ≡ Some (take_value (d - 1) t pool)
unfolding inner
inner-is zero t pool h = absurd (h refl)
inner-is (suc d) t pool h = let e : suc d - 1 ≡ d = omega arith in rw e

-- ---- a type that is not UNWRAPPED

module _ (d : ℕ) (t : Table) (pool : List ℕ) (r k a b n q o : ℕ) {ws us : List ValueRow} (u : is_unwrapped t r ≡ false) (s : ws ≡ row k a b n ∷ us) where
  pub row-text : text_of (λ v. write v t r) (take_row (inner d t pool) t pool r (row k a b n) us q o) ≡ value_text d t pool ws r q o
  unfolding value_text on_row
  row-text = rw (s, take-plain t pool d r (row k a b n ∷ us) q o u)

  bad-row : take_row (inner d t pool) t pool r (row k a b n) us q o ≡ wrong q → value_text d t pool ws r q o ≡ wrong q
  bad-row e = sym row-text ∙ ap (text_of (λ v. write v t r)) e ∙ text-wrong (λ v. write v t r) q

  pub plain_other : (k ≡ kind_of t r → ⊥) → value_text d t pool ws r q o ≡ wrong q
  plain_other h = bad-row (row_other (inner d t pool) t pool r (row k a b n) us q o h)

  module _ (l : 6 ≤ k) where
    pub plain-deep : d ≡ 0 → value_text d t pool ws r q o ≡ wrong q
    unfolding inner
    plain-deep h = bad-row (rw h (row-wrong None t pool r (row k a b n) us q o l (λ _. bracket-none _ q _) (λ _. bracket-none _ q _) (λ _. bracket-none _ q _)))

    pub plain-b : (b ≡ 0 → ⊥) → value_text d t pool ws r q o ≡ wrong q
    plain-b h =
        let e = ne_eqb b 0 h in
        bad-row (row-wrong (inner d t pool) t pool r (row k a b n) us q o l (λ _. bracket-false _ q _ e) (λ _. bracket-false _ q _ e) (λ _. bracket-false _ q _ (ap (λ (c : Bool). ltb a (count_of t r) && c) e ∙ and-false (ltb a (count_of t r)))))

    module _ (x : k ≡ 6 → ⊥) (y : k ≡ 7 → ⊥) where
      pub plain-kind : (k ≡ 8 → ⊥) → value_text d t pool ws r q o ≡ wrong q
      plain-kind z = bad-row (row-wrong (inner d t pool) t pool r (row k a b n) us q o l (λ e. absurd (x e)) (λ e. absurd (y e)) (λ e. absurd (z e)))

      pub plain-position : count_of t r ≤ a → value_text d t pool ws r q o ≡ wrong q
      plain-position z = bad-row (row-wrong (inner d t pool) t pool r (row k a b n) us q o l (λ e. absurd (x e)) (λ e. absurd (y e)) (λ e. bracket-false _ q _ (ap (λ (c : Bool). c && eqb b 0) (le-ltb a (count_of t r) z))))

  module _ (h : d ≡ 0 → ⊥) (m : k ≡ kind_of t r) (z : b ≡ 0) where
    inside : (F : Taker → Took Val) → take_row (Some (take_value (d - 1) t pool)) t pool r (row k a b n) us q o ≡ F (take_value (d - 1) t pool) → bracket_text F (d - 1) t pool r ≡ value_text d t pool ws r q o
    unfolding bracket_text
    inside F e = ap (text_of (λ v. write v t r)) (sym e ∙ ap (λ (i : Option Taker). take_row i t pool r (row k a b n) us q o) (sym (inner-is d t pool h))) ∙ row-text

    pub plain_seq : k ≡ 6 → bracket_text (take_sequence t r (row k a b n) us q o) (d - 1) t pool r ≡ value_text d t pool ws r q o
    plain_seq e = inside (take_sequence t r (row k a b n) us q o) (row_seq (take_value (d - 1) t pool) t pool r a n us q o e m z)

    pub plain-list : k ≡ 7 → bracket_text (take_list t r (row k a b n) us q o) (d - 1) t pool r ≡ value_text d t pool ws r q o
    plain-list e = inside (take_list t r (row k a b n) us q o) (row_list (take_value (d - 1) t pool) t pool r a n us q o e m z)

    pub plain-choice : k ≡ 8 → a < count_of t r → bracket_text (take_choice t r (row k a b n) us q o) (d - 1) t pool r ≡ value_text d t pool ws r q o
    plain-choice e l = inside (take_choice t r (row k a b n) us q o) (row-choice (take_value (d - 1) t pool) t pool r a n us q o e m z l)

-- ---- choices

module _ (t : Table) (r : ℕ) (w : ValueRow) (us : List ValueRow) (q o : ℕ) (f : Taker) where
  choice-text : {v : Val} {ws : List ValueRow} {q' o' : ℕ} → f (type_at t r w.a) us (suc q) o ≡ took v ws q' o' → closed (true && eqb w.size (q' - q)) (write (v_choice w.a v) t r) q ws q' o' ≡ text_of (λ v. write v t r) (take_choice t r w us q o f)
  unfolding take_choice sized and_then
  choice-text {v} {ws} {q'} {o'} e = rw e (sym (text-ended (λ v. write v t r) (true && eqb w.size (q' - q)) (v_choice w.a v) ws q q' o'))

  choice-none : {q' : ℕ} → f (type_at t r w.a) us (suc q) o ≡ wrong q' → text_of (λ v. write v t r) (take_choice t r w us q o f) ≡ wrong q'
  unfolding take_choice sized and_then
  choice-none {q'} e = rw e (text-wrong (λ v. write v t r) q')

module _ (d : ℕ) (t : Table) (pool : List ℕ) (rows : List ValueRow) (r q o : ℕ) (w : ValueRow) where
  one-member : (i : ℕ) (v : Val) → is_unwrapped t r ≡ false → ((0x7B ∷ name_text (name_at t r i)) ++ write v t (type_at t r i)) ++ (0x7D ∷ []) ≡ write (v_choice i v) t r
  unfolding write choice_text braces joined member_text name_text
  one-member i v u = rw (u, choice_text) (ap (λ (s : List ℕ). 0x7B ∷ (s ++ (0x7D ∷ []))) (append_assoc (string_text (name_at t r i)) (0x3A ∷ []) (write v t (type_at t r i))))

  -- an object of one member
  pub choice-ends : is_unwrapped t r ≡ false → {s : List ℕ} {k p k₁ e₁ e q' o' : ℕ} {l m m₁ m₂ m₃ : List ℕ} → Puts (0x7B ∷ []) k l m p → s ≡ name_at t r w.a → Puts (name_text s) p m m₁ k₁
      → Value d t pool rows (type_at t r w.a) (q + 1) o k₁ m₁ m₂ q' o' e₁ → Puts (0x7D ∷ []) e₁ m₂ m₃ e → Writes (bracket_text (take_choice t r w (drop (suc q) rows) q o) d t pool r) k l m₃ (ended_as (true && eqb w.size (q' - q)) q q' o' e)
  unfolding bracket_text
  choice-ends u {q' = q'} {o' = o'} f y g v h =
      let n = puts_as (ap name_text y) g in
      ends (true && eqb w.size (q' - q)) (drop q' rows) q q' o' (choice-text t r w (drop (suc q) rows) q o (take_value d t pool) (rw (add-one q) at v.is))
      (puts_as (one-member w.a v.what u) (puts_append (puts_append (puts_append f n) v.puts) h))

  pub choice-wrong : {q' : ℕ} → NoValue d t pool rows (type_at t r w.a) (q + 1) o q' → bracket_text (take_choice t r w (drop (suc q) rows) q o) d t pool r ≡ wrong q'
  unfolding bracket_text
  choice-wrong v = choice-none t r w (drop (suc q) rows) q o (take_value d t pool) (rw (add-one q) at v.is)

  -- an UNWRAPPED choice, whose row is w
  module _ (u : is_unwrapped t r ≡ true) (s : drop q rows ≡ w ∷ drop (suc q) rows) where
    unwrapped : Taker
    unwrapped e ws p z = on_row (λ x xs. take_row (inner d t pool) t pool e x xs p z) ws p

    row-unwrapped : value_text d t pool (drop q rows) r q o ≡ text_of (λ v. write v t r) (take_unwrapped (inner d t pool) t pool r w (drop (suc q) rows) q o)
    unfolding value_text on_row
    row-unwrapped = rw (s, take-unwrapped t pool d r (w ∷ drop (suc q) rows) q o u)

    pub unwrapped-bad : (eqb w.kind CHOICE && (ltb w.a (count_of t r) && eqb w.b 0)) ≡ false → value_text d t pool (drop q rows) r q o ≡ wrong q
    unfolding take_unwrapped
    unwrapped-bad e = row-unwrapped ∙ rw (e, take_unwrapped) (text-wrong (λ v. write v t r) q)

    module _ (g : Wrapped t) (c : (eqb w.kind CHOICE && (ltb w.a (count_of t r) && eqb w.b 0)) ≡ true) where
      pub chosen_plain : is_unwrapped t (type_at t r w.a) ≡ false
      chosen_plain = let p = simp both at c in g r w.a u (ltb-true w.a (count_of t r) p.1.0)

      chosen-text : text_of (λ v. write v t r) (take_choice t r w (drop (suc q) rows) q o unwrapped) ≡ value_text d t pool (drop q rows) r q o
      unfolding take_unwrapped unwrapped
      chosen-text = sym (row-unwrapped ∙ rw (c, take_unwrapped))

      chosen_is : unwrapped (type_at t r w.a) (drop (suc q) rows) (suc q) o ≡ take_value d t pool (type_at t r w.a) (drop (suc q) rows) (suc q) o
      unfolding unwrapped
      chosen_is = sym (take-plain t pool d (type_at t r w.a) (drop (suc q) rows) (suc q) o chosen_plain)

      pub unwrapped-ends : {k e q' o' : ℕ} {l m : List ℕ} → Value d t pool rows (type_at t r w.a) (q + 1) o k l m q' o' e → Writes (value_text d t pool (drop q rows) r q o) k l m (ended_as (true && eqb w.size (q' - q)) q q' o' e)
      unwrapped-ends {q' = q'} {o' = o'} v =
          ends (true && eqb w.size (q' - q)) (drop q' rows) q q' o' (choice-text t r w (drop (suc q) rows) q o unwrapped (chosen_is ∙ rw (add-one q) at v.is) ∙ chosen-text)
          (puts_as (sym (unwrapped-write t r w.a v.what u)) v.puts)

      pub unwrapped-wrong : {q' : ℕ} → NoValue d t pool rows (type_at t r w.a) (q + 1) o q' → value_text d t pool (drop q rows) r q o ≡ wrong q'
      unwrapped-wrong v = sym chosen-text ∙ choice-none t r w (drop (suc q) rows) q o unwrapped (chosen_is ∙ rw (add-one q) at v.is)
