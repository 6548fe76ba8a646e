-- The skip of a value: how its parts are passed, and that a value goes ahead.
use mathlib.Core.Path.{◌≡◌, refl, sym, ap, ◌∙◌}
use mathlib.Core.List.{List, [], ◌∷◌}
use mathlib.Core.Bool.{Bool, true, false, ◌||◌, not}
use Prim.Native.Nat.{ℕ, zero, suc, ◌+◌, ◌-◌, ◌<◌, ◌≤◌}
use native.Mathlib.Omega.{arith}
use borrow.Author.Tests.{eq-eqb, ne_eqb, eqb-true, eqb-false}
use lib.Dec.{eqb}
use lib.ListN.{length, drop, length-drop}
use lib.Seq.{get_or-drop}
use Rattle.tokens.specs.Places.{byte_at, is_space, run_length, run_from}
use Rattle.tokens.specs.Strings.{string_end}
use Rattle.tokens.specs.Skip.{is_end, is_between, is_opening, is_closing, past_word, past_between, parts_past, past_with, past_value, past_bracket}
use Rattle.tokens.proofs.PlaceLaws.{byte_inside, byte_past, inside, run_more, run_end, run-ahead}
use Rattle.tokens.proofs.StringLaws.{end-ahead}

-- ---- runs

stops : (f : ℕ → Bool) (l : List ℕ) → run_length f l < length l → f (byte_at l (run_length f l)) ≡ false
unfolding run_length
stops f [] h = absurd (omega arith)
stops f (b ∷ l) h = go (f b) refl h (stops f l)
  where
    go : (t : Bool) → f b ≡ t → run_length f (b ∷ l) < suc (length l) → (run_length f l < length l → f (byte_at l (run_length f l)) ≡ false) → f (byte_at (b ∷ l) (run_length f (b ∷ l))) ≡ false
    go true e w ih = let r : suc (run_length f l) < suc (length l) = rw (e, run_length) at w in rw (e, run_length) (ih (omega arith))
    go false e w ih = rw (e, run_length) e

-- a run stops at a byte that does not pass
run-stops : (f : ℕ → Bool) (s : List ℕ) (p : ℕ) → run_from f s p < length s → f (byte_at s (run_from f s p)) ≡ false
unfolding run_from
run-stops f s p h = ap f (sym (get_or-drop p s (run_length f (drop p s)) 256)) ∙ stops f (drop p s) (omega (arith, length-drop p s))

pub between_is : (s : List ℕ) (p : ℕ) → run_from is_between s p ≡ past_between s p
unfolding past_between
between_is s p = refl

pub word-is : (s : List ℕ) (p : ℕ) → run_from (λ b. not (is_end b)) s p ≡ past_word s p
unfolding past_word
word-is s p = refl

-- ---- parts of a bracket, for any way v of passing a value

-- where a value can begin, v goes ahead
abbrev pub Ahead : (ℕ → ℕ) → List ℕ → Type 0
Ahead v s = (q : ℕ) → q < length s → is_end (byte_at s q) ≡ false → q < v q

flags : (a b c d : Bool) → (a || (b || c)) ≡ false → d ≡ false → (a || (b || d)) ≡ false
flags true b c d h k = h
flags false true c d h k = h
flags false false c d h k = k

module _ (s : List ℕ) (p : ℕ) where
  pub between-ahead : p ≤ past_between s p
  unfolding past_between
  between-ahead = run-ahead is_between s p

  between-past : length s ≤ p → past_between s p ≡ p
  unfolding past_between
  between-past h = run_end is_between s p h

  -- what stands between parts does not end a value
  between-stops : past_between s p < length s → is_closing (byte_at s (past_between s p)) ≡ false → is_end (byte_at s (past_between s p)) ≡ false
  unfolding past_between
  between-stops h k = let b = byte_at s (past_between s p) in flags (is_space b) (eqb b 0x2C) (eqb b 0x3A) (eqb b 0x5D || eqb b 0x7D) (run-stops is_between s p h) k

module _ (v : ℕ → ℕ) (s : List ℕ) (n p : ℕ) where
  step_end : byte_at s (past_between s p) ≡ 256 → parts_past v s (suc n) p ≡ past_between s p
  unfolding parts_past
  step_end e = rw (eq-eqb (byte_at s (past_between s p)) 256 e, parts_past)

  step-close : (byte_at s (past_between s p) ≡ 256 → ⊥) → is_closing (byte_at s (past_between s p)) ≡ true → parts_past v s (suc n) p ≡ past_between s p + 1
  unfolding parts_past
  step-close h e = rw (ne_eqb (byte_at s (past_between s p)) 256 h, parts_past) (rw e)

  step-next : (byte_at s (past_between s p) ≡ 256 → ⊥) → is_closing (byte_at s (past_between s p)) ≡ false → parts_past v s (suc n) p ≡ parts_past v s n (v (past_between s p))
  unfolding parts_past
  step-next h e = rw (ne_eqb (byte_at s (past_between s p)) 256 h, parts_past) (rw e)

step-none : (v : ℕ → ℕ) (s : List ℕ) (p : ℕ) → parts_past v s zero p ≡ p
unfolding parts_past
step-none v s p = refl

module _ (v : ℕ → ℕ) (s : List ℕ) (a : Ahead v s) where
  next-ahead : (p : ℕ) → (byte_at s (past_between s p) ≡ 256 → ⊥) → is_closing (byte_at s (past_between s p)) ≡ false → (past_between s p < length s) × (p < v (past_between s p)) × (past_between s p < v (past_between s p))
  next-ahead p h e =
      let l = inside s (past_between s p) h in
      let r = a (past_between s p) l (between-stops s p l e) in
      omega (arith, between-ahead s p)

  -- more parts than bytes are left change nothing
  parts_more : (k p : ℕ) → length s - p ≤ k → parts_past v s k p ≡ parts_past v s (suc k) p
  parts_more zero p h =
      let e = between-past s p (omega arith) in
      step-none v s p ∙ sym (step_end v s zero p (rw e (byte_past s p (omega arith))) ∙ e)
  parts_more (suc k) p h = go (λ q m. parts_more k q (omega arith)) (eqb (byte_at s (past_between s p)) 256) (is_closing (byte_at s (past_between s p))) refl refl
    where
      go : ((q : ℕ) → p < q → parts_past v s k q ≡ parts_past v s (suc k) q) → (t u : Bool) → eqb (byte_at s (past_between s p)) 256 ≡ t → is_closing (byte_at s (past_between s p)) ≡ u
          → parts_past v s (suc k) p ≡ parts_past v s (suc (suc k)) p
      go ih true u e f = let w = eqb-true (byte_at s (past_between s p)) 256 e in step_end v s k p w ∙ sym (step_end v s (suc k) p w)
      go ih false true e f = let w = eqb-false (byte_at s (past_between s p)) 256 e in step-close v s k p w f ∙ sym (step-close v s (suc k) p w f)
      go ih false false e f =
          let w = eqb-false (byte_at s (past_between s p)) 256 e in
          step-next v s k p w f ∙ ih (v (past_between s p)) (next-ahead p w f).1 ∙ sym (step-next v s (suc k) p w f)

  parts-ahead : (k p : ℕ) → p ≤ parts_past v s k p
  parts-ahead zero p = omega (arith, step-none v s p)
  parts-ahead (suc k) p = go (λ q. parts-ahead k q) (eqb (byte_at s (past_between s p)) 256) (is_closing (byte_at s (past_between s p))) refl refl
    where
      go : ((q : ℕ) → q ≤ parts_past v s k q) → (t u : Bool) → eqb (byte_at s (past_between s p)) 256 ≡ t → is_closing (byte_at s (past_between s p)) ≡ u → p ≤ parts_past v s (suc k) p
      go ih true u e f = omega (arith, step_end v s k p (eqb-true (byte_at s (past_between s p)) 256 e), between-ahead s p)
      go ih false true e f = omega (arith, step-close v s k p (eqb-false (byte_at s (past_between s p)) 256 e) f, between-ahead s p)
      go ih false false e f =
          let w = eqb-false (byte_at s (past_between s p)) 256 e in
          omega (arith, step-next v s k p w f, ih (v (past_between s p)), (next-ahead p w f).1)

  -- the parts from i on: the place q after what stands between, and its byte
  module _ (i : ℕ) {q b : ℕ} (g : q ≡ past_between s i) (e : b ≡ byte_at s q) where
    byte_is : b ≡ byte_at s (past_between s i)
    byte_is = e ∙ ap (byte_at s) g

    parts-end : b ≡ 256 → q ≡ parts_past v s (length s) i
    parts-end h = g ∙ go (length s) refl
      where
        go : (n : ℕ) → length s ≡ n → past_between s i ≡ parts_past v s n i
        go zero l = between-past s i (omega arith) ∙ sym (step-none v s i)
        go (suc n) l = sym (step_end v s n i (sym byte_is ∙ h))

    parts-close : (b ≡ 256 → ⊥) → is_closing b ≡ true → q + 1 ≡ parts_past v s (length s) i
    parts-close h k = ap (λ (x : ℕ). x + 1) g ∙ go (length s) (inside s (past_between s i) (λ w. h (byte_is ∙ w)))
      where
        go : (n : ℕ) → past_between s i < n → past_between s i + 1 ≡ parts_past v s n i
        go zero l = absurd (omega arith)
        go (suc n) l = sym (step-close v s n i (λ w. h (byte_is ∙ w)) (rw byte_is at k))

    module _ (h : b ≡ 256 → ⊥) (k : is_closing b ≡ false) where
      goes : (q < length s) × (i < v q) × (q < v q)
      goes = rw g (next-ahead i (λ w. h (byte_is ∙ w)) (rw byte_is at k))

      parts_next : parts_past v s (length s) i ≡ parts_past v s (length s) (v q)
      parts_next = rw g (go (length s) refl)
        where
          go : (n : ℕ) → length s ≡ n → parts_past v s n i ≡ parts_past v s n (v (past_between s i))
          go zero l = absurd (omega (arith, goes.0))
          go (suc n) l =
              step-next v s n i (λ w. h (byte_is ∙ w)) (rw byte_is at k)
              ∙ parts_more n (v (past_between s i)) (omega (arith, next-ahead i (λ w. h (byte_is ∙ w)) (rw byte_is at k)))

-- ---- values and brackets

value_unfold : (d : ℕ) (s : List ℕ) (p : ℕ) → past_value d s p ≡ past_with (past_bracket d s) s p
unfolding past_value past_bracket
value_unfold zero s p = refl
value_unfold (suc d) s p = refl

module _ (f : ℕ → ℕ) (s : List ℕ) (p b : ℕ) (e : b ≡ byte_at s p) where
  with_string : b ≡ 0x22 → past_with f s p ≡ string_end s (p + 1)
  unfolding past_with
  with_string h = rw (eq-eqb (byte_at s p) 0x22 (sym e ∙ h), past_with)

  module _ (h : b ≡ 0x22 → ⊥) where
    with_bracket : is_opening b ≡ true → past_with f s p ≡ f (p + 1)
    unfolding past_with
    with_bracket k = rw (ne_eqb (byte_at s p) 0x22 (λ w. h (e ∙ w)), past_with) (rw (rw e at k))

    with_word : is_opening b ≡ false → past_with f s p ≡ past_word s p
    unfolding past_with
    with_word k = rw (ne_eqb (byte_at s p) 0x22 (λ w. h (e ∙ w)), past_with) (rw (rw e at k))

-- a value goes ahead, if what is in its bracket does
with_ahead : (f : ℕ → ℕ) (s : List ℕ) → ((q : ℕ) → q < length s → q < f (q + 1)) → Ahead (past_with f s) s
unfolding past_word
with_ahead f s a q l n = go (eqb (byte_at s q) 0x22) (is_opening (byte_at s q)) refl refl
  where
    go : (t u : Bool) → eqb (byte_at s q) 0x22 ≡ t → is_opening (byte_at s q) ≡ u → q < past_with f s q
    go true u e k = omega (arith, with_string f s q (byte_at s q) refl (eqb-true (byte_at s q) 0x22 e), end-ahead s (q + 1))
    go false true e k = omega (arith, with_bracket f s q (byte_at s q) refl (eqb-false (byte_at s q) 0x22 e) k, a q l)
    go false false e k =
        omega (
          arith,
          with_word f s q (byte_at s q) refl (eqb-false (byte_at s q) 0x22 e) k,
          run-ahead (λ b. not (is_end b)) s (q + 1),
          run_more (λ b. not (is_end b)) s q l (ap (λ (b : ℕ). not (is_end b)) (byte_inside s q l) ∙ ap not n),
        )

pub value-ahead : (d : ℕ) (s : List ℕ) → Ahead (past_value d s) s
unfolding past_bracket
value-ahead zero s q l n = rw (value_unfold zero s q) (with_ahead (past_bracket zero s) s (λ x h. h) q l n)
value-ahead (suc d) s q l n =
    rw (value_unfold (suc d) s q)
    (with_ahead (past_bracket (suc d) s) s (λ x h. omega (arith, parts-ahead (past_value d s) s (value-ahead d s) (length s) (x + 1))) q l n)

module _ (d : ℕ) (s : List ℕ) (p b : ℕ) (e : b ≡ byte_at s p) where
  pub value-string : b ≡ 0x22 → string_end s (p + 1) ≡ past_value d s p
  value-string h = sym (value_unfold d s p ∙ with_string (past_bracket d s) s p b e h)

  module _ (h : b ≡ 0x22 → ⊥) where
    pub value-bracket : is_opening b ≡ true → past_bracket d s (p + 1) ≡ past_value d s p
    value-bracket k = sym (value_unfold d s p ∙ with_bracket (past_bracket d s) s p b e h k)

    pub value-word : is_opening b ≡ false → past_word s p ≡ past_value d s p
    value-word k = sym (value_unfold d s p ∙ with_word (past_bracket d s) s p b e h k)

pub bracket-deep : (d : ℕ) (s : List ℕ) (p : ℕ) → d ≡ 0 → length s ≡ past_bracket d s p
unfolding past_bracket
bracket-deep d s p h = rw h

bracket-parts : (d : ℕ) (s : List ℕ) (p : ℕ) → (d ≡ 0 → ⊥) → parts_past (past_value (d - 1) s) s (length s) p ≡ past_bracket d s p
unfolding past_bracket
bracket-parts zero s p h = absurd (h refl)
bracket-parts (suc d) s p h = ap (λ (k : ℕ). parts_past (past_value k s) s (length s) p) (let e : suc d - 1 ≡ d = omega arith in e)

-- ---- the loop over the parts of a bracket: those from i on are left

pub record Passing (d : ℕ) (s : List ℕ) (p i : ℕ) : Type 0 where
  pub left : parts_past (past_value (d - 1) s) s (length s) i ≡ past_bracket d s p

pub passing_start : (d : ℕ) (s : List ℕ) (p : ℕ) → (d ≡ 0 → ⊥) → Passing d s p p
passing_start d s p h = record { left = bracket-parts d s p h }

module _ {d : ℕ} {s : List ℕ} {p i q b : ℕ} (f : Passing d s p i) (g : q ≡ past_between s i) (e : b ≡ byte_at s q) where
  pub passing_end : b ≡ 256 → q ≡ past_bracket d s p
  passing_end h = parts-end (past_value (d - 1) s) s (value-ahead (d - 1) s) i g e h ∙ f.left

  pub passing_close : (b ≡ 256 → ⊥) → is_closing b ≡ true → q + 1 ≡ past_bracket d s p
  passing_close h k = parts-close (past_value (d - 1) s) s (value-ahead (d - 1) s) i g e h k ∙ f.left

  module _ {r : ℕ} (h : b ≡ 256 → ⊥) (k : is_closing b ≡ false) (w : r ≡ past_value (d - 1) s q) where
    pub passing_next : Passing d s p r
    passing_next = record { left = rw w (sym (parts_next (past_value (d - 1) s) s (value-ahead (d - 1) s) i g e h k) ∙ f.left) }

    pub passing_ahead : length s - r < length s - i
    passing_ahead = omega (arith, w, goes (past_value (d - 1) s) s (value-ahead (d - 1) s) i g e h k, g, between-ahead s i)
