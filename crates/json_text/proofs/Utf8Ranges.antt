-- The test for UTF-8 is RFC 3629's grammar.
use Prim.Native.Nat.{ℕ, zero, suc, ◌≤◌}
use mathlib.Core.Path.{◌≡◌, refl, ◌∙◌}
use mathlib.Core.List.{List, [], ◌∷◌, ◌++◌}
use mathlib.Core.Bool.{true}
use native.Mathlib.Omega.{arith}
use Rattle.json_text.specs.Bytes.{In}
use Rattle.json_text.specs.Utf8.{Wide, two, three_e0, three_e1, three_eD, three_eE, four_f0, four_f1, four_f4, Utf8, no_char, one, more, wide_rows, Due, start, due, never, due_next, due_step, due_end, utf8_from, utf8}
use Rattle.json_text.proofs.Feed.{pick-row}
use Rattle.json_text.proofs.SoundRows.{Within, pick-within, ◌⨾◌, only, behind}
use Rattle.json_text.proofs.SoundString.{no_cont, cont, WideEnd, wide_end, with_one, with_two, with_three}

-- ---- whole characters pass

-- the bytes c are whole characters
abbrev pub Whole : List ℕ → Type 0
Whole c = (s : List ℕ) → utf8_from start (c ++ s) ≡ utf8_from start s

after_byte : (d e : Due) (b : ℕ) → due_step d b ≡ e → (s : List ℕ) → utf8_from d (b ∷ s) ≡ utf8_from e s
unfolding utf8_from
after_byte d e b h s = rw h

pub whole_plain : {b : ℕ} → b ≤ 0x7F → Whole (b ∷ [])
unfolding due_step
whole_plain {b} l s = after_byte start start b (pick-row 0 b _ never (omega arith)) s

-- a first byte that leaves others due, and the next of them
first_two : (n b lo hi x : ℕ) → due_step start b ≡ due lo hi n → In lo hi x → (s : List ℕ) → utf8_from start (b ∷ x ∷ s) ≡ utf8_from (due_next n) s
unfolding due_step
first_two n b lo hi x e i s = after_byte start (due lo hi n) b e (x ∷ s) ∙ after_byte (due lo hi n) (due_next n) x (pick-row 0 x _ never i) s

later : (n : ℕ) {x : ℕ} → In 0x80 0xBF x → (s : List ℕ) → utf8_from (due_next (suc n)) (x ∷ s) ≡ utf8_from (due_next n) s
unfolding due_step due_next
later n {x} i s = after_byte (due 0x80 0xBF n) (due_next n) x (pick-row 0 x _ never i) s

pub whole_wide : {c : List ℕ} → Wide c → Whole c
unfolding due_step due_next wide_rows
whole_wide (two {a} i j) s = first_two 0 a _ _ _ (pick-row 1 a _ never (omega arith)) j s
whole_wide (three_e0 i j) s = first_two 1 0xE0 _ _ _ (pick-row 2 0xE0 _ never (omega arith)) i _ ∙ later 0 j s
whole_wide (three_e1 {a} i j k) s = first_two 1 a _ _ _ (pick-row 3 a _ never (omega arith)) j _ ∙ later 0 k s
whole_wide (three_eD i j) s = first_two 1 0xED _ _ _ (pick-row 4 0xED _ never (omega arith)) i _ ∙ later 0 j s
whole_wide (three_eE {a} i j k) s = first_two 1 a _ _ _ (pick-row 5 a _ never (omega arith)) j _ ∙ later 0 k s
whole_wide (four_f0 i j k) s = first_two 2 0xF0 _ _ _ (pick-row 6 0xF0 _ never (omega arith)) i _ ∙ later 1 j _ ∙ later 0 k s
whole_wide (four_f1 {a} i j k l) s = first_two 2 a _ _ _ (pick-row 7 a _ never (omega arith)) j _ ∙ later 1 k _ ∙ later 0 l s
whole_wide (four_f4 i j k) s = first_two 2 0xF4 _ _ _ (pick-row 8 0xF4 _ never (omega arith)) i _ ∙ later 1 j _ ∙ later 0 k s

none_left : utf8_from start [] ≡ true
unfolding utf8_from due_end
none_left = refl

passes : {bs : List ℕ} → Utf8 bs → utf8_from start bs ≡ true
passes no_char = none_left
passes (one i u) = whole_plain i.1 _ ∙ passes u
passes (more w u e) = rw e (whole_wide w _ ∙ passes u)

-- ---- what passes is whole characters

-- the bytes end the character that is begun, and more follow
data Ends (lo hi n : ℕ) (ds : List ℕ) : Type 0 where
  ends : {c bs : List ℕ} → WideEnd lo hi n c → Utf8 bs → ds ≡ c ++ bs → Ends lo hi n ds

abbrev Rest : Due → List ℕ → Type 0
Rest start bs = Utf8 bs
Rest (due lo hi n) bs = Ends lo hi n bs
Rest never bs = ⊥

-- what a byte leads to, and the bytes after it, are what stands from the byte on
abbrev Led : Due → ℕ → Due → Type 0
Led d b e = (bs : List ℕ) → Rest e bs → Rest d (b ∷ bs)

begun : {b lo hi n : ℕ} → ((c : List ℕ) → WideEnd lo hi n c → Wide (b ∷ c)) → Led start b (due lo hi n)
begun h bs (ends {c = c} w u e) = more (h c w) u (behind e)

wide-led : (b : ℕ) → Within (Led start b) b (wide_rows (λ b lo hi n. due lo hi n))
unfolding wide_rows
wide-led b =
    (λ i. begun (with_one (λ x h. two i h)))
    ⨾ (λ i. begun (with_two (λ x y h k. rw (only i) (three_e0 h k))))
    ⨾ (λ i. begun (with_two (λ x y h k. three_e1 i h k)))
    ⨾ (λ i. begun (with_two (λ x y h k. rw (only i) (three_eD h k))))
    ⨾ (λ i. begun (with_two (λ x y h k. three_eE i h k)))
    ⨾ (λ i. begun (with_three (λ x y z h k l. rw (only i) (four_f0 h k l))))
    ⨾ (λ i. begun (with_three (λ x y z h k l. four_f1 i h k l)))
    ⨾ (λ i. begun (with_three (λ x y z h k l. rw (only i) (four_f4 h k l))))
    ⨾ tt

next-led : (n : ℕ) {lo hi b : ℕ} → In lo hi b → Led (due lo hi n) b (due_next n)
unfolding due_next
next-led zero i bs u = ends (wide_end i no_cont) u refl
next-led (suc n) i bs (ends (wide_end j w) u e) = ends (wide_end i (cont j w)) u (behind e)

step-led : (d : Due) (b : ℕ) → Led d b (due_step d b)
unfolding due_step
step-led start b = pick-within (Led start b) b _ _ ((λ i bs u. one i u) ⨾ wide-led b) (λ bs u. absurd u)
step-led (due lo hi n) b = pick-within (Led (due lo hi n) b) b _ _ ((λ i. next-led n i) ⨾ tt) (λ bs u. absurd u)
step-led never b = λ bs u. u

rest : (bs : List ℕ) (d : Due) → utf8_from d bs ≡ true → Rest d bs
unfolding utf8_from due_end
rest [] start e = no_char
rest [] (due lo hi n) e = absurd (let z : ◌≡◌ {A = ℕ} 0 1 = cc in omega arith)
rest [] never e = absurd (let z : ◌≡◌ {A = ℕ} 0 1 = cc in omega arith)
rest (b ∷ bs) d e = step-led d b bs (rest bs (due_step d b) e)

-- the bytes that pass are RFC 3629's UTF-8, and no others
pub utf8_exactly : (bs : List ℕ) → (utf8 bs ≡ true → Utf8 bs) × (Utf8 bs → utf8 bs ≡ true)
unfolding utf8
utf8_exactly bs = (λ e. rest bs start e, λ u. passes u)
