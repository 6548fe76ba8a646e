-- From inside a number, what the machine takes up to its end is the rest of a number of the grammar.
use Prim.Native.Nat.{ℕ, ◌-◌}
use mathlib.Core.Path.{◌≡◌, refl}
use mathlib.Core.List.{List, [], ◌∷◌, ◌++◌}
use mathlib.Core.Bool.{Bool, true, false}
use Rattle.std.specs.Prelude.{Option, None, Some}
use native.Mathlib.Omega.{arith}
use Rattle.json_text.specs.Bytes.{In}
use Rattle.json_text.specs.Tree.{Json, jint, jreal}
use Rattle.json_text.specs.Grammar.{Digits, last_digit, more_digits, Onward, stop, onward, Whole, nought, from, Signed, bare, minus, Power, small, small_plus, small_minus, large, large_plus, large_minus, Broken, fraction, power, both, Value, whole, real}
use Rattle.json_text.specs.Machine.{Num, n_minus, n_zero, n_int, n_dot, n_frac, n_exp, n_sign, n_pow, fraction_rows, power_rows, num_step, num_tree}
use Rattle.json_text.proofs.SoundRows.{Within, pick-within, ◌⨾◌, only, behind}

-- ---- what each state still wants

-- the rest of a number that began at q, with its minus sign or not: a whole part as W says, and perhaps more
pub data Numeral (q : ℕ) (m : Bool) (W : ℕ → List ℕ → Type 0) : Json → List ℕ → Type 0 where
  is_whole : {n : ℕ} {bs : List ℕ} → W n bs → Numeral q m W (jint q m n) bs
  is_real : {n : ℕ} {bs cs ds : List ℕ} → W n bs → Broken cs → ds ≡ bs ++ cs → Numeral q m W (jreal q) ds

-- the whole part 0 has ended
pub data Naught : ℕ → List ℕ → Type 0 where
  naught : Naught 0 []

-- the bytes bs end the number that began at q, and j is its tree
abbrev pub NumFrom : Num → ℕ → Json → List ℕ → Type 0
NumFrom n_minus q j bs = Numeral q true Whole j bs
NumFrom (n_zero m) q j bs = Numeral q m Naught j bs
NumFrom (n_int m n) q j bs = Numeral q m (Onward n) j bs
NumFrom n_dot q j bs = (j ≡ jreal q) × Broken (0x2E ∷ bs)
NumFrom n_frac q j bs = (j ≡ jreal q) × ((b : ℕ) → In 0x30 0x39 b → Broken (0x2E ∷ b ∷ bs))
NumFrom n_exp q j bs = (j ≡ jreal q) × Power (0x45 ∷ bs) × Power (0x65 ∷ bs)
NumFrom n_sign q j bs = (j ≡ jreal q) × Digits bs
NumFrom n_pow q j bs = (j ≡ jreal q) × ((b : ℕ) → In 0x30 0x39 b → Digits (b ∷ bs))

-- ---- the steps, state by state

-- what may follow a step with the byte b makes T with that byte
abbrev pub Grows : (ℕ → Json → List ℕ → Type 0) → ℕ → Option Num → Type 0
Grows T b (Some n) = (q : ℕ) (j : Json) (bs : List ℕ) → NumFrom n q j bs → T q j (b ∷ bs)
Grows T b None = Unit {0}

naught-whole : {n : ℕ} {cs : List ℕ} → Naught n cs → Whole n (0x30 ∷ cs)
naught-whole naught = nought

numeral_cons : {q b : ℕ} {m : Bool} {W X : ℕ → List ℕ → Type 0} {j : Json} {bs : List ℕ} → ((n : ℕ) (cs : List ℕ) → W n cs → X n (b ∷ cs)) → Numeral q m W j bs → Numeral q m X j (b ∷ bs)
numeral_cons h (is_whole {n = n} {bs = bs} w) = is_whole (h n bs w)
numeral_cons h (is_real {n = n} {bs = bs} w k e) = is_real (h n bs w) k (behind e)

-- a whole part that may end here may be followed by a fraction or an exponent
broken-within : (m : Bool) (W : ℕ → List ℕ → Type 0) (n b : ℕ) → W n [] → Within (Grows (λ q j. Numeral q m W j) b) b (fraction_rows power_rows)
unfolding fraction_rows power_rows
broken-within m W n b w =
    (λ i q j bs f. rw (only i, f.0) (is_real w f.1 refl))
    ⨾ (λ i q j bs f. rw (only i, f.0) (is_real w (power f.1) refl))
    ⨾ (λ i q j bs f. rw (only i, f.0) (is_real w (power f.2) refl))
    ⨾ tt

digit-before : {a : ℕ} {bs : List ℕ} → In 0x30 0x39 a → Broken (0x2E ∷ bs) → Broken (0x2E ∷ a ∷ bs)
digit-before i (fraction d) = fraction (more_digits i d)
digit-before {a = a} {bs = bs} i (power x) = elim x [ ]
digit-before i (both d e g) = both (more_digits i d) e (behind g)

pub num_grows : (n : Num) (b : ℕ) → Grows (NumFrom n) b (num_step n b)
unfolding num_step power_rows
num_grows n_minus b =
    pick-within (Grows (NumFrom n_minus) b) b _ _
    ((λ i q j bs. rw (only i) (numeral_cons (λ n cs. naught-whole))) ⨾ (λ i q j bs. numeral_cons (λ n cs o. from i o)) ⨾ tt)
    tt
num_grows (n_zero m) b = pick-within (Grows (NumFrom (n_zero m)) b) b _ _ (broken-within m _ 0 b naught) tt
num_grows (n_int m n) b = pick-within (Grows (NumFrom (n_int m n)) b) b _ _ ((λ i q j bs. numeral_cons (λ k cs o. onward i o)) ⨾ broken-within m _ n b stop) tt
num_grows n_dot b = pick-within (Grows (NumFrom n_dot) b) b _ _ ((λ i q j bs f. (f.0, f.1 b i)) ⨾ tt) tt
num_grows n_frac b =
    pick-within (Grows (NumFrom n_frac) b) b _ _
    ((λ i q j bs f. (f.0, λ a h. digit-before h (f.1 b i)))
    ⨾ (λ i q j bs f. (f.0, λ a h. rw (only i) (both (last_digit h) f.1 refl)))
    ⨾ (λ i q j bs f. (f.0, λ a h. rw (only i) (both (last_digit h) f.2 refl)))
    ⨾ tt)
    tt
num_grows n_exp b =
    pick-within (Grows (NumFrom n_exp) b) b _ _
    ((λ i q j bs f. (f.0, large (f.1 b i), small (f.1 b i)))
    ⨾ (λ i q j bs f. rw (only i) (f.0, large_plus f.1, small_plus f.1))
    ⨾ (λ i q j bs f. rw (only i) (f.0, large_minus f.1, small_minus f.1))
    ⨾ tt)
    tt
num_grows n_sign b = pick-within (Grows (NumFrom n_sign) b) b _ _ ((λ i q j bs f. (f.0, f.1 b i)) ⨾ tt) tt
num_grows n_pow b = pick-within (Grows (NumFrom n_pow) b) b _ _ ((λ i q j bs f. (f.0, λ a h. more_digits h (f.1 b i))) ⨾ tt) tt

never-some : {j : Json} → None ≡ Some j → ⊥
never-some e = let z : ◌≡◌ {A = ℕ} 0 1 = cc in omega arith

pub num_ends : (n : Num) (q : ℕ) (j : Json) → num_tree n q ≡ Some j → NumFrom n q j []
unfolding num_tree
num_ends n_minus q j e = absurd (never-some e)
num_ends (n_zero m) q j e = let g : j ≡ jint q m 0 = cc in rw g (is_whole naught)
num_ends (n_int m n) q j e = let g : j ≡ jint q m n = cc in rw g (is_whole stop)
num_ends n_dot q j e = absurd (never-some e)
num_ends n_frac q j e = (cc, λ b i. fraction (last_digit i))
num_ends n_exp q j e = absurd (never-some e)
num_ends n_sign q j e = absurd (never-some e)
num_ends n_pow q j e = (cc, λ b i. last_digit i)

-- ---- a number from its first byte

numeral_value : {d q b : ℕ} {m : Bool} {W : ℕ → List ℕ → Type 0} {j : Json} {bs : List ℕ} → ((n : ℕ) (cs : List ℕ) → W n cs → Signed m n (b ∷ cs)) → Numeral q m W j bs → Value d q j (b ∷ bs)
numeral_value h (is_whole {n = n} {bs = bs} w) = whole (h n bs w)
numeral_value h (is_real {n = n} {bs = bs} w k e) = real (h n bs w) k (behind e)

pub minus-value : {d q : ℕ} {j : Json} {bs : List ℕ} → NumFrom n_minus q j bs → Value d q j (0x2D ∷ bs)
minus-value f = numeral_value (λ n cs w. minus w) f

pub zero-value : {d q : ℕ} {j : Json} {bs : List ℕ} → NumFrom (n_zero false) q j bs → Value d q j (0x30 ∷ bs)
zero-value f = numeral_value {m = false} {W = Naught} (λ n cs o. bare (naught-whole o)) f

pub digit_value : {d q b : ℕ} {j : Json} {bs : List ℕ} → In 0x31 0x39 b → NumFrom (n_int false (b - 0x30)) q j bs → Value d q j (b ∷ bs)
digit_value i f = numeral_value (λ n cs w. bare (from i w)) f
