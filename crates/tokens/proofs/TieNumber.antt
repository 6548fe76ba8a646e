-- The INTEGER at a place is that of the grammar's number, and none where it has a fraction or an exponent.
use Prim.Native.Nat.{ℕ, suc, ◌+◌, ◌-◌, ◌*◌}
use mathlib.Core.Path.{◌≡◌, refl, ap, ◌∙◌}
use mathlib.Core.List.{List, [], ◌∷◌, ◌++◌, append_assoc}
use mathlib.Core.Bool.{Bool, true, false, ◌||◌}
use Rattle.std.specs.Prelude.{None}
use native.Mathlib.Numerals.{add-one}
use native.Mathlib.Omega.{arith}
use borrow.Author.Tests.{ne_eqb}
use lib.Dec.{eqb}
use lib.ListN.{length, drop}
use Rattle.json_text.specs.Bytes.{In, past}
use Rattle.json_text.specs.Grammar.{Onward, stop, onward, Whole, nought, from, Signed, bare, minus, Power, small, small_plus, small_minus, large, large_plus, large_minus, Broken, fraction, power, both}
use Rattle.json_text.proofs.Feed.{in-true}
use Rattle.tokens.specs.Places.{byte_at, run_from}
use Rattle.tokens.specs.Numbers.{is_digit, digits_at, magnitude_at, broken_at, complement, whole_at, integer_at}
use Rattle.tokens.proofs.TiePlace.{byte_here, drop-next, drop_past, past-length}
use Rattle.tokens.proofs.TieSpace.{All, Stops, before, run_past, EndsHere, end-cases, ends-stop, stop_byte}

-- ---- how numbers begin

-- a whole number begins with a digit
pub whole-first : {n : ℕ} {bs : List ℕ} (P : List ℕ → Type 0) → ((b : ℕ) (cs : List ℕ) → In 0x30 0x39 b → P (b ∷ cs)) → Whole n bs → P bs
whole-first P f nought = f 0x30 [] (omega arith)
whole-first P f (from {b = b} {bs = bs} h d) = f b bs (omega arith)

-- an exponent begins with e or E
power-first : {cs : List ℕ} (P : List ℕ → Type 0) → ((ds : List ℕ) → P (0x65 ∷ ds)) → ((ds : List ℕ) → P (0x45 ∷ ds)) → Power cs → P cs
power-first P e E (small d) = e _
power-first P e E (small_plus d) = e _
power-first P e E (small_minus d) = e _
power-first P e E (large d) = E _
power-first P e E (large_plus d) = E _
power-first P e E (large_minus d) = E _

-- a fraction begins with a dot
broken-first : {cs : List ℕ} (P : List ℕ → Type 0) → ((ds : List ℕ) → P (0x2E ∷ ds)) → ((ds : List ℕ) → P (0x65 ∷ ds)) → ((ds : List ℕ) → P (0x45 ∷ ds)) → Broken cs → P cs
broken-first P f e E (fraction d) = f _
broken-first P f e E (power g) = power-first P e E g
broken-first P f e E (both d g q) = f _

-- ---- digits

onward-digits : {m n : ℕ} {bs : List ℕ} → Onward m n bs → All is_digit bs
onward-digits stop = tt
onward-digits (onward {b = b} h f) = (in-true 0x30 0x39 b h, onward-digits f)

pub whole-digits : {n : ℕ} {bs : List ℕ} → Whole n bs → All is_digit bs
whole-digits nought = (refl, tt)
whole-digits (from {b = b} h f) = (in-true 0x30 0x39 b (omega arith), onward-digits f)

digit_at_lem : (s : List ℕ) (p n m b : ℕ) → byte_at s p ≡ b → digits_at s p (suc n) m ≡ digits_at s (suc p) n (m * 10 + (b - 0x30))
unfolding digits_at
digit_at_lem s p n m b e = rw (e, add-one p)

onward-at : {m n : ℕ} {bs : List ℕ} (s : List ℕ) (p : ℕ) (ys : List ℕ) → Onward m n bs → drop p s ≡ bs ++ ys → digits_at s p (length bs) m ≡ n
unfolding digits_at
onward-at s p ys stop h = refl
onward-at {m} s p ys (onward {b = b} {bs = bs} g f) h = digit_at_lem s p (length bs) m b (byte_here s p b _ h) ∙ onward-at s (suc p) ys f (drop-next s p b _ h)

whole-at : {n : ℕ} {bs : List ℕ} (s : List ℕ) (p : ℕ) (ys : List ℕ) → Whole n bs → drop p s ≡ bs ++ ys → digits_at s p (length bs) 0 ≡ n
unfolding digits_at
whole-at s p ys nought h = digit_at_lem s p 0 0 0x30 (byte_here s p 0x30 _ h)
whole-at s p ys (from {b = b} {bs = bs} g f) h =
    let q : 0 * 10 + (b - 0x30) ≡ b - 0x30 = omega arith in
    digit_at_lem s p (length bs) 0 b (byte_here s p b _ h) ∙ rw q (onward-at s (suc p) ys f (drop-next s p b _ h))

-- ---- whole numbers

digits-past : {n : ℕ} {bs : List ℕ} (s : List ℕ) (p : ℕ) (ys : List ℕ) → Whole n bs → drop p s ≡ bs ++ ys → Stops is_digit ys → run_from is_digit s p ≡ past p bs
digits-past {bs = bs} s p ys w h g = run_past is_digit s p bs ys (whole-digits w) g h

magnitude-whole : {n : ℕ} {bs : List ℕ} (s : List ℕ) (p : ℕ) (ys : List ℕ) → Whole n bs → drop p s ≡ bs ++ ys → Stops is_digit ys → magnitude_at s p ≡ n
unfolding magnitude_at
magnitude-whole {bs = bs} s p ys w h g =
    let q : past p bs - p ≡ length bs = omega (arith, past-length p bs) in
    rw (digits-past s p ys w h g, q) (whole-at s p ys w h)

-- a fraction or an exponent begins with it
abbrev breaks : ℕ → Bool
breaks b = eqb b 0x2E || (eqb b 0x45 || eqb b 0x65)

-- where the digits end, the next byte tells
broken-by : {n : ℕ} {bs : List ℕ} (s : List ℕ) (p : ℕ) (ys : List ℕ) → Whole n bs → drop p s ≡ bs ++ ys → Stops is_digit ys → broken_at s p ≡ breaks (byte_at s (past p bs))
unfolding broken_at
broken-by s p ys w h g = ap (λ (q : ℕ). breaks (byte_at s q)) (digits-past s p ys w h g)

ends-digits : {ys : List ℕ} → EndsHere ys → Stops is_digit ys
ends-digits g = ends-stop is_digit (end-cases (λ b. is_digit b ≡ false) (refl, refl, refl, refl, refl, refl, refl)) g

ends-breaks : {ys : List ℕ} → EndsHere ys → Stops breaks ys
ends-breaks g = ends-stop breaks (end-cases (λ b. breaks b ≡ false) (refl, refl, refl, refl, refl, refl, refl)) g

whole-complement : {n : ℕ} {bs : List ℕ} (s : List ℕ) (p : ℕ) (ys : List ℕ) (m : Bool) → Whole n bs → drop p s ≡ bs ++ ys → EndsHere ys → whole_at s p m ≡ complement m n
unfolding whole_at
whole-complement {bs = bs} s p ys m w h g =
    let d = ends-digits g in
    let e = broken-by s p ys w h d ∙ stop_byte s (past p bs) (ends-breaks g) refl (drop_past s p bs ys h) in
    rw (e, whole_at, magnitude-whole s p ys w h d)

broken-none : {n : ℕ} {bs cs : List ℕ} (s : List ℕ) (p : ℕ) (ys : List ℕ) (m : Bool) → Whole n bs → Broken cs → drop p s ≡ (bs ++ cs) ++ ys → whole_at s p m ≡ None
unfolding whole_at
broken-none {bs = bs} {cs = cs} s p ys m w k h =
    let g : drop p s ≡ bs ++ (cs ++ ys) = rw append_assoc at h in
    let d = broken-first (λ x. Stops is_digit (x ++ ys)) (λ ds. before refl) (λ ds. before refl) (λ ds. before refl) k in
    let q : ℕ = past p bs in
    let e : breaks (byte_at s q) ≡ true =
    broken-first (λ x. drop q s ≡ x ++ ys → breaks (byte_at s q) ≡ true) (λ ds i. ap breaks (byte_here s q 0x2E _ i)) (λ ds i. ap breaks (byte_here s q 0x65 _ i))
    (λ ds i. ap breaks (byte_here s q 0x45 _ i)) k (drop_past s p bs _ g) in
    rw (broken-by s p (cs ++ ys) w g d ∙ e, whole_at)

-- ---- with the sign

bare_integer : {n : ℕ} {bs : List ℕ} (s : List ℕ) (p : ℕ) (ys : List ℕ) → Whole n bs → drop p s ≡ bs ++ ys → integer_at s p ≡ whole_at s p false
unfolding integer_at
bare_integer s p ys w h =
    let e = whole-first (λ bs. drop p s ≡ bs ++ ys → eqb (byte_at s p) 0x2D ≡ false) (λ b cs g i. rw (byte_here s p b _ i) (ne_eqb b 0x2D (λ q. omega arith))) w h in
    rw (e, integer_at)

minus_integer : (s : List ℕ) (p : ℕ) (ys : List ℕ) → drop p s ≡ 0x2D ∷ ys → integer_at s p ≡ whole_at s (suc p) true
unfolding integer_at
minus_integer s p ys h = rw (byte_here s p 0x2D ys h, integer_at, add-one p)

-- a number without fraction or exponent
pub integer_complement : {m : Bool} {n : ℕ} {bs : List ℕ} (s : List ℕ) (p : ℕ) (ys : List ℕ) → Signed m n bs → drop p s ≡ bs ++ ys → EndsHere ys → integer_at s p ≡ complement m n
integer_complement s p ys (bare w) h g = bare_integer s p ys w h ∙ whole-complement s p ys false w h g
integer_complement s p ys (minus w) h g = minus_integer s p _ h ∙ whole-complement s (suc p) ys true w (drop-next s p 0x2D _ h) g

-- one with either
pub real-none : {m : Bool} {n : ℕ} {bs cs : List ℕ} (s : List ℕ) (p : ℕ) (ys : List ℕ) → Signed m n bs → Broken cs → drop p s ≡ (bs ++ cs) ++ ys → integer_at s p ≡ None
real-none s p ys (bare w) k h = bare_integer s p _ w (rw append_assoc at h) ∙ broken-none s p ys false w k h
real-none s p ys (minus w) k h = minus_integer s p _ h ∙ broken-none s (suc p) ys true w k (drop-next s p 0x2D _ h)
