-- The machine takes every number of the grammar: first the number alone, then where a value may begin.
use Prim.Native.Nat.{ℕ, suc, ◌+◌, ◌-◌, ◌*◌}
use mathlib.Core.Path.{◌≡◌, refl, ◌∙◌}
use mathlib.Core.List.{List, [], ◌∷◌, ◌++◌}
use mathlib.Core.Bool.{Bool, true, false}
use Rattle.std.specs.Prelude.{None, Some}
use native.Mathlib.Omega.{arith}
use Rattle.json_text.specs.Bytes.{In, pick, past}
use Rattle.json_text.specs.Tree.{Json, jint, jreal}
use Rattle.json_text.specs.Grammar.{Digits, last_digit, more_digits, Onward, stop, onward, Whole, nought, from, Signed, bare, minus, Power, small, small_plus, small_minus, large, large_plus, large_minus, Broken, fraction, power, both}
use Rattle.json_text.specs.Machine.{Num, n_minus, n_zero, n_int, n_dot, n_frac, n_exp, n_sign, n_pow, fraction_rows, power_rows, num_step, num_tree, num_end, num_go, Stack, State, s_val, s_num, go, spaces, starts, step, finish}
use Rattle.json_text.proofs.Feed.{pick-row, pick-none, Feeds, more, feeds_append}
use Rattle.json_text.proofs.TakesValue.{Opens, NoNum, Ends, Valued}

-- ---- inside a number

-- from n the bytes lead to the other place in a number
pub data Counts : Num → List ℕ → Num → Type 0 where
  rest : {n : Num} → Counts n [] n
  next : {n m w : Num} {b : ℕ} {bs : List ℕ} → num_step n b ≡ Some m → Counts m bs w → Counts n (b ∷ bs) w

pub counts_append : {n m w : Num} {bs cs : List ℕ} → Counts n bs m → Counts m cs w → Counts n (bs ++ cs) w
counts_append rest g = g
counts_append (next e f) g = next e (counts_append f g)

-- a digit leads from n to m
abbrev OnDigit : Num → Num → Type 0
OnDigit n m = (b : ℕ) → In 0x30 0x39 b → num_step n b ≡ Some m

digits-count : {n m : Num} {bs : List ℕ} → OnDigit n m → OnDigit m m → Digits bs → Counts n bs m
digits-count f g (last_digit h) = next (f _ h) rest
digits-count f g (more_digits h d) = next (f _ h) (digits-count g g d)

dot-digit : OnDigit n_dot n_frac
unfolding num_step
dot-digit b h = pick-row 0 _ _ _ h

frac-digit : OnDigit n_frac n_frac
unfolding num_step
frac-digit b h = pick-row 0 _ _ _ h

exp-digit : OnDigit n_exp n_pow
unfolding num_step
exp-digit b h = pick-row 0 _ _ _ h

sign-digit : OnDigit n_sign n_pow
unfolding num_step
sign-digit b h = pick-row 0 _ _ _ h

pow-digit : OnDigit n_pow n_pow
unfolding num_step
pow-digit b h = pick-row 0 _ _ _ h

int-digit : (m : Bool) (n b : ℕ) → In 0x30 0x39 b → num_step (n_int m n) b ≡ Some (n_int m (n * 10 + (b - 0x30)))
unfolding num_step
int-digit m n b h = pick-row 0 _ _ _ h

onward-counts : {i n : ℕ} {bs : List ℕ} (m : Bool) → Onward i n bs → Counts (n_int m i) bs (n_int m n)
onward-counts m stop = rest
onward-counts m (onward h f) = next (int-digit m _ _ h) (onward-counts m f)

-- an exponent may follow
abbrev PowerNext : Num → Type 0
PowerNext n = (num_step n 0x65 ≡ Some n_exp) × (num_step n 0x45 ≡ Some n_exp)

exponent_counts : {bs : List ℕ} → Digits bs → Counts n_exp bs n_pow
exponent_counts d = digits-count exp-digit pow-digit d

signed_exponent : {b : ℕ} {bs : List ℕ} → num_step n_exp b ≡ Some n_sign → Digits bs → Counts n_exp (b ∷ bs) n_pow
signed_exponent e d = next e (digits-count sign-digit pow-digit d)

power-counts : {n : Num} {bs : List ℕ} → PowerNext n → Power bs → Counts n bs n_pow
unfolding num_step pick
power-counts h (small d) = next h.0 (exponent_counts d)
power-counts h (small_plus d) = next h.0 (signed_exponent refl d)
power-counts h (small_minus d) = next h.0 (signed_exponent refl d)
power-counts h (large d) = next h.1 (exponent_counts d)
power-counts h (large_plus d) = next h.1 (signed_exponent refl d)
power-counts h (large_minus d) = next h.1 (signed_exponent refl d)

-- the whole number n with its sign may end here
data WholeAt : Bool → ℕ → Num → Type 0 where
  at_nought : {m : Bool} → WholeAt m 0 (n_zero m)
  at_int : {m : Bool} {n : ℕ} → WholeAt m n (n_int m n)

whole-tree : {m : Bool} {n : ℕ} {x : Num} (q : ℕ) → WholeAt m n x → num_tree x q ≡ Some (jint q m n)
unfolding num_tree
whole-tree q at_nought = refl
whole-tree q at_int = refl

whole-dot : {m : Bool} {n : ℕ} {x : Num} → WholeAt m n x → num_step x 0x2E ≡ Some n_dot
unfolding num_step pick fraction_rows
whole-dot at_nought = refl
whole-dot at_int = refl

whole-power : {m : Bool} {n : ℕ} {x : Num} → WholeAt m n x → PowerNext x
unfolding num_step pick fraction_rows power_rows
whole-power at_nought = (refl, refl)
whole-power at_int = (refl, refl)

frac-power : PowerNext n_frac
unfolding num_step pick power_rows
frac-power = (refl, refl)

-- the bytes lead from n to where a number with fraction or exponent may end
record Reals (n : Num) (bs : List ℕ) : Type 0 where
  pub end : Num
  pub counts : Counts n bs end
  pub tree : (q : ℕ) → num_tree end q ≡ Some (jreal q)

broken-counts : {m : Bool} {i : ℕ} {n : Num} {bs : List ℕ} → WholeAt m i n → Broken bs → Reals n bs
unfolding num_tree
broken-counts h (fraction d) = record { end = n_frac; counts = next (whole-dot h) (digits-count dot-digit frac-digit d); tree = λ q. refl }
broken-counts h (power e) = record { end = n_pow; counts = power-counts (whole-power h) e; tree = λ q. refl }
broken-counts h (both d e c) = record { end = n_pow; counts = rw c (next (whole-dot h) (counts_append (digits-count dot-digit frac-digit d) (power-counts frac-power e))); tree = λ q. refl }

-- ---- in the machine

num_step_lem : {m : Num} (n : Num) (b p q : ℕ) (k : Stack) → num_step n b ≡ Some m → step p (s_num n q k) b ≡ go (s_num m q k)
unfolding step num_go
num_step_lem n b p q k e = rw e

pub counts-feeds : {n w : Num} {bs : List ℕ} → Counts n bs w → (p q : ℕ) (k : Stack) → Feeds p (s_num n q k) bs (s_num w q k)
counts-feeds rest p q k = Feeds.stop
counts-feeds (next e f) p q k = more (num_step_lem _ _ p q k e) (counts-feeds f (suc p) q k)

-- a byte that no number has goes on with none
pub no_num : (n : Num) (b : ℕ) → NoNum b → num_step n b ≡ None
unfolding num_step fraction_rows power_rows
no_num n_minus b h = pick-none _ _ _ (λ g. h.digit (omega arith), (λ g. h.digit (omega arith), tt))
no_num (n_zero m) b h = pick-none _ _ _ (omega arith)
no_num (n_int m n) b h = pick-none _ _ _ (h.digit, omega arith)
no_num n_dot b h = pick-none _ _ _ (h.digit, tt)
no_num n_frac b h = pick-none _ _ _ (h.digit, omega arith)
no_num n_exp b h = pick-none _ _ _ (h.digit, omega arith)
no_num n_sign b h = pick-none _ _ _ (h.digit, tt)
no_num n_pow b h = pick-none _ _ _ (h.digit, tt)

pub num_ends : (n : Num) (j : Json) (q : ℕ) (k : Stack) → num_tree n q ≡ Some j → Ends (s_num n q k) j k
unfolding step num_go num_end finish
num_ends n j q k e = record { next = λ p b h. rw (no_num n b h, e); last = λ p. rw e }

-- from the place p the bytes lead to the whole number n, which began at q
record Wholes (p q : ℕ) (st : State) (bs : List ℕ) (m : Bool) (n : ℕ) (k : Stack) : Type 0 where
  pub end : Num
  pub feeds : Feeds p st bs (s_num end q k)
  pub whole : WholeAt m n end

whole-feeds : {n : ℕ} {st : State} {bs : List ℕ} (p q : ℕ) (m : Bool) (k : Stack) → step p st 0x30 ≡ go (s_num (n_zero m) q k)
    → ((b : ℕ) → In 0x31 0x39 b → step p st b ≡ go (s_num (n_int m (b - 0x30)) q k)) → Whole n bs → Wholes p q st bs m n k
whole-feeds p q m k e f nought = record { end = n_zero m; feeds = more e Feeds.stop; whole = at_nought }
whole-feeds p q m k e f (from {n = n} {b = b} h d) = record { end = n_int m n; feeds = more (f b h) (counts-feeds (onward-counts m d) (suc p) q k); whole = at_int }

first-nought : (p : ℕ) (k : Stack) → step p (s_val k) 0x30 ≡ go (s_num (n_zero false) p k)
unfolding step pick spaces starts
first-nought p k = refl

first-digit : (p b : ℕ) (k : Stack) → In 0x31 0x39 b → step p (s_val k) b ≡ go (s_num (n_int false (b - 0x30)) p k)
unfolding step spaces starts
first-digit p b k h = pick-row 6 _ _ _ (omega arith)

first-minus : (p : ℕ) (k : Stack) → step p (s_val k) 0x2D ≡ go (s_num n_minus p k)
unfolding step pick spaces starts
first-minus p k = refl

minus-nought : num_step n_minus 0x30 ≡ Some (n_zero true)
unfolding num_step pick
minus-nought = refl

minus-digit : (b : ℕ) → In 0x31 0x39 b → num_step n_minus b ≡ Some (n_int true (b - 0x30))
unfolding num_step
minus-digit b h = pick-row 1 _ _ _ (omega arith)

signed-feeds : {m : Bool} {n : ℕ} {st : State} {bs : List ℕ} {k : Stack} (p : ℕ) → Opens st k → Signed m n bs → Wholes p p st bs m n k
signed-feeds {k = k} p o (bare w) =
    whole-feeds p p false k (o.start p 0x30 (omega arith) ∙ first-nought p k) (λ b h. o.start p b (omega arith) ∙ first-digit p b k h) w
signed-feeds {k = k} p o (minus w) =
    let v = whole-feeds (suc p) p true k (num_step_lem n_minus 0x30 (suc p) p k minus-nought) (λ b h. num_step_lem n_minus b (suc p) p k (minus-digit b h)) w in
    record { end = v.end; feeds = more (o.start p 0x2D (omega arith) ∙ first-minus p k) v.feeds; whole = v.whole }

-- a number without fraction or exponent
pub whole-valued : {m : Bool} {n : ℕ} {st : State} {bs : List ℕ} {k : Stack} (p : ℕ) → Opens st k → Signed m n bs → Valued p st bs (jint p m n) k
whole-valued {k = k} p o h =
    let w = signed-feeds p o h in
    record { end = s_num w.end p k; feeds = w.feeds; ends = num_ends _ _ p k (whole-tree p w.whole) }

-- a number with a fraction, an exponent or both
pub real-valued : {m : Bool} {n : ℕ} {st : State} {bs cs : List ℕ} {k : Stack} (p : ℕ) → Opens st k → Signed m n bs → Broken cs → Valued p st (bs ++ cs) (jreal p) k
real-valued {bs = bs} {k = k} p o h g =
    let w = signed-feeds p o h in
    let r = broken-counts w.whole g in
    record { end = s_num r.end p k; feeds = feeds_append w.feeds (counts-feeds r.counts (past p bs) p k); ends = num_ends _ _ p k (r.tree p) }
