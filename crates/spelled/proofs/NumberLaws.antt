-- Digits one after another make a whole number of the grammar, and the number its meaning.
use Prim.Native.Nat.{ℕ, zero, suc, ◌+◌, ◌-◌, ◌*◌, ◌/◌, ◌%◌, ◌^◌, ◌<◌, ◌≤◌}
use mathlib.Core.Path.{◌≡◌, refl, sym, ap, ◌∙◌}
use mathlib.Core.List.{List, [], ◌∷◌, ◌++◌}
use mathlib.Core.Bool.{true, false}
use native.Mathlib.Nat.{add-zero}
use native.Mathlib.Omega.{arith}
use borrow.Author.Tests.{lt-ltb, le-leb}
use lib.ListN.{length, get_or}
use Rattle.json_text.specs.Bytes.{In}
use Rattle.json_text.specs.Grammar.{Onward, stop, onward, Whole, nought, from, Signed, bare, minus}
use Rattle.jer.specs.Value.{v_int}
use Rattle.jer.specs.Answer.{ok}
use Rattle.jer.specs.Read.{read_int}
use Rattle.tokens.specs.Places.{byte_at}
use Rattle.tokens.proofs.PlaceLaws.{byte_inside}
use Rattle.spelled.specs.Stretch.{Stretch, Passed}
use Rattle.spelled.specs.Leaves.{IntegerAt}
use Rattle.spelled.proofs.StretchLaws.{Exactly, stretch-none, stretch_as, stretch_join, stretch-more, byte_here, passed}

-- ---- digits

pub onward_snoc : {m n b : ℕ} {bs : List ℕ} → Onward m n bs → In 0x30 0x39 b → Onward m (n * 10 + (b - 0x30)) (bs ++ (b ∷ []))
onward_snoc stop i = onward i stop
onward_snoc (onward h o) i = onward h (onward_snoc o i)

pub onto_none : (s : List ℕ) (p m : ℕ) → Stretch (Onward m m) s p p
onto_none s p m = stretch-none (Onward m m) s p stop

pub onto_more : (s : List ℕ) (p q m n b : ℕ) → Stretch (Onward m n) s p q → q < length s → b ≡ get_or s q 0 → 0x30 ≤ b → b ≤ 0x39 → Stretch (Onward m (n * 10 + (b - 0x30))) s p (q + 1)
onto_more s p q m n b k l e g h =
    stretch-more (Onward m n) (Onward m (n * 10 + (b - 0x30))) s p q b (λ xs o. onward_snoc o (g, h)) k l e (omega arith)

-- the digits that k bytes more than one may make
unfoldable pub cap : ℕ → ℕ
cap zero = 10
cap (suc k) = cap k * 10

abbrev pub Few : ℕ → ℕ → ℕ → Type 0
Few m p q = m < cap (q - p)

pub few-one : (m p : ℕ) → m ≤ 9 → Few m p p
unfolding cap
few-one m p h = let e : p - p ≡ 0 = omega arith in rw e (omega arith)

pub few-more : (m d p q : ℕ) → p ≤ q → d ≤ 9 → Few m p q → Few (m * 10 + d) p (q + 1)
unfolding cap
few-more m d p q l h k = let e : q + 1 - p ≡ suc (q - p) = omega arith in rw e (times (cap (q - p)) k)
  where
    times : (c : ℕ) → m < c → m * 10 + d < c * 10
    times c g = omega arith

cap-more : (k j : ℕ) → cap k ≤ cap (k + j)
unfolding cap
cap-more k zero = rw (add-zero k) (omega arith)
cap-more k (suc j) = let e : k + suc j ≡ suc (k + j) = omega arith in rw e (grown (cap (k + j)) (cap-more k j))
  where
    grown : (c : ℕ) → cap k ≤ c → cap k ≤ c * 10
    grown c g = omega arith

cap-below : (k n : ℕ) → k ≤ n → cap k ≤ cap n
cap-below k n h = let e : k + (n - k) ≡ n = omega arith in rw e at (cap-more k (n - k))

cap_17 : cap 17 ≡ 1000000000000000000
unfolding cap
cap_17 = refl

cap_16 : cap 16 ≡ 100000000000000000
unfolding cap
cap_16 = refl

pub few-small : (m p q : ℕ) → q ≤ p + 17 → Few m p q → m < 2 ^ 63
few-small m p q h k = omega (arith, cap-below (q - p) 17 (omega arith), cap_17)

pub few-room : (m p q : ℕ) → q < p + 17 → Few m p q → m < 100000000000000000
few-room m p q h k = omega (arith, cap-below (q - p) 16 (omega arith), cap_16)

-- ---- whole numbers

module _ (s : List ℕ) (p : ℕ) (l : p < length s) where
  pub whole-nought : get_or s p 0 ≡ 0x30 → Passed (Whole 0) s p (p + 1)
  whole-nought h =
      passed (Whole 0) s p (p + 1) (stretch_as (Exactly (0x30 ∷ [])) (Whole 0) s p (p + 1) (λ xs e. rw e nought) (byte_here s p 0x30 (sym (byte_inside s p l) ∙ h) (omega arith))) (omega arith)

  pub whole_from : (q n : ℕ) → 0x31 ≤ get_or s p 0 → get_or s p 0 ≤ 0x39 → Stretch (Onward (get_or s p 0 - 0x30) n) s (p + 1) q → p + 1 ≤ q → Passed (Whole n) s p q
  whole_from q n g h k w =
      let b = get_or s p 0 in
      passed (Whole n) s p q
      (stretch_join (Exactly (b ∷ [])) (Onward (b - 0x30) n) (Whole n) s p (p + 1) q (λ xs ys e o. rw e (from (g, h) o)) (byte_here s p b (sym (byte_inside s p l)) (omega arith)) k) (omega arith)

-- ---- the number read

read-bare : (p n : ℕ) → n < 2 ^ 63 → read_int p false n ≡ ok (v_int n)
unfolding read_int
read-bare p n l = rw (lt-ltb n (2 ^ 63) l, read_int)

abbrev negative : ℕ → ℕ
negative zero = 0
negative (suc n) = 2 ^ 64 - suc n

read-negative : (p n : ℕ) → n < 2 ^ 63 → read_int p true n ≡ ok (v_int (negative n))
unfolding read_int
read-negative p zero l = refl
read-negative p (suc n) l = rw (le-leb (suc n) (2 ^ 63) (omega arith), read_int)

negated : (n x : ℕ) → n < 2 ^ 63 → x < 2 ^ 64 → (x + n) % 2 ^ 64 ≡ 0 → x ≡ negative n
negated zero x l h e = omega arith
negated (suc m) x l h e = omega arith

module _ (s : List ℕ) (p q n : ℕ) (l : n < 2 ^ 63) where
  pub integer_bare : Passed (Whole n) s p q → IntegerAt s p q (n % 2 ^ 32) (n / 2 ^ 32)
  integer_bare k =
      record {
        minus = false;
        magnitude = n;
        number = n;
        passed = passed (Signed false n) s p q (stretch_as (Whole n) (Signed false n) s p q (λ xs w. bare w) k.stretch) k.ahead;
        reads = read-bare p n l;
        lower = refl;
        upper = refl;
      }

  module _ (b : ℕ) (f : b ≡ byte_at s p) (g : b ≡ 0x2D) (k : Passed (Whole n) s (p + 1) q) where
    integer_minus : (x : ℕ) → x ≡ negative n → IntegerAt s p q (x % 2 ^ 32) (x / 2 ^ 32)
    integer_minus x i =
        record {
          minus = true;
          magnitude = n;
          number = negative n;
          passed =
              passed (Signed true n) s p q
              (stretch_join (Exactly (0x2D ∷ [])) (Whole n) (Signed true n) s p (p + 1) q (λ xs ys e w. rw e (minus w)) (byte_here s p 0x2D (sym f ∙ g) (omega arith)) k.stretch) (omega (arith, k.ahead));
          reads = read-negative p n l;
          lower = ap (λ (y : ℕ). y % 2 ^ 32) i;
          upper = ap (λ (y : ℕ). y / 2 ^ 32) i;
        }

    pub integer_negative : (x : ℕ) → x < 2 ^ 64 → (x + n) % 2 ^ 64 ≡ 0 → IntegerAt s p q (x % 2 ^ 32) (x / 2 ^ 32)
    integer_negative x h e = integer_minus x (negated n x l h e)
