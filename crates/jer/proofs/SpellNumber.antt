-- The written text of an integer spells its sign and magnitude, and they are read back.
use Prim.Native.Nat.{ℕ, zero, suc, ◌+◌, ◌-◌, ◌*◌, ◌≤◌, ◌<◌, ◌/◌, ◌%◌, ◌^◌}
use mathlib.Core.Path.{◌≡◌, refl, ap, subst}
use mathlib.Core.List.{List, []}
use mathlib.Core.Bool.{Bool, true, false}
use native.Mathlib.Omega.{arith}
use native.Mathlib.Nat.{div-add-mod', mod-lt, pow-suc, div-lt_iff_lt-mul}
use lib.Dec.{ltb, lit<}
use borrow.Author.Tests.{ltb-true, ltb-false, lt-ltb, le-leb}
use Rattle.json_text.specs.Grammar.{Onward, stop, onward, Whole, nought, from, Signed, bare, minus}
use Rattle.jer.specs.Value.{v_int}
use Rattle.jer.specs.Answer.{ok}
use Rattle.jer.specs.Read.{read_int}
use Rattle.jer.specs.Write.{digits, int_text}

-- the digits of n before digits that bring n to m are those of a whole number m
whole-digits : (f n m : ℕ) (ds : List ℕ) → 0 < n → n < 10 ^ f → Onward n m ds → Whole m (digits f n ds)
unfolding digits
whole-digits zero n m ds z h o = absurd (omega arith)
whole-digits (suc f) n m ds z h o = go (ltb n 10) refl (whole-digits f)
  where
    go : (c : Bool) → ltb n 10 ≡ c → ((n m : ℕ) (ds : List ℕ) → 0 < n → n < 10 ^ f → Onward n m ds → Whole m (digits f n ds)) → Whole m (digits (suc f) n ds)
    go true e ih =
        let l : n < 10 = ltb-true n 10 e in
        let q : n ≡ 0x30 + n - 0x30 = omega arith in
        rw (e, digits) (from {b = 0x30 + n} (omega arith) (rw q at o))
    go false e ih =
        let l : 10 ≤ n = ltb-false n 10 e in
        let u : n % 10 < 10 = mod-lt n (lit< tt) in
        let w : n / 10 < 10 ^ f = (div-lt_iff_lt-mul (lit< tt)).1 (rw pow-suc at h) in
        let q : n ≡ n / 10 * 10 + (0x30 + n % 10 - 0x30) = omega (arith, div-add-mod' n 10) in
        rw (e, digits) (ih (n / 10) m _ (omega (arith, div-add-mod' n 10)) w (onward {b = 0x30 + n % 10} (omega arith) (subst (λ (x : ℕ). Onward x m ds) q o)))

whole-text : (n : ℕ) → n < 10 ^ 20 → Whole n (digits 20 n [])
unfolding digits
whole-text zero h = nought
whole-text (suc n) h = whole-digits 20 (suc n) (suc n) [] (omega arith) h stop

-- a sign and magnitude that the text spells and that are read as the integer
pub record SpelledInteger (n : ℕ) : Type 0 where
  pub sign : Bool
  pub size : ℕ
  pub text : Signed sign size (int_text n)
  pub reads : (p : ℕ) → read_int p sign size ≡ ok (v_int n)

read-bare : (p n : ℕ) → n < 2 ^ 63 → read_int p false n ≡ ok (v_int n)
unfolding read_int
read-bare p n h = rw (lt-ltb n (2 ^ 63) h, read_int)

read-minus : (p n m : ℕ) → 0 < m → m ≤ 2 ^ 63 → n + m ≡ 2 ^ 64 → read_int p true m ≡ ok (v_int n)
unfolding read_int
read-minus p n zero z h e = absurd (omega arith)
read-minus p n (suc m) z h e = rw (le-leb (suc m) (2 ^ 63) h, read_int) (ap (λ (x : ℕ). ok (v_int x)) (omega arith))

pub integer_spelled : (n : ℕ) → n < 2 ^ 64 → SpelledInteger n
unfolding int_text
integer_spelled n h = go (ltb n (2 ^ 63)) refl
  where
    go : (c : Bool) → ltb n (2 ^ 63) ≡ c → SpelledInteger n
    go true e =
        let l : n < 2 ^ 63 = ltb-true n (2 ^ 63) e in
        record { sign = false; size = n; text = rw (e, int_text) (bare (whole-text n (omega arith))); reads = λ p. read-bare p n l }
    go false e =
        let l : 2 ^ 63 ≤ n = ltb-false n (2 ^ 63) e in
        record { sign = true; size = 2 ^ 64 - n; text = rw (e, int_text) (minus (whole-text (2 ^ 64 - n) (omega arith))); reads = λ p. read-minus p n (2 ^ 64 - n) (omega arith) (omega arith) (omega arith) }
