-- The open brackets as a number.
use Prim.Native.Nat.{ℕ, suc, pred, ◌+◌, ◌*◌, ◌-◌, ◌/◌, ◌%◌, ◌≤◌, ◌<◌, ◌^◌}
use Prim.Native.Char.{code}
use mathlib.Core.Path.{◌≡◌, ◌∙◌, refl, sym, ap}
use mathlib.Core.Bool.{Bool, true, false}
use native.Mathlib.Nat.{sub-suc, pow-suc}
use native.Mathlib.Omega.{arith}
use borrow.Author.Tests.{eq-eqb, ne_eqb, le-leb, lt-leb, leb-true, leb-false}
use lib.Dec.{leb, eqb}
use lib.Pow.{pow_mono}
use Rattle.json_text.specs.Machine.{Stack, base, ◌▹◌, in_arr, in_obj, room, opened, State, go}
use Rattle.std.specs.Prelude.{Err}
use Rattle.jer.specs.declared.Cause.TheVariants.{NotJson}
use Rattle.text.specs.Outline.{goes, opening, opens, closing, closes, parted, comma}
use Rattle.text.proofs.Outlined.{brackets, limit, Agree, deep}

-- ---- how many are open

depth : Stack → ℕ
depth (base d) = 0
depth (f ▹ k) = suc (depth k)

room-depth : (k : Stack) → room k ≡ limit k - depth k
unfolding depth room
room-depth (base d) = omega arith
room-depth (f ▹ k) = ap pred (room-depth k) ∙ sym (sub-suc (limit k) (depth k))

-- a number of n brackets is from 2^n to 2^(n+1) - 1
bounds : (k : Stack) → (2 ^ depth k ≤ brackets k) × (brackets k < 2 ^ suc (depth k))
unfolding depth
bounds (base d) = omega arith
bounds (in_arr o is ▹ k) = let b = bounds k in omega (arith, pow-suc 2 (depth k), pow-suc 2 (suc (depth k)))
bounds (in_obj o ms q s ▹ k) = let b = bounds k in omega (arith, pow-suc 2 (depth k), pow-suc 2 (suc (depth k)))

pub some-bracket : (k : Stack) → 0 < brackets k
some-bracket (base d) = omega arith
some-bracket (in_arr o is ▹ k) = let b = some-bracket k in omega arith
some-bracket (in_obj o ms q s ▹ k) = omega arith

-- no more may be opened where 32 are open
pub full : (k : Stack) → limit k ≡ 32 → eqb (room k) 0 ≡ leb (2 ^ 32) (brackets k)
full k h = go' (leb 32 (depth k)) refl
  where
    go' : (t : Bool) → leb 32 (depth k) ≡ t → eqb (room k) 0 ≡ leb (2 ^ 32) (brackets k)
    go' true w =
        eq-eqb (room k) 0 (omega (arith, room-depth k, leb-true 32 (depth k) w))
        ∙ sym (le-leb (2 ^ 32) (brackets k) (omega (arith, bounds k, pow_mono {i = 32} {j = depth k} (leb-true 32 (depth k) w))))
    go' false w =
        ne_eqb (room k) 0 (λ z. omega (arith, room-depth k, leb-false 32 (depth k) w))
        ∙ sym (lt-leb (2 ^ 32) (brackets k) (omega (arith, bounds k, pow_mono {i = suc (depth k)} {j = 32} (leb-false 32 (depth k) w))))

pub opened-agree : (k : Stack) (st : State) (c bit : ℕ) → limit k ≡ 32 → Agree (go st) (goes c false (brackets k * 2 + bit)) → Agree (opened k st) (opens c bit (brackets k))
unfolding opened opens opening
opened-agree k st c bit h a = rw (← full k h) (go' (eqb (room k) 0) refl)
  where
    go' : (t : Bool) → eqb (room k) 0 ≡ t → Agree (opened k st) (opening t c (brackets k * 2 + bit))
    go' true w = rw (w, opened) deep
    go' false w = rw (w, opened) a

-- ---- where none is open
pub comma-none : comma 1 ≡ Err NotJson
unfolding comma parted
comma-none = refl

pub closes-none : (bit : ℕ) → closes bit 1 ≡ Err NotJson
unfolding closes closing
closes-none bit = refl

-- ---- in an array, whose bracket is the last, and in an object

module _ (n : ℕ) where
  pub comma-array : comma (n * 2 + 0) ≡ goes (code "V") false (n * 2 + 0)
  unfolding comma parted
  comma-array = rw (ne_eqb (n * 2 + 0) 1 (λ z. omega arith), eq-eqb ((n * 2 + 0) % 2) 0 (omega arith))

  pub closes-array : closes 0 (n * 2 + 0) ≡ goes (code "A") false n
  unfolding closes closing
  closes-array = rw (ne_eqb (n * 2 + 0) 1 (λ z. omega arith), eq-eqb ((n * 2 + 0) % 2) 0 (omega arith)) (ap (goes (code "A") false) (let e : (n * 2 + 0) / 2 ≡ n = omega arith in e))

  pub closes-array-no : closes 1 (n * 2 + 0) ≡ Err NotJson
  unfolding closes closing
  closes-array-no = rw (ne_eqb (n * 2 + 0) 1 (λ z. omega arith), ne_eqb ((n * 2 + 0) % 2) 1 (λ z. omega arith))

  module _ (h : 0 < n) where
    pub comma-object : comma (n * 2 + 1) ≡ goes (code "N") false (n * 2 + 1)
    unfolding comma parted
    comma-object = rw (ne_eqb (n * 2 + 1) 1 (λ z. omega arith), ne_eqb ((n * 2 + 1) % 2) 0 (λ z. omega arith))

    pub closes-object : closes 1 (n * 2 + 1) ≡ goes (code "A") false n
    unfolding closes closing
    closes-object = rw (ne_eqb (n * 2 + 1) 1 (λ z. omega arith), eq-eqb ((n * 2 + 1) % 2) 1 (omega arith)) (ap (goes (code "A") false) (let e : (n * 2 + 1) / 2 ≡ n = omega arith in e))

    pub closes-object-no : closes 0 (n * 2 + 1) ≡ Err NotJson
    unfolding closes closing
    closes-object-no = rw (ne_eqb (n * 2 + 1) 1 (λ z. omega arith), ne_eqb ((n * 2 + 1) % 2) 0 (λ z. omega arith))
