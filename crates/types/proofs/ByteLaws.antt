-- Equal bytes, and UTF-8, one byte at a time. Assumes nothing.
use mathlib.Core.Path.{◌≡◌, refl, sym}
use mathlib.Core.List.{List, [], ◌∷◌}
use mathlib.Core.Bool.{Bool, true, false, ◌&&◌}
use Prim.Native.Nat.{ℕ, zero, suc, ◌+◌, ◌-◌, ◌<◌, ◌≤◌}
use native.Mathlib.Numerals.{add-one}
use native.Mathlib.Omega.{arith}
use borrow.Author.Tests.{le-leb, lt-leb, leb-true}
use lib.Dec.{eqb, leb}
use Rattle.std.specs.Cmp.Lexicographic.{pointwise}
use lib.ListN.{length, get_or, take, drop, length-drop, drop_of_length-le}
use lib.Seq.{length-take-le, get_or-take, get_or-drop, drop-cons}
use Rattle.json_text.specs.Bytes.{pick}
use Rattle.json_text.specs.Utf8.{Due, start, due, never, wide_rows, due_next, due_step, due_end, utf8_from}
use Rattle.jer.specs.Table.{same_bytes}
use Rattle.types.specs.declared.bytes.Due.{Due as State}
use Rattle.types.specs.declared.bytes.Due.TheVariants.{Start, Next, Never}
use Rattle.types.specs.Bytes.{due_of, Ascii}

-- ---- equal bytes

-- what `==` tells of two slices
pub pointwise-same : (x y : List ℕ) → pointwise eqb x y ≡ same_bytes x y
unfolding same_bytes
pointwise-same [] [] = refl
pointwise-same [] (b ∷ y) = refl
pointwise-same (a ∷ x) [] = refl
pointwise-same (a ∷ x) (b ∷ y) =
    elim (eqb a b) as (λ t. (t && pointwise eqb x y) ≡ elim t [ true ↦ same_bytes x y | false ↦ false ]) [ true ↦ pointwise-same x y | false ↦ refl ]

-- ---- UTF-8

-- a range that has the byte, ends before it, starts after it
pub inside : (b lo hi : ℕ) → lo ≤ b → b ≤ hi → (leb lo b && leb b hi) ≡ true
inside b lo hi l h = rw (le-leb lo b l, le-leb b hi h)

pub below : (b lo hi : ℕ) → b < lo → (leb lo b && leb b hi) ≡ false
below b lo hi h = rw (lt-leb lo b h)

pub above : (b lo hi : ℕ) → hi < b → (leb lo b && leb b hi) ≡ false
above b lo hi h = go (leb lo b)
  where
    go : (t : Bool) → (t && leb b hi) ≡ false
    go true = lt-leb b hi h
    go false = refl

pub other : (b k : ℕ) → (b ≡ k → ⊥) → (leb k b && leb b k) ≡ false
other b k h = go (leb k b) refl
  where
    go : (t : Bool) → leb k b ≡ t → (t && leb b k) ≡ false
    go true e = let l : k ≤ b = leb-true k b e in lt-leb b k (omega arith)
    go false e = refl

-- the first byte of a character
module _ (b : ℕ) where
  pub first-ascii : b ≤ 0x7F → start ≡ due_step start b
  unfolding due_step wide_rows pick
  first-ascii h = rw (inside b 0x00 0x7F (omega arith) h, pick)

pub tail_none : (n : ℕ) → n ≡ 0 → start ≡ due_next n
unfolding due_next
tail_none n e = rw e

pub tail_more : (n : ℕ) → (n ≡ 0 → ⊥) → due 0x80 0xBF (n - 1) ≡ due_next n
unfolding due_next
tail_more zero h = absurd (h refl)
tail_more (suc n) h = let e : suc n - 1 ≡ n = omega arith in rw e

-- a byte of a character, by the code's state
module _ (s : State) (b low high more : ℕ) (e : s ≡ Next low high more) where
  pub step-below : b < low → never ≡ due_step (due_of s) b
  unfolding due_of due_step pick
  step-below h = rw (e, below b low high h, pick)

  pub step-above : high < b → never ≡ due_step (due_of s) b
  unfolding due_of due_step pick
  step-above h = rw (e, above b low high h, pick)

  pub step_in : (d : Due) → low ≤ b → b ≤ high → d ≡ due_next more → d ≡ due_step (due_of s) b
  unfolding due_of due_step pick
  step_in d l h q = rw (e, inside b low high l h, pick) q

-- only between characters may a text end
pub end-none : (s : State) → (s ≡ Start → ⊥) → false ≡ due_end (due_of s)
unfolding due_of due_end
end-none Start h = absurd (h refl)
end-none (Next low high more) h = refl
end-none Never h = refl

pub utf8-next : (s : List ℕ) (i : ℕ) (d u : Due) → i < length s → u ≡ due_step d (get_or s i 0) → utf8_from u (drop (i + 1) s) ≡ utf8_from d (drop i s)
unfolding utf8_from
utf8-next s i d u h e = rw (drop-cons s i 0 h, add-one i, e)

pub utf8-ends : (s : List ℕ) (i : ℕ) (d : Due) → length s ≤ i → due_end d ≡ utf8_from d (drop i s)
unfolding utf8_from
utf8-ends s i d h = rw (drop_of_length-le s h)

pub ascii-utf8 : (s : List ℕ) → Ascii s → utf8_from start s ≡ true
unfolding utf8_from due_end
ascii-utf8 [] h = refl
ascii-utf8 (b ∷ s) h = rw (sym (first-ascii b (h 0 (omega arith)))) (ascii-utf8 s (λ i l. h (suc i) (omega arith)))

pub ascii_part : (s : List ℕ) (a n : ℕ) → a + n ≤ length s → Ascii s → Ascii (take n (drop a s))
ascii_part s a n h f i l =
    let e : length (take n (drop a s)) ≡ n = length-take-le n (drop a s) (omega (arith, length-drop a s)) in
    let k : i < n = omega arith in
    rw (get_or-take n (drop a s) i 0 k, get_or-drop a s i 0) (f (a + i) (omega arith))
