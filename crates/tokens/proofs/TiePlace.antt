-- "The bytes bs stand at p in s, and ys follow" is `drop p s ≡ bs ++ ys`: the byte there, the place after them, how many are left.
use Prim.Native.Nat.{ℕ, suc, ◌+◌, ◌≤◌}
use mathlib.Core.Path.{◌≡◌, refl, sym, ap, ◌∙◌}
use mathlib.Core.List.{List, [], ◌∷◌, ◌++◌}
use native.Mathlib.Nat.{add-zero}
use native.Mathlib.Numerals.{add-one}
use native.Mathlib.Omega.{arith}
use lib.ListN.{length, get_or, drop, length-drop}
use lib.Seq.{get_or-drop, drop-drop}
use Rattle.json_text.specs.Bytes.{past}
use Rattle.tokens.specs.Places.{byte_at}

-- ---- bytes

pub byte_on : (s : List ℕ) (p i : ℕ) (zs : List ℕ) → drop p s ≡ zs → byte_at s (p + i) ≡ get_or zs i 256
byte_on s p i zs h = sym (get_or-drop p s i 256) ∙ ap (λ (z : List ℕ). get_or z i 256) h

byte_first : (s : List ℕ) (p : ℕ) (zs : List ℕ) → drop p s ≡ zs → byte_at s p ≡ get_or zs 0 256
byte_first s p zs h = rw add-zero at (byte_on s p 0 zs h)

pub byte_here : (s : List ℕ) (p b : ℕ) (ys : List ℕ) → drop p s ≡ b ∷ ys → byte_at s p ≡ b
byte_here s p b ys h = byte_first s p (b ∷ ys) h

pub byte_end : (s : List ℕ) (p : ℕ) → drop p s ≡ [] → byte_at s p ≡ 256
byte_end s p h = byte_first s p [] h

-- ---- places

pub drop-next : (s : List ℕ) (p b : ℕ) (ys : List ℕ) → drop p s ≡ b ∷ ys → drop (suc p) s ≡ ys
drop-next s p b ys h = rw (← add-one p, ← drop-drop 1 p s, h)

pub drop_past : (s : List ℕ) (p : ℕ) (xs ys : List ℕ) → drop p s ≡ xs ++ ys → drop (past p xs) s ≡ ys
unfolding past
drop_past s p [] ys h = h
drop_past s p (b ∷ xs) ys h = drop_past s (suc p) xs ys (drop-next s p b (xs ++ ys) h)

pub past-length : (p : ℕ) (xs : List ℕ) → past p xs ≡ p + length xs
unfolding past
past-length p [] = sym (add-zero p)
past-length p (b ∷ xs) = omega (arith, past-length (suc p) xs)

pub past_append : (p : ℕ) (xs ys : List ℕ) → past p (xs ++ ys) ≡ past (past p xs) ys
unfolding past
past_append p [] ys = refl
past_append p (b ∷ xs) ys = past_append (suc p) xs ys

-- what stands at a place is no longer than the text
pub length-left : (s : List ℕ) (p : ℕ) (zs : List ℕ) → drop p s ≡ zs → length zs ≤ length s
length-left s p zs h = rw (← h) (omega (arith, length-drop p s))
