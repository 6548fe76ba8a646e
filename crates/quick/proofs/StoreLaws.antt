-- Stores into lent room.
use Prim.Native.Nat.{ℕ, zero, suc, ◌+◌, ◌^◌, ◌<◌, ◌≤◌}
use mathlib.Core.Path.{◌≡◌, refl, sym, ap, ◌∙◌}
use mathlib.Core.List.{List, [], ◌∷◌, ◌++◌}
use native.Mathlib.Omega.{arith}
use lib.ListN.{length, take, drop}
use borrow.Rule.Slice.PartMut.{put_mid}
use lib.Seq.{sets, sets-eq}
use Rattle.std.proofs.lemmas.Slice.{put_mid-paste}
use Rattle.std.proofs.lemmas.List.{take_all}
use Rattle.tokens.specs.Strings.{denoted}

-- what is copied over a part
pub copied : (k : ℕ) (l : List ℕ) {m : List ℕ} (x : List ℕ) {n : ℕ} → n ≡ length x → m ≡ x → k + length x ≤ length l → put_mid k n l m ≡ sets l k x
copied k l {m} x {n} f e h =
    put_mid-paste k n l m x n e refl f ∙ ap (λ (y : List ℕ). take k l ++ y ++ drop (k + n) l) (take_all n x (omega arith)) ∙ rw f (sym (sets-eq x l k h))

-- ---- a string

length-take-le : (n : ℕ) (l : List ℕ) → length (take n l) ≤ n
length-take-le zero l = omega arith
length-take-le (suc n) [] = omega arith
length-take-le (suc n) (x ∷ l) = omega (arith, length-take-le n l)

pub part_short : (s : List ℕ) (from n : ℕ) (x : List ℕ) → x ≡ take n (drop from s) → length x ≤ n
part_short s from n x e = omega (arith, ap (length {A = ℕ}) e, length-take-le n (drop from s))

pub plain-stored : (pool : List ℕ) (o : ℕ) {pool' : List ℕ} {a b : ℕ} (s : List ℕ) (w n : ℕ) (x : List ℕ) → w ≡ a → n ≡ b → x ≡ take n (drop (w + 1) s) → pool' ≡ sets pool o x → b < 2147483648
    → (b < 2 ^ 31 → pool' ≡ sets pool o (take b (drop (a + 1) s))) × (2 ^ 31 ≤ b → pool' ≡ sets pool o (denoted s (a + 1)))
plain-stored pool o s w n x ew en ex e l = (λ _. e ∙ rw (ex, ew, en), λ h. absurd (omega arith))

pub escaped-stored : (pool : List ℕ) (o : ℕ) {pool' : List ℕ} {a b : ℕ} (s : List ℕ) (w : ℕ) → w ≡ a → pool' ≡ sets pool o (denoted s (w + 1)) → 2147483648 ≤ b
    → (b < 2 ^ 31 → pool' ≡ sets pool o (take b (drop (a + 1) s))) × (2 ^ 31 ≤ b → pool' ≡ sets pool o (denoted s (a + 1)))
escaped-stored pool o s w ew e l = (λ h. absurd (omega arith), λ _. e ∙ rw ew)
