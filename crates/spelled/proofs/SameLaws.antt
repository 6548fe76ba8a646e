-- Bytes compared some at a time.
use Prim.Native.Nat.{ℕ, zero, suc, ◌+◌, ◌-◌, ◌<◌, ◌≤◌}
use mathlib.Core.Path.{◌≡◌, refl, sym, ap, ◌∙◌}
use mathlib.Core.List.{List}
use mathlib.Core.Bool.{Bool, true, false}
use native.Mathlib.Nat.{add-zero}
use native.Mathlib.Omega.{arith}
use borrow.Author.Tests.{leb-true, leb-false, eqb-true, eqb-false}
use lib.Dec.{eqb, leb}
use lib.ListN.{length, get_or, take, drop, length-drop}
use lib.Pointwise.{pointwise, bytes_decides}
use lib.Seq.{ext_get_or, get_or-take, get_or-drop, length-take-le}
use Rattle.jer.specs.Table.{same_bytes}
use Rattle.jer.proofs.ValidLaws.{same_bytes-eq, same_bytes-refl}
use Rattle.spelled.specs.Bytes.{FourAt, EightAt, SameBytes}
use Rattle.spelled.proofs.WordLaws.{told}

module _ (s : List ℕ) (p : ℕ) (x : List ℕ) (l : p + length x ≤ length s) where
  part_length : length (take (length x) (drop p s)) ≡ length x
  part_length = length-take-le (length x) (drop p s) (omega (arith, length-drop p s))

  part_at : (i : ℕ) → i < length x → get_or (take (length x) (drop p s)) i 0 ≡ get_or s (p + i) 0
  part_at i h = get_or-take (length x) (drop p s) i 0 h ∙ get_or-drop p s i 0

  pub same-all : SameBytes s p x (length x) → true ≡ same_bytes x (take (length x) (drop p s))
  same-all h =
      let e : x ≡ take (length x) (drop p s) = ext_get_or 0 x (take (length x) (drop p s)) (sym part_length) (λ i m. sym (part_at i m ∙ h i m)) in
      sym (rw (← e) (same_bytes-refl x))

  pub same_not : (SameBytes s p x (length x) → ⊥) → false ≡ same_bytes x (take (length x) (drop p s))
  same_not n = go (same_bytes x (take (length x) (drop p s))) refl
    where
      go : (b : Bool) → same_bytes x (take (length x) (drop p s)) ≡ b → false ≡ b
      go true e =
          let f = same_bytes-eq x (take (length x) (drop p s)) e in
          absurd (n (λ i m. sym (part_at i m) ∙ ap (λ (y : List ℕ). get_or y i 0) (sym f)))
      go false e = refl

-- ---- some bytes at a time

-- w bytes from the i-th on
abbrev pub Chunk : List ℕ → ℕ → List ℕ → ℕ → ℕ → Type 0
Chunk s p x i w = (k : ℕ) → k < w → get_or s (p + i + k) 0 ≡ get_or x (i + k) 0

pub same_extend : (s : List ℕ) (p : ℕ) (x : List ℕ) (i w j : ℕ) → SameBytes s p x j → i ≤ j → Chunk s p x i w → SameBytes s p x (i + w)
same_extend s p x i w j h l g n m = go (leb j n) refl
  where
    go : (b : Bool) → leb j n ≡ b → get_or s (p + n) 0 ≡ get_or x n 0
    go true e =
        let o = leb-true j n e in
        let u : p + i + (n - i) ≡ p + n = omega arith in
        let v : i + (n - i) ≡ n = omega arith in
        rw (u, v) at (g (n - i) (omega arith))
    go false e = h n (leb-false j n e)

pub same_chunk : (s : List ℕ) (p : ℕ) (x : List ℕ) (i w n : ℕ) → SameBytes s p x n → i + w ≤ n → Chunk s p x i w
same_chunk s p x i w n h l k m = let u : p + i + k ≡ p + (i + k) = omega arith in rw u (h (i + k) (omega arith))

module _ (s x : List ℕ) (a b m n : ℕ) (f : FourAt s a m) (g : FourAt x b n) where
  pub four_same : m ≡ n → (k : ℕ) → k < 4 → get_or s (a + k) 0 ≡ get_or x (b + k) 0
  four_same e k l =
      let t = told _ _ _ _ _ _ _ _ f.bytes g.bytes (sym f.sum ∙ e ∙ g.sum) in
      go k l t.first t.second t.third t.fourth
    where
      go : (k : ℕ) → k < 4 → get_or s a 0 ≡ get_or x b 0 → get_or s (a + 1) 0 ≡ get_or x (b + 1) 0 → get_or s (a + 2) 0 ≡ get_or x (b + 2) 0 → get_or s (a + 3) 0 ≡ get_or x (b + 3) 0 → get_or s (a + k) 0 ≡ get_or x (b + k) 0
      go zero l q r u v = rw (add-zero a, add-zero b) q
      go (suc zero) l q r u v = r
      go (suc (suc zero)) l q r u v = u
      go (suc (suc (suc zero))) l q r u v = v
      go (suc (suc (suc (suc k)))) l q r u v = absurd (omega arith)

  pub four-sum-same : ((k : ℕ) → k < 4 → get_or s (a + k) 0 ≡ get_or x (b + k) 0) → m ≡ n
  four-sum-same h =
      let q : get_or s a 0 ≡ get_or x b 0 = rw (add-zero a, add-zero b) at (h 0 (omega arith)) in
      omega (arith, f.sum, g.sum, q, h 1 (omega arith), h 2 (omega arith), h 3 (omega arith))

  pub four-small : m < 0x100000000
  four-small = omega (arith, f.sum, f.bytes)

module _ (s x : List ℕ) (a b m n : ℕ) (f : EightAt s a m) (g : EightAt x b n) where
  pub eight_same : m ≡ n → (k : ℕ) → k < 8 → get_or s (a + k) 0 ≡ get_or x (b + k) 0
  eight_same e k l =
      let c = four-small s x a b f.low g.low f.first g.first in
      let d = four-small x s b a g.low f.low g.first f.first in
      let u : f.low ≡ g.low = omega (arith, f.sum, g.sum) in
      let v : f.high ≡ g.high = omega (arith, f.sum, g.sum) in
      go (leb 4 k) refl (four_same s x a b f.low g.low f.first g.first u) (four_same s x (a + 4) (b + 4) f.high g.high f.second g.second v)
    where
      go : (t : Bool) → leb 4 k ≡ t → ((i : ℕ) → i < 4 → get_or s (a + i) 0 ≡ get_or x (b + i) 0) → ((i : ℕ) → i < 4 → get_or s (a + 4 + i) 0 ≡ get_or x (b + 4 + i) 0) → get_or s (a + k) 0 ≡ get_or x (b + k) 0
      go true q h i =
          let o = leb-true 4 k q in
          let u : a + 4 + (k - 4) ≡ a + k = omega arith in
          let v : b + 4 + (k - 4) ≡ b + k = omega arith in
          rw (u, v) at (i (k - 4) (omega arith))
      go false q h i = h k (leb-false 4 k q)

  pub eight_sum-same : ((k : ℕ) → k < 8 → get_or s (a + k) 0 ≡ get_or x (b + k) 0) → m ≡ n
  eight_sum-same h =
      let u = four-sum-same s x a b f.low g.low f.first g.first (λ k l. h k (omega arith)) in
      let v = four-sum-same s x (a + 4) (b + 4) f.high g.high f.second g.second (λ k l. let y : a + 4 + k ≡ a + (4 + k) = omega arith in let z : b + 4 + k ≡ b + (4 + k) = omega arith in rw (y, z) (h (4 + k) (omega arith))) in
      omega (arith, f.sum, g.sum)

-- ---- what the code answers

module _ (s : List ℕ) (p : ℕ) (x : List ℕ) (l : p + length x ≤ length s) where
  -- the last bytes tell, if those before them are the same
  last-tells : (i w j m n : ℕ) → i + w ≡ length x → i ≤ j → SameBytes s p x j → (m ≡ n → Chunk s p x i w) → (Chunk s p x i w → m ≡ n) → eqb m n ≡ same_bytes x (take (length x) (drop p s))
  last-tells i w j m n e q h f g = go (eqb m n) refl
    where
      go : (b : Bool) → eqb m n ≡ b → b ≡ same_bytes x (take (length x) (drop p s))
      go true r = same-all s p x l (rw e at (same_extend s p x i w j h q (f (eqb-true m n r))))
      go false r = same_not s p x l (λ c. eqb-false m n r (g (same_chunk s p x i w (length x) c (omega arith))))

  pub long-last : (i j m n : ℕ) → i + 8 ≡ length x → i ≤ j → SameBytes s p x j → EightAt s (p + i) m → EightAt x i n → eqb m n ≡ same_bytes x (take (length x) (drop p s))
  long-last i j m n e q h f g = last-tells i 8 j m n e q h (eight_same s x (p + i) i m n f g) (eight_sum-same s x (p + i) i m n f g)

  pub long-differs : (i m n : ℕ) → i + 8 ≤ length x → EightAt s (p + i) m → EightAt x i n → (m ≡ n → ⊥) → false ≡ same_bytes x (take (length x) (drop p s))
  long-differs i m n e f g d = same_not s p x l (λ c. d (eight_sum-same s x (p + i) i m n f g (same_chunk s p x i 8 (length x) c e)))

  pub middle_first : (m n : ℕ) → FourAt s p m → FourAt x 0 n → m ≡ n → SameBytes s p x 4
  middle_first m n f g e k q = let u : 0 + k ≡ k = omega arith in rw u at (four_same s x p 0 m n f g e k q)

  pub middle_differs : (m n : ℕ) → 4 ≤ length x → FourAt s p m → FourAt x 0 n → (m ≡ n → ⊥) → false ≡ same_bytes x (take (length x) (drop p s))
  middle_differs m n e f g d = same_not s p x l (λ c. d (four-sum-same s x p 0 m n f g (λ k q. let u : 0 + k ≡ k = omega arith in rw u (c k (omega arith)))))

  pub middle_last : (i m n : ℕ) → i + 4 ≡ length x → i ≤ 4 → SameBytes s p x 4 → FourAt s (p + i) m → FourAt x i n → eqb m n ≡ same_bytes x (take (length x) (drop p s))
  middle_last i m n e q h f g = last-tells i 4 4 m n e q h (four_same s x (p + i) i m n f g) (four-sum-same s x (p + i) i m n f g)

-- the library's comparison of the bytes there with those of x
pub same-eq : (s : List ℕ) (p : ℕ) (x : List ℕ) {r : Bool} → r ≡ pointwise eqb (take (p + length x - p) (drop p s)) x → r ≡ same_bytes x (take (length x) (drop p s))
same-eq s p x {r} e = let f : p + length x - p ≡ length x = omega arith in rw f at e ∙ go (pointwise eqb (take (length x) (drop p s)) x) refl
  where
    go : (b : Bool) → pointwise eqb (take (length x) (drop p s)) x ≡ b → pointwise eqb (take (length x) (drop p s)) x ≡ same_bytes x (take (length x) (drop p s))
    go true h = let g = (bytes_decides (take (length x) (drop p s)) x).0 h in h ∙ sym (rw g (same_bytes-refl x))
    go false h = h ∙ other (same_bytes x (take (length x) (drop p s))) refl h
      where
        other : (b : Bool) → same_bytes x (take (length x) (drop p s)) ≡ b → pointwise eqb (take (length x) (drop p s)) x ≡ false → false ≡ b
        other true i h = sym h ∙ (bytes_decides (take (length x) (drop p s)) x).1 (sym (same_bytes-eq x (take (length x) (drop p s)) i))
        other false i h = refl
