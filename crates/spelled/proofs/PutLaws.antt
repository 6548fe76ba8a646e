-- Octets stored one group after another.
use Prim.Native.Nat.{ℕ, zero, suc, ◌+◌, ◌-◌, ◌*◌, ◌/◌, ◌%◌, ◌<◌, ◌≤◌}
use mathlib.Core.Path.{◌≡◌, refl, sym, ap, ◌∙◌}
use mathlib.Core.List.{List, [], ◌∷◌}
use Rattle.std.specs.Prelude.{Option, None, Some, unwrap_or}
use native.Mathlib.Omega.{arith}
use lib.ListN.{length, get_or, set, take, drop, length-drop, drop_of_length-le}
use lib.Seq.{sets, drop-cons}
use borrow.Author.Tests.{leb-true, leb-false, eq-eqb, ne_eqb}
use lib.Dec.{eqb, leb}
use mathlib.Core.Bool.{Bool, true, false}
use Rattle.jer.specs.Octets.{also, only_if, hex_value, unhex, base64_value, last_group, full_group, unbase64}
use Rattle.jer.proofs.WeightGot.{finds}
use Rattle.slices.proofs.PartLaws.{sets_append}
use Rattle.spelled.specs.Octets.{tripled, GroupStored, LastStored}
use Rattle.spelled.proofs.OctetLaws.{part_length, part_at}

-- ---- groups

-- the characters from i on decode to what is left to be stored from k on
pub record Left (decode : List ℕ → Option (List ℕ)) (x l target : List ℕ) (o i k : ℕ) : Type 0 where
  pub rest : List ℕ
  pub decoded : decode (drop i x) ≡ Some rest
  pub stored : sets l (o + k) rest ≡ target

abbrev pub Storing : (List ℕ → Option (List ℕ)) → List ℕ → List ℕ → List ℕ → ℕ → ℕ → ℕ → Type 0
Storing decode x l before o i k = (os : List ℕ) → decode x ≡ Some os → Left decode x l (sets before o os) o i k

some-own : {a b : ℕ} → Some a ≡ Some b → a ≡ b
some-own e = cc

some_lists : {a b : List ℕ} → Some a ≡ Some b → a ≡ b
some_lists e = cc

none-not : {A B : Type 0} {b : B} → None ≡ Some b → A
none-not e = absurd (let z : ◌≡◌ {A = ℕ} 0 1 = cc in omega arith)

-- r is the digit's value, if it is one
abbrev pub Reads : (ℕ → Option ℕ) → ℕ → ℕ → Type 0
Reads value b r = (x : ℕ) → value b ≡ Some x → r ≡ x

pub reads_or : (value : ℕ → Option ℕ) (b d : ℕ) {o : Option ℕ} {r : ℕ} → o ≡ value b → r ≡ unwrap_or o d → Reads value b r
reads_or value b d e f x g = rw (e, g) at f

record HexPair (a b : ℕ) (y os : List ℕ) : Type 0 where
  high : ℕ
  low : ℕ
  rest : List ℕ
  first : hex_value a ≡ Some high
  second : hex_value b ≡ Some low
  then : unhex y ≡ Some rest
  whole : os ≡ (high * 16 + low) ∷ rest

hex-pair : (a b : ℕ) (y os : List ℕ) → unhex (a ∷ b ∷ y) ≡ Some os → HexPair a b y os
unfolding unhex
hex-pair a b y os e =
    let f = finds (hex_value a) (λ u. also (hex_value b) (λ v. also (unhex y) (λ r. Some ((u * 16 + v) ∷ r)))) os e in
    let g = finds (hex_value b) (λ v. also (unhex y) (λ r. Some ((f.val * 16 + v) ∷ r))) os f.then in
    let h = finds (unhex y) (λ r. Some ((f.val * 16 + g.val) ∷ r)) os g.then in
    record { high = f.val; low = g.val; rest = h.val; first = f.first; second = g.first; then = h.first; whole = sym (some_lists h.then) }

two_here : (x : List ℕ) (i : ℕ) → i + 1 < length x → drop i x ≡ get_or x i 0 ∷ get_or x (i + 1) 0 ∷ drop (i + 2) x
two_here x i h =
    let e : suc i ≡ i + 1 = omega arith in
    let f : suc (i + 1) ≡ i + 2 = omega arith in
    drop-cons x i 0 (omega arith) ∙ rw (e, drop-cons x (i + 1) 0 h, f)

module _ (s : List ℕ) (p n : ℕ) (h : p + n * 2 ≤ length s) (l before : List ℕ) (o k : ℕ) where
  pub hex-more : (u v : ℕ) → k < n → Reads hex_value (get_or s (p + k * 2) 0) u → Reads hex_value (get_or s (p + k * 2 + 1) 0) v → Storing unhex (take (n * 2) (drop p s)) l before o (k * 2) k
      → Storing unhex (take (n * 2) (drop p s)) (set l (o + k) (u * 16 + v)) before o ((k + 1) * 2) (k + 1)
  hex-more u v m c d f os e =
      let x : List ℕ = take (n * 2) (drop p s) in
      let q = f os e in
      let len = part_length s p (n * 2) h in
      let a = part_at s p (n * 2) h (k * 2) (omega arith) in
      let b = part_at s p (n * 2) h (k * 2 + 1) (omega arith) in
      let w = hex-pair (get_or x (k * 2) 0) (get_or x (k * 2 + 1) 0) (drop (k * 2 + 2) x) q.rest (rw (two_here x (k * 2) (omega (arith, len))) at q.decoded) in
      let i : p + (k * 2 + 1) ≡ p + k * 2 + 1 = omega arith in
      let j : k * 2 + 2 ≡ (k + 1) * 2 = omega arith in
      let y : u ≡ w.high = c _ (sym (ap hex_value a) ∙ w.first) in
      let z : v ≡ w.low = d _ (sym (ap hex_value (b ∙ ap (λ (r : ℕ). get_or s r 0) i)) ∙ w.second) in
      let g : suc (o + k) ≡ o + (k + 1) = omega arith in
      record { rest = w.rest; decoded = rw (← j) w.then; stored = rw (y, z, ← g) (rw w.whole at q.stored) }

  pub hex-end : n ≤ k → k ≤ n → Storing unhex (take (n * 2) (drop p s)) l before o (k * 2) k → (os : List ℕ) → unhex (take (n * 2) (drop p s)) ≡ Some os → l ≡ sets before o os
  unfolding unhex
  hex-end a b f os e =
      let q = f os e in
      let z : drop (k * 2) (take (n * 2) (drop p s)) ≡ [] = drop_of_length-le (take (n * 2) (drop p s)) {i = k * 2} (omega (arith, part_length s p (n * 2) h)) in
      let w = some_lists (sym (rw z at q.decoded)) in
      rw w at q.stored

-- ---- Base64

-- what a last group decodes to, by its pads
record Triple (a b c d : ℕ) (os : List ℕ) : Type 0 where
  x : ℕ
  y : ℕ
  first : base64_value a ≡ Some x
  second : base64_value b ≡ Some y
  then : elim (eqb d 0x3D) as (λ t. Option (List ℕ)) [
    | true ↦ elim (eqb c 0x3D) as (λ t. Option (List ℕ)) [
      | true ↦ only_if (eqb (y % 16) 0) ((x * 4 + y / 16) ∷ [])
      | false ↦ also (base64_value c) (λ z. only_if (eqb (z % 4) 0) ((x * 4 + y / 16) ∷ (y % 16 * 16 + z / 4) ∷ []))
    ]
    | false ↦ also (base64_value c) (λ z. also (base64_value d) (λ w. Some ((x * 4 + y / 16) ∷ (y % 16 * 16 + z / 4) ∷ (z % 4 * 64 + w) ∷ [])))
  ] ≡ Some os

last-is : (a b c d : ℕ) (os : List ℕ) → last_group a b c d ≡ Some os → Triple a b c d os
unfolding last_group
last-is a b c d os e =
    let f = finds (base64_value a) _ os e in
    let g = finds (base64_value b) _ os f.then in
    record { x = f.val; y = g.val; first = f.first; second = g.first; then = g.then }

only-is : (t : Bool) (xs os : List ℕ) → only_if t xs ≡ Some os → os ≡ xs
unfolding only_if
only-is true xs os e = sym (some_lists e)
only-is false xs os e = none-not e

module _ (s : List ℕ) (q : ℕ) where
  pub last-full : (l m : List ℕ) (o : ℕ) → (get_or s (q + 3) 0 ≡ 0x3D → ⊥) → GroupStored s q m l o → LastStored s q m l o
  last-full l m o n g os e =
      let t = last-is (get_or s q 0) (get_or s (q + 1) 0) (get_or s (q + 2) 0) (get_or s (q + 3) 0) os e in
      let h = rw (ne_eqb (get_or s (q + 3) 0) 0x3D n) at t.then in
      let i = finds (base64_value (get_or s (q + 2) 0)) _ os h in
      let j = finds (base64_value (get_or s (q + 3) 0)) _ os i.then in
      g t.x t.y i.val j.val t.first t.second i.first j.first ∙ ap (λ (r : List ℕ). sets l o r) (some_lists j.then)

  module _ (l l₁ : List ℕ) (o a b : ℕ) (f : Reads base64_value (get_or s q 0) a) (g : Reads base64_value (get_or s (q + 1) 0) b) (p : get_or s (q + 3) 0 ≡ 0x3D) (e₁ : l₁ ≡ set l o (a * 4 + b / 16)) where
    pub last_one : get_or s (q + 2) 0 ≡ 0x3D → LastStored s q l₁ l o
    last_one c os e =
        let t = last-is (get_or s q 0) (get_or s (q + 1) 0) (get_or s (q + 2) 0) (get_or s (q + 3) 0) os e in
        let h = rw (eq-eqb (get_or s (q + 3) 0) 0x3D p, eq-eqb (get_or s (q + 2) 0) 0x3D c) at t.then in
        let v : set l o (a * 4 + b / 16) ≡ sets l o ((t.x * 4 + t.y / 16) ∷ []) = rw (f _ t.first, g _ t.second) in
        e₁ ∙ v ∙ ap (λ (r : List ℕ). sets l o r) (sym (only-is _ _ os h))

    pub last-two : (l₂ : List ℕ) (c : ℕ) → (get_or s (q + 2) 0 ≡ 0x3D → ⊥) → Reads base64_value (get_or s (q + 2) 0) c → l₂ ≡ set l₁ (o + 1) (b % 16 * 16 + c / 4) → LastStored s q l₂ l o
    last-two l₂ c n d e₂ os e =
        let t = last-is (get_or s q 0) (get_or s (q + 1) 0) (get_or s (q + 2) 0) (get_or s (q + 3) 0) os e in
        let h = rw (eq-eqb (get_or s (q + 3) 0) 0x3D p, ne_eqb (get_or s (q + 2) 0) 0x3D n) at t.then in
        let i = finds (base64_value (get_or s (q + 2) 0)) _ os h in
        let k : o + 1 ≡ suc o = omega arith in
        let v : set l₁ (o + 1) (b % 16 * 16 + c / 4) ≡ sets l o ((t.x * 4 + t.y / 16) ∷ (t.y % 16 * 16 + i.val / 4) ∷ []) =
        rw (e₁, f _ t.first, g _ t.second, d _ i.first, k) in
        e₂ ∙ v ∙ ap (λ (r : List ℕ). sets l o r) (sym (only-is _ _ os i.then))

-- ---- all groups

short_none : (y : List ℕ) → 0 < length y → length y < 4 → unbase64 y ≡ None
unfolding unbase64
short_none [] h g = absurd (omega arith)
short_none (a ∷ []) h g = refl
short_none (a ∷ b ∷ []) h g = refl
short_none (a ∷ b ∷ c ∷ []) h g = refl
short_none (a ∷ b ∷ c ∷ d ∷ y) h g = absurd (omega arith)

pub base64-short : (s : List ℕ) (p n : ℕ) (l : List ℕ) (o : ℕ) → p + n ≤ length s → n < 4 → (os : List ℕ) → unbase64 (take n (drop p s)) ≡ Some os → l ≡ sets l o os
unfolding unbase64
base64-short s p zero l o h g os e = ap (λ (r : List ℕ). sets l o r) (some_lists e)
base64-short s p (suc n) l o h g os e =
    let len = part_length s p (suc n) h in
    none-not (sym (short_none (take (suc n) (drop p s)) (omega (arith, len)) (omega (arith, len))) ∙ e)

record Quad (a b c d : ℕ) (y os : List ℕ) : Type 0 where
  x : ℕ
  y' : ℕ
  z : ℕ
  w : ℕ
  rest : List ℕ
  first : base64_value a ≡ Some x
  second : base64_value b ≡ Some y'
  third : base64_value c ≡ Some z
  fourth : base64_value d ≡ Some w
  then : unbase64 y ≡ Some rest
  whole : os ≡ (x * 4 + y' / 16) ∷ (y' % 16 * 16 + z / 4) ∷ (z % 4 * 64 + w) ∷ rest

quad : (a b c d e : ℕ) (y os : List ℕ) → unbase64 (a ∷ b ∷ c ∷ d ∷ e ∷ y) ≡ Some os → Quad a b c d (e ∷ y) os
unfolding unbase64 full_group
quad a b c d e y os h =
    let f = finds (base64_value a) _ os h in
    let g = finds (base64_value b) _ os f.then in
    let i = finds (base64_value c) _ os g.then in
    let j = finds (base64_value d) _ os i.then in
    let k = finds (unbase64 (e ∷ y)) _ os j.then in
    record { x = f.val; y' = g.val; z = i.val; w = j.val; rest = k.val; first = f.first; second = g.first; third = i.first; fourth = j.first; then = k.first; whole = sym (some_lists k.then) }

four-here : (x : List ℕ) (i : ℕ) → i + 3 < length x → drop i x ≡ get_or x i 0 ∷ get_or x (i + 1) 0 ∷ get_or x (i + 2) 0 ∷ get_or x (i + 3) 0 ∷ drop (i + 4) x
four-here x i h =
    let e : i + 2 + 1 ≡ i + 3 = omega arith in
    let f : i + 2 + 2 ≡ i + 4 = omega arith in
    two_here x i (omega arith) ∙ rw (two_here x (i + 2) (omega arith), e, f)

module _ (s : List ℕ) (p n : ℕ) (h : p + n ≤ length s) (l before : List ℕ) (o i k : ℕ) where
  at : (j : ℕ) → i + j < n → get_or (take n (drop p s)) (i + j) 0 ≡ get_or s (p + i + j) 0
  at j m = let e : p + (i + j) ≡ p + i + j = omega arith in part_at s p n h (i + j) m ∙ ap (λ (r : ℕ). get_or s r 0) e

  at₀ : i < n → get_or (take n (drop p s)) i 0 ≡ get_or s (p + i) 0
  at₀ m = part_at s p n h i m

  pub base64-more : (l' : List ℕ) → i + 4 < n → GroupStored s (p + i) l' l (o + k) → Storing unbase64 (take n (drop p s)) l before o i k → Storing unbase64 (take n (drop p s)) l' before o (i + 4) (k + 3)
  base64-more l' m g f os e =
      let x : List ℕ = take n (drop p s) in
      let q = f os e in
      let len = part_length s p n h in
      let c : drop (i + 4) x ≡ get_or x (i + 4) 0 ∷ drop (suc (i + 4)) x = drop-cons x (i + 4) 0 (omega (arith, len)) in
      let d : drop i x ≡ get_or x i 0 ∷ get_or x (i + 1) 0 ∷ get_or x (i + 2) 0 ∷ get_or x (i + 3) 0 ∷ get_or x (i + 4) 0 ∷ drop (suc (i + 4)) x = four-here x i (omega (arith, len)) ∙ rw c in
      let w = quad (get_or x i 0) (get_or x (i + 1) 0) (get_or x (i + 2) 0) (get_or x (i + 3) 0) (get_or x (i + 4) 0) (drop (suc (i + 4)) x) q.rest (sym (ap unbase64 d) ∙ q.decoded) in
      let v = g w.x w.y' w.z w.w (sym (ap base64_value (at₀ (omega arith))) ∙ w.first) (sym (ap base64_value (at 1 (omega arith))) ∙ w.second) (sym (ap base64_value (at 2 (omega arith))) ∙ w.third) (sym (ap base64_value (at 3 (omega arith))) ∙ w.fourth) in
      let u : o + (k + 3) ≡ o + k + 3 = omega arith in
      let r : sets l' (o + (k + 3)) w.rest ≡ sets l (o + k) q.rest =
      ap (λ (y : List ℕ). sets y (o + (k + 3)) w.rest) v ∙ ap (λ (y : ℕ). sets (sets l (o + k) (tripled w.x w.y' w.z w.w)) y w.rest) u ∙ sym (sets_append l (o + k) (tripled w.x w.y' w.z w.w) w.rest) ∙ ap (λ (y : List ℕ). sets l (o + k) y) (sym w.whole) in
      record { rest = w.rest; decoded = ap unbase64 c ∙ w.then; stored = r ∙ q.stored }

  last-decoded : (os : List ℕ) → i + 4 ≡ n → unbase64 (drop i (take n (drop p s))) ≡ Some os → last_group (get_or s (p + i) 0) (get_or s (p + i + 1) 0) (get_or s (p + i + 2) 0) (get_or s (p + i + 3) 0) ≡ Some os
  unfolding unbase64
  last-decoded os m e =
      let x : List ℕ = take n (drop p s) in
      let len = part_length s p n h in
      let z : drop (i + 4) x ≡ [] = drop_of_length-le x {i = i + 4} (omega (arith, len)) in
      let d : drop i x ≡ get_or s (p + i) 0 ∷ get_or s (p + i + 1) 0 ∷ get_or s (p + i + 2) 0 ∷ get_or s (p + i + 3) 0 ∷ [] =
      four-here x i (omega (arith, len)) ∙ rw (z, at₀ (omega arith), at 1 (omega arith), at 2 (omega arith), at 3 (omega arith)) in
      sym (ap unbase64 d) ∙ e

  pub base64-end : (l' : List ℕ) → n - 4 ≤ i → i < n → 4 ≤ n → LastStored s (p + (n - 4)) l' l (o + k) → Storing unbase64 (take n (drop p s)) l before o i k → (os : List ℕ) → unbase64 (take n (drop p s)) ≡ Some os → l' ≡ sets before o os
  base64-end l' m m' m'' g f os e = go (leb i (n - 4)) refl (f os e)
    where
      go : (t : Bool) → leb i (n - 4) ≡ t → Left unbase64 (take n (drop p s)) l (sets before o os) o i k → l' ≡ sets before o os
      go true u q =
          let z : n - 4 ≡ i = omega (arith, leb-true i (n - 4) u) in
          g q.rest (rw z (last-decoded q.rest (omega arith) q.decoded)) ∙ q.stored
      go false u q =
          let w = leb-false i (n - 4) u in
          let len = part_length s p n h in
          none-not (sym (short_none (drop i (take n (drop p s))) (omega (arith, len, length-drop i (take n (drop p s)))) (omega (arith, len, length-drop i (take n (drop p s))))) ∙ q.decoded)
