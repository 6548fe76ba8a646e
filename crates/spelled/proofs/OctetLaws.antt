-- Characters that are all digits decode.
use Prim.Native.Nat.{ℕ, zero, suc, ◌+◌, ◌-◌, ◌*◌, ◌/◌, ◌%◌, ◌<◌, ◌≤◌}
use mathlib.Core.Path.{◌≡◌, refl, sym, ap, ◌∙◌}
use mathlib.Core.List.{List, [], ◌∷◌}
use Rattle.std.specs.Prelude.{Some}
use native.Mathlib.Omega.{arith}
use borrow.Author.Tests.{ne_eqb}
use lib.ListN.{length, get_or, take, drop, length-drop}
use lib.Seq.{get_or-take, get_or-drop, length-take-le}
use mathlib.Core.Bool.{true}
use Rattle.std.specs.Prelude.{Option, None}
use Rattle.std.specs.Option.{is_some}
use Rattle.std.specs.List.{list_all}
use Rattle.std.proofs.lemmas.List.Sums.{AllPass-from_list_all}
use Rattle.jer.specs.Octets.{also, only_if, hex_value, unhex, base64_value, last_group, full_group, unbase64}
use Rattle.spelled.specs.Octets.{OctetsAre, HexByte, Base64Byte, Group}

-- ---- one more

module _ (s : List ℕ) (p n : ℕ) (l : p + n ≤ length s) where
  pub part_length : length (take n (drop p s)) ≡ n
  part_length = length-take-le n (drop p s) (omega (arith, length-drop p s))

  pub part_at : (i : ℕ) → i < n → get_or (take n (drop p s)) i 0 ≡ get_or s (p + i) 0
  part_at i h = get_or-take n (drop p s) i 0 h ∙ get_or-drop p s i 0

-- what all n bytes at p have
each-some : (value : ℕ → Option ℕ) (s : List ℕ) (p n : ℕ) → p + n ≤ length s → list_all (λ b. is_some (value b)) (take (p + n - p) (drop p s)) ≡ true → (i : ℕ) → i < n → (x : ℕ) × (value (get_or s (p + i) 0) ≡ Some x)
each-some value s p n l e i h =
    let f : p + n - p ≡ n = omega arith in
    let k = AllPass-from_list_all (λ b. is_some (value b)) (take n (drop p s)) (rw f at e) i 0 (omega (arith, part_length s p n l)) in
    some (value (get_or s (p + i) 0)) refl (rw (part_at s p n l i h) at k)
  where
    some : (o : Option ℕ) → value (get_or s (p + i) 0) ≡ o → is_some (value (get_or s (p + i) 0)) ≡ true → (x : ℕ) × (value (get_or s (p + i) 0) ≡ Some x)
    some (Some x) e g = (x, e)
    some None e g = absurd (let z = rw e at g in let w : ◌≡◌ {A = ℕ} 0 1 = cc in omega arith)

pub each-hex : (s : List ℕ) (p n : ℕ) → p + n ≤ length s → list_all (λ b. is_some (hex_value b)) (take (p + n - p) (drop p s)) ≡ true → (i : ℕ) → i < n → HexByte (get_or s (p + i) 0)
each-hex s p n l e i h = let k = each-some hex_value s p n l e i h in record { value = k.0; is = k.1 }

pub each-base64 : (s : List ℕ) (p n : ℕ) → p + n ≤ length s → list_all (λ b. is_some (base64_value b)) (take (p + n - p) (drop p s)) ≡ true → (i : ℕ) → i < n → Base64Byte (get_or s (p + i) 0)
each-base64 s p n l e i h = let k = each-some base64_value s p n l e i h in record { value = k.0; is = k.1 }

-- ---- hexadecimal

hex-two : (a b : ℕ) (x : List ℕ) (m : ℕ) → HexByte a → HexByte b → OctetsAre unhex x m → OctetsAre unhex (a ∷ b ∷ x) (suc m)
unfolding unhex also
hex-two a b x m h g k = record { octets = (h.value * 16 + g.value) ∷ k.octets; decoded = rw (h.is, also, g.is, also, k.decoded); size = ap suc k.size }

hex-all : (m : ℕ) (x : List ℕ) → length x ≡ m + m → ((i : ℕ) → i < length x → HexByte (get_or x i 0)) → OctetsAre unhex x m
unfolding unhex
hex-all zero [] e h = record { octets = []; decoded = refl; size = refl }
hex-all zero (a ∷ x) e h = absurd (omega arith)
hex-all (suc m) [] e h = absurd (omega arith)
hex-all (suc m) (a ∷ []) e h = absurd (omega arith)
hex-all (suc m) (a ∷ b ∷ x) e h = hex-two a b x m (h 0 (omega arith)) (h 1 (omega arith)) (hex-all m x (omega arith) (λ i l. h (suc (suc i)) (omega arith)))

pub hex-octets : (s : List ℕ) (p n : ℕ) → p + n ≤ length s → (n % 2 ≡ 1 → ⊥) → ((i : ℕ) → i < n → HexByte (get_or s (p + i) 0)) → OctetsAre unhex (take n (drop p s)) (n / 2)
hex-octets s p n l o h =
    let e = part_length s p n l in
    hex-all (n / 2) (take n (drop p s)) (omega (arith, e, o)) (λ i m. let g : i < n = omega (arith, e) in rw (part_at s p n l i g) (h i g))

-- ---- Base64

-- so many octets of the last group
pub group_one : (a b c d x y : ℕ) → base64_value a ≡ Some x → base64_value b ≡ Some y → c ≡ 0x3D → d ≡ 0x3D → y % 16 ≡ 0 → Group a b c d 1
unfolding last_group also only_if
group_one a b c d x y e f g h i = record { octets = (x * 4 + y / 16) ∷ []; decoded = rw (e, also, f, also, h, g, i); size = refl }

pub group_two : (a b c d x y z : ℕ) → base64_value a ≡ Some x → base64_value b ≡ Some y → base64_value c ≡ Some z → (c ≡ 0x3D → ⊥) → d ≡ 0x3D → z % 4 ≡ 0 → Group a b c d 2
unfolding last_group also only_if
group_two a b c d x y z e f g n h i =
    record { octets = (x * 4 + y / 16) ∷ (y % 16 * 16 + z / 4) ∷ []; decoded = rw (e, also, f, also, h, ne_eqb c 0x3D n, g, also, i); size = refl }

pub group_three : (a b c d x y z w : ℕ) → base64_value a ≡ Some x → base64_value b ≡ Some y → base64_value c ≡ Some z → base64_value d ≡ Some w → (d ≡ 0x3D → ⊥) → Group a b c d 3
unfolding last_group also
group_three a b c d x y z w e f g h n =
    record { octets = (x * 4 + y / 16) ∷ (y % 16 * 16 + z / 4) ∷ (z % 4 * 64 + w) ∷ []; decoded = rw (e, also, f, also, ne_eqb d 0x3D n, g, also, h, also); size = refl }

base64-last : (a b c d e : ℕ) → Group a b c d e → OctetsAre unbase64 (a ∷ b ∷ c ∷ d ∷ []) e
unfolding unbase64
base64-last a b c d e k = record { octets = k.octets; decoded = k.decoded; size = k.size }

base64-four : (a b c d f m : ℕ) (x : List ℕ) → Base64Byte a → Base64Byte b → Base64Byte c → Base64Byte d → OctetsAre unbase64 (f ∷ x) m → OctetsAre unbase64 (a ∷ b ∷ c ∷ d ∷ f ∷ x) (3 + m)
unfolding unbase64 full_group also
base64-four a b c d f m x g h i j k =
    record {
      octets = (g.value * 4 + h.value / 16) ∷ (h.value % 16 * 16 + i.value / 4) ∷ (i.value % 4 * 64 + j.value) ∷ k.octets;
      decoded = rw (g.is, also, h.is, also, i.is, also, j.is, also, k.decoded);
      size = omega (arith, k.size);
    }

shift : (a b c d : ℕ) (y : List ℕ) (i j : ℕ) → i ≡ suc (suc (suc (suc j))) → get_or y j 0 ≡ get_or (a ∷ b ∷ c ∷ d ∷ y) i 0
shift a b c d y i j e = rw e

group_as : {a b c d i j k l e : ℕ} → i ≡ a → j ≡ b → k ≡ c → l ≡ d → Group a b c d e → Group i j k l e
group_as p q r u g = rw (p, q, r, u) g

-- c characters are digits, in m groups, and the last group follows
record Digital (x : List ℕ) (m c e : ℕ) : Type 0 where
  groups : c ≡ m + m + m + m
  size : length x ≡ c + 4
  digits : (i : ℕ) → i < c → Base64Byte (get_or x i 0)
  last : Group (get_or x c 0) (get_or x (c + 1) 0) (get_or x (c + 2) 0) (get_or x (c + 3) 0) e

digital_rest : (a b c d : ℕ) (x : List ℕ) (m n e : ℕ) → Digital (a ∷ b ∷ c ∷ d ∷ x) (suc m) n e → Digital x m (n - 4) e
digital_rest a b c d x m n e k =
    let g = k.groups in
    let l = k.size in
    record {
      groups = omega arith;
      size = omega arith;
      digits = λ i h. k.digits (suc (suc (suc (suc i)))) (omega arith);
      last = group_as (shift a b c d x n (n - 4) (omega arith)) (shift a b c d x (n + 1) (n - 4 + 1) (omega arith)) (shift a b c d x (n + 2) (n - 4 + 2) (omega arith)) (shift a b c d x (n + 3) (n - 4 + 3) (omega arith)) k.last;
    }

digital_end : (a b c d : ℕ) (x : List ℕ) (n e : ℕ) → Digital (a ∷ b ∷ c ∷ d ∷ x) 0 n e → OctetsAre unbase64 (a ∷ b ∷ c ∷ d ∷ x) e
digital_end a b c d [] n e k =
    let z : 0 ≡ n = sym k.groups in
    base64-last a b c d e (group_as (at n 0 z) (at (n + 1) 1 (ap (λ (y : ℕ). y + 1) z)) (at (n + 2) 2 (ap (λ (y : ℕ). y + 2) z)) (at (n + 3) 3 (ap (λ (y : ℕ). y + 3) z)) k.last)
  where
    at : (i j : ℕ) → j ≡ i → get_or (a ∷ b ∷ c ∷ d ∷ []) j 0 ≡ get_or (a ∷ b ∷ c ∷ d ∷ []) i 0
    at i j e = ap (λ (y : ℕ). get_or (a ∷ b ∷ c ∷ d ∷ []) y 0) e
digital_end a b c d (f ∷ x) n e k = absurd (omega (arith, k.groups, k.size))

digital_none : (x : List ℕ) (n e : ℕ) → Digital x 0 n e → OctetsAre unbase64 x e
digital_none [] n e k = absurd (omega (arith, k.size))
digital_none (a ∷ []) n e k = absurd (omega (arith, k.size))
digital_none (a ∷ b ∷ []) n e k = absurd (omega (arith, k.size))
digital_none (a ∷ b ∷ c ∷ []) n e k = absurd (omega (arith, k.size))
digital_none (a ∷ b ∷ c ∷ d ∷ x) n e k = digital_end a b c d x n e k

digital_more : (m : ℕ) (x : List ℕ) (n e : ℕ) → ((y : List ℕ) → Digital y m (n - 4) e → OctetsAre unbase64 y (m + m + m + e)) → Digital x (suc m) n e → OctetsAre unbase64 x (3 + (m + m + m + e))
digital_more m [] n e f k = absurd (omega (arith, k.size))
digital_more m (a ∷ []) n e f k = absurd (omega (arith, k.size))
digital_more m (a ∷ b ∷ []) n e f k = absurd (omega (arith, k.size))
digital_more m (a ∷ b ∷ c ∷ []) n e f k = absurd (omega (arith, k.size))
digital_more m (a ∷ b ∷ c ∷ d ∷ []) n e f k = absurd (omega (arith, k.groups, k.size))
digital_more m (a ∷ b ∷ c ∷ d ∷ g ∷ x) n e f k =
    let h : 4 ≤ n = omega (arith, k.groups) in
    base64-four a b c d g (m + m + m + e) x (k.digits 0 (omega arith)) (k.digits 1 (omega arith)) (k.digits 2 (omega arith)) (k.digits 3 (omega arith)) (f (g ∷ x) (digital_rest a b c d (g ∷ x) m n e k))

digital_all : (m : ℕ) (x : List ℕ) (n e : ℕ) → Digital x m n e → OctetsAre unbase64 x (m + m + m + e)
digital_all zero x n e k = let u : 0 + 0 + 0 + e ≡ e = omega arith in rw u (digital_none x n e k)
digital_all (suc m) x n e k =
    let u : suc m + suc m + suc m + e ≡ 3 + (m + m + m + e) = omega arith in
    rw u (digital_more m x n e (λ y h. digital_all m y (n - 4) e h) k)

pub base64-none : (s : List ℕ) (p : ℕ) → OctetsAre unbase64 (take 0 (drop p s)) 0
unfolding unbase64
base64-none s p = record { octets = []; decoded = refl; size = refl }

pub base64-octets : (s : List ℕ) (p n e : ℕ) → p + n ≤ length s → (n ≡ 0 → ⊥) → n % 4 ≡ 0 → ((i : ℕ) → i < n - 4 → Base64Byte (get_or s (p + i) 0))
    → Group (get_or s (p + (n - 4)) 0) (get_or s (p + (n - 4) + 1) 0) (get_or s (p + (n - 4) + 2) 0) (get_or s (p + (n - 4) + 3) 0) e → OctetsAre unbase64 (take n (drop p s)) ((n - 4) / 4 * 3 + e)
base64-octets s p n e l o q h g =
    let x : List ℕ = take n (drop p s) in
    let r = digital_all ((n - 4) / 4) x (n - 4) e (record { groups = omega (arith, o, q); size = omega (arith, part_length s p n l, o, q); digits = λ i w. there i w; last = group_as (at₀ (omega (arith, o, q))) (at 1 (omega (arith, o, q))) (at 2 (omega (arith, o, q))) (at 3 (omega (arith, o, q))) g }) in
    let u : (n - 4) / 4 * 3 + e ≡ (n - 4) / 4 + (n - 4) / 4 + (n - 4) / 4 + e = omega arith in
    rw u r
  where
    there : (i : ℕ) → i < n - 4 → Base64Byte (get_or (take n (drop p s)) i 0)
    there i w = let z : i < n = omega arith in rw (part_at s p n l i z) (h i w)

    at₀ : n - 4 < n → get_or (take n (drop p s)) (n - 4) 0 ≡ get_or s (p + (n - 4)) 0
    at₀ w = part_at s p n l (n - 4) w

    at : (i : ℕ) → n - 4 + i < n → get_or (take n (drop p s)) (n - 4 + i) 0 ≡ get_or s (p + (n - 4) + i) 0
    at i w = let u : p + (n - 4 + i) ≡ p + (n - 4) + i = omega arith in part_at s p n l (n - 4 + i) w ∙ ap (λ (k : ℕ). get_or s k 0) u
