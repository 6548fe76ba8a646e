-- What hexadecimal and Base64 spell are octets.
use Prim.Native.Nat.{ℕ, ◌+◌, ◌*◌, ◌/◌, ◌%◌, ◌≤◌, ◌<◌}
use mathlib.Core.List.{List, [], ◌∷◌}
use mathlib.Core.Bool.{Bool, true, false}
use Rattle.std.specs.Prelude.{Option, None, Some}
use native.Mathlib.Omega.{arith}
use native.Mathlib.Nat.{div-add-mod', mod-lt}
use lib.Dec.{eqb, lit<}
use Rattle.json_text.proofs.SoundRows.{pick-within, ◌⨾◌}
use Rattle.jer.specs.Octets.{also, hex_value, unhex, base64_value, only_if, last_group, full_group, unbase64}
use Rattle.jer.specs.Fits.{Octets, no_octets, octet}

-- P of what there is, if there is anything
abbrev pub Holds : {A : Type 0} → (A → Type 0) → Option A → Type 0
Holds P None = Unit {0}
Holds P (Some a) = P a

holds-also : {A B : Type 0} (P : A → Type 0) (Q : B → Type 0) (x : Option A) (f : A → Option B) → Holds P x → ((a : A) → P a → Holds Q (f a)) → Holds Q (also x f)
unfolding also
holds-also P Q None f h k = tt
holds-also P Q (Some a) f h k = k a h

-- ---- hexadecimal

hex-small : (b : ℕ) → Holds (λ x. x ≤ 15) (hex_value b)
unfolding hex_value
hex-small b = pick-within (Holds (λ x. x ≤ 15)) b _ None ((λ i. omega arith) ⨾ (λ i. omega arith) ⨾ (λ i. omega arith) ⨾ tt) tt

-- the value of a digit, and what follows
with_hex : (b : ℕ) (f : ℕ → Option (List ℕ)) → ((x : ℕ) → x ≤ 15 → Holds Octets (f x)) → Holds Octets (also (hex_value b) f)
with_hex b f = holds-also (λ x. x ≤ 15) Octets (hex_value b) f (hex-small b)

pub unhex-octets : (s : List ℕ) → Holds Octets (unhex s)
unfolding unhex
unhex-octets [] = no_octets
unhex-octets (a ∷ []) = tt
unhex-octets (a ∷ b ∷ s) = with_hex a _ (λ x h. with_hex b _ (λ y k. holds-also Octets Octets (unhex s) _ (unhex-octets s) (λ os m. let l : x * 16 + y < 256 = omega arith in octet l m)))

-- ---- Base64

base64-small : (b : ℕ) → Holds (λ x. x ≤ 63) (base64_value b)
unfolding base64_value
base64-small b = pick-within (Holds (λ x. x ≤ 63)) b _ None ((λ i. omega arith) ⨾ (λ i. omega arith) ⨾ (λ i. omega arith) ⨾ (λ i. omega arith) ⨾ (λ i. omega arith) ⨾ tt) tt

with_base64 : (b : ℕ) (f : ℕ → Option (List ℕ)) → ((x : ℕ) → x ≤ 63 → Holds Octets (f x)) → Holds Octets (also (base64_value b) f)
with_base64 b f = holds-also (λ x. x ≤ 63) Octets (base64_value b) f (base64-small b)

octet_1 : (x y : ℕ) → x ≤ 63 → y ≤ 63 → x * 4 + y / 16 < 256
octet_1 x y h k = omega (arith, div-add-mod' y 16)

octet_2 : (y z : ℕ) → z ≤ 63 → y % 16 * 16 + z / 4 < 256
octet_2 y z k = let l : y % 16 < 16 = mod-lt y (lit< tt) in omega (arith, div-add-mod' z 4)

octet_3 : (z w : ℕ) → w ≤ 63 → z % 4 * 64 + w < 256
octet_3 z w k = let l : z % 4 < 4 = mod-lt z (lit< tt) in omega arith

if_octets : (c : Bool) (s : List ℕ) → Octets s → Holds Octets (only_if c s)
unfolding only_if
if_octets true s h = h
if_octets false s h = tt

last-octets : (a b c d : ℕ) → Holds Octets (last_group a b c d)
unfolding last_group
last-octets a b c d = with_base64 a _ (λ x h. with_base64 b _ (λ y k. pads (eqb d 0x3D) (eqb c 0x3D) x y h k))
  where
    pads : (t u : Bool) (x y : ℕ) → x ≤ 63 → y ≤ 63 → Holds Octets (elim t as (λ _. Option (List ℕ)) [
      | true ↦ elim u [
        | true ↦ only_if (eqb (y % 16) 0) ((x * 4 + y / 16) ∷ [])
        | false ↦ also (base64_value c) (λ z. only_if (eqb (z % 4) 0) ((x * 4 + y / 16) ∷ (y % 16 * 16 + z / 4) ∷ []))
      ]
      | false ↦ also (base64_value c) (λ z. also (base64_value d) (λ w. Some ((x * 4 + y / 16) ∷ (y % 16 * 16 + z / 4) ∷ (z % 4 * 64 + w) ∷ [])))
    ])
    pads true true x y h k = if_octets _ _ (octet (octet_1 x y h k) no_octets)
    pads true false x y h k = with_base64 c _ (λ z m. if_octets _ _ (octet (octet_1 x y h k) (octet (octet_2 y z m) no_octets)))
    pads false u x y h k = with_base64 c _ (λ z m. with_base64 d _ (λ w n. octet (octet_1 x y h k) (octet (octet_2 y z m) (octet (octet_3 z w n) no_octets))))

full-octets : (a b c d : ℕ) (rest : Option (List ℕ)) → Holds Octets rest → Holds Octets (full_group a b c d rest)
unfolding full_group
full-octets a b c d rest r =
    with_base64 a _ (λ x h. with_base64 b _ (λ y k. with_base64 c _ (λ z m. with_base64 d _ (λ w n. holds-also Octets Octets rest _ r
    (λ os l. octet (octet_1 x y h k) (octet (octet_2 y z m) (octet (octet_3 z w n) l)))))))

pub unbase64-octets : (s : List ℕ) → Holds Octets (unbase64 s)
unfolding unbase64
unbase64-octets [] = no_octets
unbase64-octets (a ∷ []) = tt
unbase64-octets (a ∷ b ∷ []) = tt
unbase64-octets (a ∷ b ∷ c ∷ []) = tt
unbase64-octets (a ∷ b ∷ c ∷ d ∷ []) = last-octets a b c d
unbase64-octets (a ∷ b ∷ c ∷ d ∷ e ∷ s) = full-octets a b c d _ (unbase64-octets (e ∷ s))
