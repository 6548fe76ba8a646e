-- Octets as hexadecimal and as Base64.
use Rattle.std.specs.Prelude.{ℕ, ◌+◌, ◌-◌, ◌*◌, ◌/◌, ◌%◌, List, [], ◌∷◌, Bool, true, false, eqb, ltb}
use Rattle.std.specs.Prelude.{Option, None, Some}
use Rattle.json_text.specs.Bytes.{on, pick}

unfoldable pub also : {A B : Type 0} → Option A → (A → Option B) → Option B
also None f = None
also (Some a) f = f a

-- ---- hexadecimal

-- 01, Reading: "OCTET STRING: hexadecimal of either letter case, even length"
unfoldable pub hex_value : ℕ → Option ℕ
hex_value b = pick b (on 0x30 0x39 (λ b. Some (b - 0x30)) ∷ on 0x41 0x46 (λ b. Some (b - 0x37)) ∷ on 0x61 0x66 (λ b. Some (b - 0x57)) ∷ []) None

unfoldable pub unhex : List ℕ → Option (List ℕ)
unhex [] = Some []
unhex (a ∷ []) = None
unhex (a ∷ b ∷ s) = also (hex_value a) (λ x. also (hex_value b) (λ y. also (unhex s) (λ os. Some ((x * 16 + y) ∷ os))))

-- 01, Writing: "Hexadecimal in upper case"
unfoldable pub hex_digit : ℕ → ℕ
hex_digit x = elim (ltb x 10) [ true ↦ 0x30 + x | false ↦ 0x37 + x ]

unfoldable pub hex : List ℕ → List ℕ
hex [] = []
hex (o ∷ os) = hex_digit (o / 16) ∷ hex_digit (o % 16) ∷ hex os

-- ---- Base64, RFC 2045 section 6.8

unfoldable pub base64_value : ℕ → Option ℕ
base64_value b =
    pick b
    (on 0x41 0x5A (λ b. Some (b - 0x41))
    ∷ on 0x61 0x7A (λ b. Some (b - 0x47))
    ∷ on 0x30 0x39 (λ b. Some (b + 0x04))
    ∷ on 0x2B 0x2B (λ b. Some 62)
    ∷ on 0x2F 0x2F (λ b. Some 63)
    ∷ [])
    None

unfoldable pub only_if : {A : Type 0} → Bool → A → Option A
only_if true a = Some a
only_if false a = None

-- a last group of four: with two pads it has one octet, with one pad two octets, else three
-- 01, Reading: "with BASE64, groups of four with padding, unused bits zero, no other character"
unfoldable pub last_group : ℕ → ℕ → ℕ → ℕ → Option (List ℕ)
last_group a b c d =
    also (base64_value a) (λ x. also (base64_value b) (λ y.
    elim (eqb d 0x3D) [
      | true ↦ elim (eqb c 0x3D) [
        | true ↦ only_if (eqb (y % 16) 0) ((x * 4 + y / 16) ∷ [])
        | false ↦ also (base64_value c) (λ z. only_if (eqb (z % 4) 0) ((x * 4 + y / 16) ∷ (y % 16 * 16 + z / 4) ∷ []))
      ]
      | false ↦ also (base64_value c) (λ z. also (base64_value d) (λ w. Some ((x * 4 + y / 16) ∷ (y % 16 * 16 + z / 4) ∷ (z % 4 * 64 + w) ∷ [])))
    ]))

unfoldable pub full_group : ℕ → ℕ → ℕ → ℕ → Option (List ℕ) → Option (List ℕ)
full_group a b c d rest =
    also (base64_value a) (λ x. also (base64_value b) (λ y. also (base64_value c) (λ z. also (base64_value d) (λ w. also rest (λ os.
    Some ((x * 4 + y / 16) ∷ (y % 16 * 16 + z / 4) ∷ (z % 4 * 64 + w) ∷ os))))))

unfoldable pub unbase64 : List ℕ → Option (List ℕ)
unbase64 [] = Some []
unbase64 (a ∷ []) = None
unbase64 (a ∷ b ∷ []) = None
unbase64 (a ∷ b ∷ c ∷ []) = None
unbase64 (a ∷ b ∷ c ∷ d ∷ []) = last_group a b c d
unbase64 (a ∷ b ∷ c ∷ d ∷ e ∷ s) = full_group a b c d (unbase64 (e ∷ s))

unfoldable pub base64_digit : ℕ → ℕ
base64_digit x =
    pick x
    (on 0 25 (λ x. x + 0x41)
    ∷ on 26 51 (λ x. x + 0x47)
    ∷ on 52 61 (λ x. x - 0x04)
    ∷ on 62 62 (λ x. 0x2B)
    ∷ [])
    0x2F

-- 01, Writing: "Base64 in one line with padding"
unfoldable pub base64 : List ℕ → List ℕ
base64 [] = []
base64 (a ∷ []) = base64_digit (a / 4) ∷ base64_digit (a % 4 * 16) ∷ 0x3D ∷ 0x3D ∷ []
base64 (a ∷ b ∷ []) = base64_digit (a / 4) ∷ base64_digit (a % 4 * 16 + b / 16) ∷ base64_digit (b % 16 * 4) ∷ 0x3D ∷ []
base64 (a ∷ b ∷ c ∷ s) = base64_digit (a / 4) ∷ base64_digit (a % 4 * 16 + b / 16) ∷ base64_digit (b % 16 * 4 + c / 64) ∷ base64_digit (c % 64) ∷ base64 s
