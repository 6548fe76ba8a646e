-- Octets that a string stands for.
use Rattle.std.specs.Prelude.{ℕ, ◌+◌, ◌*◌, ◌/◌, ◌%◌, ◌≡◌, List, [], ◌∷◌, length, get_or}
use Rattle.std.specs.Prelude.{Option, Some}
use Rattle.std.proofs.lemmas.List.Edits.{sets}
use Rattle.jer.specs.Octets.{hex_value, base64_value, last_group}

-- the characters x decode to so many octets
pub record OctetsAre (decode : List ℕ → Option (List ℕ)) (x : List ℕ) (count : ℕ) : Type 0 where
  pub octets : List ℕ
  pub decoded : decode x ≡ Some octets
  pub size : count ≡ length octets

pub record HexByte (b : ℕ) : Type 0 where
  pub value : ℕ
  pub is : hex_value b ≡ Some value

pub record Base64Byte (b : ℕ) : Type 0 where
  pub value : ℕ
  pub is : base64_value b ≡ Some value

-- the last four characters stand for so many octets
pub record Group (a b c d count : ℕ) : Type 0 where
  pub octets : List ℕ
  pub decoded : last_group a b c d ≡ Some octets
  pub size : count ≡ length octets

-- the octets of x stand from o on, and the rest is as it was
abbrev pub OctetsStored : (List ℕ → Option (List ℕ)) → List ℕ → List ℕ → List ℕ → ℕ → Type 0
OctetsStored decode x after before o = (os : List ℕ) → decode x ≡ Some os → after ≡ sets before o os

-- the three octets of four Base64 digits
abbrev pub tripled : ℕ → ℕ → ℕ → ℕ → List ℕ
tripled x y z w = (x * 4 + y / 16) ∷ (y % 16 * 16 + z / 4) ∷ (z % 4 * 64 + w) ∷ []

-- if there are four digits at q, their octets stand from o on, and the rest is as it was
abbrev pub GroupStored : List ℕ → ℕ → List ℕ → List ℕ → ℕ → Type 0
GroupStored s q after before o =
    (x y z w : ℕ) → base64_value (get_or s q 0) ≡ Some x → base64_value (get_or s (q + 1) 0) ≡ Some y → base64_value (get_or s (q + 2) 0) ≡ Some z → base64_value (get_or s (q + 3) 0) ≡ Some w
    → after ≡ sets before o (tripled x y z w)

-- the same for a last group
abbrev pub LastStored : List ℕ → ℕ → List ℕ → List ℕ → ℕ → Type 0
LastStored s q after before o = (os : List ℕ) → last_group (get_or s q 0) (get_or s (q + 1) 0) (get_or s (q + 2) 0) (get_or s (q + 3) 0) ≡ Some os → after ≡ sets before o os
