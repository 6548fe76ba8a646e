-- What stands at a place of a text: total, so that no place is out of range. Code by places cites these definitions;
-- `proofs/` shows that on a JSON text they give what the grammar says.
use Rattle.std.specs.Prelude.{ℕ, suc, ◌+◌, List, [], ◌∷◌, Bool, true, false, ◌||◌, eqb, get_or, drop}

-- the byte at a place, 256 past the end
abbrev pub byte_at : List ℕ → ℕ → ℕ
byte_at s p = get_or s p 256

-- how many of the first bytes pass the test
unfoldable pub run_length : (ℕ → Bool) → List ℕ → ℕ
run_length f [] = 0
run_length f (b ∷ s) = elim (f b) [ true ↦ suc (run_length f s) | false ↦ 0 ]

-- the first place from p on whose byte does not pass the test, or the end
unfoldable pub run_from : (ℕ → Bool) → List ℕ → ℕ → ℕ
run_from f s p = p + run_length f (drop p s)

abbrev pub is_space : ℕ → Bool
is_space b = eqb b 0x20 || (eqb b 0x09 || (eqb b 0x0A || eqb b 0x0D))

-- past white space
unfoldable pub past_space : List ℕ → ℕ → ℕ
past_space s p = run_from is_space s p
