-- The short escapes.
use Rattle.std.specs.Prelude.{ℕ, [], ◌∷◌, Option, None, Some}
use Rattle.json_text.specs.Bytes.{on, pick}

-- the letter that stands for a byte after a backslash, if it has one
-- 01, Writing: "Escapes only \" \\ \b \t \n \f \r"
unfoldable pub letter_for : ℕ → Option ℕ
letter_for b =
    pick b
    (on 0x22 0x22 (λ b. Some 0x22)
    ∷ on 0x5C 0x5C (λ b. Some 0x5C)
    ∷ on 0x08 0x08 (λ b. Some 0x62)
    ∷ on 0x09 0x09 (λ b. Some 0x74)
    ∷ on 0x0A 0x0A (λ b. Some 0x6E)
    ∷ on 0x0C 0x0C (λ b. Some 0x66)
    ∷ on 0x0D 0x0D (λ b. Some 0x72)
    ∷ [])
    None
