-- The characters that a string denotes, from the place after its opening quotation mark.
use Rattle.std.specs.Prelude.{ℕ, zero, suc, ◌+◌, ◌*◌, List, [], ◌∷◌, ◌++◌, Bool, true, false, ◌&&◌, ◌||◌, eqb, leb, length}
use Rattle.json_text.specs.Bytes.{on, pick}
use Rattle.json_text.specs.Utf8.{encode}
use Rattle.json_text.specs.Grammar.{paired}
use Rattle.std.specs.Option.{unwrap_or}
use Rattle.jer.specs.Octets.{hex_value}
use Rattle.tokens.specs.Places.{byte_at}
pub use Rattle.tokens.specs.declared.strings.Piece.{Piece}
pub use Rattle.tokens.specs.declared.strings.Piece.TheVariants.{Close, Bare, Escaped}

-- a hexadecimal digit's value; 0 for any other byte
unfoldable pub digit_at : List ℕ → ℕ → ℕ
digit_at s p = unwrap_or (hex_value (byte_at s p)) 0

-- four hexadecimal digits
unfoldable pub unit_at : List ℕ → ℕ → ℕ
unit_at s p = ((digit_at s p * 16 + digit_at s (p + 1)) * 16 + digit_at s (p + 2)) * 16 + digit_at s (p + 3)

-- the character of a letter after a backslash: \b \f \n \r \t, else the letter itself
unfoldable pub letter_of : ℕ → ℕ
letter_of b = pick b (on 0x62 0x62 (λ b. 0x08) ∷ on 0x66 0x66 (λ b. 0x0C) ∷ on 0x6E 0x6E (λ b. 0x0A) ∷ on 0x72 0x72 (λ b. 0x0D) ∷ on 0x74 0x74 (λ b. 0x09) ∷ []) b

abbrev pub is_high : ℕ → Bool
is_high x = leb 0xD800 x && leb x 0xDBFF

-- the unit x of an escape whose digits stand at p: a character, or the high half of a pair
unfoldable pub unit_piece : List ℕ → ℕ → ℕ → Piece
unit_piece s p x = elim (is_high x) [ true ↦ Escaped (paired x (unit_at s (p + 6))) (p + 10) | false ↦ Escaped x (p + 4) ]

-- after a backslash
unfoldable pub escape_at : List ℕ → ℕ → Piece
escape_at s p = elim (eqb (byte_at s p) 0x75) [ true ↦ unit_piece s (p + 1) (unit_at s (p + 1)) | false ↦ Escaped (letter_of (byte_at s p)) (p + 1) ]

-- one piece of a string
unfoldable pub piece_at : List ℕ → ℕ → Piece
piece_at s p =
    elim (eqb (byte_at s p) 0x22 || eqb (byte_at s p) 256) [
      | true ↦ Close
      | false ↦ elim (eqb (byte_at s p) 0x5C) [ true ↦ escape_at s (p + 1) | false ↦ Bare (byte_at s p) ]
    ]

-- the UTF-8 of at most n pieces from p on
unfoldable pub denoted_in : ℕ → List ℕ → ℕ → List ℕ
denoted_in zero s p = []
denoted_in (suc n) s p = elim (piece_at s p) [ Close ↦ [] | Bare b ↦ b ∷ denoted_in n s (p + 1) | Escaped x q ↦ encode x ++ denoted_in n s q ]

-- 01, Reading: "Names and strings are compared as the characters they denote"
unfoldable pub denoted : List ℕ → ℕ → List ℕ
denoted s p = denoted_in (length s) s p

-- the place after the closing quotation mark; at most n bytes are looked at
unfoldable pub close_in : ℕ → List ℕ → ℕ → ℕ
close_in zero s p = p
close_in (suc n) s p =
    elim (eqb (byte_at s p) 256) [
      | true ↦ p
      | false ↦ elim (eqb (byte_at s p) 0x22) [ true ↦ p + 1 | false ↦ elim (eqb (byte_at s p) 0x5C) [ true ↦ close_in n s (p + 2) | false ↦ close_in n s (p + 1) ] ]
    ]

unfoldable pub string_end : List ℕ → ℕ → ℕ
string_end s p = close_in (length s) s p
