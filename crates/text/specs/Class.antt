-- Byte classes: bytes that the grammar of JSON nowhere tells apart. A class is a character from 0 to Z.
use Rattle.std.specs.Prelude.{ℕ, ◌<◌, List, [], ◌∷◌, ◌≡◌, get_or}
use Prim.Native.Char.{Char, code}
use Rattle.json_text.specs.Bytes.{Row, on, pick}

-- the bytes from lo to hi, and the byte b, lead to the character
abbrev pub to : ℕ → ℕ → Char → Row ℕ
to lo hi c = on lo hi (λ b. code c)

abbrev pub at : ℕ → Char → Row ℕ
at b c = to b b c

unfoldable pub class_rows : List (Row ℕ)
class_rows =
    -- white space; a blank may also stand in a string
    to 0x09 0x0A "1" ∷ at 0x0D "1" ∷ at 0x20 "2"
    -- " \ [ ] { } , : - + .
    ∷ at 0x22 "3" ∷ at 0x5C "4" ∷ at 0x5B "5" ∷ at 0x5D "6" ∷ at 0x7B "7" ∷ at 0x7D "8"
    ∷ at 0x2C "9" ∷ at 0x3A ":" ∷ at 0x2D ";" ∷ at 0x2B "<" ∷ at 0x2E "="
    -- hexadecimal digits, by their part in numbers, surrogates, escapes and literals
    ∷ at 0x30 ">" ∷ to 0x31 0x37 "?" ∷ to 0x38 0x39 "@"
    ∷ to 0x41 0x42 "A" ∷ at 0x43 "B" ∷ at 0x46 "B" ∷ at 0x63 "B" ∷ at 0x44 "C" ∷ at 0x64 "C" ∷ at 0x45 "D"
    ∷ at 0x61 "E" ∷ at 0x62 "F" ∷ at 0x65 "G" ∷ at 0x66 "H"
    -- l n r s t u / and the other characters of one byte
    ∷ at 0x6C "I" ∷ at 0x6E "J" ∷ at 0x72 "K" ∷ at 0x73 "L" ∷ at 0x74 "M" ∷ at 0x75 "N" ∷ at 0x2F "O" ∷ to 0x20 0x7F "P"
    -- RFC 3629 section 4: later bytes, and first bytes, of a character
    ∷ to 0x80 0x8F "Q" ∷ to 0x90 0x9F "R" ∷ to 0xA0 0xBF "S"
    ∷ to 0xC2 0xDF "T" ∷ at 0xE0 "U" ∷ to 0xE1 0xEC "V" ∷ at 0xED "W" ∷ to 0xEE 0xEF "V" ∷ at 0xF0 "X" ∷ to 0xF1 0xF3 "Y" ∷ at 0xF4 "Z"
    ∷ []

-- the class of a byte; 0 is that of the bytes that no JSON text has
unfoldable pub class_of : ℕ → ℕ
unfolding class_rows pick
class_of b = pick b class_rows (code "0")

-- a table with the class of each byte
abbrev pub IsClasses : List ℕ → Type 0
IsClasses l = (b : ℕ) → b < 256 → get_or l b 0 ≡ class_of b
