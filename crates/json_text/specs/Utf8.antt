-- UTF-8, RFC 3629.
use Rattle.std.specs.Prelude.{ℕ, zero, suc, ◌+◌, ◌/◌, ◌%◌, ◌≡◌, List, [], ◌∷◌, ◌++◌, Bool, true, false, ltb}
use Rattle.json_text.specs.Bytes.{In, Row, on, pick}

-- RFC 3629 section 4: a character of more than one byte
--   UTF8-2 = %xC2-DF UTF8-tail
--   UTF8-3 = %xE0 %xA0-BF UTF8-tail / %xE1-EC 2( UTF8-tail ) / %xED %x80-9F UTF8-tail / %xEE-EF 2( UTF8-tail )
--   UTF8-4 = %xF0 %x90-BF 2( UTF8-tail ) / %xF1-F3 3( UTF8-tail ) / %xF4 %x80-8F 2( UTF8-tail )
--   UTF8-tail = %x80-BF
pub data Wide : List ℕ → Type 0 where
  two : {a b : ℕ} → In 0xC2 0xDF a → In 0x80 0xBF b → Wide (a ∷ b ∷ [])
  three_e0 : {b c : ℕ} → In 0xA0 0xBF b → In 0x80 0xBF c → Wide (0xE0 ∷ b ∷ c ∷ [])
  three_e1 : {a b c : ℕ} → In 0xE1 0xEC a → In 0x80 0xBF b → In 0x80 0xBF c → Wide (a ∷ b ∷ c ∷ [])
  three_eD : {b c : ℕ} → In 0x80 0x9F b → In 0x80 0xBF c → Wide (0xED ∷ b ∷ c ∷ [])
  three_eE : {a b c : ℕ} → In 0xEE 0xEF a → In 0x80 0xBF b → In 0x80 0xBF c → Wide (a ∷ b ∷ c ∷ [])
  four_f0 : {b c d : ℕ} → In 0x90 0xBF b → In 0x80 0xBF c → In 0x80 0xBF d → Wide (0xF0 ∷ b ∷ c ∷ d ∷ [])
  four_f1 : {a b c d : ℕ} → In 0xF1 0xF3 a → In 0x80 0xBF b → In 0x80 0xBF c → In 0x80 0xBF d → Wide (a ∷ b ∷ c ∷ d ∷ [])
  four_f4 : {b c d : ℕ} → In 0x80 0x8F b → In 0x80 0xBF c → In 0x80 0xBF d → Wide (0xF4 ∷ b ∷ c ∷ d ∷ [])

-- RFC 3629 section 4: UTF8-octets = *( UTF8-char ), UTF8-char = UTF8-1 / UTF8-2 / UTF8-3 / UTF8-4, UTF8-1 = %x00-7F
pub data Utf8 : List ℕ → Type 0 where
  no_char : Utf8 []
  one : {b : ℕ} {bs : List ℕ} → In 0x00 0x7F b → Utf8 bs → Utf8 (b ∷ bs)
  more : {c bs ds : List ℕ} → Wide c → Utf8 bs → ds ≡ c ++ bs → Utf8 ds

-- RFC 3629 section 3: the bytes of a character, by its number
unfoldable pub encode : ℕ → List ℕ
encode x =
    elim (ltb x 0x80) [
      | true ↦ x ∷ []
      | false ↦ elim (ltb x 0x800) [
        | true ↦ (0xC0 + x / 0x40) ∷ (0x80 + x % 0x40) ∷ []
        | false ↦ elim (ltb x 0x10000) [
          | true ↦ (0xE0 + x / 0x1000) ∷ (0x80 + x / 0x40 % 0x40) ∷ (0x80 + x % 0x40) ∷ []
          | false ↦ (0xF0 + x / 0x40000) ∷ (0x80 + x / 0x1000 % 0x40) ∷ (0x80 + x / 0x40 % 0x40) ∷ (0x80 + x % 0x40) ∷ []
        ]
      ]
    ]

-- the same grammar by first bytes: after the byte b one from lo to hi is due, and then n from 80 to BF
unfoldable pub wide_rows : {A : Type 0} → (ℕ → ℕ → ℕ → ℕ → A) → List (Row A)
wide_rows f =
    on 0xC2 0xDF (λ b. f b 0x80 0xBF 0)
    ∷ on 0xE0 0xE0 (λ b. f b 0xA0 0xBF 1)
    ∷ on 0xE1 0xEC (λ b. f b 0x80 0xBF 1)
    ∷ on 0xED 0xED (λ b. f b 0x80 0x9F 1)
    ∷ on 0xEE 0xEF (λ b. f b 0x80 0xBF 1)
    ∷ on 0xF0 0xF0 (λ b. f b 0x90 0xBF 2)
    ∷ on 0xF1 0xF3 (λ b. f b 0x80 0xBF 2)
    ∷ on 0xF4 0xF4 (λ b. f b 0x80 0x8F 2)
    ∷ []

-- between characters, or in one; or past a byte that no UTF-8 has there
pub data Due : Type 0 where
  start : Due
  due : ℕ → ℕ → ℕ → Due
  never : Due

unfoldable pub due_next : ℕ → Due
due_next zero = start
due_next (suc n) = due 0x80 0xBF n

unfoldable pub due_step : Due → ℕ → Due
due_step start b = pick b (on 0x00 0x7F (λ b. start) ∷ wide_rows (λ b lo hi n. due lo hi n)) never
due_step (due lo hi n) b = pick b (on lo hi (λ b. due_next n) ∷ []) never
due_step never b = never

unfoldable pub due_end : Due → Bool
due_end start = true
due_end (due lo hi n) = false
due_end never = false

unfoldable pub utf8_from : Due → List ℕ → Bool
utf8_from d [] = due_end d
utf8_from d (b ∷ bs) = utf8_from (due_step d b) bs

-- are these bytes UTF-8? Exactly those of `Utf8` are (`utf8-exactly`).
unfoldable pub utf8 : List ℕ → Bool
utf8 bs = utf8_from start bs
