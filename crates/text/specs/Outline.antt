-- The machine of crate json_text with its trees left out: a mode, whether a string is a name, and which brackets are open.
-- `proofs/` shows that it goes on and refuses at each byte as the machine does; the code is this outline.
use Rattle.std.specs.Prelude.{Err, Ok}
use Rattle.jer.specs.Answer.{Judged}
use Rattle.std.specs.Prelude.{ℕ, suc, ◌+◌, ◌-◌, ◌*◌, ◌/◌, ◌%◌, ◌^◌, ◌<◌, ◌≡◌, List, [], ◌∷◌, Bool, true, false, ◌&&◌, leb, eqb, get_or}
use Prim.Native.Char.{Char, code}
use Rattle.json_text.specs.Bytes.{Row, pick, In}
use Rattle.std.specs.Prelude.{Result, Ok, Err}
use Rattle.jer.specs.declared.Cause.{Cause}
use Rattle.jer.specs.declared.Cause.TheVariants.{NotJson, TooDeep}
use Rattle.jer.specs.declared.Refusal.TheVariants.{AtByte}
use Rattle.text.specs.Class.{to, at, class_of}

-- what a table holds for a character
pub record Entry (A : Type 0) : Type 0 where
  pub key : ℕ
  pub holds : A

abbrev pub entry : {A : Type 0} → Char → A → Entry A
entry c a = record { key = code c; holds = a }

unfoldable pub lookup : {A : Type 0} → ℕ → List (Entry A) → A → A
lookup k [] d = d
lookup k (e ∷ es) d = elim (eqb k e.key) [ true ↦ e.holds | false ↦ lookup k es d ]

-- ---- what each byte leads to: a mode, which is a character from 0 to Z, or an act, which is one of [ { ] } c n e _

abbrev pub IsMode : ℕ → Type 0
IsMode m = In (code "0") (code "Z") m

-- white space leads to the mode m, and other bytes as in rs; so for a digit, and for the e of an exponent
unfoldable pub space_to : Char → List (Row ℕ) → List (Row ℕ)
space_to m rs = at 0x20 m ∷ to 0x09 0x0A m ∷ at 0x0D m ∷ rs

unfoldable pub digit_to : Char → List (Row ℕ) → List (Row ℕ)
digit_to m rs = to 0x30 0x39 m ∷ rs

unfoldable pub power_to : List (Row ℕ) → List (Row ℕ)
power_to rs = at 0x45 "X" ∷ at 0x65 "X" ∷ rs

-- what may begin a value
unfoldable pub start_to : List (Row ℕ)
start_to = at 0x22 "T" ∷ at 0x2D "J" ∷ at 0x30 "Z" ∷ to 0x31 0x39 "W" ∷ at 0x5B "[" ∷ at 0x66 ":" ∷ at 0x6E "@" ∷ at 0x74 ">" ∷ at 0x7B "{" ∷ []

-- what may follow one
unfoldable pub after_to : List (Row ℕ)
after_to = space_to "A" (at 0x2C "c" ∷ at 0x5D "]" ∷ at 0x7D "}" ∷ [])

-- a hexadecimal digit
unfoldable pub hex_to : Char → List (Row ℕ)
hex_to m = to 0x30 0x39 m ∷ to 0x41 0x46 m ∷ to 0x61 0x66 m ∷ []

-- a character of more than one byte
unfoldable pub wide_to : List (Row ℕ)
wide_to = to 0xC2 0xDF "3" ∷ at 0xE0 "6" ∷ to 0xE1 0xEC "4" ∷ at 0xED "7" ∷ to 0xEE 0xEF "4" ∷ at 0xF0 "8" ∷ to 0xF1 0xF3 "5" ∷ at 0xF4 "9" ∷ []

-- the modes
unfoldable pub modes : List (Entry (List (Row ℕ)))
modes =
    -- a value is due; a value or ]; a value has ended; a name or }; a name; the colon
    entry "V" (space_to "V" start_to)
    ∷ entry "E" (space_to "E" (at 0x5D "]" ∷ start_to))
    ∷ entry "A" after_to
    ∷ entry "M" (space_to "M" (at 0x22 "n" ∷ at 0x7D "}" ∷ []))
    ∷ entry "N" (space_to "N" (at 0x22 "n" ∷ []))
    ∷ entry "C" (space_to "C" (at 0x3A "V" ∷ []))
    -- in a string: between characters; after a backslash, \u, \uD
    ∷ entry "T" (at 0x22 "e" ∷ at 0x5C "B" ∷ to 0x20 0x7F "T" ∷ wide_to)
    ∷ entry "B" (at 0x22 "T" ∷ at 0x2F "T" ∷ at 0x5C "T" ∷ at 0x62 "T" ∷ at 0x66 "T" ∷ at 0x6E "T" ∷ at 0x72 "T" ∷ at 0x74 "T" ∷ at 0x75 "U" ∷ [])
    ∷ entry "U" (at 0x44 "D" ∷ at 0x64 "D" ∷ hex_to "2")
    ∷ entry "D" (to 0x30 0x37 "1" ∷ to 0x38 0x39 "H" ∷ to 0x41 0x42 "H" ∷ to 0x61 0x62 "H" ∷ [])
    -- a digit, and then this many more; the last two digits of a high surrogate; \ u D and the digit after it
    ∷ entry "2" (hex_to "1")
    ∷ entry "1" (hex_to "0")
    ∷ entry "0" (hex_to "T")
    ∷ entry "H" (hex_to "I")
    ∷ entry "I" (hex_to "P")
    ∷ entry "P" (at 0x5C "Q" ∷ [])
    ∷ entry "Q" (at 0x75 "R" ∷ [])
    ∷ entry "R" (at 0x44 "S" ∷ at 0x64 "S" ∷ [])
    ∷ entry "S" (to 0x43 0x46 "1" ∷ to 0x63 0x66 "1" ∷ [])
    -- in a character of more than one byte: the last byte, the last two, the last three; after E0, ED, F0, F4
    ∷ entry "3" (to 0x80 0xBF "T" ∷ [])
    ∷ entry "4" (to 0x80 0xBF "3" ∷ [])
    ∷ entry "5" (to 0x80 0xBF "4" ∷ [])
    ∷ entry "6" (to 0xA0 0xBF "3" ∷ [])
    ∷ entry "7" (to 0x80 0x9F "3" ∷ [])
    ∷ entry "8" (to 0x90 0xBF "4" ∷ [])
    ∷ entry "9" (to 0x80 0x8F "4" ∷ [])
    -- in a number: after the minus sign, 0, digits, the point, its digits, e, the sign, its digits
    ∷ entry "J" (at 0x30 "Z" ∷ to 0x31 0x39 "W" ∷ [])
    ∷ entry "Z" (at 0x2E "G" ∷ power_to after_to)
    ∷ entry "W" (digit_to "W" (at 0x2E "G" ∷ power_to after_to))
    ∷ entry "G" (digit_to "F" [])
    ∷ entry "F" (digit_to "F" (power_to after_to))
    ∷ entry "X" (digit_to "K" (at 0x2B "Y" ∷ at 0x2D "Y" ∷ []))
    ∷ entry "Y" (digit_to "K" [])
    ∷ entry "K" (digit_to "K" after_to)
    -- in a literal, whose rest is alse, lse, se, e; rue, ue; ull, ll, l
    ∷ entry ":" (at 0x61 ";" ∷ [])
    ∷ entry ";" (at 0x6C "<" ∷ [])
    ∷ entry "<" (at 0x73 "=" ∷ [])
    ∷ entry "=" (at 0x65 "A" ∷ [])
    ∷ entry ">" (at 0x72 "?" ∷ [])
    ∷ entry "?" (at 0x75 "=" ∷ [])
    ∷ entry "@" (at 0x75 "L" ∷ [])
    ∷ entry "L" (at 0x6C "O" ∷ [])
    ∷ entry "O" (at 0x6C "A" ∷ [])
    ∷ []

unfoldable pub rows_of : ℕ → List (Row ℕ)
unfolding lookup modes space_to start_to after_to hex_to digit_to power_to wide_to
rows_of m = lookup m modes []

-- what the byte b leads to in the mode m
unfoldable pub act_of : ℕ → ℕ → ℕ
unfolding rows_of
act_of m b = pick b (rows_of m) (code "_")

-- a table of it, with a row for each mode and a column for each class
abbrev pub IsActs : List (List ℕ) → Type 0
IsActs l = (m b : ℕ) → IsMode m → b < 256 → get_or (get_or l (m - 48) []) (class_of b - 48) 0 ≡ act_of m b

-- ---- a step

-- where the check of a text stands: a mode; is the string that is being read a name? and the open brackets, a number that is 1 if there are
-- none, and for each of them twice the number before, and one more if it is an object's
pub record Stand : Type 0 where
  pub mode : ℕ
  pub name : Bool
  pub brackets : ℕ

-- what a byte leads to: no JSON text has it there, or it is a 33rd open bracket
abbrev pub Turn : Type 0
Turn = Result Stand Cause

abbrev pub goes : ℕ → Bool → ℕ → Turn
goes m n k = Ok (record { mode = m; name = n; brackets = k })

-- 01, Refusal numbers, 4: "a 33rd open bracket": are 32 open?
unfoldable pub opening : Bool → ℕ → ℕ → Turn
opening true m k = Err TooDeep
opening false m k = goes m false k

unfoldable pub opens : ℕ → ℕ → ℕ → Turn
opens m kind k = opening (leb (2 ^ 32) k) m (k * 2 + kind)

-- is none open? is the last one of this kind?
unfoldable pub closing : Bool → Bool → ℕ → Turn
closing true t k = Err NotJson
closing false true k = goes (code "A") false k
closing false false k = Err NotJson

unfoldable pub closes : ℕ → ℕ → Turn
closes kind k = closing (eqb k 1) (eqb (k % 2) kind) (k / 2)

-- after a comma a value of an array is due, or a name of an object: is none open? is the last one an array's?
unfoldable pub parted : Bool → Bool → ℕ → Turn
parted true t k = Err NotJson
parted false true k = goes (code "V") false k
parted false false k = goes (code "N") false k

unfoldable pub comma : ℕ → Turn
comma k = parted (eqb k 1) (eqb (k % 2) 0) k

-- the end of a string: of a name?
unfoldable pub quoted : Bool → ℕ → Turn
quoted true k = goes (code "C") false k
quoted false k = goes (code "A") false k

-- what an act does
unfoldable pub does : ℕ → Bool → ℕ → Turn
does a n k =
    lookup a
    (entry "[" (opens (code "E") 0 k)
    ∷ entry "{" (opens (code "M") 1 k)
    ∷ entry "]" (closes 0 k)
    ∷ entry "}" (closes 1 k)
    ∷ entry "c" (comma k)
    ∷ entry "n" (goes (code "T") true k)
    ∷ entry "e" (quoted n k)
    ∷ [])
    (Err NotJson)

-- where a mode or an act leads from s
unfoldable pub leads : ℕ → Stand → Turn
unfolding does
leads a s = elim (leb a (code "Z")) [ true ↦ goes a s.name s.brackets | false ↦ does a s.name s.brackets ]

unfoldable pub step_of : Stand → ℕ → Turn
step_of s b = leads (act_of s.mode b) s

-- ---- a text

-- a value is due, and nothing is open
abbrev pub begin : Stand
begin = record { mode = code "V"; name = false; brackets = 1 }

-- A text may end where a blank would follow its value, and nothing is open.
unfoldable pub whole : Stand → Bool
whole s = eqb (act_of s.mode 0x20) (code "A") && eqb s.brackets 1

-- 01, Refusal numbers, 3: "the length if it ends early"
unfoldable pub judged_end : Bool → ℕ → Judged
judged_end true p = Ok tt
judged_end false p = Err (AtByte NotJson p)

-- the bytes from the place p on
unfoldable pub judged_from : ℕ → Stand → List ℕ → Judged
judged_from p s [] = judged_end (whole s) p
judged_from p s (b ∷ bs) =
    elim (step_of s b) [
      | Ok u ↦ judged_from (suc p) u bs
      | Err e ↦ Err (AtByte e p)
    ]
