-- The grammar of JSON (ECMA-404), with the tree and the places that a text has.
-- Each relation ends in the bytes that it speaks of; an equation `bs ≡ ..` says how they are put together.
use Rattle.std.specs.Prelude.{ℕ, suc, ◌+◌, ◌-◌, ◌*◌, ◌≤◌, ◌<◌, ◌≡◌, List, [], ◌∷◌, ◌++◌, Bool, true, false, length, take}
use Rattle.json_text.specs.Bytes.{In, past}
use Rattle.json_text.specs.Tree.{Json, jnull, jbool, jint, jreal, jstr, jarr, jobj, Items, inil, icons, Members, mnil, mcons}
use Rattle.json_text.specs.Utf8.{Wide, encode}

-- ECMA-404 section 4: white space is U+0009, U+000A, U+000D and U+0020.
pub data Space : List ℕ → Type 0 where
  no_space : Space []
  tab : {bs : List ℕ} → Space bs → Space (0x09 ∷ bs)
  feed : {bs : List ℕ} → Space bs → Space (0x0A ∷ bs)
  return : {bs : List ℕ} → Space bs → Space (0x0D ∷ bs)
  blank : {bs : List ℕ} → Space bs → Space (0x20 ∷ bs)

-- ---- strings, ECMA-404 section 9

-- a hexadecimal digit of the value x
pub data Hex : ℕ → ℕ → Type 0 where
  digit : {b x : ℕ} → In 0x30 0x39 b → x ≡ b - 0x30 → Hex x b
  upper : {b x : ℕ} → In 0x41 0x46 b → x ≡ b - 0x37 → Hex x b
  lower : {b x : ℕ} → In 0x61 0x66 b → x ≡ b - 0x57 → Hex x b

-- four hexadecimal digits of the value x
pub data Four : ℕ → List ℕ → Type 0 where
  four : {x i j k l a b c d : ℕ} → Hex i a → Hex j b → Hex k c → Hex l d → x ≡ ((i * 16 + j) * 16 + k) * 16 + l → Four x (a ∷ b ∷ c ∷ d ∷ [])

-- the letter after a backslash, and the character
pub data Escape : ℕ → ℕ → Type 0 where
  quote : Escape 0x22 0x22
  backslash : Escape 0x5C 0x5C
  slash : Escape 0x2F 0x2F
  backspace : Escape 0x08 0x62
  form_feed : Escape 0x0C 0x66
  line_feed : Escape 0x0A 0x6E
  carriage_return : Escape 0x0D 0x72
  tabulation : Escape 0x09 0x74

-- the character of a surrogate pair
unfoldable pub paired : ℕ → ℕ → ℕ
paired h l = 0x10000 + (h - 0xD800) * 0x400 + (l - 0xDC00)

-- the UTF-8 of a character, and the bytes that spell it
-- 01, Reading: "any escape may be used (27.3.3 note). Lone surrogates are not JSON here."
pub data Char : List ℕ → List ℕ → Type 0 where
  plain : {b : ℕ} → In 0x20 0x7F b → (b ≡ 0x22 → ⊥) → (b ≡ 0x5C → ⊥) → Char (b ∷ []) (b ∷ [])
  wide : {c : List ℕ} → Wide c → Char c c
  escape : {c b : ℕ} → Escape c b → Char (c ∷ []) (0x5C ∷ b ∷ [])
  unit : {x : ℕ} {bs : List ℕ} → Four x bs → (In 0xD800 0xDFFF x → ⊥) → {c : List ℕ} → c ≡ encode x → Char c (0x5C ∷ 0x75 ∷ bs)
  pair : {h l : ℕ} {bs cs ds : List ℕ} → Four h bs → In 0xD800 0xDBFF h → Four l cs → In 0xDC00 0xDFFF l
      → {c : List ℕ} → c ≡ encode (paired h l) → ds ≡ bs ++ (0x5C ∷ 0x75 ∷ cs) → Char c (0x5C ∷ 0x75 ∷ ds)

pub data Chars : List ℕ → List ℕ → Type 0 where
  no_char : Chars [] []
  char : {c s u bs cs ds : List ℕ} → Char c bs → Chars s cs → u ≡ c ++ s → ds ≡ bs ++ cs → Chars u ds

-- a string with its quotation marks
pub data Quoted : List ℕ → List ℕ → Type 0 where
  quoted : {s bs cs : List ℕ} → Chars s bs → cs ≡ bs ++ (0x22 ∷ []) → Quoted s (0x22 ∷ cs)

-- ---- numbers, ECMA-404 section 8

-- one digit or more
pub data Digits : List ℕ → Type 0 where
  last_digit : {b : ℕ} → In 0x30 0x39 b → Digits (b ∷ [])
  more_digits : {b : ℕ} {bs : List ℕ} → In 0x30 0x39 b → Digits bs → Digits (b ∷ bs)

-- digits after a number m give the number n
pub data Onward : ℕ → ℕ → List ℕ → Type 0 where
  stop : {m : ℕ} → Onward m m []
  onward : {m n b : ℕ} {bs : List ℕ} → In 0x30 0x39 b → Onward (m * 10 + (b - 0x30)) n bs → Onward m n (b ∷ bs)

-- a whole number: 0, or digits of which the first is none
pub data Whole : ℕ → List ℕ → Type 0 where
  nought : Whole 0 (0x30 ∷ [])
  from : {n b : ℕ} {bs : List ℕ} → In 0x31 0x39 b → Onward (b - 0x30) n bs → Whole n (b ∷ bs)

-- with its minus sign or not
pub data Signed : Bool → ℕ → List ℕ → Type 0 where
  bare : {n : ℕ} {bs : List ℕ} → Whole n bs → Signed false n bs
  minus : {n : ℕ} {bs : List ℕ} → Whole n bs → Signed true n (0x2D ∷ bs)

-- an exponent
pub data Power : List ℕ → Type 0 where
  small : {bs : List ℕ} → Digits bs → Power (0x65 ∷ bs)
  small_plus : {bs : List ℕ} → Digits bs → Power (0x65 ∷ 0x2B ∷ bs)
  small_minus : {bs : List ℕ} → Digits bs → Power (0x65 ∷ 0x2D ∷ bs)
  large : {bs : List ℕ} → Digits bs → Power (0x45 ∷ bs)
  large_plus : {bs : List ℕ} → Digits bs → Power (0x45 ∷ 0x2B ∷ bs)
  large_minus : {bs : List ℕ} → Digits bs → Power (0x45 ∷ 0x2D ∷ bs)

-- a fraction, an exponent, or both
pub data Broken : List ℕ → Type 0 where
  fraction : {bs : List ℕ} → Digits bs → Broken (0x2E ∷ bs)
  power : {bs : List ℕ} → Power bs → Broken bs
  both : {bs cs ds : List ℕ} → Digits bs → Power cs → ds ≡ bs ++ cs → Broken (0x2E ∷ ds)

-- ---- values, ECMA-404 sections 5 to 7

-- A value at the place p with at most d brackets open at one time, and its tree.
mutual
  pub data Value : ℕ → ℕ → Json → List ℕ → Type 0 where
    literal_null : {d p : ℕ} → Value d p (jnull p) (0x6E ∷ 0x75 ∷ 0x6C ∷ 0x6C ∷ [])
    literal_true : {d p : ℕ} → Value d p (jbool p true) (0x74 ∷ 0x72 ∷ 0x75 ∷ 0x65 ∷ [])
    literal_false : {d p : ℕ} → Value d p (jbool p false) (0x66 ∷ 0x61 ∷ 0x6C ∷ 0x73 ∷ 0x65 ∷ [])
    whole : {d p n : ℕ} {m : Bool} {bs : List ℕ} → Signed m n bs → Value d p (jint p m n) bs
    real : {d p n : ℕ} {m : Bool} {bs cs ds : List ℕ} → Signed m n bs → Broken cs → ds ≡ bs ++ cs → Value d p (jreal p) ds
    string : {d p : ℕ} {s bs : List ℕ} → Quoted s bs → Value d p (jstr p s) bs
    no_elements : {d p : ℕ} {xs bs : List ℕ} → Space xs → bs ≡ xs ++ (0x5D ∷ []) → Value (suc d) p (jarr p inil) (0x5B ∷ bs)
    elements : {d p : ℕ} {is : Items} {bs : List ℕ} → Elements d (suc p) is bs → Value (suc d) p (jarr p is) (0x5B ∷ bs)
    no_members : {d p : ℕ} {xs bs : List ℕ} → Space xs → bs ≡ xs ++ (0x7D ∷ []) → Value (suc d) p (jobj p mnil) (0x7B ∷ bs)
    members : {d p : ℕ} {ms : Members} {bs : List ℕ} → Named d (suc p) ms bs → Value (suc d) p (jobj p ms) (0x7B ∷ bs)

  -- a value with white space around it
  pub data Padded : ℕ → ℕ → Json → List ℕ → Type 0 where
    padded : {d p q : ℕ} {j : Json} {xs ys zs bs : List ℕ} → Space xs → q ≡ past p xs → Value d q j ys → Space zs → bs ≡ xs ++ (ys ++ zs) → Padded d p j bs

  -- elements with commas between them, and the closing bracket
  pub data Elements : ℕ → ℕ → Items → List ℕ → Type 0 where
    last_element : {d p : ℕ} {j : Json} {xs bs : List ℕ} → Padded d p j xs → bs ≡ xs ++ (0x5D ∷ []) → Elements d p (icons j inil) bs
    more_elements : {d p q : ℕ} {j : Json} {is : Items} {xs ys bs : List ℕ} → Padded d p j xs → q ≡ suc (past p xs) → Elements d q is ys → bs ≡ xs ++ (0x2C ∷ ys) → Elements d p (icons j is) bs

  -- members with commas between them, and the closing bracket
  pub data Named : ℕ → ℕ → Members → List ℕ → Type 0 where
    last_member : {d p q r : ℕ} {s : List ℕ} {j : Json} {xs ys bs : List ℕ} → Name p q r s xs → Padded d r j ys → bs ≡ xs ++ (ys ++ (0x7D ∷ [])) → Named d p (mcons q s j mnil) bs
    more_members : {d p q r o : ℕ} {s : List ℕ} {j : Json} {ms : Members} {xs ys zs bs : List ℕ} → Name p q r s xs → Padded d r j ys → o ≡ suc (past r ys) → Named d o ms zs
        → bs ≡ xs ++ (ys ++ (0x2C ∷ zs)) → Named d p (mcons q s j ms) bs

  -- a name at q with white space around it and its colon, from p up to r
  pub data Name : ℕ → ℕ → ℕ → List ℕ → List ℕ → Type 0 where
    name : {p q r : ℕ} {s xs ys zs bs : List ℕ} → Space xs → q ≡ past p xs → Quoted s ys → Space zs → bs ≡ xs ++ (ys ++ (zs ++ (0x3A ∷ []))) → r ≡ past p bs → Name p q r s bs

-- ECMA-404 section 4: a JSON text is a value with white space around it; here with at most d brackets open at one time.
abbrev pub Text : ℕ → Json → List ℕ → Type 0
Text d j bs = Padded d 0 j bs

-- a JSON text of at most d open brackets begins with these bytes
pub record Begins (d : ℕ) (bs : List ℕ) : Type 0 where
  pub rest : List ℕ
  pub tree : Json
  pub text : Text d tree (bs ++ rest)

-- 01, Refusal numbers, 3: "not JSON | first byte after which no JSON text can begin so; the length if it ends early"
-- Before p a text of at most d open brackets can begin so; with the byte at p none can, however many brackets it opens.
pub record NotJsonAt (d : ℕ) (bs : List ℕ) (p : ℕ) : Type 0 where
  pub inside : p ≤ length bs
  pub before : Begins d (take p bs)
  pub never : (n : ℕ) → p < length bs → Begins n (take (suc p) bs) → ⊥
  pub short : (n : ℕ) (j : Json) → p ≡ length bs → Text n j bs → ⊥

-- 01, Refusal numbers, 4: "a 33rd open bracket | its place"
-- With the byte at p a text can begin so only if one bracket more may be open.
pub record TooDeepAt (d : ℕ) (bs : List ℕ) (p : ℕ) : Type 0 where
  pub inside : p < length bs
  pub before : Begins d (take p bs)
  pub never : Begins d (take (suc p) bs) → ⊥
  pub deeper : Begins (suc d) (take (suc p) bs)
