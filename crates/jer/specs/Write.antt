-- The one text of a value.
use Rattle.std.specs.Prelude.{ℕ, zero, suc, ◌+◌, ◌-◌, ◌/◌, ◌%◌, ◌^◌, List, [], ◌∷◌, ◌++◌, Bool, true, false, ltb, eqb}
use Rattle.json_text.specs.Bytes.{on, pick}
use Rattle.jer.specs.Table.{Table, UTF8String, kind_of, is_base64, is_array, is_unwrapped, element_of, type_at, name_at, same_bytes}
use Rattle.jer.specs.Value.{Leaf, l_bool, l_int, l_enum, l_null, l_bytes, Val, v_leaf, v_seq, v_list, v_choice, Vals, vnil, vcons, Parts, pnil, absent, present}
use Rattle.jer.specs.Octets.{hex_digit, hex, base64}

-- ---- leaves

unfoldable pub null_text : List ℕ
null_text = 0x6E ∷ 0x75 ∷ 0x6C ∷ 0x6C ∷ []

unfoldable pub bool_text : Bool → List ℕ
bool_text true = 0x74 ∷ 0x72 ∷ 0x75 ∷ 0x65 ∷ []
bool_text false = 0x66 ∷ 0x61 ∷ 0x6C ∷ 0x73 ∷ 0x65 ∷ []

-- the decimal digits of n before ds; f digits are enough
unfoldable pub digits : ℕ → ℕ → List ℕ → List ℕ
digits zero n ds = ds
digits (suc f) n ds = elim (ltb n 10) [ true ↦ (0x30 + n) ∷ ds | false ↦ digits f (n / 10) ((0x30 + n % 10) ∷ ds) ]

-- 01, Writing: "zero as 0"
unfoldable pub int_text : ℕ → List ℕ
int_text n = elim (ltb n (2 ^ 63)) [ true ↦ digits 20 n [] | false ↦ 0x2D ∷ digits 20 (2 ^ 64 - n) [] ]

-- "Escapes only \" \\ \b \t \n \f \r, and \u00 with two upper-case digits for the rest of U+0000 to U+001F."
unfoldable pub escaped : ℕ → List ℕ
escaped b =
    pick b
    (on 0x22 0x22 (λ b. 0x5C ∷ 0x22 ∷ [])
    ∷ on 0x5C 0x5C (λ b. 0x5C ∷ 0x5C ∷ [])
    ∷ on 0x08 0x08 (λ b. 0x5C ∷ 0x62 ∷ [])
    ∷ on 0x09 0x09 (λ b. 0x5C ∷ 0x74 ∷ [])
    ∷ on 0x0A 0x0A (λ b. 0x5C ∷ 0x6E ∷ [])
    ∷ on 0x0C 0x0C (λ b. 0x5C ∷ 0x66 ∷ [])
    ∷ on 0x0D 0x0D (λ b. 0x5C ∷ 0x72 ∷ [])
    ∷ on 0x00 0x1F (λ b. 0x5C ∷ 0x75 ∷ 0x30 ∷ 0x30 ∷ hex_digit (b / 16) ∷ hex_digit (b % 16) ∷ [])
    ∷ [])
    (b ∷ [])

unfoldable pub escapes : List ℕ → List ℕ
escapes [] = []
escapes (b ∷ s) = escaped b ++ escapes s

unfoldable pub quotes : List ℕ → List ℕ
quotes s = 0x22 ∷ (s ++ (0x22 ∷ []))

unfoldable pub string_text : List ℕ → List ℕ
string_text s = quotes (escapes s)

-- a UTF8String, or octets
unfoldable pub bytes_text : Table → ℕ → List ℕ → List ℕ
bytes_text t r s =
    elim (eqb (kind_of t r) UTF8String) [
      | true ↦ string_text s
      | false ↦ elim (is_base64 t r) [ true ↦ quotes (base64 s) | false ↦ quotes (hex s) ]
    ]

-- ---- lists of texts

-- with commas between: "No white space"
unfoldable pub joined : List (List ℕ) → List ℕ
joined [] = []
joined (x ∷ []) = x
joined (x ∷ y ∷ xs) = x ++ (0x2C ∷ joined (y ∷ xs))

-- "and all nulls at the end dropped": a text before those that are left
unfoldable pub keep : List ℕ → List (List ℕ) → List (List ℕ)
keep x [] = elim (same_bytes x null_text) [ true ↦ [] | false ↦ x ∷ [] ]
keep x (y ∷ ys) = x ∷ y ∷ ys

unfoldable pub drop_nulls : List (List ℕ) → List (List ℕ)
drop_nulls [] = []
drop_nulls (x ∷ xs) = keep x (drop_nulls xs)

unfoldable pub brackets : List (List ℕ) → List ℕ
brackets xs = 0x5B ∷ (joined xs ++ (0x5D ∷ []))

unfoldable pub braces : List (List ℕ) → List ℕ
braces xs = 0x7B ∷ (joined xs ++ (0x7D ∷ []))

unfoldable pub member_text : List ℕ → List ℕ → List ℕ
member_text name value = string_text name ++ (0x3A ∷ value)

unfoldable pub choice_text : Table → ℕ → ℕ → List ℕ → List ℕ
choice_text t r i value = elim (is_unwrapped t r) [ true ↦ value | false ↦ braces (member_text (name_at t r i) value ∷ []) ]

unfoldable pub sequence_text : Table → ℕ → List (List ℕ) → List (List ℕ) → List ℕ
sequence_text t r es ms = elim (is_array t r) [ true ↦ brackets (drop_nulls es) | false ↦ braces ms ]

-- ---- a value of the type at r

abbrev pub leaf_text : Leaf → Table → ℕ → List ℕ
leaf_text (l_bool b) t r = bool_text b
leaf_text (l_int n) t r = int_text n
leaf_text (l_enum i) t r = string_text (name_at t r i)
leaf_text l_null t r = null_text
leaf_text (l_bytes s) t r = bytes_text t r s

unfoldable mutual
  pub write : Val → Table → ℕ → List ℕ
  write (v_leaf l) t r = leaf_text l t r
  write (v_seq ps) t r = sequence_text t r (element_texts ps t r 0) (member_texts ps t r 0)
  write (v_list vs) t r = brackets (item_texts vs t (element_of t r))
  write (v_choice i v) t r = choice_text t r i (write v t (type_at t r i))

  pub item_texts : Vals → Table → ℕ → List (List ℕ)
  item_texts vnil t r = []
  item_texts (vcons v vs) t r = write v t r ∷ item_texts vs t r

  -- the members from the position i on, as elements of an array: "in an ARRAY, null for absent"
  pub element_texts : Parts → Table → ℕ → ℕ → List (List ℕ)
  element_texts pnil t r i = []
  element_texts (absent ps) t r i = null_text ∷ element_texts ps t r (suc i)
  element_texts (present v ps) t r i = write v t (type_at t r i) ∷ element_texts ps t r (suc i)

  -- and as members of an object: "members in table order, absent members left out"
  pub member_texts : Parts → Table → ℕ → ℕ → List (List ℕ)
  member_texts pnil t r i = []
  member_texts (absent ps) t r i = member_texts ps t r (suc i)
  member_texts (present v ps) t r i = member_text (name_at t r i) (write v t (type_at t r i)) ∷ member_texts ps t r (suc i)
