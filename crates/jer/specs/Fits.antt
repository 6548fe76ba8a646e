-- Well-formed values: those that a value table can hold for a type, with at most d brackets open at one time.
use Rattle.std.specs.Prelude.{ℕ, suc, ◌<◌, ◌^◌, ◌≡◌, List, [], ◌∷◌, Bool, true, false}
use Rattle.json_text.specs.Utf8.{utf8}
use Rattle.jer.specs.Table.{Table, BOOLEAN, INTEGER, ENUMERATED, NULL, OCTET-STRING, UTF8String, SEQUENCE, SEQUENCE-OF, CHOICE, kind_of, is_unwrapped, element_of, count_of, type_at, may_be_absent}
use Rattle.jer.specs.Value.{Leaf, l_bool, l_int, l_enum, l_null, l_bytes, Val, v_leaf, v_seq, v_list, v_choice, Vals, vnil, vcons, Parts, pnil, absent, present}

-- bytes are numbers below 256
pub data Octets : List ℕ → Type 0 where
  no_octets : Octets []
  octet : {b : ℕ} {s : List ℕ} → b < 256 → Octets s → Octets (b ∷ s)

-- and rows are numbers below 2^32
pub data Words : List ℕ → Type 0 where
  no_word : Words []
  word : {n : ℕ} {ns : List ℕ} → n < 2 ^ 32 → Words ns → Words (n ∷ ns)

pub data FitsLeaf (t : Table) (r : ℕ) : Leaf → Type 0 where
  f_bool : {b : Bool} → kind_of t r ≡ BOOLEAN → FitsLeaf t r (l_bool b)
  f_int : {n : ℕ} → kind_of t r ≡ INTEGER → n < 2 ^ 64 → FitsLeaf t r (l_int n)
  f_enum : {i : ℕ} → kind_of t r ≡ ENUMERATED → i < count_of t r → FitsLeaf t r (l_enum i)
  f_null : kind_of t r ≡ NULL → FitsLeaf t r l_null
  f_octets : {s : List ℕ} → kind_of t r ≡ OCTET-STRING → Octets s → FitsLeaf t r (l_bytes s)
  f_text : {s : List ℕ} → kind_of t r ≡ UTF8String → utf8 s ≡ true → FitsLeaf t r (l_bytes s)

mutual
  pub data Fits (t : Table) : ℕ → ℕ → Val → Type 0 where
    f_leaf : {d r : ℕ} {l : Leaf} → FitsLeaf t r l → Fits t d r (v_leaf l)
    f_seq : {d r : ℕ} {ps : Parts} → kind_of t r ≡ SEQUENCE → FitsParts t d r 0 ps → Fits t (suc d) r (v_seq ps)
    f_list : {d r : ℕ} {vs : Vals} → kind_of t r ≡ SEQUENCE-OF → FitsItems t d (element_of t r) vs → Fits t (suc d) r (v_list vs)
    -- a wrapped choice is an object; an UNWRAPPED one opens no bracket
    f_wrapped : {d r i : ℕ} {v : Val} → kind_of t r ≡ CHOICE → is_unwrapped t r ≡ false → i < count_of t r → Fits t d (type_at t r i) v → Fits t (suc d) r (v_choice i v)
    f_unwrapped : {d r i : ℕ} {v : Val} → is_unwrapped t r ≡ true → i < count_of t r → Fits t d (type_at t r i) v → Fits t d r (v_choice i v)

  pub data FitsItems (t : Table) : ℕ → ℕ → Vals → Type 0 where
    no_item : {d r : ℕ} → FitsItems t d r vnil
    item : {d r : ℕ} {v : Val} {vs : Vals} → Fits t d r v → FitsItems t d r vs → FitsItems t d r (vcons v vs)

  -- the members from the position i on
  pub data FitsParts (t : Table) : ℕ → ℕ → ℕ → Parts → Type 0 where
    no_member : {d r i : ℕ} → i ≡ count_of t r → FitsParts t d r i pnil
    absent_member : {d r i : ℕ} {ps : Parts} → i < count_of t r → may_be_absent t r i ≡ true → FitsParts t d r (suc i) ps → FitsParts t d r i (absent ps)
    present_member : {d r i : ℕ} {v : Val} {ps : Parts} → i < count_of t r → Fits t d (type_at t r i) v → FitsParts t d r (suc i) ps → FitsParts t d r i (present v ps)
