-- Values. Two texts say the same if and only if their values are equal; rows and texts are functions of the value and its type.
use Rattle.std.specs.Prelude.{ℕ, suc, List, Bool}

-- values without parts
pub data Leaf : Type 0 where
  l_bool : Bool → Leaf
  -- the 64-bit two's complement
  l_int : ℕ → Leaf
  -- an item's position
  l_enum : ℕ → Leaf
  l_null : Leaf
  -- the bytes of an OCTET STRING or UTF8String
  l_bytes : List ℕ → Leaf

-- a value of each kind, with its parts
mutual
  pub data Val : Type 0 where
    v_leaf : Leaf → Val
    v_seq : Parts → Val
    v_list : Vals → Val
    -- an alternative's position, and the chosen value
    v_choice : ℕ → Val → Val

  -- the items of a SEQUENCE OF
  pub data Vals : Type 0 where
    vnil : Vals
    vcons : Val → Vals → Vals

  -- the members of a SEQUENCE in table order
  pub data Parts : Type 0 where
    pnil : Parts
    absent : Parts → Parts
    present : Val → Parts → Parts

abbrev pub v_bool : Bool → Val
v_bool b = v_leaf (l_bool b)

abbrev pub v_int : ℕ → Val
v_int n = v_leaf (l_int n)

abbrev pub v_enum : ℕ → Val
v_enum i = v_leaf (l_enum i)

abbrev pub v_null : Val
v_null = v_leaf l_null

abbrev pub v_bytes : List ℕ → Val
v_bytes s = v_leaf (l_bytes s)

-- how many items, and how many members are present
unfoldable pub count_vals : Vals → ℕ
count_vals vnil = 0
count_vals (vcons v vs) = suc (count_vals vs)

unfoldable pub count_present : Parts → ℕ
count_present pnil = 0
count_present (absent ps) = count_present ps
count_present (present v ps) = suc (count_present ps)
