-- A JSON value as a tree, with the places that refusals name.
-- 01, Refusal numbers: "Places count bytes from 0."
use Rattle.std.specs.Prelude.{ℕ, List, Bool}

-- Every value has its place first: its quotation mark, minus sign, digit, letter or opening bracket.
-- A number without fraction or exponent has its minus sign and magnitude; of others the typed reading needs no more than that.
-- A string is the UTF-8 of the characters that it denotes, however they were spelled.
mutual
  pub data Json : Type 0 where
    jnull : ℕ → Json
    jbool : ℕ → Bool → Json
    jint : ℕ → Bool → ℕ → Json
    jreal : ℕ → Json
    jstr : ℕ → List ℕ → Json
    jarr : ℕ → Items → Json
    jobj : ℕ → Members → Json

  -- the elements of an array
  pub data Items : Type 0 where
    inil : Items
    icons : Json → Items → Items

  -- the members of an object: the name's place, the name, the value
  pub data Members : Type 0 where
    mnil : Members
    mcons : ℕ → List ℕ → Json → Members → Members

unfoldable pub place_of : Json → ℕ
place_of (jnull p) = p
place_of (jbool p b) = p
place_of (jint p m n) = p
place_of (jreal p) = p
place_of (jstr p s) = p
place_of (jarr p is) = p
place_of (jobj p ms) = p

-- one more at the end
unfoldable pub isnoc : Items → Json → Items
isnoc inil j = icons j inil
isnoc (icons i is) j = icons i (isnoc is j)

unfoldable pub msnoc : Members → ℕ → List ℕ → Json → Members
msnoc mnil p s j = mcons p s j mnil
msnoc (mcons q u i ms) p s j = mcons q u i (msnoc ms p s j)
