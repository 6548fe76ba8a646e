-- Trees that differ only in places, and the tokens of trees.
use Rattle.jer.specs.declared.Token.{Token}
use Rattle.jer.specs.declared.Token.TheVariants as tok
use Rattle.std.specs.Prelude.{ℕ, List, Bool}
use Rattle.json_text.specs.Tree.{Json, jnull, jbool, jint, jreal, jstr, jarr, jobj, Items, inil, icons, Members, mnil, mcons}

-- Other white space and other escapes leave a tree as it is but for its places: the same tokens, names and strings in the same order.
mutual
  pub data Moved : Json → Json → Type 0 where
    null : {p q : ℕ} → Moved (jnull p) (jnull q)
    boolean : {p q : ℕ} {b : Bool} → Moved (jbool p b) (jbool q b)
    number : {p q n : ℕ} {m : Bool} → Moved (jint p m n) (jint q m n)
    real : {p q : ℕ} → Moved (jreal p) (jreal q)
    string : {p q : ℕ} {s : List ℕ} → Moved (jstr p s) (jstr q s)
    array : {p q : ℕ} {is js : Items} → MovedItems is js → Moved (jarr p is) (jarr q js)
    object : {p q : ℕ} {ms ns : Members} → MovedMembers ms ns → Moved (jobj p ms) (jobj q ns)

  pub data MovedItems : Items → Items → Type 0 where
    no_item : MovedItems inil inil
    item : {j k : Json} {is js : Items} → Moved j k → MovedItems is js → MovedItems (icons j is) (icons k js)

  pub data MovedMembers : Members → Members → Type 0 where
    no_member : MovedMembers mnil mnil
    member : {p q : ℕ} {s : List ℕ} {j k : Json} {ms ns : Members} → Moved j k → MovedMembers ms ns → MovedMembers (mcons p s j ms) (mcons q s k ns)

-- the token that a tree begins with
unfoldable pub token_in : Json → Token
token_in (jnull p) = tok.Null
token_in (jbool p b) = tok.Boolean
token_in (jint p m n) = tok.Number
token_in (jreal p) = tok.Number
token_in (jstr p s) = tok.String
token_in (jarr p is) = tok.Array
token_in (jobj p ms) = tok.Object
