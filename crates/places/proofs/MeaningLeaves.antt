-- Leaves: null, booleans, numbers and strings are read as the typed reading of their trees says.
use Prim.Native.Nat.{ℕ, zero, suc, ◌^◌}
use mathlib.Core.Path.{◌≡◌, refl}
use mathlib.Core.List.{List, ◌++◌}
use mathlib.Core.Bool.{Bool, true, false}
use native.Mathlib.Numerals.{add-one}
use lib.Dec.{ltb, leb}
use lib.ListN.{drop}
use Rattle.json_text.specs.Bytes.{past}
use Rattle.json_text.specs.Tree.{Json, jnull, jbool, jint, jreal, jstr, jarr, jobj, place_of}
use Rattle.json_text.specs.Grammar as grammar
use Rattle.json_text.specs.Grammar.{Value}
use Rattle.jer.specs.declared.Cause.TheVariants.{BadNumber}
use Rattle.jer.specs.Table.{Table, BOOLEAN, INTEGER, NULL}
use Rattle.jer.specs.Value.{v_bool, v_null}
use Rattle.jer.specs.Answer.{ok, at}
use Rattle.jer.specs.Read.{Meaning, read_int, read_string, at_kind, unwrapping, read_array, read_braces, read, elements, entries}
use Rattle.tokens.specs.Skip.{past_word}
use Rattle.tokens.specs.Numbers.{complement}
use Rattle.tokens.proofs.TiePlace.{byte_here}
use Rattle.tokens.proofs.TieSpace.{EndsHere}
use Rattle.tokens.proofs.TieString.{quoted-read}
use Rattle.tokens.proofs.TieNumber.{integer_complement, real-none}
use Rattle.places.specs.ByPlaces.{ending, integer_read, leaf_at}
use Rattle.places.proofs.MeaningStands.{Stands}
use Rattle.places.proofs.MeaningFirst.{token_for, is_word, word_end}

-- ---- what a tree means at a type that is not UNWRAPPED

abbrev pub plain_of : Json → Table → Meaning
plain_of (jnull p) t r = at_kind t r NULL p (ok v_null)
plain_of (jbool p b) t r = at_kind t r BOOLEAN p (ok (v_bool b))
plain_of (jint p m n) t r = at_kind t r INTEGER p (read_int p m n)
plain_of (jreal p) t r = at_kind t r INTEGER p (at BadNumber p)
plain_of (jstr p s) t r = read_string t p s r
plain_of (jarr p is) t r = read_array t p (elements is t) r
plain_of (jobj p ms) t r = read_braces t p (entries ms t) r

pub read_unwraps : (j : Json) (t : Table) (r : ℕ) → read j t r ≡ unwrapping t (token_for j) (place_of j) (λ q. plain_of j t q) r
unfolding read place_of
read_unwraps (jnull p) t r = refl
read_unwraps (jbool p b) t r = refl
read_unwraps (jint p m n) t r = refl
read_unwraps (jreal p) t r = refl
read_unwraps (jstr p s) t r = refl
read_unwraps (jarr p is) t r = refl
read_unwraps (jobj p ms) t r = refl

-- ---- numbers

integer_same : (p : ℕ) (m : Bool) (n : ℕ) → integer_read p (complement m n) ≡ read_int p m n
unfolding integer_read complement read_int
integer_same p false n = go' (ltb n (2 ^ 63)) refl
  where
    go' : (b : Bool) → ltb n (2 ^ 63) ≡ b → integer_read p (complement false n) ≡ read_int p false n
    go' true w = rw (w, complement, read_int)
    go' false w = rw (w, complement, read_int)
integer_same p true zero = refl
integer_same p true (suc n) = go' (leb (suc n) (2 ^ 63)) refl
  where
    go' : (b : Bool) → leb (suc n) (2 ^ 63) ≡ b → integer_read p (complement true (suc n)) ≡ read_int p true (suc n)
    go' true w = rw (w, complement, read_int)
    go' false w = rw (w, complement, read_int)

-- ---- leaves

abbrev pub is_leaf : Json → Bool
is_leaf (jnull p) = true
is_leaf (jbool p b) = true
is_leaf (jint p m n) = true
is_leaf (jreal p) = true
is_leaf (jstr p s) = true
is_leaf (jarr p is) = false
is_leaf (jobj p ms) = false

leaf-value : {d p : ℕ} {j : Json} {bs : List ℕ} (t : Table) (s ys : List ℕ) (q r : ℕ) → Value d p j bs → is_leaf j ≡ true → drop p s ≡ bs ++ ys → EndsHere ys → past p bs ≡ q
    → (is_word j ≡ true → past_word s p ≡ q) → leaf_at t s (token_for j) r p ≡ ending q (plain_of j t r)
unfolding leaf_at integer_read
leaf-value t s ys q r grammar.literal_null l h g e w = rw (w refl)
leaf-value t s ys q r (grammar.literal_true {p = p}) l h g e w = rw (w refl, byte_here s p 0x74 _ h)
leaf-value t s ys q r (grammar.literal_false {p = p}) l h g e w = rw (w refl, byte_here s p 0x66 _ h)
leaf-value t s ys q r (grammar.whole {p = p} {n = n} {m = m} v) l h g e w = rw (w refl, integer_complement s p ys v h g, integer_same p m n)
leaf-value t s ys q r (grammar.real {p = p} v k c) l h g e w = rw (w refl, real-none s p ys v k (rw c at h))
leaf-value t s ys q r (grammar.string {p = p} u) l h g e w = let k = quoted-read s p ys u h in rw (add-one p, k.1, k.0, e)
leaf-value t s ys q r (grammar.no_elements z c) l h g e w = cc
leaf-value t s ys q r (grammar.elements f) l h g e w = cc
leaf-value t s ys q r (grammar.no_members z c) l h g e w = cc
leaf-value t s ys q r (grammar.members f) l h g e w = cc

pub leaf-means : {d p q : ℕ} {j : Json} {s : List ℕ} (t : Table) (r : ℕ) → Stands d s j p q → is_leaf j ≡ true → leaf_at t s (token_for j) r p ≡ ending q (plain_of j t r)
leaf-means {q = q} {s = s} t r k l = leaf-value t s k.rest q r k.value l k.text k.ends k.end (word_end k)
