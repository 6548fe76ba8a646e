-- A read needs at most 130 rows for each byte of text and no more pool than text, and writing what was read never gives a longer text.
use Rattle.jer.specs.declared.Token.TheVariants as tok
use Prim.Native.Nat.{ℕ, ◌*◌, ◌^◌, ◌≤◌, ◌<◌}
use mathlib.Core.Path.{◌≡◌}
use mathlib.Core.List.{List}
use mathlib.Core.Bool.{true}
use native.Mathlib.Omega.{arith}
use lib.ListN.{length}
use Rattle.json_text.specs.Tree.{Json, jnull, jbool, jint, jreal, jstr, jarr, jobj, Items, inil, icons, Members, mnil, mcons}
use Rattle.json_text.specs.Grammar.{Value, Text}
use Rattle.jer.specs.Table.{Table, is_type}
use Rattle.jer.specs.Value.{Val}
use Rattle.jer.specs.Answer.{ok}
use Rattle.jer.specs.Read.{read}
use Rattle.jer.specs.Rows.{rows_of, pool_of}
use Rattle.jer.specs.Write.{write}
use Rattle.jer.specs.Sane.{Sane}
use Rattle.jer.proofs.Weight.{weight, weight_least, padded_least}
use Rattle.jer.proofs.WeightMeasure.{Light, Fair, rows-length}
use Rattle.jer.proofs.WeightLeaf.{unwrapping-fair, null-fair, bool_fair, int-fair, real-fair, string-fair}
use Rattle.jer.proofs.WeightParts.{FairItems, array-fair}
use Rattle.jer.proofs.WeightMembers.{FairMembers, braces-fair}

-- every value that a tree means fits the tree's weight
mutual
  unfolding read

  fair : (j : Json) (t : Table) (g : Sane t) → Fair t (weight j) (λ r. read j t r)
  fair (jnull p) t g = unwrapping-fair t g tok.Null p 4 _ (null-fair t p)
  fair (jbool p b) t g = unwrapping-fair t g tok.Boolean p _ _ (bool_fair t p b)
  fair (jint p m n) t g = unwrapping-fair t g tok.Number p _ _ (int-fair t p m n)
  fair (jreal p) t g = unwrapping-fair t g tok.Number p 3 _ (real-fair t p)
  fair (jstr p s) t g = unwrapping-fair t g tok.String p _ _ (string-fair t p s)
  fair (jarr p is) t g = unwrapping-fair t g tok.Array p _ _ (array-fair t g p is (fair-items is t g))
  fair (jobj p ms) t g = unwrapping-fair t g tok.Object p _ _ (braces-fair t g p ms (fair-members ms t g))

  fair-items : (is : Items) (t : Table) (g : Sane t) → FairItems t is
  fair-items inil t g = tt
  fair-items (icons j is) t g = (λ r v y e. fair j t g r v y e, fair-items is t g)

  fair-members : (ms : Members) (t : Table) (g : Sane t) → FairMembers t ms
  fair-members mnil t g = tt
  fair-members (mcons p s j ms) t g = (λ r v y e. fair j t g r v y e, fair-members ms t g)

module _ (t : Table) (g : Sane t) (j : Json) (r : ℕ) (v : Val) (y : is_type t r ≡ true) (e : read j t r ≡ ok v) where
  light : Light t (weight j) r v
  light = fair j t g r v y e

  -- 01: "A read needs at most 130 rows for each byte of text"
  pub rows_bound : length (rows_of v t r 0) ≤ 130 * weight j
  rows_bound = omega (arith, rows-length v t r 0, light)

  -- and no more pool bytes than text
  pub pool_bound : length (pool_of v) ≤ weight j
  pool_bound = omega (arith, light)

  -- demand 2: writing what was read never gives a longer text
  pub write_shorter : length (write v t r) ≤ weight j
  write_shorter = omega (arith, light)

-- of a whole text
pub text-bounds : (t : Table) → Sane t → {d : ℕ} {j : Json} {bs : List ℕ} (v : Val) → Text d j bs → read j t 0 ≡ ok v
    → (length (rows_of v t 0 0) ≤ 130 * length bs) × (length (pool_of v) ≤ length bs) × (length (write v t 0) ≤ length bs)
text-bounds t g {j = j} v h e = let a = fair j t g 0 v g.whole e in let b = padded_least h in omega (arith, rows-length v t 0 0)

-- of a value inside a text of the house size: its rows and its pool are counted by 32-bit numbers
pub bounds-at : (t : Table) → Sane t → {d p : ℕ} {j : Json} {bs : List ℕ} (r : ℕ) (v : Val) → Value d p j bs → length bs ≤ 65536 → is_type t r ≡ true → read j t r ≡ ok v
    → (length (rows_of v t r 0) < 2 ^ 32) × (length (pool_of v) < 2 ^ 32)
bounds-at t g {j = j} r v h l y e = let a = fair j t g r v y e in let b = weight_least h in omega (arith, rows-length v t r 0)
