-- An older table reads what a newer one reads, cut down to what it knows, or refuses by 11, exactly when the cut value still holds an
-- item or alternative that it lacks. The newer table is made from the older by additions; neither need be good.
use Rattle.jer.specs.declared.Token.TheVariants as tok
use Prim.Native.Nat.{ℕ}
use mathlib.Core.Path.{◌≡◌}
use Rattle.json_text.specs.Tree.{Json, jnull, jbool, jint, jreal, jstr, jarr, jobj, Items, inil, icons, Members, mnil, mcons}
use Rattle.jer.specs.Table.{Table, BOOLEAN, INTEGER, NULL}
use Rattle.jer.specs.Value.{Val}
use Rattle.jer.specs.Answer.{ok}
use Rattle.jer.specs.Read.{read, elements, entries}
use Rattle.jer.specs.Cut.{ByAdditions, cut, lacks}
use Rattle.jer.proofs.WeightGot.{refused}
use Rattle.jer.proofs.OlderAgrees.{Agrees, Follows, TwinElement, twin_element, TwinEntry, twin_entry, Each, end, more}
use Rattle.jer.proofs.OlderChoice.{null-agrees, bool_agrees, int-agrees, kind-follows, string-follows, unwrapping-follows}
use Rattle.jer.proofs.OlderObject.{braces_follow}
use Rattle.jer.proofs.OlderArray.{array-follows}

module _ {new old : Table} {R : ℕ → ℕ → Type 0} (pair : ByAdditions new old R) where
  mutual
    unfolding read

    older-follows : (j : Json) → Follows old R (λ r. read j new r) (λ r. read j old r)
    older-follows (jnull p) = unwrapping-follows pair tok.Null p (kind-follows pair NULL p _ (λ b v. null-agrees old b v))
    older-follows (jbool p c) = unwrapping-follows pair tok.Boolean p (kind-follows pair BOOLEAN p _ (λ b v. bool_agrees old b v c))
    older-follows (jint p m n) = unwrapping-follows pair tok.Number p (kind-follows pair INTEGER p _ (λ b v. int-agrees old b v p m n))
    older-follows (jreal p) = unwrapping-follows pair tok.Number p (kind-follows pair INTEGER p _ (λ b v e. refused e))
    older-follows (jstr p s) = unwrapping-follows pair tok.String p (string-follows pair p s)
    older-follows (jarr p is) = unwrapping-follows pair tok.Array p (array-follows pair (older-elements is) p)
    older-follows (jobj p ms) = unwrapping-follows pair tok.Object p (braces_follow pair p (older-entries ms))

    older-elements : (is : Items) → Each (TwinElement old R) (elements is new) (elements is old)
    older-elements inil = end
    older-elements (icons j is) = more (twin_element (older-follows j)) (older-elements is)

    older-entries : (ms : Members) → Each (TwinEntry old R) (entries ms new) (entries ms old)
    older-entries mnil = end
    older-entries (mcons p s j ms) = more (twin_entry (older-follows j)) (older-entries ms)

-- demand 3, on trees and at paired rows
pub older-reads : {new old : Table} {R : ℕ → ℕ → Type 0} → ByAdditions new old R → (j : Json) (a b : ℕ) → R a b → (v : Val) → read j new a ≡ ok v
    → Agrees (read j old b) (cut v old b) (lacks (cut v old b) old b)
older-reads pair j a b r v e = older-follows pair j a b r v e
