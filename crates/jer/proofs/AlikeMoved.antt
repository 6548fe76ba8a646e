-- Trees that differ only in places are read alike at every row.
use Rattle.jer.specs.declared.Token.TheVariants as tok
use Prim.Native.Nat.{ℕ, suc}
use mathlib.Core.Path.{◌≡◌, refl}
use Rattle.std.specs.Prelude.{Some}
use Rattle.json_text.specs.Tree.{Json, jnull, jbool, jint, jreal, jstr, jarr, jobj, Items, Members}
use Rattle.jer.specs.Table.{Table, BOOLEAN, INTEGER, NULL, token_code, code_of, same_token, type_at}
use Rattle.jer.specs.Read.{null?, read, elements, entries}
use Rattle.jer.specs.Moved.{Moved, null, boolean, number, real, string, array, object, MovedItems, no_item, item, MovedMembers, no_member, member, token_in}
use Rattle.jer.specs.Skipped.{SameAnswer, same_value}
use Rattle.jer.specs.Sane.{Sane}
use Rattle.jer.proofs.OlderAgrees.{Each, end, more}
use Rattle.jer.proofs.AlikeSame.{same_cause, int_same, string-same, kind-same, unwrapping-same}
use Rattle.jer.proofs.AlikeArray.{ReadAlike, Elementwise, done, each, array_same}
use Rattle.jer.proofs.AlikeObject.{Twin, twin, braces-same}

-- ---- tokens

pub null-token : (j : Json) → null? j ≡ same_token (Some (token_in j)) (Some tok.Null)
unfolding null? token_in same_token code_of token_code
null-token (jnull p) = refl
null-token (jbool p b) = refl
null-token (jint p m n) = refl
null-token (jreal p) = refl
null-token (jstr p s) = refl
null-token (jarr p is) = refl
null-token (jobj p ms) = refl

-- of two trees with one token both are null or neither is
pub same-null : (j k : Json) → token_in j ≡ token_in k → null? j ≡ null? k
same-null j k e = cc (null-token j, null-token k)

pub moved-token : {j k : Json} → Moved j k → token_in j ≡ token_in k
unfolding token_in
moved-token null = refl
moved-token boolean = refl
moved-token number = refl
moved-token real = refl
moved-token string = refl
moved-token (array h) = refl
moved-token (object h) = refl

pub moved-null : {j k : Json} → Moved j k → null? j ≡ null? k
moved-null {j} {k} h = same-null j k (moved-token h)

-- ---- reading

module _ (t : Table) (g : Sane t) where
  mutual
    unfolding read

    pub moved_same : {j k : Json} → Moved j k → (r : ℕ) → SameAnswer (read j t r) (read k t r)
    moved_same (null {p = p} {q = q}) r = unwrapping-same t p q tok.Null _ _ (λ r. kind-same t p q NULL r same_value) r
    moved_same (boolean {p = p} {q = q}) r = unwrapping-same t p q tok.Boolean _ _ (λ r. kind-same t p q BOOLEAN r same_value) r
    moved_same (number {p = p} {q = q} {n = n} {m = m}) r = unwrapping-same t p q tok.Number _ _ (λ r. kind-same t p q INTEGER r (int_same t p q m n)) r
    moved_same (real {p = p} {q = q}) r = unwrapping-same t p q tok.Number _ _ (λ r. kind-same t p q INTEGER r (same_cause _ p q)) r
    moved_same (string {p = p} {q = q} {s = s}) r = unwrapping-same t p q tok.String _ _ (string-same t p q s) r
    moved_same (array {p = p} {q = q} h) r = unwrapping-same t p q tok.Array _ _ (λ r. array_same t r p q (moved-items h _) (moved-elements h r 0)) r
    moved_same (object {p = p} {q = q} h) r = unwrapping-same t p q tok.Object _ _ (λ r. braces-same t r p q g (moved-entries h r)) r

    moved-items : {is js : Items} → MovedItems is js → (r : ℕ) → Each (ReadAlike r) (elements is t) (elements js t)
    moved-items no_item r = end
    moved-items (item h hs) r = more (moved_same h r) (moved-items hs r)

    moved-elements : {is js : Items} → MovedItems is js → (r i : ℕ) → Elementwise t r i (elements is t) (elements js t)
    moved-elements no_item r i = done
    moved-elements (item h hs) r i = each (moved-null h) (moved_same h (type_at t r i)) (moved-elements hs r (suc i))

    moved-entries : {ms ns : Members} → MovedMembers ms ns → (r : ℕ) → Each (Twin t r) (entries ms t) (entries ns t)
    moved-entries no_member r = end
    moved-entries (member h hs) r = more (twin (λ i e. (moved-null h, moved_same h (type_at t r i)))) (moved-entries hs r)
