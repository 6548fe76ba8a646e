-- Arrays: the items of a SEQUENCE OF, and the members of an ARRAY sequence with the nulls at the end dropped.
use Prim.Native.Nat.{ℕ, zero, suc, ◌+◌, ◌≤◌, ◌<◌}
use mathlib.Core.Path.{◌≡◌, refl}
use mathlib.Core.List.{List, []}
use mathlib.Core.Bool.{Bool, true, false, ◌&&◌}
use Rattle.std.specs.Prelude.{None, Some}
use native.Mathlib.Omega.{arith}
use Rattle.json_text.specs.Bytes.{past}
use Rattle.json_text.specs.Tree.{Json, Items, inil, icons}
use Rattle.json_text.specs.Grammar.{Value}
use Rattle.jer.specs.Table.{Table, type_at, may_miss}
use Rattle.jer.specs.Value.{Val, Vals, vnil, vcons, Parts, absent, present}
use Rattle.jer.specs.Answer.{Res, ok, bind}
use Rattle.jer.specs.Read.{Element, with_absent, with_present, null_value, missing_element, read_element, surplus, read_elements, read_items, null?, read, elements}
use Rattle.jer.specs.Write.{keep}
use Rattle.jer.specs.Cut.{absents}
use Rattle.jer.proofs.SpellLists.{Listed, nothing, then, null-text}
use Rattle.jer.proofs.SpellRead.{null-is-value}

-- ---- items

pub no_items_lem : (t : Table) (r : ℕ) → read_items (elements inil t) r ≡ ok vnil
unfolding read read_items
no_items_lem t r = refl

pub one-item : (t : Table) (r : ℕ) (j : Json) (is : Items) (v : Val) (vs : Vals) → read j t r ≡ ok v → read_items (elements is t) r ≡ ok vs → read_items (elements (icons j is) t) r ≡ ok (vcons v vs)
unfolding read read_items bind
one-item t r j is v vs e f = rw (e, f)

-- ---- nulls at the end

-- an element before those that are left
unfoldable pub keep_item : Json → Items → Items
keep_item j inil = elim (null? j) [ true ↦ inil | false ↦ icons j inil ]
keep_item j (icons k is) = icons j (icons k is)

pub keep-listed : {d p : ℕ} {j : Json} {is : Items} {x : List ℕ} {xs : List (List ℕ)} → Value d p j x → Listed d (suc (past p x)) is xs → Listed d p (keep_item j is) (keep x xs)
unfolding keep_item keep
keep-listed {d} {p} {j} {x = x} v nothing = go (null? j) refl
  where
    go : (c : Bool) → null? j ≡ c → Listed d p (keep_item j inil) (keep x [])
    go true e = rw (null-text v, keep, e, keep_item, keep) nothing
    go false e = rw (null-text v, keep, e, keep_item, keep) (then v nothing)
keep-listed v (then w r) = then v (then w r)

-- what is left of an element and those after it
data Left (j : Json) (is : Items) : Items → Type 0 where
  left : Left j is (icons j is)
  dropped : null? j ≡ true → is ≡ inil → Left j is inil

keep_left : (j : Json) (is : Items) → Left j is (keep_item j is)
unfolding keep_item
keep_left j inil = go (null? j) refl
  where
    go : (c : Bool) → null? j ≡ c → Left j inil (elim c [ true ↦ inil | false ↦ icons j inil ])
    go true e = dropped e refl
    go false e = left
keep_left j (icons k is) = left

-- ---- members

pub with_absent_lem : (x : Res Parts) (qs : Parts) → x ≡ ok qs → with_absent x ≡ ok (absent qs)
unfolding with_absent bind
with_absent_lem x qs e = rw e

pub with_present_lem : (v : Res Val) (w : Val) (x : Res Parts) (qs : Parts) → v ≡ ok w → x ≡ ok qs → with_present v x ≡ ok (present w qs)
unfolding with_present bind
with_present_lem v w x qs e f = rw (e, f)

module _ (t : Table) (r o i : ℕ) (x : Res Parts) (qs : Parts) (rest : x ≡ ok qs) where
  null-element : (e : Element) → (e.is_null && may_miss t r i) ≡ true → read_element t r o i (Some e) x ≡ ok (absent qs)
  unfolding read_element
  null-element e h = rw (h, read_element) (with_absent_lem x qs rest)

  some-element : (e : Element) (w : Val) → (e.is_null && may_miss t r i) ≡ false → e.means (type_at t r i) ≡ ok w → read_element t r o i (Some e) x ≡ ok (present w qs)
  unfolding read_element
  some-element e w h m = rw (h, read_element) (with_present_lem _ w x qs m rest)

  absent-element : may_miss t r i ≡ true → read_element t r o i None x ≡ ok (absent qs)
  unfolding read_element
  absent-element h = rw (h, read_element) (with_absent_lem x qs rest)

  missing-element : (w : Val) → may_miss t r i ≡ false → null_value t (type_at t r i) ≡ Some w → read_element t r o i None x ≡ ok (present w qs)
  unfolding read_element missing_element
  missing-element w h m = rw (h, read_element) (with_present_lem _ w x qs (rw (m, missing_element)) rest)

module _ (t : Table) (r o i n : ℕ) (is : Items) (qs : Parts) (rest : read_elements t r o (elements is t) (suc i) n ≡ ok qs) where
  -- a null where the member may miss
  pub null-kept : (j : Json) → null? j ≡ true → may_miss t r i ≡ true → read_elements t r o (elements (keep_item j is) t) i (suc n) ≡ ok (absent qs)
  unfolding read read_elements
  null-kept j e m = go (keep_left j is)
    where
      go : {ks : Items} → Left j is ks → read_elements t r o (elements ks t) i (suc n) ≡ ok (absent qs)
      go left = null-element t r o i _ qs rest _ (rw (e, m))
      go (dropped d z) = absent-element t r o i _ qs (rw z at rest) m

  -- an element that is read; null only where the member may not miss
  pub value-kept : (j : Json) (w : Val) → read j t (type_at t r i) ≡ ok w → (null? j && may_miss t r i) ≡ false → read_elements t r o (elements (keep_item j is) t) i (suc n) ≡ ok (present w qs)
  unfolding read read_elements
  value-kept j w e m = go (keep_left j is)
    where
      go : {ks : Items} → Left j is ks → read_elements t r o (elements ks t) i (suc n) ≡ ok (present w qs)
      go left = some-element t r o i _ qs rest _ w m e
      go (dropped d z) = missing-element t r o i _ qs (rw z at rest) w (rw d at m) (null-is-value j t _ w d e)

-- elements missing at the end
pub no-elements : (t : Table) (r o i n : ℕ) → ((k : ℕ) → i ≤ k → k < i + n → may_miss t r k ≡ true) → read_elements t r o (elements inil t) i n ≡ ok (absents n)
unfolding read read_elements surplus absents
no-elements t r o i zero h = refl
no-elements t r o i (suc n) h = absent-element t r o i _ (absents n) (no-elements t r o (suc i) n (λ k l u. h k (omega arith) (omega arith))) (h i (omega arith) (omega arith))
