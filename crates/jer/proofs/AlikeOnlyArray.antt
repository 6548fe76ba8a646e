-- Arrays that are read as the same value are respellings of one another.
use Rattle.jer.specs.declared.Token.TheVariants as tok
use Prim.Native.Nat.{ℕ, zero, suc, ◌+◌, ◌<◌}
use mathlib.Core.Path.{◌≡◌, refl, sym, ◌∙◌}
use mathlib.Core.Bool.{true, ◌&&◌}
use Rattle.std.specs.Prelude.{Option, None, Some}
use native.Mathlib.Omega.{arith}
use Rattle.json_text.specs.Tree.{Json, jnull, Items, inil, icons, place_of}
use Rattle.jer.specs.Table.{Table, extensible, count_of, type_at, may_miss, open_unwrapped}
use Rattle.jer.specs.Value.{Val, Vals, vnil, vcons, Parts, absent, present}
use Rattle.jer.specs.Answer.{Res, ok}
use Rattle.jer.specs.Read.{Element, null_value, missing_element, read_element, surplus, read_elements, read_items, null?, read, elements}
use Rattle.jer.specs.Moved as moved
use Rattle.jer.specs.Moved.{token_in}
use Rattle.jer.specs.Respelled as spell
use Rattle.jer.specs.Respelled.{Respelled, RespelledItems, RespelledElements}
use Rattle.jer.proofs.ValidLaws.{same_token-eq}
use Rattle.jer.proofs.ValidRows.{both}
use Rattle.jer.proofs.WeightGot.{cases, refused, got, steps}
use Rattle.jer.proofs.WeightParts.{with_absent_lem, with_present_lem}
use Rattle.jer.proofs.OlderChoice.{refused-both}
use Rattle.jer.proofs.AlikeMoved.{null-token}
use Rattle.jer.proofs.AlikeKept.{value-of-null}
use Rattle.jer.proofs.AlikeRespelled.{respelled_token}
use Rattle.jer.proofs.AlikeOnly.{Shape, is_null, shape, Only, OnlyItems}

-- ---- null

pub null-shape : (j : Json) → null? j ≡ true → Shape tok.Null j
null-shape j e = rw (same_token-eq (token_in j) tok.Null (sym (null-token j) ∙ e)) at (shape j)

-- ---- SEQUENCE OF

no-item : {C : Type 0} (t : Table) (r : ℕ) (j : Json) (is : Items) → read_items (elements (icons j is) t) r ≡ ok vnil → C
unfolding read read_items
no-item t r j is e =
    let a = steps (read j t r) _ vnil e in
    let b = steps (read_items (elements is t) r) _ vnil a.then in
    absurd (let z : ◌≡◌ {A = ℕ} 0 1 = cc b.then in omega arith)

record Items1 (t : Table) (r : ℕ) (j : Json) (is : Items) (vs : Vals) : Type 0 where
  head : Val
  tail : Vals
  whole : vcons head tail ≡ vs
  first : read j t r ≡ ok head
  then : read_items (elements is t) r ≡ ok tail

some_item : (t : Table) (r : ℕ) (j : Json) (is : Items) (vs : Vals) → read_items (elements (icons j is) t) r ≡ ok vs → Items1 t r j is vs
unfolding read read_items
some_item t r j is vs e =
    let a = steps (read j t r) _ vs e in
    let b = steps (read_items (elements is t) r) _ vs a.then in
    record { head = a.val; tail = b.val; whole = got b.then; first = a.first; then = b.first }

no_items_lem : (t : Table) (r : ℕ) (vs : Vals) → read_items (elements inil t) r ≡ ok vs → vnil ≡ vs
unfolding read read_items
no_items_lem t r vs e = got e

pub items-only : (t : Table) (r : ℕ) (is js : Items) (vs : Vals) → OnlyItems t is → read_items (elements is t) r ≡ ok vs → read_items (elements js t) r ≡ ok vs → RespelledItems t r is js
items-only t r inil inil vs h e f = spell.no_item
items-only t r inil (icons k js) vs h e f = no-item t r k js (rw (← no_items_lem t r vs e) at f)
items-only t r (icons j is) inil vs h e f = no-item t r j is (rw (← no_items_lem t r vs f) at e)
items-only t r (icons j is) (icons k js) vs h e f =
    let a = some_item t r j is vs e in
    let b = some_item t r k js vs f in
    let x : b.head ≡ a.head = cc (a.whole, b.whole) in
    let y : b.tail ≡ a.tail = cc (a.whole, b.whole) in
    spell.item (h.0 r k a.head a.first (rw x at b.first)) (items-only t r is js a.tail h.1 a.then (rw y at b.then))

-- ---- ARRAY

-- what an element, or a missing one, was read as
data Took (t : Table) (r i : ℕ) (e : Element) (rest : Res Parts) : Parts → Type 0 where
  as_absent : {qs : Parts} → e.is_null ≡ true → rest ≡ ok qs → Took t r i e rest (absent qs)
  as_present : {v : Val} {qs : Parts} → e.means (type_at t r i) ≡ ok v → rest ≡ ok qs → Took t r i e rest (present v qs)

data Missed (t : Table) (r i : ℕ) (rest : Res Parts) : Parts → Type 0 where
  no_value : {qs : Parts} → rest ≡ ok qs → Missed t r i rest (absent qs)
  nulls_value : {v : Val} {qs : Parts} → null_value t (type_at t r i) ≡ Some v → rest ≡ ok qs → Missed t r i rest (present v qs)

module _ (t : Table) (r o i : ℕ) (rest : Res Parts) (ps : Parts) where
  took : (e : Element) → read_element t r o i (Some e) rest ≡ ok ps → Took t r i e rest ps
  unfolding read_element
  took e =
      cases (e.is_null && may_miss t r i)
      (λ w. with_absent_lem (Took t r i e rest) rest ps (λ qs h. as_absent ((both _ _).0 w).0 h))
      (λ w. with_present_lem (Took t r i e rest) _ rest ps (λ v qs g h. as_present g h))

  missing-null : (v : Val) → missing_element t r o i ≡ ok v → null_value t (type_at t r i) ≡ Some v
  unfolding missing_element
  missing-null v e = go (null_value t (type_at t r i)) refl
    where
      go : (x : Option Val) → null_value t (type_at t r i) ≡ x → null_value t (type_at t r i) ≡ Some v
      go None n = refused-both (open_unwrapped t (type_at t r i)) _ _ (rw (n, missing_element) at e)
      go (Some w) n = let z : ok w ≡ ok v = rw (n, missing_element) at e in cc

  missed : read_element t r o i None rest ≡ ok ps → Missed t r i rest ps
  unfolding read_element
  missed =
      cases (may_miss t r i)
      (λ w. with_absent_lem (Missed t r i rest) rest ps (λ qs h. no_value h))
      (λ w. with_present_lem (Missed t r i rest) _ rest ps (λ v qs g h. nulls_value (missing-null v g) h))

-- two nulls
pub nulls : {t : Table} {r : ℕ} {j k : Json} → Shape tok.Null j → Shape tok.Null k → Respelled t r j k
nulls is_null is_null = spell.moved moved.null

-- an element as the typed reading meets it
abbrev element_for : Table → Json → Element
element_for t j = record { place = place_of j; is_null = null? j; means = λ r. read j t r }

module _ (t : Table) (r i : ℕ) where
  both-elements : {x y : Res Parts} {ps : Parts} (j k : Json) (is js : Items) → Only t j (type_at t r i) → ((qs : Parts) → x ≡ ok qs → y ≡ ok qs → RespelledElements t r (suc i) is js)
      → Took t r i (element_for t j) x ps → Took t r i (element_for t k) y ps → RespelledElements t r i (icons j is) (icons k js)
  both-elements j k is js h hs (as_absent a e) (as_absent b f) = spell.element (nulls (null-shape j a) (null-shape k b)) (hs _ e f)
  both-elements j k is js h hs (as_present a e) (as_present b f) = spell.element (h k _ a b) (hs _ e f)

  module _ (null-only : (k : Json) (v : Val) → null_value t (type_at t r i) ≡ Some v → read k t (type_at t r i) ≡ ok v → Shape tok.Null k) (l : i < count_of t r) where
    dropped : {j : Json} (is : Items) → Shape tok.Null j → RespelledElements t r (suc i) is inil → RespelledElements t r i (icons j is) inil
    dropped is is_null h = spell.null_dropped l h

    added : {k : Json} (js : Items) → Shape tok.Null k → RespelledElements t r (suc i) inil js → RespelledElements t r i inil (icons k js)
    added js is_null h = spell.null_added l h

    first-element : {x y : Res Parts} {ps : Parts} (j : Json) (is : Items) → ((qs : Parts) → x ≡ ok qs → y ≡ ok qs → RespelledElements t r (suc i) is inil)
        → Took t r i (element_for t j) x ps → Missed t r i y ps → RespelledElements t r i (icons j is) inil
    first-element j is hs (as_absent a e) (no_value f) = dropped is (null-shape j a) (hs _ e f)
    first-element j is hs (as_present a e) (nulls_value b f) = dropped is (null-only j _ b a) (hs _ e f)

    second-element : {x y : Res Parts} {ps : Parts} (k : Json) (js : Items) → ((qs : Parts) → x ≡ ok qs → y ≡ ok qs → RespelledElements t r (suc i) inil js)
        → Missed t r i x ps → Took t r i (element_for t k) y ps → RespelledElements t r i inil (icons k js)
    second-element k js hs (no_value e) (as_absent b f) = added js (null-shape k b) (hs _ e f)
    second-element k js hs (nulls_value a e) (as_present b f) = added js (null-only k _ a b) (hs _ e f)

-- an element past the last member is read only if the sequence is extensible
surplus-only : (t : Table) (r : ℕ) (j : Json) (is : Items) (ps : Parts) → surplus t r (elements (icons j is) t) ≡ ok ps → extensible t r ≡ true
unfolding surplus read
surplus-only t r j is ps = cases (extensible t r) (λ w e. w) (λ w e. refused e)

module _ (t : Table) (null-only : (r : ℕ) → Only t (jnull 0) r) (r o u : ℕ) where
  null-tree : (i : ℕ) (k : Json) (v : Val) → null_value t (type_at t r i) ≡ Some v → read k t (type_at t r i) ≡ ok v → Shape tok.Null k
  unfolding token_in
  null-tree i k v e f = rw (← respelled_token (null-only (type_at t r i) k v (value-of-null t (type_at t r i) 0 v e) f)) at (shape k)

  pub elements-only : (n i : ℕ) (is js : Items) (ps : Parts) → OnlyItems t is → i + n ≡ count_of t r → read_elements t r o (elements is t) i n ≡ ok ps → read_elements t r u (elements js t) i n ≡ ok ps
      → RespelledElements t r i is js
  unfolding read_elements read
  elements-only zero i inil inil ps h c e f = spell.no_element
  elements-only zero i inil (icons k js) ps h c e f = spell.surplus {r = r} {i = i} (omega arith) (surplus-only t r k js ps f)
  elements-only zero i (icons j is) js ps h c e f = spell.surplus {r = r} {i = i} (omega arith) (surplus-only t r j is ps e)
  elements-only (suc n) i inil inil ps h c e f = spell.no_element
  elements-only (suc n) i inil (icons k js) ps h c e f =
      second-element t r i (null-tree i) (omega arith) k js (λ qs. elements-only n (suc i) inil js qs tt (omega arith)) (missed t r o i _ ps e) (took t r u i _ ps (element_for t k) f)
  elements-only (suc n) i (icons j is) inil ps h c e f =
      first-element t r i (null-tree i) (omega arith) j is (λ qs. elements-only n (suc i) is inil qs h.1 (omega arith)) (took t r o i _ ps (element_for t j) e) (missed t r u i _ ps f)
  elements-only (suc n) i (icons j is) (icons k js) ps h c e f =
      both-elements t r i j k is js (h.0 (type_at t r i)) (λ qs. elements-only n (suc i) is js qs h.1 (omega arith)) (took t r o i _ ps (element_for t j) e) (took t r u i _ ps (element_for t k) f)
