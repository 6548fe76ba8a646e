-- Arrays, as SEQUENCE OF and as SEQUENCE: what is read of them fits the weight of the text.
use Rattle.jer.specs.declared.Token.TheVariants as tok
use Prim.Native.Nat.{ℕ, zero, suc, ◌+◌, ◌-◌, ◌≤◌, ◌<◌}
use mathlib.Core.Path.{◌≡◌, refl}
use mathlib.Core.List.{List, [], ◌∷◌}
use mathlib.Core.Bool.{true, ◌&&◌}
use Rattle.std.specs.Prelude.{Option, None, Some}
use native.Mathlib.Omega.{arith}
use lib.Dec.{eqb}
use lib.ListN.{length, length-append}
use borrow.Author.Tests.{eqb-true}
use Rattle.json_text.specs.Tree.{Json, jnull, jbool, jint, jreal, jstr, jarr, jobj, Items, inil, icons}
use Rattle.jer.specs.Table.{Table, NULL, SEQUENCE-OF, kind_of, is_type, extensible, is_array, is_unwrapped, element_of, count_of, type_at, may_miss, same_bytes, alternative, open_unwrapped}
use Rattle.jer.specs.Value.{Val, v_null, v_seq, v_list, v_choice, Vals, vnil, vcons, Parts, pnil, absent, present}
use Rattle.jer.specs.Answer.{Res, ok, bind}
use Rattle.jer.specs.Read.{null?, with_absent, with_present, null_value, missing_element, read_element, surplus, read_elements, read_items, read_array, read, elements}
use Rattle.jer.specs.Rows.{pool_of, item_pool, part_pool}
use Rattle.jer.specs.Write.{write, item_texts, element_texts, null_text, sequence_text, keep, drop_nulls, brackets}
use Rattle.jer.specs.Sane.{Sane}
use Rattle.jer.proofs.ValidRows.{both}
use Rattle.jer.proofs.Weight.{weight, items_weight}
use Rattle.jer.proofs.WeightGot.{cases, refused, nothing, got, found, steps}
use Rattle.jer.proofs.WeightMeasure.{Held, Light, LightUnder, Fair, FairUnder, rows_in, items_in, parts_in, commaed, brackets-length, keep-most}
use Rattle.jer.proofs.WeightLeaf.{unwrapped-text}

-- every item's meaning fits its weight
abbrev pub FairItems : Table → Items → Type 0
FairItems t inil = Unit {0}
FairItems t (icons j is) = Fair t (weight j) (λ r. read j t r) × FairItems t is

-- ---- SEQUENCE OF

abbrev pub ItemsLight : Table → ℕ → ℕ → Vals → Type 0
ItemsLight t w r vs = Held 0 w (items_in vs) (length (item_pool vs)) (commaed (item_texts vs t r))

no-items-light : (t : Table) (r : ℕ) → ItemsLight t 0 r vnil
unfolding pool_of write
no-items-light t r = omega arith

item-light : (t : Table) (w m r : ℕ) (v : Val) (vs : Vals) → Light t w r v → ItemsLight t m r vs → ItemsLight t (w + 1 + m) r (vcons v vs)
unfolding pool_of write
item-light t w m r v vs h k = simp length-append (omega arith)

pub items-light : (t : Table) (is : Items) → FairItems t is → (r : ℕ) (vs : Vals) → is_type t r ≡ true → read_items (elements is t) r ≡ ok vs → ItemsLight t (items_weight is) r vs
unfolding read read_items
items-light t inil f r vs y e = rw (← got e) (no-items-light t r)
items-light t (icons j is) f r vs y e =
    let a = steps (read j t r) _ vs e in
    let b = steps (read_items (elements is t) r) _ vs a.then in
    let q = got b.then in
    rw (← q) (item-light t _ _ r a.val b.val (f.0 r a.val y a.first) (items-light t is f.1 r b.val y b.first))

-- ---- one member and those after it

pub with_absent_lem : (Q : Parts → Type 0) (rest : Res Parts) (ps : Parts) → ((qs : Parts) → rest ≡ ok qs → Q (absent qs)) → with_absent rest ≡ ok ps → Q ps
unfolding with_absent
with_absent_lem Q rest ps h e = let a = steps rest _ ps e in let q = got a.then in rw (← q) (h a.val a.first)

pub with_present_lem : (Q : Parts → Type 0) (x : Res Val) (rest : Res Parts) (ps : Parts) → ((v : Val) (qs : Parts) → x ≡ ok v → rest ≡ ok qs → Q (present v qs)) → with_present x rest ≡ ok ps → Q ps
unfolding with_present
with_present_lem Q x rest ps h e =
    let a = steps x _ ps e in
    let b = steps rest _ ps a.then in
    let q = got b.then in
    rw (← q) (h a.val b.val a.first b.first)

-- ---- ARRAY

-- the n members from the position i on, as elements of the weight w
abbrev pub ElementsLight : Table → ℕ → ℕ → ℕ → ℕ → Parts → Type 0
ElementsLight t r i n w ps = Held n w (parts_in ps) (length (part_pool ps)) (commaed (drop_nulls (element_texts ps t r i)))

-- a null value, written null
record Nullish (t : Table) (r : ℕ) (v : Val) : Type 0 where
  rows : rows_in v ≤ 2
  pool : length (pool_of v) ≡ 0
  text : write v t r ≡ null_text

null-value : (t : Table) (r : ℕ) (v : Val) → null_value t r ≡ Some v → Nullish t r v
unfolding null_value pool_of write
null-value t r v =
    cases (is_unwrapped t r)
    (λ u. chosen u (alternative t r tok.Null))
    (λ u. cases (eqb (kind_of t r) NULL)
    (λ k e. let q : v_null ≡ v = found e in rw (← q) (record { rows = omega arith; pool = refl; text = refl }))
    (λ k e. nothing e))
  where
    chosen : is_unwrapped t r ≡ true → (c : Option ℕ) → elim c as (λ x. Option Val) [ None ↦ None | Some i ↦ Some (v_choice i v_null) ] ≡ Some v → Nullish t r v
    chosen u None e = nothing e
    chosen u (Some i) e = rw (← found e) (record { rows = omega arith; pool = refl; text = unwrapped-text t r i v_null u })

keep-null : (xs : List (List ℕ)) → commaed xs ≤ 0 → commaed (keep null_text xs) ≤ 0
unfolding keep null_text same_bytes
keep-null [] h = omega arith
keep-null (y ∷ ys) h = omega arith

-- an element that is missing at the end
missing-absent : (t : Table) (r i n : ℕ) (qs : Parts) → ElementsLight t r (suc i) n 0 qs → ElementsLight t r i (suc n) 0 (absent qs)
unfolding pool_of write drop_nulls
missing-absent t r i n qs h = omega (arith, keep-null (drop_nulls (element_texts qs t r (suc i))) h.short_text)

missing-present : (t : Table) (r i n : ℕ) (v : Val) (qs : Parts) → Nullish t (type_at t r i) v → ElementsLight t r (suc i) n 0 qs → ElementsLight t r i (suc n) 0 (present v qs)
unfolding pool_of write drop_nulls
missing-present t r i n v qs z h = rw z.text (simp length-append (omega (arith, keep-null (drop_nulls (element_texts qs t r (suc i))) h.short_text)))

-- an element that is there
element-absent : (t : Table) (r i n w m : ℕ) (qs : Parts) → 4 ≤ w → ElementsLight t r (suc i) n m qs → ElementsLight t r i (suc n) (w + 1 + m) (absent qs)
unfolding pool_of write drop_nulls null_text
element-absent t r i n w m qs l h = omega (arith, keep-most null_text (drop_nulls (element_texts qs t r (suc i))))

element-present : (t : Table) (r i n w m : ℕ) (v : Val) (qs : Parts) → Light t w (type_at t r i) v → ElementsLight t r (suc i) n m qs → ElementsLight t r i (suc n) (w + 1 + m) (present v qs)
unfolding pool_of write drop_nulls
element-present t r i n w m v qs f h = simp length-append (omega (arith, keep-most (write v t (type_at t r i)) (drop_nulls (element_texts qs t r (suc i)))))

null-weight : (j : Json) → null? j ≡ true → 4 ≤ weight j
unfolding null?
null-weight (jnull p) e = omega arith
null-weight (jbool p b) e = absurd (let z : ◌≡◌ {A = ℕ} 0 1 = cc in omega arith)
null-weight (jint p m n) e = absurd (let z : ◌≡◌ {A = ℕ} 0 1 = cc in omega arith)
null-weight (jreal p) e = absurd (let z : ◌≡◌ {A = ℕ} 0 1 = cc in omega arith)
null-weight (jstr p s) e = absurd (let z : ◌≡◌ {A = ℕ} 0 1 = cc in omega arith)
null-weight (jarr p is) e = absurd (let z : ◌≡◌ {A = ℕ} 0 1 = cc in omega arith)
null-weight (jobj p ms) e = absurd (let z : ◌≡◌ {A = ℕ} 0 1 = cc in omega arith)

module _ (t : Table) (g : Sane t) (r o : ℕ) (y : is_type t r ≡ true) where
  -- after the last member nothing more is read
  surplus-light : (is : Items) (i : ℕ) (ps : Parts) → surplus t r (elements is t) ≡ ok ps → ElementsLight t r i 0 (items_weight is) ps
  unfolding read surplus pool_of write drop_nulls
  surplus-light inil i ps e = rw (← got e) (omega arith)
  surplus-light (icons j is) i ps e = cases (extensible t r) (λ w f. let q : pnil ≡ ps = got f in rw (← q) (omega arith)) (λ w f. refused f) e

  missing-light : (i n : ℕ) (rest : Res Parts) (ps : Parts) → ((qs : Parts) → rest ≡ ok qs → ElementsLight t r (suc i) n 0 qs) → read_element t r o i None rest ≡ ok ps → ElementsLight t r i (suc n) 0 ps
  unfolding read_element missing_element
  missing-light i n rest ps h =
      cases (may_miss t r i)
      (λ m. with_absent_lem (ElementsLight t r i (suc n) 0) rest ps (λ qs e. missing-absent t r i n qs (h qs e)))
      (λ m. with_present_lem (ElementsLight t r i (suc n) 0) (missing_element t r o i) rest ps (λ v qs e f. missing-present t r i n v qs (nullish (null_value t (type_at t r i)) refl v e) (h qs f)))
    where
      nullish : (c : Option Val) → null_value t (type_at t r i) ≡ c → (v : Val) → missing_element t r o i ≡ ok v → Nullish t (type_at t r i) v
      nullish None w v e = cases (open_unwrapped t (type_at t r i)) (λ u f. refused f) (λ u f. refused f) (rw (w, missing_element) at e)
      nullish (Some u) w v e = let q : u ≡ v = got (rw (w, missing_element) at e) in rw (← q) (null-value t (type_at t r i) u w)

  element-light : (j : Json) (i n m : ℕ) (rest : Res Parts) (ps : Parts) → Fair t (weight j) (λ q. read j t q) → i < count_of t r
      → ((qs : Parts) → rest ≡ ok qs → ElementsLight t r (suc i) n m qs)
      → (p : ℕ) → read_element t r o i (Some (record { place = p; is_null = null? j; means = λ q. read j t q })) rest ≡ ok ps → ElementsLight t r i (suc n) (weight j + 1 + m) ps
  unfolding read_element
  element-light j i n m rest ps f l h p =
      cases (null? j && may_miss t r i)
      (λ w. with_absent_lem (ElementsLight t r i (suc n) (weight j + 1 + m)) rest ps (λ qs e. element-absent t r i n (weight j) m qs (null-weight j ((both (null? j) (may_miss t r i)).0 w).0) (h qs e)))
      (λ w. with_present_lem (ElementsLight t r i (suc n) (weight j + 1 + m)) (read j t (type_at t r i)) rest ps (λ v qs e d. element-present t r i n (weight j) m v qs (f (type_at t r i) v (g.member r i y l) e) (h qs d)))

  pub elements-light : (n : ℕ) (is : Items) (i : ℕ) (ps : Parts) → FairItems t is → i + n ≤ count_of t r → read_elements t r o (elements is t) i n ≡ ok ps → ElementsLight t r i n (items_weight is) ps
  unfolding read read_elements
  elements-light zero is i ps f l e = surplus-light is i ps e
  elements-light (suc n) inil i ps f l e = missing-light i n _ ps (λ qs d. elements-light n inil (suc i) qs f (omega arith) d) e
  elements-light (suc n) (icons j is) i ps f l e = element-light j i n _ _ ps f.0 (omega arith) (λ qs d. elements-light n is (suc i) qs f.1 (omega arith) d) _ e

-- ---- arrays

array-text : (t : Table) (r : ℕ) (ps : Parts) → is_array t r ≡ true → write (v_seq ps) t r ≡ brackets (drop_nulls (element_texts ps t r 0))
unfolding write sequence_text
array-text t r ps a = rw (a, sequence_text)

-- an array that is read as a SEQUENCE OF
list-light : (t : Table) → Sane t → (r : ℕ) (is : Items) (v : Val) → FairItems t is → kind_of t r ≡ SEQUENCE-OF → bind (read_items (elements is t) (element_of t r)) (λ vs. ok (v_list vs)) ≡ ok v → LightUnder t (2 + (items_weight is - 1)) r v
unfolding pool_of write
list-light t g r is v f k e =
    let a = steps (read_items (elements is t) (element_of t r)) _ v e in
    let h = items-light t is f (element_of t r) a.val (g.element r k) a.first in
    let q = got a.then in
    rw (← q) (omega (arith, brackets-length (item_texts a.val t (element_of t r))))

-- an array that is read as a SEQUENCE
array-light : (t : Table) → Sane t → (r o : ℕ) → is_type t r ≡ true → (is : Items) (v : Val) → FairItems t is → is_array t r ≡ true → bind (read_elements t r o (elements is t) 0 (count_of t r)) (λ ps. ok (v_seq ps)) ≡ ok v → LightUnder t (2 + (items_weight is - 1)) r v
unfolding pool_of
array-light t g r o y is v f k e =
    let a = steps (read_elements t r o (elements is t) 0 (count_of t r)) _ v e in
    let h = elements-light t g r o y (count_of t r) is 0 a.val f (omega arith) a.first in
    let q = got a.then in
    rw (← q, array-text t r a.val k) (omega (arith, g.few r y, brackets-length (drop_nulls (element_texts a.val t r 0))))

pub array-fair : (t : Table) → Sane t → (o : ℕ) (is : Items) → FairItems t is → FairUnder t (2 + (items_weight is - 1)) (λ q. read_array t o (elements is t) q)
unfolding read_array
array-fair t g o is f r v y =
    cases (eqb (kind_of t r) SEQUENCE-OF)
    (λ k. list-light t g r is v f (eqb-true _ _ k))
    (λ k. cases (is_array t r)
    (λ u. array-light t g r o y is v f u)
    (λ u e. refused e))
