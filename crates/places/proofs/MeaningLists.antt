-- Lists and sequences as arrays: elements that stand in the text are read as the typed reading of their trees says.
use Prim.Native.Nat.{ℕ, zero, suc, ◌+◌, ◌≤◌, ◌<◌}
use mathlib.Core.Path.{◌≡◌, refl}
use mathlib.Core.List.{List, []}
use mathlib.Core.Bool.{Bool, true, false, ◌&&◌}
use native.Mathlib.Omega.{arith}
use lib.ListN.{length}
use Rattle.json_text.specs.Tree.{Json, Items, inil, icons}
use Rattle.jer.specs.Table.{Table, is_type, extensible, element_of, count_of, type_at, may_miss}
use Rattle.jer.specs.Value.{Val, v_seq, v_list, Vals, vcons, Parts}
use Rattle.jer.specs.Answer.{Res, ok, no, bind}
use Rattle.jer.specs.Read.{null?, read, elements, read_items, missing_element, with_absent, with_present, read_element, surplus, read_elements}
use Rattle.jer.specs.Sane.{Sane}
use Rattle.tokens.proofs.TieFirst.{value-place}
use Rattle.places.specs.ByPlaces.{Got, got, ending, Reader, Follows, Part, Shut, follows_at, after_part, with_item, items_at, list_at, got_absent, got_present, surplus_at, no_more, element_found, element_then, elements_at, array_at}
use Rattle.places.proofs.MeaningFirst.{null-at, null-end}
use Rattle.places.proofs.MeaningStands.{Stands, Listed, no_item, item, item_count, InArray}

-- the reader gives the meaning of each value that stands in the text, and where it ends
pub record Reads (t : Table) (s : List ℕ) (d : ℕ) (value : Reader) : Type 0 where
  pub reads : {j : Json} {p q : ℕ} → Stands d s j p q → (r : ℕ) → is_type t r ≡ true → value r p ≡ ending q (read j t r)

-- ---- results that end at a place

-- what is made of a value ends where h says
pub made_ends : {A B : Type 0} (q : ℕ) (h : ℕ → ℕ) (f : A → B) (x : Res A) → bind (ending q x) (λ g. ok (got (f g.value) (h g.next))) ≡ ending (h q) (bind x (λ a. ok (f a)))
unfolding bind ending
made_ends q h f (no z) = refl
made_ends q h f (ok a) = refl

item-ends : (e q : ℕ) (x : Res Val) (y : Res Vals) (rest : ℕ → Res (Got Vals)) → rest e ≡ ending q y
    → bind (ending e x) (λ g. with_item g.value (rest g.next)) ≡ ending q (bind x (λ v. bind y (λ vs. ok (vcons v vs))))
unfolding bind ending with_item
item-ends e q (no z) y rest h = refl
item-ends e q (ok v) (no z) rest h = rw h
item-ends e q (ok v) (ok vs) rest h = rw h

absent-ends : (q : ℕ) (y : Res Parts) (rest : Res (Got Parts)) → rest ≡ ending q y → got_absent rest ≡ ending q (with_absent y)
unfolding bind ending got_absent with_absent
absent-ends q (no z) rest h = rw h
absent-ends q (ok ps) rest h = rw h

missing-ends : (q : ℕ) (x : Res Val) (y : Res Parts) (rest : Res (Got Parts)) → rest ≡ ending q y → bind x (λ v. got_present v rest) ≡ ending q (with_present x y)
unfolding bind ending got_present with_present
missing-ends q (no z) y rest h = refl
missing-ends q (ok v) (no z) rest h = rw h
missing-ends q (ok v) (ok ps) rest h = rw h

present-ends : (e q : ℕ) (x : Res Val) (y : Res Parts) (rest : ℕ → Res (Got Parts)) → rest e ≡ ending q y
    → bind (ending e x) (λ g. got_present g.value (rest g.next)) ≡ ending q (with_present x y)
unfolding bind ending got_present with_present
present-ends e q (no z) y rest h = refl
present-ends e q (ok v) (no z) rest h = rw h
present-ends e q (ok v) (ok ps) rest h = rw h

and_left : (a b : Bool) → (a && b) ≡ true → a ≡ true
and_left true b h = refl
and_left false b h = h

module _ (t : Table) (s : List ℕ) (d : ℕ) (value : Reader) (reads : Reads t s d value) where
  -- ---- lists

  items_mean : {q : ℕ} {f : Follows} {is : Items} (r : ℕ) → is_type t r ≡ true → Listed d s f is q → (n : ℕ) → item_count is ≤ n → items_at (λ u. value r u) s n f ≡ ending q (read_items (elements is t) r)
  unfolding items_at read_items elements follows_at ending bind
  items_mean r h no_item zero l = refl
  items_mean r h no_item (suc n) l = refl
  items_mean r h (item k a c m) zero l = absurd (omega arith)
  items_mean {q} r h (item {e = e} {j = j} {is = is} k a c m) (suc n) l =
      rw (reads.reads k r h) (item-ends e q (read j t r) (read_items (elements is t) r) (λ o. items_at (λ u. value r u) s n (after_part s o)) (rw a (items_mean r h m n (omega arith))))

  pub list-means : {is : Items} (r p q : ℕ) → is_type t (element_of t r) ≡ true → InArray d s is p q → list_at value t s r p ≡ ending q (bind (read_items (elements is t) (element_of t r)) (λ vs. ok (v_list vs)))
  unfolding list_at
  list-means {is} r p q h k = rw (items_mean (element_of t r) h k.listed (length s) k.few) (made_ends q (λ e. e) v_list (read_items (elements is t) (element_of t r)))

  -- ---- sequences as arrays

  surplus-means : {q : ℕ} {f : Follows} {is : Items} (r : ℕ) → Listed d s f is q → no_more (surplus_at d t s r f) ≡ ending q (surplus t r (elements is t))
  unfolding surplus_at no_more surplus elements ending bind
  surplus-means r no_item = refl
  surplus-means {q} r (item {p = p} {j = j} {is = is} k a c m) = go' (extensible t r) refl
    where
      go' : (b : Bool) → extensible t r ≡ b → no_more (surplus_at d t s r (Part p)) ≡ ending q (surplus t r (elements (icons j is) t))
      go' true w = rw (w, surplus_at, surplus, c)
      go' false w = rw (w, surplus_at, surplus, value-place k.value)

  -- one member's element, or none, and the members after it
  element-means : {q : ℕ} {f : Follows} {is : Items} (r o i n : ℕ) → is_type t (type_at t r i) ≡ true → Listed d s f is q
      → ((f : Follows) (is : Items) → Listed d s f is q → elements_at value d t s r o (suc i) n f ≡ ending q (read_elements t r o (elements is t) (suc i) n))
      → elements_at value d t s r o i (suc n) f ≡ ending q (read_elements t r o (elements is t) i (suc n))
  unfolding elements_at element_found element_then read_elements read_element elements
  element-means {q} r o i n h no_item ih = go' (may_miss t r i) refl
    where
      go' : (b : Bool) → may_miss t r i ≡ b → elements_at value d t s r o i (suc n) (Shut q) ≡ ending q (read_elements t r o [] i (suc n))
      go' true w = rw (w, element_found, read_element) (absent-ends q (read_elements t r o [] (suc i) n) _ (ih (Shut q) inil no_item))
      go' false w = rw (w, element_found, read_element) (missing-ends q (missing_element t r o i) (read_elements t r o [] (suc i) n) _ (ih (Shut q) inil no_item))
  element-means {q} r o i n h (item {p = p} {e = e} {f = f} {j = j} {is = is} k a c m) ih = go' (null? j && may_miss t r i) refl
    where
      rest : elements_at value d t s r o (suc i) n (after_part s e) ≡ ending q (read_elements t r o (elements is t) (suc i) n)
      rest = rw a (ih f is m)

      go' : (b : Bool) → (null? j && may_miss t r i) ≡ b → elements_at value d t s r o i (suc n) (Part p) ≡ ending q (read_elements t r o (elements (icons j is) t) i (suc n))
      go' true w = rw (null-at k, w, element_found, read_element, null-end k (and_left (null? j) (may_miss t r i) w)) (absent-ends q (read_elements t r o (elements is t) (suc i) n) _ rest)
      go' false w = rw (null-at k, w, element_found, read_element, reads.reads k (type_at t r i) h)
          (present-ends e q (read j t (type_at t r i)) (read_elements t r o (elements is t) (suc i) n) (λ u. elements_at value d t s r o (suc i) n (after_part s u)) rest)

  elements_mean : {q : ℕ} {f : Follows} {is : Items} (r o i n : ℕ) → ((k : ℕ) → i ≤ k → k < i + n → is_type t (type_at t r k) ≡ true) → Listed d s f is q
      → elements_at value d t s r o i n f ≡ ending q (read_elements t r o (elements is t) i n)
  unfolding elements_at read_elements
  elements_mean r o i zero h m = surplus-means r m
  elements_mean r o i (suc n) h m = element-means r o i n (h i (omega arith) (omega arith)) m (λ f is l. elements_mean r o (suc i) n (λ k a b. h k (omega arith) (omega arith)) l)

  pub array-means : {is : Items} (r p q : ℕ) → Sane t → is_type t r ≡ true → InArray d s is p q
      → array_at value d t s r p ≡ ending q (bind (read_elements t r p (elements is t) 0 (count_of t r)) (λ ps. ok (v_seq ps)))
  unfolding array_at
  array-means {is} r p q c h k =
      rw (elements_mean r p 0 (count_of t r) (λ i a b. c.member r i h (omega arith)) k.listed) (made_ends q (λ e. e) v_seq (read_elements t r p (elements is t) 0 (count_of t r)))
