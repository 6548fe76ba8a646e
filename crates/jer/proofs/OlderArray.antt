-- Arrays: what an older table makes of the elements of a sequence and of the items of a list.
use Rattle.jer.specs.declared.Token.TheVariants as tok
use Prim.Native.Nat.{ℕ, zero, suc, ◌+◌, ◌≤◌, ◌<◌}
use mathlib.Core.Path.{◌≡◌, refl, sym, ◌∙◌}
use mathlib.Core.List.{List, ◌∷◌}
use mathlib.Core.Bool.{Bool, true, false, ◌&&◌}
use Rattle.std.specs.Prelude.{Option, None, Some}
use native.Mathlib.Omega.{arith}
use lib.Dec.{eqb}
use borrow.Author.Tests.{eqb-true}
use Rattle.jer.specs.declared.Cause.TheVariants.{OtherKind, Unknown}
use Rattle.jer.specs.Table.{Table, NULL, SEQUENCE-OF, kind_of, extensible, is_array, is_unwrapped, element_of, count_of, type_at, may_miss, open_unwrapped}
use Rattle.jer.specs.Value.{Val, v_null, v_seq, v_list, v_choice, Vals, vcons, Parts}
use Rattle.jer.specs.Answer.{Res, ok, bind, at}
use Rattle.jer.specs.Read.{Element, null_value, missing_element, read_element, surplus, read_elements, read_items, read_array}
use Rattle.jer.specs.Cut.{ByAdditions, cut, lacks, cut_items, lacks_items, cut_parts, lacks_parts}
use Rattle.jer.proofs.WeightGot.{cases, refused, got, steps}
use Rattle.jer.proofs.OlderNames.{kind-same, Found, known, added, neither, extensible-same, array_same, unwrapped-same, miss-same, alternative-found}
use Rattle.jer.proofs.OlderAgrees.{Agrees, reads, agrees-map, agrees-both, AgreesAt, Follows, TwinElement, twin_element, Each, end, more, PartsAgree, absent-agrees, present-agrees, none-agree}
use Rattle.jer.proofs.OlderChoice.{refused-both, null-agrees, chosen-known, chosen-added}

-- ---- a missing element

-- the null value of the newer type, and of the older one at b
pub data NullFound (old : Table) (b : ℕ) : Option Val → Option Val → Type 0 where
  of_null : NullFound old b (Some v_null) (Some v_null)
  of_known : {i : ℕ} → i < count_of old b → NullFound old b (Some (v_choice i v_null)) (Some (v_choice i v_null))
  of_added : {i : ℕ} → count_of old b ≤ i → open_unwrapped old b ≡ true → NullFound old b (Some (v_choice i v_null)) None
  no_null : NullFound old b None None

module _ {new old : Table} {R : ℕ → ℕ → Type 0} (pair : ByAdditions new old R) {a b : ℕ} (r : R a b) where
  null-found : NullFound old b (null_value new a) (null_value old b)
  unfolding null_value open_unwrapped
  null-found = go (is_unwrapped old b) refl
    where
      unwrapped : {x y : Option ℕ} → Found (count_of old b) (count_of new a) x y → is_unwrapped old b ≡ true
          → NullFound old b (elim x [ None ↦ None | Some i ↦ Some (v_choice i v_null) ]) (elim y [ None ↦ None | Some i ↦ Some (v_choice i v_null) ])
      unwrapped (known l) w = of_known l
      unwrapped (added l u) w = of_added l (rw (w, pair.grown a b r (omega arith)))
      unwrapped neither w = no_null

      other : (c : Bool) → NullFound old b (elim c [ true ↦ Some v_null | false ↦ None ]) (elim c [ true ↦ Some v_null | false ↦ None ])
      other true = of_null
      other false = no_null

      go : (c : Bool) → is_unwrapped old b ≡ c → NullFound old b (null_value new a) (null_value old b)
      go true w = rw (unwrapped-same pair r, w, null_value) (unwrapped (alternative-found pair r tok.Null) w)
      go false w = rw (unwrapped-same pair r, w, null_value) (rw (kind-same pair r) (other (eqb (kind_of old b) NULL)))

  -- the newer's null value, or else f, beside the older's, or else g
  null-value-agrees : {x y : Option Val} (o : ℕ) (f g : Res Val) (v : Val) → NullFound old b x y → (open_unwrapped old b ≡ true → g ≡ at Unknown o) → (f ≡ ok v → ⊥)
      → elim x as (λ x. Res Val) [ Some u ↦ ok u | None ↦ f ] ≡ ok v → AgreesAt old b (elim y as (λ x. Res Val) [ Some u ↦ ok u | None ↦ g ]) v
  unfolding bind
  null-value-agrees o f g v of_null h n e = null-agrees old b v e
  null-value-agrees o f g v (of_known {i = i} l) h n e = chosen-known pair {m = λ q. ok v_null} {n = λ q. ok v_null} a b i r l (λ c d s. null-agrees old d) v e
  null-value-agrees o f g v (of_added {i = i} l k) h n e = rw (h k) (chosen-added pair b i o l (ok v_null) v e)
  null-value-agrees o f g v no_null h n e = absurd (n e)

module _ {new old : Table} {R : ℕ → ℕ → Type 0} (pair : ByAdditions new old R) {a b : ℕ} (r : R a b) where
  missing-agrees : (o i : ℕ) → i < count_of old b → (v : Val) → missing_element new a o i ≡ ok v → AgreesAt old (type_at old b i) (missing_element old b o i) v
  unfolding missing_element
  missing-agrees o i l v e =
      let s = pair.types a b i r l in
      null-value-agrees pair s o _ _ v (null-found pair s) (λ w. rw w) (refused-both (open_unwrapped new (type_at new a i)) _ _) e

  -- ---- elements in member order

  none-agrees : (o i n : ℕ) (u w : Res Parts) → i < count_of old b → PartsAgree old b (suc i) n u w → PartsAgree old b i (suc n) (read_element new a o i None u) (read_element old b o i None w)
  unfolding read_element
  none-agrees o i n u w l h ps e =
      cases (may_miss old b i)
      (λ q f. rw (q, read_element) (absent-agrees old b i n u w h ps f))
      (λ q f. rw (q, read_element) (present-agrees old b i n _ _ u w (missing-agrees o i l) h ps f))
      (rw (miss-same pair r i l, read_element) at e)

  element-agrees : {e f : Element} (o i n : ℕ) (u w : Res Parts) → i < count_of old b → TwinElement old R e f → PartsAgree old b (suc i) n u w
      → PartsAgree old b i (suc n) (read_element new a o i (Some e) u) (read_element old b o i (Some f) w)
  unfolding read_element
  element-agrees o i n u w l (twin_element {z = z} t) h ps e =
      cases (z && may_miss old b i)
      (λ q f. rw (q, read_element) (absent-agrees old b i n u w h ps f))
      (λ q f. rw (q, read_element) (present-agrees old b i n _ _ u w (t _ _ (pair.types a b i r l)) h ps f))
      (rw (miss-same pair r i l, read_element) at e)

  -- The older skips what is left, unless it is not extensible; then it has as many members as the newer one, which read the same.
  surplus-agrees : {es fs : List Element} (i : ℕ) (x : Res Parts) → Each (TwinElement old R) es fs → (extensible old b ≡ false → x ≡ surplus new a es) → PartsAgree old b i zero x (surplus old b fs)
  unfolding surplus
  surplus-agrees i x end h ps e = none-agree old b i x ps e
  surplus-agrees i x (more {f = f} {fs = fs} t ts) h ps e = go (extensible old b) refl
    where
      go : (c : Bool) → extensible old b ≡ c → Agrees (surplus old b (f ∷ fs)) (cut_parts ps old b i zero) (lacks_parts (cut_parts ps old b i zero) old b i)
      go true w = rw (w, surplus) (none-agree old b i x ps e)
      go false w = refused (rw (extensible-same pair r, w, surplus) at (sym (h w) ∙ e))

  elements-agree : {es fs : List Element} (o i n m : ℕ) → i + n ≡ count_of old b → i + m ≡ count_of new a → Each (TwinElement old R) es fs
      → PartsAgree old b i n (read_elements new a o es i m) (read_elements old b o fs i n)
  unfolding read_elements
  elements-agree o i zero zero p q t = surplus-agrees i _ t (λ w. refl)
  elements-agree o i zero (suc m) p q t = surplus-agrees i _ t (λ w. absurd (let g = pair.grown a b r (omega arith) in let z : ◌≡◌ {A = ℕ} 0 1 = cc in omega arith))
  elements-agree o i (suc n) zero p q t = absurd (let z = pair.fewer a b r in omega arith)
  elements-agree o i (suc n) (suc m) p q end = none-agrees o i n _ _ (omega arith) (elements-agree o (suc i) n m (omega arith) (omega arith) end)
  elements-agree o i (suc n) (suc m) p q (more t ts) = element-agrees o i n _ _ (omega arith) t (elements-agree o (suc i) n m (omega arith) (omega arith) ts)

  parts-agree : {es fs : List Element} (o : ℕ) → Each (TwinElement old R) es fs → (v : Val) → bind (read_elements new a o es 0 (count_of new a)) (λ ps. ok (v_seq ps)) ≡ ok v
      → AgreesAt old b (bind (read_elements old b o fs 0 (count_of old b)) (λ ps. ok (v_seq ps))) v
  unfolding cut lacks
  parts-agree {es} o t v e =
      let l = steps (read_elements new a o es 0 (count_of new a)) _ v e in
      rw (← got l.then) (agrees-map v_seq (elements-agree o 0 (count_of old b) (count_of new a) (omega arith) (omega arith) t l.val l.first))

  sequence-agrees : {es fs : List Element} (o : ℕ) → Each (TwinElement old R) es fs → (v : Val)
      → elim (is_array new a) as (λ c. Res Val) [ true ↦ bind (read_elements new a o es 0 (count_of new a)) (λ ps. ok (v_seq ps)) | false ↦ at OtherKind o ] ≡ ok v
      → AgreesAt old b (elim (is_array old b) as (λ c. Res Val) [ true ↦ bind (read_elements old b o fs 0 (count_of old b)) (λ ps. ok (v_seq ps)) | false ↦ at OtherKind o ]) v
  sequence-agrees o t v e = cases (is_array old b) (λ w f. rw w (parts-agree o t v f)) (λ w f. refused f) (rw (array_same pair r) at e)

-- ---- items

items-agree : {old : Table} {R : ℕ → ℕ → Type 0} {es fs : List Element} (a b : ℕ) → R a b → Each (TwinElement old R) es fs → (vs : Vals) → read_items es a ≡ ok vs
    → Agrees (read_items fs b) (cut_items vs old b) (lacks_items (cut_items vs old b) old b)
unfolding read_items cut lacks
items-agree a b r end vs e = rw (← got e) reads
items-agree a b r (more {es = es} (twin_element {m = m} h) ts) vs e =
    let k = steps (m a) _ vs e in
    let l = steps (read_items es a) _ vs k.then in
    rw (← got l.then) (agrees-both vcons (h a b r k.val k.first) (items-agree a b r ts l.val l.first))

-- ---- an array

module _ {new old : Table} {R : ℕ → ℕ → Type 0} (pair : ByAdditions new old R) {es fs : List Element} (t : Each (TwinElement old R) es fs) where
  list-agrees : (a b : ℕ) → R a b → kind_of old b ≡ SEQUENCE-OF → (v : Val) → bind (read_items es (element_of new a)) (λ vs. ok (v_list vs)) ≡ ok v
      → AgreesAt old b (bind (read_items fs (element_of old b)) (λ vs. ok (v_list vs))) v
  unfolding cut lacks
  list-agrees a b r k v e =
      let l = steps (read_items es (element_of new a)) _ v e in
      rw (← got l.then) (agrees-map v_list (items-agree _ _ (pair.elements a b r k) t l.val l.first))

  pub array-follows : (o : ℕ) → Follows old R (read_array new o es) (read_array old o fs)
  unfolding read_array
  array-follows o a b r v e =
      cases (eqb (kind_of old b) SEQUENCE-OF)
      (λ w f. rw (w, read_array) (list-agrees a b r (eqb-true _ _ w) v f))
      (λ w f. rw (w, read_array) (sequence-agrees pair r o t v f))
      (rw (kind-same pair r, read_array) at e)
