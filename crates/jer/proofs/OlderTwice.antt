-- Cutting a value to a table between and then to an older one equals cutting it at once, unless both leave an item or alternative that
-- the older one lacks. What such an alternative holds may differ: the table between may have known it and cut inside it.
use Prim.Native.Nat.{ℕ, zero, suc, ◌+◌, ◌≤◌, ◌<◌}
use mathlib.Core.Path.{◌≡◌, refl, sym, ◌∙◌}
use mathlib.Core.Bool.{Bool, true, false, ◌||◌, or-true}
use native.Mathlib.Omega.{arith}
use lib.Dec.{ltb}
use borrow.Author.Tests.{ltb-true, ltb-false, lt-ltb, le-ltb}
use Rattle.jer.specs.Table.{Table, SEQUENCE-OF, kind_of, element_of, count_of, type_at}
use Rattle.jer.specs.Value.{Val, v_leaf, v_seq, v_list, v_choice, Vals, vnil, vcons, Parts, pnil, absent, present}
use Rattle.jer.specs.Fits.{Fits, f_leaf, f_seq, f_list, f_wrapped, f_unwrapped, FitsItems, no_item, item, FitsParts, no_member, absent_member, present_member}
use Rattle.jer.specs.Cut.{ByAdditions, cut, cut_items, cut_parts, cut_chosen, lacks, lacks_items, lacks_parts, lacks_chosen}
use Rattle.jer.proofs.OlderNames.{kind-same}
use Rattle.jer.proofs.OlderAgrees.{cut-none}

-- ---- equal, or both lack

pub data Unless {A : Type 0} (lack : A → Bool) : A → A → Type 0 where
  same : {a : A} → Unless lack a a
  both : {a b : A} → lack a ≡ true → lack b ≡ true → Unless lack a b

pub unless_then : {A : Type 0} {lack : A → Bool} {a b c : A} → Unless lack a b → Unless lack b c → Unless lack a c
unless_then same h = h
unless_then (both x y) same = both x y
unless_then (both x y) (both z w) = both x w

unless_map : {A B : Type 0} {l : A → Bool} {k : B → Bool} {a b : A} (f : A → B) → ((x : A) → k (f x) ≡ l x) → Unless l a b → Unless k (f a) (f b)
unless_map f e same = same
unless_map f e (both x y) = both (e _ ∙ x) (e _ ∙ y)

unless_two : {A B C : Type 0} {l : A → Bool} {k : B → Bool} {m : C → Bool} {a b : A} {c d : B} (f : A → B → C) → ((x : A) (y : B) → m (f x y) ≡ (l x || k y))
    → Unless l a b → Unless k c d → Unless m (f a c) (f b d)
unless_two f e same same = same
unless_two f e (same {a = x}) (both {a = c} {b = d} u w) = both (e x c ∙ rw (u, or-true)) (e x d ∙ rw (w, or-true))
unless_two {c = c} {d = d} f e (both {a = x} {b = y} u w) h = both (e x c ∙ rw u) (e y d ∙ rw w)

-- ---- values whose lists stand at rows of kind SEQUENCE OF, as far as the table knows them

abbrev mutual
  pub Shaped : Val → Table → ℕ → Type 0
  Shaped (v_leaf l) t r = Unit {0}
  Shaped (v_seq ps) t r = ShapedParts ps t r 0
  Shaped (v_list vs) t r = (kind_of t r ≡ SEQUENCE-OF) × ShapedItems vs t (element_of t r)
  Shaped (v_choice i v) t r = i < count_of t r → Shaped v t (type_at t r i)

  pub ShapedItems : Vals → Table → ℕ → Type 0
  ShapedItems vnil t r = Unit {0}
  ShapedItems (vcons v vs) t r = Shaped v t r × ShapedItems vs t r

  pub ShapedParts : Parts → Table → ℕ → ℕ → Type 0
  ShapedParts pnil t r i = Unit {0}
  ShapedParts (absent ps) t r i = ShapedParts ps t r (suc i)
  ShapedParts (present v ps) t r i = (i < count_of t r → Shaped v t (type_at t r i)) × ShapedParts ps t r (suc i)

chosen_shaped : (c : Bool) (i : ℕ) (w v : Val) (t : Table) (r : ℕ) → Shaped (v_choice i w) t r → Shaped (v_choice i v) t r → Shaped (cut_chosen c i w v) t r
unfolding cut_chosen
chosen_shaped true i w v t r h k = h
chosen_shaped false i w v t r h k = k

-- cutting keeps the shape, to whatever table
mutual
  unfolding cut

  pub cut_shaped : (v : Val) (t u : Table) (r s : ℕ) → Shaped v t r → Shaped (cut v u s) t r
  cut_shaped (v_leaf l) t u r s h = tt
  cut_shaped (v_seq ps) t u r s h = parts_shaped ps t u r s 0 0 (count_of u s) h
  cut_shaped (v_list vs) t u r s h = (h.0, items_shaped vs t u (element_of t r) (element_of u s) h.1)
  cut_shaped (v_choice i v) t u r s h = chosen_shaped (ltb i (count_of u s)) i (cut v u (type_at u s i)) v t r (λ l. cut_shaped v t u (type_at t r i) (type_at u s i) (h l)) h

  items_shaped : (vs : Vals) (t u : Table) (r s : ℕ) → ShapedItems vs t r → ShapedItems (cut_items vs u s) t r
  items_shaped vnil t u r s h = tt
  items_shaped (vcons v vs) t u r s h = (cut_shaped v t u r s h.0, items_shaped vs t u r s h.1)

  parts_shaped : (ps : Parts) (t u : Table) (r s i j n : ℕ) → ShapedParts ps t r i → ShapedParts (cut_parts ps u s j n) t r i
  parts_shaped pnil t u r s i j n h = tt
  parts_shaped (absent ps) t u r s i j zero h = tt
  parts_shaped (absent ps) t u r s i j (suc n) h = parts_shaped ps t u r s (suc i) (suc j) n h
  parts_shaped (present v ps) t u r s i j zero h = tt
  parts_shaped (present v ps) t u r s i j (suc n) h = (λ l. cut_shaped v t u (type_at t r i) (type_at u s j) (h.0 l), parts_shaped ps t u r s (suc i) (suc j) n h.1)

-- a value that fits the newer table has the shape in the older one
module _ {new old : Table} {R : ℕ → ℕ → Type 0} (pair : ByAdditions new old R) where
  mutual
    pub fits_shaped : {d a : ℕ} {v : Val} → Fits new d a v → (b : ℕ) → R a b → Shaped v old b
    fits_shaped (f_leaf f) b r = tt
    fits_shaped (f_seq k f) b r = fits-parts f b r
    fits_shaped (f_list {r = a} k f) b r = let e = sym (kind-same pair r) ∙ k in (e, fits-items f (element_of old b) (pair.elements a b r e))
    fits_shaped (f_wrapped {r = a} {i = i} k u l f) b r = λ h. fits_shaped f (type_at old b i) (pair.types a b i r h)
    fits_shaped (f_unwrapped {r = a} {i = i} u l f) b r = λ h. fits_shaped f (type_at old b i) (pair.types a b i r h)

    fits-items : {d a : ℕ} {vs : Vals} → FitsItems new d a vs → (b : ℕ) → R a b → ShapedItems vs old b
    fits-items no_item b r = tt
    fits-items (item f g) b r = (fits_shaped f b r, fits-items g b r)

    fits-parts : {d a i : ℕ} {ps : Parts} → FitsParts new d a i ps → (b : ℕ) → R a b → ShapedParts ps old b i
    fits-parts (no_member e) b r = tt
    fits-parts (absent_member l m g) b r = fits-parts g b r
    fits-parts (present_member {r = a} {i = i} l f g) b r = (λ h. fits_shaped f (type_at old b i) (pair.types a b i r h), fits-parts g b r)

-- ---- cutting twice

-- an alternative that the table lacks stays
chosen-stays : (known : Bool) (t : Table) (r i : ℕ) (w v : Val) → count_of t r ≤ i → lacks (cut (cut_chosen known i w v) t r) t r ≡ true
unfolding cut cut_chosen lacks lacks_chosen
chosen-stays true t r i w v l = let x = le-ltb i (count_of t r) l in rw x (rw x)
chosen-stays false t r i w v l = let x = le-ltb i (count_of t r) l in rw x (rw x)

module _ {mid old : Table} {S : ℕ → ℕ → Type 0} (pair : ByAdditions mid old S) where
  -- to the table between and then to the older one, beside at once
  abbrev Twice : Val → ℕ → ℕ → Type 0
  Twice v b c = Unless (λ w. lacks w old c) (cut (cut v mid b) old c) (cut v old c)

  abbrev TwiceItems : Vals → ℕ → ℕ → Type 0
  TwiceItems vs b c = Unless (λ ws. lacks_items ws old c) (cut_items (cut_items vs mid b) old c) (cut_items vs old c)

  -- the members from i on: m in the table between, n in the older one
  abbrev TwiceParts : Parts → ℕ → ℕ → ℕ → ℕ → ℕ → Type 0
  TwiceParts ps b c i m n = Unless (λ qs. lacks_parts qs old c i) (cut_parts (cut_parts ps mid b i m) old c i n) (cut_parts ps old c i n)

  choice_twice : (b c i : ℕ) (v : Val) → S b c → (i < count_of old c → Twice v (type_at mid b i) (type_at old c i)) → Twice (v_choice i v) b c
  unfolding cut cut_chosen lacks lacks_chosen
  choice_twice b c i v s h = go (ltb i (count_of old c)) refl
    where
      go : (t : Bool) → ltb i (count_of old c) ≡ t → Twice (v_choice i v) b c
      go true w =
          let l = ltb-true i (count_of old c) w in
          rw (lt-ltb i (count_of mid b) (omega (arith, pair.fewer b c s))) (rw w (unless_map (v_choice i) (λ x. rw w) (h l)))
      go false w = both (chosen-stays (ltb i (count_of mid b)) old c i _ v (ltb-false _ _ w)) (chosen-stays true old c i v v (ltb-false _ _ w))

  none_twice : (ps : Parts) (b c i m : ℕ) → TwiceParts ps b c i m zero
  none_twice ps b c i m = rw (cut-none old c i (cut_parts ps mid b i m), cut-none old c i ps) same

  mutual
    unfolding cut lacks

    pub cut_twice : (v : Val) (b c : ℕ) → S b c → Shaped v old c → Twice v b c
    cut_twice (v_leaf l) b c s h = same
    cut_twice (v_seq ps) b c s h = unless_map v_seq (λ x. refl) (parts_twice ps b c 0 (count_of mid b) (count_of old c) s (omega arith) (omega arith) h)
    cut_twice (v_list vs) b c s h = unless_map v_list (λ x. refl) (items_twice vs (element_of mid b) (element_of old c) (pair.elements b c s h.0) h.1)
    cut_twice (v_choice i v) b c s h = choice_twice b c i v s (λ l. cut_twice v (type_at mid b i) (type_at old c i) (pair.types b c i s l) (h l))

    items_twice : (vs : Vals) (b c : ℕ) → S b c → ShapedItems vs old c → TwiceItems vs b c
    items_twice vnil b c s h = same
    items_twice (vcons v vs) b c s h = unless_two vcons (λ x y. refl) (cut_twice v b c s h.0) (items_twice vs b c s h.1)

    parts_twice : (ps : Parts) (b c i m n : ℕ) → S b c → i + m ≡ count_of mid b → i + n ≡ count_of old c → ShapedParts ps old c i → TwiceParts ps b c i m n
    parts_twice pnil b c i m n s p q h = same
    parts_twice (absent ps) b c i m zero s p q h = none_twice (absent ps) b c i m
    parts_twice (absent ps) b c i zero (suc n) s p q h = absurd (omega (arith, pair.fewer b c s))
    parts_twice (absent ps) b c i (suc m) (suc n) s p q h = unless_map absent (λ x. refl) (parts_twice ps b c (suc i) m n s (omega arith) (omega arith) h)
    parts_twice (present v ps) b c i m zero s p q h = none_twice (present v ps) b c i m
    parts_twice (present v ps) b c i zero (suc n) s p q h = absurd (omega (arith, pair.fewer b c s))
    parts_twice (present v ps) b c i (suc m) (suc n) s p q h =
        let l : i < count_of old c = omega arith in
        unless_two present (λ x y. refl) (cut_twice v (type_at mid b i) (type_at old c i) (pair.types b c i s l) (h.0 l)) (parts_twice ps b c (suc i) m n s (omega arith) (omega arith) h.1)
