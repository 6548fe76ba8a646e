-- What one result reads, the other reads too: laws of results, and arrays with nulls at the end.
use Rattle.jer.specs.declared.Token.TheVariants as tok
use Prim.Native.Nat.{ℕ, zero, suc, ◌+◌, ◌≤◌, ◌<◌}
use mathlib.Core.Path.{◌≡◌, refl, ap, ◌∙◌}
use mathlib.Core.List.{List, [], ◌∷◌}
use mathlib.Core.Bool.{Bool, true, false, ◌&&◌}
use Rattle.std.specs.Prelude.{Option, None, Some}
use native.Mathlib.Omega.{arith}
use lib.Dec.{eqb}
use borrow.Author.Tests.{eqb-true}
use Rattle.json_text.specs.Tree.{jnull}
use Rattle.jer.specs.Table.{Table, NULL, kind_of, extensible, is_unwrapped, count_of, type_at, may_miss, alternative, open_unwrapped}
use Rattle.jer.specs.Value.{Val, v_null, v_choice, vcons, Parts, absent, present}
use Rattle.jer.specs.Answer.{Res, ok, bind}
use Rattle.jer.specs.Read.{Element, with_absent, with_present, null_value, missing_element, read_element, surplus, read_elements, read_items, null?, read}
use Rattle.jer.specs.Moved.{token_in}
use Rattle.jer.specs.Skipped.{SameAnswer, same_value, same_number}
use Rattle.jer.proofs.JudgeRead.{null-kind}
use Rattle.jer.proofs.ValidLaws.{alternative-some}
use Rattle.jer.proofs.WeightGot.{cases, refused, nothing, got, found, steps}
use Rattle.jer.proofs.OlderAgrees.{Each, end, more}
use Rattle.jer.proofs.OlderChoice.{refused-both}
use Rattle.jer.proofs.SpellRead.{null-read, null-is-value}
use Rattle.jer.proofs.AlikeRead.{wrapped, picked_as}
use Rattle.jer.proofs.AlikeSame.{same_cause, same_test}
use Rattle.jer.proofs.AlikeArray.{done, rest, elements_same}

-- ---- results

pub record Keeps {A : Type 0} (x y : Res A) : Type 0 where
  pub keeps : (a : A) → x ≡ ok a → y ≡ ok a

pub keeps_same : {A : Type 0} {x y : Res A} → SameAnswer x y → Keeps x y
keeps_same same_value = record { keeps = λ a e. e }
keeps_same (same_number n) = record { keeps = λ a e. refused e }

pub keeps-bind : {A B : Type 0} {x y : Res A} {f g : A → Res B} → Keeps x y → ((a : A) → Keeps (f a) (g a)) → Keeps (bind x f) (bind y g)
unfolding bind
keeps-bind {x = x} {f = f} h k = record { keeps = λ b e. let s = steps x f b e in rw (h.keeps s.val s.first, bind) ((k s.val).keeps b s.then) }

pub keeps-map : {A B : Type 0} {x y : Res A} (f : A → B) → Keeps x y → Keeps (bind x (λ a. ok (f a))) (bind y (λ a. ok (f a)))
keeps-map f h = keeps-bind h (λ a. record { keeps = λ b e. e })

pub keeps-test : {A : Type 0} (c : Bool) {x y u w : Res A} → Keeps x y → Keeps u w → Keeps {A = A} (elim c [ true ↦ x | false ↦ u ]) (elim c [ true ↦ y | false ↦ w ])
keeps-test true h k = h
keeps-test false h k = k

pub keeps-absent : {x y : Res Parts} → Keeps x y → Keeps (with_absent x) (with_absent y)
unfolding with_absent
keeps-absent h = keeps-map absent h

pub keeps-present : {v w : Res Val} {x y : Res Parts} → Keeps v w → Keeps x y → Keeps (with_present v x) (with_present w y)
unfolding with_present
keeps-present g h = keeps-bind g (λ v. keeps-map (present v) h)

-- ---- items

abbrev pub KeptAt : ℕ → Element → Element → Type 0
KeptAt r e f = Keeps (e.means r) (f.means r)

pub items_kept : (r : ℕ) {es fs : List Element} → Each (KeptAt r) es fs → Keeps (read_items es r) (read_items fs r)
unfolding read_items
items_kept r end = keeps_same same_value
items_kept r (more h t) = keeps-bind h (λ v. keeps-map (vcons v) (items_kept r t))

-- ---- null and a missing element

-- the null value is what null is read as
pub value-of-null : (t : Table) (r p : ℕ) (v : Val) → null_value t r ≡ Some v → read (jnull p) t r ≡ ok v
unfolding null_value token_in bind
value-of-null t r p v =
    cases (is_unwrapped t r) (λ w. chosen (alternative t r tok.Null) refl w) (λ w. cases (eqb (kind_of t r) NULL) (λ k e. null-read t r p (eqb-true _ _ k) ∙ ap ok (found e)) (λ k e. nothing e))
  where
    chosen : (x : Option ℕ) → alternative t r tok.Null ≡ x → is_unwrapped t r ≡ true → ◌≡◌ {A = Option Val} (elim x [ None ↦ None | Some i ↦ Some (v_choice i v_null) ]) (Some v) → read (jnull p) t r ≡ ok v
    chosen None a w e = nothing e
    chosen (Some i) a w e =
        let k = null-kind t (type_at t r i) (alternative-some t r tok.Null i a).1 in
        picked_as (jnull p) t r i w a (wrapped t _ NULL k (λ z. omega arith)) ∙ rw (null-read t (type_at t r i) p k) (ap ok (found e))

module _ (t : Table) (r o u i : ℕ) where
  null-dropped : Keeps (read (jnull o) t (type_at t r i)) (missing_element t r u i)
  unfolding missing_element null?
  null-dropped = record { keeps = λ v e. rw (null-is-value (jnull o) t (type_at t r i) v refl e, missing_element) }

  null-added : Keeps (missing_element t r o i) (read (jnull u) t (type_at t r i))
  unfolding missing_element
  null-added = record { keeps = λ v. go (null_value t (type_at t r i)) refl v }
    where
      go : (x : Option Val) → null_value t (type_at t r i) ≡ x → (v : Val) → missing_element t r o i ≡ ok v → read (jnull u) t (type_at t r i) ≡ ok v
      go None n v e = refused-both (open_unwrapped t (type_at t r i)) _ _ (rw (n, missing_element) at e)
      go (Some w) n v e = value-of-null t (type_at t r i) u v (n ∙ ap Some (got (rw (n, missing_element) at e)))

-- ---- elements in member order

-- what the elements es from i on are read as, fs are read as too, whatever n members are left
abbrev pub KeptFrom : Table → ℕ → ℕ → List Element → List Element → Type 0
KeptFrom t r i es fs = (o u n : ℕ) → i + n ≡ count_of t r → Keeps (read_elements t r o es i n) (read_elements t r u fs i n)

-- the element that null is
abbrev null_element : Table → ℕ → Element
null_element t p = record { place = p; is_null = true; means = λ r. read (jnull p) t r }

module _ (t : Table) (r i : ℕ) where
  pub none_kept : KeptFrom t r i [] []
  none_kept o u n c = keeps_same (elements_same t r o u i n c done)

  pub element-kept : (e f : Element) (es fs : List Element) → e.is_null ≡ f.is_null → Keeps (e.means (type_at t r i)) (f.means (type_at t r i)) → KeptFrom t r (suc i) es fs
      → KeptFrom t r i (e ∷ es) (f ∷ fs)
  unfolding read_elements read_element surplus
  element-kept e f es fs z h hs o u zero c = keeps_same (same_test (extensible t r) same_value (same_cause _ _ _))
  element-kept e f es fs z h hs o u (suc n) c =
      let k = hs o u n (omega arith) in rw (z, read_element) (keeps-test (f.is_null && may_miss t r i) (keeps-absent k) (keeps-present h k))

  pub dropped-kept : (p : ℕ) (es : List Element) → i < count_of t r → KeptFrom t r (suc i) es [] → KeptFrom t r i (null_element t p ∷ es) []
  unfolding read_elements read_element
  dropped-kept p es l hs o u zero c = absurd (omega arith)
  dropped-kept p es l hs o u (suc n) c = let k = hs o u n (omega arith) in keeps-test (may_miss t r i) (keeps-absent k) (keeps-present (null-dropped t r p u i) k)

  pub added-kept : (q : ℕ) (fs : List Element) → i < count_of t r → KeptFrom t r (suc i) [] fs → KeptFrom t r i [] (null_element t q ∷ fs)
  unfolding read_elements read_element
  added-kept q fs l hs o u zero c = absurd (omega arith)
  added-kept q fs l hs o u (suc n) c = let k = hs o u n (omega arith) in keeps-test (may_miss t r i) (keeps-absent k) (keeps-present (null-added t r o q i) k)

  pub surplus-kept : (es fs : List Element) → count_of t r ≤ i → extensible t r ≡ true → KeptFrom t r i es fs
  surplus-kept es fs l x o u n c = keeps_same (elements_same t r o u i n c (rest l x))
