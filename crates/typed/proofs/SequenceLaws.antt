-- The members of a sequence, as an array and as an object, one turn at a time. Assumes nothing.
use mathlib.Core.Path.{◌≡◌, refl, sym, ap, subst, ◌∙◌}
use mathlib.Core.List.{List, [], ◌∷◌}
use mathlib.Core.Bool.{Bool, true, false, ◌&&◌, not}
use Rattle.std.specs.Prelude.{Option, None, Some, Result, Ok, Err}
use Prim.Native.Nat.{ℕ, zero, suc, ◌+◌, ◌-◌, ◌*◌, ◌^◌, ◌<◌, ◌≤◌}
use native.Mathlib.Numerals.{add-one}
use native.Mathlib.Omega.{arith}
use borrow.Author.Tests.{eqb-false}
use lib.Count.{ones}
use lib.Dec.{eqb}
use lib.ListN.{length, get_or, set}
use lib.Seq.{sets}
use Rattle.jer.specs.declared.Cause.TheVariants.{Missing, UnknownName, RepeatedName}
use Rattle.jer.specs.declared.Refusal.TheVariants.{AtByte}
use Rattle.jer.specs.declared.Refusal.{Refusal}
use Rattle.jer.specs.Table.{Table, count_of, type_at, may_miss, extensible, position}
use Rattle.jer.specs.Value.{Val, v_seq, Parts, pnil, absent, present}
use Rattle.jer.specs.Answer.{Res, ok, no, bind, at}
use Rattle.jer.specs.Read.{null_absent, missing_element}
use Rattle.jer.specs.Rows.{ValueRow}
use Rattle.jer.proofs.WeightGot.{branch, cases}
use Rattle.tokens.specs.Places.{byte_at}
use Rattle.tokens.specs.Strings.{denoted}
use Rattle.tokens.specs.Skip.{is_end, is_between, is_closing, past_word, past_between, past_value, parts_past}
use Rattle.tokens.proofs.PlaceLaws.{inside}
use Rattle.places.specs.declared.Follows.{Follows}
use Rattle.places.specs.declared.Follows.TheVariants.{Part, Shut}
use Rattle.places.specs.declared.Scanned.{Scanned}
use Rattle.places.specs.declared.Stopped.{Stopped}
use Rattle.places.specs.declared.Member.{Member}
use Rattle.places.specs.declared.Member.TheVariants as member
use Rattle.places.specs.declared.Element.{Element}
use Rattle.places.specs.declared.Element.TheVariants as element
use Rattle.places.specs.ByPlaces.{Got, got, ending, Reader, follows_at, after_part, is_null_at, got_absent, got_present, surplus_at, no_more, element_found, element_then, elements_at, bit_of, with_bit, value_place, stopped, scan_at, member_found, member_then, no_places, object_at, first_part, members_at, after_scan}
use Rattle.scan.proofs.WithinLaws.{run-within, value-within}
use Rattle.scan.proofs.NameLaws.{place-within}
use Rattle.leaf.specs.Step.{Step, Stepped}
use Rattle.typed.proofs.StoredLaws.{Took, Members, members-start, members-gap, members-more, Sofar, sofar-start, sofar-gap, sofar-more, no_rows, ones-zero, ones_with, with_low, more-low}
use Rattle.typed.proofs.ListLaws.{Near, near-after, bind-bind, bind-got}

-- ---- the members done

-- acc puts the rest after them; `bits` has one bit for each that is present
pub record Done (t : Table) (r : ℕ) (acc : Parts → Parts) (i o n m k bits : ℕ) (rows₁ rows₀ pool₁ pool₀ : List ℕ) : Type 0 where
  pub ws : ℕ → List ValueRow
  pub ps : List ℕ
  pub c : ℕ
  pub members : Members t r k acc ws ps c
  pub sofar : Sofar ws ps i o n m k rows₁ rows₀ pool₁ pool₀
  pub count : ones bits ≡ c
  pub low : bits < 2 ^ k

done-start : (t : Table) (r i o : ℕ) (rows pool : List ℕ) → Done t r (λ g. g) i o 0 0 0 0 rows rows pool pool
done-start t r i o rows pool = record { ws = no_rows; ps = []; c = 0; members = members-start t r; sofar = sofar-start i o rows pool; count = ones-zero; low = omega arith }

module _ {t : Table} {r : ℕ} {acc : Parts → Parts} {i o n m k bits : ℕ} {rows₁ rows₀ pool₁ pool₀ : List ℕ} (f : Done t r acc i o n m k bits rows₁ rows₀ pool₁ pool₀) where
  done-gap : {rows₂ : List ℕ} → rows₂ ≡ sets rows₁ ((i + 1 + n) * 4) (15 ∷ 0 ∷ 0 ∷ 1 ∷ []) → length rows₂ ≡ length rows₁ → Done t r (λ g. acc (absent g)) i o (n + 1) m (k + 1) bits rows₂ rows₀ pool₁ pool₀
  done-gap e h = record { ws = _; ps = _; c = f.c; members = members-gap f.members; sofar = sofar-gap f.sofar e h; count = f.count; low = more-low bits k f.low }

  done_more : {x : Res (Got Val)} {z : Step} {rows₂ pool₂ : List ℕ} {y a b bits₂ : ℕ} (v : Took t (type_at t r k) x y a b) → Stepped z rows₂ rows₁ pool₂ pool₁ (i + 1 + n) (o + m) t (type_at t r k) x
      → a < 2 ^ 32 → b < 2 ^ 32 → length rows₂ ≡ length rows₁ → length pool₂ ≡ length pool₁ → bits₂ ≡ with_bit bits k
      → Done t r (λ g. acc (present v.g.value g)) i o (n + a) (m + b) (k + 1) bits₂ rows₂ rows₀ pool₂ pool₀
  done_more v st la lb h₁ h₂ e = record {
    ws = _;
    ps = _;
    c = f.c + 1;
    members = members-more f.members v.g.value;
    sofar = sofar-more f.sofar v st la lb h₁ h₂;
    count = rw e (ones_with bits k f.low ∙ omega (arith, f.count));
    low = rw e (with_low bits k f.low);
  }

-- ---- arrays

module _ (value : Reader) (d : ℕ) (t : Table) (s : List ℕ) (r p : ℕ) where
  -- the elements from here on, put after those done, are the whole
  pub record Elements (X : Res (Got Parts)) (f : Follows) (i o n m k bits : ℕ) (rows₁ rows₀ pool₁ pool₀ : List ℕ) : Type 0 where
    pub acc : Parts → Parts
    pub done : Done t r acc i o n m k bits rows₁ rows₀ pool₁ pool₀
    pub inv : bind (elements_at value d t s r p k (count_of t r - k) f) (λ g. ok (got (acc g.value) g.next)) ≡ X

  pub elements-start : (h f : Follows) (i o : ℕ) (rows pool : List ℕ) → f ≡ h → Elements (elements_at value d t s r p 0 (count_of t r) h) f i o 0 0 0 0 rows rows pool pool
  elements-start h f i o rows pool w =
      let z : count_of t r - 0 ≡ count_of t r = omega arith in
      record { acc = λ g. g; done = done-start t r i o rows pool; inv = rw (w, z) (bind-got (elements_at value d t s r p 0 (count_of t r) h)) }

  module _ {X : Res (Got Parts)} {f : Follows} {i o n m k bits : ℕ} {rows₁ rows₀ pool₁ pool₀ : List ℕ} (w : Elements X f i o n m k bits rows₁ rows₀ pool₁ pool₀) where
    module _ (l : k < count_of t r) {u : Element} (e : u ≡ element_found t s r k f) where
      turn : bind (element_then value t s r p k (λ h. elements_at value d t s r p (suc k) (count_of t r - (k + 1)) h) u) (λ g. ok (got (w.acc g.value) g.next)) ≡ X
      unfolding elements_at
      turn = let z : count_of t r - k ≡ suc (count_of t r - (k + 1)) = omega arith in rw e (rw z at w.inv)

    module _ (l : k < count_of t r) where
      pub elements-absent : {u : Follows} {rows₂ : List ℕ} → element.Absent u ≡ element_found t s r k f → rows₂ ≡ sets rows₁ ((i + 1 + n) * 4) (15 ∷ 0 ∷ 0 ∷ 1 ∷ []) → length rows₂ ≡ length rows₁
          → Elements X u i o (n + 1) m (k + 1) bits rows₂ rows₀ pool₁ pool₀
      unfolding element_then got_absent bind
      elements-absent {u} e h₁ h₂ = record {
        acc = λ g. w.acc (absent g);
        done = done-gap w.done h₁ h₂;
        inv = rw (add-one k) (sym (bind-bind (elements_at value d t s r p (suc k) (count_of t r - suc k) u) _ _)) ∙ turn l e;
      }

      module _ {q : ℕ} (e : element.Missing q ≡ element_found t s r k f) where
        pub elements_lost : {y : Refusal} → missing_element t r p k ≡ no y → no y ≡ X
        unfolding element_then bind
        elements_lost h = rw h at (turn l e)

        pub missing-shut : f ≡ Shut q
        unfolding element_found
        missing-shut = go f e
          where
            go : (f : Follows) → element.Missing q ≡ element_found t s r k f → f ≡ Shut q
            go (Shut y) h = cases (may_miss t r k) (λ z h. absurd (let z : ◌≡◌ {A = ℕ} 0 1 = cc in omega arith)) (λ z h. cc) (sym h)
            go (Part y) h = cases (is_null_at s y && may_miss t r k) (λ z h. absurd (let z : ◌≡◌ {A = ℕ} 0 1 = cc in omega arith)) (λ z h. absurd (let z : ◌≡◌ {A = ℕ} 0 1 = cc in omega arith)) (sym h)

        pub elements-null : {z : Step} {rows₂ pool₂ : List ℕ} {y a b bits₂ : ℕ} (v : Took t (type_at t r k) (ending q (missing_element t r p k)) y a b)
            → Stepped z rows₂ rows₁ pool₂ pool₁ (i + 1 + n) (o + m) t (type_at t r k) (ending q (missing_element t r p k))
            → a < 2 ^ 32 → b < 2 ^ 32 → length rows₂ ≡ length rows₁ → length pool₂ ≡ length pool₁ → bits₂ ≡ with_bit bits k → Elements X f i o (n + a) (m + b) (k + 1) bits₂ rows₂ rows₀ pool₂ pool₀
        unfolding element_then got_present bind ending
        elements-null v st la lb h₁ h₂ c = record {
          acc = λ g. w.acc (present v.g.value g);
          done = done_more w.done v st la lb h₁ h₂ c;
          inv = rw (add-one k, missing-shut) (sym (bind-bind (elements_at value d t s r p (suc k) (count_of t r - suc k) (Shut q)) _ _)) ∙ rw (ended (missing_element t r p k) v.is) at (turn l e);
        }
          where
            ended : (x : Res Val) → ending q x ≡ ok v.g → x ≡ ok v.g.value
            ended x h = go x h
              where
                go : (x : Res Val) → ending q x ≡ ok v.g → x ≡ ok v.g.value
                go (ok y) h = let z : got y q ≡ v.g = cc in ap (λ (g : Got Val). ok g.value) z
                go (no y) h = absurd (let z : ◌≡◌ {A = ℕ} 0 1 = cc in omega arith)

      module _ {q : ℕ} (e : element.There q ≡ element_found t s r k f) where
        pub elements-refused : {y : Refusal} → value (type_at t r k) q ≡ no y → no y ≡ X
        unfolding element_then bind
        elements-refused h = rw h at (turn l e)

        pub elements-more : {z : Step} {rows₂ pool₂ : List ℕ} {y a b bits₂ : ℕ} {u : Follows} (v : Took t (type_at t r k) (value (type_at t r k) q) y a b)
            → Stepped z rows₂ rows₁ pool₂ pool₁ (i + 1 + n) (o + m) t (type_at t r k) (value (type_at t r k) q)
            → a < 2 ^ 32 → b < 2 ^ 32 → length rows₂ ≡ length rows₁ → length pool₂ ≡ length pool₁ → bits₂ ≡ with_bit bits k → u ≡ after_part s y → Elements X u i o (n + a) (m + b) (k + 1) bits₂ rows₂ rows₀ pool₂ pool₀
        unfolding element_then got_present bind
        elements-more v st la lb h₁ h₂ c x = record {
          acc = λ g. w.acc (present v.g.value g);
          done = done_more w.done v st la lb h₁ h₂ c;
          inv = rw (add-one k, x, ← v.next) (sym (bind-bind (elements_at value d t s r p (suc k) (count_of t r - suc k) (after_part s v.g.next)) _ _)) ∙ rw v.is at (turn l e);
        }

    module _ (l : count_of t r ≤ k) where
      last : bind (no_more (surplus_at d t s r f)) (λ g. ok (got (w.acc g.value) g.next)) ≡ X
      unfolding elements_at
      last = let z : count_of t r - k ≡ 0 = omega arith in rw z at w.inv

      pub elements-end : {q : ℕ} → Ok q ≡ surplus_at d t s r f → ok (got (w.acc pnil) q) ≡ X
      unfolding no_more bind
      elements-end e = rw (← e) at last

      pub elements-surplus : {y : Refusal} → Err y ≡ surplus_at d t s r f → no y ≡ X
      unfolding no_more bind
      elements-surplus e = rw (← e) at last

-- ---- objects

module _ (value : Reader) (t : Table) (s : List ℕ) (r p met : ℕ) (places : List ℕ) where
  -- the members from here on, put after those done, are the whole
  pub record InOrder (X : Res Parts) (i o n m k bits : ℕ) (rows₁ rows₀ pool₁ pool₀ : List ℕ) : Type 0 where
    pub acc : Parts → Parts
    pub done : Done t r acc i o n m k bits rows₁ rows₀ pool₁ pool₀
    pub inv : bind (members_at value t s r p met places k (count_of t r - k)) (λ g. ok (acc g)) ≡ X

  bind_ok : {A : Type 0} (x : Res A) → bind x (λ g. ok g) ≡ x
  unfolding bind
  bind_ok (ok g) = refl
  bind_ok (no e) = refl

  pub order_start : (i o : ℕ) (rows pool : List ℕ) → InOrder (members_at value t s r p met places 0 (count_of t r)) i o 0 0 0 0 rows rows pool pool
  order_start i o rows pool =
      let z : count_of t r - 0 ≡ count_of t r = omega arith in
      record { acc = λ g. g; done = done-start t r i o rows pool; inv = rw z (bind_ok (members_at value t s r p met places 0 (count_of t r))) }

  module _ {X : Res Parts} {i o n m k bits : ℕ} {rows₁ rows₀ pool₁ pool₀ : List ℕ} (w : InOrder X i o n m k bits rows₁ rows₀ pool₁ pool₀) where
    module _ (l : k < count_of t r) {u : Member} (e : u ≡ member_found t s r k (bit_of met k) (get_or places k 0)) where
      step : bind (member_then value t r p k (members_at value t s r p met places (suc k) (count_of t r - (k + 1))) u) (λ g. ok (w.acc g)) ≡ X
      unfolding members_at
      step = let z : count_of t r - k ≡ suc (count_of t r - (k + 1)) = omega arith in rw e (rw z at w.inv)

    module _ (l : k < count_of t r) where
      pub order_missing : member.Missing ≡ member_found t s r k (bit_of met k) (get_or places k 0) → at (Missing k) p ≡ X
      unfolding member_then bind
      order_missing e = step l e

      pub order_absent : {rows₂ : List ℕ} → member.Absent ≡ member_found t s r k (bit_of met k) (get_or places k 0) → rows₂ ≡ sets rows₁ ((i + 1 + n) * 4) (15 ∷ 0 ∷ 0 ∷ 1 ∷ []) → length rows₂ ≡ length rows₁
          → InOrder X i o (n + 1) m (k + 1) bits rows₂ rows₀ pool₁ pool₀
      unfolding member_then bind
      order_absent e h₁ h₂ = record {
        acc = λ g. w.acc (absent g);
        done = done-gap w.done h₁ h₂;
        inv = rw (add-one k) (sym (bind-bind (members_at value t s r p met places (suc k) (count_of t r - suc k)) _ _)) ∙ step l e;
      }

      module _ {q : ℕ} (e : member.There q ≡ member_found t s r k (bit_of met k) (get_or places k 0)) where
        pub order_refused : {y : Refusal} → value (type_at t r k) q ≡ no y → no y ≡ X
        unfolding member_then bind
        order_refused h = rw h at (step l e)

        pub order_more : {z : Step} {rows₂ pool₂ : List ℕ} {y a b bits₂ : ℕ} (v : Took t (type_at t r k) (value (type_at t r k) q) y a b)
            → Stepped z rows₂ rows₁ pool₂ pool₁ (i + 1 + n) (o + m) t (type_at t r k) (value (type_at t r k) q)
            → a < 2 ^ 32 → b < 2 ^ 32 → length rows₂ ≡ length rows₁ → length pool₂ ≡ length pool₁ → bits₂ ≡ with_bit bits k → InOrder X i o (n + a) (m + b) (k + 1) bits₂ rows₂ rows₀ pool₂ pool₀
        unfolding member_then bind
        order_more v st la lb h₁ h₂ c = record {
          acc = λ g. w.acc (present v.g.value g);
          done = done_more w.done v st la lb h₁ h₂ c;
          inv = rw (add-one k) (sym (bind-bind (members_at value t s r p met places (suc k) (count_of t r - suc k)) _ _)) ∙ rw v.is at (step l e);
        }

    pub order_end : count_of t r ≤ k → ok (w.acc pnil) ≡ X
    unfolding members_at bind
    order_end l = let z : count_of t r - k ≡ 0 = omega arith in rw z at w.inv

-- an object whose names are good
module _ (value : Reader) (t : Table) (s : List ℕ) (r p : ℕ) (x : Scanned) where
  pub object-ok : {ps : Parts} → ok ps ≡ members_at value t s r p x.met x.places 0 (count_of t r) → ok (got (v_seq ps) x.next) ≡ after_scan value t s r p (Ok x)
  unfolding after_scan ending bind
  object-ok e = rw (← e)

  pub object-no : {y : Refusal} → no y ≡ members_at value t s r p x.met x.places 0 (count_of t r) → no y ≡ after_scan value t s r p (Ok x)
  unfolding after_scan ending bind
  object-no e = rw (← e)

-- ---- places

pub word-near : (s : List ℕ) (q m : ℕ) → length s ≤ m → q ≤ m → past_word s q ≤ m
unfolding past_word
word-near s q m l h = run-within (λ b. not (is_end b)) s m q l h

-- past the parts of a bracket
pub parts-near : (s : List ℕ) (m : ℕ) → length s < m → (v : ℕ → ℕ) → ((q : ℕ) → q ≤ m → v q ≤ m) → (n p : ℕ) → p ≤ m → parts_past v s n p ≤ m
unfolding parts_past past_between
parts-near s m l v w zero p h = h
parts-near s m l v w (suc n) p h =
    let b = run-within is_between s m p (omega arith) h in
    branch (λ q. q ≤ m) (eqb (byte_at s (past_between s p)) 256) (λ e. b)
    (λ e. let i = inside s (past_between s p) (eqb-false (byte_at s (past_between s p)) 256 e) in
    branch (λ q. q ≤ m) (is_closing (byte_at s (past_between s p))) (λ f. omega arith) (λ f. parts-near s m l v w n (v (past_between s p)) (w (past_between s p) b)))

pub surplus-near : (d : ℕ) (t : Table) (s : List ℕ) (r b q : ℕ) (f : Follows) → length s ≤ 65536 → 65537 ≤ b → Near b f → Ok q ≡ surplus_at d t s r f → q ≤ b
unfolding surplus_at
surplus-near d t s r b q (Shut y) l h n e = let z : q ≡ y = cc in omega arith
surplus-near d t s r b q (Part y) l h n e =
    cases (extensible t r)
    (λ x k. let z : q ≡ parts_past (λ p. past_value d s p) s (length s) y = cc in
    omega (arith, parts-near s 65537 (omega arith) (λ p. past_value d s p) (λ p k. value-within s 65537 (omega arith) d p k) (length s) y (omega arith)))
    (λ x k. absurd (let z : ◌≡◌ {A = ℕ} 0 1 = cc in omega arith)) (sym e)

-- where a scan ends
abbrev pub Ends : ℕ → Result Scanned Stopped → Type 0
Ends b (Ok x) = x.next ≤ b
Ends b (Err e) = Unit {0}

pub scan_near : (d : ℕ) (t : Table) (s : List ℕ) (r b : ℕ) → length s ≤ 65536 → 65540 ≤ b → (n : ℕ) (f : Follows) (met : ℕ) (places : List ℕ) → Near b f → Ends b (scan_at d t s r n f met places)
unfolding scan_at follows_at
scan_near d t s r b l h zero (Shut y) met places w = w
scan_near d t s r b l h zero (Part y) met places w = omega arith
scan_near d t s r b l h (suc n) (Shut y) met places w = w
scan_near d t s r b l h (suc n) (Part y) met places w = go (λ u us. scan_near d t s r b l h n (after_part s (past_value d s (value_place s y))) u us next) (position t r (denoted s (y + 1)))
  where
    next : Near b (after_part s (past_value d s (value_place s y)))
    next =
        let v = value-within s 65539 (omega arith) d (value_place s y) (omega (arith, place-within s y 65537 (omega arith) (omega arith))) in
        near-after s (past_value d s (value_place s y)) b (after_part s (past_value d s (value_place s y))) l (omega arith) (omega arith) refl

    go : ((u : ℕ) (us : List ℕ) → Ends b (scan_at d t s r n (after_part s (past_value d s (value_place s y))) u us)) → (c : Option ℕ) → Ends b (elim c as (λ z. Result Scanned Stopped) [
      | None ↦ elim (extensible t r) as (λ z. Result Scanned Stopped) [ true ↦ scan_at d t s r n (after_part s (past_value d s (value_place s y))) met places | false ↦ Err (stopped (AtByte UnknownName y) met places) ]
      | Some i ↦ elim (bit_of met i) as (λ z. Result Scanned Stopped) [ true ↦ Err (stopped (AtByte RepeatedName y) met places) | false ↦ scan_at d t s r n (after_part s (past_value d s (value_place s y))) (with_bit met i) (set places i (value_place s y)) ]
    ])
    go ih None = branch (Ends b) (extensible t r) (λ z. ih met places) (λ z. tt)
    go ih (Some i) = branch (Ends b) (bit_of met i) (λ z. tt) (λ z. ih (with_bit met i) (set places i (value_place s y)))

-- after an absent element
pub near-absent : (t : Table) (s : List ℕ) (r k b : ℕ) (f u : Follows) → length s ≤ 65536 → 65537 ≤ b → Near b f → element.Absent u ≡ element_found t s r k f → Near b u
unfolding element_found
near-absent t s r k b (Shut q) u l h n e = cases (may_miss t r k) (λ z g. let y : Shut q ≡ u = cc in subst (Near b) y n) (λ z g. absurd (let z : ◌≡◌ {A = ℕ} 0 1 = cc in omega arith)) (sym e)
near-absent t s r k b (Part q) u l h n e =
    cases (is_null_at s q && may_miss t r k)
    (λ z g. let y : u ≡ after_part s (past_word s q) = cc in near-after s (past_word s q) b u l (omega (arith, word-near s q 65536 l n)) (omega arith) y)
    (λ z g. absurd (let z : ◌≡◌ {A = ℕ} 0 1 = cc in omega arith)) (sym e)

-- ---- the member at a position, as the code finds it

pub member_is : (t : Table) (s : List ℕ) (r k met : ℕ) (places : List ℕ) {j q : ℕ} {b : Bool} {u : Member} → j ≡ k → q ≡ get_or places j 0 → b ≡ bit_of met k → u ≡ member_found t s r k b q → u ≡ member_found t s r k (bit_of met k) (get_or places k 0)
member_is t s r k met places e f g h = h ∙ rw (g, f, e)

pub there-place : (t : Table) (s : List ℕ) (r k : ℕ) (b : Bool) (p : ℕ) {q : ℕ} → member.There q ≡ member_found t s r k b p → q ≡ p
unfolding member_found
there-place t s r k b p {q} e = go b e
  where
    go : (b : Bool) → member.There q ≡ member_found t s r k b p → q ≡ p
    go false e = cases (may_miss t r k) (λ z h. absurd (let z : ◌≡◌ {A = ℕ} 0 1 = cc in omega arith)) (λ z h. absurd (let z : ◌≡◌ {A = ℕ} 0 1 = cc in omega arith)) (sym e)
    go true e = cases (is_null_at s p && null_absent t r k) (λ z h. absurd (let z : ◌≡◌ {A = ℕ} 0 1 = cc in omega arith)) (λ z h. cc) (sym e)

-- ---- an object, by its scan

module _ (value : Reader) (d : ℕ) (t : Table) (s : List ℕ) (r p : ℕ) where
  pub object-scanned : {x : Result Scanned Stopped} → x ≡ scan_at d t s r (length s) (first_part s 0x7D p) 0 no_places → after_scan value t s r p x ≡ object_at value d t s r p
  unfolding object_at
  object-scanned e = ap (after_scan value t s r p) e

  pub object_stopped : {x : Stopped} → Err x ≡ scan_at d t s r (length s) (first_part s 0x7D p) 0 no_places → no x.why ≡ object_at value d t s r p
  unfolding object_at after_scan
  object_stopped e = rw (← e, after_scan)

-- ---- an element that is there

pub near-follows : (b c : ℕ) (f : Follows) → b ≤ c → 65536 ≤ c → Near b f → follows_at f ≤ c
unfolding follows_at
near-follows b c (Part q) l h n = omega arith
near-follows b c (Shut q) l h n = omega arith

pub near-there : (t : Table) (s : List ℕ) (r k b : ℕ) (f : Follows) {q : ℕ} → Near b f → element.There q ≡ element_found t s r k f → q ≤ 65536
unfolding element_found
near-there t s r k b (Shut y) n e = cases (may_miss t r k) (λ z h. absurd (let z : ◌≡◌ {A = ℕ} 0 1 = cc in omega arith)) (λ z h. absurd (let z : ◌≡◌ {A = ℕ} 0 1 = cc in omega arith)) (sym e)
near-there t s r k b (Part y) {q} n e = cases (is_null_at s y && may_miss t r k) (λ z h. absurd (let z : ◌≡◌ {A = ℕ} 0 1 = cc in omega arith)) (λ z h. let w : q ≡ y = cc in omega arith) (sym e)
