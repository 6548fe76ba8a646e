-- The items of a list, one turn at a time. Assumes nothing.
use mathlib.Core.Path.{◌≡◌, refl, sym, ap, subst, ◌∙◌, fun_ext}
use mathlib.Core.List.{List, []}
use Prim.Native.Nat.{ℕ, zero, suc, ◌+◌, ◌-◌, ◌^◌, ◌<◌, ◌≤◌}
use native.Mathlib.Omega.{arith}
use lib.ListN.{length}
use Rattle.jer.specs.declared.Refusal.{Refusal}
use Rattle.jer.specs.Table.{Table}
use Rattle.jer.specs.Value.{Val, Vals, vnil, vcons}
use Rattle.jer.specs.Answer.{Res, ok, no, bind}
use Rattle.jer.specs.Rows.{ValueRow}
use Rattle.places.specs.declared.Follows.{Follows}
use Rattle.places.specs.declared.Follows.TheVariants.{Part, Shut}
use Rattle.places.specs.ByPlaces.{Got, got, follows_at, after_part, first_part, with_item, items_at}
use Rattle.scan.proofs.PartLaws.{first-inside, after-inside, first-within, after-within}
use Rattle.leaf.specs.Step.{Step, Stepped}
use Rattle.typed.proofs.StoredLaws.{Took, Items, items-start, items_more_lem, Sofar, sofar-start, sofar-more, no_rows}

-- ---- what follows is near

abbrev pub Near : ℕ → Follows → Type 0
Near b (Part q) = q ≤ 65536
Near b (Shut q) = q ≤ b

pub near_first : (s : List ℕ) (c p b : ℕ) (f : Follows) → length s ≤ 65536 → p < length s → 65540 ≤ b → f ≡ first_part s c p → Near b f
unfolding follows_at
near_first s c p b (Part q) l h k e = omega (arith, first-inside s c p q h (sym e))
near_first s c p b (Shut q) l h k e = let w = rw (← e) at (first-within s c p 65539 (omega arith) (omega arith)) in omega arith

pub near-after : (s : List ℕ) (x b : ℕ) (f : Follows) → length s ≤ 65536 → x < b → 65536 < b → f ≡ after_part s x → Near b f
unfolding follows_at
near-after s x b (Part q) l h k e = omega (arith, after-inside s x q (sym e))
near-after s x b (Shut q) l h k e = let w = rw (← e) at (after-within s x (b - 1) (omega arith) (omega arith)) in omega arith

pub near_part : (b : ℕ) {q : ℕ} {f : Follows} → f ≡ Part q → Near b f → q ≤ 65536
near_part b e h = subst (Near b) e h

pub near-shut : (b : ℕ) {q : ℕ} {f : Follows} → f ≡ Shut q → Near b f → q ≤ b
near-shut b e h = subst (Near b) e h

-- ---- results in two steps

pub bind-bind : {A B C : Type 0} (x : Res A) (f : A → Res B) (g : B → Res C) → bind (bind x f) g ≡ bind x (λ a. bind (f a) g)
unfolding bind
bind-bind (ok a) f g = refl
bind-bind (no e) f g = refl

pub bind-got : {A : Type 0} (x : Res (Got A)) → bind x (λ g. ok (got g.value g.next)) ≡ x
unfolding bind
bind-got (ok g) = refl
bind-got (no e) = refl

-- ---- the loop

-- the items from here on, put after the k items acc, are the whole
pub record Loop (value : ℕ → Res (Got Val)) (s : List ℕ) (t : Table) (e : ℕ) (X : Res (Got Vals)) (f : Follows) (i o n m k : ℕ) (rows₁ rows₀ pool₁ pool₀ : List ℕ) : Type 0 where
  pub acc : Vals → Vals
  pub ws : ℕ → List ValueRow
  pub ps : List ℕ
  pub items : Items t e acc ws ps k
  pub sofar : Sofar ws ps i o n m k rows₁ rows₀ pool₁ pool₀
  pub inv : bind (items_at value s (length s - k) f) (λ g. ok (got (acc g.value) g.next)) ≡ X
  pub few : k ≤ length s

pub loop_start : (value : ℕ → Res (Got Val)) (s : List ℕ) (t : Table) (e : ℕ) (h f : Follows) (i o : ℕ) (rows pool : List ℕ) → f ≡ h
    → Loop value s t e (items_at value s (length s) h) f i o 0 0 0 rows rows pool pool
loop_start value s t e h f i o rows pool w =
    let z : length s - 0 ≡ length s = omega arith in
    record { acc = λ g. g; ws = no_rows; ps = []; items = items-start t e; sofar = sofar-start i o rows pool; inv = rw (w, z) (bind-got (items_at value s (length s) h)); few = omega arith }

module _ {value : ℕ → Res (Got Val)} {s : List ℕ} {t : Table} {e : ℕ} {X : Res (Got Vals)} {f : Follows} {i o n m k : ℕ} {rows₁ rows₀ pool₁ pool₀ : List ℕ} (w : Loop value s t e X f i o n m k rows₁ rows₀ pool₁ pool₀) {q : ℕ} where
  -- no item is left
  pub loop_shut : f ≡ Shut q → ok (got (w.acc vnil) q) ≡ X
  unfolding items_at follows_at bind
  loop_shut h = go (length s - k) (rw h at w.inv)
    where
      go : (j : ℕ) → bind (items_at value s j (Shut q)) (λ g. ok (got (w.acc g.value) g.next)) ≡ X → ok (got (w.acc vnil) q) ≡ X
      go zero h = h
      go (suc j) h = h

  pub loop_full : f ≡ Part q → length s ≤ k → ok (got (w.acc vnil) q) ≡ X
  unfolding items_at follows_at bind
  loop_full h l = let z : length s - k ≡ 0 = omega arith in rw (h, z) at w.inv

  module _ (h : f ≡ Part q) (l : k < length s) where
    -- the next item, and the rest
    turn : bind (value q) (λ v. bind (items_at value s (length s - (k + 1)) (after_part s v.next)) (λ g. ok (got (w.acc (vcons v.value g.value)) g.next))) ≡ X
    unfolding items_at with_item bind
    turn = let z : length s - k ≡ suc (length s - (k + 1)) = omega arith in sym (split (value q)) ∙ rw (h, z) at w.inv
      where
        after : Got Val → Res (Got Vals)
        after v = bind (items_at value s (length s - (k + 1)) (after_part s v.next)) (λ g. ok (got (w.acc (vcons v.value g.value)) g.next))

        split : (x : Res (Got Val)) → bind (bind x (λ v. with_item v.value (items_at value s (length s - (k + 1)) (after_part s v.next)))) (λ g. ok (got (w.acc g.value) g.next)) ≡ bind x after
        split x = bind-bind x _ _ ∙ ap (λ (c : Got Val → Res (Got Vals)). bind x c) (fun_ext (λ v. bind-bind (items_at value s (length s - (k + 1)) (after_part s v.next)) _ _))

    pub loop_refused : {y : Refusal} → value q ≡ no y → no y ≡ X
    unfolding bind
    loop_refused h = rw h at turn

    pub loop_more : {z : Step} {rows₂ pool₂ : List ℕ} {y a b : ℕ} {u : Follows} (v : Took t e (value q) y a b) → Stepped z rows₂ rows₁ pool₂ pool₁ (i + 1 + n) (o + m) t e (value q)
        → a < 2 ^ 32 → b < 2 ^ 32 → length rows₂ ≡ length rows₁ → length pool₂ ≡ length pool₁ → u ≡ after_part s y
        → Loop value s t e X u i o (n + a) (m + b) (k + 1) rows₂ rows₀ pool₂ pool₀
    unfolding bind
    loop_more v st la lb h₁ h₂ c = record {
      acc = λ g. w.acc (vcons v.g.value g);
      ws = _;
      ps = _;
      items = items_more_lem w.items v.g.value;
      sofar = sofar-more w.sofar v st la lb h₁ h₂;
      inv = rw (c, ← v.next) (rw v.is at turn);
      few = omega arith;
    }
