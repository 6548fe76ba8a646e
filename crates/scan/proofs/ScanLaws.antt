-- The scan of an object's names, one turn at a time. Assumes nothing.
use mathlib.Core.Path.{◌≡◌, sym, subst}
use mathlib.Core.List.{List}
use mathlib.Core.Bool.{true, false}
use Rattle.std.specs.Prelude.{None, Some, Result, Ok, Err}
use Prim.Native.Nat.{ℕ, zero, suc, ◌+◌, ◌-◌, ◌<◌, ◌≤◌}
use native.Mathlib.Omega.{arith}
use lib.ListN.{length, set}
use Rattle.jer.specs.declared.Cause.TheVariants.{UnknownName, RepeatedName}
use Rattle.jer.specs.declared.Refusal.TheVariants.{AtByte}
use Rattle.jer.specs.Table.{Table, extensible, position}
use Rattle.tokens.specs.Strings.{denoted}
use Rattle.tokens.specs.Skip.{past_value}
use Rattle.places.specs.declared.Follows.{Follows}
use Rattle.places.specs.declared.Follows.TheVariants.{Part, Shut}
use Rattle.places.specs.declared.Scanned.{Scanned}
use Rattle.places.specs.declared.Stopped.{Stopped}
use Rattle.places.specs.ByPlaces.{follows_at, after_part, first_part, bit_of, with_bit, value_place, scanned, stopped, scan_at, no_places}
use Rattle.scan.proofs.WithinLaws.{value-onward}
use Rattle.scan.proofs.PartLaws.{first-inside, after-inside}
use Rattle.scan.proofs.NameLaws.{place-ahead}

-- what is left of the text at the next name
pub left : List ℕ → Follows → ℕ
left s (Part q) = suc (length s - q)
left s (Shut q) = 0

-- so many names are enough
abbrev Enough : List ℕ → ℕ → Follows → Type 0
Enough s k (Part q) = (q ≤ length s) × (length s < k + q)
Enough s k (Shut q) = Unit {0}

-- what follows the value of the name at q
abbrev pub beyond : ℕ → List ℕ → ℕ → Follows
beyond d s q = after_part s (past_value d s (value_place s q))

module _ (d : ℕ) (s : List ℕ) (q : ℕ) where
  beyond-inside : (n : ℕ) → beyond d s q ≡ Part n → (q < n) × (n ≤ length s)
  beyond-inside n e = omega (arith, after-inside s (past_value d s (value_place s q)) n e, value-onward s (value_place s q) d, place-ahead s q)

  -- with one name less
  beyond-enough : (k : ℕ) → length s ≤ k + q → (f : Follows) → f ≡ beyond d s q → Enough s k f
  beyond-enough k l (Part n) e = omega (arith, beyond-inside n (sym e))
  beyond-enough k l (Shut n) e = tt

  pub falls : {g : Follows} (f : Follows) → q ≤ length s → g ≡ Part q → f ≡ beyond d s q → left s f < left s g
  unfolding left
  falls (Part n) l e h = rw e (omega (arith, beyond-inside n (sym h)))
  falls (Shut n) l e h = rw e (omega arith)

module _ (d : ℕ) (t : Table) (s : List ℕ) (r : ℕ) where
  -- the scan from here on is the whole
  pub record Loop (X : Result Scanned Stopped) (f : Follows) (met : ℕ) (places : List ℕ) : Type 0 where
    pub k : ℕ
    pub enough : Enough s k f
    pub inv : scan_at d t s r k f met places ≡ X

  -- and from the name at q on
  pub record Turn (X : Result Scanned Stopped) (q met : ℕ) (places : List ℕ) : Type 0 where
    pub k : ℕ
    pub within : q ≤ length s
    pub enough : length s ≤ k + q
    pub inv : scan_at d t s r (suc k) (Part q) met places ≡ X

  pub loop_start : (c p : ℕ) (f : Follows) → p < length s → f ≡ first_part s c p → Loop (scan_at d t s r (length s) (first_part s c p) 0 no_places) f 0 no_places
  loop_start c p (Part q) l e = record { k = length s; enough = omega (arith, first-inside s c p q l (sym e)); inv = rw e }
  loop_start c p (Shut q) l e = record { k = length s; enough = tt; inv = rw e }

  module _ {X : Result Scanned Stopped} {f : Follows} {met : ℕ} {places : List ℕ} (w : Loop X f met places) where
    pub loop_shut : {q : ℕ} → f ≡ Shut q → Ok (scanned q met places) ≡ X
    unfolding scan_at follows_at
    loop_shut {q} e = go w.k (rw e at w.inv)
      where
        go : (k : ℕ) → scan_at d t s r k (Shut q) met places ≡ X → Ok (scanned q met places) ≡ X
        go zero h = h
        go (suc k) h = h

    pub loop_turn : {q : ℕ} → f ≡ Part q → Turn X q met places
    loop_turn {q} e = go w.k (subst (λ (g : Follows). Enough s w.k g) e w.enough) (rw e at w.inv)
      where
        go : (k : ℕ) → Enough s k (Part q) → scan_at d t s r k (Part q) met places ≡ X → Turn X q met places
        go zero h i = absurd (omega arith)
        go (suc k) h i = record { k = k; within = h.0; enough = omega arith; inv = i }

  module _ {X : Result Scanned Stopped} {q met : ℕ} {places : List ℕ} (w : Turn X q met places) where
    pub turn-unknown : position t r (denoted s (q + 1)) ≡ None → extensible t r ≡ false → Err (stopped (AtByte UnknownName q) met places) ≡ X
    unfolding scan_at
    turn-unknown e x = rw x at (rw (e, scan_at) at w.inv)

    pub turn_repeated : {i : ℕ} → position t r (denoted s (q + 1)) ≡ Some i → bit_of met i ≡ true → Err (stopped (AtByte RepeatedName q) met places) ≡ X
    unfolding scan_at
    turn_repeated e x = rw x at (rw (e, scan_at) at w.inv)

    module _ {f : Follows} (n : f ≡ beyond d s q) where
      pub turn-skipped : position t r (denoted s (q + 1)) ≡ None → extensible t r ≡ true → Loop X f met places
      unfolding scan_at
      turn-skipped e x = record { k = w.k; enough = beyond-enough d s q w.k w.enough f n; inv = rw n (rw x at (rw (e, scan_at) at w.inv)) }

      pub turn-known : {i k v m : ℕ} → position t r (denoted s (q + 1)) ≡ Some i → bit_of met i ≡ false → m ≡ with_bit met i → k ≡ i → v ≡ value_place s q → Loop X f m (set places k v)
      unfolding scan_at
      turn-known e x a b c = record { k = w.k; enough = beyond-enough d s q w.k w.enough f n; inv = rw (n, a, b, c) (rw x at (rw (e, scan_at) at w.inv)) }
