-- Strings in the pool, and the taking of one row.
use Prim.Native.Nat.{ℕ, zero, suc, ◌+◌, ◌≤◌}
use mathlib.Core.Path.{◌≡◌, refl, sym, ap, ◌∙◌}
use mathlib.Core.List.{List, ◌++◌}
use mathlib.Core.Bool.{true, false}
use Rattle.std.specs.Prelude.{Option, None, Some}
use native.Mathlib.Omega.{arith}
use lib.ListN.{length, take, drop, length-append}
use lib.Seq.{take-take, take-add, take-append_seam, drop_at, drop-drop}
use Rattle.jer.specs.Table.{Table, is_unwrapped}
use Rattle.jer.specs.Rows.{ValueRow}
use Rattle.jer.specs.Judge.{Taker, take_row, on_row, take_unwrapped, take_with, take_value}

-- ---- the pool

-- the bytes s stand in the pool from o on
pub record Stands (pool : List ℕ) (o : ℕ) (s : List ℕ) : Type 0 where
  pub inside : o + length s ≤ length pool
  pub same : take (length s) (drop o pool) ≡ s

module _ (pool : List ℕ) (o : ℕ) (s u : List ℕ) where
  pub stands-first : Stands pool o (s ++ u) → Stands pool o s
  stands-first h =
      let n = length-append s u in
      let e = take-take (length s) (length (s ++ u)) (drop o pool) (omega arith) in
      record { inside = omega (arith, h.inside); same = sym e ∙ ap (take (length s)) h.same ∙ take-append_seam s u }

  later-bytes : Stands pool o (s ++ u) → s ++ take (length u) (drop (o + length s) pool) ≡ s ++ u
  later-bytes h =
      rw (← drop-drop (length s) o pool)
      (ap (λ (x : List ℕ). x ++ take (length u) (drop (length s) (drop o pool))) (sym (stands-first h).same) ∙ sym (take-add (length s) (length u) (drop o pool)) ∙ rw (length-append s u) at h.same)

  pub stands-later : Stands pool o (s ++ u) → Stands pool (o + length s) u
  stands-later h =
      record { inside = omega (arith, length-append s u, h.inside); same = sym (drop_at s _ (length s) refl) ∙ ap (drop (length s)) (later-bytes h) ∙ drop_at s u (length s) refl }

  pub stands-both : Stands pool o s → Stands pool (o + length s) u → Stands pool o (s ++ u)
  stands-both h k =
      record {
        inside = omega (arith, length-append s u, k.inside);
        same = rw (length-append s u, take-add (length s) (length u) (drop o pool), drop-drop (length s) o pool, h.same, k.same);
      }

-- ---- one value

-- what takes the parts of a value
unfoldable pub inner : ℕ → Table → List ℕ → Option Taker
inner zero t pool = None
inner (suc d) t pool = Some (λ e us p u. take_value d t pool e us p u)

module _ (t : Table) (pool : List ℕ) where
  take_with_lem : (d r : ℕ) (ws : List ValueRow) (q o : ℕ) → take_value d t pool r ws q o ≡ take_with (inner d t pool) t pool r ws q o
  unfolding inner take_value
  take_with_lem zero r ws q o = refl
  take_with_lem (suc d) r ws q o = refl

  pub take-plain : (d r : ℕ) (ws : List ValueRow) (q o : ℕ) → is_unwrapped t r ≡ false
      → take_value d t pool r ws q o ≡ on_row (λ w us. take_row (inner d t pool) t pool r w us q o) ws q
  unfolding take_with
  take-plain d r ws q o e = take_with_lem d r ws q o ∙ rw e

  pub take-unwrapped : (d r : ℕ) (ws : List ValueRow) (q o : ℕ) → is_unwrapped t r ≡ true
      → take_value d t pool r ws q o ≡ on_row (λ w us. take_unwrapped (inner d t pool) t pool r w us q o) ws q
  unfolding take_with
  take-unwrapped d r ws q o e = take_with_lem d r ws q o ∙ rw e
