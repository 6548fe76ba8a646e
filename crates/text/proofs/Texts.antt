-- Judging a text from a place on, in the form that the loop of `check` has.
use Rattle.std.specs.Prelude.{Err}
use Prim.Native.Nat.{ℕ, suc, ◌+◌, ◌≤◌, ◌<◌}
use mathlib.Core.Path.{◌≡◌, ◌∙◌, sym, ap}
use mathlib.Core.Bool.{Bool}
use mathlib.Core.List.{List, ◌∷◌}
use native.Mathlib.Numerals.{add-one}
use native.Mathlib.Omega.{arith}
use borrow.Author.Tests.{le-leb, lt-leb}
use lib.ListN.{length, drop, get_or, drop_of_length-le}
use lib.Seq.{drop-cons}
use Rattle.jer.specs.declared.Refusal.TheVariants.{AtByte}
use Rattle.jer.specs.declared.Cause.TheVariants.{TooLong}
use Rattle.jer.specs.declared.Cause.{Cause}
use Rattle.jer.specs.Calls.{good_text, judged_by, text_judged}
use Rattle.std.specs.Prelude.{Ok, Err}
use Rattle.text.specs.Outline.{Stand, step_of, begin, whole, judged_end, judged_from}
use Rattle.text.proofs.Faithful.{judges}

pub too_long : (s : List ℕ) → 65536 < length s → Err (AtByte TooLong 65536) ≡ text_judged s
unfolding text_judged good_text judged_by
too_long s h = rw (lt-leb (length s) 65536 h, good_text)

pub begun : (s : List ℕ) → length s ≤ 65536 → judged_from 0 begin (drop 0 s) ≡ text_judged s
unfolding text_judged good_text
begun s h = sym (judges s) ∙ rw (le-leb (length s) 65536 h, good_text)

-- where the judgement of the text is that from the state o at a place of it
module _ (s : List ℕ) (at : ℕ) (o : Stand) (e : judged_from at o (drop at s) ≡ text_judged s) where
  module _ (h : at < length s) where
    at_byte : judged_from at o (get_or s at 0 ∷ drop (suc at) s) ≡ text_judged s
    at_byte = ap (judged_from at o) (sym (drop-cons s at 0 h)) ∙ e

    pub goes_on : (u : Stand) → Ok u ≡ step_of o (get_or s at 0) → judged_from (at + 1) u (drop (at + 1) s) ≡ text_judged s
    unfolding judged_from
    goes_on u w = rw (add-one at) (rw (← w, judged_from) at at_byte)

    pub refuses : {e : Cause} → Err e ≡ step_of o (get_or s at 0) → Err (AtByte e at) ≡ text_judged s
    unfolding judged_from
    refuses w = rw (← w, judged_from) at at_byte

  pub ends : at ≤ length s → length s ≤ at → (t : Bool) → t ≡ whole o → judged_end t (length s) ≡ text_judged s
  unfolding judged_from
  ends l h t w = let z : length s ≡ at = omega arith in rw (w, z) (ap (judged_from at o) (sym (drop_of_length-le s h)) ∙ e)
