use mathlib.Core.Path.{refl, ap, ◌∙◌}
use Prim.Native.Nat.{ℕ}
use Rattle.jer.specs.Answer.{values}
use Rattle.lines.specs.Shown.{four_line}
use Rattle.lines.proofs.ShownLaws.{refusal-four, shown_as}
use Rattle.lines.proofs.shown.put_bad_line.Goals as goal

pub returns : goal.returns
returns c =
    let a = c.args in
    shown_as a.text.now 0 (ap (λ (x : ℕ). four_line 0xFFFFFFFF 15 x 0) c.from.ensures ∙ refusal-four (values 15 a.line 0) refl) c.put_four.ensures
