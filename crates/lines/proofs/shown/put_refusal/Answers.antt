use mathlib.Core.Path.{ap, ◌∙◌}
use Prim.Native.Nat.{ℕ}
use Rattle.jer.specs.Answer.{values_of}
use Rattle.lines.specs.Shown.{four_line}
use Rattle.lines.proofs.ShownLaws.{refusal-four, shown_as}
use Rattle.lines.proofs.shown.put_refusal.Goals as goal

pub returns : goal.returns
returns c =
    let a = c.args in
    shown_as a.text.now a.k (ap (λ (n : ℕ). four_line 0xFFFFFFFF n c.from-r.result.first c.from-r.result.second) c.from.ensures ∙ refusal-four (values_of a.e) c.from-r.ensures) c.put_four.ensures
