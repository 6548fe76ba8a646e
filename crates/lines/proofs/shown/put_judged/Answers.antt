use mathlib.Core.Path.{ap, ◌∙◌}
use Prim.Native.Nat.{ℕ}
use Rattle.lines.specs.Shown.{no_line}
use Rattle.lines.proofs.ShownLaws.{shown_as, judged-good, judged-refused}
use Rattle.lines.proofs.shown.put_judged.Goals as goal

pub returns-in-Ok : goal.returns-in-Ok
returns-in-Ok c =
    let a = c.args in
    judged-good a.text.now c.in-Ok.is c.put_all.ensures

pub returns-in-Err : goal.returns-in-Err
returns-in-Err c =
    let a = c.args in
    shown_as a.text.now 0 (ap (λ (n : ℕ). no_line n c.from-r.result.first) c.from.ensures ∙ judged-refused c.in-Err.is c.from-r.ensures) c.put_no.ensures
