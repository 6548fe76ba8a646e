use mathlib.Core.Path.{◌∙◌, ap}
use Rattle.jer.specs.declared.Reported.{Reported}
use Rattle.capi.specs.Answers.{amounts_after}
use Rattle.capi.proofs.refused.Goals as goal

pub returns : goal.returns
returns c =
    let report = c.from-t.ensures in
    record { value = ap (λ (t : Reported). t.number) report; amounts_after = c.told.ensures ∙ ap (λ (t : Reported). amounts_after c.args.amounts.now t.first t.second) report }
