use mathlib.Core.Path.{ap, ◌∙◌}
use lib.ListN.{drop}
use Rattle.lines.specs.Taken.{taken_of, after}
use Rattle.lines.proofs.TakenLaws.{numbers_line-is}
use Rattle.lines.proofs.taken.numbers_line.Goals as goal

pub returns : goal.returns
returns c =
    let a = c.args in
    let same = numbers_line-is (drop a.at a.s.now) in
    record { value = c.line.ensures.value ∙ ap (taken_of a.s.now a.at) same; out_after = c.line.ensures.out_after ∙ ap (after a.out.now) same }
