use mathlib.Core.Path.{◌∙◌}
use Rattle.jer.specs.Each.{text_from}
use Rattle.reading.proofs.EachLaws.{text-none}
use Rattle.reading.proofs.each.text_from.Goals as goal

pub returns-then-end-from : goal.returns-then-end-from
returns-then-end-from c = c.part.ensures ∙ text-none c.args.texts.now c.args.from c.args.end c.if-end-from.true

pub returns : goal.returns
unfolding text_from
returns c = c.part-2.ensures
