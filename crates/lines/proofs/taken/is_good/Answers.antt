use mathlib.Core.Path.{◌∙◌}
use Rattle.lines.proofs.TakenLaws.{over-long, odd_line, not-whole, whole}
use Rattle.lines.proofs.taken.is_good.Goals as goal

pub returns-then-line-gt-DIGITS : goal.returns-then-line-gt-DIGITS
returns-then-line-gt-DIGITS c = over-long c.args.unit c.args.line.now c.if-line-gt-DIGITS.true

pub returns-then-line-ne0 : goal.returns-then-line-ne0
returns-then-line-ne0 c = odd_line c.args.unit c.args.line.now c.if-line-gt-DIGITS.false c.if-line-ne0.true

pub returns-then-line-unit-ne0 : goal.returns-then-line-unit-ne0
returns-then-line-unit-ne0 c = not-whole c.args.unit c.args.line.now c.if-line-gt-DIGITS.false c.if-line-ne0.false c.if-line-unit-ne0.true

pub returns : goal.returns
returns c = c.is_hex.ensures ∙ whole c.args.unit c.args.line.now c.if-line-gt-DIGITS.false c.if-line-ne0.false c.if-line-unit-ne0.false
