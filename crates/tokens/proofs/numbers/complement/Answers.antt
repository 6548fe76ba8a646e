use Rattle.tokens.proofs.NumberLaws.{complement_minus, complement_most, complement_plus}
use Rattle.tokens.proofs.numbers.complement.Goals as goal

pub returns-then-minus : goal.returns-then-minus
returns-then-minus c = complement_minus c.args.minus c.args.m c.wrapping_neg.result c.if-minus.true c.requires c.wrapping_neg.type_inv c.wrapping_neg.ensures

pub returns-then-m-eq9223372036854775808 : goal.returns-then-m-eq9223372036854775808
returns-then-m-eq9223372036854775808 c = complement_most c.args.minus c.args.m c.if-minus.false c.if-m-eq9223372036854775808.true

pub returns : goal.returns
returns c = complement_plus c.args.minus c.args.m c.if-minus.false c.requires c.if-m-eq9223372036854775808.false
