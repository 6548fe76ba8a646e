use mathlib.Core.Path.{sym}
use native.Mathlib.Omega.{arith}
use Rattle.tokens.proofs.StringLaws.{escape-letter, escape-unit, escape-pair}
use Rattle.tokens.proofs.strings.escape.Goals as goal

pub returns-then-b-ne117 : goal.returns-then-b-ne117
returns-then-b-ne117 c =
    let s = c.args.s.now in
    let p = c.args.p in
    record { next_value = escape-letter s p c.byte_at-b.result c.byte_at-b.ensures.value c.letter.result c.if-b-ne117.true c.letter.ensures.0; code_bound = omega arith }

pub returns-then-not-is_high : goal.returns-then-not-is_high
returns-then-not-is_high c =
    let x = c.unit-x in
    record {
      next_value = escape-unit c.args.s.now c.args.p c.byte_at-b.result c.byte_at-b.ensures.value c.if-b-ne117.false x.result x.ensures.0 (sym c.if-not-is_high.ensures);
      code_bound = omega arith;
    }

pub pair-requires : goal.pair-requires
pair-requires c = (sym c.if-not-is_high.ensures, c.unit.ensures.1)

pub returns : goal.returns
returns c =
    let x = c.unit-x in
    record {
      next_value = escape-pair c.args.s.now c.args.p c.byte_at-b.result c.byte_at-b.ensures.value c.if-b-ne117.false x.result x.ensures.0 c.pair.result c.unit.result (sym c.if-not-is_high.ensures) c.unit.ensures.0 c.pair.ensures.0;
      code_bound = omega arith;
    }
