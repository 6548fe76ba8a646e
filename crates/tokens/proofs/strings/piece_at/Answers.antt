use mathlib.Core.Path.{◌∙◌}
use Rattle.tokens.proofs.StringLaws.{piece_past, piece_quote, piece_escape, piece_bare}
use Rattle.tokens.proofs.strings.piece_at.Goals as goal

pub returns-then-s-p : goal.returns-then-s-p
returns-then-s-p c =
    let s = c.args.s.now in
    let p = c.args.p in
    record { value = piece_past s p c.if-s-p.true; coded = tt }

pub returns-then-b-eq34 : goal.returns-then-b-eq34
returns-then-b-eq34 c =
    let s = c.args.s.now in
    let p = c.args.p in
    record { value = piece_quote s p c.if-s-p.false c.if-b-eq34.true; coded = tt }

pub returns-then-b-eq92 : goal.returns-then-b-eq92
returns-then-b-eq92 c =
    let s = c.args.s.now in
    let p = c.args.p in
    record { value = c.escape-e.ensures.next_value ∙ piece_escape s p c.if-s-p.false c.if-b-eq92.true; coded = c.escape-e.ensures.code_bound }

pub returns : goal.returns
returns c =
    let s = c.args.s.now in
    let p = c.args.p in
    record { value = piece_bare s p c.if-s-p.false (c.type_inv.s p).fits c.if-b-eq34.false c.if-b-eq92.false; coded = tt }
