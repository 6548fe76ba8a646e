use Rattle.spelled.proofs.NumberLaws.{integer_bare, integer_negative}
use Rattle.spelled.proofs.integer.integer.Goals as goal

pub returns-then-byte_at-eq45 : goal.returns-then-byte_at-eq45
returns-then-byte_at-eq45 c = let h = c.in_halves.ensures in rw (h.0, h.1, h.2) (integer_negative c.args.s.now c.args.p _ _ c.in_ok-w.ensures.1 _ c.byte_at.ensures.value c.if-byte_at-eq45.true c.in_ok-w.ensures.0 _ c.wrapping_neg.type_inv c.wrapping_neg.ensures)

pub returns : goal.returns
returns c = let h = c.in_halves-2.ensures in rw (h.0, h.1, h.2) (integer_bare c.args.s.now c.args.p _ _ c.in_ok-w-2.ensures.1 c.in_ok-w-2.ensures.0)
