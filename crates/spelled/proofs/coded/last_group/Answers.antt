use mathlib.Core.Path.{sym}
use native.Mathlib.Omega.{arith}
use Rattle.spelled.proofs.OctetLaws.{group_one, group_two, group_three}
use Rattle.spelled.proofs.coded.last_group.Goals as goal

pub returns-then-d-ne61 : goal.returns-then-d-ne61
returns-then-d-ne61 c = (group_three c.args.a c.args.b c.args.c c.args.d _ _ _ _ (sym c.in_ok-base64_value.ensures.value) (sym c.in_ok-y.ensures.value) (sym c.in_ok-base64_value-2.ensures.value) (sym c.in_ok-base64_value-3.ensures.value) c.if-d-ne61.true, omega arith)

pub returns-then-y-eq0 : goal.returns-then-y-eq0
returns-then-y-eq0 c = (group_one c.args.a c.args.b c.args.c c.args.d _ _ (sym c.in_ok-base64_value.ensures.value) (sym c.in_ok-y.ensures.value) c.if-c-eq61.true c.if-d-ne61.false c.if-y-eq0.true, omega arith)

pub returns-then-z-eq0 : goal.returns-then-z-eq0
returns-then-z-eq0 c = (group_two c.args.a c.args.b c.args.c c.args.d _ _ _ (sym c.in_ok-base64_value.ensures.value) (sym c.in_ok-y.ensures.value) (sym c.in_ok-z.ensures.value) c.if-c-eq61.false c.if-d-ne61.false c.if-z-eq0.true, omega arith)
