use native.Mathlib.Omega.{arith}
use Rattle.jer.specs.Write.{escapes}
use Rattle.octets.proofs.EscapeLaws.{escapes-done, escapes-room, escapes-next}
use Rattle.octets.proofs.PutLaws.{putting_start, putting_done}
use Rattle.octets.proofs.escape.put_escapes.Goals as goal

pub loop-b-init : goal.loop-b-init
loop-b-init c = putting_start (escapes c.args.octets.now) c.args.text.now c.args.k

pub overflow_add-n : goal.overflow_add-n
overflow_add-n c = omega (arith, escapes-room c.args.octets.now c.loop-b.invariant c.loop-b-test.true c.put_escaped-n.ensures.value, c.requires)

pub loop-b-preserved : goal.loop-b-preserved
loop-b-preserved c = escapes-next c.args.octets.now c.loop-b.invariant c.loop-b-test.true c.put_escaped-n.ensures.value c.put_escaped-n.ensures.text_after c.put_escaped-n.auto.text

pub returns-clause-value : goal.returns-clause-value
returns-clause-value c = (putting_done c.loop-b.invariant (escapes-done c.args.octets.now c.loop-b.b-index c.loop-b-test.false)).0

pub returns-clause-text_after : goal.returns-clause-text_after
returns-clause-text_after c = (putting_done c.loop-b.invariant (escapes-done c.args.octets.now c.loop-b.b-index c.loop-b-test.false)).1
