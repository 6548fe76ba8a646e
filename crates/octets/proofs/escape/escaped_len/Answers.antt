use mathlib.Core.Path.{sym, ap}
use lib.ListN.{length}
use Rattle.octets.proofs.EscapeLaws.{escaped-letter, escaped-plain, escaped_control}
use Rattle.octets.proofs.escape.escaped_len.Goals as goal

pub returns-in-Some : goal.returns-in-Some
returns-in-Some c = sym (ap length (escaped-letter c.ranges.b.fits c.in-Some.ensures))

pub returns-then-b-ge32 : goal.returns-then-b-ge32
returns-then-b-ge32 c = sym (ap length (escaped-plain c.ranges.b.fits c.in-None.ensures c.if-b-ge32.true))

pub returns-else-b-ge32 : goal.returns-else-b-ge32
returns-else-b-ge32 c = sym (ap length (escaped_control c.ranges.b.fits c.in-None.ensures c.if-b-ge32.false))
