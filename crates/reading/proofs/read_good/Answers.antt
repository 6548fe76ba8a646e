use Rattle.reading.proofs.ReadLaws.{kept_on}
use Rattle.reading.proofs.read_good.Goals as goal

pub returns-in-Some : goal.returns-in-Some
returns-in-Some c = rw c.in-Some.is at c.read.ensures

pub returns-in-None : goal.returns-in-None
returns-in-None c = kept_on (rw c.in-None.is at c.read.ensures) c.generally.ensures
