use Rattle.jer.specs.Write.{quotes}
use Rattle.written.proofs.PutLaws.{puts_append}
use Rattle.written.proofs.put.put_string.Goals as goal

pub returns : goal.returns
unfolding quotes
returns c = puts_append c.put_byte-start.ensures (puts_append c.put_spelled-end.ensures c.put_byte.ensures)
