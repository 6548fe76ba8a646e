use Rattle.written.specs.Text.{name_text}
use Rattle.written.proofs.PutLaws.{puts_append}
use Rattle.written.proofs.literal.Literal.put_name.Goals as goal

pub returns : goal.returns
unfolding name_text
returns c = puts_append c.put_chars-chars.ensures.puts c.put_byte.ensures
