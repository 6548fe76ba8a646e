use Rattle.json_text.specs.Utf8.{due_end}
use Rattle.types.specs.Bytes.{due_of}
use Rattle.types.proofs.ByteLaws.{end-none}
use Rattle.types.proofs.bytes.Due.ended.Goals as goal

pub returns-in-Start : goal.returns-in-Start
unfolding due_of due_end
returns-in-Start c = rw c.in-Start.is

pub returns-in_default : goal.returns-in_default
returns-in_default c = end-none c.args.self c.in_default.not-Start
