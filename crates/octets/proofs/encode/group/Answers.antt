use Rattle.octets.proofs.EncodeLaws.{base64_group}
use Rattle.octets.proofs.encode.group.Goals as goal

pub returns : goal.returns
returns c = base64_group c.args.a c.args.b c.args.c c.base64_digit.ensures c.base64_digit-2.ensures c.base64_digit-3.ensures c.base64_digit-4.ensures
