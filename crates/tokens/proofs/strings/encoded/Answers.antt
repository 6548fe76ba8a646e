use Rattle.tokens.proofs.StringLaws.{encode_one, encode-two, encode-three, encode-four}
use Rattle.tokens.proofs.strings.encoded.Goals as goal

pub returns-then-x-lt128 : goal.returns-then-x-lt128
returns-then-x-lt128 c = encode_one c.args.x c.if-x-lt128.true

pub returns-then-x-lt2048 : goal.returns-then-x-lt2048
returns-then-x-lt2048 c = encode-two c.args.x c.if-x-lt128.false c.if-x-lt2048.true

pub returns-then-x-lt65536 : goal.returns-then-x-lt65536
returns-then-x-lt65536 c = encode-three c.args.x c.if-x-lt2048.false c.if-x-lt65536.true

pub returns : goal.returns
returns c = encode-four c.args.x c.if-x-lt65536.false
