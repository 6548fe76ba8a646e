use native.Mathlib.Omega.{arith}
use Rattle.spelled.proofs.CharLaws.{encode_one, encode-two, encode-three}
use Rattle.spelled.proofs.character.size.Goals as goal

pub returns-then-x-lt128 : goal.returns-then-x-lt128
returns-then-x-lt128 c = (encode_one c.args.x c.if-x-lt128.true, omega arith, omega arith)

pub returns-then-x-lt2048 : goal.returns-then-x-lt2048
returns-then-x-lt2048 c = (encode-two c.args.x (omega (arith, c.if-x-lt128.false)) c.if-x-lt2048.true, omega arith, omega arith)

pub returns : goal.returns
returns c = (encode-three c.args.x (omega (arith, c.if-x-lt2048.false)) c.requires, omega arith, omega arith)
