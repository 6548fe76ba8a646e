use Prim.Native.Nat.{◌+◌, ◌*◌, ◌^◌}
use native.Mathlib.Omega.{arith}
use Rattle.jer.specs.Write.{int_text}
use Rattle.written.proofs.PutLaws.{counted, puts-stored, puts-past}
use Rattle.written.proofs.put.put_integer.Goals as goal

pub returns-then-k-le-TEXT : goal.returns-then-k-le-TEXT
returns-then-k-le-TEXT c =
    let a = c.args in
    puts-stored (counted (int_text (a.high * 2 ^ 32 + a.low)) a.k c.put_integer-n.ensures.value c.add.ensures) c.put_integer-n.ensures.text_after

pub returns : goal.returns
returns c =
    let a = c.args in
    puts-past (counted (int_text (a.high * 2 ^ 32 + a.low)) a.k c.integer_len.ensures c.add-2.ensures) (omega (arith, c.if-k-le-TEXT.false))
