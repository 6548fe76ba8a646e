use native.Mathlib.Omega.{arith}
use Rattle.written.specs.Text.{spelled}
use Rattle.written.proofs.PutLaws.{counted, puts-stored, puts_nowhere, puts-past, spelled_few}
use Rattle.written.proofs.put.put_spelled.Goals as goal

pub returns-then-text-k : goal.returns-then-text-k
returns-then-text-k c = puts_nowhere c.end_of.ensures c.if-text-k.true

pub returns-then-k-gt-TEXT : goal.returns-then-k-gt-TEXT
returns-then-k-gt-TEXT c = puts-past c.end_of-then-k-gt-TEXT.ensures (omega arith)

pub returns-then-s-gt-TEXT : goal.returns-then-s-gt-TEXT
returns-then-s-gt-TEXT c =
    let a = c.args in
    puts-past c.end_of-then-s-gt-TEXT.ensures (omega (arith, spelled_few a.form a.s.now))

pub returns : goal.returns
returns c =
    let a = c.args in
    puts-stored (counted (spelled a.form a.s.now) a.k c.store-n.ensures.value c.add.ensures) c.store-n.ensures.text_after
