use native.Mathlib.Omega.{arith}
use mathlib.Core.Path.{refl}
use lib.ListN.{length-set}
use Rattle.jer.specs.Table.{table}
use Rattle.quick.proofs.WalkLaws.{not-here, leaf_noted}
use Rattle.quick.proofs.note.note.Goals as goal

pub returns-then-tape-top : goal.returns-then-tape-top
returns-then-tape-top c = λ d. not-here refl

pub leaf-requires : goal.leaf-requires
leaf-requires c = (c.requires.here, λ i j. c.requires.sane.differ c.args.row i j c.requires.typed)

pub returns-in_err-w : goal.returns-in_err-w
returns-in_err-w c = λ d. not-here c.from_residual.ensures

pub bounds-tape-top-2 : goal.bounds-tape-top-2
bounds-tape-top-2 c = omega (arith, length-set c.args.tape.now c.args.top c.in_ok-w.w.a, c.if-tape-top.false)

pub returns : goal.returns
returns c = leaf_noted (table c.args.source.now.types.now c.args.source.now.names.now) c.args.source.now.s.now c.args.tape.now c.args.row c.args.place c.args.top c.in_ok-w.w _ (omega (arith, c.if-tape-top.false)) c.in_ok-w.ensures refl refl refl refl
