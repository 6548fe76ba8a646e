use native.Mathlib.Omega.{arith}
use borrow.Author.Tests.{not-true}
use Rattle.jer.specs.Table.{table}
use Rattle.quick.proofs.NameLaws.{plain-position, denoted-position}
use Rattle.quick.proofs.name.position_of.Goals as goal

pub find-requires : goal.find-requires
find-requires c = (omega (arith, c.requires.2 (not-true _ c.if-not-escaped.true-raw)), omega (arith, c.first_of.ensures.1))

pub returns-then-not-escaped : goal.returns-then-not-escaped
returns-then-not-escaped c = let names = c.args.source.now.names.now in λ q w. plain-position (table c.args.source.now.types.now c.args.source.now.names.now) c.args.row (not-true _ c.if-not-escaped.true-raw) (c.first_of.ensures.0 names) (c.count_of.ensures names) c.requires.1 c.find.ensures.found q w

pub returns : goal.returns
returns c = λ q w. denoted-position (table c.args.source.now.types.now c.args.source.now.names.now) c.args.source.now.s.now c.args.row c.args.place c.args.n c.args.escaped c.position.ensures q w
