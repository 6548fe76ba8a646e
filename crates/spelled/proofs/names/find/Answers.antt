use mathlib.Core.Path.{sym, ◌∙◌}
use Rattle.std.specs.Prelude.{Some}
use lib.ListN.{take, drop}
use Rattle.jer.specs.Table.{table}
use Rattle.spelled.proofs.NameLaws.{found_here, found_among, row-of}
use Rattle.spelled.proofs.names.find.Goals as goal

pub returns-then-has_name-clause-found : goal.returns-then-has_name-clause-found
returns-then-has_name-clause-found c = let a = c.args in let t = table a.types.now a.names.now in let x = take a.n (drop a.p a.s.now) in found_here t a.first a.count a.due x c.if-due-count.true (sym (row-of t a.first a.due x c.wide.ensures.0 c.has_name.ensures) ∙ c.if-has_name.true)

pub returns-then-has_name-2-clause-found : goal.returns-then-has_name-2-clause-found
returns-then-has_name-2-clause-found c = let a = c.args in let t = table a.types.now a.names.now in let x = take a.n (drop a.p a.s.now) in let g = c.from-g.result in found_here t a.first a.count g x c.if-g-count.true (sym (row-of t a.first g x c.wide-then-g-count.ensures.0 c.has_name-then-g-count.ensures) ∙ c.if-has_name-2.true)

pub returns-in-Some-clause-found : goal.returns-in-Some-clause-found
returns-in-Some-clause-found c = let a = c.args in let t = table a.types.now a.names.now in let x = take a.n (drop a.p a.s.now) in found_among t a.first a.count x (Some c.in-Some.k) c.in-Some.ensures

pub returns-in_default-clause-found : goal.returns-in_default-clause-found
returns-in_default-clause-found c = let a = c.args in let t = table a.types.now a.names.now in let x = take a.n (drop a.p a.s.now) in found_among t a.first a.count x _ c.search-found.ensures
