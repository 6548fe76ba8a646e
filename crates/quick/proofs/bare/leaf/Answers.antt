use native.Mathlib.Omega.{arith}
use mathlib.Core.Path.{refl, sym, ◌∙◌}
use Rattle.std.proofs.lemmas.Option.{IfSome_then}
use Rattle.jer.specs.Table.{table}
use Rattle.spelled.proofs.StretchLaws.{passed}
use Rattle.spelled.proofs.WordLaws.{null-here, spells-ahead}
use Rattle.quick.proofs.BareLaws.{null-leaf}
use Rattle.quick.proofs.bare.leaf.Goals as goal

pub returns-in-0 : goal.returns-in-0
returns-in-0 c = let t = table c.args.source.now.types.now c.args.source.now.names.now in let kind = c.kind_of.ensures c.args.source.now.names.now in IfSome_then c.boolean.result c.boolean.ensures (λ w k. k t c.args.row (sym kind ∙ c.in-0.is))

pub returns-in-1 : goal.returns-in-1
returns-in-1 c = let t = table c.args.source.now.types.now c.args.source.now.names.now in let kind = c.kind_of.ensures c.args.source.now.names.now in IfSome_then c.number.result c.number.ensures (λ w k. k t c.args.row (sym kind ∙ c.in-1.is))

pub returns-in-2 : goal.returns-in-2
returns-in-2 c = let kind = c.kind_of.ensures c.args.source.now.names.now in IfSome_then c.item.result c.item.ensures (λ w k. k (sym kind ∙ c.in-2.is))

pub returns-in_ok-literal-in-3 : goal.returns-in_ok-literal-in-3
returns-in_ok-literal-in-3 c = let kind = c.kind_of.ensures c.args.source.now.names.now in let k = c.in_ok-literal-in-3.ensures in null-leaf (sym kind ∙ c.in-3.is) (λ d. passed _ c.args.source.now.s.now c.args.place _ (null-here k.0 d) (spells-ahead k.0 (omega arith))) (refl, refl, refl, refl)

pub returns-in-4 : goal.returns-in-4
returns-in-4 c = let kind = c.kind_of.ensures c.args.source.now.names.now in IfSome_then c.octets.result c.octets.ensures (λ w k. k c.args.source.now.names.now (sym kind ∙ c.in-4.is))

pub returns-in-5 : goal.returns-in-5
returns-in-5 c = let t = table c.args.source.now.types.now c.args.source.now.names.now in let kind = c.kind_of.ensures c.args.source.now.names.now in IfSome_then c.text.result c.text.ensures (λ w k. k t c.args.row (sym kind ∙ c.in-5.is))
