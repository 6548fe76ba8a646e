use native.Mathlib.Omega.{arith}
use mathlib.Core.Path.{refl}
use Rattle.std.proofs.lemmas.Option.{IfSome_then}
use Rattle.jer.specs.Table.{table}
use Rattle.quick.proofs.BareLaws.{hex-leaf, base64-leaf}
use Rattle.quick.proofs.bare.octets.Goals as goal

pub escaped-requires : goal.escaped-requires
escaped-requires c = let w = c.in_ok-w.ensures in (c.requires, omega (arith, w.few, w.passed.inside, c.args.source.now.short))

pub returns-then-w : goal.returns-then-w
returns-then-w c = let w = c.in_ok-w.ensures in IfSome_then c.escaped.result c.escaped.ensures (λ g k ns. k ns _ w)

pub base64_count-requires : goal.base64_count-requires
base64_count-requires c = let w = c.in_ok-w.ensures in let inside = (w.plain c.if-w.false).1 in omega (arith, inside, w.passed.inside)

pub returns-then-is_base64 : goal.returns-then-is_base64
returns-then-is_base64 c = let w = c.in_ok-w.ensures in λ ns e. base64-leaf e w c.if-w.false (c.is_base64.ensures (table c.args.source.now.types.now ns) c.args.row (c.at.ensures ns)) c.if-is_base64.true c.in_ok-n.ensures.0 c.in_ok-n.ensures.1 (omega (arith, c.if-w-gt32767.false)) refl (refl, refl, refl, refl)

pub hex_count-requires : goal.hex_count-requires
hex_count-requires c = let w = c.in_ok-w.ensures in let inside = (w.plain c.if-w.false).1 in omega (arith, inside, w.passed.inside)

pub returns : goal.returns
returns c = let w = c.in_ok-w.ensures in let inside = (w.plain c.if-w.false).1 in λ ns e. hex-leaf e w c.if-w.false (c.is_base64.ensures (table c.args.source.now.types.now ns) c.args.row (c.at.ensures ns)) c.if-is_base64.false c.in_ok-n-2.ensures.0 c.in_ok-n-2.ensures.1 (omega (arith, inside, w.passed.inside, c.args.source.now.short)) (refl, refl, refl, refl)
