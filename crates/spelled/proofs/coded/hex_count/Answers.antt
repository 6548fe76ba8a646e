use Rattle.std.proofs.Common.{rules, ℕ, arith, sym, ◌∙◌, ◌+◌, ◌-◌}
use lib.ListN.{take, drop}
use borrow.Author.Tests.{not-false}
use Rattle.std.specs.Option.{is_some}
use Rattle.std.proofs.lemmas.Iterator.{YieldsList-from_slice}
use Rattle.std.proofs.lemmas.Iterator.Search.{all_from_yields_List}
use Rattle.jer.specs.Octets.{hex_value}
use Rattle.spelled.proofs.OctetLaws.{hex-octets, each-hex}
use Rattle.spelled.proofs.coded.hex_count.Goals as goal

pub returns : goal.returns
returns c =
    let s = c.args.s.now in
    let p = c.args.p in
    let n = c.args.n in
    let test = λ (b : ℕ). is_some (hex_value b) in
    let e = all_from_yields_List test _ _ c.all.result c.all.ensures.ran (YieldsList-from_slice (take (p + n - p) (drop p s)) (search rules)) (λ x b q k. search rules) in
    (hex-octets s p n c.requires c.if-n-eq1.false (each-hex s p n c.requires (sym e ∙ not-false _ c.if-not-all.false-raw)), omega (arith, c.if-n-eq1.false))
