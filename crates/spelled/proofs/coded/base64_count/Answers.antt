use Rattle.std.proofs.Common.{rules, ℕ, arith, sym, ◌∙◌, ◌+◌, ◌-◌}
use lib.ListN.{take, drop}
use borrow.Author.Tests.{not-false}
use Rattle.std.specs.Option.{is_some}
use Rattle.std.proofs.lemmas.Iterator.{YieldsList-from_slice}
use Rattle.std.proofs.lemmas.Iterator.Search.{all_from_yields_List}
use Rattle.jer.specs.Octets.{base64_value}
use Rattle.spelled.proofs.OctetLaws.{base64-none, base64-octets, each-base64}
use Rattle.spelled.proofs.coded.base64_count.Goals as goal

pub returns-then-n-eq0 : goal.returns-then-n-eq0
returns-then-n-eq0 c = rw c.if-n-eq0.true (base64-none c.args.s.now c.args.p, omega arith)

pub returns : goal.returns
returns c =
    let s = c.args.s.now in
    let p = c.args.p in
    let n = c.args.n in
    let test = λ (b : ℕ). is_some (base64_value b) in
    let e = all_from_yields_List test _ _ c.all.result c.all.ensures.ran (YieldsList-from_slice (take (p + (n - 4) - p) (drop p s)) (search rules)) (λ x b q k. search rules) in
    let each = each-base64 s p (n - 4) (omega (arith, c.requires)) (sym e ∙ not-false _ c.if-not-all.false-raw) in
    (base64-octets s p n c.in_ok-e.e c.requires c.if-n-eq0.false c.if-n-ne0.false each c.in_ok-e.ensures.0, omega (arith, c.in_ok-e.ensures.1))
