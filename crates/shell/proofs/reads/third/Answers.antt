use Prim.Native.Nat.{ℕ}
use mathlib.Core.Path.{sym, ap, ◌∙◌}
use mathlib.Core.List.{List}
use native.Mathlib.Omega.{arith}
use lib.ListN.{drop}
use Rattle.jer.specs.Programs.{read_third, read_shown}
use Rattle.lines.proofs.ShownLaws.{shown_as}
use Rattle.shell.proofs.LineLaws.{octets-refused, octets-given}
use Rattle.shell.proofs.reads.third.Goals as goal

pub returns-in_default : goal.returns-in_default
unfolding read_third
returns-in_default c =
    let a = c.args in
    shown_as a.out.now 0 (octets-refused 3 a.s.now a.p (λ text rest. read_shown a.types.now a.names.now text) (sym c.in_default.is ∙ c.octets_line.ensures.value)) c.put_bad_line.ensures

pub returns : goal.returns
unfolding read_third
returns c =
    let a = c.args in
    let f : List ℕ → List ℕ → List ℕ = λ text rest. read_shown a.types.now a.names.now text in
    shown_as a.out.now 0
    (ap (λ (x : List ℕ). f x (drop c.in-Some.field-0.next a.s.now)) c.part.ensures ∙ octets-given 3 a.s.now a.p f _ (omega arith) (sym c.in-Some.is ∙ c.octets_line.ensures.value) c.octets_line.ensures.out_after)
    c.show.ensures
