use Prim.Native.Nat.{ℕ}
use mathlib.Core.Path.{sym, ap, ◌∙◌}
use mathlib.Core.List.{List}
use native.Mathlib.Omega.{arith}
use lib.ListN.{drop}
use Rattle.jer.specs.Programs.{write_second, write_third}
use Rattle.lines.proofs.ShownLaws.{shown_as}
use Rattle.shell.proofs.LineLaws.{octets-refused, octets-given}
use Rattle.shell.proofs.writes.second.Goals as goal

pub returns-in_default : goal.returns-in_default
unfolding write_second
returns-in_default c =
    let a = c.args in
    shown_as a.out.now 0 (octets-refused 2 a.s.now a.p (λ names rest. write_third a.types.now names rest) (sym c.in_default.is ∙ c.octets_line.ensures.value)) c.put_bad_line.ensures

pub returns : goal.returns
unfolding write_second
returns c =
    let a = c.args in
    let f : List ℕ → List ℕ → List ℕ = λ names rest. write_third a.types.now names rest in
    shown_as a.out.now 0
    (ap (λ (x : List ℕ). f x (drop c.in-Some.field-0.next a.s.now)) c.part.ensures ∙ octets-given 2 a.s.now a.p f _ (omega arith) (sym c.in-Some.is ∙ c.octets_line.ensures.value) c.octets_line.ensures.out_after)
    c.third.ensures
