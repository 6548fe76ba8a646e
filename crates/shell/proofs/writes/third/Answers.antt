use Prim.Native.Nat.{ℕ}
use mathlib.Core.Path.{sym, ap, ◌∙◌}
use mathlib.Core.List.{List}
use native.Mathlib.Omega.{arith}
use lib.ListN.{drop}
use Rattle.jer.specs.Programs.{write_third, write_fourth}
use Rattle.lines.proofs.ShownLaws.{shown_as}
use Rattle.shell.proofs.LineLaws.{numbers-refused, numbers-given}
use Rattle.shell.proofs.writes.third.Goals as goal

pub returns-in_default : goal.returns-in_default
unfolding write_third
returns-in_default c =
    let a = c.args in
    shown_as a.out.now 0 (numbers-refused 3 a.s.now a.p (λ values rest. write_fourth a.types.now a.names.now values rest) (sym c.in_default.is ∙ c.numbers_line.ensures.value)) c.put_bad_line.ensures

pub returns : goal.returns
unfolding write_third
returns c =
    let a = c.args in
    let f : List ℕ → List ℕ → List ℕ = λ values rest. write_fourth a.types.now a.names.now values rest in
    shown_as a.out.now 0
    (ap (λ (x : List ℕ). f x (drop c.in-Some.field-0.next a.s.now)) c.part.ensures ∙ numbers-given 3 a.s.now a.p f _ (omega arith) (sym c.in-Some.is ∙ c.numbers_line.ensures.value) c.numbers_line.ensures.out_after)
    c.fourth.ensures
