use Prim.Native.Nat.{ℕ}
use mathlib.Core.Path.{sym, ap, ◌∙◌}
use mathlib.Core.List.{List}
use native.Mathlib.Omega.{arith}
use lib.ListN.{drop}
use Rattle.jer.specs.Programs.{jerread, read_second}
use Rattle.lines.proofs.ShownLaws.{shown_as}
use Rattle.shell.proofs.LineLaws.{numbers-refused, numbers-given}
use Rattle.shell.proofs.reads.answer.Goals as goal

pub returns-in_default : goal.returns-in_default
unfolding jerread
returns-in_default c =
    let a = c.args in
    shown_as a.out.now 0 (numbers-refused 1 a.s.now 0 (λ types rest. read_second types rest) (sym c.in_default.is ∙ c.numbers_line.ensures.value)) c.put_bad_line.ensures

pub returns : goal.returns
unfolding jerread
returns c =
    let a = c.args in
    let f : List ℕ → List ℕ → List ℕ = λ types rest. read_second types rest in
    shown_as a.out.now 0
    (ap (λ (x : List ℕ). f x (drop c.in-Some.field-0.next a.s.now)) c.part.ensures ∙ numbers-given 1 a.s.now 0 f _ (omega arith) (sym c.in-Some.is ∙ c.numbers_line.ensures.value) c.numbers_line.ensures.out_after)
    c.second.ensures
