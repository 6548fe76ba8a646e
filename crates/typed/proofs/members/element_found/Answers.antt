use Rattle.scan.proofs.WithinLaws.{run-within}
use Rattle.tokens.specs.Skip.{is_end}
use Rattle.places.specs.ByPlaces.{follows_at}
use native.Mathlib.Omega.{arith}
use mathlib.Core.Bool.{not}
use Rattle.typed.proofs.members.element_found.Goals as goal

pub after_part-requires : goal.after_part-requires
unfolding follows_at
after_part-requires c =
    let pre = c.requires.0 in
    let near = rw c.in-Part.is at c.requires.1 in
    (pre, omega (arith, c.run.ensures, run-within (λ b. not (is_end b)) c.args.s.now 4294967295 c.in-Part.q (omega (arith, pre)) near))
