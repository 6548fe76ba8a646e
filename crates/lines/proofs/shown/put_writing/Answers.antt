use mathlib.Core.Path.{◌∙◌}
use native.Mathlib.Omega.{arith}
use Rattle.lines.proofs.ShownLaws.{shown_as, part_line, part_length, writing_refused, writing_written}
use Rattle.lines.proofs.shown.put_writing.Goals as goal

pub put_octets-requires : goal.put_octets-requires
put_octets-requires c = omega (arith, part_length c.in-Ok.n c.args.text.now c.part.ensures)

pub returns-in-Err : goal.returns-in-Err
returns-in-Err c =
    let a = c.args in
    shown_as a.out.now 0 (writing_refused a.text.now c.in-Err.is) c.put_refusal.ensures

pub returns-in-Ok : goal.returns-in-Ok
returns-in-Ok c =
    let a = c.args in
    shown_as a.out.now 0 (part_line c.in-Ok.n a.text.now c.part.ensures ∙ writing_written a.text.now c.in-Ok.is) c.put_octets.ensures
