use native.Mathlib.Omega.{arith}
use lib.ListN.{take}
use Rattle.jer.specs.Octets.{hex}
use Rattle.jer.specs.Programs.{end_line}
use Rattle.octets.proofs.EncodeLaws.{hex-length}
use Rattle.lines.specs.Shown.{four_lines}
use Rattle.lines.proofs.ShownLaws.{line_length, fours_length, shown_as, shown-next, part_line, part_length, reading_refused, reading_read}
use Rattle.lines.proofs.shown.put_reading.Goals as goal

pub put_octets-requires : goal.put_octets-requires
put_octets-requires c =
    let a = c.args in
    let n = c.in-Ok.c.rows in
    let m = c.in-Ok.c.pool in
    omega (arith, c.put_rows-k.ensures.0, fours_length n a.rows.now, part_length m a.pool.now c.part.ensures)

pub overflow_add-result : goal.overflow_add-result
overflow_add-result c =
    let a = c.args in
    let n = c.in-Ok.c.rows in
    let m = c.in-Ok.c.pool in
    let os = c.part in
    omega (arith, c.put_rows-k.ensures.0, fours_length n a.rows.now, part_length m a.pool.now os.ensures, hex-length os.result.now, line_length (hex os.result.now), c.put_octets.ensures.0)

pub returns-in-Err : goal.returns-in-Err
returns-in-Err c =
    let a = c.args in
    shown_as a.text.now 0 (reading_refused a.rows.now a.pool.now c.in-Err.is) c.put_refusal.ensures

pub returns-in-Ok : goal.returns-in-Ok
returns-in-Ok c =
    let a = c.args in
    let m = c.in-Ok.c.pool in
    let line = shown_as c.put_rows-k.new.text c.put_rows-k.result (part_line m a.pool.now c.part.ensures) c.put_octets.ensures in
    shown_as a.text.now 0 (reading_read a.rows.now a.pool.now c.in-Ok.is) (shown-next a.text.now (four_lines c.in-Ok.c.rows a.rows.now) (end_line (hex (take m a.pool.now))) c.put_rows-k.ensures line)
