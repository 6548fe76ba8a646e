use Rattle.lines.proofs.ShownLaws.{four-length, four-stored}
use Rattle.lines.proofs.shown.put_four.Goals as goal

pub returns : goal.returns
returns c =
    let a = c.args in
    (four-length a.a a.b a.c a.d, four-stored a.a a.b a.c a.d a.text.now a.k c.put_number.ensures.text_after c.put_number-2.ensures.text_after c.put_number-3.ensures.text_after c.put_number-4.ensures.text_after c.put.ensures)
