use Rattle.lines.proofs.ShownLaws.{no-stored}
use Rattle.lines.proofs.shown.put_no.Goals as goal

pub returns : goal.returns
returns c =
    let a = c.args in
    no-stored a.number a.first a.text.now c.put_all.ensures c.put_number.ensures.text_after c.put.ensures c.put_number-2.ensures.text_after c.put-2.ensures
