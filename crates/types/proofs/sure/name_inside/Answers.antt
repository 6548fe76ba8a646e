use mathlib.Core.Path.{refl}
use Rattle.jer.specs.Table.{table}
use Rattle.types.proofs.AloneLaws.{name-room, name-told}
use Rattle.types.proofs.sure.name_inside.Goals as goal

pub slice_bounds-result-end : goal.slice_bounds-result-end
slice_bounds-result-end c =
    let a = c.args in
    let t = table a.rows.now a.names.now in
    name-room t a.m (c.row_in-row.ensures a.names.now) c.wide-start.ensures.0 c.wide.ensures.0 c.requires.1

pub returns : goal.returns
returns c =
    let a = c.args in
    let t = table a.rows.now a.names.now in
    name-told t a.m (c.row_in-row.ensures a.names.now) c.wide-start.ensures.0 c.wide.ensures.0 _ refl
