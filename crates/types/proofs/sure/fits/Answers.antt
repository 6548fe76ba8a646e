use Rattle.jer.specs.Table.{table}
use Rattle.types.proofs.SureLaws.{fits_told}
use Rattle.types.proofs.sure.fits.Goals as goal

pub returns : goal.returns
returns c =
    let a = c.args in
    λ ns. fits_told (table a.rows.now ns) a.m a.marks a.types (c.row_in-row.ensures ns)
