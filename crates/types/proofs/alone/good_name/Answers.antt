use native.Mathlib.Omega.{arith}
use mathlib.Core.Path.{refl}
use Rattle.jer.specs.Table.{table}
use Rattle.types.proofs.AloneLaws.{name-empty, name-long, name_out, name-ascii, name-utf8}
use Rattle.types.proofs.alone.good_name.Goals as goal

pub returns-then-n-eq0 : goal.returns-then-n-eq0
returns-then-n-eq0 c =
    let a = c.args in
    let t = table a.rows.now a.names.now in
    name-empty t a.m (c.row_in-row.ensures a.names.now) c.wide-start.ensures.0 c.wide-n.ensures.0 c.if-n-eq0.true

pub returns-then-n-gt128 : goal.returns-then-n-gt128
returns-then-n-gt128 c =
    let a = c.args in
    let t = table a.rows.now a.names.now in
    name-long t a.m (c.row_in-row.ensures a.names.now) c.wide-start.ensures.0 c.wide-n.ensures.0 c.if-n-eq0.false c.if-n-gt128.true

pub returns-then-names-end : goal.returns-then-names-end
returns-then-names-end c =
    let a = c.args in
    let t = table a.rows.now a.names.now in
    name_out t a.m (c.row_in-row.ensures a.names.now) c.wide-start.ensures.0 c.wide-n.ensures.0 c.if-n-eq0.false (omega arith) c.if-names-end.true

pub returns-then-ascii : goal.returns-then-ascii
returns-then-ascii c =
    let a = c.args in
    let t = table a.rows.now a.names.now in
    name-ascii t a.m (c.row_in-row.ensures a.names.now) c.wide-start.ensures.0 c.wide-n.ensures.0 c.if-n-eq0.false (omega arith) c.if-names-end.false (c.requires.1 c.if-ascii.true)

pub returns : goal.returns
returns c =
    let a = c.args in
    let t = table a.rows.now a.names.now in
    name-utf8 t a.m (c.row_in-row.ensures a.names.now) c.wide-start.ensures.0 c.wide-n.ensures.0 c.if-n-eq0.false (omega arith) c.if-names-end.false _ refl c.utf8-2.ensures
