use Rattle.jer.specs.Table.{table}
use Rattle.types.proofs.RowLaws.{marks-told, layout-told}
use Rattle.types.proofs.AloneLaws.{alone-marked, alone-bare, alone-holds, alone_lists, alone-names, alone-unknown}
use Rattle.types.proofs.alone.good_alone.Goals as goal

pub returns-then-not-good_marks : goal.returns-then-not-good_marks
returns-then-not-good_marks c =
    let a = c.args in
    let ns = a.names.now in
    let t = table a.rows.now ns in
    let e = c.row_in-row.ensures ns in
    alone-marked t a.r (c.good_marks.ensures t a.r e (marks-told t a.r e c.carries-carried.ensures)) c.if-not-good_marks.true-raw

pub returns-in-Bare : goal.returns-in-Bare
returns-in-Bare c =
    let a = c.args in
    let ns = a.names.now in
    let t = table a.rows.now ns in
    let e = c.row_in-row.ensures ns in
    alone-bare t a.r (c.good_marks.ensures t a.r e (marks-told t a.r e c.carries-carried.ensures)) c.if-not-good_marks.false-raw (layout-told t a.r e c.carries-carried.ensures) c.in-Bare.is (c.unused.ensures ns)

pub returns-in-Holds : goal.returns-in-Holds
returns-in-Holds c =
    let a = c.args in
    let ns = a.names.now in
    let t = table a.rows.now ns in
    let e = c.row_in-row.ensures ns in
    alone-holds t a.r (c.good_marks.ensures t a.r e (marks-told t a.r e c.carries-carried.ensures)) c.if-not-good_marks.false-raw (layout-told t a.r e c.carries-carried.ensures) e c.in-Holds.is (c.unused-in-Holds.ensures ns) (c.block.ensures t a.r e (c.row_count-count.ensures ns))

pub returns-in-Lists : goal.returns-in-Lists
returns-in-Lists c =
    let a = c.args in
    let ns = a.names.now in
    let t = table a.rows.now ns in
    let e = c.row_in-row.ensures ns in
    alone_lists t a.r (c.good_marks.ensures t a.r e (marks-told t a.r e c.carries-carried.ensures)) c.if-not-good_marks.false-raw (layout-told t a.r e c.carries-carried.ensures) e c.in-Lists.is (c.unused-in-Lists.ensures ns) c.wide.ensures.0 (c.row_count-count.ensures ns)

pub returns-in-Names : goal.returns-in-Names
returns-in-Names c =
    let a = c.args in
    let ns = a.names.now in
    let t = table a.rows.now ns in
    let e = c.row_in-row.ensures ns in
    alone-names t a.r (c.good_marks.ensures t a.r e (marks-told t a.r e c.carries-carried.ensures)) c.if-not-good_marks.false-raw (layout-told t a.r e c.carries-carried.ensures) e c.in-Names.is (c.unused-in-Names.ensures ns) c.wide-in-Names.ensures.0 (c.row_count-count.ensures ns) c.good_name.ensures

pub returns-in-Unknown : goal.returns-in-Unknown
returns-in-Unknown c =
    let a = c.args in
    let ns = a.names.now in
    let t = table a.rows.now ns in
    let e = c.row_in-row.ensures ns in
    alone-unknown t a.r (c.good_marks.ensures t a.r e (marks-told t a.r e c.carries-carried.ensures)) c.if-not-good_marks.false-raw (layout-told t a.r e c.carries-carried.ensures) c.in-Unknown.is
