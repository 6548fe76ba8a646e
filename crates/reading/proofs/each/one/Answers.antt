use Prim.Native.Nat.{◌+◌, ◌*◌, ◌^◌, ◌<◌}
use mathlib.Core.Path.{refl}
use Rattle.jer.specs.Table.{table}
use Rattle.jer.specs.Each.{rows_used, pool_used}
use Rattle.reading.proofs.EachLaws.{one-few, read-from}
use borrow.Author.Rules.{rules}
use Rattle.reading.proofs.each.one.Goals as goal

pub returns : goal.returns
returns c =
    let a = c.args in
    let t = table a.types.now a.names.now in
    let few = one-few t a.s.now a.rows.now a.pool.now (a.n * 4) a.m c.requires.1 c.requires.2 c.read_good.ensures in
    let few_rows = few.0 in
    let few_bytes = few.1 in
    let x : a.n + rows_used c.read_good.result < 2 ^ 62 = search rules in
    let y : a.m + pool_used c.read_good.result < 2 ^ 64 = search rules in
    read-from t a.s.now a.n a.m _ _ c.requires.1 c.requires.2 c.read_good.ensures refl refl x y
