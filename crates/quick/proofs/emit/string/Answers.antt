use Prim.Native.Nat.{ℕ, ◌+◌}
use mathlib.Core.Path.{sym, ap, ◌∙◌}
use native.Mathlib.Omega.{arith}
use Rattle.jer.specs.Table.{table}
use Rattle.jer.specs.Octets.{unhex, unbase64}
use Rattle.quick.proofs.EmitLaws.{noted_two, noted_slot, noted_bytes, text-stored, hex-stored, base64-stored, hex-room, base64-room, octets-at, hex-at, escaped_emitted, escaped-room, octet-kind, stored-place}
use Rattle.quick.proofs.emit.string.Goals as goal

pub offset_bounds-tape-top : goal.offset_bounds-tape-top
offset_bounds-tape-top c =
    let two = noted_two c.requires.0 in
    omega (arith, two, c.requires.1.1)

pub bounds-tape-top : goal.bounds-tape-top
bounds-tape-top c =
    let two = noted_two c.requires.0 in
    omega (arith, two)

pub overflow_add-b : goal.overflow_add-b
overflow_add-b c =
    let two = noted_two c.requires.0 in
    omega (arith, two, c.requires.1.1)

pub offset_bounds-tape-top-2 : goal.offset_bounds-tape-top-2
offset_bounds-tape-top-2 c =
    let two = noted_two c.requires.0 in
    omega (arith, two, c.requires.1.1)

pub bounds-tape-top-2 : goal.bounds-tape-top-2
bounds-tape-top-2 c =
    let two = noted_two c.requires.0 in
    omega (arith, two)

pub put_row-requires : goal.put_row-requires
put_row-requires c =
    let here = noted_slot c.requires.0 in
    omega (arith, here)

pub put_text-requires : goal.put_text-requires
put_text-requires c = (c.requires.1.0, noted_bytes c.requires.0 (λ ns. sym (c.kind_of.ensures ns) ∙ c.if-kind_of-eq-UTF8_STRING.true), omega (arith, c.requires.0.room.small))

pub overflow_add-result : goal.overflow_add-result
overflow_add-result c = omega (arith, c.wide.ensures, c.requires.0.room.small)

pub returns-then-kind_of-eq-UTF8_STRING : goal.returns-then-kind_of-eq-UTF8_STRING
returns-then-kind_of-eq-UTF8_STRING c =
    let rows = c.args.rows.now in
    let pool = c.args.pool.now in
    λ ns v k w. text-stored c.args.offset c.args.slot _ rows c.put_row.new.rows pool c.put_text.new.pool (sym (c.kind_of.ensures ns) ∙ c.if-kind_of-eq-UTF8_STRING.true) c.put_row.ensures c.put_text.ensures.pool_after c.put_text.ensures.pool_after_2 (ap (λ (x : ℕ). c.args.offset + x) c.wide.ensures.0) w

pub put_row-requires-then-b-ge-ESCAPED : goal.put_row-requires-then-b-ge-ESCAPED
put_row-requires-then-b-ge-ESCAPED c =
    let here = noted_slot c.requires.0 in
    omega (arith, here)

pub octets_at-requires : goal.octets_at-requires
octets_at-requires c = let r = escaped-room c.requires.0 (λ ns. octet-kind (c.requires.2 ns) c.if-kind_of-eq-UTF8_STRING.false (c.kind_of.ensures ns)) c.requires.1.0 c.if-b-ge-ESCAPED.true in (c.requires.1.0, omega (arith, r, c.wide-then-b-ge-ESCAPED.ensures.0))

pub overflow_add-result-then-b-ge-ESCAPED : goal.overflow_add-result-then-b-ge-ESCAPED
overflow_add-result-then-b-ge-ESCAPED c = omega (arith, c.wide-then-b-ge-ESCAPED-2.ensures, c.requires.0.room.small)

pub returns-then-b-ge-ESCAPED : goal.returns-then-b-ge-ESCAPED
returns-then-b-ge-ESCAPED c =
    let types = c.args.types.now in
    let rows = c.args.rows.now in
    let pool = c.args.pool.now in
    λ ns v k w. escaped_emitted c.args.offset c.args.slot _ rows c.put_row-then-b-ge-ESCAPED.new.rows pool c.octets_at.new.pool (octet-kind (c.requires.2 ns) c.if-kind_of-eq-UTF8_STRING.false (c.kind_of.ensures ns)) c.requires.1.0 c.if-b-ge-ESCAPED.true c.put_row-then-b-ge-ESCAPED.ensures (stored-place c.args.s.now c.octets_at.new.pool pool c.args.offset (table types ns) c.args.row c.wide-then-b-ge-ESCAPED.ensures.0 (c.octets_at.ensures.stored ns (omega (arith, c.requires.0.room.small)))) (ap (λ (x : ℕ). c.args.offset + x) c.wide-then-b-ge-ESCAPED-2.ensures.0) w

pub put_row-requires-then-is_base64 : goal.put_row-requires-then-is_base64
put_row-requires-then-is_base64 c =
    let here = noted_slot c.requires.0 in
    omega (arith, here)

pub put_base64-requires : goal.put_base64-requires
put_base64-requires c =
    let types = c.args.types.now in
    let coded = c.is_base64.ensures in
    let at = c.at-w.ensures in
    let r = base64-room c.requires.0 (λ ns. sym (coded (table types ns) c.args.row (at ns)) ∙ c.if-is_base64.true) c.requires.2 c.if-b-ge-ESCAPED.false in (omega (arith, r, c.wide-then-is_base64-2.ensures.0, c.wide-then-is_base64.ensures.0), omega (arith, r, c.wide-then-is_base64-2.ensures.0, c.requires.1.0, c.requires.0.room.small))

pub overflow_add-result-then-is_base64 : goal.overflow_add-result-then-is_base64
overflow_add-result-then-is_base64 c = omega (arith, c.wide-then-is_base64-3.ensures, c.requires.0.room.small)

pub returns-then-is_base64 : goal.returns-then-is_base64
returns-then-is_base64 c =
    let types = c.args.types.now in
    let rows = c.args.rows.now in
    let pool = c.args.pool.now in
    let coded = c.is_base64.ensures in
    let at = c.at-w.ensures in
    λ ns v k w. base64-stored c.args.offset c.args.slot _ rows c.put_row-then-is_base64.new.rows pool c.put_base64.new.pool (sym (coded (table types ns) c.args.row (at ns)) ∙ c.if-is_base64.true) (c.requires.2 ns).1 c.if-b-ge-ESCAPED.false c.put_row-then-is_base64.ensures (octets-at unbase64 c.args.s.now c.put_base64.new.pool pool c.args.offset c.wide-then-is_base64-2.ensures.0 c.wide-then-is_base64.ensures.0 c.put_base64.ensures) (ap (λ (x : ℕ). c.args.offset + x) c.wide-then-is_base64-3.ensures.0) (c.requires.2 ns).0 w

pub put_row-requires-2 : goal.put_row-requires-2
put_row-requires-2 c =
    let here = noted_slot c.requires.0 in
    omega (arith, here)

pub put_hex-requires : goal.put_hex-requires
put_hex-requires c =
    let types = c.args.types.now in
    let coded = c.is_base64.ensures in
    let at = c.at-w.ensures in
    let r = hex-room c.requires.0 (λ ns. octet-kind (c.requires.2 ns) c.if-kind_of-eq-UTF8_STRING.false (c.kind_of.ensures ns)) (λ ns. sym (coded (table types ns) c.args.row (at ns)) ∙ c.if-is_base64.false) c.if-b-ge-ESCAPED.false in (omega (arith, r, c.wide-3.ensures.0, c.wide-2.ensures.0), omega (arith, r, c.wide-3.ensures.0))

pub overflow_add-result-2 : goal.overflow_add-result-2
overflow_add-result-2 c = omega (arith, c.wide-4.ensures, c.requires.0.room.small)

pub returns : goal.returns
returns c =
    let types = c.args.types.now in
    let rows = c.args.rows.now in
    let pool = c.args.pool.now in
    let coded = c.is_base64.ensures in
    let at = c.at-w.ensures in
    λ ns v k w. hex-stored c.args.offset c.args.slot _ rows c.put_row-2.new.rows pool c.put_hex.new.pool (octet-kind (c.requires.2 ns) c.if-kind_of-eq-UTF8_STRING.false (c.kind_of.ensures ns)) (sym (coded (table types ns) c.args.row (at ns)) ∙ c.if-is_base64.false) c.if-b-ge-ESCAPED.false c.put_row-2.ensures (hex-at unhex c.args.s.now c.put_hex.new.pool pool c.args.offset c.wide-3.ensures.0 c.wide-2.ensures.0 c.put_hex.ensures) (ap (λ (x : ℕ). c.args.offset + x) c.wide-4.ensures.0) w
