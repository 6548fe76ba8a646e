use Prim.Native.Nat.{◌+◌}
use native.Mathlib.Omega.{arith}
use lib.ListN.{get_or}
use Rattle.jer.specs.Octets.{base64}
use Rattle.octets.proofs.EncodeLaws.{one-pad, two-pads, base64-done, base64-next, base64-last-two, base64-last-one}
use Rattle.octets.proofs.PutLaws.{sets_as, putting_start, putting_done}
use Rattle.octets.proofs.encode.put_base64.Goals as goal

pub loop-left-init : goal.loop-left-init
loop-left-init c = putting_start (base64 c.args.octets.now) c.args.text.now c.args.k

pub loop-left-preserved : goal.loop-left-preserved
loop-left-preserved c =
    let p = c.loop-left in
    base64-next c.args.octets.now p.left.now p.invariant c.in-len3-up.len_at_least (sets_as p.text (c.args.k + p.n) c.group.ensures c.put_all.ensures) c.put_all.auto.s

pub returns-in-len2-up : goal.returns-in-len2-up
returns-in-len2-up c =
    let p = c.loop-left in
    let l = p.left.now in
    let all = base64-last-two c.args.octets.now l p.invariant (omega arith) (sets_as p.text (c.args.k + p.n) (one-pad (get_or l 0 0) (get_or l 1 0) c.group-four-in-len2-up.ensures) c.put_all-in-len2-up.ensures) in
    record { value = all.0; text_after = all.1 }

pub returns-in-len1 : goal.returns-in-len1
returns-in-len1 c =
    let p = c.loop-left in
    let l = p.left.now in
    let all = base64-last-one c.args.octets.now l p.invariant (omega arith) (sets_as p.text (c.args.k + p.n) (two-pads (get_or l 0 0) c.group-four.ensures) c.put_all-in-len1.ensures) in
    record { value = all.0; text_after = all.1 }

pub returns-in-empty : goal.returns-in-empty
returns-in-empty c =
    let p = c.loop-left in
    let all = putting_done p.invariant (base64-done p.left.now (omega arith)) in
    record { value = all.0; text_after = all.1 }
