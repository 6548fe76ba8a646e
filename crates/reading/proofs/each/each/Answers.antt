use Prim.Native.Nat.{ℕ, ◌+◌}
use lib.ListN.{length}
use mathlib.Core.Path.{◌≡◌, refl, ap, ◌∙◌}
use native.Mathlib.Omega.{arith}
use Rattle.jer.specs.Table.{table}
use Rattle.reading.proofs.EachLaws.{sofar-start, sofar-all, sofar_untold, turn_last, turn-next}
use Rattle.reading.proofs.each.each.Goals as goal

pub loop-k-init : goal.loop-k-init
loop-k-init c =
    let a = c.args in
    let t = table a.types.now a.names.now in
    (refl, refl, refl, sofar-start t a.texts.now a.ends.now a.rows.now a.pool.now a.tells.now)

pub returns-then-tells-k : goal.returns-then-tells-k
returns-then-tells-k c =
    let a = c.args in
    let t = table a.types.now a.names.now in
    let inv = c.loop-k.invariant in
    sofar_untold t a.texts.now a.ends.now inv.3 c.loop-k-test.true c.if-tells-k.true

pub one-r-requires : goal.one-r-requires
one-r-requires c =
    let inv = c.loop-k.invariant in
    (c.requires, inv.3.rows_in, inv.3.pool_in)

pub overflow_add-n : goal.overflow_add-n
overflow_add-n c = let w = c.one-r.ensures.rows_fit in let e = c.used-more.ensures.0 in omega arith

pub overflow_add-m : goal.overflow_add-m
overflow_add-m c = let w = c.one-r.ensures.pool_fit in let e = c.used-more.ensures.1 in omega arith

pub returns-then-v-eq-NO_ROOM : goal.returns-then-v-eq-NO_ROOM
returns-then-v-eq-NO_ROOM c =
    let a = c.args in
    let t = table a.types.now a.names.now in
    let inv = c.loop-k.invariant in
    turn_last t a.texts.now a.ends.now _ _ inv.3 c.loop-k-test.true c.if-tells-k.false refl c.text_from-s.ensures c.one-r.ensures c.values_in-v.ensures (ap (λ (u : ℕ). c.loop-k.n + u) c.used-more.ensures.0) (ap (λ (u : ℕ). c.loop-k.m + u) c.used-more.ensures.1) c.tell.ensures.0 c.if-v-eq-NO_ROOM.true

pub loop-k-preserved : goal.loop-k-preserved
loop-k-preserved c =
    let a = c.args in
    let t = table a.types.now a.names.now in
    let inv = c.loop-k.invariant in
    (c.one-r.auto.rows ∙ inv.0, c.one-r.auto.pool ∙ inv.1, c.tell.auto.tells ∙ inv.2, turn-next t a.texts.now a.ends.now _ _ inv.3 c.loop-k-test.true c.if-tells-k.false refl c.text_from-s.ensures c.one-r.ensures c.values_in-v.ensures (ap (λ (u : ℕ). c.loop-k.n + u) c.used-more.ensures.0) (ap (λ (u : ℕ). c.loop-k.m + u) c.used-more.ensures.1) c.tell.ensures.0 c.if-v-eq-NO_ROOM.false)

pub returns : goal.returns
returns c =
    let a = c.args in
    let t = table a.types.now a.names.now in
    let inv = c.loop-k.invariant in
    let all : c.loop-k.k ≡ length a.ends.now = omega (arith, c.loop-k-test.false) in
    rw (← all) (sofar-all t a.texts.now a.ends.now inv.3 c.loop-k-test.false)
