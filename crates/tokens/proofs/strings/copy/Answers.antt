use mathlib.Core.Path.{◌≡◌, refl, sym, ap, ◌∙◌}
use mathlib.Core.List.{List}
use Prim.Native.Nat.{ℕ, ◌+◌, ◌-◌, ◌≤◌, max}
use Rattle.std.proofs.Common.{⊎_elim}
use Rattle.std.proofs.lemmas.Bool.{cases_lt}
use Rattle.tokens.specs.Strings.{denoted, string_end}
use native.Mathlib.Omega.{arith}
use lib.ListN.{length}
use Rattle.tokens.proofs.StringLaws.{piece_past, piece_quote, piece_bare, end-other, denoted-close, denoted-few, counting-close, copying_start, copying_close, copying_bare, copying_rest}
use Rattle.tokens.proofs.strings.copy.Goals as goal

pub loop-i-init : goal.loop-i-init
loop-i-init c =
    let a = c.args in
    let none : a.p - a.p ≡ 0 = omega arith in
    (rw none (copying_start a.s.now a.p a.pool.now a.j), refl)

pub returns-then-b-eq34 : goal.returns-then-b-eq34
returns-then-b-eq34 c =
    let l = c.loop-i in
    let here = piece_quote c.args.s.now l.i c.loop-i-test.true c.if-b-eq34.true in
    record { count_value = counting-close l.invariant.0.counting here; from_value = l.invariant.1; pool_after = copying_close l.invariant.0 here }

pub copy_rest-rest-requires : goal.copy_rest-rest-requires
copy_rest-rest-requires c = (omega arith, omega (arith, c.loop-i.invariant.0.counting, c.requires))

pub overflow_add-result : goal.overflow_add-result
overflow_add-result c = omega (arith, denoted-few c.args.s.now c.loop-i.i, c.copy_rest-rest.ensures.value, c.loop-i.invariant.0.counting, c.requires)

pub returns-then-b-eq92 : goal.returns-then-b-eq92
returns-then-b-eq92 c =
    let l = c.loop-i in
    let r = copying_rest l.invariant.0 c.copy_rest-rest.ensures.value c.copy_rest-rest.ensures.pool_after in
    record { count_value = r.0; from_value = l.invariant.1; pool_after = r.1 }

pub loop-i-preserved : goal.loop-i-preserved
loop-i-preserved c =
    let l = c.loop-i in
    let s = c.args.s.now in
    let here = piece_bare s l.i c.loop-i-test.true (c.type_inv.s l.i).fits c.if-b-eq34.false c.if-b-eq92.false in
    let next : l.i + 1 - c.args.p ≡ l.i - c.args.p + 1 = omega arith in
    (rw next (copying_bare l.invariant.0 here c.put.ensures c.put.auto.s), sym (end-other s l.i c.loop-i-test.true (c.type_inv.s l.i).fits c.if-b-eq34.false c.if-b-eq92.false) ∙ l.invariant.1)

-- the end of what was passed, or p itself past the text
end-from : (s : List ℕ) (p i m : ℕ) → m ≡ max p (length s) → (p ≤ length s → i ≤ length s) → length s ≤ i → string_end s i ≡ string_end s p → string_end s m ≡ string_end s p
end-from s p i m e f h k = ⊎_elim (λ l. let w : m ≡ p = omega arith in ap (string_end s) w) (λ l. let w : m ≡ i = omega (arith, f l) in ap (string_end s) w ∙ k) (cases_lt (length s) p)

pub returns : goal.returns
returns c =
    let l = c.loop-i in
    let s = c.args.s.now in
    let p = c.args.p in
    let here = piece_past s l.i c.loop-i-test.false in
    let past : length s ≤ p → length (denoted s p) ≡ 0 = λ h. ap length (denoted-close s p (piece_past s p h)) in
    record {
      count_value = grind (arith, counting-close l.invariant.0.counting here, past);
      from_value = end-from s p l.i c.max.result c.max.ensures l.auto.i-end c.loop-i-test.false l.invariant.1;
      pool_after = copying_close l.invariant.0 here;
    }
