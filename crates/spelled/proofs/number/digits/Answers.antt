use Rattle.std.proofs.Common.{rules, ℕ, refl, arith, sym, ◌∙◌, ◌≡◌, not, ◌&&◌, ◌-◌, ◌+◌}
use lib.ListN.{length, get_or}
use lib.Dec.{leb}
use Rattle.std.proofs.lemmas.Iterator.{YieldsList-from_range}
use Rattle.std.proofs.lemmas.Iterator.Search.{find_from_yields_List}
use Rattle.types.proofs.LoopLaws.{map-same}
use Rattle.spelled.proofs.StretchLaws.{found-end}
use Rattle.spelled.specs.Stretch.{Stretch}
use Rattle.spelled.specs.Number.{SomeOnward}
use Rattle.spelled.proofs.AnyNumber.{digits-none, digits_more, digit-tells}
use Rattle.spelled.proofs.number.digits.Goals as goal

pub returns-clause-by_index : goal.returns-clause-by_index
returns-clause-by_index c = λ m.
    let s = c.args.s.now in
    let p = c.args.p in
    let n = length s - p in
    let test = λ (q : ℕ). not (leb 0x30 (get_or s q 0) && leb (get_or s q 0) 0x39) in
    let e = sym (map-same c.find.result) ∙ find_from_yields_List test _ _ c.find.result c.find.ensures.ran (YieldsList-from_range p (length s) n refl refl) (λ x b q k. search rules) in
    let f : p + n ≡ c.max.result = omega (arith, c.max.ensures) in
    rw (c.unwrap_or.ensures, e, ← f) (found-end (Stretch (SomeOnward m) s p) test p n (digits-none s p m) (λ q h k t d. let w = digit-tells (get_or s q 0) t in digits_more s p q m d (omega arith) w.0 w.1))
