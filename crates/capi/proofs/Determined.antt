-- Demand 1 for the calls from C: two results that a contract allows are equal, in the number returned and in every number and byte lent; and a
-- refused call leaves `rows`, `pool` and `text` as they were. `amounts`, where the refusal is told, is the one exception.
use Rattle.std.specs.Prelude.{Err, Ok}
use Rattle.jer.specs.Answer.{Judged, Reading, Readings, Writing}
use Prim.Native.Nat.{ℕ}
use mathlib.Core.Path.{◌≡◌, sym, ap, ◌∙◌}
use mathlib.Core.List.{List}
use native.Mathlib.Omega.{arith}
use Rattle.jer.specs.declared.Which.TheVariants.{TypeTable, ValueTable}
use Rattle.jer.specs.declared.Limit.TheVariants.{HouseSize, LentRoom}
use Rattle.jer.specs.declared.Refusal.{Refusal}
use Rattle.jer.specs.declared.Refusal.TheVariants.{AtByte, AtRow, Amounts}
use Rattle.jer.specs.Table.{Table}
use Rattle.jer.specs.Answer.{values_of}
use Rattle.jer.specs.CallClauses.{ReadCall, WriteCall}
use Rattle.jer.proofs.MeansReads.{cause_range}
use Rattle.promises.proofs.Outcomes.{read_untouched, write_untouched}
use Rattle.promises.proofs.Demand1.{table_determined, read_determined, each_determined, write_determined}
use Rattle.capi.specs.Answers.{of_table, of_reading, of_readings, of_writing, amounts_by, TableFromC, ReadFromC, EachFromC, WriteFromC}

pub table-from-c : {t : Table} {amounts : List ℕ} {r u : ℕ} {a b : List ℕ} → TableFromC t amounts r a → TableFromC t amounts u b → (r ≡ u) × (a ≡ b)
table-from-c {t} {amounts} x y =
    let e = table_determined t x.answer y.answer x.call y.call in
    (x.number ∙ ap (λ (z : Judged). (of_table z).number) e ∙ sym y.number, x.told ∙ ap (λ (z : Judged). amounts_by amounts (of_table z)) e ∙ sym y.told)

pub read-from-c : {t : Table} {s rows pool amounts : List ℕ} {r u : ℕ} {a b c d e f : List ℕ} → ReadFromC t s rows pool amounts r a b c → ReadFromC t s rows pool amounts u d e f
    → (r ≡ u) × (a ≡ d) × (b ≡ e) × (c ≡ f)
read-from-c {amounts = amounts} x y =
    let same = read_determined x.call y.call in
    let is = same.0 in
    (x.number ∙ ap (λ (z : Reading). (of_reading z).number) is ∙ sym y.number, same.1, same.2, x.told ∙ ap (λ (z : Reading). amounts_by amounts (of_reading z)) is ∙ sym y.told)

pub each-from-c : {t : Table} {texts ends rows pool tells amounts : List ℕ} {r u : ℕ} {a b c d e f g h : List ℕ} → EachFromC t texts ends rows pool tells amounts r a b c d
    → EachFromC t texts ends rows pool tells amounts u e f g h → (r ≡ u) × (a ≡ e) × (b ≡ f) × (c ≡ g) × (d ≡ h)
each-from-c {amounts = amounts} x y =
    let same = each_determined x.call y.call in
    let is = same.0 in
    (x.number ∙ ap (λ (z : Readings). (of_readings z).number) is ∙ sym y.number, same.1, same.2, same.3, x.told ∙ ap (λ (z : Readings). amounts_by amounts (of_readings z)) is ∙ sym y.told)

pub write-from-c : {t : Table} {ns pool text amounts : List ℕ} {r u : ℕ} {a b c d : List ℕ} → WriteFromC t ns pool text amounts r a b → WriteFromC t ns pool text amounts u c d
    → (r ≡ u) × (a ≡ c) × (b ≡ d)
write-from-c {amounts = amounts} x y =
    let same = write_determined x.call y.call in
    let is = same.0 in
    (x.number ∙ ap (λ (z : Writing). (of_writing z).number) is ∙ sym y.number, same.1, x.told ∙ ap (λ (z : Writing). amounts_by amounts (of_writing z)) is ∙ sym y.told)

-- a refusal is never told as 0, the number of success
pub refusal-number : (e : Refusal) → (values_of e).number ≡ 0 → ⊥
refusal-number (AtByte c p) h = let k = cause_range c in omega arith
refusal-number (AtRow TypeTable r) h = omega arith
refusal-number (AtRow ValueTable r) h = omega arith
refusal-number (Amounts HouseSize a b) h = omega arith
refusal-number (Amounts LentRoom a b) h = omega arith

pub read_untouched_from-c : {t : Table} {s rows pool amounts : List ℕ} {r : ℕ} {rows' pool' amounts' : List ℕ} → ReadFromC t s rows pool amounts r rows' pool' amounts' → (r ≡ 0 → ⊥)
    → (rows' ≡ rows) × (pool' ≡ pool)
unfolding of_reading
read_untouched_from-c {t} {s} {rows} {pool} {r = r} {rows' = rows'} {pool' = pool'} x h = go x.answer x.call x.number
  where
    go : (a : Reading) → ReadCall t s rows pool a rows' pool' → r ≡ (of_reading a).number → (rows' ≡ rows) × (pool' ≡ pool)
    go (Ok z) c e = absurd (h e)
    go (Err f) c e = read_untouched t s rows pool f rows' pool' c

pub write_untouched_from-c : {t : Table} {ns pool text amounts : List ℕ} {r : ℕ} {text' amounts' : List ℕ} → WriteFromC t ns pool text amounts r text' amounts' → (r ≡ 0 → ⊥) → text' ≡ text
unfolding of_writing
write_untouched_from-c {t} {ns} {pool} {text} {r = r} {text' = text'} x h = go x.answer x.call x.number
  where
    go : (a : Writing) → WriteCall t ns pool text a text' → r ≡ (of_writing a).number → text' ≡ text
    go (Ok n) c e = absurd (h e)
    go (Err f) c e = write_untouched t ns pool text f text' c
