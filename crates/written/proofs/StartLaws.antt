-- A value, by where it begins.
use mathlib.Core.Path.{◌≡◌, refl}
use mathlib.Core.List.{List}
use mathlib.Core.Bool.{Bool, true, false, ◌&&◌}
use Prim.Native.Nat.{ℕ, ◌-◌, ◌<◌}
use native.Mathlib.Omega.{arith}
use lib.Dec.{eqb}
use lib.ListN.{drop}
use Rattle.jer.specs.Table.{Table, kind_of, is_unwrapped}
use Rattle.jer.specs.Rows.{ValueRow}
use Rattle.jer.specs.Judge.{wrong, and_then}
use Rattle.jer.proofs.ValidRows.{unwrapped-kind}
use Rattle.written.specs.Start.{Begins, own, chosen, closed_as}
use Rattle.written.specs.Text.{Taken, took_to, text_of, value_text, ended_as, Writes}
use Rattle.written.specs.Tables.{Wrapped}
use Rattle.written.specs.declared.start.Start.{Start}
use Rattle.written.proofs.TextLaws.{Value, NoValue, gives, text-of}
use Rattle.written.proofs.ValueLaws.{unwrapped-ends, unwrapped-wrong}

-- a type of a leaf's kind is not UNWRAPPED
pub leaf-plain : (t : Table) (r : ℕ) {k : ℕ} → k ≡ kind_of t r → k < 6 → is_unwrapped t r ≡ false
leaf-plain t r e h = go (is_unwrapped t r) refl
  where
    go : (b : Bool) → is_unwrapped t r ≡ b → is_unwrapped t r ≡ false
    go true u = absurd (omega (arith, unwrapped-kind t r u))
    go false u = u

no_text : {d : ℕ} {t : Table} {pool : List ℕ} {rows : List ValueRow} {r q o q' : ℕ} → NoValue d t pool rows r q o q' → value_text d t pool (drop q rows) r q o ≡ wrong q'
unfolding value_text text_of and_then
no_text v = rw v.is

module _ (d : ℕ) (t : Table) (pool : List ℕ) (rows : List ValueRow) (r q o : ℕ) {s : Start} (f : Begins t rows r q s) (g : Wrapped t) where
  pub start-fails : {q' : ℕ} → NoValue d t pool rows s.row s.slot o q' → value_text d t pool (drop q rows) r q o ≡ wrong q'
  start-fails {q'} v = go f v
    where
      go : Begins t rows r q s → NoValue d t pool rows s.row s.slot o q' → value_text d t pool (drop q rows) r q o ≡ wrong q'
      go (own u e k p n) v = no_text (rw (e, p) at v)
      go (chosen w u x y e k p z) v = unwrapped-wrong d t pool rows r q o w u x g y (rw (e, p) at v)

  pub start-ends : {k e q' o' : ℕ} {l m : List ℕ} {x : Taken} → Value d t pool rows s.row s.slot o k l m q' o' e → x ≡ closed_as s.size q q' o' e → Writes (value_text d t pool (drop q rows) r q o) k l m x
  unfolding closed_as
  start-ends {k} {e} {q'} {o'} {l} {m} {x} v y = go f v
    where
      go : Begins t rows r q s → Value d t pool rows s.row s.slot o k l m q' o' e → Writes (value_text d t pool (drop q rows) r q o) k l m x
      go (own u a b p n) v =
          let z : x ≡ took_to q' o' e = rw n at y in
          let w : Value d t pool rows r q o k l m q' o' e = rw (a, p) at v in
          rw z (gives (text-of w) w.puts)
      go (chosen w u i j a b p n) v =
          let z : x ≡ ended_as (true && eqb w.size (q' - q)) q q' o' e = rw n at y in
          rw z (unwrapped-ends d t pool rows r q o w u i g j (rw (a, p) at v))
