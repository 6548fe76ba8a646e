-- Results, refusals, and document 01's number and values for each refusal.
use Rattle.std.specs.Prelude.{ℕ, Result, Ok}
use Rattle.jer.specs.declared.Cause.{Cause}
use Rattle.jer.specs.declared.Cause.TheVariants.{TooLong, NotJson, TooDeep, OtherKind, BadNumber, BadString, UnknownName, RepeatedName, Missing, Surplus, NotOne, Unknown}
use Rattle.jer.specs.declared.Which.{Which}
use Rattle.jer.specs.declared.Which.TheVariants.{TypeTable, ValueTable}
use Rattle.jer.specs.declared.Limit.{Limit}
use Rattle.jer.specs.declared.Limit.TheVariants.{HouseSize, LentRoom}
use Rattle.jer.specs.declared.Refusal.{Refusal}
use Rattle.jer.specs.declared.Counts.{Counts}
use Rattle.jer.specs.declared.Refusal.TheVariants.{AtByte, AtRow, Amounts}

-- a result, or a refusal
pub data Res (A : Type 0) : Type 0 where
  ok : A → Res A
  no : Refusal → Res A

unfoldable pub bind : {A B : Type 0} → Res A → (A → Res B) → Res B
bind (ok a) f = f a
bind (no e) f = no e

-- a refusal at a byte
abbrev pub at : {A : Type 0} → Cause → ℕ → Res A
at c p = no (AtByte c p)

-- the numbers of 01's table of refusals: 2 to 11
abbrev pub cause_number : Cause → ℕ
cause_number TooLong = 2
cause_number NotJson = 3
cause_number TooDeep = 4
cause_number OtherKind = 5
cause_number BadNumber = 6
cause_number BadString = 7
cause_number UnknownName = 8
cause_number RepeatedName = 9
cause_number (Missing i) = 10
cause_number Surplus = 10
cause_number NotOne = 10
cause_number Unknown = 11

-- 1 and 12
abbrev pub table_number : Which → ℕ
table_number TypeTable = 1
table_number ValueTable = 12

-- 13 and 14
abbrev pub limit_number : Limit → ℕ
limit_number HouseSize = 13
limit_number LentRoom = 14

-- 01, Refusal numbers: "A refusal carries its number and, by kind of refusal, a place, a row or the amounts needed."
pub record Values : Type 0 where
  pub number : ℕ
  pub first : ℕ
  pub second : ℕ

abbrev pub values : ℕ → ℕ → ℕ → Values
values n a b = record { number = n; first = a; second = b }

abbrev pub values_of : Refusal → Values
values_of (AtByte c p) = values (cause_number c) p 0
values_of (AtRow w r) = values (table_number w) r 0
values_of (Amounts l a b) = values (limit_number l) a b

unfoldable pub number_of : Refusal → ℕ
number_of e = (values_of e).number

-- ---- what the calls answer

-- judging a type table or a text
abbrev pub Judged : Type 0
Judged = Result Unit Refusal

-- reading: how many rows and pool bytes were stored
abbrev pub Reading : Type 0
Reading = Result Counts Refusal

abbrev pub read_as : ℕ → ℕ → Reading
read_as n m = Ok (record { rows = n; pool = m })

-- reading many texts: of how many it is told what came of them
abbrev pub Readings : Type 0
Readings = Result ℕ Refusal

-- writing: how many bytes of text were stored
abbrev pub Writing : Type 0
Writing = Result ℕ Refusal
