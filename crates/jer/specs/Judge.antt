-- Which value tables are a value of a type, and the first bad row.
use Rattle.std.specs.Prelude.{ℕ, zero, suc, ◌+◌, ◌-◌, ◌*◌, ◌^◌, List, [], ◌∷◌, Bool, true, false, ◌&&◌, ◌||◌, not, eqb, ltb, leb, length, take, drop}
use Rattle.std.specs.Prelude.{Option, None, Some}
use Rattle.json_text.specs.Bytes.{on, pick}
use Rattle.json_text.specs.Utf8.{utf8}
use Rattle.jer.specs.declared.Refusal.TheVariants.{AtRow}
use Rattle.jer.specs.declared.Which.TheVariants.{ValueTable}
use Rattle.jer.specs.Table.{Table, BOOLEAN, INTEGER, ENUMERATED, NULL, OCTET-STRING, UTF8String, SEQUENCE, SEQUENCE-OF, CHOICE, tag_of, kind_of, is_unwrapped, element_of, count_of, type_at, may_be_absent}
use Rattle.jer.specs.Value.{Val, v_bool, v_int, v_enum, v_null, v_bytes, v_seq, v_list, v_choice, Vals, vnil, vcons, Parts, pnil, absent, present, count_present}
use Rattle.jer.specs.Answer.{Res, ok, no}
use Rattle.jer.specs.Rows.{ValueRow, row}

-- what was taken, the rows after it, the number of the next row, and how far the pool is used; or the first bad row
pub data Took (A : Type 0) : Type 0 where
  took : A → List ValueRow → ℕ → ℕ → Took A
  wrong : ℕ → Took A

unfoldable pub and_then : {A B : Type 0} → Took A → (A → List ValueRow → ℕ → ℕ → Took B) → Took B
and_then (took a ws q o) f = f a ws q o
and_then (wrong q) f = wrong q

-- from a type row, the rows left, the next row's number and how far the pool is used
abbrev pub Taker : Type 0
Taker = ℕ → List ValueRow → ℕ → ℕ → Took Val

-- ---- the parts of a value

unfoldable pub is_absent : ValueRow → Bool
is_absent w = eqb w.kind 15 && (eqb w.a 0 && (eqb w.b 0 && eqb w.size 1))

-- n members from i on
unfoldable pub take_parts : Taker → Table → ℕ → ℕ → ℕ → List ValueRow → ℕ → ℕ → Took Parts
take_parts f t r i zero ws q o = took pnil ws q o
take_parts f t r i (suc n) [] q o = wrong q
take_parts f t r i (suc n) (w ∷ ws) q o =
    elim (may_be_absent t r i && is_absent w) [
      | true ↦ and_then (take_parts f t r (suc i) n ws (suc q) o) (λ ps ws' q' o'. took (absent ps) ws' q' o')
      | false ↦ and_then (f (type_at t r i) (w ∷ ws) q o) (λ v us p u. and_then (take_parts f t r (suc i) n us p u) (λ ps ws' q' o'. took (present v ps) ws' q' o'))
    ]

-- n items
unfoldable pub take_items : Taker → ℕ → ℕ → List ValueRow → ℕ → ℕ → Took Vals
take_items f r zero ws q o = took vnil ws q o
take_items f r (suc n) ws q o = and_then (f r ws q o) (λ v us p u. and_then (take_items f r n us p u) (λ vs ws' q' o'. took (vcons v vs) ws' q' o'))

-- ---- one value

-- the value v where the row q is right, else the row is bad
unfoldable pub right_row : Bool → Val → List ValueRow → ℕ → ℕ → Took Val
right_row true v ws q o = took v ws (suc q) o
right_row false v ws q o = wrong q

-- a row that has no parts: a as said, b 0, size 1
unfoldable pub leaf : Bool → Val → ValueRow → List ValueRow → ℕ → ℕ → Took Val
leaf good v w ws q o = right_row (good && (eqb w.b 0 && eqb w.size 1)) v ws q o

-- a string: from where the pool has got to, within the pool
unfoldable pub string_row : Bool → List ℕ → ValueRow → List ValueRow → ℕ → ℕ → Took Val
string_row text pool w ws q o =
    elim (eqb w.a o && (leb (o + w.b) (length pool) && eqb w.size 1)) [
      | false ↦ wrong q
      | true ↦ elim (not text || utf8 (take w.b (drop o pool))) [ true ↦ took (v_bytes (take w.b (drop o pool))) ws (suc q) (o + w.b) | false ↦ wrong q ]
    ]

-- a size that is not the number of rows taken, as a wrong number present below
-- 01, Refusal numbers: "a wrong size or number present is bad at its own row once the parts are right."
unfoldable pub sized : ValueRow → ℕ → Bool → Took Val → Took Val
sized w q good x = and_then x (λ v ws' q' o'. elim (good && eqb w.size (q' - q)) [ true ↦ took v ws' q' o' | false ↦ wrong q ])

-- parts that stand in a bracket, where one may still be opened
-- 01, Refusal numbers, 12: "or is 33 brackets deep"
unfoldable pub in_bracket : Option Taker → Bool → ℕ → (Taker → Took Val) → Took Val
in_bracket None good q f = wrong q
in_bracket (Some g) good q f = elim good [ true ↦ f g | false ↦ wrong q ]

unfoldable pub take_sequence : Table → ℕ → ValueRow → List ValueRow → ℕ → ℕ → Taker → Took Val
take_sequence t r w ws q o f =
    and_then (take_parts f t r 0 (count_of t r) ws (suc q) o)
    (λ ps ws' q' o'. elim (eqb w.a (count_present ps) && eqb w.size (q' - q)) [ true ↦ took (v_seq ps) ws' q' o' | false ↦ wrong q ])

unfoldable pub take_list : Table → ℕ → ValueRow → List ValueRow → ℕ → ℕ → Taker → Took Val
take_list t r w ws q o f = sized w q true (and_then (take_items f (element_of t r) w.a ws (suc q) o) (λ vs ws' q' o'. took (v_list vs) ws' q' o'))

unfoldable pub take_choice : Table → ℕ → ValueRow → List ValueRow → ℕ → ℕ → Taker → Took Val
take_choice t r w ws q o f = sized w q true (and_then (f (type_at t r w.a) ws (suc q) o) (λ v ws' q' o'. took (v_choice w.a v) ws' q' o'))

-- the row w of number q where a value of the type at r is due, if that is not UNWRAPPED
unfoldable pub take_row : Option Taker → Table → List ℕ → ℕ → ValueRow → List ValueRow → ℕ → ℕ → Took Val
take_row inner t pool r w ws q o =
    elim (eqb w.kind (tag_of t r)) [
      | false ↦ wrong q
      | true ↦ pick (kind_of t r)
          (on BOOLEAN BOOLEAN (λ k. leaf (ltb w.a 2) (v_bool (eqb w.a 1)) w ws q o)
          ∷ on INTEGER INTEGER (λ k. right_row (eqb w.size 1) (v_int (w.b * 2 ^ 32 + w.a)) ws q o)
          ∷ on ENUMERATED ENUMERATED (λ k. leaf (ltb w.a (count_of t r)) (v_enum w.a) w ws q o)
          ∷ on NULL NULL (λ k. leaf (eqb w.a 0) v_null w ws q o)
          ∷ on OCTET-STRING OCTET-STRING (λ k. string_row false pool w ws q o)
          ∷ on UTF8String UTF8String (λ k. string_row true pool w ws q o)
          ∷ on SEQUENCE SEQUENCE (λ k. in_bracket inner (eqb w.b 0) q (take_sequence t r w ws q o))
          ∷ on SEQUENCE-OF SEQUENCE-OF (λ k. in_bracket inner (eqb w.b 0) q (take_list t r w ws q o))
          ∷ on CHOICE CHOICE (λ k. in_bracket inner (ltb w.a (count_of t r) && eqb w.b 0) q (take_choice t r w ws q o))
          ∷ [])
          (wrong q)
    ]

-- a row that is wanted: there may be none, and then its number is the row after the last
-- 01, Refusal numbers: "A row short of the table's end"
unfoldable pub on_row : (ValueRow → List ValueRow → Took Val) → List ValueRow → ℕ → Took Val
on_row f [] q = wrong q
on_row f (w ∷ ws) q = f w ws

-- an UNWRAPPED choice opens no bracket
unfoldable pub take_unwrapped : Option Taker → Table → List ℕ → ℕ → ValueRow → List ValueRow → ℕ → ℕ → Took Val
take_unwrapped inner t pool r w ws q o =
    elim (eqb w.kind CHOICE && (ltb w.a (count_of t r) && eqb w.b 0)) [
      | true ↦ take_choice t r w ws q o (λ e us p u. on_row (λ x xs. take_row inner t pool e x xs p u) us p)
      | false ↦ wrong q
    ]

unfoldable pub take_with : Option Taker → Table → List ℕ → Taker
take_with inner t pool r ws q o =
    on_row (λ w us. elim (is_unwrapped t r) [ true ↦ take_unwrapped inner t pool r w us q o | false ↦ take_row inner t pool r w us q o ]) ws q

-- a value with at most d brackets open at one time
-- 01, Refusal numbers: "For 12, rows are taken in order"
unfoldable pub take_value : ℕ → Table → List ℕ → Taker
take_value zero t pool r ws q o = take_with None t pool r ws q o
take_value (suc d) t pool r ws q o = take_with (Some (λ e us p u. take_value d t pool e us p u)) t pool r ws q o

-- ---- the whole table

-- the whole rows of a list of numbers
unfoldable pub rows_in : List ℕ → List ValueRow
rows_in [] = []
rows_in (k ∷ []) = []
rows_in (k ∷ a ∷ []) = []
rows_in (k ∷ a ∷ b ∷ []) = []
rows_in (k ∷ a ∷ b ∷ n ∷ ns) = row k a b n ∷ rows_in ns

-- q whole rows were taken, and the pool up to o
-- 01, Refusal numbers: "or pool bytes left over, count as the row after the last; rows left over, a broken one too, as the first of them."
unfoldable pub all_taken : ℕ → ℕ → Took Val → Res Val
all_taken ns pool (took v ws q o) = elim (eqb ns (q * 4) && eqb pool o) [ true ↦ ok v | false ↦ no (AtRow ValueTable q) ]
all_taken ns pool (wrong q) = no (AtRow ValueTable q)

-- the value of a table of numbers and its pool, at the type of the whole message
-- 01, Refusal numbers, 12: "value table breaks a rule for this type (..) first bad row"
unfoldable pub judge : Table → List ℕ → List ℕ → Res Val
judge t ns pool = all_taken (length ns) (length pool) (take_value 32 t pool 0 (rows_in ns) 0 0)
