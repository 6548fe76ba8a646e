-- What a call inside answers and stores: the text of what `jer` takes of the value table, from a place of the lent text on.
use Rattle.std.specs.Prelude.{ℕ, zero, suc, ◌+◌, ◌-◌, ◌≤◌, ◌<◌, ◌≡◌, List, [], ◌∷◌, ◌++◌, Bool, true, false, eqb, length, get_or, take}
use Rattle.std.specs.Prelude.{Option, Result, Ok, Err}
use Rattle.std.proofs.lemmas.List.Edits.{sets}
use Rattle.slices.specs.Lent.{Lent, before, after}
use Rattle.jer.specs.Table.{Table, table, member_row, UTF8String, kind_of, is_base64, is_unwrapped, name_at}
use Rattle.types.specs.Rows.{row_of}
use Rattle.types.specs.declared.row.Row.{Row}
use Rattle.jer.specs.Value.{Val}
use Rattle.jer.specs.Rows.{ValueRow}
use Rattle.jer.specs.Judge.{Took, took, wrong, and_then, Taker, take_row, take_value}
use Rattle.jer.specs.Octets.{hex, base64}
use Rattle.jer.specs.Write.{null_text, escapes, string_text, write}
use Rattle.jer.specs.Calls.{amount}
use Rattle.written.specs.Literal.{LiteralByte}
use Rattle.written.specs.Rows.{rows_from, value_row}
use Rattle.written.specs.declared.rows.ValueRow.{ValueRow as Cells}
use Rattle.written.specs.declared.put.Form.{Form}
use Rattle.written.specs.declared.put.Form.TheVariants.{Escaped, Hexadecimal, Base64}
use Rattle.written.specs.declared.tables.Tables.{Tables}
use Rattle.written.specs.declared.taken.Took.{Took as Ends}
use Rattle.written.specs.declared.taken.Wrong.{Wrong}

-- the text s is put from k on, and ends at e. Places are amounts; what does not end within the house size may stand anywhere
pub record Puts (s : List ℕ) (k : ℕ) (before after : List ℕ) (e : ℕ) : Type 0 where
  pub ends : e ≡ amount (k + length s)
  pub stands : k + length s ≤ 65536 → after ≡ sets before k s

-- the text of what was taken
unfoldable pub text_of : {A : Type 0} → (A → List ℕ) → Took A → Took (List ℕ)
text_of f x = and_then x (λ a ws q o. took (f a) ws q o)

unfoldable pub value_text : ℕ → Table → List ℕ → List ValueRow → ℕ → ℕ → ℕ → Took (List ℕ)
value_text d t pool ws r q o = text_of (λ v. write v t r) (take_value d t pool r ws q o)

-- the text of a value in a bracket, in which at most d more may be open
unfoldable pub bracket_text : (Taker → Took Val) → ℕ → Table → List ℕ → ℕ → Took (List ℕ)
bracket_text F d t pool r = text_of (λ v. write v t r) (F (take_value d t pool))

-- what a call answers: how far rows, pool and text have got, or the first bad row
abbrev pub Taken : Type 0
Taken = Result Ends Wrong

abbrev pub took_to : ℕ → ℕ → ℕ → Taken
took_to next used end = Ok (record { next = next; used = used; end = end })

abbrev pub wrong_at : ℕ → Taken
wrong_at q = Err (record { slot = q })

-- what is answered of a text that is put from k on
unfoldable pub taken_of : ℕ → Took (List ℕ) → Taken
taken_of k (took s ws q o) = took_to q o (amount (k + length s))
taken_of k (wrong q) = wrong_at q

abbrev pub Stored : Took (List ℕ) → ℕ → List ℕ → List ℕ → Type 0
Stored (took s ws q o) k before after = k + length s ≤ 65536 → after ≡ sets before k s
Stored (wrong q) k before after = Unit {0}

pub record Writes (x : Took (List ℕ)) (k : ℕ) (before after : List ℕ) (a : Taken) : Type 0 where
  pub answer : a ≡ taken_of k x
  pub stored : Stored x k before after

-- of the tables that a writing reads: the type table, and the rows of the value table from a number on
abbrev pub type_table : Tables → Table
type_table x = table x.types.now x.names.now

abbrev pub value_rows : Tables → ℕ → List ValueRow
value_rows x = rows_from x.values.now

-- the kind of the type at r, which is not UNWRAPPED
abbrev pub PlainRow : Table → ℕ → ℕ → Type 0
PlainRow t kind r = (kind ≡ kind_of t r) × (is_unwrapped t r ≡ false)

-- the row w of a value with parts is the one at q; the type at r is not UNWRAPPED
abbrev pub BracketRow : Table → List ℕ → Cells → ℕ → ℕ → Type 0
BracketRow t ns w r q = (rows_from ns q ≡ value_row w ∷ rows_from ns (suc q)) × (q < length ns) × (w.kind ≡ kind_of t r) × (6 ≤ w.kind) × (is_unwrapped t r ≡ false)

-- ---- strings

unfoldable pub spelled : Form → List ℕ → List ℕ
spelled Escaped s = escapes s
spelled Hexadecimal s = hex s
spelled Base64 s = base64 s

-- the string s, whose bytes have the mark, is put whole, in quotation marks; or else some of it
pub record PutsWhole (mark : ℕ) (s : List ℕ) (k : ℕ) (before after : List ℕ) (b : Bool) : Type 0 where
  pub all : b ≡ true → Puts (string_text s) k before after (k + length s + 2) × (k + length s + 2 ≤ length before) × ((i : ℕ) → i < length s → LiteralByte mark (get_or s i 0))
  pub some : b ≡ false → (n : ℕ) × (n ≤ length s + 1) × (after ≡ sets before k (take n (0x22 ∷ s)))

-- how a string of the type at r is spelled
unfoldable pub form_of : Table → ℕ → Form
form_of t r = elim (eqb (kind_of t r) UTF8String) [ true ↦ Escaped | false ↦ elim (is_base64 t r) [ true ↦ Base64 | false ↦ Hexadecimal ] ]

-- ---- what stands before the parts of a bracket

-- a comma before all but the first
unfoldable pub comma : ℕ → List ℕ
comma zero = []
comma (suc n) = 0x2C ∷ []

-- n nulls, as the elements from i on
unfoldable pub nulls : ℕ → ℕ → List ℕ
nulls i zero = []
nulls i (suc n) = comma i ++ (null_text ++ nulls (suc i) n)

unfoldable pub name_text : List ℕ → List ℕ
name_text name = string_text name ++ (0x3A ∷ [])

-- before the member at i, with n parts written: in an ARRAY the nulls that are due, else its name
unfoldable pub lead : Bool → Table → ℕ → ℕ → ℕ → List ℕ
lead true t r i n = nulls n (i - n) ++ comma i
lead false t r i n = comma n ++ name_text (name_at t r i)

-- it is put, for a member whose row is `member`
abbrev pub Leads : Bool → List ℕ → List ℕ → Row → ℕ → ℕ → ℕ → ℕ → Lent → ℕ → Type 0
Leads array types names member r i n k text e =
    member ≡ row_of (table types names) (member_row (table types names) r i) → Puts (lead array (table types names) r i n) k (before text) (after text) e

-- ---- the end of a bracket

-- taken up to the next row, if the row q was right
unfoldable pub ended_as : Bool → ℕ → ℕ → ℕ → ℕ → Taken
ended_as true q next used end = took_to next used end
ended_as false q next used end = wrong_at q

-- of an ARRAY and of an object
unfoldable pub opening : Bool → ℕ
opening true = 0x5B
opening false = 0x7B

unfoldable pub closing : Bool → ℕ
closing true = 0x5D
closing false = 0x7D

-- how many parts are written once the member at i is, after n
unfoldable pub kept_after : Bool → ℕ → ℕ → ℕ
kept_after true i n = suc i
kept_after false i n = suc n

-- ---- what the members of the cycle write

-- the value from a slot of the value table and an offset of the pool on, of the type at a row, into the text from a place on
abbrev pub WritesValue : ℕ → Tables → ℕ → ℕ → ℕ → ℕ → Lent → Taken → Type 0
WritesValue depth tables row slot offset place text a =
    Writes (value_text depth (type_table tables) tables.pool.now (value_rows tables slot) row slot offset) place (before text) (after text) a

-- the same with no text to write into: it is measured
abbrev pub Measures : ℕ → Tables → ℕ → ℕ → ℕ → Taken → Type 0
Measures depth tables row slot offset a = Writes (value_text depth (type_table tables) tables.pool.now (value_rows tables slot) row slot offset) 0 [] [] a

-- a value with a bracket, whose row is w and whose parts are taken so
abbrev pub WritesParts : (Table → ℕ → ValueRow → List ValueRow → ℕ → ℕ → Taker → Took Val) → ℕ → Tables → ℕ → ValueRow → ℕ → ℕ → ℕ → Lent → Taken → Type 0
WritesParts parts depth tables row w slot offset place text a =
    Writes (bracket_text (parts (type_table tables) row w (value_rows tables (suc slot)) slot offset) depth (type_table tables) tables.pool.now row) place (before text) (after text) a

-- a leaf, whose row is w
abbrev pub WritesLeaf : Tables → ℕ → ValueRow → ℕ → ℕ → ℕ → Lent → Taken → Type 0
WritesLeaf tables row w slot offset place text a =
    (i : Option Taker) (ws : List ValueRow)
    → Writes (text_of (λ v. write v (type_table tables) row) (take_row i (type_table tables) tables.pool.now row w ws slot offset)) place (before text) (after text) a
