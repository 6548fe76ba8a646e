-- Demand 1: each call has one answer and leaves one content of each buffer; a refused call writes nothing.
-- 01: "For each call from outside, its contract determines number, amounts and every byte lent, so that two results allowed by it are shown equal"
use Rattle.jer.specs.Answer.{Judged, Reading, Readings, Writing}
use mathlib.Core.Path.{◌≡◌, sym, ◌∙◌}
use mathlib.Core.List.{List}
use Prim.Native.Nat.{ℕ}
use Rattle.jer.specs.Table.{Table}
use Rattle.jer.specs.CallClauses.{TableCall, TextCall, ReadCall, WriteCall}
use Rattle.jer.specs.Each.{EachCall}

pub table_determined : (t : Table) (r u : Judged) → TableCall t r → TableCall t u → r ≡ u
table_determined t r u a b = a ∙ sym b

pub text_determined : (s : List ℕ) (r u : Judged) → TextCall s r → TextCall s u → r ≡ u
text_determined s r u a b = a ∙ sym b

pub read_determined : {t : Table} {s rows pool : List ℕ} {r u : Reading} {a b c d : List ℕ} → ReadCall t s rows pool r a b → ReadCall t s rows pool u c d → (r ≡ u) × (a ≡ c) × (b ≡ d)
read_determined x y = (x.answer ∙ sym y.answer, x.rows_left ∙ sym y.rows_left, x.pool_left ∙ sym y.pool_left)

pub each_determined : {t : Table} {texts ends rows pool tells : List ℕ} {r u : Readings} {a b c d e f : List ℕ} → EachCall t texts ends rows pool tells r a b c → EachCall t texts ends rows pool tells u d e f
    → (r ≡ u) × (a ≡ d) × (b ≡ e) × (c ≡ f)
each_determined x y = (x.answer ∙ sym y.answer, x.rows_left ∙ sym y.rows_left, x.pool_left ∙ sym y.pool_left, x.tells_left ∙ sym y.tells_left)

pub write_determined : {t : Table} {ns pool text : List ℕ} {r u : Writing} {a c : List ℕ} → WriteCall t ns pool text r a → WriteCall t ns pool text u c → (r ≡ u) × (a ≡ c)
write_determined x y = (x.answer ∙ sym y.answer, x.text_left ∙ sym y.text_left)
