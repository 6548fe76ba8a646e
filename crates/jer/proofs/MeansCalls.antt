-- What a successful reading or writing rests on: a good table, a JSON text, a well-formed value.
use Prim.Native.Nat.{ℕ, ◌*◌, ◌≤◌}
use mathlib.Core.Path.{◌≡◌, refl, ◌∙◌}
use mathlib.Core.List.{List}
use mathlib.Core.Bool.{Bool, true, false}
use Rattle.std.specs.Prelude.{Option, None, Some}
use native.Mathlib.Omega.{arith}
use lib.Dec.{leb}
use lib.ListN.{length}
use borrow.Author.Tests.{leb-true}
use Rattle.json_text.specs.Tree.{Json}
use Rattle.json_text.specs.Grammar.{Text}
use Rattle.json_text.specs.Machine.{Parsed, tree, refused, not_json, too_deep, parse_within, parse}
use Rattle.json_text.proofs.Sound.{text-taken}
use Rattle.jer.specs.Table.{Table}
use Rattle.jer.specs.Valid.{first_bad}
use Rattle.jer.specs.Value.{Val}
use Rattle.jer.specs.Answer.{ok, bind}
use Rattle.jer.specs.Rows.{rows_of, pool_of}
use Rattle.jer.specs.Judge.{judge}
use Rattle.jer.specs.Write.{write}
use Rattle.jer.specs.Fits.{Fits}
use Rattle.jer.specs.Means.{Means}
use Rattle.jer.specs.Calls.{table_of, good_table, tree_of, good_text, read_text, write_text}
use Rattle.jer.proofs.ValidSane.{valid_sane}
use Rattle.jer.proofs.WeightGot.{steps}
use Rattle.jer.proofs.Whole.{whole-fits, whole-bounds}
use Rattle.jer.proofs.SpellCalls.{read-text}

pub never : {A : Type 0} → ◌≡◌ {A = ℕ} 0 1 → A
never z = absurd (omega arith)

pub good-table : (t u : Table) → good_table t ≡ ok u → first_bad t ≡ None
unfolding good_table table_of
good-table t u h = go (first_bad t) refl h
  where
    go : (o : Option ℕ) → first_bad t ≡ o → table_of t o ≡ ok u → first_bad t ≡ None
    go None e w = e
    go (Some r) e w = never (cc)

-- a text that is judged good is a JSON text of the house size
record GoodText (s : List ℕ) (j : Json) : Type 0 where
  text : Text 32 j s
  size : length s ≤ 65536

good-text : (s : List ℕ) (j : Json) → good_text s ≡ ok j → GoodText s j
unfolding good_text tree_of parse
good-text s j h = size (leb (length s) 65536) refl
  where
    is-tree : (p : Parsed) → tree_of p ≡ ok j → p ≡ tree j
    is-tree (tree k) w = cc
    is-tree (refused not_json p) w = never (cc)
    is-tree (refused too_deep p) w = never (cc)

    size : (b : Bool) → leb (length s) 65536 ≡ b → GoodText s j
    size false e = let w = rw (e, good_text) at h in never (cc)
    size true e = let w = rw (e, good_text) at h in record { text = text-taken 32 j s (is-tree (parse_within 32 s) w); size = leb-true _ _ e }

-- what is read is what the text means
pub means : (t : Table) (s : List ℕ) (v : Val) → read_text t s ≡ ok v → Means t s v
unfolding read_text bind
means t s v e =
    let a = steps (good_table t) _ v e in
    let b = steps (good_text s) _ v a.then in
    let g = good-text s b.val b.first in
    record { good = good-table t a.val a.first; json = b.val; text = g.text; size = g.size; value = b.then }

-- what a text means is read
pub means-read : (t : Table) (s : List ℕ) (v : Val) → Means t s v → read_text t s ≡ ok v
means-read t s v m = read-text t s m.good m.text m.size ∙ m.value

-- a value that was read is well formed
pub means-fits : (t : Table) (s : List ℕ) (v : Val) → Means t s v → Fits t 32 0 v
means-fits t s v m = whole-fits (valid_sane t m.good) m.text m.value

-- and needs bounded room
pub means-bounds : {t : Table} {s : List ℕ} {v : Val} → Means t s v → (length (rows_of v t 0 0) ≤ 130 * length s) × (length (pool_of v) ≤ length s) × (length (write v t 0) ≤ length s)
means-bounds {t} m = whole-bounds (valid_sane t m.good) m.text m.value

-- what a table that is written has: a good type table, a value, and its text
pub record Says (t : Table) (ns pool bs : List ℕ) : Type 0 where
  pub good : first_bad t ≡ None
  pub value : Val
  pub judged : judge t ns pool ≡ ok value
  pub text : bs ≡ write value t 0

pub says : (t : Table) (ns pool bs : List ℕ) → write_text t ns pool ≡ ok bs → Says t ns pool bs
unfolding write_text bind
says t ns pool bs e =
    let a = steps (good_table t) _ bs e in
    let b = steps (judge t ns pool) _ bs a.then in
    record { good = good-table t a.val a.first; value = b.val; judged = b.first; text = cc b.then }

-- a table of a value is written as its text
pub said : (t : Table) (ns pool : List ℕ) (v : Val) → first_bad t ≡ None → judge t ns pool ≡ ok v → write_text t ns pool ≡ ok (write v t 0)
unfolding write_text good_table table_of bind
said t ns pool v good j = rw (good, good_table) (rw (j, bind))
