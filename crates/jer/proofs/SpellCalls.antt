-- Demands 2 and 3 of the reading call: it takes a written text back to the value, and under a newer table to the value with all
-- additions absent.
use Prim.Native.Nat.{ℕ, ◌≤◌}
use mathlib.Core.Path.{◌≡◌, ap, ◌∙◌}
use mathlib.Core.List.{List}
use Rattle.std.specs.Prelude.{None}
use lib.ListN.{length}
use borrow.Author.Tests.{le-leb}
use Rattle.json_text.specs.Tree.{Json}
use Rattle.json_text.specs.Grammar.{Text}
use Rattle.json_text.specs.Machine.{parse}
use Rattle.json_text.proofs.Takes.{takes_text}
use Rattle.jer.specs.Table.{Table}
use Rattle.jer.specs.Valid.{first_bad}
use Rattle.jer.specs.Value.{Val}
use Rattle.jer.specs.Answer.{ok, bind}
use Rattle.jer.specs.Read.{read_whole}
use Rattle.jer.specs.Fits.{Fits}
use Rattle.jer.specs.Write.{write}
use Rattle.jer.specs.Cut.{ByAdditions, grow}
use Rattle.jer.specs.Calls.{table_of, good_table, tree_of, good_text, read_text}
use Rattle.jer.proofs.ValidSane.{valid_sane}
use Rattle.jer.proofs.Spell.{same_additions, grow-same}
use Rattle.jer.proofs.Whole.{whole-written}

good-text : {j : Json} (s : List ℕ) → Text 32 j s → length s ≤ 65536 → good_text s ≡ ok j
unfolding good_text parse tree_of
good-text {j} s t h = rw (le-leb (length s) 65536 h, good_text, takes_text 32 j s t)

-- a good table reads a text within the sizes as its tree
pub read-text : {j : Json} (t : Table) (s : List ℕ) → first_bad t ≡ None → Text 32 j s → length s ≤ 65536 → read_text t s ≡ read_whole t j
unfolding read_text good_table table_of bind
read-text t s good x h = rw (good, good_table) (rw (good-text s x h, bind))

pub newer-reads-text : {new old : Table} {R : ℕ → ℕ → Type 0} → ByAdditions new old R → first_bad new ≡ None → first_bad old ≡ None → {v : Val} → Fits old 32 0 v → length (write v old 0) ≤ 65536
    → read_text new (write v old 0) ≡ ok (grow v new 0)
newer-reads-text {new} {old} pair gn gO f h = let w = whole-written pair (valid_sane new gn) (valid_sane old gO) f in read-text new _ gn w.1 h ∙ w.2

pub written-reads-text : {t : Table} → first_bad t ≡ None → {v : Val} → Fits t 32 0 v → length (write v t 0) ≤ 65536 → read_text t (write v t 0) ≡ ok v
written-reads-text {t} good f h = newer-reads-text (same_additions t) good good f h ∙ ap ok (grow-same f)
