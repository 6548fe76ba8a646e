-- Laws of the typed reading of a whole tree. The laws about the calls use these alone; what the reading of a tree at any row is stands below them.
use Prim.Native.Nat.{ℕ, ◌*◌, ◌≤◌}
use mathlib.Core.Path.{◌≡◌}
use mathlib.Core.List.{List}
use lib.ListN.{length}
use Rattle.json_text.specs.Tree.{Json}
use Rattle.json_text.specs.Grammar.{Text}
use Rattle.jer.specs.Table.{Table}
use Rattle.jer.specs.Value.{Val}
use Rattle.jer.specs.Answer.{ok}
use Rattle.jer.specs.Read.{read_whole}
use Rattle.jer.specs.Rows.{rows_of, pool_of}
use Rattle.jer.specs.Fits.{Fits}
use Rattle.jer.specs.Write.{write}
use Rattle.jer.specs.Cut.{ByAdditions, cut, lacks, grow}
use Rattle.jer.specs.Skipped.{SameAnswer, SkipAlike}
use Rattle.jer.specs.Respelled.{Respelled}
use Rattle.jer.specs.Sane.{Sane}
use Rattle.jer.proofs.ReadPlaces.{AtBytes, read_at_lem}
use Rattle.jer.proofs.WeightLaws.{text-bounds}
use Rattle.jer.proofs.JudgeRead.{text-fits}
use Rattle.jer.proofs.AlikeSkipped.{skipped-alike}
use Rattle.jer.proofs.AlikeRespelled.{respelled_reads}
use Rattle.jer.proofs.AlikeExactly.{respelled_only}
use Rattle.jer.proofs.OlderAgrees.{Agrees}
use Rattle.jer.proofs.Older.{older-reads}
use Rattle.jer.proofs.Spell.{older-written}

-- ---- one tree

pub whole-at : (t : Table) (j : Json) → AtBytes (read_whole t j)
unfolding read_whole
whole-at t j = read_at_lem j t 0

module _ {t : Table} (g : Sane t) {j : Json} {s : List ℕ} {v : Val} (x : Text 32 j s) where
  -- what was read is well formed
  pub whole-fits : read_whole t j ≡ ok v → Fits t 32 0 v
  unfolding read_whole
  whole-fits e = text-fits t g x 0 v e

  -- needs bounded room, and is not written longer
  pub whole-bounds : read_whole t j ≡ ok v → (length (rows_of v t 0 0) ≤ 130 * length s) × (length (pool_of v) ≤ length s) × (length (write v t 0) ≤ length s)
  unfolding read_whole
  whole-bounds e = text-bounds t g v x e

-- ---- two trees

module _ {t : Table} (g : Sane t) {j k : Json} where
  pub whole_respelled : {v : Val} → Respelled t 0 j k → read_whole t j ≡ ok v → read_whole t k ≡ ok v
  unfolding read_whole
  whole_respelled h e = respelled_reads g h e

  pub whole-only : {v : Val} → read_whole t j ≡ ok v → read_whole t k ≡ ok v → Respelled t 0 j k
  unfolding read_whole
  whole-only e f = respelled_only g e f

  pub whole-skipped : SkipAlike t 0 j k → SameAnswer (read_whole t j) (read_whole t k)
  unfolding read_whole
  whole-skipped h = skipped-alike g h

-- ---- two tables

module _ {new old : Table} {R : ℕ → ℕ → Type 0} (pair : ByAdditions new old R) where
  pub whole-older : (j : Json) (v : Val) → read_whole new j ≡ ok v → Agrees (read_whole old j) (cut v old 0) (lacks (cut v old 0) old 0)
  unfolding read_whole
  whole-older j v e = older-reads pair j 0 0 pair.whole v e

  pub whole-written : Sane new → Sane old → {v : Val} → Fits old 32 0 v → (j : Json) × (Text 32 j (write v old 0)) × (read_whole new j ≡ ok (grow v new 0))
  unfolding read_whole
  whole-written gn gO f = older-written pair gn gO f
