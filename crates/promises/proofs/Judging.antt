-- Judging and reading a text, at the level of the calls, by the grammar alone: the machine in `json_text` need not be believed.
use Rattle.std.specs.Prelude.{Err, Ok}
use Rattle.jer.specs.Answer.{Judged, Reading}
use Prim.Native.Nat.{ℕ, ◌≤◌}
use mathlib.Core.Path.{◌≡◌, refl, sym, ap, ◌∙◌}
use mathlib.Core.List.{List}
use Rattle.std.specs.Prelude.{None}
use lib.ListN.{length}
use Rattle.json_text.specs.Tree.{Json}
use Rattle.json_text.specs.Grammar.{Text, NotJsonAt, TooDeepAt}
use Rattle.jer.specs.declared.Cause.TheVariants.{NotJson, TooDeep}
use Rattle.jer.specs.declared.Refusal.TheVariants.{AtByte}
use Rattle.jer.specs.Table.{Table}
use Rattle.jer.specs.Valid.{first_bad}
use Rattle.jer.specs.Read.{read_whole}
use Rattle.jer.specs.Value.{Val}
use Rattle.jer.specs.Answer.{ok}
use Rattle.jer.specs.Judge.{judge}
use Rattle.jer.specs.Fits.{Octets, Words}
use Rattle.jer.specs.Means.{Judges, long, broken, deep, json, typed, TableOf}
use Rattle.jer.specs.Calls.{read_text, read_answer, rows_after, pool_after}
use Rattle.jer.specs.CallClauses.{TextCall, ReadCall}
use Rattle.jer.proofs.ValidSane.{valid_sane}
use Rattle.jer.proofs.JudgeTable.{judge-fits, judged-rows}
use Rattle.jer.proofs.MeansCalls.{never}
use Rattle.jer.proofs.MeansReads.{text-judges, judges-text, text-reads, reads-text}
use Rattle.promises.specs.Statements.{Exactly, ReadsBy}

-- ---- judging

-- the answer is the one that the grammar gives
pub judged_exactly : (s : List ℕ) (r : Judged) → Exactly (TextCall s r) (Judges s r)
judged_exactly s r = (λ e. rw e (text-judges s), λ h. judges-text h)

module _ {s : List ℕ} {r : Judged} (size : length s ≤ 65536) (c : TextCall s r) where
  judges : (q : Judged) → r ≡ q → Judges s q
  judges q e = let h : Judges s r = rw c (text-judges s) in rw e at h

  -- within the size: Good exactly when the grammar has a tree for the text with at most 32 open brackets
  pub good_exactly : Exactly (r ≡ Ok tt) ((j : Json) × Text 32 j s)
  good_exactly = (λ e. go (judges _ e), λ x. c ∙ sym (judges-text (json size x.1)))
    where
      go : Judges s (Ok tt) → (j : Json) × Text 32 j s
      go (json {j} l t) = (j, t)

  -- 3 at p exactly when no JSON text can begin so after the byte at p, and one can before it
  pub not-json_exactly : (p : ℕ) → Exactly (r ≡ Err (AtByte NotJson p)) (NotJsonAt 32 s p)
  not-json_exactly p = (λ e. go (Err (AtByte NotJson p)) (judges _ e) refl, λ x. c ∙ sym (judges-text (broken size x)))
    where
      go : (q : Judged) → Judges s q → q ≡ Err (AtByte NotJson p) → NotJsonAt 32 s p
      go q (long l) e = never (cc)
      go q (broken {p = o} l x) e = let w : o ≡ p = cc in rw w at x
      go q (deep l x) e = never (cc)
      go q (json l t) e = never (cc)

  -- 4 at p exactly when the byte at p opens a bracket too many
  pub too_deep_exactly : (p : ℕ) → Exactly (r ≡ Err (AtByte TooDeep p)) (TooDeepAt 32 s p)
  too_deep_exactly p = (λ e. go (Err (AtByte TooDeep p)) (judges _ e) refl, λ x. c ∙ sym (judges-text (deep size x)))
    where
      go : (q : Judged) → Judges s q → q ≡ Err (AtByte TooDeep p) → TooDeepAt 32 s p
      go q (long l) e = never (cc)
      go q (broken l x) e = never (cc)
      go q (deep {p = o} l x) e = let w : o ≡ p = cc in rw w at x
      go q (json l t) e = never (cc)

-- ---- reading

-- the answer and both buffers are those that the grammar and the typed reading give
pub read_exactly : {t : Table} {s rows pool : List ℕ} {r : Reading} {rows' pool' : List ℕ} → Exactly (ReadCall t s rows pool r rows' pool') (ReadsBy t s rows pool r rows' pool')
read_exactly {t} {s} {rows} {pool} = (
  λ c. record { says = read_text t s; reads = text-reads t s; answer = c.answer; rows_left = c.rows_left; pool_left = c.pool_left },
  λ b. let e = reads-text b.reads in
      record {
        answer = b.answer ∙ ap (read_answer t (length rows) (length pool)) e;
        rows_left = b.rows_left ∙ ap (rows_after t rows (length pool)) e;
        pool_left = b.pool_left ∙ ap (pool_after t (length rows) pool) e;
      },
)

-- given a tree of the grammar for the text, they are those of the typed reading of that tree
pub read-by-tree : {t : Table} {j : Json} {s rows pool : List ℕ} {r : Reading} {rows' pool' : List ℕ} → first_bad t ≡ None → Text 32 j s → length s ≤ 65536 → ReadCall t s rows pool r rows' pool'
    → (r ≡ read_answer t (length rows) (length pool) (read_whole t j)) × (rows' ≡ rows_after t rows (length pool) (read_whole t j)) × (pool' ≡ pool_after t (length rows) pool (read_whole t j))
read-by-tree {t} {j} {s} {rows} {pool} good x l c =
    let e = sym (reads-text {t = t} {s = s} (typed good l x refl)) in
    (c.answer ∙ ap (read_answer t (length rows) (length pool)) e, c.rows_left ∙ ap (rows_after t rows (length pool)) e, c.pool_left ∙ ap (pool_after t (length rows) pool) e)

-- ---- value tables

-- the tables that are judged to be a value are those of well-formed values, one for each
pub values_exactly : {t : Table} {ns pool : List ℕ} {v : Val} → first_bad t ≡ None → Words ns → Octets pool → Exactly (judge t ns pool ≡ ok v) (TableOf t v ns pool)
values_exactly {t} {ns} {pool} {v} good ws os = (λ e. judge-fits t ns pool v ws os e, λ w. rw (w.rows, w.bytes) (judged-rows t (valid_sane t good) w.fits))
