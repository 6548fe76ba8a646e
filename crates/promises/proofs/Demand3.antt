-- Demand 3: two good tables, the newer made from the older by additions.
use Rattle.std.specs.Prelude.{Ok}
use Rattle.jer.specs.Answer.{read_as}
use Rattle.jer.specs.Answer.{Reading}
use Prim.Native.Nat.{ℕ}
use mathlib.Core.Path.{◌≡◌, sym, ap, ◌∙◌}
use mathlib.Core.List.{List}
use mathlib.Core.Bool.{Bool, true}
use Rattle.std.specs.Prelude.{None}
use native.Mathlib.Omega.{arith}
use lib.ListN.{length, take}
use Rattle.jer.specs.Table.{Table}
use Rattle.jer.specs.Valid.{first_bad}
use Rattle.jer.specs.Value.{Val}
use Rattle.jer.specs.Fits.{Octets, Words}
use Rattle.jer.specs.Write.{write}
use Rattle.jer.specs.Means.{Means, TableOf}
use Rattle.jer.specs.Cut.{ByAdditions, cut, lacks, grow}
use Rattle.jer.specs.Calls.{roomy, read_text}
use Rattle.jer.proofs.JudgeTable.{judge-fits}
use Rattle.jer.proofs.SpellCalls.{newer-reads-text}
use Rattle.jer.proofs.OlderCalls.{Stored, stored, refused, older-stores}
use Rattle.jer.specs.CallClauses.{ReadCall, WriteCall}
use Rattle.jer.proofs.MeansCalls.{means, says}
use Rattle.promises.specs.Statements.{SameRoom, Stores, Older, cut_down, lacking}
use Rattle.promises.proofs.Buffers.{over-taken, stores}
use Rattle.promises.proofs.Outcomes.{stored as was-stored, written}

module _ {new old : Table} {R : ℕ → ℕ → Type 0} (pair : ByAdditions new old R) where
  -- "if the newer reads a text, the older, with the same room, reads that value cut down to what it knows, or refuses by 11, exactly when
  -- the cut value still holds an item or alternative that it lacks": v is what the text means at the newer table
  pub older-reads-cut : {s rows pool rows₂ pool₂ a b c d : List ℕ} {n m : ℕ} {r : Reading} → first_bad old ≡ None → SameRoom rows pool rows₂ pool₂ → ReadCall new s rows pool (read_as n m) a b
      → ReadCall old s rows₂ pool₂ r c d → (v : Val) × Means new s v × Stores new v rows pool (read_as n m) a b × Older old rows₂ pool₂ v r c d (lacks (cut v old 0) old 0)
  older-reads-cut {s} {rows} {pool} {rows₂} {pool₂} {a} {b} {c} {d} {n} {m} {r} good same x y =
      let w = was-stored new s rows pool n m a b x in
      let v = w.value in
      let room : roomy new v (length rows₂) (length pool₂) ≡ true = ap (λ (k : ℕ). roomy new v k (length pool₂)) (sym same.numbers) ∙ ap (roomy new v (length rows)) (sym same.bytes) ∙ w.room in
      (v, means new s v w.means, stores v w.means w.room x, go (older-stores pair good s rows₂ pool₂ v w.means room))
    where
      go : {v : Val} {l : Bool} → Stored old rows₂ pool₂ (read_text old s) (cut v old 0) l → Older old rows₂ pool₂ v r c d l
      go (stored p q u) = cut_down (record { answer = y.answer ∙ p; rows_left = y.rows_left ∙ q; pool_left = y.pool_left ∙ u })
      go (refused e p q u) = lacking e (y.answer ∙ p) (y.rows_left ∙ q) (y.pool_left ∙ u)

  -- "What is written under the older is read under the newer, given room, as that value with all additions absent.": v is the value whose
  -- table was written
  pub newer-reads-written : {ns pool text text' rows bytes c d : List ℕ} {n : ℕ} {r : Reading} → first_bad new ≡ None → Words ns → Octets pool
      → WriteCall old ns pool text (Ok n) text' → ReadCall new (take n text') rows bytes r c d
      → (v : Val) × TableOf old v ns pool × (roomy new (grow v new 0) (length rows) (length bytes) ≡ true → Stores new (grow v new 0) rows bytes r c d)
  newer-reads-written {ns} {pool} {text} {text'} {n = n} good ws os x y =
      let w = written old ns pool text n text' x in
      let u = says old ns pool w.bytes w.means in
      let v = u.value in
      let f = judge-fits old ns pool v ws os u.judged in
      let s : take n text' ≡ write v old 0 = ap (λ (z : List ℕ). take n z) w.text_left ∙ over-taken w.bytes text n (sym w.count) ∙ u.text in
      let e = newer-reads-text pair good u.good f.fits (omega (arith, w.size, ap length u.text)) in
      (v, f, λ room. stores (grow v new 0) (ap (read_text new) s ∙ e) room y)
