-- What a call answers and stores, against what is taken.
use mathlib.Core.Path.{◌≡◌, refl, sym, ap, ◌∙◌}
use mathlib.Core.List.{List, [], ◌∷◌, ◌++◌, append_assoc}
use mathlib.Core.Bool.{Bool, true, false}
use Prim.Native.Nat.{ℕ, zero, suc, ◌+◌}
use native.Mathlib.Omega.{arith}
use lib.ListN.{length, drop}
use lib.Seq.{sets}
use Rattle.jer.specs.Table.{Table}
use Rattle.jer.specs.Value.{Val}
use Rattle.jer.specs.Rows.{ValueRow}
use Rattle.jer.specs.Judge.{Took, took, wrong, and_then, on_row, take_with, take_value}
use Rattle.jer.specs.Write.{joined, write}
use Rattle.jer.specs.Calls.{amount}
use Rattle.jer.proofs.JudgeSpent.{After}
use Rattle.std.specs.Prelude.{Ok, Err}
use Rattle.written.specs.declared.taken.Took.{Took as Ends}
use Rattle.written.specs.declared.taken.Wrong.{Wrong}
use Rattle.written.specs.Text.{Taken, took_to, Puts, text_of, value_text, taken_of, Stored, Writes, comma, ended_as}
use Rattle.written.proofs.RestLaws.{Rest, value-rest}

-- ---- answers

pub gives : {x : Took (List ℕ)} {s : List ℕ} {ws : List ValueRow} {k q o e : ℕ} {l m : List ℕ} → x ≡ took s ws q o → Puts s k l m e → Writes x k l m (took_to q o e)
unfolding taken_of
gives {q = q} {o = o} h p = rw h record { answer = ap (took_to q o) p.ends; stored = p.stands }

pub gives-wrong : {x : Took (List ℕ)} {k : ℕ} {l m : List ℕ} {e : Wrong} → x ≡ wrong e.slot → Writes x k l m (Err e)
unfolding taken_of
gives-wrong h = rw h record { answer = refl; stored = tt }

pub writes_as : {x y : Took (List ℕ)} {k : ℕ} {l m : List ℕ} {a : Taken} → x ≡ y → Writes x k l m a → Writes y k l m a
writes_as h w = rw h at w

pub writes-is : {x : Took (List ℕ)} {k : ℕ} {l m : List ℕ} {a b : Taken} → b ≡ a → Writes x k l m a → Writes x k l m b
writes-is h w = rw h w

-- over a text of no bytes
no_bytes : (k : ℕ) (s : List ℕ) → [] ≡ sets [] k s
no_bytes k [] = refl
no_bytes k (b ∷ s) = no_bytes (suc k) s

pub writes-none : {x : Took (List ℕ)} {l m : List ℕ} {a : Taken} → Writes x 0 l m a → Writes x 0 [] [] a
writes-none {x} w = record { answer = w.answer; stored = go x }
  where
    go : (x : Took (List ℕ)) → Stored x 0 [] []
    go (took s ws q o) = λ _. no_bytes 0 s
    go (wrong q) = tt

-- a text was taken, and put from k on
pub record Got (x : Took (List ℕ)) (k : ℕ) (l m : List ℕ) (q o e : ℕ) : Type 0 where
  pub s : List ℕ
  pub ws : List ValueRow
  pub is : x ≡ took s ws q o
  pub puts : Puts s k l m e

pub got : {x : Took (List ℕ)} {k : ℕ} {l m : List ℕ} {a : Taken} {t : Ends} → Writes x k l m a → a ≡ Ok t → Got x k l m t.next t.used t.end
unfolding taken_of
got {x} {k} {l} {m} {t = t} w h = go x (sym h ∙ w.answer) w.stored
  where
    go : (x : Took (List ℕ)) → Ok t ≡ taken_of k x → Stored x k l m → Got x k l m t.next t.used t.end
    go (took s ws p u) f g =
        let y : t ≡ record { next = p; used = u; end = amount (k + length s) } = cc in
        rw y record { s = s; ws = ws; is = refl; puts = record { ends = refl; stands = g } }
    go (wrong p) f g = absurd (let z : ◌≡◌ {A = ℕ} 0 1 = cc in omega arith)

pub got-wrong : {x : Took (List ℕ)} {k : ℕ} {l m : List ℕ} {a : Taken} {e : Wrong} → Writes x k l m a → a ≡ Err e → x ≡ wrong e.slot
unfolding taken_of
got-wrong {x} {k} {e = e} w h = go x (sym h ∙ w.answer)
  where
    go : (x : Took (List ℕ)) → Err e ≡ taken_of k x → x ≡ wrong e.slot
    go (took s ws p u) f = absurd (let z : ◌≡◌ {A = ℕ} 0 1 = cc in omega arith)
    go (wrong p) f = let y : e ≡ record { slot = p } = cc in rw y

-- ---- texts of what was taken

pub record Source {A : Type 0} (f : A → List ℕ) (x : Took A) (s : List ℕ) (ws : List ValueRow) (q o : ℕ) : Type 0 where
  pub what : A
  pub is : x ≡ took what ws q o
  pub text : f what ≡ s

pub source : {A : Type 0} (f : A → List ℕ) (x : Took A) {s : List ℕ} {ws : List ValueRow} {q o : ℕ} → text_of f x ≡ took s ws q o → Source f x s ws q o
unfolding text_of and_then
source f (took a us p u) h = record { what = a; is = cc; text = cc }
source f (wrong p) h = absurd (let z : ◌≡◌ {A = ℕ} 0 1 = cc in omega arith)

pub source-wrong : {A : Type 0} (f : A → List ℕ) (x : Took A) {q : ℕ} → text_of f x ≡ wrong q → x ≡ wrong q
unfolding text_of and_then
source-wrong f (took a us p u) h = absurd (let z : ◌≡◌ {A = ℕ} 0 1 = cc in omega arith)
source-wrong f (wrong p) h = cc

-- a value was taken, and its text put from k on
pub record Value (d : ℕ) (t : Table) (pool : List ℕ) (rows : List ValueRow) (r q o k : ℕ) (l m : List ℕ) (q' o' e : ℕ) : Type 0 where
  pub what : Val
  pub is : take_value d t pool r (drop q rows) q o ≡ took what (drop q' rows) q' o'
  pub puts : Puts (write what t r) k l m e

-- a value was not taken
pub record NoValue (d : ℕ) (t : Table) (pool : List ℕ) (rows : List ValueRow) (r q o q' : ℕ) : Type 0 where
  pub is : take_value d t pool r (drop q rows) q o ≡ wrong q'

-- of the type at x, which is r
module _ {d : ℕ} {t : Table} {pool : List ℕ} (rows : List ValueRow) {x r : ℕ} (same : x ≡ r) (q : ℕ) {o k : ℕ} {l m : List ℕ} {a : Taken} (w : Writes (value_text d t pool (drop q rows) x q o) k l m a) where
  pub value-got : {v : Ends} → a ≡ Ok v → Value d t pool rows r q o k l m v.next v.used v.end
  unfolding value_text
  value-got {v} h =
      let g : Got (text_of (λ v. write v t r) (take_value d t pool r (drop q rows) q o)) k l m v.next v.used v.end = rw same at (got w h) in
      let s = source (λ v. write v t r) (take_value d t pool r (drop q rows) q o) g.is in
      let y : After (Rest rows Val) (took s.what g.ws v.next v.used) = rw s.is at (value-rest rows t pool d r (drop q rows) q o refl) in
      record { what = s.what; is = s.is ∙ ap (λ (ws : List ValueRow). took s.what ws v.next v.used) y.is; puts = rw s.text g.puts }

  pub value-wrong : {e : Wrong} → a ≡ Err e → NoValue d t pool rows r q o e.slot
  unfolding value_text
  value-wrong {e} h =
      let g : text_of (λ v. write v t r) (take_value d t pool r (drop q rows) q o) ≡ wrong e.slot = rw same at (got-wrong w h) in
      record { is = source-wrong (λ v. write v t r) _ g }

pub text-of : {d : ℕ} {t : Table} {pool : List ℕ} {rows : List ValueRow} {r q o k q' o' e : ℕ} {l m : List ℕ} (v : Value d t pool rows r q o k l m q' o' e) → value_text d t pool (drop q rows) r q o ≡ took (write v.what t r) (drop q' rows) q' o'
unfolding value_text text_of and_then
text-of v = rw v.is

pub value_none : (d : ℕ) (t : Table) (pool : List ℕ) (r q o : ℕ) → take_value d t pool r [] q o ≡ wrong q
unfolding take_value take_with on_row
value_none zero t pool r q o = refl
value_none (suc d) t pool r q o = refl

-- ---- one thing after the other

pub then_as : {A B : Type 0} (x : Took A) {f g : A → List ValueRow → ℕ → ℕ → Took B} → ((a : A) (ws : List ValueRow) (q o : ℕ) → f a ws q o ≡ g a ws q o) → and_then x f ≡ and_then x g
unfolding and_then
then_as (took a ws q o) h = h a ws q o
then_as (wrong q) h = refl

pub then-then : {A B C : Type 0} (x : Took A) (f : A → List ValueRow → ℕ → ℕ → Took B) (g : B → List ValueRow → ℕ → ℕ → Took C) → and_then (and_then x f) g ≡ and_then x (λ a ws q o. and_then (f a ws q o) g)
unfolding and_then
then-then (took a ws q o) f g = refl
then-then (wrong q) f g = refl

-- ---- parts of a bracket

-- a text that ends at the row q', if the row q was right
unfoldable pub closed : Bool → List ℕ → ℕ → List ValueRow → ℕ → ℕ → Took (List ℕ)
closed true s q ws q' o' = took s ws q' o'
closed false s q ws q' o' = wrong q

pub ends : (c : Bool) (ws : List ValueRow) (q q' o' : ℕ) {x : Took (List ℕ)} {s : List ℕ} {k e : ℕ} {l m : List ℕ} → closed c s q ws q' o' ≡ x → Puts s k l m e → Writes x k l m (ended_as c q q' o' e)
unfolding closed ended_as
ends true ws q q' o' h p = gives (sym h) p
ends false ws q q' o' h p = gives-wrong (sym h)

pub text-wrong : {A : Type 0} (f : A → List ℕ) (q : ℕ) → text_of f (wrong q) ≡ wrong q
unfolding text_of and_then
text-wrong f q = refl

-- what was taken, by whether the row q was right
pub text-ended : {A : Type 0} (f : A → List ℕ) (c : Bool) (a : A) (ws : List ValueRow) (q q' o' : ℕ) → text_of f (elim c [ true ↦ took a ws q' o' | false ↦ wrong q ]) ≡ closed c (f a) q ws q' o'
unfolding text_of and_then closed
text-ended f true a ws q q' o' = refl
text-ended f false a ws q q' o' = refl

pub joined-more : (xs : List (List ℕ)) (x : List ℕ) → joined (xs ++ (x ∷ [])) ≡ joined xs ++ (comma (length xs) ++ x)
unfolding joined comma
joined-more [] x = refl
joined-more (y ∷ []) x = refl
joined-more (y ∷ z ∷ xs) x = ap (λ (s : List ℕ). y ++ (0x2C ∷ s)) (joined-more (z ∷ xs) x) ∙ sym (append_assoc y (0x2C ∷ joined (z ∷ xs)) (0x2C ∷ x))
