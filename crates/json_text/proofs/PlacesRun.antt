-- What a refusal by the machine tells of the bytes that it has read.
use Prim.Native.Nat.{ℕ, suc, ◌+◌, ◌≤◌, ◌<◌}
use mathlib.Core.Path.{◌≡◌, refl}
use mathlib.Core.List.{List, [], ◌∷◌, ◌++◌}
use Rattle.std.specs.Prelude.{Option, None, Some}
use native.Mathlib.Omega.{arith}
use lib.ListN.{length, take}
use Rattle.json_text.specs.Tree.{Json}
use Rattle.json_text.specs.Machine.{Stack, base, ◌▹◌, State, s_val, s_elem, s_after, s_name0, s_name, s_colon, s_str, s_num, s_lit, Fault, not_json, too_deep, Step, go, bad, step, num_tree, Parsed, tree, refused, ended, finish, run}
use Rattle.json_text.proofs.Alive.{Alive, alive-later, alive, Ok}
use Rattle.json_text.proofs.AliveSteps.{OkStep, step_ok}
use Rattle.json_text.proofs.Rebase.{raised, Goes, Keeps, step_keeps}

-- ---- a refusal, read from the place p in the state st

-- the end of the text is refused at the end, and never as too deep
abbrev Ends : ℕ → Parsed → Type 0
Ends p (tree j) = Unit {0}
Ends p (refused not_json q) = q ≡ p
Ends p (refused too_deep q) = ⊥

ended-ends : (j : Option Json) (k : Stack) (p : ℕ) → Ends p (ended j k p)
unfolding ended
ended-ends None k p = refl
ended-ends (Some j) (base d) p = tt
ended-ends (Some j) (f ▹ k) p = refl

finish-ends : (st : State) (p : ℕ) → Ends p (finish st p)
unfolding finish
finish-ends (s_val k) p = refl
finish-ends (s_elem o k) p = refl
finish-ends (s_after j k) p = ended-ends (Some j) k p
finish-ends (s_name0 o k) p = refl
finish-ends (s_name o ms k) p = refl
finish-ends (s_colon o ms q s k) p = refl
finish-ends (s_str m r q s k) p = refl
finish-ends (s_num n q k) p = ended-ends (num_tree n q) k p
finish-ends (s_lit c cs j k) p = refl

-- the refusal f at the place q, after n bytes of bs
pub record Refusal (p : ℕ) (st : State) (bs : List ℕ) (f : Fault) (q n : ℕ) : Type 0 where
  pub place : q ≡ p + n
  pub inside : n ≤ length bs
  -- what stands before the place can be completed
  pub before : Alive p st (take n bs)
  -- whatever follows the byte at the place is refused there too
  pub stuck : n < length bs → (zs : List ℕ) → run p st (take (suc n) bs ++ zs) ≡ refused f q
  -- with one bracket more the byte at the place can be completed too
  pub deeper : f ≡ too_deep → (n < length bs) × Alive p (raised 1 st) (take (suc n) bs)

refusal-end : (p : ℕ) (st : State) (f : Fault) (q : ℕ) → Ok st → Ends p (refused f q) → Refusal p st [] f q 0
refusal-end p st not_json q h e =
    record {
      place = omega arith;
      inside = omega arith;
      before = alive st p h;
      stuck = λ l zs. absurd (omega arith);
      deeper = λ z. absurd (let y : ◌≡◌ {A = ℕ} 0 1 = cc in omega arith);
    }
refusal-end p st too_deep q h e = absurd e

-- what was one bracket too many goes on with one more
opens : (p : ℕ) (st : State) (b : ℕ) (f : Fault) → Keeps 1 (bad f) (step p (raised 1 st) b) → f ≡ too_deep → Alive p (raised 1 st) (b ∷ [])
opens p st b not_json k z = absurd (let y : ◌≡◌ {A = ℕ} 0 1 = cc in omega arith)
opens p st b too_deep k z = let g : Goes (step p (raised 1 st) b) = k (omega arith) in alive-later g.goes (alive g.to (suc p) g.ok)

refusal-here : (p : ℕ) (st : State) (b : ℕ) (bs : List ℕ) (f : Fault) → Ok st → step p st b ≡ bad f → Keeps 1 (bad f) (step p (raised 1 st) b) → Refusal p st (b ∷ bs) f p 0
unfolding run
refusal-here p st b bs f h e k =
    record {
      place = omega arith;
      inside = omega arith;
      before = alive st p h;
      stuck = λ l zs. rw (e, run);
      deeper = λ z. (omega arith, opens p st b f k z);
    }

refusal-later : {p : ℕ} {st u : State} {bs : List ℕ} {f : Fault} {q n : ℕ} (b : ℕ) → step p st b ≡ go u → step p (raised 1 st) b ≡ go (raised 1 u) → Refusal (suc p) u bs f q n
    → Refusal p st (b ∷ bs) f q (suc n)
unfolding run
refusal-later b e d r =
    record {
      place = omega arith;
      inside = omega arith;
      before = alive-later e r.before;
      stuck = λ l zs. rw (e, run) (r.stuck (omega arith) zs);
      deeper = λ z. let o = r.deeper z in (omega arith, alive-later d o.1);
    }

pub refusal : (bs : List ℕ) (p : ℕ) (st : State) (f : Fault) (q : ℕ) → Ok st → run p st bs ≡ refused f q → (n : ℕ) × Refusal p st bs f q n
unfolding run
refusal [] p st f q h e = (0, refusal-end p st f q h (rw e at (finish-ends st p)))
refusal (b ∷ bs) p st f q h e = go' (step p st b) refl (step_ok p st b h) (step_keeps 1 p st b h) (refusal bs (suc p)) e
  where
    go' : (x : Step) → step p st b ≡ x → OkStep x → Keeps 1 x (step p (raised 1 st) b) → ((u : State) (g : Fault) (r : ℕ) → Ok u → run (suc p) u bs ≡ refused g r → (n : ℕ) × Refusal (suc p) u bs g r n)
        → elim x as (λ y. Parsed) [ go u ↦ run (suc p) u bs | bad g ↦ refused g p ] ≡ refused f q → (n : ℕ) × Refusal p st (b ∷ bs) f q n
    go' (go u) w o k ih y = let r = ih u f q o y in (suc r.0, refusal-later b w k r.1)
    go' (bad g) w o k ih y =
        let gf : g ≡ f = cc in
        let pq : p ≡ q = cc in
        (0, rw (← gf, ← pq) (refusal-here p st b bs g h w k))
