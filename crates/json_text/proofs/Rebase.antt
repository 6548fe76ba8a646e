-- The machine with more brackets allowed does the same, but where there were too many.
use Prim.Native.Nat.{ℕ, suc, ◌+◌, ◌≤◌}
use mathlib.Core.Path.{◌≡◌, refl}
use mathlib.Core.List.{List, [], ◌∷◌}
use mathlib.Core.Bool.{Bool, true, false, ◌&&◌}
use Rattle.std.specs.Prelude.{Option, None, Some}
use native.Mathlib.Omega.{arith}
use lib.Dec.{leb, eqb}
use borrow.Author.Tests.{eqb-false, ne_eqb}
use Rattle.json_text.specs.Bytes.{Row, on, pick}
use Rattle.json_text.specs.Tree.{Json, inil}
use Rattle.json_text.specs.Machine.{Act, still, close, never, char_step, Num, num_step, num_tree, in_arr, in_obj, Stack, base, ◌▹◌, room, Role, as_name, as_value, State, s_val, s_elem, s_after, s_name0, s_name, s_colon, s_str, s_num, s_lit, not_json, too_deep, Step, go, bad, spaces, opened, starts, after, closed, str_step, num_end, num_go, lit_next, step, Parsed, tree, refused, ended, finish, run}
use Rattle.json_text.proofs.Alive.{Held, Ok}
use Rattle.json_text.proofs.Feed.{room-base, room_frame}
use Rattle.json_text.proofs.AliveSteps.{OkStep, step_ok, held_below}

-- e brackets more may be open
abbrev pub raise : ℕ → Stack → Stack
raise e (base d) = base (e + d)
raise e (f ▹ k) = f ▹ raise e k

abbrev pub raised : ℕ → State → State
raised e (s_val k) = s_val (raise e k)
raised e (s_elem o k) = s_elem o (raise e k)
raised e (s_after j k) = s_after j (raise e k)
raised e (s_name0 o k) = s_name0 o (raise e k)
raised e (s_name o ms k) = s_name o ms (raise e k)
raised e (s_colon o ms q s k) = s_colon o ms q s (raise e k)
raised e (s_str m r q s k) = s_str m r q s (raise e k)
raised e (s_num n q k) = s_num n q (raise e k)
raised e (s_lit c cs j k) = s_lit c cs j (raise e k)

-- e brackets more at the bottom are e more at the top
pub room-raise : (e : ℕ) (k : Stack) → Held k → room (raise e k) ≡ e + room k
room-raise e (base d) h = omega (arith, room-base d, room-base (e + d))
room-raise e (f ▹ k) h = omega (arith, room_frame f k, room_frame f (raise e k), room-raise e k (held_below k h))

-- the step goes on, to a state that can be completed
pub record Goes (x : Step) : Type 0 where
  pub to : State
  pub goes : x ≡ go to
  pub ok : Ok to

-- the step x, and y with e brackets more: it goes on alike, or is as little JSON, or was too deep and now goes on
abbrev pub Keeps : ℕ → Step → Step → Type 0
Keeps e (go st) y = y ≡ go (raised e st)
Keeps e (bad not_json) y = y ≡ bad not_json
Keeps e (bad too_deep) y = 1 ≤ e → Goes y

-- two tables of the same bytes, with Q between what they say of b
infixr 67 ◌&◌
data Pairs {A : Type 0} (Q : A → A → Type 0) (b : ℕ) : List (Row A) → List (Row A) → Type 0 where
  end : Pairs Q b [] []
  ◌&◌ : {lo hi : ℕ} {f g : ℕ → A} {rs us : List (Row A)} → Q (f b) (g b) → Pairs Q b rs us → Pairs Q b (on lo hi f ∷ rs) (on lo hi g ∷ us)

pick-pairs : {A : Type 0} {Q : A → A → Type 0} {b : ℕ} {rs us : List (Row A)} {c d : A} → Pairs Q b rs us → Q c d → Q (pick b rs c) (pick b us d)
unfolding pick
pick-pairs end e = e
pick-pairs {Q = Q} {b = b} {c = c} {d = d} (◌&◌ {lo = lo} {hi = hi} {f = f} {g = g} {rs = rs} {us = us} q h) e = go' (leb lo b && leb b hi) refl (pick-pairs h e)
  where
    go' : (x : Bool) → (leb lo b && leb b hi) ≡ x → Q (pick b rs c) (pick b us d) → Q (pick b (on lo hi f ∷ rs) c) (pick b (on lo hi g ∷ us) d)
    go' true w ih = rw (w, pick) q
    go' false w ih = rw (w, pick) ih

opened-keeps : (e : ℕ) (k : Stack) (st : State) → Held k → (1 ≤ room (raise e k) → Ok (raised e st)) → Keeps e (opened k st) (opened (raise e k) (raised e st))
unfolding opened
opened-keeps e k st h o = go' (eqb (room k) 0) refl
  where
    goes_on : 1 ≤ room (raise e k) → opened (raise e k) (raised e st) ≡ go (raised e st)
    goes_on l = rw (ne_eqb (room (raise e k)) 0 (λ z. omega arith), opened)

    go' : (c : Bool) → eqb (room k) 0 ≡ c → Keeps e (opened k st) (opened (raise e k) (raised e st))
    go' true w = rw (w, opened) (λ l. let r : 1 ≤ room (raise e k) = omega (arith, room-raise e k h) in record { to = raised e st; goes = goes_on r; ok = o r })
    go' false w = rw (w, opened) (goes_on (let ne : room k ≡ 0 → ⊥ = eqb-false _ _ w in omega (arith, room-raise e k h)))

starts-keep : (e b p : ℕ) (k : Stack) → Held k → Pairs (Keeps e) b (starts p k) (starts p (raise e k))
unfolding starts
starts-keep e b p k h = refl & refl & refl & refl & opened-keeps e k (s_elem p k) h (λ l. l) & refl & refl & refl & opened-keeps e k (s_name0 p k) h (λ l. l) & end

after-keeps : (e b : ℕ) (j : Json) (k : Stack) → Keeps e (pick b (after j k) (bad not_json)) (pick b (after j (raise e k)) (bad not_json))
unfolding after spaces
after-keeps e b j (base d) = pick-pairs {Q = Keeps e} (refl & refl & refl & end) refl
after-keeps e b j (in_arr o is ▹ k) = pick-pairs {Q = Keeps e} (refl & refl & refl & refl & refl & end) refl
after-keeps e b j (in_obj o ms q s ▹ k) = pick-pairs {Q = Keeps e} (refl & refl & refl & refl & refl & end) refl

str_keeps : (e : ℕ) (a : Act) (r : Role) (q : ℕ) (s : List ℕ) (k : Stack) → Keeps e (str_step a r q s k) (str_step a r q s (raise e k))
unfolding str_step closed
str_keeps e (still m xs) r q s k = refl
str_keeps e close (as_name o ms) q s k = refl
str_keeps e close as_value q s k = refl
str_keeps e never r q s k = refl

num_end-keeps : (e : ℕ) (j : Option Json) (k : Stack) (b : ℕ) → Keeps e (num_end j k b) (num_end j (raise e k) b)
unfolding num_end
num_end-keeps e None k b = refl
num_end-keeps e (Some j) k b = after-keeps e b j k

num_keeps : (e : ℕ) (m : Option Num) (n : Num) (q : ℕ) (k : Stack) (b : ℕ) → Keeps e (num_go m n q k b) (num_go m n q (raise e k) b)
unfolding num_go
num_keeps e (Some m) n q k b = refl
num_keeps e None n q k b = num_end-keeps e (num_tree n q) k b

lit_keeps : (e : ℕ) (cs : List ℕ) (j : Json) (k : Stack) → Keeps e (go (lit_next cs j k)) (go (lit_next cs j (raise e k)))
unfolding lit_next
lit_keeps e [] j k = refl
lit_keeps e (c ∷ cs) j k = refl

pub step_keeps : (e p : ℕ) (st : State) (b : ℕ) → Ok st → Keeps e (step p st b) (step p (raised e st) b)
unfolding step spaces
step_keeps e p (s_val k) b h = pick-pairs {Q = Keeps e} (refl & refl & refl & starts-keep e b p k h) refl
step_keeps e p (s_elem o k) b h = pick-pairs {Q = Keeps e} (refl & refl & refl & refl & starts-keep e b p (in_arr o inil ▹ k) h) refl
step_keeps e p (s_after j k) b h = after-keeps e b j k
step_keeps e p (s_name0 o k) b h = pick-pairs {Q = Keeps e} (refl & refl & refl & refl & refl & end) refl
step_keeps e p (s_name o ms k) b h = pick-pairs {Q = Keeps e} (refl & refl & refl & refl & end) refl
step_keeps e p (s_colon o ms q s k) b h = pick-pairs {Q = Keeps e} (refl & refl & refl & refl & end) refl
step_keeps e p (s_str m r q s k) b h = str_keeps e (char_step m b) r q s k
step_keeps e p (s_num n q k) b h = num_keeps e (num_step n b) n q k b
step_keeps e p (s_lit c cs j k) b h = pick-pairs {Q = Keeps e} (lit_keeps e cs j k & end) refl

ended-raise : (e : ℕ) (j : Option Json) (k : Stack) (p : ℕ) → ended j (raise e k) p ≡ ended j k p
unfolding ended
ended-raise e None k p = refl
ended-raise e (Some j) (base d) p = refl
ended-raise e (Some j) (f ▹ k) p = refl

finish-raise : (e : ℕ) (st : State) (p : ℕ) → finish (raised e st) p ≡ finish st p
unfolding finish
finish-raise e (s_val k) p = refl
finish-raise e (s_elem o k) p = refl
finish-raise e (s_after j k) p = ended-raise e (Some j) k p
finish-raise e (s_name0 o k) p = refl
finish-raise e (s_name o ms k) p = refl
finish-raise e (s_colon o ms q s k) p = refl
finish-raise e (s_str m r q s k) p = refl
finish-raise e (s_num n q k) p = ended-raise e (num_tree n q) k p
finish-raise e (s_lit c cs j k) p = refl

-- the answer x, and y with more brackets: the same, but where there were too many
abbrev pub Stays : Parsed → Parsed → Type 0
Stays (tree j) y = y ≡ tree j
Stays (refused not_json q) y = y ≡ refused not_json q
Stays (refused too_deep q) y = Unit {0}

same-stays : (x : Parsed) → Stays x x
same-stays (tree j) = refl
same-stays (refused not_json q) = refl
same-stays (refused too_deep q) = tt

pub run-stays : (e : ℕ) (bs : List ℕ) (p : ℕ) (st : State) → Ok st → Stays (run p st bs) (run p (raised e st) bs)
unfolding run
run-stays e [] p st h = rw (finish-raise e st p) (same-stays (finish st p))
run-stays e (b ∷ bs) p st h = go' (step p st b) refl (step_ok p st b h) (step_keeps e p st b h) (run-stays e bs (suc p))
  where
    go' : (x : Step) → step p st b ≡ x → OkStep x → Keeps e x (step p (raised e st) b) → ((u : State) → Ok u → Stays (run (suc p) u bs) (run (suc p) (raised e u) bs))
        → Stays (run p st (b ∷ bs)) (run p (raised e st) (b ∷ bs))
    go' (go u) w o k ih = rw (w, k, run) (ih u o)
    go' (bad not_json) w o k ih = rw (w, k, run) refl
    go' (bad too_deep) w o k ih = rw (w, run) tt
