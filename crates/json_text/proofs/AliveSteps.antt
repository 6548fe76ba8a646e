-- `Ok` holds of every state that the machine comes to: each step keeps it.
use Prim.Native.Nat.{ℕ, zero, suc, ◌≤◌}
use mathlib.Core.Path.{◌≡◌, refl}
use mathlib.Core.List.{List, [], ◌∷◌}
use mathlib.Core.Bool.{Bool, true, false}
use Rattle.std.specs.Prelude.{Option, None, Some}
use native.Mathlib.Omega.{arith}
use lib.Dec.{eqb, lit≤}
use borrow.Author.Tests.{eqb-false}
use Rattle.json_text.specs.Bytes.{Row, on, pick}
use Rattle.json_text.specs.Tree.{Json, inil}
use Rattle.json_text.specs.Utf8.{wide_rows}
use Rattle.json_text.specs.Machine.{Mid, m_text, m_wide, m_slash, m_unit, m_unit_d, m_hex, m_high, m_pair, m_pair_u, m_pair_d, m_pair_digit, m_low, Act, still, close, never, wide_next, hex_rows, hex_next, high_next, low_next, char_step, Num, num_step, num_tree, in_arr, in_obj, Stack, base, ◌▹◌, room, Role, as_name, as_value, State, s_val, s_elem, s_after, s_name0, s_name, s_colon, s_str, s_num, s_lit, Step, go, bad, not_json, spaces, opened, starts, after, closed, str_step, num_end, num_go, lit_next, step}
use Rattle.json_text.proofs.Feed.{room_frame}
use Rattle.json_text.proofs.SoundRows.{pick_first, ◌⨾◌}
use Rattle.json_text.proofs.Alive.{OkMid, Held, HeldAs, Ok}

abbrev pub OkStep : Step → Type 0
OkStep (go st) = Ok st
OkStep (bad f) = Unit {0}

abbrev pub AllRows : {A : Type 0} → (A → Type 0) → ℕ → List (Row A) → Type 0
AllRows Q b [] = Unit {0}
AllRows Q b (on lo hi f ∷ rs) = Q (f b) × AllRows Q b rs

-- what holds at every row holds at the row picked
pub pick_all : {A : Type 0} (Q : A → Type 0) (b : ℕ) (rs : List (Row A)) (d : A) → AllRows Q b rs → Q d → Q (pick b rs d)
unfolding pick
pick_all Q b [] d h e = e
pick_all Q b (on lo hi f ∷ rs) d h e = pick_first Q b lo hi f rs d (λ i. h.0) (λ m. pick_all Q b rs d h.1 e)

-- with room for one more bracket there was room for the last
pub held_below : (k : Stack) → 1 ≤ room k → Held k
held_below (base d) h = tt
held_below (f ▹ k) h = omega (arith, room_frame f k)

-- a bracket is opened only where there is room
opened-ok : (k : Stack) (st : State) → (1 ≤ room k → Ok st) → OkStep (opened k st)
unfolding opened
opened-ok k st h = go' (eqb (room k) 0) refl
  where
    go' : (c : Bool) → eqb (room k) 0 ≡ c → OkStep (opened k st)
    go' true w = rw (w, opened) tt
    go' false w = rw (w, opened) (h (let ne : room k ≡ 0 → ⊥ = eqb-false _ _ w in omega arith))

starts-ok : (b p : ℕ) (k : Stack) → Held k → AllRows OkStep b (starts p k)
unfolding starts
starts-ok b p k h = (tt, h) ⨾ h ⨾ h ⨾ h ⨾ opened-ok k _ (λ l. l) ⨾ h ⨾ h ⨾ h ⨾ opened-ok k _ (λ l. l) ⨾ tt

after-ok : (b : ℕ) (j : Json) (k : Stack) → Held k → OkStep (pick b (after j k) (bad not_json))
unfolding after spaces
after-ok b j (base d) h = pick_all OkStep b _ _ (omega arith) tt
after-ok b j (in_arr o is ▹ k) h = pick_all OkStep b _ _ (h ⨾ h ⨾ h ⨾ h ⨾ held_below k h ⨾ tt) tt
after-ok b j (in_obj o ms q s ▹ k) h = pick_all OkStep b _ _ (h ⨾ h ⨾ h ⨾ h ⨾ held_below k h ⨾ tt) tt

abbrev OkAct : Act → Type 0
OkAct (still m xs) = OkMid m
OkAct close = Unit {0}
OkAct never = Unit {0}

wide-next-ok : (n : ℕ) → OkMid (wide_next n)
unfolding wide_next
wide-next-ok zero = tt
wide-next-ok (suc n) = lit≤ tt

hex-next-ok : (n x : ℕ) → OkAct (hex_next n x)
unfolding hex_next
hex-next-ok zero x = tt
hex-next-ok (suc n) x = tt

high-next-ok : (n x : ℕ) → OkAct (high_next n x)
unfolding high_next
high-next-ok zero x = tt
high-next-ok (suc n) x = tt

low-next-ok : (h n x : ℕ) → OkAct (low_next h n x)
unfolding low_next
low-next-ok h zero x = tt
low-next-ok h (suc n) x = tt

char-ok : (m : Mid) (b : ℕ) → OkAct (char_step m b)
unfolding char_step hex_rows wide_rows
char-ok m_text b = pick_all OkAct b _ _ (omega arith) tt
char-ok (m_wide lo hi n) b = pick_all OkAct b _ _ (wide-next-ok n ⨾ tt) tt
char-ok m_slash b = pick_all OkAct b _ _ (omega arith) tt
char-ok m_unit b = pick_all OkAct b _ _ (omega arith) tt
char-ok m_unit_d b = pick_all OkAct b _ _ (omega arith) tt
char-ok (m_hex n x) b = pick_all OkAct b _ _ (hex-next-ok n _ ⨾ hex-next-ok n _ ⨾ hex-next-ok n _ ⨾ tt) tt
char-ok (m_high n x) b = pick_all OkAct b _ _ (high-next-ok n _ ⨾ high-next-ok n _ ⨾ high-next-ok n _ ⨾ tt) tt
char-ok (m_pair h) b = pick_all OkAct b _ _ (omega arith) tt
char-ok (m_pair_u h) b = pick_all OkAct b _ _ (omega arith) tt
char-ok (m_pair_d h) b = pick_all OkAct b _ _ (omega arith) tt
char-ok (m_pair_digit h) b = pick_all OkAct b _ _ (omega arith) tt
char-ok (m_low h n x) b = pick_all OkAct b _ _ (low-next-ok h n _ ⨾ low-next-ok h n _ ⨾ low-next-ok h n _ ⨾ tt) tt

str_ok : (a : Act) (r : Role) (q : ℕ) (s : List ℕ) (k : Stack) → OkAct a → HeldAs r k → OkStep (str_step a r q s k)
unfolding str_step closed
str_ok (still m xs) r q s k e h = (e, h)
str_ok close (as_name o ms) q s k e h = h
str_ok close as_value q s k e h = h
str_ok never r q s k e h = tt

num_end-ok : (j : Option Json) (k : Stack) (b : ℕ) → Held k → OkStep (num_end j k b)
unfolding num_end
num_end-ok None k b h = tt
num_end-ok (Some j) k b h = after-ok b j k h

num_ok : (m : Option Num) (n : Num) (q : ℕ) (k : Stack) (b : ℕ) → Held k → OkStep (num_go m n q k b)
unfolding num_go
num_ok (Some m) n q k b h = h
num_ok None n q k b h = num_end-ok (num_tree n q) k b h

lit_next-ok : (cs : List ℕ) (j : Json) (k : Stack) → Held k → Ok (lit_next cs j k)
unfolding lit_next
lit_next-ok [] j k h = h
lit_next-ok (c ∷ cs) j k h = h

pub step_ok : (p : ℕ) (st : State) (b : ℕ) → Ok st → OkStep (step p st b)
unfolding step spaces
step_ok p (s_val k) b h = pick_all OkStep b _ _ (h ⨾ h ⨾ h ⨾ starts-ok b p k h) tt
step_ok p (s_elem o k) b h = pick_all OkStep b _ _ (h ⨾ h ⨾ h ⨾ held_below k h ⨾ starts-ok b p (in_arr o inil ▹ k) h) tt
step_ok p (s_after j k) b h = after-ok b j k h
step_ok p (s_name0 o k) b h = pick_all OkStep b _ _ (h ⨾ h ⨾ h ⨾ (tt, h) ⨾ held_below k h ⨾ tt) tt
step_ok p (s_name o ms k) b h = pick_all OkStep b _ _ (h ⨾ h ⨾ h ⨾ (tt, h) ⨾ tt) tt
step_ok p (s_colon o ms q s k) b h = pick_all OkStep b _ _ (h ⨾ h ⨾ h ⨾ h ⨾ tt) tt
step_ok p (s_str m r q s k) b h = str_ok (char_step m b) r q s k (char-ok m b) h.1
step_ok p (s_num n q k) b h = num_ok (num_step n b) n q k b h
step_ok p (s_lit c cs j k) b h = pick_all OkStep b _ _ (lit_next-ok cs j k h ⨾ tt) tt
