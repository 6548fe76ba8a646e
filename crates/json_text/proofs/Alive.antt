-- Every state that the machine comes to can be completed to a JSON text, and without another bracket.
use Prim.Native.Nat.{ℕ, zero, suc, ◌≤◌}
use mathlib.Core.Path.{◌≡◌, refl}
use mathlib.Core.List.{List, [], ◌∷◌, ◌++◌}
use mathlib.Core.Bool.{true, false}
use Rattle.std.specs.Prelude.{None, Some}
use native.Mathlib.Omega.{arith}
use lib.Dec.{lit≤}
use borrow.Author.Tests.{le-leb}
use Rattle.json_text.specs.Bytes.{pick}
use Rattle.json_text.specs.Tree.{Json, jarr, jobj, inil, mnil, isnoc, msnoc}
use Rattle.json_text.specs.Machine.{Mid, m_text, m_wide, m_slash, m_unit, m_unit_d, m_hex, m_high, m_pair, m_pair_u, m_pair_d, m_pair_digit, m_low, wide_next, hex_rows, hex_next, high_next, low_next, char_step, Num, n_minus, n_zero, n_int, n_dot, n_frac, n_exp, n_sign, n_pow, fraction_rows, power_rows, num_step, num_tree, in_arr, in_obj, Stack, base, ◌▹◌, room, Role, as_name, as_value, State, s_val, s_elem, s_after, s_name0, s_name, s_colon, s_str, s_num, s_lit, go, spaces, starts, after, closed, str_step, num_end, num_go, lit_next, step, tree, ended, finish, run}

-- from the place p and the state st the machine takes a text that begins with xs
pub record Alive (p : ℕ) (st : State) (xs : List ℕ) : Type 0 where
  pub rest : List ℕ
  pub result : Json
  pub completes : run p st (xs ++ rest) ≡ tree result

pub alive-later : {p b : ℕ} {st u : State} {xs : List ℕ} → step p st b ≡ go u → Alive (suc p) u xs → Alive p st (b ∷ xs)
unfolding run
alive-later e a = record { rest = a.rest; result = a.result; completes = rw (e, run) a.completes }

-- where the byte b goes on, what completes the next state completes this one
alive-step : {p : ℕ} {st u : State} (b : ℕ) → step p st b ≡ go u → Alive (suc p) u [] → Alive p st []
unfolding run
alive-step b e a = record { rest = b ∷ a.rest; result = a.result; completes = rw (e, run) a.completes }

-- ---- outside strings

alive-after : (k : Stack) (j : Json) (p : ℕ) → Alive p (s_after j k) []
unfolding run finish ended step after pick spaces
alive-after (base d) j p = record { rest = []; result = j; completes = refl }
alive-after (in_arr o is ▹ k) j p = alive-step 0x5D refl (alive-after k _ (suc p))
alive-after (in_obj o ms q s ▹ k) j p = alive-step 0x7D refl (alive-after k _ (suc p))

-- a number may end where it has a tree and neither closing bracket goes on with it
alive-end : (k : Stack) (n : Num) (q p : ℕ) {j : Json} → num_tree n q ≡ Some j → num_step n 0x5D ≡ None → num_step n 0x7D ≡ None → Alive p (s_num n q k) []
unfolding run finish ended step num_go num_end after pick spaces
alive-end (base d) n q p {j} t a o = record { rest = []; result = j; completes = rw (t, ended) }
alive-end (in_arr i is ▹ k) n q p {j} t a o = alive-step 0x5D (rw (a, num_go, t, num_end)) (alive-after k (jarr i (isnoc is j)) (suc p))
alive-end (in_obj i ms r s ▹ k) n q p {j} t a o = alive-step 0x7D (rw (o, num_go, t, num_end)) (alive-after k (jobj i (msnoc ms r s j)) (suc p))

alive_num : (n : Num) (q : ℕ) (k : Stack) (p : ℕ) → Alive p (s_num n q k) []
unfolding step num_go num_step num_tree fraction_rows power_rows pick
alive_num n_minus q k p = alive-step 0x30 refl (alive-end k (n_zero true) q (suc p) refl refl refl)
alive_num (n_zero m) q k p = alive-end k (n_zero m) q p refl refl refl
alive_num (n_int m n) q k p = alive-end k (n_int m n) q p refl refl refl
alive_num n_dot q k p = alive-step 0x30 refl (alive-end k n_frac q (suc p) refl refl refl)
alive_num n_frac q k p = alive-end k n_frac q p refl refl refl
alive_num n_exp q k p = alive-step 0x30 refl (alive-end k n_pow q (suc p) refl refl refl)
alive_num n_sign q k p = alive-step 0x30 refl (alive-end k n_pow q (suc p) refl refl refl)
alive_num n_pow q k p = alive-end k n_pow q p refl refl refl

alive-val : (k : Stack) (p : ℕ) → Alive p (s_val k) []
unfolding step pick spaces starts
alive-val k p = alive-step 0x30 refl (alive_num (n_zero false) p k (suc p))

lit_step : (c : ℕ) (cs : List ℕ) (j : Json) (k : Stack) (p : ℕ) → step p (s_lit c cs j k) c ≡ go (lit_next cs j k)
unfolding step pick
lit_step c cs j k p = rw (le-leb c c (omega arith), pick)

alive_lit : (c : ℕ) (cs : List ℕ) (j : Json) (k : Stack) (p : ℕ) → Alive p (s_lit c cs j k) []
unfolding lit_next
alive_lit c [] j k p = alive-step c (lit_step c [] j k p) (alive-after k j (suc p))
alive_lit c (d ∷ cs) j k p = alive-step c (lit_step c (d ∷ cs) j k p) (alive_lit d cs j k (suc p))

-- ---- in strings

module _ (q : ℕ) (k : Stack) where
  alive-text : (r : Role) (s : List ℕ) (p : ℕ) → Alive p (s_str m_text r q s k) []
  unfolding step str_step char_step closed pick spaces
  alive-text as_value s p = alive-step 0x22 refl (alive-after k _ (suc p))
  alive-text (as_name o ms) s p = alive-step 0x22 refl (alive-step 0x3A refl (alive-val (in_obj o ms q s ▹ k) (suc (suc p))))

  wide_step : (lo hi n : ℕ) (r : Role) (s : List ℕ) (p : ℕ) → lo ≤ hi → step p (s_str (m_wide lo hi n) r q s k) lo ≡ go (s_str (wide_next n) r q (s ++ (lo ∷ [])) k)
  unfolding step str_step char_step pick
  wide_step lo hi n r s p h = rw (le-leb lo lo (omega arith), le-leb lo hi h, pick)

  alive-wide : (n lo hi : ℕ) (r : Role) (s : List ℕ) (p : ℕ) → lo ≤ hi → Alive p (s_str (m_wide lo hi n) r q s k) []
  unfolding wide_next
  alive-wide zero lo hi r s p h = alive-step lo (wide_step lo hi zero r s p h) (alive-text r _ (suc p))
  alive-wide (suc n) lo hi r s p h = alive-step lo (wide_step lo hi (suc n) r s p h) (alive-wide n 0x80 0xBF r _ (suc p) (lit≤ tt))

  alive-hex : (n x : ℕ) (r : Role) (s : List ℕ) (p : ℕ) → Alive p (s_str (m_hex n x) r q s k) []
  unfolding step str_step char_step hex_rows hex_next pick
  alive-hex zero x r s p = alive-step 0x30 refl (alive-text r _ (suc p))
  alive-hex (suc n) x r s p = alive-step 0x30 refl (alive-hex n _ r _ (suc p))

  alive-low : (n h x : ℕ) (r : Role) (s : List ℕ) (p : ℕ) → Alive p (s_str (m_low h n x) r q s k) []
  unfolding step str_step char_step hex_rows low_next pick
  alive-low zero h x r s p = alive-step 0x30 refl (alive-text r _ (suc p))
  alive-low (suc n) h x r s p = alive-step 0x30 refl (alive-low n h _ r _ (suc p))

  alive-pair-digit : (h : ℕ) (r : Role) (s : List ℕ) (p : ℕ) → Alive p (s_str (m_pair_digit h) r q s k) []
  unfolding step str_step char_step pick
  alive-pair-digit h r s p = alive-step 0x43 refl (alive-low 1 h _ r _ (suc p))

  alive-pair-d : (h : ℕ) (r : Role) (s : List ℕ) (p : ℕ) → Alive p (s_str (m_pair_d h) r q s k) []
  unfolding step str_step char_step pick
  alive-pair-d h r s p = alive-step 0x44 refl (alive-pair-digit h r _ (suc p))

  alive-pair-u : (h : ℕ) (r : Role) (s : List ℕ) (p : ℕ) → Alive p (s_str (m_pair_u h) r q s k) []
  unfolding step str_step char_step pick
  alive-pair-u h r s p = alive-step 0x75 refl (alive-pair-d h r _ (suc p))

  alive-pair : (h : ℕ) (r : Role) (s : List ℕ) (p : ℕ) → Alive p (s_str (m_pair h) r q s k) []
  unfolding step str_step char_step pick
  alive-pair h r s p = alive-step 0x5C refl (alive-pair-u h r _ (suc p))

  alive-high : (n x : ℕ) (r : Role) (s : List ℕ) (p : ℕ) → Alive p (s_str (m_high n x) r q s k) []
  unfolding step str_step char_step hex_rows high_next pick
  alive-high zero x r s p = alive-step 0x30 refl (alive-pair _ r _ (suc p))
  alive-high (suc n) x r s p = alive-step 0x30 refl (alive-high n _ r _ (suc p))

-- the byte that is due in a wide character can come
abbrev pub OkMid : Mid → Type 0
OkMid m_text = Unit {0}
OkMid (m_wide lo hi n) = lo ≤ hi
OkMid m_slash = Unit {0}
OkMid m_unit = Unit {0}
OkMid m_unit_d = Unit {0}
OkMid (m_hex n x) = Unit {0}
OkMid (m_high n x) = Unit {0}
OkMid (m_pair h) = Unit {0}
OkMid (m_pair_u h) = Unit {0}
OkMid (m_pair_d h) = Unit {0}
OkMid (m_pair_digit h) = Unit {0}
OkMid (m_low h n x) = Unit {0}

alive_str : (m : Mid) (r : Role) (q : ℕ) (s : List ℕ) (k : Stack) (p : ℕ) → OkMid m → Alive p (s_str m r q s k) []
unfolding step str_step char_step hex_rows pick
alive_str m_text r q s k p h = alive-text q k r s p
alive_str (m_wide lo hi n) r q s k p h = alive-wide q k n lo hi r s p h
alive_str m_slash r q s k p h = alive-step 0x22 refl (alive-text q k r _ (suc p))
alive_str m_unit r q s k p h = alive-step 0x30 refl (alive-hex q k 2 _ r _ (suc p))
alive_str m_unit_d r q s k p h = alive-step 0x30 refl (alive-hex q k 1 _ r _ (suc p))
alive_str (m_hex n x) r q s k p h = alive-hex q k n x r s p
alive_str (m_high n x) r q s k p h = alive-high q k n x r s p
alive_str (m_pair x) r q s k p h = alive-pair q k x r s p
alive_str (m_pair_u x) r q s k p h = alive-pair-u q k x r s p
alive_str (m_pair_d x) r q s k p h = alive-pair-d q k x r s p
alive_str (m_pair_digit x) r q s k p h = alive-pair-digit q k x r s p
alive_str (m_low x n y) r q s k p h = alive-low q k n x y r s p

-- ---- what holds of every state that the machine comes to

-- there was room for the bracket opened last
abbrev pub Held : Stack → Type 0
Held (base d) = Unit {0}
Held (f ▹ k) = 1 ≤ room k

-- while a name is read, its object's bracket is open and not on the stack
abbrev pub HeldAs : Role → Stack → Type 0
HeldAs (as_name o ms) k = 1 ≤ room k
HeldAs as_value k = Held k

-- Of `s_elem` and of the states of a name the bracket opened last is not on the stack.
abbrev pub Ok : State → Type 0
Ok (s_val k) = Held k
Ok (s_elem o k) = 1 ≤ room k
Ok (s_after j k) = Held k
Ok (s_name0 o k) = 1 ≤ room k
Ok (s_name o ms k) = 1 ≤ room k
Ok (s_colon o ms q s k) = 1 ≤ room k
Ok (s_str m r q s k) = OkMid m × HeldAs r k
Ok (s_num n q k) = Held k
Ok (s_lit c cs j k) = Held k

-- every such state can be completed, however many brackets may still be opened
pub alive : (st : State) (p : ℕ) → Ok st → Alive p st []
unfolding step pick spaces
alive (s_val k) p h = alive-val k p
alive (s_elem o k) p h = alive-step 0x5D refl (alive-after k (jarr o inil) (suc p))
alive (s_after j k) p h = alive-after k j p
alive (s_name0 o k) p h = alive-step 0x7D refl (alive-after k (jobj o mnil) (suc p))
alive (s_name o ms k) p h = alive-step 0x22 refl (alive-text p k (as_name o ms) [] (suc p))
alive (s_colon o ms q s k) p h = alive-step 0x3A refl (alive-val (in_obj o ms q s ▹ k) (suc p))
alive (s_str m r q s k) p h = alive_str m r q s k p h.0
alive (s_num n q k) p h = alive_num n q k p
alive (s_lit c cs j k) p h = alive_lit c cs j k p
