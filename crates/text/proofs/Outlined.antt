-- How a state of the machine looks in outline, and when a step of the machine and one of the outline agree.
use Prim.Native.Nat.{ℕ, ◌+◌, ◌*◌}
use Prim.Native.Char.{code}
use mathlib.Core.Path.{◌≡◌}
use mathlib.Core.Bool.{Bool, true, false}
use mathlib.Core.List.{List, [], ◌∷◌}
use Rattle.json_text.specs.Tree.{Json, Members}
use Rattle.json_text.specs.Machine.{Mid, m_text, m_wide, m_slash, m_unit, m_unit_d, m_hex, m_high, m_pair, m_pair_u, m_pair_d, m_pair_digit, m_low, Num, n_minus, n_zero, n_int, n_dot, n_frac, n_exp, n_sign, n_pow, in_arr, in_obj, Stack, base, ◌▹◌, Role, as_name, as_value, State, s_val, s_elem, s_after, s_name0, s_name, s_colon, s_str, s_num, s_lit, Step, go, bad, not_json, too_deep}
use Rattle.text.specs.Outline.{Stand, Turn}
use Rattle.std.specs.Prelude.{Ok, Err}
use Rattle.jer.specs.declared.Cause.TheVariants.{NotJson, TooDeep}

-- ---- the mode of a state

pub data MidIs : Mid → ℕ → Type 0 where
  text : MidIs m_text (code "T")
  slash : MidIs m_slash (code "B")
  unit : MidIs m_unit (code "U")
  unit_d : MidIs m_unit_d (code "D")
  hex2 : {x : ℕ} → MidIs (m_hex 2 x) (code "2")
  hex1 : {x : ℕ} → MidIs (m_hex 1 x) (code "1")
  hex0 : {x : ℕ} → MidIs (m_hex 0 x) (code "0")
  high1 : {x : ℕ} → MidIs (m_high 1 x) (code "H")
  high0 : {x : ℕ} → MidIs (m_high 0 x) (code "I")
  pair : {h : ℕ} → MidIs (m_pair h) (code "P")
  pair_u : {h : ℕ} → MidIs (m_pair_u h) (code "Q")
  pair_d : {h : ℕ} → MidIs (m_pair_d h) (code "R")
  pair_digit : {h : ℕ} → MidIs (m_pair_digit h) (code "S")
  low1 : {h x : ℕ} → MidIs (m_low h 1 x) (code "1")
  low0 : {h x : ℕ} → MidIs (m_low h 0 x) (code "0")
  wide0 : MidIs (m_wide 0x80 0xBF 0) (code "3")
  wide1 : MidIs (m_wide 0x80 0xBF 1) (code "4")
  wide2 : MidIs (m_wide 0x80 0xBF 2) (code "5")
  wide_e0 : MidIs (m_wide 0xA0 0xBF 1) (code "6")
  wide_eD : MidIs (m_wide 0x80 0x9F 1) (code "7")
  wide_f0 : MidIs (m_wide 0x90 0xBF 2) (code "8")
  wide_f4 : MidIs (m_wide 0x80 0x8F 2) (code "9")

pub data NumIs : Num → ℕ → Type 0 where
  minus : NumIs n_minus (code "J")
  nought : {m : Bool} → NumIs (n_zero m) (code "Z")
  int : {m : Bool} {n : ℕ} → NumIs (n_int m n) (code "W")
  dot : NumIs n_dot (code "G")
  frac : NumIs n_frac (code "F")
  exp : NumIs n_exp (code "X")
  sign : NumIs n_sign (code "Y")
  pow : NumIs n_pow (code "K")

-- the byte that is due and those after it
pub data LitIs : ℕ → List ℕ → ℕ → Type 0 where
  false_a : LitIs 0x61 (0x6C ∷ 0x73 ∷ 0x65 ∷ []) (code ":")
  false_l : LitIs 0x6C (0x73 ∷ 0x65 ∷ []) (code ";")
  false_s : LitIs 0x73 (0x65 ∷ []) (code "<")
  last_e : LitIs 0x65 [] (code "=")
  true_r : LitIs 0x72 (0x75 ∷ 0x65 ∷ []) (code ">")
  true_u : LitIs 0x75 (0x65 ∷ []) (code "?")
  null_u : LitIs 0x75 (0x6C ∷ 0x6C ∷ []) (code "@")
  null_l : LitIs 0x6C (0x6C ∷ []) (code "L")
  last_l : LitIs 0x6C [] (code "O")

pub data Mode : State → ℕ → Type 0 where
  is_val : {k : Stack} → Mode (s_val k) (code "V")
  is_elem : {o : ℕ} {k : Stack} → Mode (s_elem o k) (code "E")
  is_after : {j : Json} {k : Stack} → Mode (s_after j k) (code "A")
  is_name0 : {o : ℕ} {k : Stack} → Mode (s_name0 o k) (code "M")
  is_name : {o : ℕ} {ms : Members} {k : Stack} → Mode (s_name o ms k) (code "N")
  is_colon : {o q : ℕ} {ms : Members} {s : List ℕ} {k : Stack} → Mode (s_colon o ms q s k) (code "C")
  is_str : {m : Mid} {n q : ℕ} {r : Role} {s : List ℕ} {k : Stack} → MidIs m n → Mode (s_str m r q s k) n
  is_num : {m : Num} {n q : ℕ} {k : Stack} → NumIs m n → Mode (s_num m q k) n
  is_lit : {c n : ℕ} {cs : List ℕ} {j : Json} {k : Stack} → LitIs c cs n → Mode (s_lit c cs j k) n

-- ---- the brackets of a state

abbrev pub brackets : Stack → ℕ
brackets (base d) = 1
brackets (in_arr o is ▹ k) = brackets k * 2 + 0
brackets (in_obj o ms q s ▹ k) = brackets k * 2 + 1

-- how many may be open
abbrev pub limit : Stack → ℕ
limit (base d) = d
limit (f ▹ k) = limit k

abbrev pub seen : ℕ → Bool → ℕ → Stand
seen m n b = record { mode = m; name = n; brackets = b }

-- a string that is a name stands in its object's bracket
abbrev pub named : Role → Bool
named (as_name o ms) = true
named as_value = false

abbrev pub inside : Role → Stack → ℕ
inside (as_name o ms) k = brackets k * 2 + 1
inside as_value k = brackets k

abbrev pub outline : State → ℕ → Stand
outline (s_val k) m = seen m false (brackets k)
outline (s_elem o k) m = seen m false (brackets k * 2 + 0)
outline (s_after j k) m = seen m false (brackets k)
outline (s_name0 o k) m = seen m false (brackets k * 2 + 1)
outline (s_name o ms k) m = seen m false (brackets k * 2 + 1)
outline (s_colon o ms q s k) m = seen m false (brackets k * 2 + 1)
outline (s_str i r q s k) m = seen m (named r) (inside r k)
outline (s_num n q k) m = seen m false (brackets k)
outline (s_lit c cs j k) m = seen m false (brackets k)

abbrev pub stack_of : State → Stack
stack_of (s_val k) = k
stack_of (s_elem o k) = k
stack_of (s_after j k) = k
stack_of (s_name0 o k) = k
stack_of (s_name o ms k) = k
stack_of (s_colon o ms q s k) = k
stack_of (s_str i r q s k) = k
stack_of (s_num n q k) = k
stack_of (s_lit c cs j k) = k

-- ---- both go on, to a state and its outline, or both refuse
pub data Agree : Step → Turn → Type 0 where
  on : {st : State} {m : ℕ} → Mode st m → limit (stack_of st) ≡ 32 → Agree (go st) (Ok (outline st m))
  no : Agree (bad not_json) (Err NotJson)
  deep : Agree (bad too_deep) (Err TooDeep)

-- along an equation
pub move : {a : Step} {t u : Turn} → t ≡ u → Agree a u → Agree a t
move {a} e w = rw e w
