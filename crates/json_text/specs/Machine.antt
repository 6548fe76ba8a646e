-- The grammar as a machine that takes one byte at a time: it gives the tree, or the refusal's number and place.
-- `proofs/` shows that it takes the texts of the grammar and no others, and that its places are document 01's.
use Rattle.std.specs.Prelude.{ℕ, zero, suc, pred, ◌+◌, ◌-◌, ◌*◌, List, [], ◌∷◌, ◌++◌, Bool, true, false, eqb}
use Rattle.std.specs.Prelude.{Option, None, Some}
use Rattle.json_text.specs.Bytes.{Row, on, pick}
use Rattle.json_text.specs.Tree.{Json, jnull, jbool, jint, jreal, jstr, jarr, jobj, Items, inil, Members, mnil, isnoc, msnoc}
use Rattle.json_text.specs.Utf8.{encode, wide_rows}
use Rattle.json_text.specs.Grammar.{paired}

-- ---- inside a string

-- where in a character the machine stands
pub data Mid : Type 0 where
  -- between characters
  m_text : Mid
  -- in a wide one: a byte from lo to hi is due, then n from 80 to BF
  m_wide : ℕ → ℕ → ℕ → Mid
  -- after a backslash, \u, \uD
  m_slash m_unit m_unit_d : Mid
  -- the digits so far make x, and n are due after the next one: of a character, of a high surrogate
  m_hex m_high : ℕ → ℕ → Mid
  -- after the high surrogate h: \ is due, u, D, the digit after it
  m_pair m_pair_u m_pair_d m_pair_digit : ℕ → Mid
  -- the low surrogate's digits after the high one h
  m_low : ℕ → ℕ → ℕ → Mid

-- a byte goes on, and the string has these bytes more; or it ends the string; or no JSON has it there
pub data Act : Type 0 where
  still : Mid → List ℕ → Act
  close : Act
  never : Act

unfoldable pub wide_next : ℕ → Mid
wide_next zero = m_text
wide_next (suc n) = m_wide 0x80 0xBF n

unfoldable pub hex_rows : (ℕ → Act) → List (Row Act)
hex_rows f = on 0x30 0x39 (λ b. f (b - 0x30)) ∷ on 0x41 0x46 (λ b. f (b - 0x37)) ∷ on 0x61 0x66 (λ b. f (b - 0x57)) ∷ []

unfoldable pub hex_next : ℕ → ℕ → Act
hex_next zero x = still m_text (encode x)
hex_next (suc n) x = still (m_hex n x) []

unfoldable pub high_next : ℕ → ℕ → Act
high_next zero x = still (m_pair x) []
high_next (suc n) x = still (m_high n x) []

unfoldable pub low_next : ℕ → ℕ → ℕ → Act
low_next h zero x = still m_text (encode (paired h x))
low_next h (suc n) x = still (m_low h n x) []

unfoldable pub char_step : Mid → ℕ → Act
char_step m_text b =
    pick b
    (on 0x22 0x22 (λ b. close)
    ∷ on 0x5C 0x5C (λ b. still m_slash [])
    ∷ on 0x20 0x7F (λ b. still m_text (b ∷ []))
    ∷ wide_rows (λ b lo hi n. still (m_wide lo hi n) (b ∷ [])))
    never
char_step (m_wide lo hi n) b = pick b (on lo hi (λ b. still (wide_next n) (b ∷ [])) ∷ []) never
char_step m_slash b =
    pick b
    (on 0x22 0x22 (λ b. still m_text (0x22 ∷ []))
    ∷ on 0x2F 0x2F (λ b. still m_text (0x2F ∷ []))
    ∷ on 0x5C 0x5C (λ b. still m_text (0x5C ∷ []))
    ∷ on 0x62 0x62 (λ b. still m_text (0x08 ∷ []))
    ∷ on 0x66 0x66 (λ b. still m_text (0x0C ∷ []))
    ∷ on 0x6E 0x6E (λ b. still m_text (0x0A ∷ []))
    ∷ on 0x72 0x72 (λ b. still m_text (0x0D ∷ []))
    ∷ on 0x74 0x74 (λ b. still m_text (0x09 ∷ []))
    ∷ on 0x75 0x75 (λ b. still m_unit [])
    ∷ [])
    never
char_step m_unit b = pick b (on 0x44 0x44 (λ b. still m_unit_d []) ∷ on 0x64 0x64 (λ b. still m_unit_d []) ∷ hex_rows (λ x. still (m_hex 2 x) [])) never
char_step m_unit_d b =
    pick b
    (on 0x30 0x37 (λ b. still (m_hex 1 (0xD0 + (b - 0x30))) [])
    ∷ on 0x38 0x39 (λ b. still (m_high 1 (0xD0 + (b - 0x30))) [])
    ∷ on 0x41 0x42 (λ b. still (m_high 1 (0xD0 + (b - 0x37))) [])
    ∷ on 0x61 0x62 (λ b. still (m_high 1 (0xD0 + (b - 0x57))) [])
    ∷ [])
    never
char_step (m_hex n x) b = pick b (hex_rows (λ y. hex_next n (x * 16 + y))) never
char_step (m_high n x) b = pick b (hex_rows (λ y. high_next n (x * 16 + y))) never
char_step (m_pair h) b = pick b (on 0x5C 0x5C (λ b. still (m_pair_u h) []) ∷ []) never
char_step (m_pair_u h) b = pick b (on 0x75 0x75 (λ b. still (m_pair_d h) []) ∷ []) never
char_step (m_pair_d h) b = pick b (on 0x44 0x44 (λ b. still (m_pair_digit h) []) ∷ on 0x64 0x64 (λ b. still (m_pair_digit h) []) ∷ []) never
char_step (m_pair_digit h) b =
    pick b
    (on 0x43 0x46 (λ b. still (m_low h 1 (0xD0 + (b - 0x37))) [])
    ∷ on 0x63 0x66 (λ b. still (m_low h 1 (0xD0 + (b - 0x57))) [])
    ∷ [])
    never
char_step (m_low h n x) b = pick b (hex_rows (λ y. low_next h n (x * 16 + y))) never

-- ---- inside a number

-- where in a number the machine stands, with its minus sign and magnitude while it is whole
pub data Num : Type 0 where
  n_minus : Num
  n_zero : Bool → Num
  n_int : Bool → ℕ → Num
  n_dot n_frac n_exp n_sign n_pow : Num

unfoldable pub fraction_rows : List (Row (Option Num)) → List (Row (Option Num))
fraction_rows rs = on 0x2E 0x2E (λ b. Some n_dot) ∷ rs

unfoldable pub power_rows : List (Row (Option Num))
power_rows = on 0x45 0x45 (λ b. Some n_exp) ∷ on 0x65 0x65 (λ b. Some n_exp) ∷ []

-- a byte that goes on with the number
unfoldable pub num_step : Num → ℕ → Option Num
num_step n_minus b = pick b (on 0x30 0x30 (λ b. Some (n_zero true)) ∷ on 0x31 0x39 (λ b. Some (n_int true (b - 0x30))) ∷ []) None
num_step (n_zero m) b = pick b (fraction_rows power_rows) None
num_step (n_int m n) b = pick b (on 0x30 0x39 (λ b. Some (n_int m (n * 10 + (b - 0x30)))) ∷ fraction_rows power_rows) None
num_step n_dot b = pick b (on 0x30 0x39 (λ b. Some n_frac) ∷ []) None
num_step n_frac b = pick b (on 0x30 0x39 (λ b. Some n_frac) ∷ power_rows) None
num_step n_exp b = pick b (on 0x30 0x39 (λ b. Some n_pow) ∷ on 0x2B 0x2B (λ b. Some n_sign) ∷ on 0x2D 0x2D (λ b. Some n_sign) ∷ []) None
num_step n_sign b = pick b (on 0x30 0x39 (λ b. Some n_pow) ∷ []) None
num_step n_pow b = pick b (on 0x30 0x39 (λ b. Some n_pow) ∷ []) None

-- the number, where it may end
unfoldable pub num_tree : Num → ℕ → Option Json
num_tree n_minus p = None
num_tree (n_zero m) p = Some (jint p m 0)
num_tree (n_int m n) p = Some (jint p m n)
num_tree n_dot p = None
num_tree n_frac p = Some (jreal p)
num_tree n_exp p = None
num_tree n_sign p = None
num_tree n_pow p = Some (jreal p)

-- ---- brackets

-- an open bracket at its place, with what stands before the value that is being read
pub data Frame : Type 0 where
  in_arr : ℕ → Items → Frame
  in_obj : ℕ → Members → ℕ → List ℕ → Frame

-- the brackets that are open; at the bottom how many may be
infixr 67 ◌▹◌
pub data Stack : Type 0 where
  base : ℕ → Stack
  ◌▹◌ : Frame → Stack → Stack

-- how many more may be opened
unfoldable pub room : Stack → ℕ
room (base d) = d
room (f ▹ k) = pred (room k)

-- ---- the machine

-- a string is a name of the object at o after the members ms, or a value
pub data Role : Type 0 where
  as_name : ℕ → Members → Role
  as_value : Role

pub data State : Type 0 where
  -- a value is due; a value or ] of the array at o; a value has ended
  s_val : Stack → State
  s_elem : ℕ → Stack → State
  s_after : Json → Stack → State
  -- a name or } of the object at o; a name after the members ms; the colon after the name s at q
  s_name0 : ℕ → Stack → State
  s_name : ℕ → Members → Stack → State
  s_colon : ℕ → Members → ℕ → List ℕ → Stack → State
  -- in the string that began at q and has the bytes s so far; in the number that began at q
  s_str : Mid → Role → ℕ → List ℕ → Stack → State
  s_num : Num → ℕ → Stack → State
  -- in a literal: the byte c is due, then cs
  s_lit : ℕ → List ℕ → Json → Stack → State

-- 3 and 4 of 01's refusal numbers
pub data Fault : Type 0 where
  not_json too_deep : Fault

pub data Step : Type 0 where
  go : State → Step
  bad : Fault → Step

unfoldable pub spaces : State → List (Row Step) → List (Row Step)
spaces st rs = on 0x20 0x20 (λ b. go st) ∷ on 0x09 0x0A (λ b. go st) ∷ on 0x0D 0x0D (λ b. go st) ∷ rs

-- a bracket where no more may be opened is 4
unfoldable pub opened : Stack → State → Step
opened k st = elim (eqb (room k) 0) [ true ↦ bad too_deep | false ↦ go st ]

-- what may begin a value at p
unfoldable pub starts : ℕ → Stack → List (Row Step)
starts p k =
    on 0x22 0x22 (λ b. go (s_str m_text as_value p [] k))
    ∷ on 0x2D 0x2D (λ b. go (s_num n_minus p k))
    ∷ on 0x30 0x30 (λ b. go (s_num (n_zero false) p k))
    ∷ on 0x31 0x39 (λ b. go (s_num (n_int false (b - 0x30)) p k))
    ∷ on 0x5B 0x5B (λ b. opened k (s_elem p k))
    ∷ on 0x66 0x66 (λ b. go (s_lit 0x61 (0x6C ∷ 0x73 ∷ 0x65 ∷ []) (jbool p false) k))
    ∷ on 0x6E 0x6E (λ b. go (s_lit 0x75 (0x6C ∷ 0x6C ∷ []) (jnull p) k))
    ∷ on 0x74 0x74 (λ b. go (s_lit 0x72 (0x75 ∷ 0x65 ∷ []) (jbool p true) k))
    ∷ on 0x7B 0x7B (λ b. opened k (s_name0 p k))
    ∷ []

-- what may follow the value j
unfoldable pub after : Json → Stack → List (Row Step)
after j (base d) = spaces (s_after j (base d)) []
after j (in_arr o is ▹ k) =
    spaces (s_after j (in_arr o is ▹ k))
    (on 0x2C 0x2C (λ b. go (s_val (in_arr o (isnoc is j) ▹ k)))
    ∷ on 0x5D 0x5D (λ b. go (s_after (jarr o (isnoc is j)) k))
    ∷ [])
after j (in_obj o ms q s ▹ k) =
    spaces (s_after j (in_obj o ms q s ▹ k))
    (on 0x2C 0x2C (λ b. go (s_name o (msnoc ms q s j) k))
    ∷ on 0x7D 0x7D (λ b. go (s_after (jobj o (msnoc ms q s j)) k))
    ∷ [])

unfoldable pub closed : Role → ℕ → List ℕ → Stack → State
closed (as_name o ms) q s k = s_colon o ms q s k
closed as_value q s k = s_after (jstr q s) k

unfoldable pub str_step : Act → Role → ℕ → List ℕ → Stack → Step
str_step (still m xs) r q s k = go (s_str m r q (s ++ xs) k)
str_step close r q s k = go (closed r q s k)
str_step never r q s k = bad not_json

-- a number ends at the first byte that does not go on with it
unfoldable pub num_end : Option Json → Stack → ℕ → Step
num_end None k b = bad not_json
num_end (Some j) k b = pick b (after j k) (bad not_json)

unfoldable pub num_go : Option Num → Num → ℕ → Stack → ℕ → Step
num_go (Some m) n q k b = go (s_num m q k)
num_go None n q k b = num_end (num_tree n q) k b

unfoldable pub lit_next : List ℕ → Json → Stack → State
lit_next [] j k = s_after j k
lit_next (c ∷ cs) j k = s_lit c cs j k

unfoldable pub step : ℕ → State → ℕ → Step
step p (s_val k) b = pick b (spaces (s_val k) (starts p k)) (bad not_json)
step p (s_elem o k) b = pick b (spaces (s_elem o k) (on 0x5D 0x5D (λ b. go (s_after (jarr o inil) k)) ∷ starts p (in_arr o inil ▹ k))) (bad not_json)
step p (s_after j k) b = pick b (after j k) (bad not_json)
step p (s_name0 o k) b =
    pick b (spaces (s_name0 o k) (on 0x22 0x22 (λ b. go (s_str m_text (as_name o mnil) p [] k)) ∷ on 0x7D 0x7D (λ b. go (s_after (jobj o mnil) k)) ∷ [])) (bad not_json)
step p (s_name o ms k) b = pick b (spaces (s_name o ms k) (on 0x22 0x22 (λ b. go (s_str m_text (as_name o ms) p [] k)) ∷ [])) (bad not_json)
step p (s_colon o ms q s k) b = pick b (spaces (s_colon o ms q s k) (on 0x3A 0x3A (λ b. go (s_val (in_obj o ms q s ▹ k))) ∷ [])) (bad not_json)
step p (s_str m r q s k) b = str_step (char_step m b) r q s k
step p (s_num n q k) b = num_go (num_step n b) n q k b
step p (s_lit c cs j k) b = pick b (on c c (λ b. go (lit_next cs j k)) ∷ []) (bad not_json)

pub data Parsed : Type 0 where
  tree : Json → Parsed
  refused : Fault → ℕ → Parsed

-- a text that ends early is 3 at its length
unfoldable pub ended : Option Json → Stack → ℕ → Parsed
ended None k p = refused not_json p
ended (Some j) (base d) p = tree j
ended (Some j) (f ▹ k) p = refused not_json p

unfoldable pub finish : State → ℕ → Parsed
finish (s_val k) p = refused not_json p
finish (s_elem o k) p = refused not_json p
finish (s_after j k) p = ended (Some j) k p
finish (s_name0 o k) p = refused not_json p
finish (s_name o ms k) p = refused not_json p
finish (s_colon o ms q s k) p = refused not_json p
finish (s_str m r q s k) p = refused not_json p
finish (s_num n q k) p = ended (num_tree n q) k p
finish (s_lit c cs j k) p = refused not_json p

unfoldable pub run : ℕ → State → List ℕ → Parsed
run p st [] = finish st p
run p st (b ∷ bs) = elim (step p st b) [ go st' ↦ run (suc p) st' bs | bad f ↦ refused f p ]

-- a whole text, with at most d brackets open at one time
unfoldable pub parse_within : ℕ → List ℕ → Parsed
parse_within d bs = run 0 (s_val (base d)) bs

-- 01, What the library handles: "32 open brackets at one time"
unfoldable pub parse : List ℕ → Parsed
parse bs = parse_within 32 bs
