-- Inside a string the outline agrees with the machine.
use Prim.Native.Nat.{ℕ}
use Prim.Native.Char.{code}
use mathlib.Core.Path.{◌≡◌}
use mathlib.Core.List.{List}
use Rattle.json_text.specs.Bytes.{Row, pick}
use Rattle.json_text.specs.Utf8.{wide_rows}
use Rattle.json_text.specs.Machine.{Mid, Act, close, never, wide_next, hex_rows, hex_next, high_next, low_next, char_step, Stack, Role, as_name, as_value, go, s_str, closed, str_step}
use Rattle.std.specs.Prelude.{Ok}
use Rattle.text.specs.Outline.{lookup, act_of, quoted, leads}
use Rattle.text.proofs.Alike.{Alike, end, row, pick-alike}
use Rattle.text.proofs.Outlined.{
  MidIs,
  text,
  slash,
  unit,
  unit_d,
  hex2,
  hex1,
  hex0,
  high1,
  high0,
  pair,
  pair_u,
  pair_d,
  pair_digit,
  low1,
  low0,
  wide0,
  wide1,
  wide2,
  wide_e0,
  wide_eD,
  wide_f0,
  wide_f4,
  is_after,
  is_colon,
  is_str,
  limit,
  seen,
  named,
  inside,
  Agree,
  on,
  no,
}

-- the string that began at q and has the bytes s so far
module _ (r : Role) (q : ℕ) (s : List ℕ) (k : Stack) (h : limit k ≡ 32) where
  abbrev pub Follows : ℕ → Act → ℕ → Type 0
  Follows m a l = Agree (str_step a r q s k) (leads l (seen m (named r) (inside r k)))

  ended : (m : ℕ) → Follows m close (code "e")
  unfolding str_step closed leads lookup quoted
  ended m = by_role r
    where
      by_role : (r : Role) → Agree (str_step close r q s k) (leads (code "e") (seen m (named r) (inside r k)))
      by_role (as_name o ms) = on is_colon h
      by_role as_value = on is_after h

  to : {i : Mid} {n : ℕ} {t : List ℕ} → MidIs i n → Agree (go (s_str i r q t k)) (Ok (seen n (named r) (inside r k)))
  to w = on (is_str w) h

  by : (m b : ℕ) {rs : List (Row Act)} {ss : List (Row ℕ)} → Alike (Follows m) b never (code "_") rs ss → Follows m (pick b rs never) (pick b ss (code "_"))
  by m b a = pick-alike a

  pub char : {i : Mid} {m : ℕ} (b : ℕ) → MidIs i m → Follows m (char_step i b) (act_of m b)
  unfolding char_step wide_next hex_rows hex_next high_next low_next wide_rows str_step act_of leads lookup
  char {m = m} b text = by m b (row (ended m) (row (to slash) (row (to text) (row (to wide0) (row (to wide_e0) (row (to wide1) (row (to wide_eD) (row (to wide1) (row (to wide_f0) (row (to wide2) (row (to wide_f4) (end no))))))))))))
  char {m = m} b slash = by m b (row (to text) (row (to text) (row (to text) (row (to text) (row (to text) (row (to text) (row (to text) (row (to text) (row (to unit) (end no))))))))))
  char {m = m} b unit = by m b (row (to unit_d) (row (to unit_d) (row (to hex2) (row (to hex2) (row (to hex2) (end no))))))
  char {m = m} b unit_d = by m b (row (to hex1) (row (to high1) (row (to high1) (row (to high1) (end no)))))
  char {m = m} b hex2 = by m b (row (to hex1) (row (to hex1) (row (to hex1) (end no))))
  char {m = m} b hex1 = by m b (row (to hex0) (row (to hex0) (row (to hex0) (end no))))
  char {m = m} b hex0 = by m b (row (to text) (row (to text) (row (to text) (end no))))
  char {m = m} b high1 = by m b (row (to high0) (row (to high0) (row (to high0) (end no))))
  char {m = m} b high0 = by m b (row (to pair) (row (to pair) (row (to pair) (end no))))
  char {m = m} b pair = by m b (row (to pair_u) (end no))
  char {m = m} b pair_u = by m b (row (to pair_d) (end no))
  char {m = m} b pair_d = by m b (row (to pair_digit) (row (to pair_digit) (end no)))
  char {m = m} b pair_digit = by m b (row (to low1) (row (to low1) (end no)))
  char {m = m} b low1 = by m b (row (to low0) (row (to low0) (row (to low0) (end no))))
  char {m = m} b low0 = by m b (row (to text) (row (to text) (row (to text) (end no))))
  char {m = m} b wide0 = by m b (row (to text) (end no))
  char {m = m} b wide1 = by m b (row (to wide0) (end no))
  char {m = m} b wide2 = by m b (row (to wide1) (end no))
  char {m = m} b wide_e0 = by m b (row (to wide0) (end no))
  char {m = m} b wide_eD = by m b (row (to wide0) (end no))
  char {m = m} b wide_f0 = by m b (row (to wide1) (end no))
  char {m = m} b wide_f4 = by m b (row (to wide1) (end no))
