-- At every byte the outline agrees with the machine.
use Prim.Native.Nat.{ℕ, ◌+◌, ◌*◌, ◌<◌}
use Prim.Native.Char.{code}
use mathlib.Core.Path.{◌≡◌}
use mathlib.Core.Bool.{Bool, false}
use mathlib.Core.List.{List, [], ◌∷◌}
use Rattle.std.specs.Prelude.{Option, None}
use native.Mathlib.Omega.{arith}
use Rattle.json_text.specs.Bytes.{Row, pick, In}
use Rattle.json_text.specs.Bytes as bytes
use Rattle.json_text.specs.Tree.{Json, inil}
use Rattle.json_text.specs.Machine.{Num, num_step, num_tree, num_go, num_end, fraction_rows, power_rows, Stack, base, ◌▹◌, in_arr, in_obj, Step, bad, not_json, State, spaces, starts, after, lit_next, step, s_lit}
use Rattle.text.specs.Outline.{lookup, start_to, after_to, space_to, act_of, leads, step_of, closes}
use Rattle.text.proofs.Alike.{Alike, end, rest, row, spare, pick-alike, over, miss}
use Rattle.text.proofs.Outlined.{NumIs, minus, nought, int, dot, frac, exp, sign, pow, LitIs, false_a, false_l, false_s, last_e, true_r, true_u, null_u, null_l, last_l, text, Mode, is_val, is_elem, is_after, is_name0, is_name, is_colon, is_str, is_num, is_lit, brackets, limit, seen, outline, stack_of, Agree, on, no, move}
use Rattle.text.proofs.Opened.{some-bracket, opened-agree, comma-none, closes-none, comma-array, closes-array, closes-array-no, comma-object, closes-object, closes-object-no}
use Rattle.text.proofs.Strings.{char}

-- in the mode m, where the brackets k are open
module _ (m : ℕ) (n : Bool) (k : ℕ) where
  abbrev pub Goes : Step → ℕ → Type 0
  Goes a l = Agree a (leads l (seen m n k))

  pub by : (b : ℕ) {rs : List (Row Step)} {ss : List (Row ℕ)} → Alike Goes b (bad not_json) (code "_") rs ss → Goes (pick b rs (bad not_json)) (pick b ss (code "_"))
  by b a = pick-alike a

-- what may begin a value
pub begins : (p b m : ℕ) (k : Stack) → limit k ≡ 32 → Alike (Goes m false (brackets k)) b (bad not_json) (code "_") (starts p k) start_to
unfolding starts start_to leads lookup
begins p b m k h =
    row (on (is_str text) h)
    (row (on (is_num minus) h)
    (row (on (is_num nought) h)
    (row (on (is_num int) h)
    (row (opened-agree k _ (code "E") 0 h (on is_elem h))
    (row (on (is_lit false_a) h)
    (row (on (is_lit null_u) h)
    (row (on (is_lit true_r) h)
    (row (opened-agree k _ (code "M") 1 h (on is_name0 h))
    (end no)))))))))

-- ] does not close an object
other : (b n : ℕ) (f : ℕ → Step) → In 0x5D 0x5D b → 0 < n → Agree (pick b (bytes.on 0x7D 0x7D f ∷ []) (bad not_json)) (closes 0 (n * 2 + 1))
unfolding pick
other b n f w h = move (closes-object-no n h) (rw (miss b 0x7D 0x7D f [] (bad not_json) (λ v. omega arith)) no)

-- what may follow one
pub follows : (b m : ℕ) (j : Json) (k : Stack) → limit k ≡ 32 → Alike (Goes m false (brackets k)) b (bad not_json) (code "_") (after j k) after_to
unfolding after spaces after_to space_to leads lookup
follows b m j (base d) h = row (on is_after h) (row (on is_after h) (row (on is_after h) (over (move comma-none no) (over (move (closes-none 0) no) (over (move (closes-none 1) no) (end no))))))
follows b m j (in_arr o is ▹ k) h =
    row (on is_after h)
    (row (on is_after h)
    (row (on is_after h)
    (row (move (comma-array (brackets k)) (on is_val h))
    (row (move (closes-array (brackets k)) (on is_after h))
    (over (move (closes-array-no (brackets k)) no)
    (end no))))))
follows b m j (in_obj o ms q s ▹ k) h =
    row (on is_after h)
    (row (on is_after h)
    (row (on is_after h)
    (row (move (comma-object (brackets k) (some-bracket k)) (on is_name h))
    (spare {lo = 0x5D} {hi = 0x5D} (λ w. other b (brackets k) _ w (some-bracket k))
    (row (move (closes-object (brackets k) (some-bracket k)) (on is_after h))
    (end no))))))

-- in a number, which ends at the first byte that does not go on with it
module _ (n : Num) (m q b : ℕ) (k : Stack) where
  abbrev pub Counts : Option Num → ℕ → Type 0
  Counts o a = Agree (num_go o n q k b) (leads a (seen m false (brackets k)))

  counts : {rs : List (Row (Option Num))} {ss : List (Row ℕ)} → Alike Counts b None (code "_") rs ss → Counts (pick b rs None) (pick b ss (code "_"))
  counts a = pick-alike a

pub digit : {n : Num} {m : ℕ} (q b : ℕ) (k : Stack) → limit k ≡ 32 → NumIs n m → Counts n m q b k (num_step n b) (act_of m b)
unfolding num_step fraction_rows power_rows num_go num_tree num_end act_of leads lookup
digit {n} {m} q b k h minus = counts n m q b k (row (on (is_num nought) h) (row (on (is_num int) h) (end no)))
digit {n} {m} q b k h nought = counts n m q b k (row (on (is_num dot) h) (row (on (is_num exp) h) (row (on (is_num exp) h) (rest (by m false (brackets k) b (follows b m _ k h))))))
digit {n} {m} q b k h int = counts n m q b k (row (on (is_num int) h) (row (on (is_num dot) h) (row (on (is_num exp) h) (row (on (is_num exp) h) (rest (by m false (brackets k) b (follows b m _ k h)))))))
digit {n} {m} q b k h dot = counts n m q b k (row (on (is_num frac) h) (end no))
digit {n} {m} q b k h frac = counts n m q b k (row (on (is_num frac) h) (row (on (is_num exp) h) (row (on (is_num exp) h) (rest (by m false (brackets k) b (follows b m _ k h))))))
digit {n} {m} q b k h exp = counts n m q b k (row (on (is_num pow) h) (row (on (is_num sign) h) (row (on (is_num sign) h) (end no))))
digit {n} {m} q b k h sign = counts n m q b k (row (on (is_num pow) h) (end no))
digit {n} {m} q b k h pow = counts n m q b k (row (on (is_num pow) h) (rest (by m false (brackets k) b (follows b m _ k h))))

pub letter : {c m : ℕ} {cs : List ℕ} (p b : ℕ) (j : Json) (k : Stack) → limit k ≡ 32 → LitIs c cs m → Goes m false (brackets k) (step p (s_lit c cs j k) b) (act_of m b)
unfolding step lit_next act_of leads lookup
letter {m = m} p b j k h false_a = by m false (brackets k) b (row (on (is_lit false_l) h) (end no))
letter {m = m} p b j k h false_l = by m false (brackets k) b (row (on (is_lit false_s) h) (end no))
letter {m = m} p b j k h false_s = by m false (brackets k) b (row (on (is_lit last_e) h) (end no))
letter {m = m} p b j k h last_e = by m false (brackets k) b (row (on is_after h) (end no))
letter {m = m} p b j k h true_r = by m false (brackets k) b (row (on (is_lit true_u) h) (end no))
letter {m = m} p b j k h true_u = by m false (brackets k) b (row (on (is_lit last_e) h) (end no))
letter {m = m} p b j k h null_u = by m false (brackets k) b (row (on (is_lit null_l) h) (end no))
letter {m = m} p b j k h null_l = by m false (brackets k) b (row (on (is_lit last_l) h) (end no))
letter {m = m} p b j k h last_l = by m false (brackets k) b (row (on is_after h) (end no))

-- every step
pub agree : {st : State} {m : ℕ} (p b : ℕ) → limit (stack_of st) ≡ 32 → Mode st m → Agree (step p st b) (step_of (outline st m) b)
unfolding step spaces act_of leads lookup step_of
agree {m = m} p b h (is_val {k}) = by m false (brackets k) b (row (on is_val h) (row (on is_val h) (row (on is_val h) (begins p b m k h))))
agree {m = m} p b h (is_elem {o} {k}) =
    by m false (brackets k * 2 + 0) b
    (row (on is_elem h) (row (on is_elem h) (row (on is_elem h) (row (move (closes-array (brackets k)) (on is_after h)) (begins p b m (in_arr o inil ▹ k) h)))))
agree {m = m} p b h (is_after {j} {k}) = by m false (brackets k) b (follows b m j k h)
agree {m = m} p b h (is_name0 {o} {k}) =
    by m false (brackets k * 2 + 1) b
    (row (on is_name0 h) (row (on is_name0 h) (row (on is_name0 h) (row (on (is_str text) h) (row (move (closes-object (brackets k) (some-bracket k)) (on is_after h)) (end no))))))
agree {m = m} p b h (is_name {k = k}) = by m false (brackets k * 2 + 1) b (row (on is_name h) (row (on is_name h) (row (on is_name h) (row (on (is_str text) h) (end no)))))
agree {m = m} p b h (is_colon {k = k}) = by m false (brackets k * 2 + 1) b (row (on is_colon h) (row (on is_colon h) (row (on is_colon h) (row (on is_val h) (end no)))))
agree {m = m} p b h (is_str {q = q} {r} {s} {k} w) = char r q s k h b w
agree {m = m} p b h (is_num {q = q} {k = k} w) = digit q b k h w
agree {m = m} p b h (is_lit {j = j} {k = k} w) = letter p b j k h w
