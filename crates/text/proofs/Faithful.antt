-- A whole text: the outline judges it as the machine leads.
use Rattle.std.specs.Prelude.{Err}
use Rattle.jer.specs.Answer.{Judged}
use Prim.Native.Nat.{ℕ, suc, ◌+◌, ◌*◌}
use Prim.Native.Char.{code}
use mathlib.Core.Path.{◌≡◌, refl}
use mathlib.Core.Bool.{false}
use mathlib.Core.List.{List, [], ◌∷◌}
use Rattle.std.specs.Prelude.{Some}
use native.Mathlib.Omega.{arith}
use borrow.Author.Tests.{ne_eqb}
use lib.Dec.{eqb}
use Rattle.json_text.specs.Bytes.{pick}
use Rattle.json_text.specs.Tree.{Json}
use Rattle.json_text.specs.Machine.{Mid, Num, num_tree, Stack, base, ◌▹◌, in_arr, in_obj, State, s_num, Step, go, bad, Parsed, refused, finish, ended, run, parse_within, parse}
use Rattle.jer.specs.declared.Refusal.TheVariants.{AtByte}
use Rattle.jer.specs.Calls.{tree_of, judged_by}
use Rattle.std.specs.Prelude.{Ok, Err}
use Rattle.text.specs.Outline.{Turn, act_of, begin, whole, judged_end, judged_from}
use Rattle.text.proofs.Outlined.{
  MidIs,
  text,
  slash,
  unit,
  unit_d,
  hex2,
  hex1,
  hex0,
  high1,
  high0,
  pair,
  pair_u,
  pair_d,
  pair_digit,
  low1,
  low0,
  wide0,
  wide1,
  wide2,
  wide_e0,
  wide_eD,
  wide_f0,
  wide_f4,
  NumIs,
  minus,
  nought,
  int,
  dot,
  frac,
  exp,
  sign,
  pow,
  LitIs,
  false_a,
  false_l,
  false_s,
  last_e,
  true_r,
  true_u,
  null_u,
  null_l,
  last_l,
  Mode,
  is_val,
  is_elem,
  is_after,
  is_name0,
  is_name,
  is_colon,
  is_str,
  is_num,
  is_lit,
  brackets,
  limit,
  outline,
  stack_of,
  Agree,
  on,
  no,
  deep,
}
use Rattle.text.proofs.Opened.{some-bracket}
use Rattle.text.proofs.Steps.{agree}

-- ---- the end of the text

-- no text ends in a string or in a literal
mid_open : {i : Mid} {m : ℕ} → MidIs i m → eqb (act_of m 0x20) (code "A") ≡ false
unfolding act_of pick
mid_open text = refl
mid_open slash = refl
mid_open unit = refl
mid_open unit_d = refl
mid_open hex2 = refl
mid_open hex1 = refl
mid_open hex0 = refl
mid_open high1 = refl
mid_open high0 = refl
mid_open pair = refl
mid_open pair_u = refl
mid_open pair_d = refl
mid_open pair_digit = refl
mid_open low1 = refl
mid_open low0 = refl
mid_open wide0 = refl
mid_open wide1 = refl
mid_open wide2 = refl
mid_open wide_e0 = refl
mid_open wide_eD = refl
mid_open wide_f0 = refl
mid_open wide_f4 = refl

lit_open : {c m : ℕ} {cs : List ℕ} → LitIs c cs m → eqb (act_of m 0x20) (code "A") ≡ false
unfolding act_of pick
lit_open false_a = refl
lit_open false_l = refl
lit_open false_s = refl
lit_open last_e = refl
lit_open true_r = refl
lit_open true_u = refl
lit_open null_u = refl
lit_open null_l = refl
lit_open last_l = refl

-- a value has ended
value-end : (j : Json) (k : Stack) (p : ℕ) → judged_by (tree_of (ended (Some j) k p)) ≡ judged_end (eqb (brackets k) 1) p
unfolding judged_by tree_of ended judged_end
value-end j (base d) p = refl
value-end j (in_arr o is ▹ k) p = rw (ne_eqb (brackets k * 2 + 0) 1 (λ z. omega arith))
value-end j (in_obj o ms q s ▹ k) p = let w = some-bracket k in rw (ne_eqb (brackets k * 2 + 1) 1 (λ z. omega arith))

number-end : {n : Num} {m : ℕ} (q : ℕ) (k : Stack) (p : ℕ) → NumIs n m → judged_by (tree_of (ended (num_tree n q) k p)) ≡ judged_end (whole (outline (s_num n q k) m)) p
unfolding judged_by tree_of ended judged_end num_tree whole act_of pick
number-end q k p minus = refl
number-end q k p nought = value-end _ k p
number-end q k p int = value-end _ k p
number-end q k p dot = refl
number-end q k p frac = value-end _ k p
number-end q k p exp = refl
number-end q k p sign = refl
number-end q k p pow = value-end _ k p

at-end : {st : State} {m : ℕ} (p : ℕ) → Mode st m → judged_by (tree_of (finish st p)) ≡ judged_end (whole (outline st m)) p
unfolding judged_by tree_of finish judged_end whole act_of pick
at-end p is_val = refl
at-end p is_elem = refl
at-end p (is_after {j} {k}) = value-end j k p
at-end p is_name0 = refl
at-end p is_name = refl
at-end p is_colon = refl
at-end p (is_str w) = rw (mid_open w)
at-end p (is_num {q = q} {k = k} w) = number-end q k p w
at-end p (is_lit w) = rw (lit_open w)

-- ---- the bytes before it

pub runs : (p : ℕ) (bs : List ℕ) {st : State} {m : ℕ} → limit (stack_of st) ≡ 32 → Mode st m → judged_by (tree_of (run p st bs)) ≡ judged_from p (outline st m) bs
unfolding run judged_from judged_by tree_of
runs p [] h w = at-end p w
runs p (b ∷ bs) h w = next (λ st m l v. runs (suc p) bs l v) (agree p b h w)
  where
    next : {a : Step} {t : Turn} → ((st : State) (m : ℕ) → limit (stack_of st) ≡ 32 → Mode st m → judged_by (tree_of (run (suc p) st bs)) ≡ judged_from (suc p) (outline st m) bs) → Agree a t
        → judged_by (tree_of (elim a as (λ x. Parsed) [ go st ↦ run (suc p) st bs | bad f ↦ refused f p ]))
        ≡ elim t as (λ x. Judged) [ Ok u ↦ judged_from (suc p) u bs | Err e ↦ Err (AtByte e p) ]
    next ih (on {st} {m} v l) = ih st m l v
    next ih no = refl
    next ih deep = refl

pub judges : (bs : List ℕ) → judged_by (tree_of (parse bs)) ≡ judged_from 0 begin bs
unfolding parse parse_within
judges bs = runs 0 bs refl is_val
