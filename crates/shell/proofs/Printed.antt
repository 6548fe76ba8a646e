-- What the two programs print: determined, and never more than the room that they lend.
use Prim.Native.Nat.{ℕ, ◌+◌, ◌*◌, ◌≤◌}
use mathlib.Core.Path.{◌≡◌, refl, sym, ap, ◌∙◌}
use mathlib.Core.List.{List, [], ◌∷◌, ◌++◌}
use mathlib.Core.Bool.{Bool, true, false}
use Rattle.std.specs.Prelude.{Option, None, Some}
use native.Mathlib.Omega.{arith}
use borrow.Author.Tests.{leb-true}
use lib.Dec.{leb}
use lib.ListN.{length, take, drop, length-append}
use lib.Seq.{sets, sets-eq, take_at}
use Rattle.jer.specs.Octets.{hex}
use Rattle.jer.specs.Table.{Table}
use Rattle.jer.specs.Value.{Val}
use Rattle.jer.specs.Answer.{Res, ok, no, Values, values, values_of}
use Rattle.jer.specs.Rows.{ValueRow, numbers, rows_of, pool_of}
use Rattle.jer.specs.Calls.{row_numbers, roomy, read_answer, amount, write_answer}
use Rattle.jer.specs.Programs.{line_from, line_at, refusal_line, row_lines, end_line, with_line, print_read, read_printed, read_shown, read_third, read_second, jerread, print_write, write_printed, write_shown, write_fourth, write_third, write_second, jerwrite}
use Rattle.jer.specs.declared.Limit.TheVariants.{HouseSize, LentRoom}
use Rattle.jer.specs.declared.Refusal.TheVariants.{Amounts}
use Rattle.jer.proofs.ValidRows.{both}
use Rattle.octets.proofs.EncodeLaws.{hex-length}
use Rattle.lines.specs.Shown.{Shows, four_line}
use Rattle.lines.proofs.ShownLaws.{line_length, four-length}

-- ---- determined

-- two results that the contract allows are equal
pub printed_once : (xs out : List ℕ) {r q : ℕ} {a b : List ℕ} → Shows xs 0 out r a → Shows xs 0 out q b → (r ≡ q) × (a ≡ b)
printed_once xs out e f = (e.0 ∙ sym f.0, e.1 ∙ sym f.1)

-- with room for it, the first r bytes are what is printed, all of it
pub printed_whole : (xs out : List ℕ) {r : ℕ} {a : List ℕ} → length xs ≤ length out → Shows xs 0 out r a → take r a ≡ xs
printed_whole xs out {r} h e =
    let k : sets out 0 xs ≡ xs ++ drop (0 + length xs) out = sets-eq xs out 0 (omega arith) in
    ap (take r) (e.1 ∙ k) ∙ take_at xs (drop (0 + length xs) out) r (sym e.0)

-- ---- room

refusal-fits : (v : Values) → length (refusal_line v) ≡ 33
unfolding refusal_line four_line
refusal-fits v = sym (four-length 0xFFFFFFFF v.number v.first v.second)

rows_fit_lem : (ws : List ValueRow) → length (row_lines ws) * 4 ≡ length (numbers ws) * 33
unfolding row_lines numbers four_line
rows_fit_lem [] = refl
rows_fit_lem (w ∷ ws) = omega (arith, length-append (four_line w.kind w.a w.b w.size) (row_lines ws), four-length w.kind w.a w.b w.size, rows_fit_lem ws)

octets-fit : (os : List ℕ) → length (end_line (hex os)) ≡ 2 * length os + 1
octets-fit os = omega (arith, line_length (hex os), hex-length os)

-- a line that is good is followed by what is short enough
with_fits : (most i n : ℕ) (s : List ℕ) (f : List ℕ → List ℕ → List ℕ) → 33 ≤ most → ((os rest : List ℕ) → length (f os rest) ≤ most) → length (with_line i n s f) ≤ most
unfolding with_line
with_fits most i n s f h g = go (line_at n s) refl
  where
    go : (o : Option (List ℕ)) → line_at n s ≡ o → length (with_line i n s f) ≤ most
    go None e = rw (e, with_line) (omega (arith, refusal-fits (values 15 i 0)))
    go (Some os) e = rw (e, with_line) (g os (line_from s).rest)

-- 4,096 rows and 16,384 pool bytes
printed_read : (t : Table) (x : Res Val) → length (read_printed t x) ≤ 167937
unfolding read_printed print_read read_answer roomy row_numbers
printed_read t (no e) = omega (arith, refusal-fits (values_of e))
printed_read t (ok v) = go (roomy t v 16384 16384) refl
  where
    go : (b : Bool) → roomy t v 16384 16384 ≡ b → length (read_printed t (ok v)) ≤ 167937
    go true e =
        let w = (both (leb (length (row_numbers t v)) 16384) (leb (length (pool_of v)) 16384)).0 e in
        let ws = rows_of v t 0 0 in
        rw (e, read_answer) (omega (arith, length-append (row_lines ws) (end_line (hex (pool_of v))), rows_fit_lem ws, octets-fit (pool_of v), leb-true (length (row_numbers t v)) 16384 w.0, leb-true (length (pool_of v)) 16384 w.1))
    go false e = rw (e, read_answer) (omega (arith, refusal-fits (values_of (Amounts LentRoom (length (rows_of v t 0 0)) (length (pool_of v))))))

-- 65,536 bytes of text
printed_write : (x : Res (List ℕ)) → length (write_printed x) ≤ 131073
unfolding write_printed print_write write_answer
printed_write (no e) = omega (arith, refusal-fits (values_of e))
printed_write (ok s) = go (leb (length s) 65536) refl
  where
    go : (b : Bool) → leb (length s) 65536 ≡ b → length (write_printed (ok s)) ≤ 131073
    go true e = rw (e, write_answer) (rw e (omega (arith, octets-fit s, leb-true (length s) 65536 e)))
    go false e = rw (e, write_answer) (omega (arith, refusal-fits (values_of (Amounts HouseSize (amount (length s)) 0))))

-- what `jerread` prints has at most 167,937 bytes: `crates/jerread` lends more
pub read_fits : (s : List ℕ) → length (jerread s) ≤ 167937
unfolding jerread read_second read_third read_shown
read_fits s =
    with_fits 167937 1 4 s _ (omega arith) (λ types a. with_fits 167937 2 1 a _ (omega arith) (λ names b. with_fits 167937 3 1 b _ (omega arith) (λ text c. printed_read _ _)))

-- what `jerwrite` prints has at most 131,073 bytes: `crates/jerwrite` lends more
pub write-fits : (s : List ℕ) → length (jerwrite s) ≤ 131073
unfolding jerwrite write_second write_third write_fourth write_shown
write-fits s =
    with_fits 131073 1 4 s _ (omega arith)
    (λ types a. with_fits 131073 2 1 a _ (omega arith) (λ names b. with_fits 131073 3 4 b _ (omega arith) (λ values c. with_fits 131073 4 1 c _ (omega arith) (λ pool d. printed_write _))))
