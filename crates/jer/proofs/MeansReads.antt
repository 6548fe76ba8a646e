-- Judging and reading by the grammar are judging and reading by the machine; and what a reading may be refused by.
use Rattle.std.specs.Prelude.{Err}
use Rattle.jer.specs.Answer.{Judged}
use Prim.Native.Nat.{ℕ, ◌*◌, ◌≤◌}
use mathlib.Core.Path.{◌≡◌, refl, sym, ◌∙◌}
use mathlib.Core.List.{List}
use mathlib.Core.Bool.{Bool, true, false, ◌&&◌}
use Rattle.std.specs.Prelude.{Option, None, Some}
use native.Mathlib.Omega.{arith}
use lib.Dec.{eqb, leb}
use lib.ListN.{length}
use borrow.Author.Tests.{leb-true, leb-false, le-leb, lt-leb}
use Rattle.json_text.specs.Tree.{Json}
use Rattle.json_text.specs.Grammar.{Text}
use Rattle.json_text.specs.Machine.{Parsed, tree, refused, not_json, too_deep, parse_within, parse}
use Rattle.json_text.proofs.Takes.{takes_text}
use Rattle.json_text.proofs.Sound.{text-taken}
use Rattle.json_text.proofs.Places.{not-json-place, too_deep-place, not-json-judged, too_deep-judged}
use Rattle.jer.specs.declared.Cause.{Cause}
use Rattle.jer.specs.declared.Cause.TheVariants.{TooLong, NotJson, TooDeep, OtherKind, BadNumber, BadString, UnknownName, RepeatedName, Missing, Surplus, NotOne, Unknown}
use Rattle.jer.specs.declared.Which.{Which}
use Rattle.jer.specs.declared.Which.TheVariants.{TypeTable, ValueTable}
use Rattle.jer.specs.declared.Refusal.{Refusal}
use Rattle.jer.specs.declared.Refusal.TheVariants.{AtByte, AtRow}
use Rattle.jer.specs.Table.{Table}
use Rattle.jer.specs.Valid.{first_bad}
use Rattle.jer.specs.Value.{Val}
use Rattle.jer.specs.Answer.{Res, ok, no, bind, cause_number, number_of}
use Rattle.jer.specs.Read.{read_whole}
use Rattle.jer.specs.Judge.{Took, took, wrong, take_value, rows_in, all_taken, judge}
use Rattle.jer.specs.Write.{write}
use Rattle.jer.specs.Calls.{table_of, good_table, tree_of, good_text, judged_by, text_judged, read_text, write_text}
use Rattle.jer.specs.Means.{Judges, long, broken, deep, json, Reads, bad_table, bad_text, typed}
use Rattle.jer.proofs.SpellCalls.{read-text}
use Rattle.jer.proofs.MeansCalls.{never}
use Rattle.jer.proofs.ReadPlaces.{AtBytes, fine, place}
use Rattle.jer.proofs.Whole.{whole-at}

-- ---- judging

-- a text that is judged, by its tree or its refusal
data Found (s : List ℕ) : Res Json → Type 0 where
  found : {j : Json} → length s ≤ 65536 → Text 32 j s → Found s (ok j)
  not : {c : Cause} {p : ℕ} → Judges s (Err (AtByte c p)) → Found s (no (AtByte c p))

text-found : (s : List ℕ) → Found s (good_text s)
unfolding good_text tree_of parse
text-found s = size (leb (length s) 65536) refl
  where
    parsed : (x : Parsed) → parse_within 32 s ≡ x → length s ≤ 65536 → Found s (tree_of x)
    parsed (tree j) e l = found l (text-taken 32 j s e)
    parsed (refused not_json p) e l = not (broken l (not-json-place 32 s p e))
    parsed (refused too_deep p) e l = not (deep l (too_deep-place 32 s p e))

    size : (b : Bool) → leb (length s) 65536 ≡ b → Found s (good_text s)
    size true w = rw (w, good_text) (parsed (parse_within 32 s) refl (leb-true _ _ w))
    size false w = rw (w, good_text) (not (long (leb-false _ _ w)))

pub text-judges : (s : List ℕ) → Judges s (text_judged s)
unfolding text_judged judged_by
text-judges s = go (good_text s) (text-found s)
  where
    go : (x : Res Json) → Found s x → Judges s (judged_by x)
    go (ok j) (found l t) = json l t
    go (no e) (not h) = h

pub judges-text : {s : List ℕ} {r : Judged} → Judges s r → r ≡ text_judged s
unfolding text_judged judged_by good_text tree_of parse
judges-text {s} (long h) = rw (lt-leb (length s) 65536 h, good_text)
judges-text {s} (broken {p} l h) = rw (le-leb (length s) 65536 l, good_text, not-json-judged 32 s p h)
judges-text {s} (deep {p} l h) = rw (le-leb (length s) 65536 l, good_text, too_deep-judged 32 s p h)
judges-text {s} (json {j} l h) = rw (le-leb (length s) 65536 l, good_text, takes_text 32 j s h)

-- ---- reading

pub text-reads : (t : Table) (s : List ℕ) → Reads t s (read_text t s)
unfolding read_text good_table table_of bind
text-reads t s = table (first_bad t) refl
  where
    judged : first_bad t ≡ None → (x : Res Json) → Found s x → Reads t s (bind x (λ j. read_whole t j))
    judged e (ok j) (found l h) = typed e l h refl
    judged e (no f) (not h) = bad_text e h

    table : (o : Option ℕ) → first_bad t ≡ o → Reads t s (read_text t s)
    table (Some r) e = rw (e, good_table) (bad_table e)
    table None e = rw (e, good_table) (judged e (good_text s) (text-found s))

-- a refused text has no tree
refused-text : (s : List ℕ) (e : Refusal) → Judges s (Err e) → good_text s ≡ no e
unfolding text_judged judged_by
refused-text s e h = go (good_text s) (judges-text h)
  where
    go : (x : Res Json) → Err e ≡ judged_by x → x ≡ no e
    go (ok j) w = never (cc)
    go (no f) w = cc

pub reads-text : {t : Table} {s : List ℕ} {x : Res Val} → Reads t s x → x ≡ read_text t s
unfolding read_text good_table table_of bind
reads-text {t} {s} (bad_table e) = rw (e, good_table)
reads-text {t} {s} (bad_text {e} g h) = rw (g, good_table) (rw (refused-text s e h, bind))
reads-text {t} {s} (typed g l h e) = e ∙ sym (read-text t s g h l)

-- ---- refusals

-- what a reading may be refused by before its room is looked at: the type table, or a byte of the text
pub data ReadRefusal : Refusal → Type 0 where
  at_table : {r : ℕ} → ReadRefusal (AtRow TypeTable r)
  at_byte : {c : Cause} {p : ℕ} → ReadRefusal (AtByte c p)

pub read-refusal : {t : Table} {s : List ℕ} {e : Refusal} → Reads t s (no e) → ReadRefusal e
read-refusal {t} {s} {e} h = go (no e) h refl
  where
    at : (x : Res Val) → AtBytes x → x ≡ no e → ReadRefusal e
    at (ok v) fine w = never (cc)
    at (no f) (place {c} {p}) w = let q : e ≡ AtByte c p = cc in rw q at_byte

    bad : (f : Refusal) → Judges s (Err f) → ReadRefusal f
    bad f (long l) = at_byte
    bad f (broken l k) = at_byte
    bad f (deep l k) = at_byte

    go : (x : Res Val) → Reads t s x → x ≡ no e → ReadRefusal e
    go x (bad_table {r} g) w = let q : e ≡ AtRow TypeTable r = cc in rw q at_table
    go x (bad_text {e = f} g k) w = let q : e ≡ f = cc in rw q (bad f k)
    go x (typed {j} g l k q) w = at x (rw q (whole-at t j)) w

-- 01's numbers for what a byte is refused for
pub cause_range : (c : Cause) → (2 ≤ cause_number c) × (cause_number c ≤ 11)
cause_range TooLong = omega arith
cause_range NotJson = omega arith
cause_range TooDeep = omega arith
cause_range OtherKind = omega arith
cause_range BadNumber = omega arith
cause_range BadString = omega arith
cause_range UnknownName = omega arith
cause_range RepeatedName = omega arith
cause_range (Missing i) = omega arith
cause_range Surplus = omega arith
cause_range NotOne = omega arith
cause_range Unknown = omega arith

pub refusal_range : {e : Refusal} → ReadRefusal e → (1 ≤ number_of e) × (number_of e ≤ 11)
unfolding number_of
refusal_range at_table = omega arith
refusal_range (at_byte {c}) = let k = cause_range c in omega arith

-- what a writing may be refused by before its size and its room are looked at: the type table, or the value table
pub data WriteRefusal : Refusal → Type 0 where
  at_row : {w : Which} {r : ℕ} → WriteRefusal (AtRow w r)

pub write-refusal : (t : Table) (ns pool : List ℕ) (e : Refusal) → write_text t ns pool ≡ no e → WriteRefusal e
unfolding write_text good_table table_of judge all_taken bind
write-refusal t ns pool e h = table (first_bad t) h
  where
    taken : (x : Took Val) → bind (all_taken (length ns) (length pool) x) (λ v. ok (write v t 0)) ≡ no e → WriteRefusal e
    taken (wrong q) w = let f : e ≡ AtRow ValueTable q = cc in rw f at_row
    taken (took v ws q o) w = whole (eqb (length ns) (q * 4) && eqb (length pool) o) w
      where
        whole : (b : Bool) → bind {B = List ℕ} (elim b as (λ y. Res Val) [ true ↦ ok v | false ↦ no (AtRow ValueTable q) ]) (λ v. ok (write v t 0)) ≡ no e → WriteRefusal e
        whole true w = never (cc)
        whole false w = let f : e ≡ AtRow ValueTable q = cc in rw f at_row

    table : (o : Option ℕ) → bind (table_of t o) (λ u. bind (judge t ns pool) (λ v. ok (write v t 0))) ≡ no e → WriteRefusal e
    table (Some r) w = let f : e ≡ AtRow TypeTable r = cc in rw f at_row
    table None w = taken (take_value 32 t pool 0 (rows_in ns) 0 0) w
