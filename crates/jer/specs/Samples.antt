-- The sample texts of 01: one table of cases under one theorem.
use Rattle.std.specs.Prelude.{is_some}
use Rattle.std.specs.Prelude.{ℕ, zero, suc, ◌≡◌, refl, List, [], ◌∷◌, map}
use Prim.Native.Char.{code}
use Prim.Native.String.{String}
use Rattle.json_text.specs.Bytes.{pick}
use Rattle.json_text.specs.Tree.{place_of, isnoc, msnoc}
use Rattle.json_text.specs.Utf8.{encode, wide_rows, due_next, due_step, due_end, utf8_from, utf8}
use Rattle.json_text.specs.Grammar.{paired}
use Rattle.json_text.specs.Machine.{wide_next, hex_rows, hex_next, high_next, low_next, char_step, fraction_rows, power_rows, num_step, num_tree, room, spaces, opened, starts, after, closed, str_step, num_end, num_go, lit_next, step, ended, finish, run, parse_within, parse}
use Rattle.jer.specs.Table.{Table, row_count, field, carries, type_kind, tag_of, form_of, kind_of, is_type, marks_of, marked, extensible, is_base64, is_array, is_unwrapped, first_of, element_of, count_of, root_of, member_row, optional, type_at, name_in, name_at, addition, may_miss, may_be_absent, first_where, same_bytes, position, token_code, code_of, same_token, token_pick, token_of, alternative, can_be_null, open_unwrapped, null_taken}
use Rattle.jer.specs.Valid.{every, implies, unused, good_block, good_name, good_marks, good_fields, good_alone, good_links, good_pointers, all_differ, names_differ, none_optional, good_array, good_unwrapped, good_rules, good_sizes, or_else, pass, first_bad}
use Rattle.jer.specs.Value.{Val, count_vals, count_present}
use Rattle.jer.specs.Answer.{Res, ok, no, bind, Values, values_of}
use Rattle.jer.specs.Octets.{also, hex_value, unhex, hex_digit, hex, base64_value, only_if, last_group, full_group, unbase64, base64_digit, base64}
use Rattle.jer.specs.Read.{read_int, read_item, read_octets, octets_of, read_string, at_kind, picked, unwrapping, lookup, names_good, null_absent, with_absent, with_present, read_member, read_members, read_object, null_value, missing_element, read_element, surplus, read_elements, read_items, read_array, read_chosen, read_choice, read_braces, null?, read, read_whole}
use Rattle.jer.specs.Rows.{numbers, bit, pool_of, above, rows_of}
use Rattle.jer.specs.Write.{null_text, bool_text, digits, int_text, escaped, escapes, quotes, string_text, bytes_text, joined, keep, drop_nulls, brackets, braces, member_text, choice_text, sequence_text, write}
use Rattle.jer.specs.Calls.{table_of, good_table, tree_of, good_text, read_text, row_numbers}

-- the bytes of a text of plain characters
unfoldable pub ascii : String → List ℕ
ascii String.[] = []
ascii (String.◌∷◌ c s) = code c ∷ ascii s

-- what a text gives: the numbers of its rows, its pool, and the text that is written of it; or the refusal's number and values
pub data Outcome : Type 0 where
  stored : List ℕ → List ℕ → List ℕ → Outcome
  refusal : ℕ → ℕ → ℕ → Outcome

unfoldable pub refusal_of : Values → Outcome
refusal_of v = refusal v.number v.first v.second

unfoldable pub outcome_of : Table → Res Val → Outcome
outcome_of t (ok v) = stored (row_numbers t v) (pool_of v) (write v t 0)
outcome_of t (no e) = refusal_of (values_of e)

unfoldable pub outcome : Table → List ℕ → Outcome
unfolding refusal_of outcome_of pick place_of isnoc msnoc encode wide_rows due_next due_step due_end utf8_from utf8 paired wide_next hex_rows hex_next high_next low_next char_step fraction_rows power_rows num_step num_tree room spaces opened starts after closed str_step num_end num_go lit_next step ended finish run parse_within parse row_count field carries type_kind tag_of form_of kind_of is_type marks_of marked extensible is_base64 is_array is_unwrapped first_of element_of count_of root_of member_row optional type_at name_in name_at addition may_miss may_be_absent first_where same_bytes position token_code code_of same_token token_pick token_of alternative can_be_null open_unwrapped null_taken every implies unused good_block good_name good_marks good_fields good_alone good_links good_pointers all_differ names_differ none_optional good_array good_unwrapped good_rules good_sizes or_else pass first_bad count_vals count_present bind also hex_value unhex hex_digit hex base64_value only_if last_group full_group unbase64 base64_digit base64 read_int read_item read_octets octets_of read_string at_kind picked unwrapping lookup names_good null_absent with_absent with_present read_member read_members read_object null_value missing_element read_element surplus read_elements read_items read_array read_chosen read_choice read_braces null? read numbers bit pool_of above rows_of null_text bool_text digits int_text escaped escapes quotes string_text bytes_text joined keep drop_nulls brackets braces member_text choice_text sequence_text write table_of good_table tree_of good_text read_text row_numbers read_whole
outcome t s = outcome_of t (read_text t s)

-- ---- the tables of the samples

-- a row of which the fields 5 to 7 are 0, before other rows
abbrev row8 : ℕ → ℕ → ℕ → ℕ → ℕ → List ℕ → List ℕ
row8 k m a b c rows = k ∷ m ∷ a ∷ b ∷ c ∷ 0 ∷ 0 ∷ 0 ∷ rows

-- 01, Sample texts on both sides: "T is an extensible SEQUENCE of a INTEGER, b BOOLEAN OPTIONAL."
-- "T's rows: (6 2 1 2 2 0 0 0), (9 0 3 0 1 0 0 0), (9 1 4 1 1 0 0 0), (1 0 0 0 0 0 0 0), (0 0 0 0 0 0 0 0), in eight digits each and joined
-- as line one. Line two: 6162."
abbrev table_t : Table
table_t = record { rows = row8 6 2 1 2 2 (row8 9 0 3 0 1 (row8 9 1 4 1 1 (row8 1 0 0 0 0 (row8 0 0 0 0 0 [])))); names = 97 ∷ 98 ∷ [] }

-- "ARRAY sequence of INTEGER and NULL, not extensible"
abbrev table_a : Table
table_a = record { rows = row8 6 1 1 2 2 (row8 9 0 3 0 1 (row8 9 0 4 1 1 (row8 1 0 0 0 0 (row8 3 0 0 0 0 [])))); names = 97 ∷ 98 ∷ [] }

-- "ENUMERATED with the one item red", with the marks m
abbrev table_e : ℕ → Table
table_e m = record { rows = row8 2 m 1 1 1 (row8 9 0 0 0 3 []); names = 114 ∷ 101 ∷ 100 ∷ [] }

-- one row of the kind k
abbrev table1 : ℕ → Table
table1 k = record { rows = row8 k 0 0 0 0 []; names = [] }

-- n times the byte b, before other bytes
unfoldable times : ℕ → ℕ → List ℕ → List ℕ
times zero b s = s
times (suc n) b s = b ∷ times n b s

-- the rows of n arrays, each in the one before
unfoldable nested : ℕ → List ℕ
nested zero = []
nested (suc zero) = 7 ∷ 0 ∷ 0 ∷ 1 ∷ []
nested (suc (suc n)) = 7 ∷ 1 ∷ 0 ∷ suc (suc n) ∷ nested (suc n)

-- ---- the cases

pub record Case : Type 0 where
  pub table : Table
  pub text : List ℕ
  pub gives : Outcome

abbrev case : Table → List ℕ → Outcome → Case
case t s x = record { table = t; text = s; gives = x }

-- the rows of P1, and of the worked example of `jerread`, which prints them and an empty pool: "Output, the last line empty:"
-- "00000006000000010000000000000003 00000001000000050000000000000001 0000000F000000000000000000000001"
abbrev five : List ℕ
five = 6 ∷ 1 ∷ 0 ∷ 3 ∷ 1 ∷ 5 ∷ 0 ∷ 1 ∷ 15 ∷ 0 ∷ 0 ∷ 1 ∷ []

-- the rows of [1]
abbrev one : List ℕ
one = 6 ∷ 2 ∷ 0 ∷ 3 ∷ 1 ∷ 1 ∷ 0 ∷ 1 ∷ 3 ∷ 0 ∷ 0 ∷ 1 ∷ []

unfoldable pub cases : List Case
unfolding ascii times nested
cases =
    -- "P1 `{"a":5}`, P2 `{"b":null,"a":5}`, P3 `{"\u0061":5}`: the same rows."
    case table_t (ascii "{\"a\":5}") (stored five [] (ascii "{\"a\":5}"))
    ∷ case table_t (ascii "{\"b\":null,\"a\":5}") (stored five [] (ascii "{\"a\":5}"))
    ∷ case table_t (ascii "{\"\\u0061\":5}") (stored five [] (ascii "{\"a\":5}"))
    -- "P4 `{"b":true}`: 10 at 0. P5 `{"a":1,"a":1}`: 9 at 7. P6 `{"a":null}`: 5 at 5. P7 `{"a":5.0}`: 6 at 5."
    ∷ case table_t (ascii "{\"b\":true}") (refusal 10 0 0)
    ∷ case table_t (ascii "{\"a\":1,\"a\":1}") (refusal 9 7 0)
    ∷ case table_t (ascii "{\"a\":null}") (refusal 5 5 0)
    ∷ case table_t (ascii "{\"a\":5.0}") (refusal 6 5 0)
    -- "P8 `{"a":-0}`: written as `{"a":0}`."
    ∷ case table_t (ascii "{\"a\":-0}") (stored (6 ∷ 1 ∷ 0 ∷ 3 ∷ 1 ∷ 0 ∷ 0 ∷ 1 ∷ 15 ∷ 0 ∷ 0 ∷ 1 ∷ []) [] (ascii "{\"a\":0}"))
    -- "P9 `[1]` and `[1,null]` alike, written `[1]`"
    ∷ case table_a (ascii "[1]") (stored one [] (ascii "[1]"))
    ∷ case table_a (ascii "[1,null]") (stored one [] (ascii "[1]"))
    -- "P10 `[1,null,null]`: 10 at 8; `[1,2]`: 5 at 3."
    ∷ case table_a (ascii "[1,null,null]") (refusal 10 8 0)
    ∷ case table_a (ascii "[1,2]") (refusal 5 3 0)
    -- "P11 `"blue"` is 11 at 0 if extensible, else 7 at 0."
    ∷ case (table_e 2) (ascii "\"blue\"") (refusal 11 0 0)
    ∷ case (table_e 0) (ascii "\"blue\"") (refusal 7 0 0)
    -- "INTEGER: P12 9223372036854775807 is read, 9223372036854775808 is 6 at 0, -9223372036854775808 is read."
    ∷ case (table1 1) (ascii "9223372036854775807") (stored (1 ∷ 0xFFFFFFFF ∷ 0x7FFFFFFF ∷ 1 ∷ []) [] (ascii "9223372036854775807"))
    ∷ case (table1 1) (ascii "9223372036854775808") (refusal 6 0 0)
    ∷ case (table1 1) (ascii "-9223372036854775808") (stored (1 ∷ 0 ∷ 0x80000000 ∷ 1 ∷ []) [] (ascii "-9223372036854775808"))
    -- "`01`: 3 at 1. Empty text: 3 at 0."
    ∷ case (table1 1) (ascii "01") (refusal 3 1 0)
    ∷ case (table1 1) [] (refusal 3 0 0)
    -- "UTF8String `"\uDC00"`: 3 at 4."
    ∷ case (table1 5) (ascii "\"\\uDC00\"") (refusal 3 4 0)
    -- "OCTET STRING `"0aFF"` is read and written `"0AFF"`; `"0"`: 7 at 0."
    ∷ case (table1 4) (ascii "\"0aFF\"") (stored (4 ∷ 0 ∷ 2 ∷ 1 ∷ []) (0x0A ∷ 0xFF ∷ []) (ascii "\"0AFF\""))
    ∷ case (table1 4) (ascii "\"0\"") (refusal 7 0 0)
    -- "SEQUENCE OF itself: 32 opening and 32 closing brackets give 32 rows; 33: 4 at 32."
    ∷ case (table1 7) (times 32 0x5B (times 32 0x5D [])) (stored (nested 32) [] (times 32 0x5B (times 32 0x5D [])))
    ∷ case (table1 7) (times 33 0x5B (times 33 0x5D [])) (refusal 4 32 0)
    -- the worked example of `jerread`: "Line three, for `{"b":null,"x":[],"a":5}`: 7B2262223A6E756C6C2C2278223A5B5D2C2261223A357D."
    ∷ case table_t (ascii "{\"b\":null,\"x\":[],\"a\":5}") (stored five [] (ascii "{\"a\":5}"))
    ∷ []

abbrev given : Case → Outcome
given c = outcome c.table c.text

abbrev expected : Case → Outcome
expected c = c.gives

-- every sample gives what document 01 says
pub samples : map given cases ≡ map expected cases
unfolding cases outcome
samples = refl
