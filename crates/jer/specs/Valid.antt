-- Which type tables are good, and the row that is blamed.
use Rattle.std.specs.Prelude.{ℕ, zero, suc, ◌+◌, ◌*◌, ◌/◌, ◌%◌, [], ◌∷◌, Bool, true, false, ◌&&◌, ◌||◌, not, eqb, ltb, leb, length}
use Rattle.std.specs.Prelude.{Option, None, Some}
use Rattle.json_text.specs.Bytes.{on, pick}
use Rattle.json_text.specs.Utf8.{utf8}
use Rattle.jer.specs.declared.Layout.{Layout}
use Rattle.jer.specs.declared.Layout.TheVariants.{Bare, Holds, Lists, Names, Unknown}
use Rattle.jer.specs.Table.{Table, row_count, field, ENUMERATED, SEQUENCE, CHOICE, MEMBER, carries, tag_of, kind_of, is_type, marks_of, extensible, is_array, is_unwrapped, first_of, element_of, count_of, root_of, member_row, optional, type_in, type_at, name_start, name_length, name_in, name_at, may_miss, first_where, same_bytes, same_token, token_of, null_taken}

-- does every one of n numbers from i on pass the test?
unfoldable pub every : (ℕ → Bool) → ℕ → ℕ → Bool
every f i zero = true
every f i (suc n) = elim (f i) [ true ↦ every f (suc i) n | false ↦ false ]

unfoldable pub implies : Bool → Bool → Bool
implies true b = b
implies false b = true

-- ---- each row by itself

-- 01, Type table: "Unused fields are 0." n fields from i on
unfoldable pub unused : Table → ℕ → ℕ → ℕ → Bool
unused t r i n = every (λ k. eqb (field t r k) 0) i n

-- Field 3: "SEQUENCE 0 to 64, ENUMERATED and CHOICE 1 to 64." Field 4: "equal to field 3 if not extensible, at least 1 in kinds 2 and 8."
-- 01, What the library handles: "64 members to a type"
unfoldable pub good_block : Table → ℕ → ℕ → Bool
good_block t r least =
    leb least (count_of t r) && (leb (count_of t r) 64 && (leb (first_of t r + count_of t r) (row_count t)
    && (leb least (root_of t r) && (leb (root_of t r) (count_of t r) && (extensible t r || eqb (root_of t r) (count_of t r))))))

-- 01, Type table: "1 to 128 bytes of UTF-8"
unfoldable pub good_name : Table → ℕ → Bool
good_name t r = leb 1 (name_length t r) && (leb (name_length t r) 128 && (leb (name_start t r + name_length t r) (length t.names) && utf8 (name_in t r)))

-- every mark in field 1 is one that the kind may carry: mark 1 is what is left over by 2, mark 2 the other half
unfoldable pub good_marks : Table → ℕ → Bool
good_marks t r = leb (marks_of t r % 2) ((carries (tag_of t r)).marks % 2) && leb (marks_of t r / 2) ((carries (tag_of t r)).marks / 2)

unfoldable pub good_fields : Layout → Table → ℕ → Bool
good_fields Bare t r = unused t r 2 6
-- "A SEQUENCE of 0 has 0 in field 2."
good_fields (Holds least) t r = unused t r 5 3 && (good_block t r least && implies (eqb (count_of t r) 0) (eqb (first_of t r) 0))
good_fields Lists t r = unused t r 3 5 && ltb (element_of t r) (row_count t)
-- a member row is not row 0
good_fields Names t r = unused t r 5 3 && (not (eqb r 0) && (ltb (type_in t r) (row_count t) && good_name t r))
good_fields Unknown t r = false

-- 01, Refusal numbers: "each by itself (row 0 is a type)"; a kind or a mark that is none of 01's is bad:
-- 01, What the library handles: "Not in the base: any other type, DEFAULT, version brackets."
unfoldable pub good_alone : Table → ℕ → Bool
good_alone t r = good_marks t r && good_fields (carries (tag_of t r)).layout t r

-- ---- by the kinds of the rows it points to

-- the rows that the type at r counts as its own are member rows
abbrev pub owns_members : Table → ℕ → Bool
owns_members t r = every (λ i. eqb (tag_of t (member_row t r i)) MEMBER) 0 (count_of t r)

unfoldable pub good_links : Layout → Table → ℕ → Bool
good_links Bare t r = true
good_links (Holds least) t r = owns_members t r
good_links Lists t r = is_type t (element_of t r)
good_links Names t r = is_type t (type_in t r)
good_links Unknown t r = true

-- 01, Refusal numbers: "by the kinds of the rows it points to"
unfoldable pub good_pointers : Table → ℕ → Bool
good_pointers t r = good_links (carries (tag_of t r)).layout t r

-- ---- each type by its other rules

-- every member differs, by the test, from each one before it
unfoldable pub all_differ : (ℕ → ℕ → Bool) → ℕ → Bool
all_differ same n = every (λ j. every (λ i. not (same i j)) 0 j) 0 n

-- 01, Type table: "Also required: names within one type differ."
unfoldable pub names_differ : Table → ℕ → Bool
names_differ t r = all_differ (λ i j. same_bytes (name_at t r i) (name_at t r j)) (count_of t r)

-- OPTIONAL is for members of a SEQUENCE: "(SEQUENCE only)"
unfoldable pub none_optional : Table → ℕ → Bool
none_optional t r = every (λ i. not (optional t r i)) 0 (count_of t r)

-- "In an ARRAY sequence, no OPTIONAL member and no addition has a type that can be null (..) or is an extensible UNWRAPPED choice (X.697 14.2)."
unfoldable pub good_array : Table → ℕ → Bool
good_array t r = every (λ i. not (may_miss t r i && null_taken t (type_at t r i))) 0 (count_of t r)

-- "An UNWRAPPED choice has no UNWRAPPED alternative (house) and at most one alternative for each of null, boolean, number, string,
-- array, object (19.2.2; for object, house)."
unfoldable pub good_unwrapped : Table → ℕ → Bool
good_unwrapped t r =
    every (λ i. not (is_unwrapped t (type_at t r i))) 0 (count_of t r)
    && all_differ (λ i j. same_token (token_of t (type_at t r i)) (token_of t (type_at t r j))) (count_of t r)

-- 01, Refusal numbers: "each type by its other rules"
unfoldable pub good_rules : Table → ℕ → Bool
good_rules t r =
    pick (kind_of t r)
    -- 01, Type table: "(0 for an enumeration item)"
    (on ENUMERATED ENUMERATED (λ k. names_differ t r && (none_optional t r && every (λ i. eqb (type_at t r i) 0) 0 (count_of t r)))
    ∷ on SEQUENCE SEQUENCE (λ k. names_differ t r && implies (is_array t r) (good_array t r))
    ∷ on CHOICE CHOICE (λ k. names_differ t r && (none_optional t r && implies (is_unwrapped t r) (good_unwrapped t r)))
    ∷ [])
    true

-- ---- the table

-- 01, What the library handles: "House sizes: 4,096 table rows, 65,536 bytes of names"
-- 01, Refusal numbers, 1: "0 if the table is empty, has a broken row or over 4,096, or names are too long"
unfoldable pub good_sizes : Table → Bool
good_sizes t = leb 1 (length t.rows) && (eqb (length t.rows % 8) 0 && (leb (length t.rows) (4096 * 8) && leb (length t.names) 65536))

unfoldable pub or_else : Option ℕ → Option ℕ → Option ℕ
or_else None y = y
or_else (Some x) y = Some x

-- the first row that fails the test
unfoldable pub pass : Table → (ℕ → Bool) → Option ℕ
pass t good = first_where (λ r. not (good r)) 0 (row_count t)

-- 01, Refusal numbers, 1: "first bad row"; 01, Refusal numbers: "For 1, rows are checked upwards three times"
unfoldable pub first_bad : Table → Option ℕ
first_bad t =
    elim (good_sizes t) [
      | false ↦ Some 0
      | true ↦ or_else (pass t (good_alone t)) (or_else (pass t (good_pointers t)) (pass t (good_rules t)))
    ]
