-- What a tape stands for. A value without parts has two words: those of its row. Any other has a header of three words, and then its parts.
-- A SEQUENCE has, before its parts, a link for each member: 0, or where the member's value stands.
use Rattle.std.specs.Prelude.{ℕ, suc, ◌+◌, ◌*◌, ◌/◌, ◌%◌, ◌^◌, ◌≤◌, ◌<◌, ◌≡◌, List, [], true, false, length, get_or, set, take, drop}
use Rattle.std.specs.Prelude.{Some}
use Rattle.json_text.specs.Grammar.{Quoted}
use Rattle.jer.specs.Table.{Table, kind_of, is_base64, element_of, count_of, type_at, NULL, OCTET-STRING, UTF8String, SEQUENCE, SEQUENCE-OF, CHOICE}
use Rattle.jer.specs.Value.{Leaf, l_bytes, Val, v_leaf, v_seq, v_list, v_choice, Vals, vnil, vcons, count_vals, Parts, pnil, absent, present, count_present}
use Rattle.jer.specs.Octets.{unhex, unbase64}
use Rattle.jer.specs.Read.{octets_of}
use Rattle.jer.specs.Rows.{row, leaf_row, leaf_pool, rows_of, item_rows, part_rows}
use Rattle.tokens.specs.Strings.{denoted}
use Rattle.spelled.specs.Stretch.{Stretch}

-- the two tapes agree from j up to k
pub record Alike (z y : List ℕ) (j k : ℕ) : Type 0 where
  pub same : (i : ℕ) → j ≤ i → i < k → get_or y i 0 ≡ get_or z i 0

-- the tape z with a header from j on
abbrev pub headed : List ℕ → ℕ → ℕ → ℕ → ℕ → List ℕ
headed z j a n k = set (set (set z j a) (j + 1) n) (j + 2) k

-- at the place a of the text stands a string that denotes x; b is the length of x, with 2^31 more where something in it is escaped
pub record Text (s : List ℕ) (a b : ℕ) (x : List ℕ) : Type 0 where
  pub end : ℕ
  pub quoted : Stretch (Quoted x) s a end
  pub size : b % 2 ^ 31 ≡ length x
  pub plain : b < 2 ^ 31 → x ≡ take b (drop (a + 1) s)

-- the words a and b of a leaf of the type at r: the numbers of its row, or where its string stands
pub data Words (s : List ℕ) (t : Table) (r : ℕ) : Leaf → ℕ → ℕ → Type 0 where
  in_row : {l : Leaf} {a b : ℕ} → kind_of t r ≤ NULL → leaf_pool l ≡ [] → ((o : ℕ) → leaf_row l (kind_of t r) o ≡ row (kind_of t r) a b 1) → Words s t r l a b
  in_text : {x : List ℕ} {a b : ℕ} → kind_of t r ≡ UTF8String → Text s a b x → Words s t r (l_bytes x) a b
  -- b octets in hexadecimal, after the quotation mark at a
  in_hex : {x : List ℕ} {a b : ℕ} → kind_of t r ≡ OCTET-STRING → is_base64 t r ≡ false → unhex (take (b * 2) (drop (a + 1) s)) ≡ Some x → b ≡ length x → a + 1 + b * 2 ≤ length s → Words s t r (l_bytes x) a b
  -- in Base64: 65536 times the number of characters, and the number of octets
  in_base64 : {x : List ℕ} {a b : ℕ} → kind_of t r ≡ OCTET-STRING → is_base64 t r ≡ true → unbase64 (take (b / 65536) (drop (a + 1) s)) ≡ Some x → b % 65536 ≡ length x → a + 1 + b / 65536 ≤ length s → b < 2 ^ 31
      → Words s t r (l_bytes x) a b
  -- escaped: the number of octets, and 2^31 more
  in_escaped : {x : List ℕ} {a b : ℕ} → kind_of t r ≡ OCTET-STRING → octets_of t r (denoted s (a + 1)) ≡ Some x → b ≡ length x + 2 ^ 31 → a ≤ 65536 → Words s t r (l_bytes x) a b

-- at j stands a header: the number that the row has, how many rows there are with the n of the parts, and where the parts end
pub record Header (z : List ℕ) (j a n k : ℕ) : Type 0 where
  pub number : get_or z j 0 ≡ a
  pub rows : get_or z (j + 1) 0 ≡ suc n
  pub end : get_or z (j + 2) 0 ≡ k

mutual
  -- from j up to k the tape z stands for the value of the type at r, whose strings stand in the text s
  pub data Stands (s z : List ℕ) (t : Table) : ℕ → Val → ℕ → ℕ → Type 0 where
    a_leaf : {r j k : ℕ} {l : Leaf} → Words s t r l (get_or z j 0) (get_or z (j + 1) 0) → k ≡ j + 2 → Stands s z t r (v_leaf l) j k
    a_list : {r j k : ℕ} {vs : Vals} → kind_of t r ≡ SEQUENCE-OF → Header z j (count_vals vs) (length (item_rows vs t (element_of t r) 0)) k → Listed s z t (element_of t r) vs (j + 3) k
        → Stands s z t r (v_list vs) j k
    a_sequence : {r j k : ℕ} {ps : Parts} → kind_of t r ≡ SEQUENCE → Header z j (count_present ps) (length (part_rows ps t r 0 0)) k → j + length (part_rows ps t r 0 0) + 2 ≤ k
        → Linked s z t r (j + 3) k 0 ps → Stands s z t r (v_seq ps) j k
    a_choice : {r i j k : ℕ} {v : Val} → kind_of t r ≡ CHOICE → Header z j i (length (rows_of v t (type_at t r i) 0)) k → Stands s z t (type_at t r i) v (j + 3) k → Stands s z t r (v_choice i v) j k

  -- from j up to k stand the items of the type at r
  pub data Listed (s z : List ℕ) (t : Table) : ℕ → Vals → ℕ → ℕ → Type 0 where
    no_item : {r j k : ℕ} → k ≡ j → Listed s z t r vnil j k
    item : {r j k l : ℕ} {v : Val} {vs : Vals} → Stands s z t r v j k → Listed s z t r vs k l → Listed s z t r (vcons v vs) j l

  -- from b on stands a link for each member from the position i on: 0, or where its value stands, past the links and before k
  pub data Linked (s z : List ℕ) (t : Table) : ℕ → ℕ → ℕ → ℕ → Parts → Type 0 where
    no_link : {r b k i : ℕ} → i ≡ count_of t r → b + count_of t r ≤ k → Linked s z t r b k i pnil
    no_value : {r b k i : ℕ} {ps : Parts} → i < count_of t r → get_or z (b + i) 0 ≡ 0 → Linked s z t r b k (suc i) ps → Linked s z t r b k i (absent ps)
    a_value : {r b k i w l : ℕ} {v : Val} {ps : Parts} → i < count_of t r → get_or z (b + i) 0 ≡ w → b + count_of t r ≤ w → l ≤ k → Stands s z t (type_at t r i) v w l
        → Linked s z t r b k (suc i) ps → Linked s z t r b k i (present v ps)
