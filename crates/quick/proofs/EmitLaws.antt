-- The walk over the tape: what a value of each kind is, once it stands; a leaf, a header and a choice stored.
use Prim.Native.Nat.{ℕ, suc, ◌+◌, ◌-◌, ◌*◌, ◌/◌, ◌%◌, ◌^◌, ◌<◌, ◌≤◌}
use mathlib.Core.Path.{◌≡◌, refl, sym, ap, ◌∙◌}
use mathlib.Core.List.{List, [], ◌∷◌}
use native.Mathlib.Nat.{add-zero}
use native.Mathlib.Numerals.{add-one}
use native.Mathlib.Omega.{arith}
use mathlib.Core.Bool.{Bool, true, false}
use Rattle.std.specs.Prelude.{Option, Some}
use borrow.Author.Tests.{ltb-true, ltb-false}
use lib.Dec.{ltb}
use lib.ListN.{length, get_or, take, drop}
use lib.Seq.{sets}
use Rattle.jer.specs.Table.{Table, table, field, tag_of, kind_of, is_base64, element_of, type_at, UTF8String}
use Rattle.jer.proofs.Forms.{kind_tag}
use Rattle.jer.specs.Value.{Leaf, Val, v_leaf, v_seq, v_list, v_choice, Vals, Parts, count_vals, count_present}
use Rattle.jer.specs.Rows.{numbers, rows_of, item_rows, part_rows, pool_of, item_pool, part_pool, above}
use Rattle.tokens.specs.Strings.{denoted}
use Rattle.slices.proofs.PartLaws.{sets_append}
use Rattle.tokens.proofs.TieString.{quoted-read}
use Rattle.jer.specs.Octets.{unhex, unbase64}
use Rattle.jer.specs.Read.{octets_of}
use Rattle.octets.specs.Decode.{Stored}
use Rattle.spelled.specs.Octets.{OctetsStored}
use Rattle.quick.specs.Tape.{Text, Words, in_row, in_text, in_hex, in_base64, in_escaped, Header, Stands, a_leaf, a_list, a_sequence, a_choice, Listed, Linked}
use Rattle.quick.specs.Emit.{Noted, NotedItems, NotedParts, Stores, Emits, Pours, EmitsParts}
use Rattle.quick.proofs.ListLaws.{rows-any}
use Rattle.quick.proofs.PartLaws.{parts-any}
use Rattle.quick.proofs.TapeLaws.{stands-ahead, listed-ahead, linked-ahead}

-- ---- by the kind

pub words-kind : {s : List ℕ} {t : Table} {r a b : ℕ} {l : Leaf} → Words s t r l a b → kind_of t r < 6
words-kind (in_row e p f) = omega arith
words-kind (in_text e x) = omega arith
words-kind (in_hex e b h n l) = omega arith
words-kind (in_base64 e b h n l m) = omega arith
words-kind (in_escaped e h n ll) = omega arith

pub data ByLeaf (s z : List ℕ) (t : Table) (r j k : ℕ) : Val → Type 0 where
  by_leaf : {l : Leaf} → Words s t r l (get_or z j 0) (get_or z (j + 1) 0) → k ≡ j + 2 → ByLeaf s z t r j k (v_leaf l)

pub by-leaf : {s z : List ℕ} {t : Table} {r j k : ℕ} {v : Val} → Stands s z t r v j k → kind_of t r < 6 → ByLeaf s z t r j k v
by-leaf (a_leaf w f) h = by_leaf w f
by-leaf (a_list e x l) h = absurd (omega arith)
by-leaf (a_sequence e x f l) h = absurd (omega arith)
by-leaf (a_choice e x v) h = absurd (omega arith)

pub data ByList (s z : List ℕ) (t : Table) (r j k : ℕ) : Val → Type 0 where
  by_list : {vs : Vals} → Header z j (count_vals vs) (length (item_rows vs t (element_of t r) 0)) k → Listed s z t (element_of t r) vs (j + 3) k → ByList s z t r j k (v_list vs)

pub by-list : {s z : List ℕ} {t : Table} {r j k : ℕ} {v : Val} → Stands s z t r v j k → kind_of t r ≡ 7 → ByList s z t r j k v
by-list (a_leaf w f) h = let g = words-kind w in absurd (omega arith)
by-list (a_list e x l) h = by_list x l
by-list (a_sequence e x f l) h = absurd (omega arith)
by-list (a_choice e x v) h = absurd (omega arith)

pub data ByParts (s z : List ℕ) (t : Table) (r j k : ℕ) : Val → Type 0 where
  by_parts : {ps : Parts} → Header z j (count_present ps) (length (part_rows ps t r 0 0)) k → Linked s z t r (j + 3) k 0 ps → ByParts s z t r j k (v_seq ps)

pub by_parts_lem : {s z : List ℕ} {t : Table} {r j k : ℕ} {v : Val} → Stands s z t r v j k → kind_of t r ≡ 6 → ByParts s z t r j k v
by_parts_lem (a_leaf w f) h = let g = words-kind w in absurd (omega arith)
by_parts_lem (a_list e x l) h = absurd (omega arith)
by_parts_lem (a_sequence e x f l) h = by_parts x l
by_parts_lem (a_choice e x v) h = absurd (omega arith)

pub data ByChoice (s z : List ℕ) (t : Table) (r j k : ℕ) : Val → Type 0 where
  by_choice : {i : ℕ} {v : Val} → Header z j i (length (rows_of v t (type_at t r i) 0)) k → Stands s z t (type_at t r i) v (j + 3) k → ByChoice s z t r j k (v_choice i v)

pub by-choice : {s z : List ℕ} {t : Table} {r j k : ℕ} {v : Val} → Stands s z t r v j k → 6 ≤ kind_of t r → (kind_of t r ≡ 6 → ⊥) → (kind_of t r ≡ 7 → ⊥) → ByChoice s z t r j k v
by-choice (a_leaf w f) h g i = let o = words-kind w in absurd (omega arith)
by-choice (a_list e x l) h g i = absurd (i e)
by-choice (a_sequence e x f l) h g i = absurd (g e)
by-choice (a_choice e x v) h g i = by_choice x v

-- ---- how many rows

pub leaf-rows : (l : Leaf) (t : Table) (r o : ℕ) → length (rows_of (v_leaf l) t r o) ≡ 1
unfolding rows_of
leaf-rows l t r o = refl

pub list-rows : (vs : Vals) (t : Table) (r o : ℕ) → length (rows_of (v_list vs) t r o) ≡ suc (length (item_rows vs t (element_of t r) o))
unfolding rows_of above
list-rows vs t r o = refl

pub seq_rows : (ps : Parts) (t : Table) (r o : ℕ) → length (rows_of (v_seq ps) t r o) ≡ suc (length (part_rows ps t r 0 o))
unfolding rows_of above
seq_rows ps t r o = refl

pub choice-rows : (v : Val) (t : Table) (r i o : ℕ) → length (rows_of (v_choice i v) t r o) ≡ suc (length (rows_of v t (type_at t r i) o))
unfolding rows_of above
choice-rows v t r i o = refl

pub items-any : (vs : Vals) (t : Table) (r o : ℕ) → length (item_rows vs t (element_of t r) 0) ≡ length (item_rows vs t (element_of t r) o)
items-any vs t r o = omega (arith, list-rows vs t r 0, rows-any (v_list vs) t r o, list-rows vs t r o)

pub some-rows : {s z : List ℕ} {t : Table} {r j k : ℕ} {v : Val} → Stands s z t r v j k → (o : ℕ) → 1 ≤ length (rows_of v t r o)
some-rows {t = t} {r = r} (a_leaf {l = l} w f) o = omega (arith, leaf-rows l t r o)
some-rows {t = t} {r = r} (a_list {vs = vs} e x l) o = omega (arith, list-rows vs t r o)
some-rows {t = t} {r = r} (a_sequence {ps = ps} e x f l) o = omega (arith, seq_rows ps t r o)
some-rows {t = t} {r = r} (a_choice {i = i} {v = v} e x w) o = omega (arith, choice-rows v t r i o)

-- ---- where a node ends

pub three-words : {s z : List ℕ} {t : Table} {r j k : ℕ} {v : Val} → Stands s z t r v j k → 6 ≤ kind_of t r → j + 3 ≤ k
three-words (a_leaf w f) h = let g = words-kind w in absurd (omega arith)
three-words (a_list e x l) h = listed-ahead l
three-words (a_sequence e x f l) h = omega (arith, linked-ahead l)
three-words (a_choice e x v) h = omega (arith, stands-ahead v)

pub node_leaf : {s z : List ℕ} {t : Table} {r j k : ℕ} {v : Val} → kind_of t r < 6 → Stands s z t r v j k → (j + 2 ≡ k) × (1 ≡ length (rows_of v t r 0))
node_leaf {s} {z} {t} {r} {j} {k} {v} h w = go (by-leaf w h)
  where
    go : {u : Val} → ByLeaf s z t r j k u → (j + 2 ≡ k) × (1 ≡ length (rows_of u t r 0))
    go (by_leaf {l = l} x f) = (sym f, sym (leaf-rows l t r 0))

pub node_bracket : {s z : List ℕ} {t : Table} {r j k : ℕ} {v : Val} → 6 ≤ kind_of t r → Stands s z t r v j k → (get_or z (j + 2) 0 ≡ k) × (get_or z (j + 1) 0 ≡ length (rows_of v t r 0))
node_bracket h (a_leaf w f) = let g = words-kind w in absurd (omega arith)
node_bracket {t = t} {r = r} h (a_list {vs = vs} e x l) = (x.end, x.rows ∙ sym (list-rows vs t r 0))
node_bracket {t = t} {r = r} h (a_sequence {ps = ps} e x f l) = (x.end, x.rows ∙ sym (seq_rows ps t r 0))
node_bracket {t = t} {r = r} h (a_choice {i = i} {v = v} e x w) = (x.end, x.rows ∙ sym (choice-rows v t r i 0))

-- ---- a leaf stored

split : {A : Type 0} (a b : ℕ) → (a < b → A) → (b ≤ a → A) → A
split {A} a b f g = go (ltb a b) refl
  where
    go : (c : Bool) → ltb a b ≡ c → A
    go true e = f (ltb-true a b e)
    go false e = g (ltb-false a b e)

pub row-stored : {s z : List ℕ} {t : Table} {r j k : ℕ} {v : Val} (o i : ℕ) (rows rows' pool : List ℕ) {kind : ℕ} → kind ≡ kind_of t r → kind < 4 → rows' ≡ sets rows (i * 4) (kind ∷ get_or z j 0 ∷ get_or z (j + 1) 0 ∷ 1 ∷ [])
    → Stands s z t r v j k → Stores rows rows' pool pool i o o (numbers (rows_of v t r o)) (pool_of v)
unfolding rows_of pool_of numbers
row-stored {s} {z} {t} {r} {j} {k} {v} o i rows rows' pool {kind} e h u w = go (by-leaf w (omega arith))
  where
    word : {l : Leaf} → Words s t r l (get_or z j 0) (get_or z (j + 1) 0) → Stores rows rows' pool pool i o o (numbers (rows_of (v_leaf l) t r o)) (pool_of (v_leaf l))
    word (in_row f p g) = (u ∙ rw (← kind_tag t r, g o, e), rw p, rw p (sym (add-zero o)))
    word (in_text f x) = absurd (omega arith)
    word (in_hex f b d n l) = absurd (omega arith)
    word (in_base64 f b d n l g) = absurd (omega arith)
    word (in_escaped f d n ll) = absurd (omega arith)

    go : {x : Val} → ByLeaf s z t r j k x → Stores rows rows' pool pool i o o (numbers (rows_of x t r o)) (pool_of x)
    go (by_leaf x f) = word x

pub text-stored : {s z : List ℕ} {t : Table} {r j k : ℕ} {v : Val} (o i q : ℕ) (rows rows' pool pool' : List ℕ) → kind_of t r ≡ 5
    → rows' ≡ sets rows (i * 4) (5 ∷ o ∷ get_or z (j + 1) 0 % 2 ^ 31 ∷ 1 ∷ []) → (get_or z (j + 1) 0 < 2 ^ 31 → pool' ≡ sets pool o (take (get_or z (j + 1) 0) (drop (get_or z j 0 + 1) s)))
    → (2 ^ 31 ≤ get_or z (j + 1) 0 → pool' ≡ sets pool o (denoted s (get_or z j 0 + 1))) → q ≡ o + get_or z (j + 1) 0 % 2 ^ 31
    → Stands s z t r v j k → Stores rows rows' pool pool' i o q (numbers (rows_of v t r o)) (pool_of v)
unfolding rows_of pool_of numbers
text-stored {s} {z} {t} {r} {j} {k} {v} o i q rows rows' pool pool' e u f g n w = go (by-leaf w (omega arith))
  where
    bytes : (x : List ℕ) → Text s (get_or z j 0) (get_or z (j + 1) 0) x → pool' ≡ sets pool o x
    bytes x k = split (get_or z (j + 1) 0) (2 ^ 31) (λ l. f l ∙ ap (λ (y : List ℕ). sets pool o y) (sym (k.plain l)))
        (λ l. g l ∙ ap (λ (y : List ℕ). sets pool o y) (ap (λ (y : ℕ). denoted s y) (add-one (get_or z j 0)) ∙ (quoted-read s (get_or z j 0) (drop k.end s) k.quoted.holds k.quoted.text).0))

    word : {l : Leaf} → Words s t r l (get_or z j 0) (get_or z (j + 1) 0) → Stores rows rows' pool pool' i o q (numbers (rows_of (v_leaf l) t r o)) (pool_of (v_leaf l))
    word (in_row c p d) = absurd (omega arith)
    word (in_text {x = x} c y) = (u ∙ rw (← kind_tag t r, e, y.size), bytes x y, n ∙ rw y.size)
    word (in_hex c b d m l) = absurd (omega arith)
    word (in_base64 c b d m l g) = absurd (omega arith)
    word (in_escaped c d m ll) = absurd (omega arith)

    go : {x : Val} → ByLeaf s z t r j k x → Stores rows rows' pool pool' i o q (numbers (rows_of x t r o)) (pool_of x)
    go (by_leaf x c) = word x

-- ---- octets stored

text-octets : (t : Table) (r : ℕ) → kind_of t r ≡ UTF8String → is_base64 t r ≡ false
unfolding is_base64
text-octets t r e = rw e

no_both : {A : Type 0} {b : Bool} → b ≡ true → b ≡ false → A
no_both h e = absurd (let z : ◌≡◌ {A = ℕ} 0 1 = cc in omega arith)

pub hex-stored : {s z : List ℕ} {t : Table} {r j k : ℕ} {v : Val} (o i q : ℕ) (rows rows' pool pool' : List ℕ) → kind_of t r ≡ 4 → is_base64 t r ≡ false → get_or z (j + 1) 0 < 2147483648 → rows' ≡ sets rows (i * 4) (4 ∷ o ∷ get_or z (j + 1) 0 ∷ 1 ∷ [])
    → OctetsStored unhex (take (get_or z (j + 1) 0 * 2) (drop (get_or z j 0 + 1) s)) pool' pool o → q ≡ o + get_or z (j + 1) 0 → Stands s z t r v j k → Stores rows rows' pool pool' i o q (numbers (rows_of v t r o)) (pool_of v)
unfolding rows_of pool_of numbers
hex-stored {s} {z} {t} {r} {j} {k} {v} o i q rows rows' pool pool' e nb lt u f n w = go (by-leaf w (omega arith))
  where
    word : {l : Leaf} → Words s t r l (get_or z j 0) (get_or z (j + 1) 0) → Stores rows rows' pool pool' i o q (numbers (rows_of (v_leaf l) t r o)) (pool_of (v_leaf l))
    word (in_row c p d) = absurd (omega arith)
    word (in_text c y) = absurd (omega arith)
    word (in_hex {x = x} c b d m l) = (u ∙ rw (← kind_tag t r, e, ← m), f x d, n ∙ rw (← m))
    word (in_base64 c b d m l g) = no_both b nb
    word (in_escaped c d m ll) = absurd (omega arith)

    go : {x : Val} → ByLeaf s z t r j k x → Stores rows rows' pool pool' i o q (numbers (rows_of x t r o)) (pool_of x)
    go (by_leaf x c) = word x

pub base64-stored : {s z : List ℕ} {t : Table} {r j k : ℕ} {v : Val} (o i q : ℕ) (rows rows' pool pool' : List ℕ) → is_base64 t r ≡ true → kind_of t r < 6 → get_or z (j + 1) 0 < 2147483648 → rows' ≡ sets rows (i * 4) (4 ∷ o ∷ get_or z (j + 1) 0 % 65536 ∷ 1 ∷ [])
    → OctetsStored unbase64 (take (get_or z (j + 1) 0 / 65536) (drop (get_or z j 0 + 1) s)) pool' pool o → q ≡ o + get_or z (j + 1) 0 % 65536 → 4 ≤ kind_of t r → Stands s z t r v j k → Stores rows rows' pool pool' i o q (numbers (rows_of v t r o)) (pool_of v)
unfolding rows_of pool_of numbers
base64-stored {s} {z} {t} {r} {j} {k} {v} o i q rows rows' pool pool' b6 less lt u f n more w = go (by-leaf w less)
  where
    word : {l : Leaf} → Words s t r l (get_or z j 0) (get_or z (j + 1) 0) → Stores rows rows' pool pool' i o q (numbers (rows_of (v_leaf l) t r o)) (pool_of (v_leaf l))
    word (in_row c p d) = absurd (omega arith)
    word (in_text c y) = no_both b6 (text-octets t r c)
    word (in_hex c b d m l) = no_both b6 b
    word (in_base64 {x = x} c b d m l g) = (u ∙ rw (← kind_tag t r, c, m), f x d, n ∙ rw m)
    word (in_escaped c d m ll) = absurd (omega arith)

    go : {x : Val} → ByLeaf s z t r j k x → Stores rows rows' pool pool' i o q (numbers (rows_of x t r o)) (pool_of x)
    go (by_leaf x c) = word x

pub escaped_emitted : {s z : List ℕ} {t : Table} {r j k : ℕ} {v : Val} (o i q : ℕ) (rows rows' pool pool' : List ℕ) → kind_of t r ≡ 4 → length s ≤ 65536 → 2147483648 ≤ get_or z (j + 1) 0 → rows' ≡ sets rows (i * 4) (4 ∷ o ∷ (get_or z (j + 1) 0 - 2147483648) ∷ 1 ∷ [])
    → Stored pool' pool o (octets_of t r (denoted s (get_or z j 0 + 1))) → q ≡ o + (get_or z (j + 1) 0 - 2147483648) → Stands s z t r v j k → Stores rows rows' pool pool' i o q (numbers (rows_of v t r o)) (pool_of v)
unfolding rows_of pool_of numbers
escaped_emitted {s} {z} {t} {r} {j} {k} {v} o i q rows rows' pool pool' e short ge u f n w = go (by-leaf w (omega arith))
  where
    stored : {x : List ℕ} {y : Option (List ℕ)} → y ≡ Some x → Stored pool' pool o y → pool' ≡ sets pool o x
    stored h k = rw h at k

    word : {l : Leaf} → Words s t r l (get_or z j 0) (get_or z (j + 1) 0) → Stores rows rows' pool pool' i o q (numbers (rows_of (v_leaf l) t r o)) (pool_of (v_leaf l))
    word (in_row c p d) = absurd (omega arith)
    word (in_text c y) = absurd (omega arith)
    word (in_hex c b d m l) = absurd (omega arith)
    word (in_base64 c b d m l g) = absurd (omega arith)
    word (in_escaped {x = x} c d m ll) = let h : get_or z (j + 1) 0 - 2147483648 ≡ length x = omega arith in (u ∙ rw (← kind_tag t r, e, h), stored d f, n ∙ rw h)

    go : {x : Val} → ByLeaf s z t r j k x → Stores rows rows' pool pool' i o q (numbers (rows_of x t r o)) (pool_of x)
    go (by_leaf x c) = word x

pub octets-at : (f : List ℕ → Option (List ℕ)) (s after before : List ℕ) (o : ℕ) {a b x y : ℕ} → y ≡ b → x ≡ a → OctetsStored f (take y (drop (x + 1) s)) after before o → OctetsStored f (take b (drop (a + 1) s)) after before o
octets-at f s after before o e h k = rw (← e, ← h) k

pub hex-at : (f : List ℕ → Option (List ℕ)) (s after before : List ℕ) (o : ℕ) {a b x y : ℕ} → y ≡ b → x ≡ a → OctetsStored f (take (y * 2) (drop (x + 1) s)) after before o → OctetsStored f (take (b * 2) (drop (a + 1) s)) after before o
hex-at f s after before o e h k = rw (← e, ← h) k

-- where they stand, and that there is room for them
pub hex-room : {types s z rows pool : List ℕ} {r j i o : ℕ} (n : Noted types s z rows pool r j i o) → ((ns : List ℕ) → kind_of (table types ns) r ≡ 4) → ((ns : List ℕ) → is_base64 (table types ns) r ≡ false) → get_or z (j + 1) 0 < 2147483648
    → (get_or z j 0 + 1 + get_or z (j + 1) 0 * 2 ≤ length s) × (o + get_or z (j + 1) 0 ≤ length pool)
unfolding pool_of
hex-room {types} {s} {z} {rows} {pool} {r} {j} {i} {o} n e nb lt = go n.room.bytes (by-leaf n.stands (omega (arith, e n.names)))
  where
    word : {l : Leaf} → o + length (pool_of (v_leaf l)) ≤ length pool → Words s (table types n.names) r l (get_or z j 0) (get_or z (j + 1) 0) → (get_or z j 0 + 1 + get_or z (j + 1) 0 * 2 ≤ length s) × (o + get_or z (j + 1) 0 ≤ length pool)
    word h (in_row c p d) = absurd (omega (arith, e n.names))
    word h (in_text c y) = absurd (omega (arith, e n.names))
    word h (in_hex c b d m l) = (l, omega arith)
    word h (in_base64 c b d m l g) = no_both b (nb n.names)
    word h (in_escaped c d m ll) = absurd (omega arith)

    go : {v : Val} → o + length (pool_of v) ≤ length pool → ByLeaf s z (table types n.names) r j n.end v → (get_or z j 0 + 1 + get_or z (j + 1) 0 * 2 ≤ length s) × (o + get_or z (j + 1) 0 ≤ length pool)
    go h (by_leaf x c) = word h x

pub base64-room : {types s z rows pool : List ℕ} {r j i o : ℕ} (n : Noted types s z rows pool r j i o) → ((ns : List ℕ) → is_base64 (table types ns) r ≡ true) → ((ns : List ℕ) → (4 ≤ kind_of (table types ns) r) × (kind_of (table types ns) r < 6)) → get_or z (j + 1) 0 < 2147483648
    → get_or z j 0 + 1 + get_or z (j + 1) 0 / 65536 ≤ length s
base64-room {types} {s} {z} {rows} {pool} {r} {j} {i} {o} n b6 kd lt = go (by-leaf n.stands (kd n.names).1)
  where
    word : {l : Leaf} → Words s (table types n.names) r l (get_or z j 0) (get_or z (j + 1) 0) → get_or z j 0 + 1 + get_or z (j + 1) 0 / 65536 ≤ length s
    word (in_row c p d) = absurd (omega (arith, kd n.names))
    word (in_text c y) = no_both (b6 n.names) (text-octets (table types n.names) r c)
    word (in_hex c b d m l) = no_both (b6 n.names) b
    word (in_base64 c b d m l g) = l
    word (in_escaped c d m ll) = absurd (omega arith)

    go : {v : Val} → ByLeaf s z (table types n.names) r j n.end v → get_or z j 0 + 1 + get_or z (j + 1) 0 / 65536 ≤ length s
    go (by_leaf x c) = word x

-- ---- a bracket: its own row, and what follows it

above-stored : (rows : List ℕ) (i k a n : ℕ) (ns : List ℕ) → sets (sets rows (i * 4) (k ∷ a ∷ 0 ∷ n ∷ [])) ((i + 1) * 4) ns ≡ sets rows (i * 4) (k ∷ a ∷ 0 ∷ n ∷ ns)
above-stored rows i k a n ns =
    let m : (i + 1) * 4 ≡ i * 4 + 4 = omega arith in
    rw m (sym (sets_append rows (i * 4) (k ∷ a ∷ 0 ∷ n ∷ []) ns))

list-numbers : (vs : Vals) (t : Table) (r o : ℕ) → numbers (rows_of (v_list vs) t r o) ≡ kind_of t r ∷ count_vals vs ∷ 0 ∷ suc (length (item_rows vs t (element_of t r) o)) ∷ numbers (item_rows vs t (element_of t r) o)
unfolding rows_of above numbers
list-numbers vs t r o = rw (kind_tag t r)

seq_numbers : (ps : Parts) (t : Table) (r o : ℕ) → numbers (rows_of (v_seq ps) t r o) ≡ kind_of t r ∷ count_present ps ∷ 0 ∷ suc (length (part_rows ps t r 0 o)) ∷ numbers (part_rows ps t r 0 o)
unfolding rows_of above numbers
seq_numbers ps t r o = rw (kind_tag t r)

choice-numbers : (v : Val) (t : Table) (r i o : ℕ) → numbers (rows_of (v_choice i v) t r o) ≡ kind_of t r ∷ i ∷ 0 ∷ suc (length (rows_of v t (type_at t r i) o)) ∷ numbers (rows_of v t (type_at t r i) o)
unfolding rows_of above numbers
choice-numbers v t r i o = rw (kind_tag t r)

list-bytes : (vs : Vals) → pool_of (v_list vs) ≡ item_pool vs
unfolding pool_of
list-bytes vs = refl

seq_bytes : (ps : Parts) → pool_of (v_seq ps) ≡ part_pool ps
unfolding pool_of
seq_bytes ps = refl

choice-bytes : (v : Val) (i : ℕ) → pool_of (v_choice i v) ≡ pool_of v
unfolding pool_of
choice-bytes v i = refl

module _ (types s z rows rows₁ rows₂ pool pool₂ : List ℕ) (r j i o q : ℕ) (kind : ℕ) (ek : (ns : List ℕ) → kind ≡ kind_of (table types ns) r) (u : rows₁ ≡ sets rows (i * 4) (kind ∷ get_or z j 0 ∷ 0 ∷ get_or z (j + 1) 0 ∷ [])) where
  bracket-stored : (t : Table) (v : Val) (a n : ℕ) (ns bs : List ℕ) → kind ≡ kind_of t r → get_or z j 0 ≡ a → get_or z (j + 1) 0 ≡ n → numbers (rows_of v t r o) ≡ kind_of t r ∷ a ∷ 0 ∷ n ∷ ns → pool_of v ≡ bs
      → Stores rows₁ rows₂ pool pool₂ (i + 1) o q ns bs → Stores rows rows₂ pool pool₂ i o q (numbers (rows_of v t r o)) (pool_of v)
  bracket-stored t v a n ns bs e ea en nu pu st =
      (st.0 ∙ ap (λ (x : List ℕ). sets x ((i + 1) * 4) ns) u ∙ above-stored rows i kind (get_or z j 0) (get_or z (j + 1) 0) ns ∙ rw (nu, e, ea, en), st.1 ∙ ap (λ (x : List ℕ). sets pool o x) (sym pu), st.2 ∙ ap (λ (x : List ℕ). o + length x) (sym pu))

  pub list_emitted : kind ≡ 7 → (e end : ℕ) → ((ns : List ℕ) → e ≡ element_of (table types ns) r) → end ≡ get_or z (j + 2) 0 → Pours types s z e (j + 3) end (i + 1) o rows₁ rows₂ pool pool₂ q → Emits types s z r j i o rows rows₂ pool pool₂ q
  list_emitted h e end ee en f ns v k w = go (by-list w (sym (ek ns) ∙ h))
    where
      go : {x : Val} → ByList s z (table types ns) r j k x → Stores rows rows₂ pool pool₂ i o q (numbers (rows_of x (table types ns) r o)) (pool_of x)
      go (by_list {vs = vs} x l) =
          let g = f ns vs (rw (ee ns, en, x.end) l) in
          bracket-stored (table types ns) (v_list vs) (count_vals vs) (suc (length (item_rows vs (table types ns) (element_of (table types ns) r) o))) (numbers (item_rows vs (table types ns) (element_of (table types ns) r) o)) (item_pool vs) (ek ns) x.number
          (x.rows ∙ ap suc (items-any vs (table types ns) r o)) (list-numbers vs (table types ns) r o) (list-bytes vs) (rw (ee ns) at g)

  pub parts_emitted : kind ≡ 6 → EmitsParts types s z r (j + 3) (i + 1) o rows₁ rows₂ pool pool₂ q → Emits types s z r j i o rows rows₂ pool pool₂ q
  parts_emitted h f ns v k w = go (by_parts_lem w (sym (ek ns) ∙ h))
    where
      go : {x : Val} → ByParts s z (table types ns) r j k x → Stores rows rows₂ pool pool₂ i o q (numbers (rows_of x (table types ns) r o)) (pool_of x)
      go (by_parts {ps = ps} x l) =
          bracket-stored (table types ns) (v_seq ps) (count_present ps) (suc (length (part_rows ps (table types ns) r 0 o))) (numbers (part_rows ps (table types ns) r 0 o)) (part_pool ps) (ek ns) x.number
          (x.rows ∙ ap suc (parts-any ps (table types ns) r 0 0 o)) (seq_numbers ps (table types ns) r o) (seq_bytes ps) (f ns ps k l)

  pub choice_emitted : 6 ≤ kind → (kind ≡ 6 → ⊥) → (kind ≡ 7 → ⊥) → (m : ℕ) → ((ns : List ℕ) → m ≡ type_at (table types ns) r (get_or z j 0)) → Emits types s z m (j + 3) (i + 1) o rows₁ rows₂ pool pool₂ q → Emits types s z r j i o rows rows₂ pool pool₂ q
  choice_emitted h h₁ h₂ m em f ns v k w = go (by-choice w (omega (arith, ek ns)) (λ e. h₁ (ek ns ∙ e)) (λ e. h₂ (ek ns ∙ e)))
    where
      go : {x : Val} → ByChoice s z (table types ns) r j k x → Stores rows rows₂ pool pool₂ i o q (numbers (rows_of x (table types ns) r o)) (pool_of x)
      go (by_choice {i = a} {v = y} x st) =
          let e : m ≡ type_at (table types ns) r a = em ns ∙ ap (λ (c : ℕ). type_at (table types ns) r c) x.number in
          let g = f ns y k (rw e st) in
          bracket-stored (table types ns) (v_choice a y) a (suc (length (rows_of y (table types ns) (type_at (table types ns) r a) o))) (numbers (rows_of y (table types ns) (type_at (table types ns) r a) o)) (pool_of y) (ek ns) x.number
          (x.rows ∙ ap suc (sym (rows-any y (table types ns) (type_at (table types ns) r a) o))) (choice-numbers y (table types ns) r a o) (choice-bytes y a) (rw e at g)

-- ---- what the next call is given

pub noted_row : {types s z rows pool : List ℕ} {j i o a b : ℕ} → a ≡ b → Noted types s z rows pool b j i o → Noted types s z rows pool a j i o
noted_row h w = rw h w

pub noted_two : {types s z rows pool : List ℕ} {r j i o : ℕ} → Noted types s z rows pool r j i o → j + 2 ≤ length z
noted_two n = omega (arith, stands-ahead n.stands, n.inside)

pub noted_three : {types s z rows pool : List ℕ} {r j i o : ℕ} → Noted types s z rows pool r j i o → (kind : ℕ) → ((ns : List ℕ) → kind ≡ kind_of (table types ns) r) → 6 ≤ kind → j + 3 ≤ length z
noted_three n kind e h = omega (arith, three-words n.stands (omega (arith, e n.names)), n.inside)

-- whichever table it is
pub noted_nodes : {types s z rows pool : List ℕ} {r j i o : ℕ} → Noted types s z rows pool r j i o → (j + 2 ≤ length z) × ((ns : List ℕ) → 6 ≤ kind_of (table types ns) r → j + 3 ≤ length z)
unfolding kind_of tag_of field
noted_nodes n = (noted_two n, λ ns h. omega (arith, three-words n.stands h, n.inside))

pub noted_slot : {types s z rows pool : List ℕ} {r j i o : ℕ} → Noted types s z rows pool r j i o → i * 4 + 4 ≤ length rows
noted_slot n = omega (arith, some-rows n.stands 0, n.room.slots)

pub noted_bytes : {types s z rows pool : List ℕ} {r j i o : ℕ} → Noted types s z rows pool r j i o → ((ns : List ℕ) → kind_of (table types ns) r ≡ 5) → o + get_or z (j + 1) 0 % 2 ^ 31 ≤ length pool
unfolding pool_of
noted_bytes {types} {s} {z} {rows} {pool} {r} {j} {i} {o} n e = go n.room.bytes (by-leaf n.stands (omega (arith, e n.names)))
  where
    word : {l : Leaf} → o + length (pool_of (v_leaf l)) ≤ length pool → Words s (table types n.names) r l (get_or z j 0) (get_or z (j + 1) 0) → o + get_or z (j + 1) 0 % 2 ^ 31 ≤ length pool
    word m (in_row c p d) = absurd (omega (arith, e n.names))
    word m (in_text c y) = omega (arith, y.size)
    word m (in_hex c b d h l) = absurd (omega (arith, e n.names))
    word m (in_base64 c b d h l g) = absurd (omega (arith, e n.names))
    word m (in_escaped c d h ll) = absurd (omega (arith, e n.names))

    go : {v : Val} → o + length (pool_of v) ≤ length pool → ByLeaf s z (table types n.names) r j n.end v → o + get_or z (j + 1) 0 % 2 ^ 31 ≤ length pool
    go m (by_leaf x c) = word m x

items-row : {types s z rows pool : List ℕ} {p q o a b c d : ℕ} → a ≡ b → c ≡ d → NotedItems types s z rows pool b p d q o → NotedItems types s z rows pool a p c q o
items-row h f w = rw (h, f) w

module _ {types s z rows pool : List ℕ} {r j i o : ℕ} (n : Noted types s z rows pool r j i o) (rows₁ : List ℕ) (kept : length rows₁ ≡ length rows) (kind : ℕ) (ek : (ns : List ℕ) → kind ≡ kind_of (table types ns) r) where
  pub parts-given : kind ≡ 6 → NotedParts types s z rows₁ pool r (j + 3) (i + 1) o
  parts-given h = go n.room.slots n.room.bytes n.room.small (by_parts_lem n.stands (sym (ek n.names) ∙ h))
    where
      go : {v : Val} → i * 4 + length (rows_of v (table types n.names) r 0) * 4 ≤ length rows → o + length (pool_of v) ≤ length pool → o + length (pool_of v) ≤ 65536 → ByParts s z (table types n.names) r j n.end v
          → NotedParts types s z rows₁ pool r (j + 3) (i + 1) o
      go a b c (by_parts {ps = ps} x l) =
          let e = seq_rows ps (table types n.names) r 0 in
          let f = ap (length {A = ℕ}) (seq_bytes ps) in
          record { names = n.names; parts = ps; end = n.end; linked = l; inside = n.inside; room = record { slots = omega (arith, kept); bytes = omega arith; small = omega arith } }

  pub items-given : kind ≡ 7 → (e end : ℕ) → ((ns : List ℕ) → e ≡ element_of (table types ns) r) → end ≡ get_or z (j + 2) 0 → NotedItems types s z rows₁ pool e (j + 3) end (i + 1) o
  items-given h e end ee en = go n.room.slots n.room.bytes n.room.small (by-list n.stands (sym (ek n.names) ∙ h))
    where
      go : {v : Val} → i * 4 + length (rows_of v (table types n.names) r 0) * 4 ≤ length rows → o + length (pool_of v) ≤ length pool → o + length (pool_of v) ≤ 65536 → ByList s z (table types n.names) r j n.end v
          → NotedItems types s z rows₁ pool e (j + 3) end (i + 1) o
      go a b c (by_list {vs = vs} x l) =
          let g = list-rows vs (table types n.names) r 0 in
          let f = ap (length {A = ℕ}) (list-bytes vs) in
          items-row (ee n.names) (en ∙ x.end) (record { names = n.names; items = vs; listed = l; inside = n.inside; room = record { slots = omega (arith, kept); bytes = omega arith; small = omega arith } })

  pub choice-given : 6 ≤ kind → (kind ≡ 6 → ⊥) → (kind ≡ 7 → ⊥) → (m : ℕ) → ((ns : List ℕ) → m ≡ type_at (table types ns) r (get_or z j 0)) → Noted types s z rows₁ pool m (j + 3) (i + 1) o
  choice-given h h₁ h₂ m em = go n.room.slots n.room.bytes n.room.small (by-choice n.stands (omega (arith, ek n.names)) (λ e. h₁ (ek n.names ∙ e)) (λ e. h₂ (ek n.names ∙ e)))
    where
      go : {v : Val} → i * 4 + length (rows_of v (table types n.names) r 0) * 4 ≤ length rows → o + length (pool_of v) ≤ length pool → o + length (pool_of v) ≤ 65536 → ByChoice s z (table types n.names) r j n.end v
          → Noted types s z rows₁ pool m (j + 3) (i + 1) o
      go a b c (by_choice {i = k} {v = y} x st) =
          let g = choice-rows y (table types n.names) r k 0 in
          let f = ap (length {A = ℕ}) (choice-bytes y k) in
          noted_row (em n.names ∙ ap (λ (d : ℕ). type_at (table types n.names) r d) x.number) (record { names = n.names; value = y; end = n.end; stands = st; inside = n.inside; room = record { slots = omega (arith, kept); bytes = omega arith; small = omega arith } })

-- ---- octets with escapes

pub octet-kind : {k n : ℕ} → (4 ≤ k) × (k < 6) → (n ≡ 5 → ⊥) → n ≡ k → k ≡ 4
octet-kind {k} {n} a b c = omega (arith, b)

pub stored-place : (s after before : List ℕ) (o : ℕ) (t : Table) (r : ℕ) {a x : ℕ} → x ≡ a → Stored after before o (octets_of t r (denoted s (x + 1))) → Stored after before o (octets_of t r (denoted s (a + 1)))
stored-place s after before o t r e k = rw (← e) k

-- the string stands inside the text
pub escaped-room : {types s z rows pool : List ℕ} {r j i o : ℕ} (n : Noted types s z rows pool r j i o) → ((ns : List ℕ) → kind_of (table types ns) r ≡ 4) → length s ≤ 65536 → 2147483648 ≤ get_or z (j + 1) 0 → get_or z j 0 ≤ 65536
escaped-room {types} {s} {z} {rows} {pool} {r} {j} {i} {o} n e short ge = go (by-leaf n.stands (omega (arith, e n.names)))
  where
    word : {l : Leaf} → Words s (table types n.names) r l (get_or z j 0) (get_or z (j + 1) 0) → get_or z j 0 ≤ 65536
    word (in_row c p d) = absurd (omega (arith, e n.names))
    word (in_text c y) = absurd (omega (arith, e n.names))
    word (in_hex c b d m l) = absurd (omega arith)
    word (in_base64 c b d m l g) = absurd (omega arith)
    word (in_escaped c d m l) = l

    go : {v : Val} → ByLeaf s z (table types n.names) r j n.end v → get_or z j 0 ≤ 65536
    go (by_leaf x c) = word x
