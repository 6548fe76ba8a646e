-- Items one after another, with commas between them and white space around, make an array of the grammar; its meaning is the list of theirs.
use Prim.Native.Nat.{ℕ, suc, ◌+◌, ◌<◌}
use mathlib.Core.Path.{◌≡◌, refl, sym, ap, ◌∙◌}
use mathlib.Core.List.{List, [], ◌∷◌, ◌++◌, append_assoc}
use mathlib.Core.Bool.{false}
use native.Mathlib.Numerals.{add-one}
use native.Mathlib.Omega.{arith}
use lib.ListN.{length, drop, length-append}
use lib.Seq.{drop-cons}
use Rattle.json_text.specs.Bytes.{past}
use Rattle.json_text.specs.Tree.{Json, jarr, Items, inil, icons}
use Rattle.json_text.specs.Grammar as grammar
use Rattle.json_text.specs.Grammar.{Value, Padded, padded, Elements, last_element, more_elements, no_elements}
use Rattle.jer.specs.Table.{Table, kind_of, is_unwrapped, element_of, SEQUENCE-OF}
use Rattle.jer.specs.Value.{Val, v_list, Vals, vnil, vcons, count_vals}
use Rattle.jer.specs.Answer.{ok, bind}
use Rattle.jer.specs.Read.{read, read_items, read_array, elements, unwrapping}
use Rattle.jer.specs.Rows.{rows_of, item_rows, pool_of, item_pool}
use Rattle.jer.proofs.WeightMeasure.{rows-length}
use Rattle.tokens.specs.Places.{byte_at}
use Rattle.tokens.proofs.PlaceLaws.{byte_inside, inside}
use Rattle.tokens.proofs.TiePlace.{past_append}
use Rattle.quick.specs.Stood.{Spaces, Stood}

-- ---- lists of values

unfoldable pub vapp : Vals → Vals → Vals
vapp vnil us = us
vapp (vcons v vs) us = vcons v (vapp vs us)

unfoldable pub vsnoc : Vals → Val → Vals
vsnoc vnil v = vcons v vnil
vsnoc (vcons w vs) v = vcons w (vsnoc vs v)

pub vapp_snoc : (vs : Vals) (v : Val) (us : Vals) → vapp (vsnoc vs v) us ≡ vapp vs (vcons v us)
unfolding vapp vsnoc
vapp_snoc vnil v us = refl
vapp_snoc (vcons w vs) v us = ap (vcons w) (vapp_snoc vs v us)

pub vapp-last : (vs : Vals) (v : Val) → vsnoc vs v ≡ vapp vs (vcons v vnil)
unfolding vapp vsnoc
vapp-last vnil v = refl
vapp-last (vcons w vs) v = ap (vcons w) (vapp-last vs v)

pub count_snoc : (vs : Vals) (v : Val) → count_vals (vsnoc vs v) ≡ count_vals vs + 1
unfolding vsnoc count_vals
count_snoc vnil v = refl
count_snoc (vcons w vs) v = omega (arith, count_snoc vs v)

pub cons-rows : (v : Val) (vs : Vals) (t : Table) (r o : ℕ) → length (item_rows (vcons v vs) t r o) ≡ length (rows_of v t r o) + length (item_rows vs t r (o + length (pool_of v)))
unfolding rows_of
cons-rows v vs t r o = simp length-append

pub nil-rows : (t : Table) (r o : ℕ) → length (item_rows vnil t r o) ≡ 0
unfolding rows_of
nil-rows t r o = refl

pub rows-any : (v : Val) (t : Table) (r o : ℕ) → length (rows_of v t r o) ≡ length (rows_of v t r 0)
rows-any v t r o = rows-length v t r o ∙ sym (rows-length v t r 0)

pub rows_snoc : (vs : Vals) (v : Val) (t : Table) (r o : ℕ) → length (item_rows (vsnoc vs v) t r o) ≡ length (item_rows vs t r o) + length (rows_of v t r 0)
unfolding vsnoc
rows_snoc vnil v t r o = omega (arith, cons-rows v vnil t r o, nil-rows t r o, nil-rows t r (o + length (pool_of v)), rows-any v t r o)
rows_snoc (vcons w vs) v t r o = omega (arith, cons-rows w (vsnoc vs v) t r o, cons-rows w vs t r o, rows_snoc vs v t r (o + length (pool_of w)))

pub cons-pool : (v : Val) (vs : Vals) → length (item_pool (vcons v vs)) ≡ length (pool_of v) + length (item_pool vs)
unfolding pool_of
cons-pool v vs = simp length-append

pub nil-pool : length (item_pool vnil) ≡ 0
unfolding pool_of
nil-pool = refl

pub pool_snoc : (vs : Vals) (v : Val) → length (item_pool (vsnoc vs v)) ≡ length (item_pool vs) + length (pool_of v)
unfolding vsnoc
pool_snoc vnil v = omega (arith, cons-pool v vnil, nil-pool)
pool_snoc (vcons w vs) v = omega (arith, cons-pool w (vsnoc vs v), cons-pool w vs, pool_snoc vs v)

-- ---- an item with white space around it

pub byte_drop : (s : List ℕ) (b x : ℕ) → byte_at s b ≡ x → x < 256 → drop b s ≡ x ∷ drop (suc b) s
byte_drop s b x h l = let i = inside s b (λ w. omega arith) in rw (drop-cons s b 0 i, byte_inside s b i, h)

module _ (t : Table) (s : List ℕ) (d e : ℕ) where
  -- from a up to b, where a comma or a bracket stands
  pub record Item (a b : ℕ) (v : Val) : Type 0 where
    pub tree : Json
    pub bytes : List ℕ
    pub value : Padded d a tree bytes
    pub text : drop a s ≡ bytes ++ drop b s
    pub end : past a bytes ≡ b
    pub reads : read tree t e ≡ ok v

  pub item-padded : (a p q b : ℕ) (v : Val) → Spaces s a p → Stood t s d e p q v → Spaces s q b → Item a b v
  item-padded a p q b v x k y =
      record {
        tree = k.tree;
        bytes = x.bytes ++ (k.here.bytes ++ y.bytes);
        value = padded x.holds (sym x.end) k.here.holds y.holds refl;
        text = x.text ∙ rw (k.here.text, y.text, append_assoc, append_assoc);
        end = rw (past_append a x.bytes (k.here.bytes ++ y.bytes), x.end, past_append p k.here.bytes y.bytes, k.here.end) y.end;
        reads = k.reads;
      }

  -- from a on stand the items vs and the closing bracket, after which q follows
  pub record Ends (a q : ℕ) (vs : Vals) : Type 0 where
    pub items : Items
    pub bytes : List ℕ
    pub value : Elements d a items bytes
    pub text : drop a s ≡ bytes ++ drop q s
    pub end : past a bytes ≡ q
    pub reads : read_items (elements items t) e ≡ ok vs

  pub ends_last : (a b : ℕ) (v : Val) → Item a b v → byte_at s b ≡ 0x5D → Ends a (suc b) (vcons v vnil)
  unfolding past elements read_items bind
  ends_last a b v k h =
      record {
        items = icons k.tree inil;
        bytes = k.bytes ++ (0x5D ∷ []);
        value = last_element k.value refl;
        text = k.text ∙ rw (byte_drop s b 0x5D h (omega arith), append_assoc);
        end = past_append a k.bytes (0x5D ∷ []) ∙ rw k.end;
        reads = rw k.reads;
      }

  pub ends_more : (a b q : ℕ) (v : Val) (vs : Vals) → Item a b v → byte_at s b ≡ 0x2C → Ends (suc b) q vs → Ends a q (vcons v vs)
  unfolding past elements read_items bind
  ends_more a b q v vs k h m =
      record {
        items = icons k.tree m.items;
        bytes = k.bytes ++ (0x2C ∷ m.bytes);
        value = more_elements k.value (ap suc (sym k.end)) m.value refl;
        text = k.text ∙ rw (byte_drop s b 0x2C h (omega arith), m.text, append_assoc);
        end = past_append a k.bytes (0x2C ∷ m.bytes) ∙ rw k.end m.end;
        reads = rw (k.reads, m.reads);
      }

  -- from a₀ up to a stand the items vs, each with its comma: what follows them completes them
  pub record Items-so-far (a₀ a : ℕ) (vs : Vals) : Type 0 where
    pub then : (q : ℕ) (us : Vals) → Ends a q us → Ends a₀ q (vapp vs us)

  pub items-none : (a : ℕ) → Items-so-far a a vnil
  unfolding vapp
  items-none a = record { then = λ q us k. k }

  pub items_more : (a₀ a b : ℕ) (vs : Vals) (v : Val) → Items-so-far a₀ a vs → Item a b v → byte_at s b ≡ 0x2C → Items-so-far a₀ (b + 1) (vsnoc vs v)
  items_more a₀ a b vs v k i h = rw (add-one b) (record { then = λ q us m. rw (vapp_snoc vs v us) (k.then q (vcons v us) (ends_more a b q v us i h m)) })

  pub items-last : (a₀ a b : ℕ) (vs : Vals) (v : Val) → Items-so-far a₀ a vs → Item a b v → byte_at s b ≡ 0x5D → Ends a₀ (b + 1) (vsnoc vs v)
  items-last a₀ a b vs v k i h = rw (add-one b, vapp-last vs v) (k.then (suc b) (vcons v vnil) (ends_last a b v i h))

-- ---- the array

not-unwrapped : (t : Table) (r : ℕ) → kind_of t r ≡ SEQUENCE-OF → is_unwrapped t r ≡ false
unfolding is_unwrapped
not-unwrapped t r e = rw e

read-list : (t : Table) (r p : ℕ) (is : Items) (vs : Vals) → kind_of t r ≡ SEQUENCE-OF → read_items (elements is t) (element_of t r) ≡ ok vs → read (jarr p is) t r ≡ ok (v_list vs)
unfolding read unwrapping read_array bind
read-list t r p is vs e h = rw (not-unwrapped t r e, unwrapping) (rw (e, read_array, h))

module _ (t : Table) (s : List ℕ) (d r p : ℕ) (e : kind_of t r ≡ SEQUENCE-OF) (h : byte_at s p ≡ 0x5B) where
  pub list-stood : (q : ℕ) (vs : Vals) → Ends t s d (element_of t r) (p + 1) q vs → Stood t s (suc d) r p q (v_list vs)
  unfolding past
  list-stood q vs k =
      let m : Ends t s d (element_of t r) (suc p) q vs = rw (← add-one p) k in
      record {
        tree = jarr p m.items;
        here = record { bytes = 0x5B ∷ m.bytes; holds = grammar.elements m.value; text = byte_drop s p 0x5B h (omega arith) ∙ rw m.text; end = m.end };
        reads = read-list t r p m.items vs e m.reads;
      }

  pub empty-stood : (q : ℕ) → Spaces s (p + 1) q → byte_at s q ≡ 0x5D → Stood t s (suc d) r p (q + 1) (v_list vnil)
  unfolding past elements read_items
  empty-stood q x' y =
      let x : Spaces s (suc p) q = rw (← add-one p) x' in
      rw (add-one q) (record {
        tree = jarr p inil;
        here = record {
          bytes = 0x5B ∷ x.bytes ++ (0x5D ∷ []);
          holds = no_elements x.holds refl;
          text = byte_drop s p 0x5B h (omega arith) ∙ rw (x.text, byte_drop s q 0x5D y (omega arith), append_assoc);
          end = past_append (suc p) x.bytes (0x5D ∷ []) ∙ rw x.end;
        };
        reads = read-list t r p inil vnil e refl;
      })
