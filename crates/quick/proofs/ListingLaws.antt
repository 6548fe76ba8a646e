-- SEQUENCE OF: a list that grows by an item, and its end.
use Prim.Native.Nat.{ℕ, suc, ◌+◌, ◌<◌, ◌≤◌}
use mathlib.Core.Path.{◌≡◌, refl, sym, ◌∙◌}
use mathlib.Core.List.{List}
use Rattle.std.specs.Prelude.{Some}
use native.Mathlib.Numerals.{add-one}
use native.Mathlib.Omega.{arith}
use lib.ListN.{length}
use Rattle.jer.specs.Table.{Table, kind_of, element_of, SEQUENCE-OF}
use Rattle.jer.specs.Value.{v_list, Vals, vnil, count_vals}
use Rattle.jer.specs.Rows.{rows_of, item_rows, pool_of, item_pool, above}
use Rattle.tokens.specs.Places.{byte_at}
use Rattle.quick.specs.declared.Got.{Got}
use Rattle.quick.specs.Stood.{Spaces}
use Rattle.quick.specs.Tape.{headed, Alike, a_list, Listed, no_item}
use Rattle.quick.specs.Taken.{Headed, Taken, Walked}
use Rattle.quick.proofs.ListLaws.{vsnoc, count_snoc, rows_snoc, pool_snoc, Item, item-padded, Items-so-far, items-none, items_more, items-last, list-stood, empty-stood}
use Rattle.quick.proofs.TapeLaws.{alike_part, listed-alike, listed_snoc}
use Rattle.quick.proofs.WalkLaws.{alike_same, alike_then, mark-inside, headed-after, header, bracket-closed}

-- after some items: the next is due at `at`, and is noted from `end` on
pub record Listing (t : Table) (s z₀ z : List ℕ) (d r p j at end count n m : ℕ) : Type 0 where
  pub place : ℕ
  pub items : Vals
  pub due : Spaces s place at
  pub so_far : Items-so-far t s d (element_of t r) (p + 1) place items
  pub listed : Listed s z t (element_of t r) items (j + 3) end
  pub counted : count ≡ count_vals items
  pub rows : n ≡ length (item_rows items t (element_of t r) 0)
  pub pool : m ≡ length (item_pool items)
  pub kept : Alike z₀ z 0 j
  pub same : length z ≡ length z₀
  pub start : j + 3 ≤ end
  pub inside : end ≤ length z
  pub words : j + 3 + n ≤ end
  pub each : j + 3 + count ≤ end
  pub ahead : p + 1 ≤ at
  pub few : p + m ≤ at

pub listing_start : (t : Table) (s z : List ℕ) (d r p j at : ℕ) → Spaces s (p + 1) at → p + 1 ≤ at → j + 3 ≤ length z → Listing t s z z d r p j at (j + 3) 0 0 0
unfolding count_vals rows_of pool_of
listing_start t s z d r p j at h a l =
    record {
      place = p + 1;
      items = vnil;
      due = h;
      so_far = items-none t s d (element_of t r) (p + 1);
      listed = no_item refl;
      counted = refl;
      rows = refl;
      pool = refl;
      kept = alike_same z 0 j;
      same = refl;
      start = omega arith;
      inside = omega arith;
      words = omega arith;
      each = omega arith;
      ahead = a;
      few = omega arith;
    }

list-rows : (vs : Vals) (t : Table) (r : ℕ) → length (rows_of (v_list vs) t r 0) ≡ suc (length (item_rows vs t (element_of t r) 0))
unfolding rows_of above
list-rows vs t r = refl

list-pool : (vs : Vals) → length (pool_of (v_list vs)) ≡ length (item_pool vs)
unfolding pool_of
list-pool vs = refl

pub listing_kept : {t : Table} {s z₀ z y : List ℕ} {d r p j at end count n m : ℕ} → Listing t s z₀ z d r p j at end count n m → Alike z y 0 end → Alike z₀ y 0 j
listing_kept {z₀ = z₀} {z = z} {y = y} {j = j} k f = alike_then z₀ z y 0 j k.kept (alike_part 0 j f (omega arith) (omega (arith, k.start)))

module _ {t : Table} {s z₀ z y : List ℕ} {d r p j at end count n m : ℕ} (k : Listing t s z₀ z d r p j at end count n m) {e : ℕ} (el : e ≡ element_of t r) {g : Got} (w : Walked t s z y d e at end (Some g)) where
  module _ (keep : length y ≡ length z) where
    listing_taken : Taken t s y d (element_of t r) at end g
    listing_taken = rw (← el) w.taken

    -- numbers after the item
    pub listing_bounds : (at < g.next) × (g.next ≤ length s) × (end + g.rows < g.tape) × (g.tape ≤ length z₀) × (at + g.pool ≤ g.next)
    listing_bounds = (listing_taken.ahead, listing_taken.placed, listing_taken.words, omega (arith, listing_taken.inside, k.same), listing_taken.few)

    listing_listed : Listed s y t (element_of t r) (vsnoc k.items listing_taken.value) (j + 3) g.tape
    listing_listed = listed_snoc (listed-alike y k.listed (alike_part (j + 3) end w.kept (omega arith) (omega arith))) listing_taken.stands

    listing_counted : count + 1 ≡ count_vals (vsnoc k.items listing_taken.value)
    listing_counted = omega (arith, count_snoc k.items listing_taken.value, k.counted)

    listing_rows : n + g.rows ≡ length (item_rows (vsnoc k.items listing_taken.value) t (element_of t r) 0)
    listing_rows = omega (arith, rows_snoc k.items listing_taken.value t (element_of t r) 0, k.rows, listing_taken.rows)

    listing_pool : m + g.pool ≡ length (item_pool (vsnoc k.items listing_taken.value))
    listing_pool = omega (arith, pool_snoc k.items listing_taken.value, k.pool, listing_taken.pool)

    module _ {c b : ℕ} (sp : Spaces s g.next c × (g.next ≤ c) × (g.next ≤ length s → c ≤ length s)) (bc : b ≡ byte_at s c) where
      listing_item : Item t s d (element_of t r) k.place c listing_taken.value
      listing_item = item-padded t s d (element_of t r) k.place at g.next c listing_taken.value k.due listing_taken.stood sp.0

      pub listing_more : {at' : ℕ} → b ≡ 0x2C → Spaces s (c + 1) at' × (c + 1 ≤ at') × (c + 1 ≤ length s → at' ≤ length s) → Listing t s z₀ y d r p j at' g.tape (count + 1) (n + g.rows) (m + g.pool)
      listing_more f h =
          let v = listing_bounds in
          let l = sp.1 in
          let l' = h.1 in
          record {
            place = c + 1;
            items = vsnoc k.items listing_taken.value;
            due = h.0;
            so_far = items_more t s d (element_of t r) (p + 1) k.place c k.items listing_taken.value k.so_far listing_item (sym bc ∙ f);
            listed = listing_listed;
            counted = listing_counted;
            rows = listing_rows;
            pool = listing_pool;
            kept = listing_kept k w.kept;
            same = omega (arith, k.same);
            start = omega (arith, k.start);
            inside = listing_taken.inside;
            words = omega (arith, k.words);
            each = omega (arith, k.each);
            ahead = omega (arith, k.ahead);
            few = omega (arith, k.few);
          }

      pub listing_last : {x : List ℕ} {h : Got} {q : ℕ} → kind_of t r ≡ SEQUENCE-OF → q ≡ byte_at s p → q ≡ 0x5B → b ≡ 0x5D → x ≡ headed y j (count + 1) (n + g.rows + 1) g.tape
          → Headed (n + g.rows) (m + g.pool) g.tape (c + 1) h → Walked t s z₀ x (d + 1) r p j (Some h)
      listing_last {x} {h} {q} e qp qe f u hd =
          let v = listing_bounds in
          let l = sp.1 in
          let vs = vsnoc k.items listing_taken.value in
          let i = mark-inside s c b 0x5D bc f (omega arith) in
          bracket-closed t s z₀ y x (d + 1) r p j (count + 1) (n + g.rows) (m + g.pool) g.tape (c + 1) (v_list vs) h (listing_kept k w.kept) (omega (arith, k.start, k.inside)) u hd
          (rw (add-one d) (list-stood t s d r p e (sym qp ∙ qe) (c + 1) vs (items-last t s d (element_of t r) (p + 1) k.place c k.items listing_taken.value k.so_far listing_item (sym bc ∙ f))))
          (let hh = header y j (count + 1) (n + g.rows) g.tape (omega (arith, k.start, k.inside)) in
          a_list e (rw (← listing_counted, ← listing_rows) hh) (listed-alike (headed y j (count + 1) (n + g.rows + 1) g.tape) listing_listed (headed-after y j (count + 1) (n + g.rows + 1) g.tape g.tape)))
          (omega (arith, list-rows vs t r, listing_rows)) (omega (arith, list-pool vs, listing_pool)) (omega (arith, k.ahead)) (omega arith) (omega (arith, k.words)) listing_taken.inside (omega (arith, k.few))

pub list-none : (t : Table) (s z x : List ℕ) (d r p j at b q : ℕ) (h : Got) → kind_of t r ≡ SEQUENCE-OF → j + 3 ≤ length z → q ≡ byte_at s p → q ≡ 0x5B → Spaces s (p + 1) at → p + 1 ≤ at → b ≡ byte_at s at → b ≡ 0x5D
    → x ≡ headed z j 0 1 (j + 3) → Headed 0 0 (j + 3) (at + 1) h → Walked t s z x (d + 1) r p j (Some h)
unfolding count_vals rows_of pool_of above
list-none t s z x d r p j at b q h e l qp qe sp sl bc f u hd =
    let i = mark-inside s at b 0x5D bc f (omega arith) in
    bracket-closed t s z z x (d + 1) r p j 0 0 0 (j + 3) (at + 1) (v_list vnil) h (alike_same z 0 j) l u hd
    (rw (add-one d) (empty-stood t s d r p e (sym qp ∙ qe) at sp (sym bc ∙ f)))
    (a_list e (header z j 0 0 (j + 3) l) (no_item refl))
    refl refl (omega arith) (omega arith) (omega arith) l (omega arith)
