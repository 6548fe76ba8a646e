-- A value with white space around it that ends at the text's end is the text.
use Prim.Native.Nat.{ℕ, ◌≤◌}
use mathlib.Core.Path.{◌≡◌, ◌∙◌}
use mathlib.Core.List.{List, append-nil}
use native.Mathlib.Nat.{le_refl}
use Rattle.std.specs.Prelude.{Some}
use native.Mathlib.Omega.{arith}
use borrow.Author.Tests.{le-leb}
use lib.ListN.{length, drop_of_length-le}
use Rattle.json_text.specs.Tree.{Json}
use Rattle.json_text.specs.Grammar.{Text}
use Rattle.json_text.specs.Machine.{parse}
use Rattle.json_text.proofs.Takes.{takes_text}
use Rattle.jer.specs.Table.{Table}
use Rattle.jer.specs.Value.{Val}
use Rattle.jer.specs.Answer.{ok, bind}
use Rattle.jer.specs.Read.{read_whole}
use Rattle.jer.specs.Calls.{good_text, tree_of}
use Rattle.quick.specs.declared.Got.{Got}
use Rattle.quick.specs.Stood.{Spaces, Stood}
use Rattle.quick.specs.Taken.{Walked, Whole}
use Rattle.quick.proofs.ListLaws.{Item, item-padded}

parsed : (s : List ℕ) (j : Json) → length s ≤ 65536 → Text 32 j s → good_text s ≡ ok j
unfolding good_text tree_of parse
parsed s j l x = rw (le-leb (length s) 65536 l, good_text, takes_text 32 j s x)

item-text : (t : Table) (s : List ℕ) (b : ℕ) (v : Val) → (k : Item t s 32 0 0 b v) → b ≡ length s → Text 32 k.tree s
item-text t s b v k h =
    let e : s ≡ k.bytes = k.text ∙ rw (h, drop_of_length-le s (le_refl (length s))) (append-nil k.bytes) in
    rw (← e) at k.value

text-read : (t : Table) (s : List ℕ) (p q b : ℕ) (v : Val) → length s ≤ 65536 → Spaces s 0 p → Stood t s 32 0 p q v → Spaces s q b → b ≡ length s → bind (good_text s) (λ j. read_whole t j) ≡ ok v
unfolding bind read_whole
text-read t s p q b v l x k y h =
    let i = item-padded t s 32 0 0 p q b v x k y in
    rw (parsed s i.tree l (item-text t s b v i h), bind) i.reads

pub text-taken : {t : Table} {s z₀ z : List ℕ} {p c : ℕ} {g : Got} → length s ≤ 65536 → Spaces s 0 p → Walked t s z₀ z 32 0 p 0 (Some g) → Spaces s g.next c → c ≡ length s → Whole t s z g
text-taken {t} {s} {z₀} {z} {p} {c} {g} l x w y h =
    let k = w.taken in
    record { value = k.value; reads = text-read t s p g.next c k.value l x k.stood y h; stands = k.stands; inside = k.inside; rows = k.rows; pool = k.pool; words = omega (arith, k.words, k.inside); few = omega (arith, k.few, k.placed) }
