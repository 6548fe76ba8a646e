-- Elements and members of a tree put end to end.
use Prim.Native.Nat.{ℕ}
use mathlib.Core.Path.{◌≡◌, refl, ap}
use mathlib.Core.List.{List}
use Rattle.json_text.specs.Tree.{Json, Items, inil, icons, isnoc, Members, mnil, mcons, msnoc}

unfoldable pub iapp : Items → Items → Items
iapp inil js = js
iapp (icons i is) js = icons i (iapp is js)

pub iapp_snoc : (is : Items) (j : Json) (js : Items) → iapp (isnoc is j) js ≡ iapp is (icons j js)
unfolding iapp isnoc
iapp_snoc inil j js = refl
iapp_snoc (icons i is) j js = ap (icons i) (iapp_snoc is j js)

pub iapp-last : (is : Items) (j : Json) → isnoc is j ≡ iapp is (icons j inil)
unfolding iapp isnoc
iapp-last inil j = refl
iapp-last (icons i is) j = ap (icons i) (iapp-last is j)

unfoldable pub mapp : Members → Members → Members
mapp mnil ns = ns
mapp (mcons q s j ms) ns = mcons q s j (mapp ms ns)

pub mapp_snoc : (ms : Members) (q : ℕ) (s : List ℕ) (j : Json) (ns : Members) → mapp (msnoc ms q s j) ns ≡ mapp ms (mcons q s j ns)
unfolding mapp msnoc
mapp_snoc mnil q s j ns = refl
mapp_snoc (mcons p u i ms) q s j ns = ap (mcons p u i) (mapp_snoc ms q s j ns)

pub mapp-last : (ms : Members) (q : ℕ) (s : List ℕ) (j : Json) → msnoc ms q s j ≡ mapp ms (mcons q s j mnil)
unfolding mapp msnoc
mapp-last mnil q s j = refl
mapp-last (mcons p u i ms) q s j = ap (mcons p u i) (mapp-last ms q s j)
