-- A text of a value is a text of it at any other place, and where more brackets may be open.
use Prim.Native.Nat.{ℕ, suc, ◌+◌}
use mathlib.Core.Path.{◌≡◌, refl}
use mathlib.Core.List.{List}
use native.Mathlib.Omega.{arith}
use Rattle.json_text.specs.Bytes.{past}
use Rattle.json_text.specs.Tree.{Json, Items, Members}
use Rattle.json_text.specs.Grammar.{Value, literal_null, literal_true, literal_false, whole, real, string, no_elements, elements, no_members, members, Padded, padded, Elements, last_element, more_elements, Named, last_member, more_members, Name, name}
use Rattle.jer.specs.Moved as moved
use Rattle.jer.specs.Moved.{Moved, MovedItems, MovedMembers}

-- a tree that has the text, and that is like the one in hand
pub record Made {T : Type 0} (Spells Like : T → Type 0) : Type 0 where
  pub tree : T
  pub text : Spells tree
  pub like : Like tree

-- the text bs, as it is spelled at p with d brackets
abbrev pub ValueAt : ℕ → ℕ → Json → List ℕ → Type 0
ValueAt d p j bs = Made (λ k. Value d p k bs) (λ k. Moved j k)

abbrev pub PaddedAt : ℕ → ℕ → Json → List ℕ → Type 0
PaddedAt d p j bs = Made (λ k. Padded d p k bs) (λ k. Moved j k)

abbrev pub ElementsAt : ℕ → ℕ → Items → List ℕ → Type 0
ElementsAt d p is bs = Made (λ js. Elements d p js bs) (λ js. MovedItems is js)

abbrev pub NamedAt : ℕ → ℕ → Members → List ℕ → Type 0
NamedAt d p ms bs = Made (λ ns. Named d p ns bs) (λ ns. MovedMembers ms ns)

pub more-brackets : (m d : ℕ) → m + suc d ≡ suc (m + d)
more-brackets m d = omega arith

name-at : {p q r : ℕ} {s bs : List ℕ} → Name p q r s bs → (o : ℕ) → (x : ℕ) × Name o x (past o bs) s bs
name-at (name x e y z f g) o = (_, name x refl y z f refl)

module _ (m : ℕ) where
  mutual
    pub value-at : {d p : ℕ} {j : Json} {bs : List ℕ} → Value d p j bs → (q : ℕ) → ValueAt (m + d) q j bs
    value-at literal_null q = record { tree = _; text = literal_null; like = moved.null }
    value-at literal_true q = record { tree = _; text = literal_true; like = moved.boolean }
    value-at literal_false q = record { tree = _; text = literal_false; like = moved.boolean }
    value-at (whole x) q = record { tree = _; text = whole x; like = moved.number }
    value-at (real x y e) q = record { tree = _; text = real x y e; like = moved.real }
    value-at (string x) q = record { tree = _; text = string x; like = moved.string }
    value-at (no_elements {d = d} x e) q = rw (more-brackets m d) record { tree = _; text = no_elements x e; like = moved.array moved.no_item }
    value-at (elements {d = d} x) q = let y = elements-at x (suc q) in rw (more-brackets m d) record { tree = _; text = elements y.text; like = moved.array y.like }
    value-at (no_members {d = d} x e) q = rw (more-brackets m d) record { tree = _; text = no_members x e; like = moved.object moved.no_member }
    value-at (members {d = d} x) q = let y = named-at x (suc q) in rw (more-brackets m d) record { tree = _; text = members y.text; like = moved.object y.like }

    pub padded-at : {d p : ℕ} {j : Json} {bs : List ℕ} → Padded d p j bs → (q : ℕ) → PaddedAt (m + d) q j bs
    padded-at (padded {xs = xs} x e v z f) q = let y = value-at v (past q xs) in record { tree = _; text = padded x refl y.text z f; like = y.like }

    pub elements-at : {d p : ℕ} {is : Items} {bs : List ℕ} → Elements d p is bs → (q : ℕ) → ElementsAt (m + d) q is bs
    elements-at (last_element v e) q = let y = padded-at v q in record { tree = _; text = last_element y.text e; like = moved.item y.like moved.no_item }
    elements-at (more_elements {xs = xs} v f x e) q =
        let y = padded-at v q in
        let z = elements-at x (suc (past q xs)) in
        record { tree = _; text = more_elements y.text refl z.text e; like = moved.item y.like z.like }

    pub named-at : {d p : ℕ} {ms : Members} {bs : List ℕ} → Named d p ms bs → (q : ℕ) → NamedAt (m + d) q ms bs
    named-at (last_member {xs = xs} n v e) q =
        let o = name-at n q in
        let y = padded-at v (past q xs) in
        record { tree = _; text = last_member o.1 y.text e; like = moved.member y.like moved.no_member }
    named-at (more_members {xs = xs} {ys = ys} n v f x e) q =
        let o = name-at n q in
        let y = padded-at v (past q xs) in
        let z = named-at x (suc (past (past q xs) ys)) in
        record { tree = _; text = more_members o.1 y.text refl z.text e; like = moved.member y.like z.like }
