-- Texts one after the other with commas between, in brackets or braces, spell an array or an object.
use Prim.Native.Nat.{ℕ, suc}
use mathlib.Core.Path.{◌≡◌, refl, sym, ap, ◌∙◌}
use mathlib.Core.List.{List, [], ◌∷◌, ◌++◌, append-nil, append_assoc}
use mathlib.Core.Bool.{Bool, false}
use native.Mathlib.Omega.{arith}
use borrow.Author.Tests.{ne_eqb}
use Rattle.json_text.specs.Bytes.{past}
use Rattle.json_text.specs.Tree.{Json, jarr, jobj, Items, inil, icons, Members, mnil, mcons}
use Rattle.json_text.specs.Grammar.{no_space, Quoted, quoted, Whole, nought, from, Signed, bare, minus, Value, literal_null, literal_true, literal_false, whole, real, string, no_elements, elements, no_members, members, Padded, padded, Elements, last_element, more_elements, Named, last_member, more_members, Name, name}
use Rattle.json_text.proofs.SoundRows.{past_append}
use Rattle.jer.specs.Table.{same_bytes}
use Rattle.jer.specs.Read.{null?}
use Rattle.jer.specs.Write.{null_text, string_text, joined, brackets, braces, member_text}

pub unpadded : {d p : ℕ} {j : Json} {bs : List ℕ} → Value d p j bs → Padded d p j bs
unfolding past
unpadded {bs = bs} v = padded no_space refl v no_space (sym (append-nil bs))

-- ---- arrays

-- texts of values, from the place p on, each a byte after the one before it
pub data Listed (d : ℕ) : ℕ → Items → List (List ℕ) → Type 0 where
  nothing : {p : ℕ} → Listed d p inil []
  then : {p : ℕ} {j : Json} {is : Items} {x : List ℕ} {xs : List (List ℕ)} → Value d p j x → Listed d (suc (past p x)) is xs → Listed d p (icons j is) (x ∷ xs)

listed-elements : {d p q : ℕ} {j : Json} {is : Items} {x : List ℕ} {xs : List (List ℕ)} → Value d p j x → q ≡ suc (past p x) → Listed d q is xs → Elements d p (icons j is) (joined (x ∷ xs) ++ (0x5D ∷ []))
unfolding joined
listed-elements v e nothing = last_element (unpadded v) refl
listed-elements {x = x} v e (then {p = o} {x = y} {xs = ys} w r) = more_elements (unpadded v) e (listed-elements {p = o} w refl r) (append_assoc x (0x2C ∷ joined (y ∷ ys)) (0x5D ∷ []))

pub array-spelled : {d p : ℕ} {is : Items} {xs : List (List ℕ)} → Listed d (suc p) is xs → Value (suc d) p (jarr p is) (brackets xs)
unfolding brackets joined
array-spelled nothing = no_elements no_space refl
array-spelled (then v r) = elements (listed-elements v refl r)

-- ---- objects

-- texts of members, from the place p on, each a byte after the one before it
pub data Membered (d : ℕ) : ℕ → Members → List (List ℕ) → Type 0 where
  no_more : {p : ℕ} → Membered d p mnil []
  and_then : {p : ℕ} {s : List ℕ} {j : Json} {ms : Members} {x : List ℕ} {xs : List (List ℕ)} → Quoted s (string_text s) → Value d (past p (string_text s ++ (0x3A ∷ []))) j x
      → Membered d (suc (past p (member_text s x))) ms xs → Membered d p (mcons p s j ms) (member_text s x ∷ xs)

named : {p : ℕ} {s : List ℕ} → Quoted s (string_text s) → Name p p (past p (string_text s ++ (0x3A ∷ []))) s (string_text s ++ (0x3A ∷ []))
unfolding past
named q = name no_space refl q no_space refl refl

colon : (s x zs : List ℕ) → member_text s x ++ zs ≡ (string_text s ++ (0x3A ∷ [])) ++ (x ++ zs)
unfolding member_text
colon s x zs = append_assoc (string_text s) (0x3A ∷ x) zs ∙ sym (append_assoc (string_text s) (0x3A ∷ []) (x ++ zs))

past-member : (p : ℕ) (s x : List ℕ) → past p (member_text s x) ≡ past (past p (string_text s ++ (0x3A ∷ []))) x
unfolding member_text
past-member p s x = ap (past p) (sym (append_assoc (string_text s) (0x3A ∷ []) x)) ∙ past_append p (string_text s ++ (0x3A ∷ [])) x

membered-named : {d p q : ℕ} {s : List ℕ} {j : Json} {ms : Members} {x : List ℕ} {xs : List (List ℕ)} → Quoted s (string_text s) → Value d (past p (string_text s ++ (0x3A ∷ []))) j x
    → q ≡ suc (past p (member_text s x)) → Membered d q ms xs → Named d p (mcons p s j ms) (joined (member_text s x ∷ xs) ++ (0x7D ∷ []))
unfolding joined
membered-named {s = s} {x = x} q v e no_more = last_member (named q) (unpadded v) (colon s x (0x7D ∷ []))
membered-named {p = p} {s = s} {x = x} q v e (and_then {p = o} {s = u} {x = y} {xs = ys} r w m) =
    more_members (named q) (unpadded v) (e ∙ ap suc (past-member p s x)) (membered-named {p = o} r w refl m)
    (append_assoc (member_text s x) (0x2C ∷ joined (member_text u y ∷ ys)) (0x7D ∷ []) ∙ colon s x _)

pub object-spelled : {d p : ℕ} {ms : Members} {xs : List (List ℕ)} → Membered d (suc p) ms xs → Value (suc d) p (jobj p ms) (braces xs)
unfolding braces joined
object-spelled no_more = no_members no_space refl
object-spelled (and_then q v r) = members (membered-named q v refl r)

-- ---- null

-- a text is `null` if and only if its tree is
first-differs : (b : ℕ) (bs : List ℕ) → (b ≡ 0x6E → ⊥) → same_bytes (b ∷ bs) null_text ≡ false
unfolding same_bytes null_text
first-differs b bs h = rw (ne_eqb b 0x6E h, same_bytes)

whole-not-null : {n : ℕ} {bs : List ℕ} (cs : List ℕ) → Whole n bs → same_bytes (bs ++ cs) null_text ≡ false
whole-not-null cs nought = first-differs _ _ (λ e. omega arith)
whole-not-null cs (from i o) = first-differs _ _ (λ e. omega arith)

signed-not-null : {m : Bool} {n : ℕ} {bs : List ℕ} (cs : List ℕ) → Signed m n bs → same_bytes (bs ++ cs) null_text ≡ false
signed-not-null cs (bare w) = whole-not-null cs w
signed-not-null cs (minus w) = first-differs _ _ (λ e. omega arith)

string-not-null : {s bs : List ℕ} → Quoted s bs → same_bytes bs null_text ≡ false
string-not-null (quoted k e) = first-differs _ _ (λ e. omega arith)

pub null-text : {d p : ℕ} {j : Json} {bs : List ℕ} → Value d p j bs → same_bytes bs null_text ≡ null? j
unfolding same_bytes null_text null?
null-text literal_null = refl
null-text literal_true = refl
null-text literal_false = refl
null-text (whole {bs = bs} w) = rw append-nil at (signed-not-null [] w)
null-text (real {cs = cs} w b e) = rw e (signed-not-null cs w)
null-text (string q) = string-not-null q
null-text (no_elements z e) = refl
null-text (elements e) = refl
null-text (no_members z e) = refl
null-text (members e) = refl
