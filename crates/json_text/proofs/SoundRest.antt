-- What the rest of a text must be, for each state of the machine, in the words of the grammar.
use Prim.Native.Nat.{ℕ, suc, pred}
use mathlib.Core.Path.{◌≡◌, refl, sym, ap, ◌∙◌}
use mathlib.Core.List.{List, [], ◌∷◌, ◌++◌, append_assoc}
use Rattle.json_text.specs.Bytes.{past}
use Rattle.json_text.specs.Tree.{Json, jstr, jarr, jobj, Items, inil, icons, Members, mnil, mcons}
use Rattle.json_text.specs.Grammar.{Space, Value, Padded, padded, Elements, last_element, more_elements, Named, last_member, more_members, Name}
use Rattle.json_text.specs.Machine.{Mid, in_arr, in_obj, Stack, base, ◌▹◌, room, Role, as_name, as_value, State, s_val, s_elem, s_after, s_name0, s_name, s_colon, s_str, s_num, s_lit}
use Rattle.json_text.proofs.TakesTree.{iapp, mapp}
use Rattle.json_text.proofs.SoundRows.{past_append, behind, grouped}
use Rattle.json_text.proofs.SoundString.{CharsFrom}
use Rattle.json_text.proofs.SoundNumber.{NumFrom}

-- ---- parts of the grammar from the inside

-- after an element, up to the closing bracket, with the elements that follow
pub data ItemsTail (d p : ℕ) : Items → List ℕ → Type 0 where
  items_end : {xs bs : List ℕ} → Space xs → bs ≡ xs ++ (0x5D ∷ []) → ItemsTail d p inil bs
  items_more : {q : ℕ} {is : Items} {xs ys bs : List ℕ} → Space xs → q ≡ suc (past p xs) → Elements d q is ys → bs ≡ xs ++ (0x2C ∷ ys) → ItemsTail d p is bs

-- after a member's value, up to the closing bracket, with the members that follow
pub data MembersTail (d p : ℕ) : Members → List ℕ → Type 0 where
  members_end : {xs bs : List ℕ} → Space xs → bs ≡ xs ++ (0x7D ∷ []) → MembersTail d p mnil bs
  members_more : {q : ℕ} {ms : Members} {xs ys bs : List ℕ} → Space xs → q ≡ suc (past p xs) → Named d q ms ys → bs ≡ xs ++ (0x2C ∷ ys) → MembersTail d p ms bs

-- a value with white space before it
pub data Led (d p : ℕ) (j : Json) (bs : List ℕ) : Type 0 where
  led : {q : ℕ} {xs ys : List ℕ} → Space xs → q ≡ past p xs → Value d q j ys → bs ≡ xs ++ ys → Led d p j bs

-- the elements of the array at o that follow the elements is
pub data NextItems (d p o : ℕ) (is : Items) (j : Json) (bs : List ℕ) : Type 0 where
  next_items : {js : Items} → Elements d p js bs → j ≡ jarr o (iapp is js) → NextItems d p o is j bs

-- the members of the object at o that follow the members ms
pub data NextMembers (d p o : ℕ) (ms : Members) (j : Json) (bs : List ℕ) : Type 0 where
  next_members : {ns : Members} → Named d p ns bs → j ≡ jobj o (mapp ms ns) → NextMembers d p o ms j bs

-- all of the array at o after its opening bracket
pub data InArray (d p o : ℕ) (j : Json) (bs : List ℕ) : Type 0 where
  no_items : {xs : List ℕ} → Space xs → bs ≡ xs ++ (0x5D ∷ []) → j ≡ jarr o inil → InArray d p o j bs
  some_items : NextItems d p o inil j bs → InArray d p o j bs

-- all of the object at o after its opening bracket
pub data InObject (d p o : ℕ) (j : Json) (bs : List ℕ) : Type 0 where
  no_names : {xs : List ℕ} → Space xs → bs ≡ xs ++ (0x7D ∷ []) → j ≡ jobj o mnil → InObject d p o j bs
  some_names : NextMembers d p o mnil j bs → InObject d p o j bs

-- after the name s at q and its colon the bytes ys make, with the name, the members ns
abbrev pub Valued : ℕ → ℕ → ℕ → List ℕ → Members → List ℕ → Type 0
Valued d r q s ns ys = (p : ℕ) (xs : List ℕ) → Name p q r s xs → Named d p ns (xs ++ ys)

-- the object at o after its members ms and the name s at q with its colon
pub data AfterColon (d r o : ℕ) (ms : Members) (q : ℕ) (s : List ℕ) (j : Json) (bs : List ℕ) : Type 0 where
  after_colon : {ns : Members} → Valued d r q s ns bs → j ≡ jobj o (mapp ms ns) → AfterColon d r o ms q s j bs

-- the object at o after its members ms and the name s at q
pub data Colon (d p o : ℕ) (ms : Members) (q : ℕ) (s : List ℕ) (j : Json) (bs : List ℕ) : Type 0 where
  colon : {xs ys : List ℕ} → Space xs → AfterColon d (suc (past p xs)) o ms q s j ys → bs ≡ xs ++ (0x3A ∷ ys) → Colon d p o ms q s j bs

-- after the closing quotation mark of the string s at q
abbrev pub Closing : ℕ → Role → ℕ → ℕ → List ℕ → Json → List ℕ → Type 0
Closing d (as_name o ms) p q s j bs = Colon d p o ms q s j bs
Closing d as_value p q s j bs = (j ≡ jstr q s) × (bs ≡ [])

-- inside the string at q that has the bytes s so far
pub data InString (d : ℕ) (m : Mid) (r : Role) (p q : ℕ) (s : List ℕ) (j : Json) (bs : List ℕ) : Type 0 where
  in_string : (t ys : List ℕ) {xs : List ℕ} → CharsFrom m t xs → Closing d r (suc (past p xs)) q (s ++ t) j ys → bs ≡ xs ++ (0x22 ∷ ys) → InString d m r p q s j bs

-- ---- the rest of the text

-- what follows the value j in the open brackets k, in a text whose tree is `top`
pub data After (top : Json) : ℕ → Json → Stack → List ℕ → Type 0 where
  at_base : {p d : ℕ} {j : Json} {xs : List ℕ} → Space xs → j ≡ top → After top p j (base d) xs
  at_array : {p o : ℕ} {j : Json} {is js : Items} {k : Stack} {xs ys bs : List ℕ} → ItemsTail (pred (room k)) p js xs → After top (past p xs) (jarr o (iapp is (icons j js))) k ys → bs ≡ xs ++ ys
      → After top p j (in_arr o is ▹ k) bs
  at_object : {p o q : ℕ} {j : Json} {ms ns : Members} {s : List ℕ} {k : Stack} {xs ys bs : List ℕ} → MembersTail (pred (room k)) p ns xs → After top (past p xs) (jobj o (mapp ms (mcons q s j ns))) k ys
      → bs ≡ xs ++ ys → After top p j (in_obj o ms q s ▹ k) bs

-- bytes that P says of a value, and what follows that value
pub data Then (P : Json → List ℕ → Type 0) (top : Json) (p : ℕ) (k : Stack) (bs : List ℕ) : Type 0 where
  then : {j : Json} {xs ys : List ℕ} → P j xs → After top (past p xs) j k ys → bs ≡ xs ++ ys → Then P top p k bs

-- what follows the place p in a text whose tree is `top`, if the machine stands there in this state
abbrev pub Rest : Json → ℕ → State → List ℕ → Type 0
Rest top p (s_val k) bs = Then (Led (room k) p) top p k bs
Rest top p (s_elem o k) bs = Then (InArray (pred (room k)) p o) top p k bs
Rest top p (s_after j k) bs = After top p j k bs
Rest top p (s_name0 o k) bs = Then (InObject (pred (room k)) p o) top p k bs
Rest top p (s_name o ms k) bs = Then (NextMembers (pred (room k)) p o ms) top p k bs
Rest top p (s_colon o ms q s k) bs = Then (Colon (pred (room k)) p o ms q s) top p k bs
Rest top p (s_str m r q s k) bs = Then (InString (pred (room k)) m r p q s) top p k bs
Rest top p (s_num n q k) bs = Then (NumFrom n q) top p k bs
Rest top p (s_lit c cs j k) bs = Then (λ i xs. (i ≡ j) × (xs ≡ c ∷ cs)) top p k bs

-- ---- laws

pub then-cons : {P Q : Json → List ℕ → Type 0} {top : Json} {p b : ℕ} {k : Stack} {bs : List ℕ} → ((j : Json) (xs : List ℕ) → P j xs → Q j (b ∷ xs)) → Then P top (suc p) k bs → Then Q top p k (b ∷ bs)
unfolding past
then-cons h (then {j = j} {xs = xs} x a e) = then (h j xs x) a (behind e)

pub then_map : {P Q : Json → List ℕ → Type 0} {top : Json} {p : ℕ} {k : Stack} {bs : List ℕ} → ((j : Json) (xs : List ℕ) → P j xs → Q j xs) → Then P top p k bs → Then Q top p k bs
then_map h (then {j = j} {xs = xs} x a e) = then (h j xs x) a e

-- the part that P says of is two parts
then-both : {P : Json → List ℕ → Type 0} {top j : Json} {p : ℕ} {k : Stack} {zs cs bs : List ℕ} (xs ys : List ℕ) → P j (xs ++ ys) → After top (past (past p xs) ys) j k zs → cs ≡ ys ++ zs → bs ≡ xs ++ cs → Then P top p k bs
then-both {zs = zs} xs ys x a e f = then {ys = zs} x (rw past_append a) (f ∙ grouped xs ys zs e)

pub led-padded : {d p : ℕ} {j : Json} {xs zs : List ℕ} → Led d p j xs → Space zs → Padded d p j (xs ++ zs)
led-padded {zs = zs} (led {xs = vs} {ys = ys} s e v h) t = padded s e v t (ap (λ (l : List ℕ). l ++ zs) h ∙ append_assoc vs ys zs)

-- an element with what follows it up to the closing bracket
led-elements : {d p : ℕ} {j : Json} {is : Items} {xs zs : List ℕ} → Led d p j xs → ItemsTail d (past p xs) is zs → Elements d p (icons j is) (xs ++ zs)
led-elements {xs = xs} l (items_end {xs = vs} t g) = last_element (led-padded l t) (grouped xs vs (0x5D ∷ []) g)
led-elements {p = p} {xs = xs} l (items_more {xs = vs} {ys = ws} t f r g) = more_elements (led-padded l t) (f ∙ ap suc (sym (past_append p xs vs))) r (grouped xs vs (0x2C ∷ ws) g)

-- elements that are due, and what follows the array
pub array-closes : {top : Json} {p o : ℕ} {is : Items} {k : Stack} {bs : List ℕ} → Then (Led (pred (room k)) p) top p (in_arr o is ▹ k) bs → Then (NextItems (pred (room k)) p o is) top p k bs
array-closes (then {xs = xs} l (at_array {xs = ys} t a g) f) = then-both xs ys (next_items (led-elements l t) refl) a g f

-- a member's value with what follows it up to the closing bracket
led-members : {d r q : ℕ} {s : List ℕ} {j : Json} {ns : Members} {ys zs : List ℕ} → Led d r j ys → MembersTail d (past r ys) ns zs → Valued d r q s (mcons q s j ns) (ys ++ zs)
led-members {ys = ys} l (members_end {xs = vs} t g) p xs n = last_member n (led-padded l t) (ap (λ (x : List ℕ). xs ++ x) (grouped ys vs (0x7D ∷ []) g))
led-members {r = r} {ys = ys} l (members_more {xs = vs} {ys = ws} t f m g) p xs n =
    more_members n (led-padded l t) (f ∙ ap suc (sym (past_append r ys vs))) m (ap (λ (x : List ℕ). xs ++ x) (grouped ys vs (0x2C ∷ ws) g))

-- a member's value that is due, and what follows the object
pub object-closes : {top : Json} {r o q : ℕ} {ms : Members} {s : List ℕ} {k : Stack} {bs : List ℕ} → Then (Led (pred (room k)) r) top r (in_obj o ms q s ▹ k) bs → Then (AfterColon (pred (room k)) r o ms q s) top r k bs
object-closes (then {xs = xs} l (at_object {xs = ys} t a g) f) = then-both xs ys (after_colon (led-members l t) refl) a g f
