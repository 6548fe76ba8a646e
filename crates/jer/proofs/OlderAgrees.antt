-- What an older table makes of what a newer one reads, piece by piece.
use Prim.Native.Nat.{ℕ, zero, suc}
use mathlib.Core.Path.{◌≡◌, refl}
use mathlib.Core.List.{List, [], ◌∷◌}
use mathlib.Core.Bool.{Bool, true, false, ◌||◌}
use Rattle.jer.specs.declared.Cause.TheVariants.{Unknown}
use Rattle.jer.specs.declared.Refusal.{Refusal}
use Rattle.jer.specs.Table.{Table, type_at}
use Rattle.jer.specs.Value.{Val, Parts, pnil, absent, present}
use Rattle.jer.specs.Answer.{Res, ok, no, bind, at, number_of}
use Rattle.jer.specs.Read.{Meaning, Element, Entry, with_absent, with_present}
use Rattle.jer.specs.Cut.{cut, lacks, cut_parts, lacks_parts}
use Rattle.jer.proofs.WeightGot.{got, steps}

-- The older's result, the newer's value cut down, and whether that still holds something that the older lacks.
pub data Agrees {A : Type 0} : Res A → A → Bool → Type 0 where
  reads : {a : A} → Agrees (ok a) a false
  eleven : {e : Refusal} {a : A} → number_of e ≡ 11 → Agrees (no e) a true

-- an item or alternative unknown
pub unknown : {A : Type 0} {a : A} (p : ℕ) → Agrees (at Unknown p) a true
unfolding number_of
unknown p = eleven refl

pub agrees-map : {A B : Type 0} {x : Res A} {a : A} {c : Bool} (f : A → B) → Agrees x a c → Agrees (bind x (λ a. ok (f a))) (f a) c
unfolding bind
agrees-map f reads = reads
agrees-map f (eleven e) = eleven e

pub agrees-both : {A B C : Type 0} {x : Res A} {y : Res B} {a : A} {b : B} {c d : Bool} (f : A → B → C)
    → Agrees x a c → Agrees y b d → Agrees (bind x (λ a. bind y (λ b. ok (f a b)))) (f a b) (c || d)
unfolding bind
agrees-both f reads reads = reads
agrees-both f reads (eleven e) = eleven e
agrees-both f (eleven e) h = eleven e

-- ---- meanings

-- the older's result at its row b for what the newer read as v
abbrev pub AgreesAt : Table → ℕ → Res Val → Val → Type 0
AgreesAt old b x v = Agrees x (cut v old b) (lacks (cut v old b) old b)

-- what the newer table reads by the first meaning, the older one agrees with by the second
abbrev pub Follows : Table → (ℕ → ℕ → Type 0) → Meaning → Meaning → Type 0
Follows old R m n = (a b : ℕ) → R a b → (v : Val) → m a ≡ ok v → AgreesAt old b (n b) v

-- an element of an array, and a member of an object, as the two tables meet them
pub data TwinElement (old : Table) (R : ℕ → ℕ → Type 0) : Element → Element → Type 0 where
  twin_element : {p : ℕ} {z : Bool} {m n : Meaning} → Follows old R m n
      → TwinElement old R record { place = p; is_null = z; means = m } record { place = p; is_null = z; means = n }

pub data TwinEntry (old : Table) (R : ℕ → ℕ → Type 0) : Entry → Entry → Type 0 where
  twin_entry : {p : ℕ} {s : List ℕ} {z : Bool} {m n : Meaning} → Follows old R m n
      → TwinEntry old R record { place = p; name = s; is_null = z; means = m } record { place = p; name = s; is_null = z; means = n }

-- two lists, one by one
pub data Each {A : Type 0} (Q : A → A → Type 0) : List A → List A → Type 0 where
  end : Each Q [] []
  more : {e f : A} {es fs : List A} → Q e f → Each Q es fs → Each Q (e ∷ es) (f ∷ fs)

-- ---- members in table order

-- the same for the members from i on, of which the older has n
abbrev pub PartsAgree : Table → ℕ → ℕ → ℕ → Res Parts → Res Parts → Type 0
PartsAgree old b i n x y = (ps : Parts) → x ≡ ok ps → Agrees y (cut_parts ps old b i n) (lacks_parts (cut_parts ps old b i n) old b i)

module _ (old : Table) (b i : ℕ) where
  pub absent-agrees : (n : ℕ) (x y : Res Parts) → PartsAgree old b (suc i) n x y → PartsAgree old b i (suc n) (with_absent x) (with_absent y)
  unfolding with_absent cut lacks
  absent-agrees n x y h qs e = let k = steps x _ qs e in rw (← got k.then) (agrees-map absent (h k.val k.first))

  pub present-agrees : (n : ℕ) (v w : Res Val) (x y : Res Parts) → ((u : Val) → v ≡ ok u → AgreesAt old (type_at old b i) w u) → PartsAgree old b (suc i) n x y
      → PartsAgree old b i (suc n) (with_present v x) (with_present w y)
  unfolding with_present cut lacks
  present-agrees n v w x y g h qs e =
      let k = steps v _ qs e in
      let l = steps x _ qs k.then in
      rw (← got l.then) (agrees-both present (g k.val k.first) (h l.val l.first))

  -- no member is left to the older
  pub cut-none : (ps : Parts) → cut_parts ps old b i zero ≡ pnil
  unfolding cut
  cut-none pnil = refl
  cut-none (absent ps) = refl
  cut-none (present v ps) = refl

  pub none-agree : (x : Res Parts) → PartsAgree old b i zero x (ok pnil)
  unfolding lacks
  none-agree x ps e = rw (cut-none ps) reads
