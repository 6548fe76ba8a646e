-- Wrapped choices: the one member of an object.
use Prim.Native.Nat.{ℕ, ◌+◌}
use mathlib.Core.Path.{◌≡◌, refl}
use mathlib.Core.List.{List}
use mathlib.Core.Bool.{Bool, true, false}
use Rattle.std.specs.Prelude.{Option, None, Some}
use lib.Dec.{eqb}
use Rattle.json_text.specs.Tree.{Json, Members, mcons}
use Rattle.jer.specs.Table.{Table, is_type, extensible, type_at, position}
use Rattle.jer.specs.Value.{v_choice}
use Rattle.jer.specs.Answer.{bind}
use Rattle.jer.specs.Read.{null?, read, entries, read_chosen, read_choice}
use Rattle.jer.specs.Sane.{Sane}
use Rattle.tokens.specs.Places.{byte_at, past_space}
use Rattle.tokens.specs.Skip.{past_value}
use Rattle.places.specs.ByPlaces.{ending, Reader, Follows, Part, Shut, after_part, value_place, chosen_at, one_at, member_at, choice_at}
use Rattle.places.proofs.MeaningNames.{position-found}
use Rattle.places.proofs.MeaningStands.{Stands, stands-passed, Membered, no_member, member, InObject}
use Rattle.places.proofs.MeaningLists.{Reads, made_ends}

-- where the bracket is shut no comma stands
after-shut : (s : List ℕ) (e q : ℕ) → after_part s e ≡ Shut q → (eqb (byte_at s (past_space s e)) 0x2C ≡ false) × (past_space s e + 1 ≡ q)
unfolding after_part
after-shut s e q h = go' (eqb (byte_at s (past_space s e)) 0x2C) refl
  where
    go' : (b : Bool) → eqb (byte_at s (past_space s e)) 0x2C ≡ b → (b ≡ false) × (past_space s e + 1 ≡ q)
    go' true w = let z = rw (w, after_part) at h in (cc, cc)
    go' false w = let z = rw (w, after_part) at h in (refl, cc)

after_part_lem : (s : List ℕ) (e q : ℕ) → after_part s e ≡ Part q → eqb (byte_at s (past_space s e)) 0x2C ≡ true
unfolding after_part
after_part_lem s e q h = go' (eqb (byte_at s (past_space s e)) 0x2C) refl
  where
    go' : (b : Bool) → eqb (byte_at s (past_space s e)) 0x2C ≡ b → b ≡ true
    go' true w = refl
    go' false w = let z = rw (w, after_part) at h in cc

module _ (t : Table) (s : List ℕ) (d : ℕ) (value : Reader) (reads : Reads t s d value) (r : ℕ) (c : Sane t) (h : is_type t r ≡ true) where
  -- the one member, by its name's position
  chosen-means : {j : Json} {u e : ℕ} (o p : ℕ) (a : List ℕ) → value_place s p ≡ u → Stands d s j u e → (x : Option ℕ) → position t r a ≡ x
      → chosen_at value t s r o p x ≡ ending (past_space s e + 1) (read_chosen t r o (record { place = p; name = a; is_null = null? j; means = λ r. read j t r }) x)
  unfolding chosen_at read_chosen bind ending
  chosen-means {j} {u} {e} o p a v g None w = go' (extensible t r) refl
    where
      go' : (b : Bool) → extensible t r ≡ b
          → chosen_at value t s r o p None ≡ ending (past_space s e + 1) (read_chosen t r o (record { place = p; name = a; is_null = null? j; means = λ r. read j t r }) None)
      go' true y = rw (y, chosen_at, read_chosen)
      go' false y = rw (y, chosen_at, read_chosen)
  chosen-means {j} {u} {e} o p a v g (Some i) w =
      let l = position-found t r a i w in
      rw (v, reads.reads g (type_at t r i) (c.member r i h l.1)) (made_ends e (λ q. past_space s q + 1) (v_choice i) (read j t (type_at t r i)))

  member-means : {q : ℕ} {f : Follows} {ms : Members} (p : ℕ) → Membered d s f ms q → member_at value t s r p (one_at d s f) ≡ ending q (read_choice t r p (entries ms t))
  unfolding one_at member_at read_choice entries bind ending
  member-means p no_member = refl
  member-means {q} p (member {p = n} {u = u} {e = e} {n = a} {j = j} b o v g x k) = go' k x
    where
      passed : past_value d s (value_place s n) ≡ e
      passed = rw (v, stands-passed g)

      go' : {f : Follows} {ms : Members} → Membered d s f ms q → after_part s e ≡ f → member_at value t s r p (one_at d s (Part n)) ≡ ending q (read_choice t r p (entries (mcons n a j ms) t))
      go' no_member y =
          let z = after-shut s e q y in
          rw (passed, z.0, one_at, o, ← z.1) (chosen-means p n a v g (position t r a) refl)
      go' (member {p = i} b' o' v' g' x' k') y = rw (passed, after_part_lem s e i y, one_at)

  pub choice-means : {ms : Members} (p q : ℕ) → InObject d s ms p q → choice_at value d t s r p ≡ ending q (read_choice t r p (entries ms t))
  unfolding choice_at
  choice-means p q k = member-means p k.membered
