use Prim.Native.Nat.{◌≤◌, ◌+◌, ◌-◌, ◌*◌}
use mathlib.Core.Path.{◌≡◌}
use lib.ListN.{length}
use Rattle.jer.specs.Table.{element_of, count_of, table}
use Rattle.places.specs.ByPlaces.{first_part, read_at, items_at, elements_at, members_at}
use Rattle.typed.proofs.ListLaws.{Near, Loop}
use Rattle.typed.proofs.SequenceLaws.{Elements, InOrder}
use Rattle.typed.proofs.cycle.+array_choice_each_member_list_object_plain_value.Given as goal

abbrev pub decreases-array : goal.decreases-array
decreases-array l = l.depth * 4 + 1

abbrev pub decreases-choice : goal.decreases-choice
decreases-choice l = l.depth * 4 + 1

abbrev pub decreases-each_member : goal.decreases-each_member
decreases-each_member l = l.depth * 4

abbrev pub decreases-list : goal.decreases-list
decreases-list l = l.depth * 4 + 1

abbrev pub decreases-object : goal.decreases-object
decreases-object l = l.depth * 4 + 1

abbrev pub decreases-plain : goal.decreases-plain
decreases-plain l = l.depth * 4 + 2

abbrev pub decreases-value : goal.decreases-value
decreases-value l = l.depth * 4 + 3

abbrev pub invariant-array-loop-k : goal.invariant-array-loop-k
invariant-array-loop-k l = (l.count ≡ count_of (table l.types l.names) l.row) × (l.count ≤ 64) × Near (65539 + l.depth) l.next × Elements (λ q u. read_at (l.depth - 1) (table l.types l.names) l.s q u) (l.depth - 1) (table l.types l.names) l.s l.row l.place (elements_at (λ q u. read_at (l.depth - 1) (table l.types l.names) l.s q u) (l.depth - 1) (table l.types l.names) l.s l.row l.place 0 (count_of (table l.types l.names) l.row) (first_part l.s 0x5D l.place)) l.next l.slot l.offset l.n l.m l.k l.present l.rows l.initial.rows l.pool l.initial.pool

abbrev pub invariant-each_member-loop-k : goal.invariant-each_member-loop-k
invariant-each_member-loop-k l = (l.count ≡ count_of (table l.types l.names) l.row) × (l.count ≤ 64) × InOrder (λ q u. read_at (l.depth - 1) (table l.types l.names) l.s q u) (table l.types l.names) l.s l.row l.place l.found.met l.found.places (members_at (λ q u. read_at (l.depth - 1) (table l.types l.names) l.s q u) (table l.types l.names) l.s l.row l.place l.found.met l.found.places 0 (count_of (table l.types l.names) l.row)) l.slot l.offset l.n l.m l.k l.present l.rows l.initial.rows l.pool l.initial.pool

abbrev pub invariant-list-loop-next : goal.invariant-list-loop-next
invariant-list-loop-next l = (l.t ≡ element_of (table l.types l.names) l.row) × Near (65539 + l.depth) l.next × Loop (λ q. read_at (l.depth - 1) (table l.types l.names) l.s (element_of (table l.types l.names) l.row) q) l.s (table l.types l.names) (element_of (table l.types l.names) l.row) (items_at (λ q. read_at (l.depth - 1) (table l.types l.names) l.s (element_of (table l.types l.names) l.row) q) l.s (length l.s) (first_part l.s 0x5D l.place)) l.next l.slot l.offset l.n l.m l.count l.rows l.initial.rows l.pool l.initial.pool

abbrev pub decreases-list-loop-next : goal.decreases-list-loop-next
decreases-list-loop-next l = length l.s - l.count
