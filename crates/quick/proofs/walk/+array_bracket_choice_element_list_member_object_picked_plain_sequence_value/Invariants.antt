use Prim.Native.Nat.{◌+◌, ◌-◌, ◌*◌}
use Rattle.jer.specs.Table.{table}
use Rattle.quick.proofs.ArrayingLaws.{Arraying}
use Rattle.quick.proofs.ObjectingLaws.{Objecting}
use Rattle.quick.proofs.ListingLaws.{Listing}
use Rattle.quick.proofs.walk.+array_bracket_choice_element_list_member_object_picked_plain_sequence_value.Given as goal

abbrev pub decreases-array : goal.decreases-array
decreases-array l = l.depth * 8 + 7

abbrev pub decreases-bracket : goal.decreases-bracket
decreases-bracket l = l.depth * 8 + 2

abbrev pub decreases-choice : goal.decreases-choice
decreases-choice l = l.depth * 8 + 7

abbrev pub decreases-element : goal.decreases-element
decreases-element l = l.depth * 8 + 6

abbrev pub decreases-list : goal.decreases-list
decreases-list l = l.depth * 8 + 7

abbrev pub decreases-member : goal.decreases-member
decreases-member l = l.depth * 8 + 6

abbrev pub decreases-object : goal.decreases-object
decreases-object l = l.depth * 8 + 7

abbrev pub decreases-picked : goal.decreases-picked
decreases-picked l = l.depth * 8 + 4

abbrev pub decreases-plain : goal.decreases-plain
decreases-plain l = l.depth * 8 + 3

abbrev pub decreases-sequence : goal.decreases-sequence
decreases-sequence l = l.depth * 8 + 8

abbrev pub decreases-value : goal.decreases-value
decreases-value l = l.depth * 8 + 5

abbrev pub invariant-array-loop-g : goal.invariant-array-loop-g
invariant-array-loop-g l = Arraying (table l.source.types.now l.source.names.now) l.source.s.now l.initial.tape l.tape l.depth l.row l.place l.top l.at l.end l.k l.met l.present l.n l.m

abbrev pub decreases-array-loop-g : goal.decreases-array-loop-g
decreases-array-loop-g l = 65537 - l.at

abbrev pub invariant-list-loop-at : goal.invariant-list-loop-at
invariant-list-loop-at l = Listing (table l.source.types.now l.source.names.now) l.source.s.now l.initial.tape l.tape l.depth l.row l.place l.top l.at l.end l.count l.n l.m

abbrev pub decreases-list-loop-at : goal.decreases-list-loop-at
decreases-list-loop-at l = 65537 - l.at

abbrev pub invariant-object-loop-g : goal.invariant-object-loop-g
invariant-object-loop-g l = Objecting (table l.source.types.now l.source.names.now) l.source.s.now l.initial.tape l.tape l.depth l.row l.place l.top l.at l.end l.met l.present l.n l.m

abbrev pub decreases-object-loop-g : goal.decreases-object-loop-g
decreases-object-loop-g l = 65537 - l.at
