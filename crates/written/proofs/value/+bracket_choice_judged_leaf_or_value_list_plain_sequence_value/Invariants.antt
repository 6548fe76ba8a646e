use Prim.Native.Nat.{◌+◌, ◌*◌}
use mathlib.Core.Path.{◌≡◌}
use lib.ListN.{length}
use Rattle.jer.specs.Table.{element_of, count_of, first_of, table}
use Rattle.jer.specs.Judge.{rows_in}
use Rattle.written.specs.Rows.{value_row}
use Rattle.written.proofs.ListLaws.{Items}
use Rattle.written.proofs.SequenceLaws.{Members}
use Rattle.written.proofs.value.+bracket_choice_judged_leaf_or_value_list_plain_sequence_value.Given as goal

abbrev pub decreases-bracket : goal.decreases-bracket
decreases-bracket l = l.depth * 5 + 0

abbrev pub decreases-choice : goal.decreases-choice
decreases-choice l = l.depth * 5 + 4

abbrev pub decreases-judged : goal.decreases-judged
decreases-judged l = l.depth * 5 + 3

abbrev pub decreases-leaf_or_value : goal.decreases-leaf_or_value
decreases-leaf_or_value l = l.depth * 5 + 3

abbrev pub decreases-list : goal.decreases-list
decreases-list l = l.depth * 5 + 4

abbrev pub decreases-plain : goal.decreases-plain
decreases-plain l = l.depth * 5 + 1

abbrev pub decreases-sequence : goal.decreases-sequence
decreases-sequence l = l.depth * 5 + 4

abbrev pub decreases-value : goal.decreases-value
decreases-value l = l.depth * 5 + 2

abbrev pub invariant-list-loop-i : goal.invariant-list-loop-i
invariant-list-loop-i l = (l.e ≡ element_of (table l.tables.types.now l.tables.names.now) l.row) × (length l.text ≡ length l.initial.text) × Items l.depth (table l.tables.types.now l.tables.names.now) l.tables.pool.now (rows_in l.tables.values.now) (value_row l.w) l.row l.slot l.offset l.initial.took.end l.initial.text l.text l.i l.took.next l.took.used l.took.end

abbrev pub invariant-sequence-loop-i : goal.invariant-sequence-loop-i
invariant-sequence-loop-i l = (l.first ≡ first_of (table l.tables.types.now l.tables.names.now) l.row) × (l.count ≡ count_of (table l.tables.types.now l.tables.names.now) l.row) × (length l.text ≡ length l.initial.text) × Members l.depth (table l.tables.types.now l.tables.names.now) l.tables.pool.now (rows_in l.tables.values.now) (value_row l.w) l.row l.slot l.offset l.initial.took.end l.array l.initial.text l.text l.i l.present l.kept l.took.next l.took.used l.took.end
