use Prim.Native.Nat.{◌+◌, ◌-◌, ◌*◌}
use Rattle.quick.proofs.PourLaws.{ItemsLoop, PartsLoop}
use Rattle.quick.proofs.emit.+emit_items_parts.Given as goal

abbrev pub decreases-emit : goal.decreases-emit
decreases-emit l = (1048577 - l.top) * 2 + 1

abbrev pub decreases-items : goal.decreases-items
decreases-items l = (1048577 - l.from) * 2 + 2

abbrev pub decreases-parts : goal.decreases-parts
decreases-parts l = (1048577 - l.from) * 2 + 2

abbrev pub invariant-items-loop-at : goal.invariant-items-loop-at
invariant-items-loop-at l = ItemsLoop l.types l.s l.tape l.initial.rows l.rows l.initial.pool l.pool l.row l.from l.end l.slot l.offset l.at l.q l.o

abbrev pub decreases-items-loop-at : goal.decreases-items-loop-at
decreases-items-loop-at l = l.end - l.at

abbrev pub invariant-parts-loop-k : goal.invariant-parts-loop-k
invariant-parts-loop-k l = PartsLoop l.types l.s l.tape l.initial.rows l.rows l.initial.pool l.pool l.row l.from l.slot l.offset l.k l.q l.o
