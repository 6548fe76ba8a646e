use mathlib.Core.Path.{ap, ◌∙◌}
use mathlib.Core.List.{List}
use Prim.Native.Nat.{ℕ, ◌-◌}
use lib.ListN.{length, take, drop}
use Rattle.std.specs.Prelude.{Option}
use Rattle.std.specs.Option.{unwrap_or}
use Rattle.jer.specs.Programs.{line_from}
use Rattle.lines.proofs.TakenLaws.{line_place, rest_is}
use Rattle.lines.proofs.taken.line_len.Goals as goal

pub returns : goal.returns
returns c =
    let s = c.args.s.now in
    let at = c.args.at in
    let rest = take (length s - at) (drop at s) in
    c.unwrap_or.ensures ∙ ap (λ (o : Option ℕ). unwrap_or o (length rest)) c.line_feed.ensures ∙ line_place rest ∙ ap (λ (l : List ℕ). length (line_from l).bytes) (rest_is s at)
