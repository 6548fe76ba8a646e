use mathlib.Core.Path.{sym, ◌∙◌}
use borrow.Author.Tests.{not-false}
use Rattle.quick.proofs.MemberLaws.{both_ways}
use Rattle.quick.proofs.member.lacks.Goals as goal

pub returns-then-bit : goal.returns-then-bit
returns-then-bit c = λ ns h e. absurd (both_ways (sym c.bit.ensures ∙ c.if-bit.true) e)

pub returns : goal.returns
returns c = λ ns h e. sym (c.may_miss.ensures ns) ∙ not-false _ h
