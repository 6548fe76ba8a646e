use mathlib.Core.Path.{sym, ◌∙◌}
use native.Mathlib.Omega.{arith}
use Rattle.tokens.proofs.StringLaws.{bare-inside, denoted-close}
use Rattle.octets.proofs.DigitLaws.{char-bare, char-wide, escape_ascii, escape-wide}
use Rattle.octets.proofs.decode.next_char.Goals as goal

pub overflow_add-result : goal.overflow_add-result
overflow_add-result c = omega (arith, bare-inside _ _ (sym c.in-Bare.is ∙ c.piece_at.ensures.value), c.requires)

pub returns-in-Close : goal.returns-in-Close
returns-in-Close c = denoted-close _ _ (sym c.in-Close.is ∙ c.piece_at.ensures.value)

pub returns-then-b-lt128 : goal.returns-then-b-lt128
returns-then-b-lt128 c = char-bare (sym c.in-Bare.is ∙ c.piece_at.ensures.value) c.if-b-lt128.true

pub returns-else-b-lt128 : goal.returns-else-b-lt128
returns-else-b-lt128 c = char-wide (sym c.in-Bare.is ∙ c.piece_at.ensures.value) c.if-b-lt128.false

pub returns-then-x-lt128 : goal.returns-then-x-lt128
returns-then-x-lt128 c = escape_ascii (sym c.in-Escaped.is ∙ c.piece_at.ensures.value) c.if-x-lt128.true

pub returns-else-x-lt128 : goal.returns-else-x-lt128
returns-else-x-lt128 c = escape-wide (sym c.in-Escaped.is ∙ c.piece_at.ensures.value) c.if-x-lt128.false
