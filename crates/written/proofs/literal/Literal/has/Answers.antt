use borrow.Author.Tests.{leb-true}
use borrow.Author.Rules.{rules}
use Rattle.written.proofs.literal.Literal.has.Goals as goal

pub returns : goal.returns
returns c =
    let a = c.args in
    rw c.from.ensures (λ e. a.self.now.right a.b a.least (search rules) c.requires (leb-true _ _ e))
