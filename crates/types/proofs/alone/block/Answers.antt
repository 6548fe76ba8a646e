use Rattle.types.proofs.AloneLaws.{good_block_lem}
use Rattle.types.proofs.alone.block.Goals as goal

pub returns : goal.returns
returns c = λ t r e n. good_block_lem t r c.args.least e c.wide.ensures.0 c.wide-2.ensures.0 n (c.extensible.ensures t r e)
