use Rattle.std.proofs.Common.{sym, ◌∙◌}
use Rattle.dc_core.proofs.Blocks.{block_statements}
use Rattle.dc_core.proofs.parts.body.Goals as goal

pub returns-in-Block : goal.returns-in-Block
returns-in-Block c = rw c.in-Some.is (block_statements c.in-Some.block c.in-Block.statements c.as_slice.result.now (sym c.get.ensures ∙ c.in-Block.is) c.as_slice.ensures)
