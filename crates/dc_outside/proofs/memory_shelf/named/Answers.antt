use Rattle.std.proofs.Common.{arith}
use Rattle.std.proofs.lemmas.Grind.{common_steps}
use Rattle.std.proofs.lemmas.Option.{slice_get-map, slice_get-get_or}
use Rattle.dc_outside.proofs.memory_shelf.named.Goals as goal

pub returns : goal.returns
returns c = let a = c.index-names-word.is in let b = c.first_file.ensures in let d = slice_get-map (λ name. name.items) c.args.names.now c.args.word in let e = slice_get-get_or c.args.names.now c.args.word c.index-names-word.result c.requires in grind (arith, common_steps, d, e)
