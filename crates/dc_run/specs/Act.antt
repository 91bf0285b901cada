-- What a statement does, as plain data.
use Rattle.dc_core.specs.First.{no_act}
use Rattle.dc_core.specs.Program as plain
use Rattle.dc_core.specs.View.{expr_view}
use Rattle.dc_run.specs.declared.act.Act.{Act}
use Rattle.dc_run.specs.declared.act.Act.TheVariants as act

abbrev pub act_seen : Act → plain.Stmt
act_seen (act.Assign site target e) = plain.Assign site (expr_view target.now) (expr_view e.now)
act_seen (act.Return e) = plain.Return (expr_view e.now)
act_seen act.Nothing = no_act
