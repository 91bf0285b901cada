use Rattle.dc_core.proofs.Tracked.{exact_runs}
use Rattle.dc_core.proofs.laws.tracked_runs_are_exact.Goals as goal

pub returns : goal.returns
returns c = exact_runs
