use Rattle.std.proofs.Common.{sym, subst}
use Rattle.dc_core.specs.Run.{contract_run}
use Rattle.dc_core.specs.View.{program_view}
use Rattle.dc_core.proofs.Said.{has_function, program_said}
use Rattle.dc_run.proofs.Runs.{run_parts, run_of_said}
use Rattle.dc_run.proofs.run.run_function.Goals as goal

pub returns-in-None-clause-run : goal.returns-in-None-clause-run
returns-in-None-clause-run g c = λ q says. absurd (has_function q c.args.p.now says c.in-None.ensures.found)

pub returns-in-Some-clause-run : goal.returns-in-Some-clause-run
returns-in-Some-clause-run g c = λ q says. run_of_said (program_view c.args.p.now) q c.args.steps c.run_to_end.result _ _ _ _ (program_said q c.args.p.now says) c.run_to_end.ensures

pub returns-in-Some-clause-parts : goal.returns-in-Some-clause-parts
returns-in-Some-clause-parts g c = run_parts (contract_run (program_view c.args.p.now) c.args.steps) c.run_to_end.result _ _ _ _ c.run_to_end.ensures
