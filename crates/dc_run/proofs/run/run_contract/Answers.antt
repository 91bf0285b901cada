use Rattle.dc_run.proofs.Runs.{ok_map}
use Rattle.dc_run.proofs.run.run_contract.Goals as goal

pub returns-clause-failed : goal.returns-clause-failed
returns-clause-failed g c = λ q says. ok_map c.run_program.result (λ r h. h.failed) (c.run_program.ensures.report q says)

pub returns-clause-end : goal.returns-clause-end
returns-clause-end g c = λ q says. ok_map c.run_program.result (λ r h. h.ends) (c.run_program.ensures.report q says)

pub returns-clause-length : goal.returns-clause-length
returns-clause-length g c = λ q says. ok_map c.run_program.result (λ r h. h.taken) (c.run_program.ensures.report q says)

pub returns-clause-counts : goal.returns-clause-counts
returns-clause-counts g c = λ q says. ok_map c.run_program.result (λ r h. h.counts) (c.run_program.ensures.report q says)

pub returns-clause-whole : goal.returns-clause-whole
returns-clause-whole g c = λ q says. ok_map c.run_program.result (λ r h. h.whole) (c.run_program.ensures.report q says)

pub returns-clause-used : goal.returns-clause-used
returns-clause-used g c = λ q says. ok_map c.run_program.result (λ r h. h.used) (c.run_program.ensures.report q says)

pub returns-clause-given : goal.returns-clause-given
returns-clause-given g c = λ q says. ok_map c.run_program.result (λ r h. h.given) (c.run_program.ensures.report q says)

pub returns-clause-dry : goal.returns-clause-dry
returns-clause-dry g c = λ q says. ok_map c.run_program.result (λ r h. h.dry) (c.run_program.ensures.report q says)

pub returns-clause-ended : goal.returns-clause-ended
returns-clause-ended g c = λ q says. ok_map c.run_program.result (λ r h. h.ended) (c.run_program.ensures.report q says)

pub returns-clause-heard : goal.returns-clause-heard
returns-clause-heard g c = λ q says. ok_map c.run_program.result (λ r h. h.heard) (c.run_program.ensures.report q says)
