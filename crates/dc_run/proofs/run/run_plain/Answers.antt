use Rattle.dc_run.proofs.Runs.{ok_map, report_plain, cut_plain}
use Rattle.dc_run.proofs.run.run_plain.Goals as goal

pub returns-clause-failed : goal.returns-clause-failed
returns-clause-failed g c = λ q says.
    ok_map c.run_program.result (λ r h. h.failed) (report_plain q c.args.steps c.run_program.result _ _ _ _ _ _ _ _ (c.run_program.ensures.report q says))

pub returns-clause-end : goal.returns-clause-end
returns-clause-end g c = λ q says.
    ok_map c.run_program.result (λ r h. h.ends) (report_plain q c.args.steps c.run_program.result _ _ _ _ _ _ _ _ (c.run_program.ensures.report q says))

pub returns-clause-length : goal.returns-clause-length
returns-clause-length g c = λ q says.
    ok_map c.run_program.result (λ r h. h.taken) (report_plain q c.args.steps c.run_program.result _ _ _ _ _ _ _ _ (c.run_program.ensures.report q says))

pub returns-clause-counts : goal.returns-clause-counts
returns-clause-counts g c = λ q says.
    ok_map c.run_program.result (λ r h. h.counts) (report_plain q c.args.steps c.run_program.result _ _ _ _ _ _ _ _ (c.run_program.ensures.report q says))

pub returns-clause-whole : goal.returns-clause-whole
returns-clause-whole g c = λ q says.
    ok_map c.run_program.result (λ r h. h.whole) (report_plain q c.args.steps c.run_program.result _ _ _ _ _ _ _ _ (c.run_program.ensures.report q says))

pub returns-clause-used : goal.returns-clause-used
returns-clause-used g c = λ q says.
    ok_map c.run_program.result (λ r h. h.used) (report_plain q c.args.steps c.run_program.result _ _ _ _ _ _ _ _ (c.run_program.ensures.report q says))

pub returns-clause-given : goal.returns-clause-given
returns-clause-given g c = λ q says.
    ok_map c.run_program.result (λ r h. h.given) (report_plain q c.args.steps c.run_program.result _ _ _ _ _ _ _ _ (c.run_program.ensures.report q says))

pub returns-clause-dry : goal.returns-clause-dry
returns-clause-dry g c = λ q says.
    ok_map c.run_program.result (λ r h. h.dry) (report_plain q c.args.steps c.run_program.result _ _ _ _ _ _ _ _ (c.run_program.ensures.report q says))

pub returns-clause-ended : goal.returns-clause-ended
returns-clause-ended g c = λ q says.
    ok_map c.run_program.result (λ r h. h.ended) (report_plain q c.args.steps c.run_program.result _ _ _ _ _ _ _ _ (c.run_program.ensures.report q says))

pub returns-clause-heard : goal.returns-clause-heard
returns-clause-heard g c = λ q says.
    ok_map c.run_program.result (λ r h. h.heard) (report_plain q c.args.steps c.run_program.result _ _ _ _ _ _ _ _ (c.run_program.ensures.report q says))

pub returns-clause-refused : goal.returns-clause-refused
returns-clause-refused g c = λ q says. cut_plain q c.args.steps c.run_program.result _ _ _ _ (c.run_program.ensures.refused q says)
