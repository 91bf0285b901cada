use Rattle.std.proofs.Common.{sym, subst, rules}
use Rattle.dc_goto.specs.Reading.{read_kind}
use Rattle.dc_goto.proofs.Expressions.{kind_reads}
use Rattle.dc_scan.proofs.Many.{Goes, goes_more, goes_none, goes_last}
use Rattle.dc_scan.proofs.signatures.read_params.Goals as goal

pub returns-in_err-kind-clause-none : goal.returns-in_err-kind-clause-none
returns-in_err-kind-clause-none c =
    λ e. goes_none c.args.cursor.now c.each.kinds c.each.cursor c.each.invariant (sym c.each-test.ensures) (c.in_err-kind.ensures.none (search rules))

pub each-preserved : goal.each-preserved
each-preserved c =
    subst (λ kinds. Goes read_kind c.args.cursor.now kinds c.next_kind.new.cursor) (sym c.in_ok-push.ensures.ok)
    (goes_more kind_reads c.args.cursor.now c.each.kinds c.each.cursor c.next_kind.new.cursor c.in_ok-kind.kind c.each.invariant (sym c.each-test.ensures) c.in_ok-kind.ensures.found)

pub returns-clause-found : goal.returns-clause-found
returns-clause-found c =
    goes_last c.args.cursor.now c.each.kinds c.each.cursor c.each.invariant (sym c.each-test.ensures)
