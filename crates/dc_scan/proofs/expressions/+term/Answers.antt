use Rattle.std.proofs.Common.{◌≡◌, ◌<◌, IfOk, sym, subst, ◌∙◌, arith}
use Rattle.dc_core.specs.View.{term_view}
use Rattle.dc_goto.specs.Reading.{got}
use Rattle.dc_scan.proofs.Heights.{none_at, term_at}
use Rattle.dc_scan.proofs.expressions.+term.Goals as goal

pub read_term-returns-then-height-eq0-clause-none : goal.read_term-returns-then-height-eq0-clause-none
read_term-returns-then-height-eq0-clause-none t c = λ e. none_at c.args.height c.args.cursor.now c.if-height-eq0.true

pub read_term-returns-clause-found : goal.read_term-returns-clause-found
read_term-returns-clause-found t c =
    let p : 0 < c.args.height = omega arith in
    subst (λ x. IfOk c.read_parenthesised.result (λ term. x ≡ got (term_view term) c.read_parenthesised.new.cursor)) (sym (term_at c.args.height c.args.cursor.now p)) c.read_parenthesised.ensures.found

pub read_term-returns-clause-none : goal.read_term-returns-clause-none
read_term-returns-clause-none t c =
    λ e.
    let p : 0 < c.args.height = omega arith in
    term_at c.args.height c.args.cursor.now p ∙ c.read_parenthesised.ensures.none e
