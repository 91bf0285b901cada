use Rattle.std.proofs.Common.{[], ◌∷◌, map, sym, subst, ap, ◌∙◌, rules}
use Rattle.std.proofs.lemmas.List.{map-append}
use Rattle.dc_core.specs.View.{term_view}
use Rattle.dc_goto.specs.Reading.{read_low}
use Rattle.dc_goto.proofs.Expressions.{low_reads}
use Rattle.dc_scan.proofs.Many.{Goes, goes_more, goes_none, goes_last, spaced_shortens}
use Rattle.dc_scan.proofs.expressions.next_terms.Goals as goal

pub returns-in_err-term-clause-none : goal.returns-in_err-term-clause-none
returns-in_err-term-clause-none c =
    λ e. goes_none c.args.cursor.now (map term_view c.each.terms) c.each.cursor c.each.invariant (sym c.each-test.ensures) (c.in_err-term.ensures.none (search rules))

pub each-preserved : goal.each-preserved
each-preserved c =
    subst (λ terms. Goes read_low c.args.cursor.now terms c.next_term.new.cursor)
    (sym (ap (map term_view) c.in_ok-push.ensures.ok ∙ map-append term_view c.each.terms (c.in_ok-term.term ∷ [])))
    (goes_more low_reads c.args.cursor.now (map term_view c.each.terms) c.each.cursor c.next_term.new.cursor (term_view c.in_ok-term.term) c.each.invariant (sym c.each-test.ensures) c.in_ok-term.ensures.found)

pub returns-clause-found : goal.returns-clause-found
returns-clause-found c =
    goes_last c.args.cursor.now (map term_view c.each.terms) c.each.cursor c.each.invariant (sym c.each-test.ensures)

pub each-smaller : goal.each-smaller
each-smaller c =
    spaced_shortens low_reads (term_view c.in_ok-term.term) c.each.cursor c.next_term.new.cursor c.in_ok-term.ensures.found
