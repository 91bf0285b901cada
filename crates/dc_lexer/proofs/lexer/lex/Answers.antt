use Rattle.std.proofs.Common.{◌≡◌, ◌+◌, ◌++◌, [], ◌∷◌, take, sym, ap, subst, ◌∙◌}
use Rattle.dc_lexer.specs.Pieces.{newlines, Token}
use Rattle.dc_lexer.specs.Reading.{at_start}
use Rattle.dc_lexer.proofs.Cut.{Reached, reached_gap, reached_lexeme}
use Rattle.dc_lexer.proofs.lexer.lex.Goals as goal

pub loop-rest-preserved-in-Gap : goal.loop-rest-preserved-in-Gap
loop-rest-preserved-in-Gap c =
    let l = c.loop-rest in
    let len = c.in-Gap.len in
    let gap : c.before-gap.result.now ≡ take len l.rest.now = c.before-gap.ensures in
    let lines : c.newlines-line.result ≡ newlines (take len l.rest.now) = c.newlines-line.ensures.count ∙ ap newlines gap in
    let start : c.at_start-fresh.result ≡ at_start l.fresh (take len l.rest.now) = c.at_start-fresh.ensures ∙ ap (at_start l.fresh) gap in
    subst (λ n. Reached c.args.bytes.now l.tokens (l.line + n) c.at_start-fresh.result c.behind-rest.result.now) (sym lines)
    (subst (λ t. Reached c.args.bytes.now l.tokens (l.line + newlines (take len l.rest.now)) t c.behind-rest.result.now) (sym start)
    (subst (Reached c.args.bytes.now l.tokens (l.line + newlines (take len l.rest.now)) (at_start l.fresh (take len l.rest.now))) (sym c.behind-rest.ensures)
    (reached_gap c.args.bytes.now l.tokens l.line l.fresh l.rest.now len l.invariant c.in-Gap.ensures.2)))

pub loop-rest-preserved : goal.loop-rest-preserved
loop-rest-preserved c =
    let l = c.loop-rest in
    let len = c.in-Lexeme.len in
    let kind = c.in-Lexeme.kind in
    let word : c.before-word.result.now ≡ take len l.rest.now = c.before-word.ensures in
    let start : c.at_start-fresh-in-Lexeme.result ≡ at_start l.fresh (take len l.rest.now) = c.at_start-fresh-in-Lexeme.ensures ∙ ap (at_start l.fresh) word in
    let token : c.new.result ≡ record { kind = kind; bytes = take len l.rest.now; line = l.line } =
    c.new.ensures ∙ ap (λ w. let t : Token = record { kind = kind; bytes = w; line = l.line } in t) word in
    subst (λ t. Reached c.args.bytes.now t l.line c.at_start-fresh-in-Lexeme.result c.behind-rest-in-Lexeme.result.now) (sym c.in_ok-push-in-Lexeme.ensures.ok)
    (subst (λ t. Reached c.args.bytes.now (l.tokens ++ c.new.result ∷ []) l.line t c.behind-rest-in-Lexeme.result.now) (sym start)
    (subst (Reached c.args.bytes.now (l.tokens ++ c.new.result ∷ []) l.line (at_start l.fresh (take len l.rest.now))) (sym c.behind-rest-in-Lexeme.ensures)
    (reached_lexeme c.args.bytes.now l.tokens l.line l.fresh l.rest.now kind len c.new.result l.invariant c.in-Lexeme.ensures.2 c.in-Lexeme.ensures.3 token)))
