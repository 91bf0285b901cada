use Rattle.std.proofs.Common.{◌≡◌, sym, ◌∙◌, ap, subst, length, arith}
use Rattle.std.proofs.lemmas.Bool.Decides.{nat_tests}
use Rattle.dc_form.specs.Read.Tokens.{token_front}
use Rattle.dc_form.proofs.Lexed.{Lexed, lexed_all, lexed_more, lexed_stuck, token_shortens}
use Rattle.dc_form.proofs.tokens.lex.Goals as goal

pub loop-here-preserved : goal.loop-here-preserved
loop-here-preserved c =
    subst (λ tokens. Lexed c.args.bytes.now tokens c.in-Some.tail.now) (sym c.in_ok-push_token.ensures.ok)
    (lexed_more _ _ c.loop-here.rest.now c.in-Some.token.now c.in-Some.tail.now c.loop-here.invariant (sym (c.in-Some.ensures ∙ ap token_front c.skip_blanks-here.ensures)))

pub loop-here-smaller : goal.loop-here-smaller
loop-here-smaller c = token_shortens c.loop-here.rest.now c.in-Some.token.now c.in-Some.tail.now (sym (c.in-Some.ensures ∙ ap token_front c.skip_blanks-here.ensures))

pub returns-then-is_empty-clause-found : goal.returns-then-is_empty-clause-found
returns-then-is_empty-clause-found c =
    let e : length c.skip_blanks-here.result.now ≡ 0 = grind (arith, nat_tests) in
    lexed_all _ _ c.loop-here.rest.now c.loop-here.invariant (sym (ap length c.skip_blanks-here.ensures) ∙ e)

pub returns-in_default-clause-none : goal.returns-in_default-clause-none
returns-in_default-clause-none c =
    λ e.
    let open_ : length c.skip_blanks-here.result.now ≡ 0 → ⊥ = λ h. grind (arith, nat_tests) in
    lexed_stuck _ _ c.loop-here.rest.now c.loop-here.invariant (sym (c.in_default.ensures ∙ ap token_front c.skip_blanks-here.ensures)) (λ h. open_ (ap length c.skip_blanks-here.ensures ∙ h))
