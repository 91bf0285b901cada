use Rattle.std.proofs.Common.{◌≡◌, ◌<◌, length, drop, sym, ap, subst, ◌∙◌, arith}
use Rattle.std.proofs.lemmas.Bool.{false≢true}
use Rattle.std.proofs.lemmas.Bool.Decides.{nat_tests}
use Rattle.dc_lexer.specs.Pieces.{IsQuiet}
use Rattle.dc_lexer.specs.Reading.{quiet_len}
use Rattle.dc_lexer.proofs.Silence.{quiet_before, quiet_behind, not_quiet_front}
use Rattle.dc_lexer.proofs.directives.is_quiet.Goals as goal

pub returns-then-len-eq0 : goal.returns-then-len-eq0
returns-then-len-eq0 c =
    let none : quiet_len c.loop-rest.rest.now ≡ 0 = sym c.quiet_len-len.ensures.len ∙ c.if-len-eq0.true in
    let some : 0 < length c.loop-rest.rest.now = grind (arith, nat_tests) in (
      λ e. absurd (false≢true e),
      λ q. absurd (not_quiet_front c.loop-rest.rest.now some (sym c.begins_with.ensures ∙ c.if-begins_with.false) none (c.loop-rest.invariant.1 q)),
    )

pub loop-rest-preserved : goal.loop-rest-preserved
loop-rest-preserved c =
    let len : c.quiet_len-len.result ≡ quiet_len c.loop-rest.rest.now = c.quiet_len-len.ensures.len in
    let some : 0 < quiet_len c.loop-rest.rest.now = omega arith in
    let behind : c.behind-rest.result.now ≡ drop (quiet_len c.loop-rest.rest.now) c.loop-rest.rest.now = c.behind-rest.ensures ∙ ap (λ n. drop n c.loop-rest.rest.now) len in (
      λ q. c.loop-rest.invariant.0 (quiet_before c.loop-rest.rest.now some (subst IsQuiet behind q)),
      λ q. subst IsQuiet (sym behind) (quiet_behind c.loop-rest.rest.now some (c.loop-rest.invariant.1 q)),
    )
