use Rattle.std.proofs.Common.{◌≡◌, ◌<◌, ℕ, List, take, drop, sym, ap, subst, ◌∙◌, arith}
use Rattle.std.proofs.lemmas.Bool.{false≢true}
use Rattle.dc_lexer.specs.Pieces.{IsQuiet, IsSkipped}
use Rattle.dc_lexer.specs.Reading.{marker_len, include_len}
use Rattle.dc_lexer.proofs.Between.{marker_skips, include_skips, unskipped}
use Rattle.dc_lexer.proofs.directives.skipped_len.Goals as goal

pub returns-then-marker-ne0-clause-found : goal.returns-then-marker-ne0-clause-found
returns-then-marker-ne0-clause-found c =
    λ some.
    let bytes : List ℕ = c.args.bytes.now in
    let len : c.marker_len-marker.result ≡ marker_len bytes = c.marker_len-marker.ensures.len in
    let there : 0 < marker_len bytes = omega arith in
    subst (λ n. IsSkipped (take n bytes) (drop n bytes)) (sym len) (marker_skips bytes there)

pub returns-then-include-eq0-clause-none : goal.returns-then-include-eq0-clause-none
returns-then-include-eq0-clause-none c =
    λ e word rest split skipped.
    let bytes : List ℕ = c.args.bytes.now in
    let marker : c.marker_len-marker.result ≡ marker_len bytes = c.marker_len-marker.ensures.len in
    let include : c.include_len-include.result ≡ include_len bytes = c.include_len-include.ensures.len in
    let no_marker : marker_len bytes ≡ 0 = omega arith in
    let no_include : include_len bytes ≡ 0 = omega arith in
    unskipped bytes no_marker (λ some q. omega arith) word rest split skipped

pub returns-then-is_quiet-clause-found : goal.returns-then-is_quiet-clause-found
returns-then-is_quiet-clause-found c =
    λ some.
    let bytes : List ℕ = c.args.bytes.now in
    let len : c.include_len-include.result ≡ include_len bytes = c.include_len-include.ensures.len in
    let there : 0 < include_len bytes = omega arith in
    let quiet : IsQuiet c.behind.result.now = c.is_quiet.ensures.0 c.if-is_quiet.true in
    subst (λ n. IsSkipped (take n bytes) (drop n bytes)) (sym len) (include_skips bytes there (subst IsQuiet (c.behind.ensures ∙ ap (λ n. drop n bytes) len) quiet))

pub returns-else-is_quiet-clause-none : goal.returns-else-is_quiet-clause-none
returns-else-is_quiet-clause-none c =
    λ e word rest split skipped.
    let bytes : List ℕ = c.args.bytes.now in
    let marker : c.marker_len-marker.result ≡ marker_len bytes = c.marker_len-marker.ensures.len in
    let include : c.include_len-include.result ≡ include_len bytes = c.include_len-include.ensures.len in
    let no_marker : marker_len bytes ≡ 0 = omega arith in
    unskipped bytes no_marker
    (λ some q. false≢true (sym c.if-is_quiet.false ∙ c.is_quiet.ensures.1 (subst IsQuiet (sym (c.behind.ensures ∙ ap (λ n. drop n bytes) include)) q)))
    word rest split skipped
