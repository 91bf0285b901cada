use Rattle.std.proofs.Common.{◌≡◌, ◌<◌, ℕ, List, take, drop, sym, subst, ◌∙◌, arith}
use Rattle.std.proofs.lemmas.Bool.{false≢true}
use Rattle.dc_lexer.specs.Pieces.{IsGap}
use Rattle.dc_lexer.specs.Reading.{quiet_len}
use Rattle.dc_lexer.proofs.Between.{quiet_gap, skipped_gap, no_gap}
use Rattle.dc_lexer.proofs.front.gap_len.Goals as goal

pub returns-then-quiet-ne0-clause-found : goal.returns-then-quiet-ne0-clause-found
returns-then-quiet-ne0-clause-found c =
    λ some before start.
    let bytes : List ℕ = c.args.bytes.now in
    let len : c.quiet_len-quiet.result ≡ quiet_len bytes = c.quiet_len-quiet.ensures.len in
    let there : 0 < quiet_len bytes = omega arith in
    subst (λ n. IsGap before (take n bytes) (drop n bytes)) (sym len) (quiet_gap before bytes there)

pub returns-then-fresh-clause-found : goal.returns-then-fresh-clause-found
returns-then-fresh-clause-found c =
    λ some before start. skipped_gap before (take c.skipped_len.result c.args.bytes.now) (drop c.skipped_len.result c.args.bytes.now) (start ∙ c.if-fresh.true) (c.skipped_len.ensures.found some)

pub returns-then-fresh-clause-none : goal.returns-then-fresh-clause-none
returns-then-fresh-clause-none c =
    λ e before gap rest start split is.
    let bytes : List ℕ = c.args.bytes.now in
    let len : c.quiet_len-quiet.result ≡ quiet_len bytes = c.quiet_len-quiet.ensures.len in
    let none : quiet_len bytes ≡ 0 = omega arith in
    no_gap c.args.fresh bytes (sym c.begins_with.ensures ∙ c.if-begins_with.false) none (λ fresh. c.skipped_len.ensures.none e) before gap rest start split is

pub returns-else-fresh-clause-none : goal.returns-else-fresh-clause-none
returns-else-fresh-clause-none c =
    λ e before gap rest start split is.
    let bytes : List ℕ = c.args.bytes.now in
    let len : c.quiet_len-quiet.result ≡ quiet_len bytes = c.quiet_len-quiet.ensures.len in
    let none : quiet_len bytes ≡ 0 = omega arith in
    no_gap c.args.fresh bytes (sym c.begins_with.ensures ∙ c.if-begins_with.false) none (λ fresh word rest split skipped. false≢true (sym c.if-fresh.false ∙ fresh)) before gap rest start split is
