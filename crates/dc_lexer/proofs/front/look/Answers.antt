use Rattle.std.proofs.Common.{◌≡◌, ◌<◌, ℕ, List, take, drop, sym, subst, ◌∙◌, arith}
use Rattle.std.proofs.lemmas.Bool.{false≢true}
use Rattle.dc_lexer.specs.Pieces.{IsLexeme}
use Rattle.dc_lexer.specs.declared.kind.Kind.{Kind}
use Rattle.dc_lexer.specs.Reading.{front_kind, lexeme_len}
use Rattle.dc_lexer.proofs.Fronted.{lexeme_at, narrow, wide_front, directive_front, byte_front}
use Rattle.dc_lexer.proofs.front.look.Goals as goal

-- the token in front, by what was found of it
found : (bytes : List ℕ) (kind : Kind) (len : ℕ) → kind ≡ front_kind bytes → len ≡ lexeme_len bytes → 0 < len → IsLexeme kind (take len bytes) (drop len bytes)
found bytes kind len k n some =
    let there : 0 < lexeme_len bytes = omega arith in
    subst (λ kind. IsLexeme kind (take len bytes) (drop len bytes)) (sym k) (subst (λ n. IsLexeme (front_kind bytes) (take n bytes) (drop n bytes)) (sym n) (lexeme_at bytes there))

pub returns-then-is_wide : goal.returns-then-is_wide
returns-then-is_wide c =
    let some : 0 < c.lexeme_len-len.result = omega arith in
    wide_front c.front_kind-kind.result c.args.bytes.now c.lexeme_len-len.result
    (found c.args.bytes.now c.front_kind-kind.result c.lexeme_len-len.result c.front_kind-kind.ensures c.lexeme_len-len.ensures.len some)
    (c.is_wide.ensures.0 c.if-is_wide.true)

pub returns-then-len-ne0 : goal.returns-then-len-ne0
returns-then-len-ne0 c =
    let some : 0 < c.lexeme_len-len.result = omega arith in (
      some,
      c.lexeme_len-len.ensures.within,
      found c.args.bytes.now c.front_kind-kind.result c.lexeme_len-len.result c.front_kind-kind.ensures c.lexeme_len-len.ensures.len some,
      narrow c.front_kind-kind.result (take c.lexeme_len-len.result c.args.bytes.now) (λ w. false≢true (sym c.if-is_wide.false ∙ c.is_wide.ensures.1 w)),
    )

pub returns-then-begins_directive : goal.returns-then-begins_directive
returns-then-begins_directive c =
    let len : c.lexeme_len-len.result ≡ lexeme_len c.args.bytes.now = c.lexeme_len-len.ensures.len in
    let none : lexeme_len c.args.bytes.now ≡ 0 = omega arith in
    let no_gap : c.gap_len-gap.result ≡ 0 = omega arith in
    directive_front c.args.fresh c.args.bytes.now (c.gap_len-gap.ensures.none no_gap) none (sym c.begins_directive.ensures ∙ c.if-begins_directive.true)

pub returns-else-begins_directive : goal.returns-else-begins_directive
returns-else-begins_directive c =
    let len : c.lexeme_len-len.result ≡ lexeme_len c.args.bytes.now = c.lexeme_len-len.ensures.len in
    let none : lexeme_len c.args.bytes.now ≡ 0 = omega arith in
    let no_gap : c.gap_len-gap.result ≡ 0 = omega arith in
    byte_front c.args.fresh c.args.bytes.now (c.gap_len-gap.ensures.none no_gap) none (sym c.begins_directive.ensures ∙ c.if-begins_directive.false)
