use Rattle.std.proofs.Common.{◌+◌, refl, sym, ap, ◌∙◌, arith}
use Rattle.dc_syntax.specs.Trees.{SpecName}
use Rattle.dc_syntax.specs.Reading as spec
use Rattle.dc_syntax.specs.View.{raw_view}
use Rattle.dc_read_expr.proofs.Tags.{name_typed, name_unforced, name_found, alone_reading, raw_view-SpecName}
use Rattle.dc_read_expr.proofs.read.Grammar.name_spec.Goals as goal

pub returns-then-typed : goal.returns-then-typed
returns-then-typed g c =
    let f = c.args.self.now in
    name_typed (spec.reads f.budget) f.budget c.args.names.now.names c.args.typed f.tokens.now c.args.at c.args.name.now c.requires.begins c.if-typed.true

pub returns-then-not-has_type : goal.returns-then-not-has_type
returns-then-not-has_type g c =
    let f = c.args.self.now in
    name_unforced (spec.reads f.budget) f.budget c.args.names.now.names c.args.typed f.tokens.now c.args.at c.args.name.now c.requires.begins c.if-typed.false (sym c.has_type.ensures ∙ c.if-not-has_type.true)

pub returns : goal.returns
returns g c =
    let f = c.args.self.now in
    alone_reading SpecName f.tokens.now c.args.at (c.args.at + 1) f.budget c.args.name.now c.in_ok-copied.field-0 c.place.result _ _
    (name_found (spec.reads f.budget) f.budget c.args.names.now.names c.args.typed f.tokens.now c.args.at c.args.name.now c.requires.begins c.if-typed.false (sym c.has_type.ensures ∙ c.if-not-has_type.false) c.if-self-lt1.false)
    c.in_ok-copied.ensures (ap raw_view c.in_ok-new.ensures ∙ raw_view-SpecName _ _) refl c.place.ensures c.if-self-lt1.false (omega arith) (omega (arith, c.requires.begins.within)) refl refl
