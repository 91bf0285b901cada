use Rattle.std.proofs.Common.{false, drop, sym, ap, ◌∙◌, refl, rules}
use Rattle.dc_syntax.specs.declared.token.Word.TheVariants as word
use Rattle.dc_syntax.specs.Trees.{StructTag}
use Rattle.dc_syntax.specs.Reading as spec
use Rattle.dc_syntax.specs.View.{raw_view}
use Rattle.dc_read_expr.proofs.Tags.{struct_tagged, tagged_bare, tagged_low, tagged_by, tag_reading, reading_by, next_of, tagged_unnamed, unnamed_end, raw_view-StructTag}
use Rattle.dc_read_expr.proofs.read.Grammar.struct_spec.Goals as goal
use Rattle.dc_read_expr.proofs.read.Grammar.struct_spec.Goals.{in_default-via-in-Some+in_default, in_default-via-in_default}

pub returns-then-opens_body : goal.returns-then-opens_body
returns-then-opens_body g c =
    let f = c.args.self.now in
    let r = spec.reads f.budget in
    let env = c.args.names.now.names in
    let ts = f.tokens.now in
    let all = drop c.args.at ts in
    let body = spec.struct_body r env all in
    reading_by _ _ _ _ _ _ c.struct_body.ensures
    (struct_tagged r f.budget env false ts c.args.at c.behind-next.result c.requires.begins c.behind-next.ensures
    ∙ tagged_bare f.budget all body StructTag (drop c.behind-next.result ts) (sym c.opens_body.ensures ∙ c.if-opens_body.true))

pub returns-in_default : goal.returns-in_default
returns-in_default g c =
    let f = c.args.self.now in
    let r = spec.reads f.budget in
    let env = c.args.names.now.names in
    let ts = f.tokens.now in
    let all = drop c.args.at ts in
    struct_tagged r f.budget env false ts c.args.at c.behind-next.result c.requires.begins c.behind-next.ensures
    ∙ tagged_unnamed f.budget all (spec.struct_body r env all) StructTag (drop c.behind-next.result ts) (sym c.opens_body.ensures ∙ c.if-opens_body.false)
    (λ go. elim c.in_default.branch [
      | in_default-via-in-Some+in_default w ↦ search rules
      | in_default-via-in_default w ↦ unnamed_end ts c.behind-next.result c.word.result c.word.ensures w.in_default.is go
    ])

pub returns-then-self-lt1 : goal.returns-then-self-lt1
returns-then-self-lt1 g c =
    let f = c.args.self.now in
    let r = spec.reads f.budget in
    let env = c.args.names.now.names in
    let ts = f.tokens.now in
    let all = drop c.args.at ts in
    struct_tagged r f.budget env false ts c.args.at c.behind-next.result c.requires.begins c.behind-next.ensures
    ∙ tagged_low f.budget all (spec.struct_body r env all) StructTag ts c.behind-next.result c.in-Some-Named.name.now (next_of ts c.behind-next.result c.word.result (word.Named c.in-Some-Named.name) c.word.ensures (cc)) c.if-self-lt1.true

pub returns-then-opens_body-2 : goal.returns-then-opens_body-2
returns-then-opens_body-2 g c =
    let f = c.args.self.now in
    let r = spec.reads f.budget in
    let env = c.args.names.now.names in
    let ts = f.tokens.now in
    let all = drop c.args.at ts in
    reading_by _ _ _ _ _ _ c.struct_body-then-opens_body-2.ensures
    (struct_tagged r f.budget env false ts c.args.at c.behind-next.result c.requires.begins c.behind-next.ensures
    ∙ tagged_by f.budget all (spec.struct_body r env all) StructTag ts c.behind-next.result c.behind-end.result c.in-Some-Named.name.now c.in_ok-name.name c.place.result
    (next_of ts c.behind-next.result c.word.result (word.Named c.in-Some-Named.name) c.word.ensures (cc)) c.if-self-lt1.false c.behind-end.ensures (sym c.opens_body-2.ensures ∙ c.if-opens_body-2.true) c.in_ok-name.ensures c.place.ensures)

pub returns : goal.returns
returns g c =
    let f = c.args.self.now in
    let r = spec.reads f.budget in
    let env = c.args.names.now.names in
    let ts = f.tokens.now in
    tag_reading (spec.struct_body r env (drop c.args.at ts)) StructTag ts c.args.at c.behind-next.result c.behind-end.result f.budget c.in-Some-Named.name.now c.in_ok-name.name c.place-2.result _ _
    (struct_tagged r f.budget env false ts c.args.at c.behind-next.result c.requires.begins c.behind-next.ensures) c.behind-next.ensures
    (next_of ts c.behind-next.result c.word.result (word.Named c.in-Some-Named.name) c.word.ensures (cc)) c.behind-end.ensures (sym c.opens_body-2.ensures ∙ c.if-opens_body-2.false)
    c.in_ok-name.ensures (ap raw_view c.in_ok-new.ensures ∙ raw_view-StructTag _ _) refl c.place-2.ensures c.if-self-lt1.false refl refl
