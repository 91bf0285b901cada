use Rattle.std.proofs.Common.{false, sym, ◌∙◌}
use Rattle.dc_syntax.specs.Tokens.{Reserved, struct_word, enum_word}
use Rattle.dc_syntax.specs.Reading as spec
use Rattle.dc_read_expr.proofs.Tags.{spec_struct, spec_enum, spec_keyword, word_next, reading_by}
use Rattle.dc_read_expr.proofs.read.Grammar.keyword_spec.Goals as goal

pub struct_spec-requires-clause-begins : goal.struct_spec-requires-clause-begins
struct_spec-requires-clause-begins g c =
    word_next c.args.self.now.tokens.now c.args.at struct_word (Reserved c.args.keyword) c.requires.begins (sym c.is_struct.ensures ∙ c.if-is_struct.true)

pub returns-then-is_struct : goal.returns-then-is_struct
returns-then-is_struct g c =
    let f = c.args.self.now in
    let r = spec.reads f.budget in
    let env = c.args.names.now.names in
    let ts = f.tokens.now in
    let n = word_next ts c.args.at struct_word (Reserved c.args.keyword) c.requires.begins (sym c.is_struct.ensures ∙ c.if-is_struct.true) in
    reading_by _ _ _ _ _ _ c.struct_spec.ensures (spec_struct r f.budget env c.args.typed ts c.args.at n ∙ sym (spec_struct r f.budget env false ts c.args.at n))

pub enum_spec-requires-clause-begins : goal.enum_spec-requires-clause-begins
enum_spec-requires-clause-begins g c =
    word_next c.args.self.now.tokens.now c.args.at enum_word (Reserved c.args.keyword) c.requires.begins (sym c.is_enum.ensures ∙ c.if-is_enum.true)

pub returns-then-is_enum : goal.returns-then-is_enum
returns-then-is_enum g c =
    let f = c.args.self.now in
    let r = spec.reads f.budget in
    let env = c.args.names.now.names in
    let ts = f.tokens.now in
    let n = word_next ts c.args.at enum_word (Reserved c.args.keyword) c.requires.begins (sym c.is_enum.ensures ∙ c.if-is_enum.true) in
    reading_by _ _ _ _ _ _ c.enum_spec.ensures (spec_enum r f.budget env c.args.typed ts c.args.at n ∙ sym (spec_enum r f.budget env false ts c.args.at n))

pub returns : goal.returns
returns g c =
    let f = c.args.self.now in
    reading_by _ _ _ _ _ _ c.word_spec.ensures
    (spec_keyword (spec.reads f.budget) f.budget c.args.names.now.names c.args.typed f.tokens.now c.args.at c.args.keyword c.requires.begins
    (sym c.is_struct.ensures ∙ c.if-is_struct.false) (sym c.is_enum.ensures ∙ c.if-is_enum.false))
