use Rattle.std.proofs.Common.{◌≡◌, Ok, drop, refl, ap, ◌∙◌, rules}
use Rattle.dc_syntax.specs.Reading as spec
use Rattle.dc_syntax.specs.Reading.{Nothing}
use Rattle.dc_read_expr.proofs.Results.{loosely_some}
use Rattle.dc_read_expr.proofs.Pointers.{pointer_none, pointer_reading}
use Rattle.dc_read_expr.proofs.read.Grammar.pointer.Goals as goal

pub returns-in_default : goal.returns-in_default
returns-in_default g c =
    let f = c.args.self.now in
    let k = c.in_ok-qualified in
    let e : spec.declarator_or_none (spec.reads c.args.self.now.budget) c.args.self.now.names.now.names (drop c.in_ok-qualified.qualified.at c.args.self.now.tokens.now) ≡ Nothing = search rules in
    pointer_none (spec.reads f.budget) f.budget f.names.now.names f.tokens.now c.args.at k.qualified.keywords (drop k.qualified.at f.tokens.now) c.requires.begins k.ensures.found e

pub returns : goal.returns
returns g c =
    let f = c.args.self.now in
    let k = c.in_ok-qualified in
    pointer_reading (spec.reads f.budget) f.budget f.names.now.names f.tokens.now c.args.at k.qualified c.in-Some.inner c.place.result _ c.requires.begins k.ensures
    (loosely_some f.tokens.now k.qualified.at f.budget c.in-Some.inner _ c.declarator_or_none.result c.declarator_or_none.ensures (c.in_ok-inner.was ∙ ap Ok c.in-Some.is))
    c.in_ok-new.ensures c.place.ensures refl refl
