use Rattle.std.proofs.Common.{refl, sym}
use Rattle.std.specs.HashMap.{get}
use Rattle.dc_text.specs.Words.{same}
use Rattle.dc_syntax.proofs.Scopes.{has_type-found, has_type-unknown, has_type-around}
use Rattle.dc_syntax.proofs.typedefs.Typedefs.+has_type.Goals as goal

pub returns-in-Some : goal.returns-in-Some
returns-in-Some t c =
    let s = c.self.inside in
    has_type-found _ s.declared.items s.outer _ _ (get same s.latest) _ _ (sym c.self.view_is) c.in-Some.is c.get.ensures.value c.self.invariant refl

pub returns-in-None : goal.returns-in-None
returns-in-None t c =
    let s = c.self.inside in
    has_type-unknown _ s.declared.items s.outer _ (get same s.latest) _ _ (sym c.self.view_is) c.in-None.is c.in_default.is c.get.ensures.value c.self.invariant refl

pub returns-in-Some-outer : goal.returns-in-Some-outer
returns-in-Some-outer t c =
    let s = c.self.inside in
    has_type-around _ s.declared.items s.outer _ _ (get same s.latest) _ _ _ (sym c.self.view_is) c.in-Some-outer.is c.in_default.is c.get.ensures.value c.self.invariant refl c.has_type.ensures
