-- What stands behind the first initializer of a list in braces, and behind a declarator.
use Rattle.std.specs.Prelude.{Bool, List, length}
use Rattle.dc_syntax.specs.declared.mark.Mark.TheVariants.{Semicolon}
use Rattle.dc_syntax.specs.Tokens.{Token, Marked}
use Rattle.dc_syntax.specs.Names.{Names}
use Rattle.dc_syntax.specs.Trees.{Tree, naming, is_typedef, has_tag}
use Rattle.dc_syntax.specs.Parts.{Part, Initialized, Declaration, FirstDeclaration, SomeDeclared, declares_none, declaring}
use Rattle.std.specs.Prelude.{not, ◌||◌}
use Rattle.dc_syntax.specs.Reading.{Out, Reads, Found, next, checked, eat, found}
use Rattle.dc_syntax.specs.ReadingUnits.{PartReads, init, inits, braces_end, init_decl, more_declared, some_declared}

-- behind the first initializer in braces
abbrev pub braces_behind : Reads → PartReads → Names → List Token → Part → List Token → Out Part
braces_behind r q env all i rest = next (inits r q env (length rest) rest) (λ m rest. braces_end all i m rest)

-- behind the `=` of a declarator
abbrev pub initialized_behind : Reads → PartReads → Names → Bool → List Token → Tree → List Token → Out Part
initialized_behind r q env t all d ts = next (init r q (naming d t env) ts) (λ i rest. found all (Initialized d i) rest)

-- behind the first of the declarators of a declaration
abbrev pub declared_behind : Reads → PartReads → Names → Bool → Part → List Token → Out Part
declared_behind r q env t a rest = next (more_declared r q (declaring t a env) t (length rest) rest) (λ m rest. Found (SomeDeclared a m) rest)

-- behind the specs of a declaration, with what they declare in force
abbrev pub declaration_behind : Reads → PartReads → Names → List Token → Tree → List Token → Out Part
declaration_behind r q env all s rest = next (some_declared r q env (is_typedef s) rest) (λ d rest. checked (not (declares_none d) || has_tag s) (eat (Marked Semicolon) rest (λ rest. found all (Declaration s d) rest)))

-- behind the specs of a declaration at the front of a `for`, with what they declare in force
abbrev pub first_behind : Reads → PartReads → Names → List Token → Tree → List Token → Out Part
first_behind r q env all s rest = next (init_decl r q env (is_typedef s) rest) (λ a rest. next (more_declared r q (declaring (is_typedef s) a env) (is_typedef s) (length rest) rest) (λ m rest. found all (FirstDeclaration s a m) rest))
