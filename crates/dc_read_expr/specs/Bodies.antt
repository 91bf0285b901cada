-- What stands behind the first parts of a struct's member and of an enum in braces.
use Rattle.std.specs.Prelude.{List, length}
use Rattle.dc_syntax.specs.declared.mark.Mark.TheVariants.{Semicolon}
use Rattle.dc_syntax.specs.Tokens.{Token, Marked}
use Rattle.dc_syntax.specs.Names.{Names}
use Rattle.dc_syntax.specs.Trees.{Tag, Tree, MemberDeclaration, Declared, Enumerators, declared}
use Rattle.dc_syntax.specs.Phrases.{leaves}
use Rattle.dc_syntax.specs.Reading.{Out, Reads, EnumeratorOf, next, checked, eat, found, declarator_named, more, enum_end}

-- behind the first enumerator
abbrev pub enumerators_behind : Reads → Names → List Token → Tag → Tree → List Token → Out Tree
enumerators_behind r env all t e rest = next (more (r EnumeratorOf) Enumerators (declared e env) (length rest) rest) (λ m rest. enum_end env all t e m rest)

-- the semicolon behind a member's declarators
abbrev pub ended : List Token → Tree → Tree → Tree → List Token → Out Tree
ended all s d m rest = eat (Marked Semicolon) rest (λ rest. found all (MemberDeclaration s d m) rest)

-- behind a member's first declarator, with what its specs declare in force
abbrev pub behind_declarator : Reads → Names → List Token → Tree → Tree → List Token → Out Tree
behind_declarator r env all s d rest = next (more (declarator_named r) Declared env (length rest) rest) (λ m rest. ended all s d m rest)

-- behind a member's specs
abbrev pub behind_specs : Reads → Names → List Token → Tree → List Token → Out Tree
behind_specs r env all s rest = checked (leaves (declared s env) s rest) (next (declarator_named r (declared s env) rest) (λ d rest. behind_declarator r (declared s env) all s d rest))
