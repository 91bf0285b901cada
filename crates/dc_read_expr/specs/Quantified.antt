-- What stands behind the specs of a quantifier.
use Rattle.std.specs.Prelude.{false, List}
use Rattle.dc_syntax.specs.declared.mark.Mark.TheVariants.{RightBrace, Semicolon}
use Rattle.dc_syntax.specs.Tokens.{Token, Marked}
use Rattle.dc_syntax.specs.Names.{Names}
use Rattle.dc_syntax.specs.Trees.{Tree, Quantifier, naming}
use Rattle.dc_syntax.specs.declared.keyword.Keyword.{Keyword}
use Rattle.dc_syntax.specs.Reading.{Out, Found, Reads, Upto, next, eat, found, declarator_named}

-- the condition, from the semicolon to the closing brace
abbrev pub condition_behind : Reads → Names → Tree → List Token → Out Tree
condition_behind r env d ts = eat (Marked Semicolon) ts (λ ts. next (r (Upto 15) (naming d false env) ts) (λ c rest. eat (Marked RightBrace) rest (λ rest. Found c rest)))

abbrev pub quantifier_behind : Reads → Names → List Token → Keyword → Tree → List Token → Out Tree
quantifier_behind r env all k s rest = next (declarator_named r env rest) (λ d rest. next (condition_behind r env d rest) (λ c rest. found all (Quantifier k s d c) rest))
