-- Parts of statements that are read by themselves.
use Rattle.std.specs.Prelude.{ℕ, if◌then◌else◌, List}
use Rattle.dc_syntax.specs.declared.mark.Mark.TheVariants.{LeftParen, RightParen, RightBrace}
use Rattle.dc_syntax.specs.Tokens.{Word, Token, Place, Marked, else_word, break_word, continue_word}
use Rattle.dc_syntax.specs.Names.{Names}
use Rattle.dc_syntax.specs.Trees.{Tree}
use Rattle.dc_syntax.specs.Phrases.{begins_specs}
use Rattle.dc_syntax.specs.Parts.{Part, Simple, If, IfElse, Break, Continue}
use Rattle.dc_syntax.specs.Reading.{Out, Reads, Upto, Found, next, begins, eat, found}
use Rattle.dc_syntax.specs.ReadingUnits.{PartReads, StatementOf, DeclarationOf, items, tested, optional, first, loop_clauses, ended}
use Rattle.dc_syntax.specs.Parts as parts
use Rattle.dc_read_unit.specs.declared.statements.Jump.{Jump}
use Rattle.dc_read_unit.specs.declared.statements.Jump.TheVariants as jump

-- what stands in a block
abbrev pub item : PartReads → Names → List Token → Out Part
item q env ts = if begins_specs env ts then q DeclarationOf env ts else q StatementOf env ts

-- the items of a block with the closing brace behind them
abbrev pub closed_items : PartReads → Names → ℕ → List Token → Out Part
closed_items q env n ts = next (items q env n ts) (λ m rest. eat (Marked RightBrace) rest (λ rest. Found m rest))

-- `( e )`
abbrev pub closed_tested : Reads → Names → List Token → Out Tree
closed_tested r env ts = eat (Marked LeftParen) ts (λ ts. next (r (Upto 16) env ts) (λ e rest. eat (Marked RightParen) rest (λ rest. Found e rest)))

-- an expression that may be left away, with the token behind it
abbrev pub closed_optional : Reads → Names → Word → List Token → Out Part
closed_optional r env w ts = optional r env w ts Found

-- the first part of a `for`, with its semicolon
abbrev pub closed_first : Reads → PartReads → Names → List Token → Out Part
closed_first r q env ts = first r q env ts Found

-- behind the first branch of an `if`
abbrev pub branch_else : PartReads → Names → List Token → Tree → Part → List Token → Out Part
branch_else q env all e a rest = if begins else_word rest then eat else_word rest (λ ts. next (q StatementOf env ts) (λ b rest. found all (IfElse e a b) rest)) else found all (If e a) rest

-- behind the `while` of a `do`
abbrev pub do_condition : Reads → PartReads → Names → List Token → Part → List Token → Out Part
do_condition r q env all a ts = tested r env ts (λ e ts. next (loop_clauses q env ts) (λ c rest. ended all rest (parts.Do a e c)))

-- an expression statement
abbrev pub simple : Reads → Names → List Token → Out Part
simple r env all = next (r (Upto 16) env all) (λ e rest. ended all rest (Simple e))

abbrev pub jump_word : Jump → Word
jump_word jump.Break = break_word
jump_word jump.Continue = continue_word

abbrev pub jump_part : Jump → Place → Part
jump_part jump.Break p = Break p
jump_part jump.Continue p = Continue p
