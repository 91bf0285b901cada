-- What stands in the parentheses of clauses, and behind the first of a group.
use Rattle.std.specs.Prelude.{List}
use Rattle.dc_syntax.specs.declared.mark.Mark.TheVariants.{LeftParen, RightParen}
use Rattle.dc_syntax.specs.Tokens.{Word, Token, Place, Marked, requires_word, ensures_word, loop_invariant_word, assigns_word, frees_word}
use Rattle.dc_syntax.specs.Names.{Names}
use Rattle.dc_syntax.specs.Trees.{Tree}
use Rattle.dc_syntax.specs.Parts.{Part, Requires, Ensures, LoopInvariant, Assigns, Frees, Decreases, Group, GroupIf}
use Rattle.dc_syntax.specs.Reading.{Out, Reads, Upto, Found, next, eat, found}
use Rattle.dc_syntax.specs.ReadingUnits.{conditions, groups}
use Rattle.dc_read_unit.specs.declared.clauses.ConditionClause.{ConditionClause}
use Rattle.dc_read_unit.specs.declared.clauses.ConditionClause.TheVariants as condition
use Rattle.dc_read_unit.specs.declared.clauses.TargetClause.{TargetClause}
use Rattle.dc_read_unit.specs.declared.clauses.TargetClause.TheVariants as target

-- `( c )`
abbrev pub closed_condition : Reads → Names → List Token → Out Tree
closed_condition r env ts = eat (Marked LeftParen) ts (λ ts. next (r (Upto 15) env ts) (λ c rest. eat (Marked RightParen) rest (λ rest. Found c rest)))

-- `( groups )`
abbrev pub closed_groups : Reads → Names → List Token → Out Part
closed_groups r env ts = eat (Marked LeftParen) ts (λ ts. next (groups r env ts) (λ g rest. eat (Marked RightParen) rest (λ rest. Found g rest)))

-- behind the first of a group
abbrev pub group_behind : Reads → Names → List Token → Tree → List Token → Out Part
group_behind r env all c rest = next (conditions r env rest) (λ m rest. found all (Group c m) rest)

-- behind the colon of a group
abbrev pub group_if_behind : Reads → Names → List Token → Tree → List Token → Out Part
group_if_behind r env all c ts = next (r (Upto 15) env ts) (λ d rest. next (conditions r env rest) (λ m rest. found all (GroupIf c d m) rest))

-- behind the first of a `__CPROVER_decreases`
abbrev pub decreases_behind : Reads → Names → List Token → Tree → List Token → Out Part
decreases_behind r env all c rest = next (conditions r env rest) (λ m rest. eat (Marked RightParen) rest (λ rest. found all (Decreases c m) rest))

abbrev pub condition_word : ConditionClause → Word
condition_word condition.Requires = requires_word
condition_word condition.Ensures = ensures_word
condition_word condition.LoopInvariant = loop_invariant_word

abbrev pub condition_part : ConditionClause → Tree → Place → Part
condition_part condition.Requires c p = Requires c p
condition_part condition.Ensures c p = Ensures c p
condition_part condition.LoopInvariant c p = LoopInvariant c p

abbrev pub target_word : TargetClause → Word
target_word target.Assigns = assigns_word
target_word target.Frees = frees_word

abbrev pub target_part : TargetClause → Part → Place → Part
target_part target.Assigns g p = Assigns g p
target_part target.Frees g p = Frees g p
