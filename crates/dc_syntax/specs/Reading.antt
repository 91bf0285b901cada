-- How expressions, type-names, specs and declarators are read from the left, the longest first, with a budget of height.
use Rattle.std.specs.Prelude.{ℕ, zero, suc, ◌+◌, ◌-◌, ◌==◌, Bool, true, false, if◌then◌else◌, ◌||◌, ◌&&◌, not, nat_le, List, [], ◌∷◌, length, take}
use Rattle.dc_syntax.specs.declared.mark.Mark.{Mark}
use Rattle.dc_syntax.specs.declared.mark.Mark.TheVariants.{LeftParen, RightParen, LeftBracket, RightBracket, LeftBrace, RightBrace, Semicolon, Comma, Colon, Question, Dot, Arrow, Increment, Decrement, Star, Implication, Equals}
use Rattle.dc_syntax.specs.declared.keyword.Keyword.{Keyword}
use Rattle.dc_syntax.specs.Tokens.{Word, Named, Literal, Marked, Reserved, Token, Place, place_of, is_word, infix_level, is_prefix, is_step, is_assignment, is_quantifier, is_qualifier, is_spec_word, is_tag_word, sizeof_word, struct_word, enum_word}
use Rattle.dc_syntax.specs.Names.{Names, in_force}
use Rattle.dc_syntax.specs.Trees.{Item, Assigned, Parameters, Declared, Enumerators, Tag, NoTag, Tagged, Tree, Name, Constant, Paren, Quantifier, Index, Call, Member, Through, After, Before, Prefix, SizeofExpression, SizeofType, Cast, Binary, Implies, Conditional, Assign, NoArguments, Arguments, NoMore, More, TypeName, LastSpec, Specs, SpecWord, SpecName, StructBody, StructTag, EnumBody, EnumTag, NoMembers, Members, MemberDeclaration, Enumerator, EnumeratorValue, Nameless, DeclaredName, Wrapped, Unsized, Sized, Function, Pointer, NoParameters, SomeParameters, Parameter, is_nameless, is_named, is_type_spec, has_body, is_void_parameter, is_no_more, naming, declared, level_of, height}
use Rattle.dc_syntax.specs.Phrases.{begins_specs, leaves}

-- what was read, and the tokens behind it
pub data Out (A : Type 0) : Type 0 where
  Nothing : Out A
  Found : A → List Token → Out A

abbrev pub next : {A B : Type 0} → Out A → (A → List Token → Out B) → Out B
next Nothing go = Nothing
next (Found e rest) go = go e rest

-- goes on after an attempt, or keeps what there was
abbrev pub kept : {A B : Type 0} → Out A → Out B → (A → List Token → Out B) → Out B
kept Nothing keep go = keep
kept (Found e rest) keep go = go e rest

-- only where the test holds
abbrev pub checked : {A : Type 0} → Bool → Out A → Out A
checked b o = if b then o else Nothing

abbrev pub between : List Token → List Token → Place
between all rest = place_of (take (length all - length rest) all)

-- a phrase, with its place
abbrev pub found : {A : Type 0} → List Token → (Place → A) → List Token → Out A
found all node rest = Found (node (between all rest)) rest

abbrev pub begins : Word → List Token → Bool
begins w [] = false
begins w (t ∷ ts) = is_word w t.word

abbrev pub eat : {A : Type 0} → Word → List Token → (List Token → Out A) → Out A
eat w [] go = Nothing
eat w (t ∷ ts) go = if is_word w t.word then go ts else Nothing

abbrev pub named_at : {A : Type 0} → Word → List Token → (List ℕ → List Token → Out A) → Out A
named_at (Named n) ts go = go n ts
named_at _ ts go = Nothing

abbrev pub named : {A : Type 0} → List Token → (List ℕ → List Token → Out A) → Out A
named [] go = Nothing
named (t ∷ ts) go = named_at t.word ts go

-- what has a height of its own
pub data Kind : Type 0 where
  Upto : ℕ → Kind
  MemberOf : Kind
  EnumeratorOf : Kind
  DeclaratorOf : Kind

-- the readers below, of what is less high
abbrev pub Reads : Type 0
Reads = Kind → Names → List Token → Out Tree

-- lists: one more comma, and no closing brace behind it
abbrev pub goes_on_at : List Token → Bool
goes_on_at ts = not (begins (Marked RightBrace) ts)

abbrev pub has_more : List Token → Bool
has_more [] = false
has_more (t ∷ ts) = is_word (Marked Comma) t.word && goes_on_at ts

-- a list has no height: its members are read as those of the tree around it
abbrev pub more : (Names → List Token → Out Tree) → Item → Names → ℕ → List Token → Out Tree
more one i env zero ts = Found (NoMore i) ts
more one i env (suc n) ts =
    if has_more ts
    then eat (Marked Comma) ts (λ ts. next (one env ts) (λ a rest. next (more one i (declared a env) n rest) (λ m rest. Found (More i a m) rest)))
    else Found (NoMore i) ts

-- a declarator has tokens where one of these stands
abbrev pub is_declarator_word : Word → Bool
is_declarator_word (Named n) = true
is_declarator_word (Literal n) = false
is_declarator_word (Marked m) = is_word (Marked Star) (Marked m) || (is_word (Marked LeftParen) (Marked m) || is_word (Marked LeftBracket) (Marked m))
is_declarator_word (Reserved k) = false

abbrev pub begins_declarator : List Token → Bool
begins_declarator [] = false
begins_declarator (t ∷ ts) = is_declarator_word t.word

abbrev pub declarator_or_none : Reads → Names → List Token → Out Tree
declarator_or_none r env ts = if begins_declarator ts then r DeclaratorOf env ts else Found Nameless ts

abbrev pub declarator_named : Reads → Names → List Token → Out Tree
declarator_named r env ts = next (r DeclaratorOf env ts) (λ d rest. checked (is_named d) (Found d rest))

-- specs
abbrev pub members : Reads → Names → ℕ → List Token → Out Tree
members r env zero ts = Found NoMembers ts
members r env (suc n) ts =
    if begins (Marked RightBrace) ts then Found NoMembers ts
    else next (r MemberOf env ts) (λ a rest. next (members r (declared a env) n rest) (λ m rest. Found (Members a m) rest))

abbrev pub struct_body : Reads → Names → List Token → Tag → List Token → Out Tree
struct_body r env all t ts =
    eat (Marked LeftBrace) ts (λ ts. next (members r env (length ts) ts) (λ m rest. eat (Marked RightBrace) rest (λ rest. found all (StructBody t m) rest)))

abbrev pub enum_end : Names → List Token → Tag → Tree → Tree → List Token → Out Tree
enum_end env all t e m rest =
    if begins (Marked Comma) rest then eat (Marked Comma) rest (λ rest. eat (Marked RightBrace) rest (λ rest. found all (EnumBody t e m) rest))
    else eat (Marked RightBrace) rest (λ rest. found all (EnumBody t e m) rest)

abbrev pub enum_body : Reads → Names → List Token → Tag → List Token → Out Tree
enum_body r env all t ts =
    eat (Marked LeftBrace) ts (λ ts. next (r EnumeratorOf env ts) (λ e rest. next (more (r EnumeratorOf) Enumerators (declared e env) (length rest) rest) (λ m rest. enum_end env all t e m rest)))

-- behind `struct` or `enum`
abbrev pub tagged : ℕ → List Token → (Tag → List Token → Out Tree) → (List ℕ → Place → Tree) → List Token → Out Tree
tagged h all body alone ts =
    if begins (Marked LeftBrace) ts then body NoTag ts
    else checked (nat_le 1 h) (named ts (λ n rest. if begins (Marked LeftBrace) rest then body (Tagged n (between ts rest)) rest else found all (alone n) rest))

abbrev pub spec_at : Reads → ℕ → Names → Bool → List Token → Word → List Token → Out Tree
spec_at r h env typed all (Named n) ts = checked (not typed && (in_force env n && nat_le 1 h)) (found all (SpecName n) ts)
spec_at r h env typed all (Literal n) ts = Nothing
spec_at r h env typed all (Marked m) ts = Nothing
spec_at r h env typed all (Reserved k) ts =
    if is_word struct_word (Reserved k) then tagged h all (struct_body r env all) StructTag ts
    else (if is_word enum_word (Reserved k) then tagged h all (enum_body r env all) EnumTag ts
    else checked (is_spec_word k) (found all (SpecWord k) ts))

abbrev pub spec : Reads → ℕ → Names → Bool → List Token → Out Tree
spec r h env typed [] = Nothing
spec r h env typed (t ∷ ts) = spec_at r h env typed (t ∷ ts) t.word ts

-- is one more spec taken, where a type is among them or not?
abbrev pub takes_word : Bool → Names → Word → Bool
takes_word typed env (Named n) = not typed && in_force env n
takes_word typed env (Literal n) = false
takes_word typed env (Marked m) = false
takes_word typed env (Reserved k) = is_spec_word k || is_tag_word k

abbrev pub takes : Bool → Names → List Token → Bool
takes typed env [] = false
takes typed env (t ∷ ts) = takes_word typed env t.word

abbrev pub specs_from : Reads → ℕ → Names → Bool → ℕ → List Token → Out Tree
specs_from r h env typed zero ts = Nothing
specs_from r h env typed (suc n) ts =
    next (spec r h env typed ts) (λ s rest.
    if takes (typed || is_type_spec s) (declared s env) rest
    then next (specs_from r h (declared s env) (typed || is_type_spec s) n rest) (λ m rest. Found (Specs s m) rest)
    else Found (LastSpec s) rest)

abbrev pub specs : Reads → ℕ → Names → List Token → Out Tree
specs r h env ts = specs_from r h env false (length ts) ts

-- specs without braces
abbrev pub bare : Reads → ℕ → Names → List Token → (Tree → List Token → Out Tree) → Out Tree
bare r h env ts go = next (specs r h env ts) (λ s rest. checked (not (has_body s)) (checked (leaves env s rest) (go s rest)))

abbrev pub type_name : Reads → ℕ → Names → List Token → Out Tree
type_name r h env all = bare r h env all (λ s rest. next (declarator_or_none r env rest) (λ d rest. checked (not (is_named d)) (found all (TypeName s d) rest)))

abbrev pub parameter : Reads → ℕ → Names → List Token → Out Tree
parameter r h env all = bare r h env all (λ s rest. next (declarator_or_none r env rest) (λ d rest. found all (Parameter s d) rest))

-- `void` alone is the empty list
abbrev pub parameter_list : Tree → Tree → List Token → Out Tree
parameter_list a m rest = if is_void_parameter a && is_no_more m then Found NoParameters rest else Found (SomeParameters a m) rest

abbrev pub parameters : Reads → ℕ → Names → List Token → Out Tree
parameters r h env ts =
    if begins (Marked RightParen) ts then Found NoParameters ts
    else next (parameter r h env ts) (λ a rest. next (more (parameter r h) Parameters (declared a env) (length rest) rest) (λ m rest. parameter_list a m rest))

abbrev pub member : Reads → ℕ → Names → List Token → Out Tree
member r h env all =
    next (specs r h env all) (λ s rest. checked (leaves (declared s env) s rest) (next (declarator_named r (declared s env) rest) (λ d rest.
    next (more (declarator_named r) Declared (declared s env) (length rest) rest) (λ m rest. eat (Marked Semicolon) rest (λ rest. found all (MemberDeclaration s d m) rest)))))

abbrev pub enumerator : Reads → ℕ → Names → List Token → Out Tree
enumerator r h env all =
    checked (nat_le 1 h) (named all (λ n rest.
    if begins (Marked Equals) rest then eat (Marked Equals) rest (λ ts. next (r (Upto 15) env ts) (λ c rest. found all (EnumeratorValue n c) rest))
    else found all (Enumerator n) rest))

-- declarators
abbrev pub qualified_at : {A : Type 0} → Word → (Keyword → Out A) → Out A → Out A
qualified_at (Reserved k) one none = if is_qualifier k then one k else none
qualified_at _ one none = none

abbrev pub qualified : {A : Type 0} → List Token → (List Keyword → List Token → Out A) → Out A
qualified [] go = go [] []
qualified (t ∷ ts) go = qualified_at t.word (λ k. qualified ts (λ ks rest. go (k ∷ ks) rest)) (go [] (t ∷ ts))

-- at most n times, while the height allows it, one more behind
abbrev pub loop : (List Token → Tree → List Token → Out Tree) → ℕ → ℕ → List Token → Tree → List Token → Out Tree
loop one h zero all e rest = Found e rest
loop one h (suc n) all e rest = kept (if nat_le (height e) h then one all e rest else Nothing) (Found e rest) (λ e rest. loop one h n all e rest)

abbrev pub once : (List Token → Tree → List Token → Out Tree) → ℕ → List Token → Tree → List Token → Out Tree
once one h all e rest = kept (if nat_le (height e) h then one all e rest else Nothing) (Found e rest) (λ e rest. Found e rest)

-- does a parenthesis here open a declarator?
abbrev pub opens : Names → List Token → Bool
opens env ts = not (begins (Marked RightParen) ts || begins_specs env ts)

abbrev pub direct_mark : Reads → Names → List Token → Mark → List Token → Out Tree
direct_mark r env all LeftParen ts =
    if opens env ts then next (r DeclaratorOf env ts) (λ d rest. checked (not (is_nameless d)) (eat (Marked RightParen) rest (λ rest. found all (Wrapped d) rest)))
    else Found Nameless all
direct_mark r env all _ ts = Found Nameless all

abbrev pub direct_at : Reads → Names → List Token → Word → List Token → Out Tree
direct_at r env all (Named n) ts = found all (DeclaredName n) ts
direct_at r env all (Literal n) ts = Found Nameless all
direct_at r env all (Marked m) ts = direct_mark r env all m ts
direct_at r env all (Reserved k) ts = Found Nameless all

abbrev pub direct : Reads → Names → List Token → Out Tree
direct r env [] = Found Nameless []
direct r env (t ∷ ts) = direct_at r env (t ∷ ts) t.word ts

abbrev pub length_at : Reads → Names → List Token → Tree → List Token → Out Tree
length_at r env all d ts =
    if begins (Marked RightBracket) ts then eat (Marked RightBracket) ts (λ rest. found all (Unsized d) rest)
    else next (r (Upto 15) env ts) (λ c rest. eat (Marked RightBracket) rest (λ rest. found all (Sized d c) rest))

abbrev pub suffix_mark : Reads → ℕ → Names → List Token → Tree → Mark → List Token → Out Tree
suffix_mark r h env all d LeftBracket ts = length_at r env all d ts
suffix_mark r h env all d LeftParen ts = next (parameters r h env ts) (λ a rest. eat (Marked RightParen) rest (λ rest. found all (Function d a) rest))
suffix_mark r h env all d _ ts = Nothing

abbrev pub suffix_at : Reads → ℕ → Names → List Token → Tree → Word → List Token → Out Tree
suffix_at r h env all d (Marked m) ts = suffix_mark r h env all d m ts
suffix_at r h env all d _ ts = Nothing

abbrev pub suffix_one : Reads → ℕ → Names → List Token → Tree → List Token → Out Tree
suffix_one r h env all d [] = Nothing
suffix_one r h env all d (t ∷ ts) = suffix_at r h env all d t.word ts

abbrev pub declarator : Reads → ℕ → Names → List Token → Out Tree
declarator r h env all =
    if begins (Marked Star) all then eat (Marked Star) all (λ ts. qualified ts (λ ks rest. next (declarator_or_none r env rest) (λ d rest. found all (Pointer ks d) rest)))
    else next (direct r env all) (λ d rest. loop (suffix_one r h env) h (suc h) all d rest)

-- primary
abbrev pub quantified : Reads → ℕ → Names → List Token → Keyword → List Token → Out Tree
quantified r h env all k ts =
    eat (Marked LeftBrace) ts (λ ts. bare r h env ts (λ s rest. next (declarator_named r env rest) (λ d rest.
    eat (Marked Semicolon) rest (λ ts. next (r (Upto 15) (naming d false env) ts) (λ c rest. eat (Marked RightBrace) rest (λ rest. found all (Quantifier k s d c) rest))))))

abbrev pub primary_mark : Reads → Names → List Token → Mark → List Token → Out Tree
primary_mark r env all LeftParen ts = next (r (Upto 16) env ts) (λ e rest. eat (Marked RightParen) rest (λ rest. found all (Paren e) rest))
primary_mark r env all _ ts = Nothing

abbrev pub primary_at : Reads → ℕ → Names → List Token → Word → List Token → Out Tree
primary_at r h env all (Named n) ts = checked (not (in_force env n)) (found all (Name n) ts)
primary_at r h env all (Literal n) ts = found all (Constant n) ts
primary_at r h env all (Marked m) ts = primary_mark r env all m ts
primary_at r h env all (Reserved k) ts = checked (is_quantifier k) (quantified r h env all k ts)

abbrev pub primary : Reads → ℕ → Names → List Token → Out Tree
primary r h env [] = Nothing
primary r h env (t ∷ ts) = primary_at r h env (t ∷ ts) t.word ts

-- postfix
abbrev pub arguments : Reads → Names → List Token → Out Tree
arguments r env ts =
    if begins (Marked RightParen) ts then Found NoArguments ts
    else next (r (Upto 16) env ts) (λ a rest. next (more (r (Upto 16)) Assigned env (length rest) rest) (λ m rest. Found (Arguments a m) rest))

abbrev pub postfix_mark : Reads → Names → List Token → Tree → Mark → List Token → Out Tree
postfix_mark r env all e LeftBracket ts = next (r (Upto 16) env ts) (λ i rest. eat (Marked RightBracket) rest (λ rest. found all (Index e i) rest))
postfix_mark r env all e LeftParen ts = next (arguments r env ts) (λ a rest. eat (Marked RightParen) rest (λ rest. found all (Call e a) rest))
postfix_mark r env all e Dot ts = named ts (λ n rest. found all (Member e n) rest)
postfix_mark r env all e Arrow ts = named ts (λ n rest. found all (Through e n) rest)
postfix_mark r env all e Increment ts = found all (After Increment e) ts
postfix_mark r env all e Decrement ts = found all (After Decrement e) ts
postfix_mark r env all e _ ts = Nothing

abbrev pub postfix_at : Reads → Names → List Token → Tree → Word → List Token → Out Tree
postfix_at r env all e (Marked m) ts = postfix_mark r env all e m ts
postfix_at r env all e _ ts = Nothing

abbrev pub postfix_one : Reads → Names → List Token → Tree → List Token → Out Tree
postfix_one r env all e [] = Nothing
postfix_one r env all e (t ∷ ts) = postfix_at r env all e t.word ts

abbrev pub postfix : Reads → ℕ → Names → List Token → Out Tree
postfix r h env ts = next (primary r h env ts) (λ e rest. loop (postfix_one r env) h (suc h) ts e rest)

-- unary and cast
abbrev pub begins_cast : Names → List Token → Bool
begins_cast env [] = false
begins_cast env (t ∷ ts) = is_word (Marked LeftParen) t.word && begins_specs env ts

abbrev pub sizeof_at : Reads → ℕ → Names → List Token → List Token → Out Tree
sizeof_at r h env all ts =
    if begins_cast env ts
    then eat (Marked LeftParen) ts (λ ts. next (type_name r h env ts) (λ t rest. eat (Marked RightParen) rest (λ rest. found all (SizeofType t) rest)))
    else next (r (Upto 2) env ts) (λ e rest. found all (SizeofExpression e) rest)

abbrev pub unary_at : Reads → ℕ → Names → List Token → Word → List Token → Out Tree
unary_at r h env all (Marked m) ts =
    if is_step m then next (r (Upto 2) env ts) (λ e rest. found all (Before m e) rest)
    else (if is_prefix m then next (r (Upto 3) env ts) (λ e rest. found all (Prefix m e) rest)
    else postfix r h env all)
unary_at r h env all (Reserved k) ts = if is_word sizeof_word (Reserved k) then sizeof_at r h env all ts else postfix r h env all
unary_at r h env all _ ts = postfix r h env all

abbrev pub unary : Reads → ℕ → Names → List Token → Out Tree
unary r h env [] = Nothing
unary r h env (t ∷ ts) = unary_at r h env (t ∷ ts) t.word ts

abbrev pub cast_at : Reads → ℕ → Names → List Token → Out Tree
cast_at r h env all =
    eat (Marked LeftParen) all (λ ts. next (type_name r h env ts) (λ t rest. eat (Marked RightParen) rest (λ rest. next (r (Upto 3) env rest) (λ e rest. found all (Cast t e) rest))))

abbrev pub cast : Reads → ℕ → Names → List Token → Out Tree
cast r h env ts = if begins_cast env ts then cast_at r h env ts else unary r h env ts

-- the binary levels
abbrev pub binary_at : Reads → Names → ℕ → List Token → Tree → Word → List Token → Out Tree
binary_at r env n all e (Marked m) ts = if infix_level m == suc n then next (r (Upto (3 + n)) env ts) (λ b rest. found all (Binary m e b) rest) else Nothing
binary_at r env n all e _ ts = Nothing

abbrev pub binary_one : Reads → Names → ℕ → List Token → Tree → List Token → Out Tree
binary_one r env n all e [] = Nothing
binary_one r env n all e (t ∷ ts) = binary_at r env n all e t.word ts

-- n binary levels above cast
abbrev pub binary : Reads → ℕ → Names → ℕ → List Token → Out Tree
binary r h env zero ts = cast r h env ts
binary r h env (suc n) ts = next (binary r h env n ts) (λ e rest. loop (binary_one r env n) h (suc h) ts e rest)

abbrev pub implies_one : Reads → Names → List Token → Tree → List Token → Out Tree
implies_one r env all e rest = eat (Marked Implication) rest (λ ts. next (r (Upto 14) env ts) (λ b rest. found all (Implies e b) rest))

abbrev pub implied : Reads → ℕ → Names → List Token → Out Tree
implied r h env ts = next (binary r h env 10 ts) (λ e rest. once (implies_one r env) h ts e rest)

abbrev pub conditional_one : Reads → Names → List Token → Tree → List Token → Out Tree
conditional_one r env all e rest =
    eat (Marked Question) rest (λ ts. next (r (Upto 16) env ts) (λ b rest. eat (Marked Colon) rest (λ ts. next (r (Upto 15) env ts) (λ c rest. found all (Conditional e b c) rest))))

abbrev pub conditional : Reads → ℕ → Names → List Token → Out Tree
conditional r h env ts = next (implied r h env ts) (λ e rest. once (conditional_one r env) h ts e rest)

abbrev pub assign_at : Reads → Names → List Token → Tree → Word → List Token → Out Tree
assign_at r env all e (Marked m) ts = checked (is_assignment m) (next (r (Upto 16) env ts) (λ b rest. found all (Assign m e b) rest))
assign_at r env all e _ ts = Nothing

abbrev pub assign_word : Reads → Names → List Token → Tree → List Token → Out Tree
assign_word r env all e [] = Nothing
assign_word r env all e (t ∷ ts) = assign_at r env all e t.word ts

abbrev pub assign_one : Reads → Names → List Token → Tree → List Token → Out Tree
assign_one r env all e rest = checked (nat_le (level_of e) 2) (assign_word r env all e rest)

abbrev pub assign : Reads → ℕ → Names → List Token → Out Tree
assign r h env ts = next (conditional r h env ts) (λ e rest. once (assign_one r env) h ts e rest)

-- Each level in its turn; the budget of what has one more than the height of its parts is h.
abbrev pub above : Reads → ℕ → Names → ℕ → List Token → Out Tree
above r h env n ts =
    if nat_le n 10 then binary r h env n ts
    else (if n == 11 then implied r h env ts
    else (if n == 12 then conditional r h env ts else assign r h env ts))

abbrev pub upto : Reads → ℕ → Names → ℕ → List Token → Out Tree
upto r h env zero ts = primary r h env ts
upto r h env (suc zero) ts = postfix r h env ts
upto r h env (suc (suc zero)) ts = unary r h env ts
upto r h env (suc (suc (suc n))) ts = above r h env n ts

abbrev pub step : Reads → ℕ → Kind → Names → List Token → Out Tree
step r h (Upto k) env ts = upto r h env k ts
step r h MemberOf env ts = member r h env ts
step r h EnumeratorOf env ts = enumerator r h env ts
step r h DeclaratorOf env ts = declarator r h env ts

-- what of this kind begins the tokens, of at most this height
abbrev pub reads : ℕ → Reads
reads zero k env ts = Nothing
reads (suc h) k env ts = step (reads h) h k env ts
