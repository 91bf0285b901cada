-- What the phrases begin with, and what stops them.
use Rattle.std.proofs.Common.{◌≡◌, ℕ, zero, suc, ◌+◌, ◌<◌, ◌≤◌, Bool, true, false, if◌then◌else◌, ◌||◌, ◌&&◌, not, List, [], ◌∷◌, ◌++◌, refl, sym, ap, ◌∙◌, subst, arith}
use Rattle.dc_syntax.specs.declared.mark.Mark.{Mark}
use Rattle.dc_syntax.specs.declared.mark.Mark.TheVariants.{LeftParen, RightParen, LeftBracket, RightBracket, RightBrace, Semicolon, Comma, Colon, Question, Dot, Arrow, Increment, Decrement, Ampersand, Star, Plus, Minus, Tilde, Exclamation, Implication, Equals, StarEquals, SlashEquals, PercentEquals, PlusEquals, MinusEquals, ShiftLeftEquals, ShiftRightEquals, AmpersandEquals, CaretEquals, BarEquals}
use Rattle.dc_syntax.specs.declared.keyword.Keyword.{Keyword}
use Rattle.dc_syntax.specs.declared.keyword.Keyword.TheVariants.{Forall, Exists, Sizeof}
use Rattle.dc_syntax.specs.Tokens.{Word, Named, Literal, Marked, Reserved, Token, infix_level, is_prefix, is_step, is_assignment, is_quantifier, is_qualifier, is_spec_word, is_tag_word, void_word}
use Rattle.dc_syntax.specs.Names.{Names, in_force}
use Rattle.dc_syntax.specs.Trees.{Tree, Name, Constant, Paren, Quantifier, Index, Call, Member, Through, After, Before, Prefix, SizeofExpression, SizeofType, Cast, Binary, Implies, Conditional, Assign, TypeName, LastSpec, Specs, SpecWord, SpecName, StructBody, StructTag, EnumBody, EnumTag, Nameless, DeclaredName, Wrapped, Unsized, Sized, Function, Pointer, NoParameters, SomeParameters, Parameter, Sort, IsExpression, IsArguments, IsMore, IsTypeName, IsSpecs, IsSpec, IsMembers, IsMember, IsEnumerator, IsDeclarator, IsParameters, IsParameter, sort_of, level_of, is_nameless, is_direct, is_type_name, names_type}
use Rattle.dc_syntax.specs.Phrases.{IsWord, Maybe, Absent, Present, begins_spec, begins_specs}
use Rattle.dc_syntax.specs.Grammar.{Is}
use Rattle.dc_syntax.specs.Reading.{begins, begins_declarator, is_declarator_word, takes_word, opens}
use Rattle.dc_syntax.proofs.Words.{false-true}
use Rattle.dc_syntax.proofs.Base.{Front, split, First, first_word, unplaced, held, opened, sorted, empty_is}
use Rattle.dc_syntax.proofs.Reached.{passes, passes_is, passes_not, passes_so, begins_is}

-- sorts are told apart by numbers
abbrev pub sort_number : Sort → ℕ
sort_number IsExpression = 0
sort_number IsArguments = 1
sort_number (IsMore i) = 2
sort_number IsTypeName = 3
sort_number IsSpecs = 4
sort_number IsSpec = 5
sort_number IsMembers = 6
sort_number IsMember = 7
sort_number IsEnumerator = 8
sort_number IsDeclarator = 9
sort_number IsParameters = 10
sort_number IsParameter = 11

-- what an expression begins with
abbrev pub starts_mark : Mark → Bool
starts_mark LeftParen = true
starts_mark Increment = true
starts_mark Decrement = true
starts_mark Ampersand = true
starts_mark Star = true
starts_mark Plus = true
starts_mark Minus = true
starts_mark Tilde = true
starts_mark Exclamation = true
starts_mark _ = false

abbrev pub starts_keyword : Keyword → Bool
starts_keyword Forall = true
starts_keyword Exists = true
starts_keyword Sizeof = true
starts_keyword _ = false

abbrev pub starts : Names → Word → Bool
starts env (Named n) = not (in_force env n)
starts env (Literal n) = true
starts env (Marked m) = starts_mark m
starts env (Reserved k) = starts_keyword k

prefix_starts : (m : Mark) → is_prefix m ≡ true → starts_mark m ≡ true
prefix_starts Ampersand e = refl
prefix_starts Star e = refl
prefix_starts Plus e = refl
prefix_starts Minus e = refl
prefix_starts Tilde e = refl
prefix_starts Exclamation e = refl
prefix_starts _ e = absurd (false-true e)

step_starts : (m : Mark) → is_step m ≡ true → starts_mark m ≡ true
step_starts Increment e = refl
step_starts Decrement e = refl
step_starts _ e = absurd (false-true e)

quantifier_starts : (k : Keyword) → is_quantifier k ≡ true → starts_keyword k ≡ true
quantifier_starts Forall e = refl
quantifier_starts Exists e = refl
quantifier_starts _ e = absurd (false-true e)

pub heads : (env : Names) (all : List Token) (tree : Tree) (rest : List Token) → Front (Is env tree) all rest → level_of tree ≤ 16 → passes (starts env) all ≡ true
heads env all (Name n p) rest f l = let u = held (unplaced f).is in passes_is (starts env) (first_word u.is) ∙ u.holds
heads env all (Constant n p) rest f l = passes_is (starts env) (first_word (unplaced f).is)
heads env all (Paren e p) rest f l = passes_is (starts env) (first_word (split (unplaced f).is).first)
heads env all (Quantifier k s d c p) rest f l = let u = held (unplaced f).is in passes_is (starts env) (first_word (split u.is).first) ∙ quantifier_starts k u.holds
heads env all (Index g a p) rest f l = let s = split (unplaced f).is in let o = opened s.first in heads env all g s.mid o.is (omega (arith, o.level))
heads env all (Call g a p) rest f l = let s = split (unplaced f).is in let o = opened s.first in heads env all g s.mid o.is (omega (arith, o.level))
heads env all (Member g n p) rest f l = let s = split (unplaced f).is in let o = opened s.first in heads env all g s.mid o.is (omega (arith, o.level))
heads env all (Through g n p) rest f l = let s = split (unplaced f).is in let o = opened s.first in heads env all g s.mid o.is (omega (arith, o.level))
heads env all (After m g p) rest f l = let u = held (unplaced f).is in let s = split u.is in let o = opened s.first in heads env all g s.mid o.is (omega (arith, o.level))
heads env all (Before m g p) rest f l = let u = held (unplaced f).is in passes_is (starts env) (first_word (split u.is).first) ∙ step_starts m u.holds
heads env all (Prefix m g p) rest f l = let u = held (unplaced f).is in passes_is (starts env) (first_word (split u.is).first) ∙ prefix_starts m u.holds
heads env all (SizeofExpression g p) rest f l = passes_is (starts env) (first_word (split (unplaced f).is).first)
heads env all (SizeofType g p) rest f l = passes_is (starts env) (first_word (split (unplaced f).is).first)
heads env all (Cast t g p) rest f l = passes_is (starts env) (first_word (split (unplaced f).is).first)
heads env all (Binary m a b p) rest f l = let u = held (unplaced f).is in let s = split u.is in let o = opened s.first in heads env all a s.mid o.is (omega (arith, o.level, l))
heads env all (Implies g b p) rest f l = let s = split (unplaced f).is in let o = opened s.first in heads env all g s.mid o.is (omega (arith, o.level))
heads env all (Conditional g b c p) rest f l = let s = split (unplaced f).is in let o = opened s.first in heads env all g s.mid o.is (omega (arith, o.level))
heads env all (Assign m g b p) rest f l = let u = held (unplaced f).is in let s = split u.is in let o = opened s.first in heads env all g s.mid o.is (omega (arith, o.level))
heads env all _ rest f l = absurd (omega (arith, l))

-- an expression begins with no spec
starts_no_spec : (env : Names) (w : Word) → starts env w ≡ true → begins_spec env w ≡ false
starts_no_spec env (Named n) e = flip (in_force env n) e
  where
    flip : (b : Bool) → not b ≡ true → b ≡ false
    flip true e = absurd (false-true e)
    flip false e = refl
starts_no_spec env (Literal n) e = refl
starts_no_spec env (Marked m) e = refl
starts_no_spec env (Reserved k) e = by k e
  where
    by : (k : Keyword) → starts_keyword k ≡ true → (is_spec_word k || is_tag_word k) ≡ false
    by Forall e = refl
    by Exists e = refl
    by Sizeof e = refl
    by _ e = absurd (false-true e)

pub specs_pass : (env : Names) (ts : List Token) → begins_specs env ts ≡ passes (begins_spec env) ts
specs_pass env [] = refl
specs_pass env (t ∷ ts) = refl

pub no_specs : (env : Names) (ts : List Token) → passes (starts env) ts ≡ true → begins_specs env ts ≡ false
no_specs env ts e = specs_pass env ts ∙ passes_not (starts env) (begins_spec env) (starts_no_spec env) ts e

-- what closes a phrase
abbrev pub closes_mark : Mark → Bool
closes_mark RightParen = true
closes_mark RightBracket = true
closes_mark RightBrace = true
closes_mark Semicolon = true
closes_mark Comma = true
closes_mark Colon = true
closes_mark _ = false

abbrev pub closes : Word → Bool
closes (Marked m) = closes_mark m
closes _ = false

-- what a declarator would go on with, or its qualifiers
abbrev pub continues : Word → Bool
continues (Named n) = true
continues (Literal n) = false
continues (Marked m) = is_declarator_word (Marked m)
continues (Reserved k) = is_qualifier k

abbrev pub is_qualifier_word : Word → Bool
is_qualifier_word (Reserved k) = is_qualifier k
is_qualifier_word _ = false

pub closes_ends : (w : Word) → closes w ≡ true → continues w ≡ false
closes_ends (Named n) e = absurd (false-true e)
closes_ends (Literal n) e = absurd (false-true e)
closes_ends (Reserved k) e = absurd (false-true e)
closes_ends (Marked m) e = by m e
  where
    by : (m : Mark) → closes_mark m ≡ true → continues (Marked m) ≡ false
    by RightParen e = refl
    by RightBracket e = refl
    by RightBrace e = refl
    by Semicolon e = refl
    by Comma e = refl
    by Colon e = refl
    by _ e = absurd (false-true e)

pub ends_at : (ts : List Token) → passes closes ts ≡ true → passes continues ts ≡ false
ends_at ts e = passes_not closes continues closes_ends ts e

pub declarator_pass : (ts : List Token) → begins_declarator ts ≡ passes is_declarator_word ts
declarator_pass [] = refl
declarator_pass (t ∷ ts) = refl

pub no_declarator : (ts : List Token) → passes continues ts ≡ false → begins_declarator ts ≡ false
no_declarator [] e = refl
no_declarator (t ∷ ts) e = by t.word e
  where
    by : (w : Word) → continues w ≡ false → is_declarator_word w ≡ false
    by (Named n) e = e
    by (Literal n) e = refl
    by (Marked m) e = e
    by (Reserved k) e = refl

pub no_qualifier : (ts : List Token) → passes continues ts ≡ false → passes is_qualifier_word ts ≡ false
no_qualifier [] e = refl
no_qualifier (t ∷ ts) e = by t.word e
  where
    by : (w : Word) → continues w ≡ false → is_qualifier_word w ≡ false
    by (Named n) e = refl
    by (Literal n) e = refl
    by (Marked m) e = refl
    by (Reserved k) e = e

-- a declarator that isn't left away has tokens
begins_or : (f : Word → Bool) (env : Names) (all mid : List Token) (d : Tree) → Front (Is env d) all mid → (is_nameless d ≡ false → passes f all ≡ true) → passes f mid ≡ true → passes f all ≡ true
begins_or f env all mid Nameless i g h = ap (passes f) (empty_is i) ∙ h
begins_or f env all mid _ i g h = g refl

pub declarator_begins : (env : Names) (all : List Token) (tree : Tree) (rest : List Token) → Front (Is env tree) all rest → sort_of tree ≡ IsDeclarator → is_nameless tree ≡ false → passes is_declarator_word all ≡ true
declarator_begins env all Nameless rest f s n = absurd (false-true (sym n))
declarator_begins env all (DeclaredName n p) rest f s e = passes_is is_declarator_word (first_word (unplaced f).is)
declarator_begins env all (Wrapped d p) rest f s e = passes_is is_declarator_word (first_word (split (held (unplaced f).is).is).first)
declarator_begins env all (Pointer k d p) rest f s e = passes_is is_declarator_word (first_word (split (unplaced f).is).first)
declarator_begins env all (Unsized d p) rest f s e =
    let u = held (unplaced f).is in let s1 = split u.is in let s2 = split s1.second in let o = sorted s1.first in
    begins_or is_declarator_word env all s1.mid d o.is (λ n. declarator_begins env all d s1.mid o.is o.sort n) (passes_is is_declarator_word (first_word s2.first))
declarator_begins env all (Sized d c p) rest f s e =
    let u = held (unplaced f).is in let s1 = split u.is in let s2 = split s1.second in let o = sorted s1.first in
    begins_or is_declarator_word env all s1.mid d o.is (λ n. declarator_begins env all d s1.mid o.is o.sort n) (passes_is is_declarator_word (first_word s2.first))
declarator_begins env all (Function d a p) rest f s e =
    let u = held (unplaced f).is in let s1 = split u.is in let s2 = split s1.second in let o = sorted s1.first in
    begins_or is_declarator_word env all s1.mid d o.is (λ n. declarator_begins env all d s1.mid o.is o.sort n) (passes_is is_declarator_word (first_word s2.first))
declarator_begins env all _ rest f s n = absurd (let k = ap sort_number s in omega (arith, k))

-- what a declarator without a pointer begins with
abbrev pub is_direct_word : Word → Bool
is_direct_word (Named n) = true
is_direct_word (Marked LeftParen) = true
is_direct_word (Marked LeftBracket) = true
is_direct_word _ = false

pub direct_begins : (env : Names) (all : List Token) (tree : Tree) (rest : List Token) → Front (Is env tree) all rest → sort_of tree ≡ IsDeclarator → is_direct tree ≡ true → is_nameless tree ≡ false → passes is_direct_word all ≡ true
direct_begins env all Nameless rest f s d n = absurd (false-true (sym n))
direct_begins env all (DeclaredName n p) rest f s i e = passes_is is_direct_word (first_word (unplaced f).is)
direct_begins env all (Wrapped d p) rest f s i e = passes_is is_direct_word (first_word (split (held (unplaced f).is).is).first)
direct_begins env all (Pointer k d p) rest f s i e = absurd (false-true i)
direct_begins env all (Unsized d p) rest f s i e =
    let u = held (unplaced f).is in let s1 = split u.is in let s2 = split s1.second in let o = sorted s1.first in
    begins_or is_direct_word env all s1.mid d o.is (λ n. direct_begins env all d s1.mid o.is o.sort u.holds n) (passes_is is_direct_word (first_word s2.first))
direct_begins env all (Sized d c p) rest f s i e =
    let u = held (unplaced f).is in let s1 = split u.is in let s2 = split s1.second in let o = sorted s1.first in
    begins_or is_direct_word env all s1.mid d o.is (λ n. direct_begins env all d s1.mid o.is o.sort u.holds n) (passes_is is_direct_word (first_word s2.first))
direct_begins env all (Function d a p) rest f s i e =
    let u = held (unplaced f).is in let s1 = split u.is in let s2 = split s1.second in let o = sorted s1.first in
    begins_or is_direct_word env all s1.mid d o.is (λ n. direct_begins env all d s1.mid o.is o.sort u.holds n) (passes_is is_direct_word (first_word s2.first))
direct_begins env all _ rest f s i n = absurd (let k = ap sort_number s in omega (arith, k))

-- specs begin with a spec, which is taken
spec_takes : (env : Names) (typed : Bool) (all : List Token) (tree : Tree) (rest : List Token) → Front (Is env tree) all rest → sort_of tree ≡ IsSpec → (typed ≡ true → is_type_name tree ≡ false) → passes (takes_word typed env) all ≡ true
spec_takes env typed all (SpecWord k p) rest f s free = let u = held (unplaced f).is in passes_is (takes_word typed env) (first_word u.is) ∙ ap (λ b. b || is_tag_word k) u.holds
spec_takes env typed all (SpecName n p) rest f s free = let u = held (unplaced f).is in passes_is (takes_word typed env) (first_word u.is) ∙ (ap (λ b. not typed && b) u.holds ∙ untyped typed free)
  where
    untyped : (b : Bool) → (b ≡ true → true ≡ false) → (not b && true) ≡ true
    untyped true g = sym (g refl)
    untyped false g = refl
spec_takes env typed all (StructBody t m p) rest f s free = passes_is (takes_word typed env) (first_word (split (unplaced f).is).first)
spec_takes env typed all (StructTag n p) rest f s free = passes_is (takes_word typed env) (first_word (split (unplaced f).is).first)
spec_takes env typed all (EnumBody t e m p) rest f s free = passes_is (takes_word typed env) (first_word (split (unplaced f).is).first)
spec_takes env typed all (EnumTag n p) rest f s free = passes_is (takes_word typed env) (first_word (split (unplaced f).is).first)
spec_takes env typed all _ rest f s free = absurd (let k = ap sort_number s in omega (arith, k))

or_first : (a b : Bool) → (a || b) ≡ false → a ≡ false
or_first true b e = e
or_first false b e = refl

pub specs_take : (env : Names) (typed : Bool) (all : List Token) (tree : Tree) (rest : List Token) → Front (Is env tree) all rest → sort_of tree ≡ IsSpecs → (typed ≡ true → names_type tree ≡ false) → passes (takes_word typed env) all ≡ true
specs_take env typed all (LastSpec a) rest f s free = let o = sorted f in spec_takes env typed all a rest o.is o.sort free
specs_take env typed all (Specs a m) rest f s free = let s1 = split (held f).is in let o = sorted s1.first in spec_takes env typed all a s1.mid o.is o.sort (λ y. or_first (is_type_name a) (names_type m) (free y))
specs_take env typed all _ rest f s free = absurd (let k = ap sort_number s in omega (arith, k))

takes_spec : (env : Names) (w : Word) → takes_word false env w ≡ true → begins_spec env w ≡ true
takes_spec env (Named n) e = e
takes_spec env (Literal n) e = absurd (false-true e)
takes_spec env (Marked m) e = absurd (false-true e)
takes_spec env (Reserved k) e = e

pub specs_begin : (env : Names) (all : List Token) (tree : Tree) (rest : List Token) → Front (Is env tree) all rest → sort_of tree ≡ IsSpecs → begins_specs env all ≡ true
specs_begin env all tree rest f s =
    specs_pass env all ∙ passes_so (takes_word false env) (begins_spec env) (takes_spec env) all (specs_take env false all tree rest f s (λ y. absurd (false-true y)))

pub type_begins : (env : Names) (all : List Token) (tree : Tree) (rest : List Token) → Front (Is env tree) all rest → sort_of tree ≡ IsTypeName → begins_specs env all ≡ true
type_begins env all (TypeName a d p) rest f s = let s1 = split (unplaced f).is in let o = sorted (held s1.first).is in specs_begin env all a s1.mid o.is o.sort
type_begins env all _ rest f s = absurd (let k = ap sort_number s in omega (arith, k))

pub parameter_begins : (env : Names) (all : List Token) (tree : Tree) (rest : List Token) → Front (Is env tree) all rest → sort_of tree ≡ IsParameter → begins_specs env all ≡ true
parameter_begins env all (Parameter a d p) rest f s = let s1 = split (unplaced f).is in let o = sorted (held s1.first).is in specs_begin env all a s1.mid o.is o.sort
parameter_begins env all _ rest f s = absurd (let k = ap sort_number s in omega (arith, k))

-- a parenthesis before parameters opens no declarator
pub parameters_open : (env : Names) (all : List Token) (tree : Tree) (mid rest : List Token) → Front (Is env tree) all mid → sort_of tree ≡ IsParameters → First (Marked RightParen) mid rest → opens env all ≡ false
parameters_open env all NoParameters mid rest f s g = by f.is
  where
    by : Maybe (IsWord void_word) f.front → opens env all ≡ false
    by (Absent e) = let here : all ≡ mid = f.whole ∙ ap (λ l. l ++ mid) e in ap (opens env) here ∙ ap (λ b. not (b || begins_specs env mid)) (begins_is (Marked RightParen) g)
    by (Present w) = let v : First void_word all mid = first_word (record { front = f.front; whole = f.whole; is = w }) in
        ap (λ b. not (begins (Marked RightParen) all || b)) (specs_pass env all ∙ passes_is (begins_spec env) v) ∙ ap (λ b. not (b || true)) (begins_is (Marked RightParen) v)
parameters_open env all (SomeParameters a m) mid rest f s g =
    let s1 = split (held f).is in let o = sorted s1.first in
    ap (λ b. not (begins (Marked RightParen) all || b)) (parameter_begins env all a s1.mid o.is o.sort) ∙ either (begins (Marked RightParen) all)
  where
    either : (b : Bool) → not (b || true) ≡ false
    either true = refl
    either false = refl
parameters_open env all _ mid rest f s g = absurd (let k = ap sort_number s in omega (arith, k))

-- the level at which a word goes on with an expression before it
abbrev pub op_joins : ℕ → ℕ → ℕ
op_joins zero other = other
op_joins (suc n) other = 4 + n

abbrev pub other_joins : Mark → ℕ
other_joins LeftParen = 1
other_joins LeftBracket = 1
other_joins Dot = 1
other_joins Arrow = 1
other_joins Increment = 1
other_joins Decrement = 1
other_joins Implication = 14
other_joins Question = 15
other_joins m = if is_assignment m then 16 else 99

abbrev pub joins : Word → ℕ
joins (Marked m) = op_joins (infix_level m) (other_joins m)
joins _ = 99

abbrev pub StopsAt : ℕ → List Token → Type 0
StopsAt k [] = Unit {0}
StopsAt k (t ∷ ts) = k < joins t.word

pub stops_first : {w : Word} {all rest : List Token} (k : ℕ) → First w all rest → k < joins w → StopsAt k all
stops_first {w} {all} {rest} k f h = subst (StopsAt k) (sym f.whole) (subst (λ w. k < joins w) (sym f.word) h)

pub stops_less : (j k : ℕ) (ts : List Token) → j ≤ k → StopsAt k ts → StopsAt j ts
stops_less j k [] le s = tt
stops_less j k (t ∷ ts) le s = omega (arith, s, le)

closes_stops : (w : Word) → closes w ≡ true → 16 < joins w
closes_stops (Named n) e = absurd (false-true e)
closes_stops (Literal n) e = absurd (false-true e)
closes_stops (Reserved k) e = absurd (false-true e)
closes_stops (Marked m) e = by m e
  where
    by : (m : Mark) → closes_mark m ≡ true → 16 < joins (Marked m)
    by RightParen e = omega arith
    by RightBracket e = omega arith
    by RightBrace e = omega arith
    by Semicolon e = omega arith
    by Comma e = omega arith
    by Colon e = omega arith
    by _ e = absurd (false-true e)

pub stops_closed : (k : ℕ) (ts : List Token) → k ≤ 16 → passes closes ts ≡ true → StopsAt k ts
stops_closed k [] le e = tt
stops_closed k (t ∷ ts) le e = let j = closes_stops t.word e in omega (arith, j, le)

no_gap : (m : Mark) → 2 < joins (Marked m) → 3 < joins (Marked m)
no_gap LeftParen lt = absurd (omega (arith, lt))
no_gap _ lt = omega (arith, lt)

-- no word goes on at the level of casts
pub stops_gap : (ts : List Token) → StopsAt 2 ts → StopsAt 3 ts
stops_gap [] s = tt
stops_gap (t ∷ ts) s = by t.word s
  where
    by : (w : Word) → 2 < joins w → 3 < joins w
    by (Named n) lt = omega arith
    by (Literal n) lt = omega arith
    by (Reserved k) lt = omega arith
    by (Marked m) lt = no_gap m lt

pub assignment_joins : (m : Mark) → is_assignment m ≡ true → joins (Marked m) ≡ 16
assignment_joins Equals e = refl
assignment_joins StarEquals e = refl
assignment_joins SlashEquals e = refl
assignment_joins PercentEquals e = refl
assignment_joins PlusEquals e = refl
assignment_joins MinusEquals e = refl
assignment_joins ShiftLeftEquals e = refl
assignment_joins ShiftRightEquals e = refl
assignment_joins AmpersandEquals e = refl
assignment_joins CaretEquals e = refl
assignment_joins BarEquals e = refl
assignment_joins _ e = absurd (false-true e)

pub infix_bound : (m : Mark) → infix_level m ≤ 10
infix_bound Star = omega arith
infix_bound _ = omega arith
