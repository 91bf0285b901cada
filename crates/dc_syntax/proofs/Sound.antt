-- What is read is spelled so, and is no higher than the budget: expressions, type-names, specs and declarators.
use Rattle.std.proofs.Common.{◌≡◌, ℕ, zero, suc, ◌+◌, ◌≤◌, Bool, true, false, ◌==◌, ◌||◌, ◌&&◌, not, List, [], ◌∷◌, length, refl, sym, ap, ◌∙◌, subst, arith}
use Rattle.std.proofs.lemmas.Bool.Decides.{nat_tests}
use Rattle.std.specs.Prelude.{nat_le, nat_lt}
use Rattle.dc_syntax.specs.declared.mark.Mark.{Mark}
use Rattle.dc_syntax.specs.declared.mark.Mark.TheVariants.{LeftParen, RightParen, LeftBracket, RightBracket, LeftBrace, RightBrace, Comma, Dot, Arrow, Increment, Decrement, Star, Equals}
use Rattle.dc_syntax.specs.declared.keyword.Keyword.{Keyword}
use Rattle.dc_syntax.specs.Tokens.{Word, Named, Literal, Marked, Reserved, Token, Place, is_word, infix_level, is_prefix, is_step, is_assignment, is_quantifier, is_qualifier, is_spec_word, sizeof_word, struct_word, enum_word, void_word, is_void_word}
use Rattle.dc_syntax.specs.declared.keyword.Keyword.TheVariants.{Void}
use Rattle.dc_syntax.specs.Names.{Names, in_force}
use Rattle.dc_syntax.specs.Trees.{Item, Assigned, Condition, Parameters, Declared, Enumerators, Tag, NoTag, Tagged, Tree, Name, Constant, Paren, Quantifier, Index, Call, Member, Through, After, Before, Prefix, SizeofExpression, SizeofType, Cast, Binary, Implies, Conditional, Assign, NoArguments, Arguments, NoMore, More, TypeName, LastSpec, Specs, SpecWord, SpecName, StructBody, StructTag, EnumBody, EnumTag, NoMembers, Members, MemberDeclaration, Enumerator, EnumeratorValue, Nameless, DeclaredName, Wrapped, Unsized, Sized, Function, Pointer, NoParameters, SomeParameters, Parameter, Sort, IsExpression, IsArguments, IsMore, IsTypeName, IsSpecs, IsSpec, IsMembers, IsMember, IsEnumerator, IsDeclarator, IsParameters, IsParameter, sort_of, level_of, is_nameless, is_direct, is_named, is_type_spec, is_type_name, names_type, has_body, is_void_spec, is_lone_void, is_void_parameter, is_no_more, naming, declared, tag_height, height}
use Rattle.dc_syntax.specs.Phrases.{IsWord, mark, keyword, Where, Within, Sorted, Placed, Maybe, Absent, Present, tag, qualifiers, begins_specs, leaves}
use Rattle.dc_syntax.specs.Grammar.{item, goes_on, is_infix, Is}
use Rattle.dc_syntax.specs.Reading.{Out, Found, between, found, begins, Upto, MemberOf, EnumeratorOf, DeclaratorOf, Reads, has_more, more, begins_declarator, declarator_or_none, declarator_named, members, struct_body, enum_body, spec_at, spec, takes, specs_from, specs, bare, type_name, parameter, parameters, member, enumerator, qualified_at, qualified, loop, once, opens, direct_mark, direct_at, direct, length_at, suffix_mark, suffix_at, suffix_one, declarator, quantified, primary_mark, primary_at, primary, arguments, postfix_mark, postfix_at, postfix_one, postfix, begins_cast, sizeof_at, unary_at, unary, cast, binary_at, binary_one, binary, implies_one, implied, conditional_one, conditional, assign_at, assign_word, assign_one, assign, above, upto, step, reads}
use Rattle.dc_syntax.proofs.Words.{word_is, false-true, eq_is}
use Rattle.dc_syntax.proofs.Base.{Front, front_then, front_word, front_placed, front_empty, front_where, front_within, front_sorted, front_leaves, front_opens, split, unplaced, held, sorted, empty_is, Gives, gives_nothing, gives_found, gives_next, gives_kept, gives_if, gives_checked, gives_eat, gives_named, gives_weaken}

-- an expression of at most this level
pub record ReadUpto (env : Names) (k h : ℕ) (all : List Token) (tree : Tree) (rest : List Token) : Type 0 where
  pub is : Front (Is env tree) all rest
  pub sort : sort_of tree ≡ IsExpression
  pub level : level_of tree ≤ k
  pub height : height tree ≤ h

-- a tree of this sort
pub record ReadAs (env : Names) (s : Sort) (h : ℕ) (all : List Token) (tree : Tree) (rest : List Token) : Type 0 where
  pub is : Front (Is env tree) all rest
  pub sort : sort_of tree ≡ s
  pub height : height tree ≤ h

pub record Sound (r : Reads) (h : ℕ) : Type 0 where
  pub upto : (k : ℕ) (env : Names) (ts : List Token) → Gives (ReadUpto env k h ts) (r (Upto k) env ts)
  pub member : (env : Names) (ts : List Token) → Gives (ReadAs env IsMember h ts) (r MemberOf env ts)
  pub enumerator : (env : Names) (ts : List Token) → Gives (ReadAs env IsEnumerator h ts) (r EnumeratorOf env ts)
  pub declarator : (env : Names) (ts : List Token) → Gives (ReadAs env IsDeclarator h ts) (r DeclaratorOf env ts)

pub within : {k n h : ℕ} {env : Names} {all rest : List Token} {e : Tree} → ReadUpto env k h all e rest → k ≤ n → Front (Within n e (Is env e)) all rest
within {k} {n} {h} {env} {all} {rest} {e} q le = front_within q.sort (omega (arith, q.level)) q.is

pub exactly : {s : Sort} {h : ℕ} {env : Names} {all rest : List Token} {e : Tree} → ReadAs env s h all e rest → Front (Sorted s e (Is env e)) all rest
exactly q = front_sorted q.sort q.is

-- a tree that has just been put together
gives : {env : Names} {k h : ℕ} {all rest : List Token} {A : List Token → Type 0} (node : Place → Tree)
    → Is env (node (between all rest)) ≡ Placed (between all rest) A → Front A all rest → sort_of (node (between all rest)) ≡ IsExpression → level_of (node (between all rest)) ≤ k → height (node (between all rest)) ≤ h
    → Gives (ReadUpto env k h all) (found all node rest)
gives {env} {k} {h} {all} {rest} {A} node e f sort level height =
    gives_found (node (between all rest)) rest (record { is = subst (λ B. Front B all rest) (sym e) (front_placed f); sort = sort; level = level; height = height })

gives_as : {env : Names} {s : Sort} {h : ℕ} {all rest : List Token} {A : List Token → Type 0} (node : Place → Tree)
    → Is env (node (between all rest)) ≡ Placed (between all rest) A → Front A all rest → sort_of (node (between all rest)) ≡ s → height (node (between all rest)) ≤ h
    → Gives (ReadAs env s h all) (found all node rest)
gives_as {env} {s} {h} {all} {rest} {A} node e f sort height =
    gives_found (node (between all rest)) rest (record { is = subst (λ B. Front B all rest) (sym e) (front_placed f); sort = sort; height = height })

raised : {env : Names} {h m n : ℕ} {all : List Token} {o : Out Tree} → m ≤ n → Gives (ReadUpto env m h all) o → Gives (ReadUpto env n h all) o
raised {env} {h} {m} {n} {all} {o} le g = gives_weaken g (λ e rest q. record { is = q.is; sort = q.sort; level = let a = q.level in omega (arith, a); height = q.height })

pub le_is : (m n : ℕ) → nat_le m n ≡ true → m ≤ n
le_is m n e = grind (arith, nat_tests)

and_first : {a : Bool} (b : Bool) → (a && b) ≡ true → a ≡ true
and_first {a} b e = elim a as (λ a. (a && b) ≡ true → a ≡ true) [ true ↦ λ e. refl | false ↦ λ e. e ] e

and_second : (a : Bool) {b : Bool} → (a && b) ≡ true → b ≡ true
and_second a {b} e = elim a as (λ a. (a && b) ≡ true → b ≡ true) [ true ↦ λ e. e | false ↦ λ e. absurd (false-true e) ] e

-- lists with commas
pub record IsItem (env : Names) (i : Item) (h : ℕ) (all : List Token) (tree : Tree) (rest : List Token) : Type 0 where
  pub is : Front (item i tree (Is env tree)) all rest
  pub height : height tree ≤ h

pub more_sound : (one : Names → List Token → Out Tree) (i : Item) (h : ℕ) → ((env : Names) (ts : List Token) → Gives (IsItem env i h ts) (one env ts)) → (env : Names) (n : ℕ) (ts : List Token) → Gives (ReadAs env (IsMore i) h ts) (more one i env n ts)
more_sound one i h s env zero ts = gives_found (NoMore i) ts (record { is = front_empty ts; sort = refl; height = omega arith })
more_sound one i h s env (suc n) ts =
    gives_if {b = has_more ts} (λ _. gives_eat (λ ts f. gives_next (s env ts) (λ a rest qa. gives_next (more_sound one i h s (declared a env) n rest) (λ m rest' qm.
    gives_found (More i a m) rest' (record { is = front_then f (front_then qa.is (exactly qm)); sort = refl; height = omega (arith, qa.height, qm.height) })))))
    (λ _. gives_found (NoMore i) ts (record { is = front_empty ts; sort = refl; height = omega arith }))

assigned_sound : (r : Reads) (h : ℕ) → Sound r h → (env : Names) (ts : List Token) → Gives (IsItem env Assigned h ts) (r (Upto 16) env ts)
assigned_sound r h s env ts = gives_weaken (s.upto 16 env ts) (λ e rest q. record { is = within q (omega arith); height = q.height })

pub condition_sound : (r : Reads) (h : ℕ) → Sound r h → (env : Names) (ts : List Token) → Gives (IsItem env Condition h ts) (r (Upto 15) env ts)
condition_sound r h s env ts = gives_weaken (s.upto 15 env ts) (λ e rest q. record { is = within q (omega arith); height = q.height })

enumerators_sound : (r : Reads) (h : ℕ) → Sound r h → (env : Names) (ts : List Token) → Gives (IsItem env Enumerators h ts) (r EnumeratorOf env ts)
enumerators_sound r h s env ts = gives_weaken (s.enumerator env ts) (λ e rest q. record { is = exactly q; height = q.height })

pub named_sound : (r : Reads) (h : ℕ) → Sound r h → (env : Names) (ts : List Token) → Gives (IsItem env Declared h ts) (declarator_named r env ts)
named_sound r h s env ts = gives_next (s.declarator env ts) (λ d rest q. gives_checked (is_named d) (λ e. gives_found d rest (record { is = front_where e (exactly q); height = q.height })))

-- specs
members_sound : (r : Reads) (h : ℕ) → Sound r h → (env : Names) (n : ℕ) (ts : List Token) → Gives (ReadAs env IsMembers h ts) (members r env n ts)
members_sound r h s env zero ts = gives_found NoMembers ts (record { is = front_empty ts; sort = refl; height = omega arith })
members_sound r h s env (suc n) ts =
    gives_if {b = begins (Marked RightBrace) ts} (λ _. gives_found NoMembers ts (record { is = front_empty ts; sort = refl; height = omega arith }))
    (λ _. gives_next (s.member env ts) (λ a rest qa. gives_next (members_sound r h s (declared a env) n rest) (λ m rest' qm.
    gives_found (Members a m) rest' (record { is = front_then (exactly qa) (exactly qm); sort = refl; height = omega (arith, qa.height, qm.height) }))))

-- a spec; behind a type it is no TYPEDEF-NAME
pub record ReadSpec (env : Names) (typed : Bool) (h : ℕ) (all : List Token) (tree : Tree) (rest : List Token) : Type 0 where
  pub is : Front (Is env tree) all rest
  pub sort : sort_of tree ≡ IsSpec
  pub height : height tree ≤ h
  pub free : typed ≡ true → is_type_name tree ≡ false

gives_spec : {env : Names} {typed : Bool} {h : ℕ} {all rest : List Token} {A : List Token → Type 0} (node : Place → Tree)
    → Is env (node (between all rest)) ≡ Placed (between all rest) A → Front A all rest → sort_of (node (between all rest)) ≡ IsSpec → height (node (between all rest)) ≤ h
    → (typed ≡ true → is_type_name (node (between all rest)) ≡ false) → Gives (ReadSpec env typed h all) (found all node rest)
gives_spec {env} {typed} {h} {all} {rest} {A} node e f sort height free =
    gives_found (node (between all rest)) rest (record { is = subst (λ B. Front B all rest) (sym e) (front_placed f); sort = sort; height = height; free = free })

struct_sound : (r : Reads) (h : ℕ) → Sound r h → (env : Names) (typed : Bool) (all ts ts' : List Token) (t : Tag) → Front (IsWord struct_word) all ts → Front (tag t) ts ts' → tag_height t ≤ h → Gives (ReadSpec env typed h all) (struct_body r env all t ts')
struct_sound r h s env typed all ts ts' t f g le =
    gives_eat (λ rest o. gives_next (members_sound r h s env (length rest) rest) (λ m rest' q. gives_eat (λ rest'' e.
    gives_spec (StructBody t m) refl (front_then f (front_then g (front_then o (front_then (exactly q) e)))) refl (omega (arith, le, q.height)) (λ _. refl))))

pub present : {A : List Token → Type 0} {all rest : List Token} → Front A all rest → Front (Maybe A) all rest
present f = record { front = f.front; whole = f.whole; is = Present f.is }

pub absent : {A : List Token → Type 0} (all : List Token) → Front (Maybe A) all all
absent all = record { front = []; whole = refl; is = Absent refl }

enum_sound : (r : Reads) (h : ℕ) → Sound r h → (env : Names) (typed : Bool) (all ts ts' : List Token) (t : Tag) → Front (IsWord enum_word) all ts → Front (tag t) ts ts' → tag_height t ≤ h → Gives (ReadSpec env typed h all) (enum_body r env all t ts')
enum_sound r h s env typed all ts ts' t f g le =
    gives_eat (λ rest o. gives_next (s.enumerator env rest) (λ a rest' qe. gives_next (more_sound (r EnumeratorOf) Enumerators h (enumerators_sound r h s) (declared a env) (length rest') rest') (λ m rest'' qm.
    gives_if {b = begins (Marked Comma) rest''}
    (λ _. gives_eat (λ rest3 c. gives_eat (λ rest4 e.
    gives_spec (EnumBody t a m) refl (front_then f (front_then g (front_then o (front_then (exactly qe) (front_then (exactly qm) (front_then (present c) e)))))) refl (omega (arith, le, qe.height, qm.height)) (λ _. refl))))
    (λ _. gives_eat (λ rest4 e.
    gives_spec (EnumBody t a m) refl (front_then f (front_then g (front_then o (front_then (exactly qe) (front_then (exactly qm) (front_then (absent rest'') e)))))) refl (omega (arith, le, qe.height, qm.height)) (λ _. refl))))))

not_true : (b : Bool) → not b ≡ true → b ≡ true → ⊥
not_true true e f = false-true e
not_true false e f = false-true f

spec_at_sound : (r : Reads) (h : ℕ) → Sound r h → (env : Names) (typed : Bool) (all ts : List Token) (w : Word) → Front (IsWord w) all ts → Gives (ReadSpec env typed h all) (spec_at r h env typed all w ts)
spec_at_sound r h s env typed all ts (Named n) f =
    gives_checked (not typed && (in_force env n && nat_le 1 h)) (λ e. let e' = and_second (not typed) e in
    let one = le_is 1 h (and_second (in_force env n) e') in
    gives_spec (SpecName n) refl (front_where (and_first (nat_le 1 h) e') f) refl one (λ y. absurd (not_true typed (and_first (in_force env n && nat_le 1 h) e) y)))
spec_at_sound r h s env typed all ts (Literal n) f = gives_nothing
spec_at_sound r h s env typed all ts (Marked m) f = gives_nothing
spec_at_sound r h s env typed all ts (Reserved k) f =
    gives_if {b = is_word struct_word (Reserved k)}
    (λ e. let g : Front (IsWord struct_word) all ts = subst (λ w. Front (IsWord w) all ts) (word_is struct_word (Reserved k) e) f in
    gives_if {b = begins (Marked LeftBrace) ts} (λ _. struct_sound r h s env typed all ts ts NoTag g (front_empty ts) (omega arith))
    (λ _. gives_checked (nat_le 1 h) (λ le. gives_named ts (λ n rest t. let one = le_is 1 h le in
    gives_if {b = begins (Marked LeftBrace) rest} (λ _. struct_sound r h s env typed all ts rest (Tagged n (between ts rest)) g (front_placed t) one)
    (λ _. gives_spec (StructTag n) refl (front_then g t) refl one (λ _. refl))))))
    (λ _. gives_if {b = is_word enum_word (Reserved k)}
    (λ e. let g : Front (IsWord enum_word) all ts = subst (λ w. Front (IsWord w) all ts) (word_is enum_word (Reserved k) e) f in
    gives_if {b = begins (Marked LeftBrace) ts} (λ _. enum_sound r h s env typed all ts ts NoTag g (front_empty ts) (omega arith))
    (λ _. gives_checked (nat_le 1 h) (λ le. gives_named ts (λ n rest t. let one = le_is 1 h le in
    gives_if {b = begins (Marked LeftBrace) rest} (λ _. enum_sound r h s env typed all ts rest (Tagged n (between ts rest)) g (front_placed t) one)
    (λ _. gives_spec (EnumTag n) refl (front_then g t) refl one (λ _. refl))))))
    (λ _. gives_checked (is_spec_word k) (λ e. gives_spec (SpecWord k) refl (front_where e f) refl (omega arith) (λ _. refl))))

spec_sound : (r : Reads) (h : ℕ) → Sound r h → (env : Names) (typed : Bool) (ts : List Token) → Gives (ReadSpec env typed h ts) (spec r h env typed ts)
spec_sound r h s env typed [] = gives_nothing
spec_sound r h s env typed (t ∷ ts) = spec_at_sound r h s env typed (t ∷ ts) ts t.word (front_word t ts refl refl)

pub record ReadSpecs (env : Names) (typed : Bool) (h : ℕ) (all : List Token) (tree : Tree) (rest : List Token) : Type 0 where
  pub is : Front (Is env tree) all rest
  pub sort : sort_of tree ≡ IsSpecs
  pub height : height tree ≤ h
  pub free : typed ≡ true → names_type tree ≡ false

or_left : {a : Bool} (b : Bool) → a ≡ true → (a || b) ≡ true
or_left {a} b e = ap (λ a. a || b) e

or_none : {a b : Bool} → a ≡ false → b ≡ false → (a || b) ≡ false
or_none {a} {b} p q = ap (λ a. a || b) p ∙ q

or_right : (a : Bool) {b : Bool} → b ≡ true → (a || b) ≡ true
or_right true e = refl
or_right false e = e

-- behind a type no TYPEDEF-NAME was taken
free_goes_on : (s m : Tree) → (is_type_spec s ≡ true → names_type m ≡ false) → goes_on s m ≡ true
free_goes_on s m f = by (is_type_spec s) f
  where
    by : (b : Bool) → (b ≡ true → names_type m ≡ false) → not (b && names_type m) ≡ true
    by true f = ap not (f refl)
    by false f = refl

specs_from_sound : (r : Reads) (h : ℕ) → Sound r h → (env : Names) (typed : Bool) (n : ℕ) (ts : List Token) → Gives (ReadSpecs env typed h ts) (specs_from r h env typed n ts)
specs_from_sound r h s env typed zero ts = gives_nothing
specs_from_sound r h s env typed (suc n) ts =
    gives_next (spec_sound r h s env typed ts) (λ a rest q.
    gives_if {b = takes (typed || is_type_spec a) (declared a env) rest}
    (λ _. gives_next (specs_from_sound r h s (declared a env) (typed || is_type_spec a) n rest) (λ m rest' qm.
    gives_found (Specs a m) rest' (record {
      is = front_where (free_goes_on a m (λ y. qm.free (or_right typed y))) (front_then (front_sorted q.sort q.is) (front_sorted qm.sort qm.is));
      sort = refl;
      height = omega (arith, q.height, qm.height);
      free = λ y. or_none (q.free y) (qm.free (or_left (is_type_spec a) y));
    })))
    (λ _. gives_found (LastSpec a) rest (record { is = front_sorted q.sort q.is; sort = refl; height = q.height; free = q.free })))

pub specs_sound : (r : Reads) (h : ℕ) → Sound r h → (env : Names) (ts : List Token) → Gives (ReadAs env IsSpecs h ts) (specs r h env ts)
specs_sound r h s env ts = gives_weaken (specs_from_sound r h s env false (length ts) ts) (λ e rest q. record { is = q.is; sort = q.sort; height = q.height })

-- specs without braces, and what may stand behind them
pub record ReadBare (env : Names) (h : ℕ) (all : List Token) (tree : Tree) (rest : List Token) : Type 0 where
  pub is : Front (Where (not (has_body tree)) (Sorted IsSpecs tree (Is env tree))) all rest
  pub height : height tree ≤ h
  pub leaves : leaves env tree rest ≡ true

bare_sound : {P : Tree → List Token → Type 0} (r : Reads) (h : ℕ) → Sound r h → (env : Names) (ts : List Token) {go : Tree → List Token → Out Tree}
    → ((a : Tree) (rest : List Token) → ReadBare env h ts a rest → Gives P (go a rest)) → Gives P (bare r h env ts go)
bare_sound r h s env ts f =
    gives_next (specs_sound r h s env ts) (λ a rest q. gives_checked (not (has_body a)) (λ b. gives_checked (leaves env a rest) (λ l.
    f a rest (record { is = front_where b (exactly q); height = q.height; leaves = l }))))

or_nameless : (r : Reads) (h : ℕ) → Sound r h → (env : Names) (ts : List Token) → Gives (ReadAs env IsDeclarator h ts) (declarator_or_none r env ts)
or_nameless r h s env ts = gives_if {b = begins_declarator ts} (λ _. s.declarator env ts) (λ _. gives_found Nameless ts (record { is = front_empty ts; sort = refl; height = omega arith }))

type_name_sound : (r : Reads) (h : ℕ) → Sound r h → (env : Names) (ts : List Token) → Gives (ReadAs env IsTypeName h ts) (type_name r h env ts)
type_name_sound r h s env all =
    bare_sound r h s env all (λ a rest q. gives_next (or_nameless r h s env rest) (λ d rest' qd. gives_checked (not (is_named d)) (λ n.
    gives_as (TypeName a d) refl (front_then q.is (front_leaves env a q.leaves (front_where n (exactly qd)))) refl (omega (arith, q.height, qd.height)))))

parameter_sound : (r : Reads) (h : ℕ) → Sound r h → (env : Names) (ts : List Token) → Gives (ReadAs env IsParameter h ts) (parameter r h env ts)
parameter_sound r h s env all =
    bare_sound r h s env all (λ a rest q. gives_next (or_nameless r h s env rest) (λ d rest' qd.
    gives_as (Parameter a d) refl (front_then q.is (front_leaves env a q.leaves (exactly qd))) refl (omega (arith, q.height, qd.height))))

parameter_item : (r : Reads) (h : ℕ) → Sound r h → (env : Names) (ts : List Token) → Gives (IsItem env Parameters h ts) (parameter r h env ts)
parameter_item r h s env ts = gives_weaken (parameter_sound r h s env ts) (λ e rest q. record { is = exactly q; height = q.height })

void_is : (k : Keyword) → is_void_word k ≡ true → k ≡ Void
void_is Void e = refl
void_is _ e = absurd (false-true e)

-- the parameter that is only `void`, and no more
void_spec : (env : Names) (a : Tree) (all mid : List Token) → is_void_spec a ≡ true → Front (Is env a) all mid → Front (IsWord void_word) all mid
void_spec env (SpecWord k q) all mid e f = let w = (held (unplaced f).is).is in subst (λ k. Front (IsWord (Reserved k)) all mid) (void_is k e) w
void_spec env _ all mid e f = absurd (false-true e)

lone_void : (env : Names) (a : Tree) (all mid : List Token) → is_lone_void a ≡ true → Front (Is env a) all mid → Front (IsWord void_word) all mid
lone_void env (LastSpec a) all mid e f = void_spec env a all mid e (sorted f).is
lone_void env _ all mid e f = absurd (false-true e)

nameless_is : (env : Names) (d : Tree) (mid rest : List Token) → is_nameless d ≡ true → Front (Is env d) mid rest → mid ≡ rest
nameless_is env Nameless mid rest e f = empty_is f
nameless_is env _ mid rest e f = absurd (false-true e)

void_parameter : (env : Names) (a : Tree) (all mid : List Token) → is_void_parameter a ≡ true → Front (Is env a) all mid → Front (IsWord void_word) all mid
void_parameter env (Parameter a d p) all mid e f =
    let s1 = split (unplaced f).is in
    let o : Front (Is env d) s1.mid mid = record { front = s1.second.front; whole = s1.second.whole; is = s1.second.is.is.is } in
    subst (λ l. Front (IsWord void_word) all l) (nameless_is env d s1.mid mid (and_second (is_lone_void a) e) o) (lone_void env a all s1.mid (and_first (is_nameless d) e) (sorted (held s1.first).is).is)
void_parameter env _ all mid e f = absurd (false-true e)

no_more_is : (env : Names) (m : Tree) (mid rest : List Token) → is_no_more m ≡ true → Front (Is env m) mid rest → mid ≡ rest
no_more_is env (NoMore i) mid rest e f = empty_is f
no_more_is env _ mid rest e f = absurd (false-true e)

void_list : (env : Names) (a m : Tree) (all mid rest : List Token) → (is_void_parameter a && is_no_more m) ≡ true → Front (Is env a) all mid → Front (Is (declared a env) m) mid rest → Front (IsWord void_word) all rest
void_list env a m all mid rest e f g = subst (λ l. Front (IsWord void_word) all l) (no_more_is (declared a env) m mid rest (and_second (is_void_parameter a) e) g) (void_parameter env a all mid (and_first (is_no_more m) e) f)

pub parameters_sound : (r : Reads) (h : ℕ) → Sound r h → (env : Names) (ts : List Token) → Gives (ReadAs env IsParameters h ts) (parameters r h env ts)
parameters_sound r h s env ts =
    gives_if {b = begins (Marked RightParen) ts} (λ _. gives_found NoParameters ts (record { is = absent ts; sort = refl; height = omega arith }))
    (λ _. gives_next (parameter_sound r h s env ts) (λ a rest q. gives_next (more_sound (parameter r h) Parameters h (parameter_item r h s) (declared a env) (length rest) rest) (λ m rest' qm.
    gives_if {b = is_void_parameter a && is_no_more m}
    (λ v. gives_found NoParameters rest' (record { is = present (void_list env a m ts rest rest' v q.is qm.is); sort = refl; height = omega arith }))
    (λ v. gives_found (SomeParameters a m) rest' (record { is = front_where (ap not v) (front_then (exactly q) (exactly qm)); sort = refl; height = omega (arith, q.height, qm.height) })))))

member_sound : (r : Reads) (h : ℕ) → Sound r h → (env : Names) (ts : List Token) → Gives (ReadAs env IsMember (suc h) ts) (member r h env ts)
member_sound r h s env all =
    gives_next (specs_sound r h s env all) (λ a rest q. gives_checked (leaves (declared a env) a rest) (λ l. gives_next (named_sound r h s (declared a env) rest) (λ d rest' qd.
    gives_next (more_sound (declarator_named r) Declared h (named_sound r h s) (declared a env) (length rest') rest') (λ m rest'' qm. gives_eat (λ rest3 e.
    gives_as (MemberDeclaration a d m) refl (front_then (exactly q) (front_then (front_leaves (declared a env) a l qd.is) (front_then (exactly qm) e))) refl (omega (arith, q.height, qd.height, qm.height)))))))

enumerator_sound : (r : Reads) (h : ℕ) → Sound r h → (env : Names) (ts : List Token) → Gives (ReadAs env IsEnumerator (suc h) ts) (enumerator r h env ts)
enumerator_sound r h s env all =
    gives_checked (nat_le 1 h) (λ le. let one = le_is 1 h le in gives_named all (λ n rest f.
    gives_if {b = begins (Marked Equals) rest}
    (λ _. gives_eat (λ ts g. gives_next (s.upto 15 env ts) (λ c rest' q. gives_as (EnumeratorValue n c) refl (front_then f (front_then g (within q (omega arith)))) refl (omega (arith, q.height)))))
    (λ _. gives_as (Enumerator n) refl f refl (omega (arith, one)))))

-- declarators
pub record Qualifies (t : Token) (ts : List Token) (k : Keyword) : Type 0 where
  pub holds : is_qualifier k ≡ true
  pub is : Front (keyword k) (t ∷ ts) ts

qualified_sound : {P : Tree → List Token → Type 0} (ts : List Token) {go : List Keyword → List Token → Out Tree}
    → ((ks : List Keyword) (rest : List Token) → Front (qualifiers ks) ts rest → Gives P (go ks rest)) → Gives P (qualified ts go)
qualified_sound [] f = f [] [] (front_empty [])
qualified_sound {P} (t ∷ ts) {go} f = at_word t.word refl (λ k. qualified ts (λ ks rest. go (k ∷ ks) rest)) (λ k g. qualified_sound ts (λ ks rest q. f (k ∷ ks) rest (front_where g.holds (front_then g.is q))))
  where
    at_word : (w : Word) → t.word ≡ w → (one : Keyword → Out Tree) → ((k : Keyword) → Qualifies t ts k → Gives P (one k)) → Gives P (qualified_at w one (go [] (t ∷ ts)))
    at_word (Named n) e one g = f [] (t ∷ ts) (front_empty (t ∷ ts))
    at_word (Literal n) e one g = f [] (t ∷ ts) (front_empty (t ∷ ts))
    at_word (Marked m) e one g = f [] (t ∷ ts) (front_empty (t ∷ ts))
    at_word (Reserved k) e one g = gives_if {b = is_qualifier k} (λ y. g k (record { holds = y; is = front_word t ts refl e })) (λ _. f [] (t ∷ ts) (front_empty (t ∷ ts)))

-- a direct declarator
pub record ReadDirect (env : Names) (h : ℕ) (all : List Token) (tree : Tree) (rest : List Token) : Type 0 where
  pub is : Front (Is env tree) all rest
  pub sort : sort_of tree ≡ IsDeclarator
  pub height : height tree ≤ h
  pub direct : is_direct tree ≡ true

gives_direct : {env : Names} {h : ℕ} {all rest : List Token} {A : List Token → Type 0} (node : Place → Tree)
    → Is env (node (between all rest)) ≡ Placed (between all rest) A → Front A all rest → sort_of (node (between all rest)) ≡ IsDeclarator → height (node (between all rest)) ≤ h
    → is_direct (node (between all rest)) ≡ true → Gives (ReadDirect env h all) (found all node rest)
gives_direct {env} {h} {all} {rest} {A} node e f sort height direct =
    gives_found (node (between all rest)) rest (record { is = subst (λ B. Front B all rest) (sym e) (front_placed f); sort = sort; height = height; direct = direct })

nameless_here : (env : Names) (h : ℕ) (ts : List Token) → Gives (ReadDirect env h ts) (Found Nameless ts)
nameless_here env h ts = gives_found Nameless ts (record { is = front_empty ts; sort = refl; height = omega arith; direct = refl })

not_opens : (a b : Bool) → not (a || b) ≡ true → not b ≡ true
not_opens true b e = absurd (false-true e)
not_opens false b e = e

direct_mark_sound : (r : Reads) (h : ℕ) → Sound r h → (env : Names) (all ts : List Token) (m : Mark) → Front (mark m) all ts → Gives (ReadDirect env (suc h) all) (direct_mark r env all m ts)
direct_mark_sound r h s env all ts LeftParen f =
    gives_if {b = opens env ts}
    (λ o. gives_next (s.declarator env ts) (λ d rest q. gives_checked (not (is_nameless d)) (λ n. gives_eat (λ rest' g.
    gives_direct (Wrapped d) refl (front_where n (front_then f (front_then (front_opens env (not_opens (begins (Marked RightParen) ts) (begins_specs env ts) o) (exactly q)) g))) refl (omega (arith, q.height)) refl))))
    (λ _. nameless_here env (suc h) all)
direct_mark_sound r h s env all ts _ f = nameless_here env (suc h) all

direct_at_sound : (r : Reads) (h : ℕ) → Sound r h → (env : Names) (all ts : List Token) (w : Word) → Front (IsWord w) all ts → Gives (ReadDirect env (suc h) all) (direct_at r env all w ts)
direct_at_sound r h s env all ts (Named n) f = gives_direct (DeclaredName n) refl f refl (omega arith) refl
direct_at_sound r h s env all ts (Literal n) f = nameless_here env (suc h) all
direct_at_sound r h s env all ts (Marked m) f = direct_mark_sound r h s env all ts m f
direct_at_sound r h s env all ts (Reserved k) f = nameless_here env (suc h) all

direct_sound : (r : Reads) (h : ℕ) → Sound r h → (env : Names) (ts : List Token) → Gives (ReadDirect env (suc h) ts) (direct r env ts)
direct_sound r h s env [] = nameless_here env (suc h) []
direct_sound r h s env (t ∷ ts) = direct_at_sound r h s env (t ∷ ts) ts t.word (front_word t ts refl refl)

at_direct : {env : Names} {h : ℕ} {all mid : List Token} {d : Tree} → ReadDirect env h all d mid → Front (Sorted IsDeclarator d (Is env d)) all mid
at_direct q = front_sorted q.sort q.is

length_sound : (r : Reads) (h : ℕ) → Sound r h → (env : Names) (all mid ts : List Token) (d : Tree) → ReadDirect env (suc h) all d mid → height d ≤ h → Front (mark LeftBracket) mid ts
    → Gives (ReadDirect env (suc h) all) (length_at r env all d ts)
length_sound r h s env all mid ts d q le f =
    gives_if {b = begins (Marked RightBracket) ts}
    (λ _. gives_eat (λ rest g. gives_direct (Unsized d) refl (front_where q.direct (front_then (at_direct q) (front_then f g))) refl (omega (arith, le)) refl))
    (λ _. gives_next (s.upto 15 env ts) (λ c rest qc. gives_eat (λ rest' g.
    gives_direct (Sized d c) refl (front_where q.direct (front_then (at_direct q) (front_then f (front_then (within qc (omega arith)) g)))) refl (omega (arith, le, qc.height)) refl)))

suffix_mark_sound : (r : Reads) (h : ℕ) → Sound r h → (env : Names) (all mid ts : List Token) (d : Tree) (m : Mark) → ReadDirect env (suc h) all d mid → height d ≤ h → Front (mark m) mid ts
    → Gives (ReadDirect env (suc h) all) (suffix_mark r h env all d m ts)
suffix_mark_sound r h s env all mid ts d LeftBracket q le f = length_sound r h s env all mid ts d q le f
suffix_mark_sound r h s env all mid ts d LeftParen q le f =
    gives_next (parameters_sound r h s env ts) (λ a rest qa. gives_eat (λ rest' g.
    gives_direct (Function d a) refl (front_where q.direct (front_then (at_direct q) (front_then f (front_then (exactly qa) g)))) refl (omega (arith, le, qa.height)) refl))
suffix_mark_sound r h s env all mid ts d _ q le f = gives_nothing

suffix_at_sound : (r : Reads) (h : ℕ) → Sound r h → (env : Names) (all mid ts : List Token) (d : Tree) (w : Word) → ReadDirect env (suc h) all d mid → height d ≤ h → Front (IsWord w) mid ts
    → Gives (ReadDirect env (suc h) all) (suffix_at r h env all d w ts)
suffix_at_sound r h s env all mid ts d (Named n) q le f = gives_nothing
suffix_at_sound r h s env all mid ts d (Literal n) q le f = gives_nothing
suffix_at_sound r h s env all mid ts d (Marked m) q le f = suffix_mark_sound r h s env all mid ts d m q le f
suffix_at_sound r h s env all mid ts d (Reserved k) q le f = gives_nothing

suffix_sound : (r : Reads) (h : ℕ) → Sound r h → (env : Names) (all mid : List Token) (d : Tree) → ReadDirect env (suc h) all d mid → height d ≤ h
    → Gives (ReadDirect env (suc h) all) (suffix_one r h env all d mid)
suffix_sound r h s env all [] d q le = gives_nothing
suffix_sound r h s env all (t ∷ ts) d q le = suffix_at_sound r h s env all (t ∷ ts) ts d t.word q le (front_word t ts refl refl)

loop_sound : {P : Tree → List Token → Type 0} (one : List Token → Tree → List Token → Out Tree) (h n : ℕ) (all : List Token)
    → ((e : Tree) (rest : List Token) → P e rest → height e ≤ h → Gives P (one all e rest)) → (e : Tree) (rest : List Token) → P e rest → Gives P (loop one h n all e rest)
loop_sound one h zero all f e rest p = gives_found e rest p
loop_sound {P} one h (suc n) all f e rest p =
    gives_kept (gives_if (λ le. f e rest p (le_is (height e) h le)) (λ le. gives_nothing)) (gives_found e rest p) (λ e rest p. loop_sound one h n all f e rest p)

once_sound : {P : Tree → List Token → Type 0} (one : List Token → Tree → List Token → Out Tree) (h : ℕ) (all : List Token) (e : Tree) (rest : List Token)
    → (height e ≤ h → Gives P (one all e rest)) → P e rest → Gives P (once one h all e rest)
once_sound {P} one h all e rest f p =
    gives_kept (gives_if (λ le. f (le_is (height e) h le)) (λ le. gives_nothing)) (gives_found e rest p) (λ e rest p. gives_found e rest p)

declarator_sound : (r : Reads) (h : ℕ) → Sound r h → (env : Names) (ts : List Token) → Gives (ReadAs env IsDeclarator (suc h) ts) (declarator r h env ts)
declarator_sound r h s env all =
    gives_if {b = begins (Marked Star) all}
    (λ _. gives_eat (λ ts f. qualified_sound ts (λ ks rest g. gives_next (or_nameless r h s env rest) (λ d rest' q.
    gives_as (Pointer ks d) refl (front_then f (front_then g (exactly q))) refl (omega (arith, q.height))))))
    (λ _. gives_next (direct_sound r h s env all) (λ d rest q. gives_weaken (loop_sound (suffix_one r h env) h (suc h) all (λ d rest q le. suffix_sound r h s env all rest d q le) d rest q)
    (λ d rest q. record { is = q.is; sort = q.sort; height = q.height })))

-- primary
quantified_sound : (r : Reads) (h : ℕ) → Sound r h → (env : Names) (all ts : List Token) (k : Keyword) → is_quantifier k ≡ true → Front (keyword k) all ts → Gives (ReadUpto env 0 (suc h) all) (quantified r h env all k ts)
quantified_sound r h s env all ts k y f =
    gives_eat (λ ts' o. bare_sound r h s env ts' (λ a rest q. gives_next (named_sound r h s env rest) (λ d rest' qd. gives_eat (λ ts'' e. gives_next (s.upto 15 (naming d false env) ts'') (λ c rest'' qc. gives_eat (λ rest3 g.
    gives (Quantifier k a d c) refl (front_where y (front_then f (front_then o (front_then q.is (front_then (front_leaves env a q.leaves qd.is) (front_then e (front_then (within qc (omega arith)) g))))))) refl (omega arith)
    (omega (arith, q.height, qd.height, qc.height))))))))

primary_mark_sound : (r : Reads) (h : ℕ) → Sound r h → (env : Names) (all ts : List Token) (m : Mark) → Front (mark m) all ts → Gives (ReadUpto env 0 (suc h) all) (primary_mark r env all m ts)
primary_mark_sound r h s env all ts LeftParen f =
    gives_next (s.upto 16 env ts) (λ e rest q. gives_eat (λ rest' g. gives (Paren e) refl (front_then f (front_then (within q (omega arith)) g)) refl (omega arith) (omega (arith, q.height))))
primary_mark_sound r h s env all ts _ f = gives_nothing

primary_at_sound : (r : Reads) (h : ℕ) → Sound r h → (env : Names) (all ts : List Token) (w : Word) → Front (IsWord w) all ts → Gives (ReadUpto env 0 (suc h) all) (primary_at r h env all w ts)
primary_at_sound r h s env all ts (Named n) f = gives_checked (not (in_force env n)) (λ e. gives (Name n) refl (front_where e f) refl (omega arith) (omega arith))
primary_at_sound r h s env all ts (Literal n) f = gives (Constant n) refl f refl (omega arith) (omega arith)
primary_at_sound r h s env all ts (Marked m) f = primary_mark_sound r h s env all ts m f
primary_at_sound r h s env all ts (Reserved k) f = gives_checked (is_quantifier k) (λ y. quantified_sound r h s env all ts k y f)

primary_sound : (r : Reads) (h : ℕ) → Sound r h → (env : Names) (ts : List Token) → Gives (ReadUpto env 0 (suc h) ts) (primary r h env ts)
primary_sound r h s env [] = gives_nothing
primary_sound r h s env (t ∷ ts) = primary_at_sound r h s env (t ∷ ts) ts t.word (front_word t ts refl refl)

-- postfix
pub arguments_sound : (r : Reads) (h : ℕ) → Sound r h → (env : Names) (ts : List Token) → Gives (ReadAs env IsArguments h ts) (arguments r env ts)
arguments_sound r h s env ts =
    gives_if {b = begins (Marked RightParen) ts} (λ _. gives_found NoArguments ts (record { is = front_empty ts; sort = refl; height = omega arith }))
    (λ _. gives_next (s.upto 16 env ts) (λ a rest qa. gives_next (more_sound (r (Upto 16)) Assigned h (assigned_sound r h s) env (length rest) rest) (λ m rest' qm.
    gives_found (Arguments a m) rest' (record { is = front_then (within qa (omega arith)) (exactly qm); sort = refl; height = omega (arith, qa.height, qm.height) }))))

postfix_mark_sound : (r : Reads) (h : ℕ) → Sound r h → (env : Names) (all mid ts : List Token) (e : Tree) (m : Mark) → ReadUpto env 1 (suc h) all e mid → height e ≤ h → Front (mark m) mid ts
    → Gives (ReadUpto env 1 (suc h) all) (postfix_mark r env all e m ts)
postfix_mark_sound r h s env all mid ts e LeftBracket q le f =
    gives_next (s.upto 16 env ts) (λ a rest qa. gives_eat (λ rest' g. gives (Index e a) refl (front_then (within q (omega arith)) (front_then f (front_then (within qa (omega arith)) g))) refl (omega arith) (omega (arith, le, qa.height))))
postfix_mark_sound r h s env all mid ts e LeftParen q le f =
    gives_next (arguments_sound r h s env ts) (λ a rest qa. gives_eat (λ rest' g. gives (Call e a) refl (front_then (within q (omega arith)) (front_then f (front_then (exactly qa) g))) refl (omega arith) (omega (arith, le, qa.height))))
postfix_mark_sound r h s env all mid ts e Dot q le f = gives_named ts (λ n rest g. gives (Member e n) refl (front_then (within q (omega arith)) (front_then f g)) refl (omega arith) (omega (arith, le)))
postfix_mark_sound r h s env all mid ts e Arrow q le f = gives_named ts (λ n rest g. gives (Through e n) refl (front_then (within q (omega arith)) (front_then f g)) refl (omega arith) (omega (arith, le)))
postfix_mark_sound r h s env all mid ts e Increment q le f = gives (After Increment e) refl (front_where refl (front_then (within q (omega arith)) f)) refl (omega arith) (omega (arith, le))
postfix_mark_sound r h s env all mid ts e Decrement q le f = gives (After Decrement e) refl (front_where refl (front_then (within q (omega arith)) f)) refl (omega arith) (omega (arith, le))
postfix_mark_sound r h s env all mid ts e _ q le f = gives_nothing

postfix_at_sound : (r : Reads) (h : ℕ) → Sound r h → (env : Names) (all mid ts : List Token) (e : Tree) (w : Word) → ReadUpto env 1 (suc h) all e mid → height e ≤ h → Front (IsWord w) mid ts
    → Gives (ReadUpto env 1 (suc h) all) (postfix_at r env all e w ts)
postfix_at_sound r h s env all mid ts e (Named n) q le f = gives_nothing
postfix_at_sound r h s env all mid ts e (Literal n) q le f = gives_nothing
postfix_at_sound r h s env all mid ts e (Marked m) q le f = postfix_mark_sound r h s env all mid ts e m q le f
postfix_at_sound r h s env all mid ts e (Reserved k) q le f = gives_nothing

postfix_one_sound : (r : Reads) (h : ℕ) → Sound r h → (env : Names) (all mid : List Token) (e : Tree) → ReadUpto env 1 (suc h) all e mid → height e ≤ h
    → Gives (ReadUpto env 1 (suc h) all) (postfix_one r env all e mid)
postfix_one_sound r h s env all [] e q le = gives_nothing
postfix_one_sound r h s env all (t ∷ ts) e q le = postfix_at_sound r h s env all (t ∷ ts) ts e t.word q le (front_word t ts refl refl)

postfix_sound : (r : Reads) (h : ℕ) → Sound r h → (env : Names) (ts : List Token) → Gives (ReadUpto env 1 (suc h) ts) (postfix r h env ts)
postfix_sound r h s env ts =
    gives_next (raised (omega arith) (primary_sound r h s env ts)) (λ e rest q. loop_sound (postfix_one r env) h (suc h) ts (λ e rest q le. postfix_one_sound r h s env ts rest e q le) e rest q)

-- unary and cast
sizeof_sound : (r : Reads) (h : ℕ) → Sound r h → (env : Names) (all ts : List Token) → Front (IsWord sizeof_word) all ts → Gives (ReadUpto env 2 (suc h) all) (sizeof_at r h env all ts)
sizeof_sound r h s env all ts f =
    gives_if {b = begins_cast env ts} (λ _. gives_eat (λ ts' p. gives_next (type_name_sound r h s env ts') (λ t rest q. gives_eat (λ rest' g.
    gives (SizeofType t) refl (front_then f (front_then p (front_then (exactly q) g))) refl (omega arith) (omega (arith, q.height))))))
    (λ _. gives_next (s.upto 2 env ts) (λ e rest q. gives (SizeofExpression e) refl (front_then f (within q (omega arith))) refl (omega arith) (omega (arith, q.height))))

unary_at_sound : (r : Reads) (h : ℕ) → Sound r h → (env : Names) (all ts : List Token) (w : Word) → Front (IsWord w) all ts → Gives (ReadUpto env 2 (suc h) all) (unary_at r h env all w ts)
unary_at_sound r h s env all ts (Named n) f = raised (omega arith) (postfix_sound r h s env all)
unary_at_sound r h s env all ts (Literal n) f = raised (omega arith) (postfix_sound r h s env all)
unary_at_sound r h s env all ts (Marked m) f =
    gives_if {b = is_step m} (λ w. gives_next (s.upto 2 env ts) (λ e rest q. gives (Before m e) refl (front_where w (front_then f (within q (omega arith)))) refl (omega arith) (omega (arith, q.height))))
    (λ _. gives_if {b = is_prefix m} (λ w. gives_next (s.upto 3 env ts) (λ e rest q. gives (Prefix m e) refl (front_where w (front_then f (within q (omega arith)))) refl (omega arith) (omega (arith, q.height))))
    (λ _. raised (omega arith) (postfix_sound r h s env all)))
unary_at_sound r h s env all ts (Reserved k) f =
    gives_if {b = is_word sizeof_word (Reserved k)} (λ w. sizeof_sound r h s env all ts (subst (λ w. Front (IsWord w) all ts) (word_is sizeof_word (Reserved k) w) f))
    (λ _. raised (omega arith) (postfix_sound r h s env all))

unary_sound : (r : Reads) (h : ℕ) → Sound r h → (env : Names) (ts : List Token) → Gives (ReadUpto env 2 (suc h) ts) (unary r h env ts)
unary_sound r h s env [] = gives_nothing
unary_sound r h s env (t ∷ ts) = unary_at_sound r h s env (t ∷ ts) ts t.word (front_word t ts refl refl)

cast_sound : (r : Reads) (h : ℕ) → Sound r h → (env : Names) (ts : List Token) → Gives (ReadUpto env 3 (suc h) ts) (cast r h env ts)
cast_sound r h s env all =
    gives_if {b = begins_cast env all} (λ _. gives_eat (λ ts f. gives_next (type_name_sound r h s env ts) (λ t rest q. gives_eat (λ rest' g. gives_next (s.upto 3 env rest') (λ e rest'' qe.
    gives (Cast t e) refl (front_then f (front_then (exactly q) (front_then g (within qe (omega arith))))) refl (omega arith) (omega (arith, q.height, qe.height)))))))
    (λ _. raised (omega arith) (unary_sound r h s env all))

-- the binary levels
infix_is : (m : Mark) (n : ℕ) → infix_level m ≡ suc n → is_infix m ≡ true
infix_is m n e = ap (λ l. nat_lt 0 l) e ∙ above n
  where
    above : (n : ℕ) → nat_lt 0 (suc n) ≡ true
    above n = grind (arith, nat_tests)

binary_at_sound : (r : Reads) (h : ℕ) → Sound r h → (env : Names) (n : ℕ) (all mid ts : List Token) (e : Tree) (w : Word) → ReadUpto env (4 + n) (suc h) all e mid → height e ≤ h → Front (IsWord w) mid ts
    → Gives (ReadUpto env (4 + n) (suc h) all) (binary_at r env n all e w ts)
binary_at_sound r h s env n all mid ts e (Named m) q le f = gives_nothing
binary_at_sound r h s env n all mid ts e (Literal m) q le f = gives_nothing
binary_at_sound r h s env n all mid ts e (Reserved m) q le f = gives_nothing
binary_at_sound r h s env n all mid ts e (Marked m) q le f =
    gives_if {b = infix_level m == suc n} (λ w. let l : infix_level m ≡ suc n = eq_is (suc n) (infix_level m) w in
    gives_next (s.upto (3 + n) env ts) (λ b rest qb.
    gives (Binary m e b) refl (front_where (infix_is m n l) (front_then (within q (omega (arith, l))) (front_then f (within qb (omega (arith, l)))))) refl (omega (arith, l)) (omega (arith, le, qb.height))))
    (λ _. gives_nothing)

binary_one_sound : (r : Reads) (h : ℕ) → Sound r h → (env : Names) (n : ℕ) (all mid : List Token) (e : Tree) → ReadUpto env (4 + n) (suc h) all e mid → height e ≤ h
    → Gives (ReadUpto env (4 + n) (suc h) all) (binary_one r env n all e mid)
binary_one_sound r h s env n all [] e q le = gives_nothing
binary_one_sound r h s env n all (t ∷ ts) e q le = binary_at_sound r h s env n all (t ∷ ts) ts e t.word q le (front_word t ts refl refl)

pub binary_sound : (r : Reads) (h : ℕ) → Sound r h → (env : Names) (n : ℕ) (ts : List Token) → Gives (ReadUpto env (3 + n) (suc h) ts) (binary r h env n ts)
binary_sound r h s env zero ts = raised (omega arith) (cast_sound r h s env ts)
binary_sound r h s env (suc n) ts =
    let below : Gives (ReadUpto env (4 + n) (suc h) ts) (binary r h env n ts) = raised (omega arith) (binary_sound r h s env n ts) in
    raised (omega arith) (gives_next below (λ e rest q. loop_sound (binary_one r env n) h (suc h) ts (λ e rest q le. binary_one_sound r h s env n ts rest e q le) e rest q))

implied_sound : (r : Reads) (h : ℕ) → Sound r h → (env : Names) (ts : List Token) → Gives (ReadUpto env 14 (suc h) ts) (implied r h env ts)
implied_sound r h s env all = gives_next (binary_sound r h s env 10 all) (λ e rest q. once_sound (implies_one r env) h all e rest
    (λ le. gives_eat (λ ts f. gives_next (s.upto 14 env ts) (λ b rest' qb.
    gives (Implies e b) refl (front_then (within q (omega arith)) (front_then f (within qb (omega arith)))) refl (omega arith) (omega (arith, le, qb.height)))))
    (record { is = q.is; sort = q.sort; level = let a = q.level in omega (arith, a); height = q.height }))

conditional_sound : (r : Reads) (h : ℕ) → Sound r h → (env : Names) (ts : List Token) → Gives (ReadUpto env 15 (suc h) ts) (conditional r h env ts)
conditional_sound r h s env all = gives_next (implied_sound r h s env all) (λ e rest q. once_sound (conditional_one r env) h all e rest
    (λ le. gives_eat (λ ts f. gives_next (s.upto 16 env ts) (λ b rest' qb. gives_eat (λ ts' g. gives_next (s.upto 15 env ts') (λ c rest'' qc.
    gives (Conditional e b c) refl (front_then (within q (omega arith)) (front_then f (front_then (within qb (omega arith)) (front_then g (within qc (omega arith)))))) refl
    (omega arith) (omega (arith, le, qb.height, qc.height)))))))
    (record { is = q.is; sort = q.sort; level = let a = q.level in omega (arith, a); height = q.height }))

assign_at_sound : (r : Reads) (h : ℕ) → Sound r h → (env : Names) (all mid ts : List Token) (e : Tree) (w : Word) → ReadUpto env 2 (suc h) all e mid → height e ≤ h → Front (IsWord w) mid ts
    → Gives (ReadUpto env 16 (suc h) all) (assign_at r env all e w ts)
assign_at_sound r h s env all mid ts e (Named n) q le f = gives_nothing
assign_at_sound r h s env all mid ts e (Literal n) q le f = gives_nothing
assign_at_sound r h s env all mid ts e (Reserved k) q le f = gives_nothing
assign_at_sound r h s env all mid ts e (Marked m) q le f =
    gives_checked (is_assignment m) (λ y. gives_next (s.upto 16 env ts) (λ b rest qb.
    gives (Assign m e b) refl (front_where y (front_then (within q (omega arith)) (front_then f (within qb (omega arith))))) refl (omega arith) (omega (arith, le, qb.height))))

assign_word_sound : (r : Reads) (h : ℕ) → Sound r h → (env : Names) (all mid : List Token) (e : Tree) → ReadUpto env 2 (suc h) all e mid → height e ≤ h
    → Gives (ReadUpto env 16 (suc h) all) (assign_word r env all e mid)
assign_word_sound r h s env all [] e q le = gives_nothing
assign_word_sound r h s env all (t ∷ ts) e q le = assign_at_sound r h s env all (t ∷ ts) ts e t.word q le (front_word t ts refl refl)

pub assign_sound : (r : Reads) (h : ℕ) → Sound r h → (env : Names) (ts : List Token) → Gives (ReadUpto env 16 (suc h) ts) (assign r h env ts)
assign_sound r h s env all = gives_next (conditional_sound r h s env all) (λ e rest q. once_sound (assign_one r env) h all e rest
    (λ le. gives_checked (nat_le (level_of e) 2) (λ l. assign_word_sound r h s env all rest e (record { is = q.is; sort = q.sort; level = le_is (level_of e) 2 l; height = q.height }) le))
    (record { is = q.is; sort = q.sort; level = let a = q.level in omega (arith, a); height = q.height }))

above_sound : (r : Reads) (h : ℕ) → Sound r h → (env : Names) (n : ℕ) (ts : List Token) → Gives (ReadUpto env (3 + n) (suc h) ts) (above r h env n ts)
above_sound r h s env n ts =
    gives_if {b = nat_le n 10} (λ _. binary_sound r h s env n ts)
    (λ a. gives_if {b = n == 11} (λ e. let l = eq_is 11 n e in raised (omega (arith, l)) (implied_sound r h s env ts))
    (λ b. gives_if {b = n == 12} (λ e. let l = eq_is 12 n e in raised (omega (arith, l)) (conditional_sound r h s env ts))
    (λ c. raised (high n a b c) (assign_sound r h s env ts))))
  where
    high : (n : ℕ) → nat_le n 10 ≡ false → (n == 11) ≡ false → (n == 12) ≡ false → 16 ≤ 3 + n
    high n a b c = grind (arith, nat_tests)

upto_sound : (r : Reads) (h : ℕ) → Sound r h → (env : Names) (k : ℕ) (ts : List Token) → Gives (ReadUpto env k (suc h) ts) (upto r h env k ts)
upto_sound r h s env zero ts = primary_sound r h s env ts
upto_sound r h s env (suc zero) ts = postfix_sound r h s env ts
upto_sound r h s env (suc (suc zero)) ts = unary_sound r h s env ts
upto_sound r h s env (suc (suc (suc n))) ts = raised (omega arith) (above_sound r h s env n ts)

step_sound : (r : Reads) (h : ℕ) → Sound r h → Sound (step r h) (suc h)
step_sound r h s =
    record { upto = λ k env ts. upto_sound r h s env k ts; member = member_sound r h s; enumerator = enumerator_sound r h s; declarator = declarator_sound r h s }

pub sound : (h : ℕ) → Sound (reads h) h
sound zero = record { upto = λ k env ts. gives_nothing; member = λ env ts. gives_nothing; enumerator = λ env ts. gives_nothing; declarator = λ env ts. gives_nothing }
sound (suc h) = let s = step_sound (reads h) h (sound h) in record { upto = s.upto; member = s.member; enumerator = s.enumerator; declarator = s.declarator }
