-- What is spelled as an initializer, a clause, a statement, a declaration or a unit is read there.
use Rattle.std.proofs.Common.{◌≡◌, ℕ, zero, suc, ◌≤◌, Bool, true, false, ◌||◌, ◌&&◌, not, List, [], ◌∷◌, ◌++◌, length, refl, sym, ap, ◌∙◌, subst, arith}
use Rattle.dc_syntax.specs.declared.mark.Mark.TheVariants.{LeftParen, RightParen, LeftBrace, RightBrace, Semicolon, Comma, Colon, Equals}
use Rattle.dc_syntax.specs.Names.{Names}
use Rattle.dc_syntax.specs.Phrases.{◌⊙◌, mark, Where, Passing, Maybe, Absent, Present, leaves}
use Rattle.dc_syntax.proofs.Words.{word_is, false-true}
use Rattle.dc_syntax.proofs.Base.{Front, split, First, first_word, unplaced, held, opened, sorted, empty_is, shorter}
use Rattle.dc_syntax.proofs.Reached.{next_is, found_is, if_true, if_false, checked_is, eat_is, passes, passes_is, begins_is, passes_not, begins_other}
use Rattle.dc_syntax.proofs.Heads.{sort_number, starts, heads, closes, continues, ends_at, declarator_begins, stops_closed}
use Rattle.dc_syntax.specs.Tokens.{Word, Marked, Token, Place, is_word, else_word, requires_word, ensures_word, assigns_word, frees_word, loop_invariant_word}
use Rattle.dc_syntax.specs.Trees.{Condition, Tree, NoMore, More, IsMore, sort_of, has_tag, is_typedef, naming, declared, height}
use Rattle.dc_syntax.specs.Grammar.{condition, Is}
use Rattle.dc_syntax.specs.Parts.{Part, Single, Braces, NoInits, Inits, Plain, Initialized, NoMoreDeclared, MoreDeclared, NoneDeclared, SomeDeclared, Requires, Ensures, Assigns, Frees, LoopInvariant, Decreases, NoGroups, Groups, NoMoreGroups, MoreGroups, Group, GroupIf, FirstDeclaration, Declaration, is_init, is_inits, is_init_decl, is_more_declared, is_declared, is_function_clause, is_loop_clause, is_groups, is_more_groups, is_group, is_statement, is_declaration, is_external, declares_none, is_closed, declaring, height_of}
use Rattle.dc_syntax.specs.Units.{conditions, Spells}
use Rattle.dc_syntax.specs.Reading.{Found, between, found, begins, Reads, Upto, has_more, goes_on_at, is_declarator_word}
use Rattle.dc_syntax.specs.ReadingUnits.{conditions as read_conditions, PartReads, BracesOf, ClauseOf, StatementOf, FirstOf, DeclarationOf, ExternalOf, init, inits, braces_end, braces, init_decl, more_declared, some_declared, declaration_from, declaration, first_declaration, group, more_groups, groups, in_parens, grouped, clause}
use Rattle.dc_syntax.proofs.Complete.{Complete, exact, ListEnds, list_ends, more_closes, more_complete, condition_complete, named_complete, not_nameless, inner, Behind, specs_complete, behind_closed, takes_none, declarator_no_spec, no_spec_word}

abbrev pub is_braces : Part → Bool
is_braces (Braces i m p) = true
is_braces _ = false

abbrev pub is_clause : Part → Bool
is_clause c = is_function_clause c || is_loop_clause c

abbrev pub is_first_declaration : Part → Bool
is_first_declaration (FirstDeclaration s a m p) = true
is_first_declaration _ = false

-- an open statement has no else behind it
abbrev pub Stop : Part → List Token → Type 0
Stop a rest = begins else_word rest ≡ true → is_closed a ≡ true

pub record PartComplete (q : PartReads) (h : ℕ) : Type 0 where
  pub braces : (env : Names) (t : Bool) (all : List Token) (a : Part) (rest : List Token) → Front (Spells env t a) all rest → is_braces a ≡ true → height_of a ≤ h → q BracesOf env all ≡ Found a rest
  pub clause : (env : Names) (t : Bool) (all : List Token) (a : Part) (rest : List Token) → Front (Spells env t a) all rest → is_clause a ≡ true → height_of a ≤ h → q ClauseOf env all ≡ Found a rest
  pub statement : (env : Names) (t : Bool) (all : List Token) (a : Part) (rest : List Token) → Front (Spells env t a) all rest → is_statement a ≡ true → height_of a ≤ h → Stop a rest → q StatementOf env all ≡ Found a rest
  pub first : (env : Names) (t : Bool) (all : List Token) (a : Part) (rest : List Token) → Front (Spells env t a) all rest → is_first_declaration a ≡ true → height_of a ≤ h → begins (Marked Semicolon) rest ≡ true → q FirstOf env all ≡ Found a rest
  pub declaration : (env : Names) (t : Bool) (all : List Token) (a : Part) (rest : List Token) → Front (Spells env t a) all rest → is_declaration a ≡ true → height_of a ≤ h → q DeclarationOf env all ≡ Found a rest
  pub external : (env : Names) (t : Bool) (all : List Token) (a : Part) (rest : List Token) → Front (Spells env t a) all rest → is_external a ≡ true → height_of a ≤ h → q ExternalOf env all ≡ Found a rest

-- inits
init_complete : (r : Reads) (q : PartReads) (h : ℕ) → Complete r h → PartComplete q h → (env : Names) (t : Bool) (all : List Token) (i : Part) (rest : List Token) → Front (Spells env t i) all rest → is_init i ≡ true → height_of i ≤ h → passes closes rest ≡ true
    → init r q env all ≡ Found i rest
init_complete r q h c d env t all (Single e) rest f y le cl =
    let o = opened f in
    if_false _ _ (begins_other (starts env) (Marked LeftBrace) all refl (heads env all e rest o.is o.level)) ∙ next_is _ (exact r h c 16 (omega arith) env all e rest f le (stops_closed 16 rest (omega arith) cl))
init_complete r q h c d env t all (Braces i m p) rest f y le cl =
    if_true _ _ (begins_is (Marked LeftBrace) (first_word (split (unplaced f).is).first)) ∙ d.braces env t all (Braces i m p) rest f refl le
init_complete r q h c d env t all _ rest f y le cl = absurd (false-true y)

init_begins : (env : Names) (t : Bool) (all : List Token) (i : Part) (rest : List Token) → Front (Spells env t i) all rest → is_init i ≡ true → begins (Marked RightBrace) all ≡ false
init_begins env t all (Single e) rest f y = let o = opened f in begins_other (starts env) (Marked RightBrace) all refl (heads env all e rest o.is o.level)
init_begins env t all (Braces i m p) rest f y = begins_is (Marked RightBrace) (first_word (split (unplaced f).is).first)
init_begins env t all _ rest f y = absurd (false-true y)

inits_close : (env : Names) (t : Bool) (all : List Token) (m : Part) (rest : List Token) → Front (Spells env t m) all rest → is_inits m ≡ true → passes closes rest ≡ true → passes closes all ≡ true
inits_close env t all NoInits rest f y e = ap (passes closes) (empty_is f) ∙ e
inits_close env t all (Inits i m) rest f y e = passes_is closes (first_word (split f).first)
inits_close env t all _ rest f y e = absurd (false-true y)

no_inits : (r : Reads) (q : PartReads) (env : Names) (n : ℕ) (ts : List Token) → has_more ts ≡ false → inits r q env n ts ≡ Found NoInits ts
no_inits r q env zero ts e = refl
no_inits r q env (suc n) ts e = if_false _ _ e

has_more_is : {all rest : List Token} → First (Marked Comma) all rest → begins (Marked RightBrace) rest ≡ false → has_more all ≡ true
has_more_is {all} {rest} f n = ap has_more f.whole ∙ (ap (λ w. is_word (Marked Comma) w && goes_on_at rest) f.word ∙ ap not n)

inits_complete : (r : Reads) (q : PartReads) (h : ℕ) → Complete r h → PartComplete q h → (env : Names) (t : Bool) (n : ℕ) (all : List Token) (m : Part) (rest : List Token) → Front (Spells env t m) all rest → is_inits m ≡ true → height_of m ≤ h → length all ≤ n → ListEnds rest
    → inits r q env n all ≡ Found m rest
inits_complete r q h c d env t n all NoInits rest f y le few e = ap (inits r q env n) (empty_is f) ∙ no_inits r q env n rest e.no_more
inits_complete r q h c d env t zero all (Inits i m) rest f y le few e = absurd (let w = first_word (split f).first in let n = ap length w.whole in omega (arith, n, few))
inits_complete r q h c d env t (suc n) all (Inits i m) rest f y le few e =
    let s1 = split f in let s2 = split s1.second in let w = first_word s1.first in let a = held s2.first in let b = held s2.second in
    let n1 = ap length w.whole in let n2 = shorter s2.first in
    if_true _ _ (has_more_is w (init_begins env t s1.mid i s2.mid a.is a.holds)) ∙ (eat_is _ w refl
    ∙ (next_is _ (init_complete r q h c d env t s1.mid i s2.mid a.is a.holds (omega (arith, le)) (inits_close env t s2.mid m rest b.is b.holds e.closed))
    ∙ next_is _ (inits_complete r q h c d env t n s2.mid m rest b.is b.holds (omega (arith, le)) (omega (arith, n1, n2, few)) e)))
inits_complete r q h c d env t n all _ rest f y le few e = absurd (false-true y)

pub record BracesEnd (all : List Token) (i m : Part) (rest before : List Token) : Type 0 where
  pub ends : ListEnds before
  pub is : braces_end all i m before ≡ found all (Braces i m) rest

braces_ends : (all : List Token) (i m : Part) (before mid rest : List Token) → Front (Maybe (mark Comma)) before mid → First (Marked RightBrace) mid rest → BracesEnd all i m rest before
braces_ends all i m before mid rest f b = by f.is
  where
    by : Maybe (mark Comma) f.front → BracesEnd all i m rest before
    by (Absent n) =
        let here : mid ≡ before = sym (f.whole ∙ ap (λ l. l ++ mid) n) in
        let g : First (Marked RightBrace) before rest = record { token = b.token; whole = sym here ∙ b.whole; word = b.word } in
        record { ends = list_ends g refl refl; is = if_false _ _ (begins_is (Marked Comma) g) ∙ eat_is _ g refl }
    by (Present w) =
        let g : First (Marked Comma) before mid = first_word (record { front = f.front; whole = f.whole; is = w }) in
        record {
          ends = record { closed = passes_is closes g; no_more = ap has_more g.whole ∙ (ap (λ w. is_word (Marked Comma) w && goes_on_at mid) g.word ∙ ap not (begins_is (Marked RightBrace) b)) };
          is = if_true _ _ (begins_is (Marked Comma) g) ∙ (eat_is _ g refl ∙ eat_is _ b refl);
        }

pub braces_complete : (r : Reads) (q : PartReads) (h : ℕ) → Complete r h → PartComplete q h → (env : Names) (t : Bool) (all : List Token) (a : Part) (rest : List Token) → Front (Spells env t a) all rest → is_braces a ≡ true → height_of a ≤ suc h → braces r q env all ≡ Found a rest
braces_complete r q h c d env t all (Braces i m p) rest f y le =
    let u = unplaced f in let s1 = split u.is in let s2 = split s1.second in let s3 = split s2.second in let s4 = split s3.second in
    let w = first_word s1.first in let a = held s2.first in let b = held s3.first in
    let z = braces_ends all i m s3.mid s4.mid rest s4.first (first_word s4.second) in let ze = z.ends in
    eat_is _ w refl ∙ (next_is _ (init_complete r q h c d env t s1.mid i s2.mid a.is a.holds (omega (arith, le)) (inits_close env t s2.mid m s3.mid b.is b.holds ze.closed))
    ∙ (next_is _ (inits_complete r q h c d env t (length s2.mid) s2.mid m s3.mid b.is b.holds (omega (arith, le)) (omega arith) ze) ∙ (z.is ∙ found_is all (Braces i m) u.place)))
braces_complete r q h c d env t all _ rest f y le = absurd (false-true y)

-- init-decls
pub init_decl_complete : (r : Reads) (q : PartReads) (h : ℕ) → Complete r h → PartComplete q h → (env : Names) (t : Bool) (all : List Token) (a : Part) (rest : List Token) → Front (Spells env t a) all rest → is_init_decl a ≡ true → height_of a ≤ h → passes closes rest ≡ true
    → init_decl r q env t all ≡ Found a rest
init_decl_complete r q h c d env t all (Plain e p) rest f y le cl =
    let u = unplaced f in
    next_is _ (named_complete r h c env all e rest u.is le (ends_at rest cl)) ∙ (if_false _ _ (begins_other closes (Marked Equals) rest refl cl) ∙ found_is all (Plain e) u.place)
init_decl_complete r q h c d env t all (Initialized e i p) rest f y le cl =
    let u = unplaced f in let s1 = split u.is in let s2 = split s1.second in let w = first_word s2.first in let b = held s2.second in
    next_is _ (named_complete r h c env all e s1.mid s1.first (omega (arith, le)) (passes_is continues w)) ∙ (if_true _ _ (begins_is (Marked Equals) w) ∙ (eat_is _ w refl
    ∙ (next_is _ (init_complete r q h c d (naming e t env) t s2.mid i rest b.is b.holds (omega (arith, le)) cl) ∙ found_is all (Initialized e i) u.place)))
init_decl_complete r q h c d env t all _ rest f y le cl = absurd (false-true y)

pub init_decl_begins : (env : Names) (t : Bool) (all : List Token) (a : Part) (rest : List Token) → Front (Spells env t a) all rest → is_init_decl a ≡ true → passes is_declarator_word all ≡ true
init_decl_begins env t all (Plain e p) rest f y = let u = held (unplaced f).is in let o = sorted u.is in declarator_begins env all e rest o.is o.sort (not_nameless e u.holds)
init_decl_begins env t all (Initialized e i p) rest f y = let s1 = split (unplaced f).is in let u = held s1.first in let o = sorted u.is in declarator_begins env all e s1.mid o.is o.sort (not_nameless e u.holds)
init_decl_begins env t all _ rest f y = absurd (false-true y)

pub more_declared_close : (env : Names) (t : Bool) (all : List Token) (m : Part) (rest : List Token) → Front (Spells env t m) all rest → is_more_declared m ≡ true → passes closes rest ≡ true → passes closes all ≡ true
more_declared_close env t all NoMoreDeclared rest f y e = ap (passes closes) (empty_is f) ∙ e
more_declared_close env t all (MoreDeclared i m) rest f y e = passes_is closes (first_word (split f).first)
more_declared_close env t all _ rest f y e = absurd (false-true y)

pub ends_semicolon : (ts : List Token) → begins (Marked Semicolon) ts ≡ true → (passes closes ts ≡ true) × (begins (Marked Comma) ts ≡ false)
ends_semicolon [] e = absurd (false-true e)
ends_semicolon (t ∷ ts) e = let w = word_is (Marked Semicolon) t.word e in (ap closes w, ap (is_word (Marked Comma)) w)

no_more_declared : (r : Reads) (q : PartReads) (env : Names) (t : Bool) (n : ℕ) (ts : List Token) → begins (Marked Comma) ts ≡ false → more_declared r q env t n ts ≡ Found NoMoreDeclared ts
no_more_declared r q env t zero ts e = refl
no_more_declared r q env t (suc n) ts e = if_false _ _ e

more_declared_complete : (r : Reads) (q : PartReads) (h : ℕ) → Complete r h → PartComplete q h → (env : Names) (t : Bool) (n : ℕ) (all : List Token) (m : Part) (rest : List Token) → Front (Spells env t m) all rest → is_more_declared m ≡ true → height_of m ≤ h → length all ≤ n → begins (Marked Semicolon) rest ≡ true
    → more_declared r q env t n all ≡ Found m rest
more_declared_complete r q h c d env t n all NoMoreDeclared rest f y le few e = ap (more_declared r q env t n) (empty_is f) ∙ no_more_declared r q env t n rest (ends_semicolon rest e).1
more_declared_complete r q h c d env t zero all (MoreDeclared a m) rest f y le few e = absurd (let w = first_word (split f).first in let n = ap length w.whole in omega (arith, n, few))
more_declared_complete r q h c d env t (suc n) all (MoreDeclared a m) rest f y le few e =
    let s1 = split f in let s2 = split s1.second in let w = first_word s1.first in let i = held s2.first in let b = held s2.second in
    let n1 = ap length w.whole in let n2 = shorter s2.first in
    if_true _ _ (begins_is (Marked Comma) w) ∙ (eat_is _ w refl
    ∙ (next_is _ (init_decl_complete r q h c d env t s1.mid a s2.mid i.is i.holds (omega (arith, le)) (more_declared_close (declaring t a env) t s2.mid m rest b.is b.holds (ends_semicolon rest e).0))
    ∙ next_is _ (more_declared_complete r q h c d (declaring t a env) t n s2.mid m rest b.is b.holds (omega (arith, le)) (omega (arith, n1, n2, few)) e)))
more_declared_complete r q h c d env t n all _ rest f y le few e = absurd (false-true y)

some_declared_complete : (r : Reads) (q : PartReads) (h : ℕ) → Complete r h → PartComplete q h → (env : Names) (t : Bool) (all : List Token) (m : Part) (rest : List Token) → Front (Spells env t m) all rest → is_declared m ≡ true → height_of m ≤ h → begins (Marked Semicolon) rest ≡ true
    → some_declared r q env t all ≡ Found m rest
some_declared_complete r q h c d env t all NoneDeclared rest f y le e = ap (some_declared r q env t) (empty_is f) ∙ if_true _ _ e
some_declared_complete r q h c d env t all (SomeDeclared a m) rest f y le e =
    let s1 = split f in let i = held s1.first in let b = held s1.second in
    if_false _ _ (begins_other is_declarator_word (Marked Semicolon) all refl (init_decl_begins env t all a s1.mid i.is i.holds))
    ∙ (next_is _ (init_decl_complete r q h c d env t all a s1.mid i.is i.holds (omega (arith, le)) (more_declared_close (declaring t a env) t s1.mid m rest b.is b.holds (ends_semicolon rest e).0))
    ∙ next_is _ (more_declared_complete r q h c d (declaring t a env) t (length s1.mid) s1.mid m rest b.is b.holds (omega (arith, le)) (omega arith) e))
some_declared_complete r q h c d env t all _ rest f y le e = absurd (false-true y)

append_nil : (ts : List Token) → ts ++ [] ≡ ts
append_nil [] = refl
append_nil (t ∷ ts) = ap (λ l. t ∷ l) (append_nil ts)

pub self : {A : List Token → Type 0} (ts : List Token) → A ts → Front A ts []
self ts a = record { front = ts; whole = sym (append_nil ts); is = a }

-- a phrase behind specs that begins as a declarator does
behind_word : (env : Names) (s : Tree) (mid front rest : List Token) → mid ≡ front ++ rest → leaves env s front ≡ true → passes is_declarator_word front ≡ true → Behind env s mid
behind_word env s mid [] rest w l p = absurd (false-true p)
behind_word env s mid (t ∷ front) rest w l p =
    let l' : leaves env s mid ≡ true = ap (leaves env s) w ∙ l in
    let p' : passes is_declarator_word mid ≡ true = ap (passes is_declarator_word) w ∙ p in
    record { ends = record { no_spec = takes_none env s mid l' (passes_not is_declarator_word (λ w. not (no_spec_word w)) declarator_no_spec mid p'); no_brace = begins_other is_declarator_word (Marked LeftBrace) mid refl p' }; leaves = l' }

pub behind_declared : (env : Names) (t : Bool) (s : Tree) (m : Part) (mid rest : List Token) → Front (Passing (leaves env s) (Where (is_declared m) (Spells env t m))) mid rest → begins (Marked Semicolon) rest ≡ true → Behind env s mid
behind_declared env t s NoneDeclared mid rest f e =
    let here : mid ≡ rest = empty_is (held (inner f)).is in subst (Behind env s) (sym here) (behind_closed env s rest (ends_semicolon rest e).0)
behind_declared env t s (SomeDeclared a m) mid rest f e =
    let g = split (self f.front f.is.is.is) in let i = held g.first in
    behind_word env s mid f.front rest f.whole f.is.passes (init_decl_begins env t f.front a g.mid i.is i.holds)
behind_declared env t s _ mid rest f e = absurd (false-true (held (inner f)).holds)

pub declaration_from_complete : (r : Reads) (q : PartReads) (h : ℕ) → Complete r h → PartComplete q h → (env : Names) (all : List Token) (s : Tree) (m : Part) (p : Place) (mid mid2 rest : List Token) → Front (Where (is_declared m) (Spells (declared s env) (is_typedef s) m)) mid mid2 → First (Marked Semicolon) mid2 rest
    → height_of m ≤ h → (not (declares_none m) || has_tag s) ≡ true → between all rest ≡ p → declaration_from r q env all s mid ≡ Found (Declaration s m p) rest
declaration_from_complete r q h c d env all s m p mid mid2 rest f w le y place =
    let b = held f in
    next_is _ (some_declared_complete r q h c d (declared s env) (is_typedef s) mid m mid2 b.is b.holds le (begins_is (Marked Semicolon) w)) ∙ (checked_is _ y ∙ (eat_is _ w refl ∙ found_is all (Declaration s m) place))

pub declaration_complete : (r : Reads) (q : PartReads) (h : ℕ) → Complete r h → PartComplete q h → (env : Names) (t : Bool) (all : List Token) (a : Part) (rest : List Token) → Front (Spells env t a) all rest → is_declaration a ≡ true → height_of a ≤ suc h → declaration r q h env all ≡ Found a rest
declaration_complete r q h c d env t all (Declaration s m p) rest f y le =
    let v = unplaced f in let u = held v.is in let s1 = split u.is in let s2 = split s1.second in let o = sorted s1.first in let w = first_word s2.second in
    let b = behind_declared (declared s env) (is_typedef s) s m s1.mid s2.mid s2.first (begins_is (Marked Semicolon) w) in
    next_is _ (specs_complete r h c env all s s1.mid o.is o.sort (omega (arith, le)) b.ends) ∙ (checked_is _ b.leaves ∙ declaration_from_complete r q h c d env all s m p s1.mid s2.mid rest (inner s2.first) w (omega (arith, le)) u.holds v.place)
declaration_complete r q h c d env t all _ rest f y le = absurd (false-true y)

pub first_complete : (r : Reads) (q : PartReads) (h : ℕ) → Complete r h → PartComplete q h → (env : Names) (t : Bool) (all : List Token) (a : Part) (rest : List Token) → Front (Spells env t a) all rest → is_first_declaration a ≡ true → height_of a ≤ suc h → begins (Marked Semicolon) rest ≡ true → first_declaration r q h env all ≡ Found a rest
first_complete r q h c d env t all (FirstDeclaration s a m p) rest f y le e =
    let v = unplaced f in let s1 = split v.is in let s2 = split s1.second in let o = sorted s1.first in let i = held (inner s2.first) in let k = held s2.second in
    let g = self s2.first.front s2.first.is.is.is in
    let b = behind_word (declared s env) s s1.mid s2.first.front s2.mid s2.first.whole s2.first.is.passes (init_decl_begins (declared s env) (is_typedef s) s2.first.front a [] g i.holds) in
    next_is _ (specs_complete r h c env all s s1.mid o.is o.sort (omega (arith, le)) b.ends) ∙ (checked_is _ b.leaves
    ∙ (next_is _ (init_decl_complete r q h c d (declared s env) (is_typedef s) s1.mid a s2.mid i.is i.holds (omega (arith, le)) (more_declared_close (declaring (is_typedef s) a (declared s env)) (is_typedef s) s2.mid m rest k.is k.holds (ends_semicolon rest e).0))
    ∙ (next_is _ (more_declared_complete r q h c d (declaring (is_typedef s) a (declared s env)) (is_typedef s) (length s2.mid) s2.mid m rest k.is k.holds (omega (arith, le)) (omega arith) e) ∙ found_is all (FirstDeclaration s a m) v.place)))
first_complete r q h c d env t all _ rest f y le e = absurd (false-true y)

-- groups and clauses
conditions_complete : (r : Reads) (h : ℕ) → Complete r h → (env : Names) (all : List Token) (m : Tree) (rest : List Token) → Front (conditions env m) all rest → height m ≤ h → ListEnds rest → read_conditions r env all ≡ Found m rest
conditions_complete r h c env all m rest f le e = let x = sorted f in more_complete (r (Upto 15)) Condition h (condition_complete r h c) env (length all) all m rest x.is x.sort le (omega arith) e

pub record GroupEnds (rest : List Token) : Type 0 where
  pub ends : ListEnds rest
  pub no_colon : begins (Marked Colon) rest ≡ false

more_no_colon : (env : Names) (all : List Token) (m : Tree) (rest : List Token) → Front (Is env m) all rest → sort_of m ≡ IsMore Condition → begins (Marked Colon) rest ≡ false → begins (Marked Colon) all ≡ false
more_no_colon env all (NoMore i) rest f s e = ap (begins (Marked Colon)) (empty_is f) ∙ e
more_no_colon env all (More i a m) rest f s e = begins_is (Marked Colon) (first_word (split f).first)
more_no_colon env all _ rest f s e = absurd (let k = ap sort_number s in omega (arith, k))

group_complete : (r : Reads) (h : ℕ) → Complete r h → (env : Names) (t : Bool) (all : List Token) (g : Part) (rest : List Token) → Front (Spells env t g) all rest → is_group g ≡ true → height_of g ≤ h → GroupEnds rest → group r env all ≡ Found g rest
group_complete r h c env t all (Group a m p) rest f y le e =
    let v = unplaced f in let s1 = split v.is in let x = sorted s1.second in let ends = e.ends in
    next_is _ (condition_complete r h c env all a s1.mid s1.first (omega (arith, le)) (more_closes Condition env s1.mid m rest x.is x.sort ends.closed))
    ∙ (if_false _ _ (more_no_colon env s1.mid m rest x.is x.sort e.no_colon) ∙ (next_is _ (conditions_complete r h c env s1.mid m rest s1.second (omega (arith, le)) ends) ∙ found_is all (Group a m) v.place))
group_complete r h c env t all (GroupIf a b m p) rest f y le e =
    let v = unplaced f in let s1 = split v.is in let s2 = split s1.second in let s3 = split s2.second in let w = first_word s2.first in let x = sorted s3.second in let ends = e.ends in
    next_is _ (condition_complete r h c env all a s1.mid s1.first (omega (arith, le)) (passes_is closes w)) ∙ (if_true _ _ (begins_is (Marked Colon) w) ∙ (eat_is _ w refl
    ∙ (next_is _ (condition_complete r h c env s2.mid b s3.mid s3.first (omega (arith, le)) (more_closes Condition env s3.mid m rest x.is x.sort ends.closed))
    ∙ (next_is _ (conditions_complete r h c env s3.mid m rest s3.second (omega (arith, le)) ends) ∙ found_is all (GroupIf a b m) v.place))))
group_complete r h c env t all _ rest f y le e = absurd (false-true y)

group_ends : {w : Word} {all rest : List Token} → First w all rest → closes w ≡ true → is_word (Marked Comma) w ≡ false → is_word (Marked Colon) w ≡ false → GroupEnds all
group_ends f a b n = record { ends = list_ends f a b; no_colon = begins_is (Marked Colon) f ∙ n }

more_groups_end : (env : Names) (t : Bool) (all : List Token) (m : Part) (mid rest : List Token) → Front (Spells env t m) all mid → is_more_groups m ≡ true → First (Marked RightParen) mid rest → GroupEnds all
more_groups_end env t all NoMoreGroups mid rest f y w = subst GroupEnds (sym (empty_is f)) (group_ends w refl refl refl)
more_groups_end env t all (MoreGroups g m) mid rest f y w = group_ends (first_word (split f).first) refl refl refl
more_groups_end env t all _ mid rest f y w = absurd (false-true y)

no_more_groups : (r : Reads) (env : Names) (n : ℕ) (ts : List Token) → begins (Marked Semicolon) ts ≡ false → more_groups r env n ts ≡ Found NoMoreGroups ts
no_more_groups r env zero ts e = refl
no_more_groups r env (suc n) ts e = if_false _ _ e

more_groups_complete : (r : Reads) (h : ℕ) → Complete r h → (env : Names) (t : Bool) (n : ℕ) (all : List Token) (m : Part) (mid rest : List Token) → Front (Spells env t m) all mid → is_more_groups m ≡ true → height_of m ≤ h → length all ≤ n → First (Marked RightParen) mid rest
    → more_groups r env n all ≡ Found m mid
more_groups_complete r h c env t n all NoMoreGroups mid rest f y le few w = ap (more_groups r env n) (empty_is f) ∙ no_more_groups r env n mid (begins_is (Marked Semicolon) w)
more_groups_complete r h c env t zero all (MoreGroups g m) mid rest f y le few w = absurd (let w = first_word (split f).first in let n = ap length w.whole in omega (arith, n, few))
more_groups_complete r h c env t (suc n) all (MoreGroups g m) mid rest f y le few w =
    let s1 = split f in let s2 = split s1.second in let v = first_word s1.first in let a = held s2.first in let b = held s2.second in
    let n1 = ap length v.whole in let n2 = shorter s2.first in
    if_true _ _ (begins_is (Marked Semicolon) v) ∙ (eat_is _ v refl
    ∙ (next_is _ (group_complete r h c env t s1.mid g s2.mid a.is a.holds (omega (arith, le)) (more_groups_end env t s2.mid m mid rest b.is b.holds w))
    ∙ next_is _ (more_groups_complete r h c env t n s2.mid m mid rest b.is b.holds (omega (arith, le)) (omega (arith, n1, n2, few)) w)))
more_groups_complete r h c env t n all _ mid rest f y le few w = absurd (false-true y)

group_begins : (env : Names) (t : Bool) (all : List Token) (g : Part) (rest : List Token) → Front (Spells env t g) all rest → is_group g ≡ true → passes (starts env) all ≡ true
group_begins env t all (Group a m p) rest f y = let s1 = split (unplaced f).is in let o = opened s1.first in heads env all a s1.mid o.is (omega (arith, o.level))
group_begins env t all (GroupIf a b m p) rest f y = let s1 = split (unplaced f).is in let o = opened s1.first in heads env all a s1.mid o.is (omega (arith, o.level))
group_begins env t all _ rest f y = absurd (false-true y)

groups_complete : (r : Reads) (h : ℕ) → Complete r h → (env : Names) (t : Bool) (all : List Token) (m : Part) (mid rest : List Token) → Front (Spells env t m) all mid → is_groups m ≡ true → height_of m ≤ h → First (Marked RightParen) mid rest → groups r env all ≡ Found m mid
groups_complete r h c env t all NoGroups mid rest f y le w = ap (groups r env) (empty_is f) ∙ if_true _ _ (begins_is (Marked RightParen) w)
groups_complete r h c env t all (Groups g m) mid rest f y le w =
    let s1 = split f in let a = held s1.first in let b = held s1.second in
    if_false _ _ (begins_other (starts env) (Marked RightParen) all refl (group_begins env t all g s1.mid a.is a.holds))
    ∙ (next_is _ (group_complete r h c env t all g s1.mid a.is a.holds (omega (arith, le)) (more_groups_end env t s1.mid m mid rest b.is b.holds w))
    ∙ next_is _ (more_groups_complete r h c env t (length s1.mid) s1.mid m mid rest b.is b.holds (omega (arith, le)) (omega arith) w))
groups_complete r h c env t all _ mid rest f y le w = absurd (false-true y)

in_parens_complete : (r : Reads) (h : ℕ) → Complete r h → (env : Names) (all ts : List Token) (a : Tree) (p : Place) (node : Tree → Place → Part) (rest : List Token) → Front (mark LeftParen ⊙ condition a (Is env a) ⊙ mark RightParen) ts rest → height a ≤ h → between all rest ≡ p
    → in_parens r env all ts node ≡ Found (node a p) rest
in_parens_complete r h c env all ts a p node rest f le place =
    let s1 = split f in let s2 = split s1.second in let close = first_word s2.second in
    eat_is _ (first_word s1.first) refl ∙ (next_is _ (condition_complete r h c env s1.mid a s2.mid s2.first le (passes_is closes close)) ∙ (eat_is _ close refl ∙ found_is all (node a) place))

grouped_complete : (r : Reads) (h : ℕ) → Complete r h → (env : Names) (t : Bool) (all ts : List Token) (g : Part) (p : Place) (node : Part → Place → Part) (rest : List Token) → Front (mark LeftParen ⊙ Where (is_groups g) (Spells env t g) ⊙ mark RightParen) ts rest → height_of g ≤ h → between all rest ≡ p
    → grouped r env all ts node ≡ Found (node g p) rest
grouped_complete r h c env t all ts g p node rest f le place =
    let s1 = split f in let s2 = split s1.second in let close = first_word s2.second in let a = held s2.first in
    eat_is _ (first_word s1.first) refl ∙ (next_is _ (groups_complete r h c env t s1.mid g s2.mid rest a.is a.holds le close) ∙ (eat_is _ close refl ∙ found_is all (node g) place))

pub clause_complete : (r : Reads) (h : ℕ) → Complete r h → (env : Names) (t : Bool) (all : List Token) (a : Part) (rest : List Token) → Front (Spells env t a) all rest → is_clause a ≡ true → height_of a ≤ suc h → clause r env all ≡ Found a rest
clause_complete r h c env t all (Requires b p) rest f y le =
    let v = unplaced f in let s1 = split v.is in let w = first_word s1.first in
    if_true _ _ (begins_is requires_word w) ∙ (eat_is _ w refl ∙ in_parens_complete r h c env all s1.mid b p Requires rest s1.second (omega (arith, le)) v.place)
clause_complete r h c env t all (Ensures b p) rest f y le =
    let v = unplaced f in let s1 = split v.is in let w = first_word s1.first in
    if_false _ _ (begins_is requires_word w) ∙ (if_true _ _ (begins_is ensures_word w) ∙ (eat_is _ w refl ∙ in_parens_complete r h c env all s1.mid b p Ensures rest s1.second (omega (arith, le)) v.place))
clause_complete r h c env t all (Assigns g p) rest f y le =
    let v = unplaced f in let s1 = split v.is in let w = first_word s1.first in
    if_false _ _ (begins_is requires_word w) ∙ (if_false _ _ (begins_is ensures_word w) ∙ (if_true _ _ (begins_is assigns_word w) ∙ (eat_is _ w refl ∙ grouped_complete r h c env t all s1.mid g p Assigns rest s1.second (omega (arith, le)) v.place)))
clause_complete r h c env t all (Frees g p) rest f y le =
    let v = unplaced f in let s1 = split v.is in let w = first_word s1.first in
    if_false _ _ (begins_is requires_word w) ∙ (if_false _ _ (begins_is ensures_word w) ∙ (if_false _ _ (begins_is assigns_word w) ∙ (if_true _ _ (begins_is frees_word w) ∙ (eat_is _ w refl ∙ grouped_complete r h c env t all s1.mid g p Frees rest s1.second (omega (arith, le)) v.place))))
clause_complete r h c env t all (LoopInvariant b p) rest f y le =
    let v = unplaced f in let s1 = split v.is in let w = first_word s1.first in
    if_false _ _ (begins_is requires_word w) ∙ (if_false _ _ (begins_is ensures_word w) ∙ (if_false _ _ (begins_is assigns_word w) ∙ (if_false _ _ (begins_is frees_word w) ∙ (if_true _ _ (begins_is loop_invariant_word w) ∙ (eat_is _ w refl ∙ in_parens_complete r h c env all s1.mid b p LoopInvariant rest s1.second (omega (arith, le)) v.place)))))
clause_complete r h c env t all (Decreases b m p) rest f y le =
    let v = unplaced f in let s1 = split v.is in let w = first_word s1.first in let s2 = split s1.second in let s3 = split s2.second in let s4 = split s3.second in let close = first_word s4.second in let x = sorted s4.first in
    let ends = list_ends close refl refl in
    if_false _ _ (begins_is requires_word w) ∙ (if_false _ _ (begins_is ensures_word w) ∙ (if_false _ _ (begins_is assigns_word w) ∙ (if_false _ _ (begins_is frees_word w) ∙ (if_false _ _ (begins_is loop_invariant_word w) ∙ (eat_is _ w refl ∙ (eat_is _ (first_word s2.first) refl ∙ (next_is _ (condition_complete r h c env s2.mid b s3.mid s3.first (omega (arith, le)) (more_closes Condition env s3.mid m s4.mid x.is x.sort ends.closed))
    ∙ (next_is _ (conditions_complete r h c env s3.mid m s4.mid s4.first (omega (arith, le)) ends) ∙ (eat_is _ close refl ∙ found_is all (Decreases b m) v.place)))))))))
clause_complete r h c env t all _ rest f y le = absurd (false-true y)
