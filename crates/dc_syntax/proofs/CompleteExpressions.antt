-- What is spelled at a place is read there, or something longer; and it itself, if nothing that could go on follows: expressions.
use Rattle.std.proofs.Common.{◌≡◌, ℕ, zero, suc, ◌+◌, ◌<◌, ◌≤◌, Bool, true, false, if◌then◌else◌, ◌==◌, ◌||◌, ◌&&◌, List, [], ◌∷◌, ◌++◌, length, max, refl, sym, ap, ◌∙◌, ⊎_elim, arith}
use Rattle.std.proofs.lemmas.Bool.Decides.{nat_tests}
use Rattle.std.specs.Prelude.{nat_le, nat_lt}
use Rattle.std.proofs.lemmas.Bool.{cases_lt}
use Rattle.dc_syntax.specs.declared.mark.Mark.{Mark}
use Rattle.dc_syntax.specs.declared.mark.Mark.TheVariants.{LeftParen, RightParen, LeftBracket, RightBracket, Colon, Question, Dot, Arrow, Increment, Decrement, Star, Implication}
use Rattle.dc_syntax.specs.declared.keyword.Keyword.{Keyword}
use Rattle.dc_syntax.specs.Tokens.{Word, Named, Literal, Marked, Reserved, Token, Place, is_word, infix_level, is_prefix, is_step, is_assignment, is_quantifier, sizeof_word}
use Rattle.dc_syntax.specs.Names.{Names}
use Rattle.dc_syntax.specs.Trees.{Assigned, Tree, Name, Constant, Paren, Quantifier, Index, Call, Member, Through, After, Before, Prefix, SizeofExpression, SizeofType, Cast, Binary, Implies, Conditional, Assign, NoArguments, Arguments, MemberDeclaration, Enumerator, EnumeratorValue, Nameless, DeclaredName, Wrapped, Unsized, Sized, Function, Pointer, IsExpression, IsArguments, IsMember, IsEnumerator, IsDeclarator, sort_of, level_of, is_nameless, naming, height}
use Rattle.dc_syntax.specs.Phrases.{Passing, Sorted, begins_specs, leaves}
use Rattle.dc_syntax.specs.Grammar.{is_infix, Is}
use Rattle.dc_syntax.specs.Reading.{Out, Nothing, Found, next, between, found, begins, eat, named, Upto, Reads, is_declarator_word, length_at, suffix_mark, suffix_at, suffix_one, declarator, primary_at, primary, arguments, postfix_mark, postfix_at, postfix_one, postfix, begins_cast, unary_at, unary, cast, binary_at, binary_one, binary, implies_one, implied, conditional_one, conditional, assign_at, assign_word, assign_one, assign, above, upto, step, reads}
use Rattle.dc_syntax.proofs.Words.{word_is, false-true, eq_is, eq_same}
use Rattle.dc_syntax.proofs.Base.{Front, split, First, first_word, unplaced, held, opened, sorted, empty_is, shorter, Gives, gives_nothing, gives_found, gives_next, gives_if, gives_eat, gives_named, gives_weaken}
use Rattle.dc_syntax.proofs.Reached.{next_is, found_is, if_true, if_false, checked_is, eat_is, named_is, passes, passes_is, begins_is, passes_not, other_word, begins_other, Reached, reached_exact, reached_at, reached_by, reached_last, Onward, Spine, le-true, attempt_none, spine_next, spine_ends, spine_starts, once_ends, once_takes}
use Rattle.dc_syntax.proofs.Heads.{sort_number, starts, heads, no_specs, closes, continues, is_qualifier_word, no_qualifier, declarator_begins, is_direct_word, direct_begins, type_begins, op_joins, other_joins, joins, StopsAt, stops_first, stops_less, stops_gap, assignment_joins, infix_bound}
use Rattle.dc_syntax.proofs.Sound.{Sound, sound, parameters_sound, arguments_sound}
use Rattle.dc_syntax.proofs.Complete.{Complete, exact, list_ends, more_closes, more_complete, assigned_complete, named_complete, bare_is, behind_declarator, not_nameless, inner, or_none_complete, qualified_is, direct_spine, type_name_complete, member_complete, enumerator_complete, high}

-- nothing goes back
past_next : {o : Out Tree} {go : Tree → List Token → Out Tree} (ts mid : List Token) → Gives (λ t rest. length rest ≤ length ts) o → length ts ≤ length mid
    → ((e : Tree) (rest : List Token) → length rest ≤ length mid → Gives (λ t rest. length rest ≤ length mid) (go e rest)) → Gives (λ t rest. length rest ≤ length mid) (next o go)
past_next {o} {go} ts mid g le f = gives_next g (λ e rest q. f e rest (omega (arith, q, le)))

upto_past : (r : Reads) (h : ℕ) → Sound r h → (k : ℕ) (env : Names) (ts : List Token) → Gives (λ t rest. length rest ≤ length ts) (r (Upto k) env ts)
upto_past r h s k env ts = gives_weaken (s.upto k env ts) (λ e rest q. shorter q.is)

eat_past : (w : Word) (ts : List Token) (go : List Token → Out Tree) (mid : List Token) → length ts ≤ length mid
    → ((rest : List Token) → length rest ≤ length mid → Gives (λ t rest. length rest ≤ length mid) (go rest)) → Gives (λ t rest. length rest ≤ length mid) (eat w ts go)
eat_past w ts go mid le f = gives_eat {w = w} {all = ts} {go = go} (λ rest g. let sh = shorter g in f rest (omega (arith, sh, le)))

-- a mark closes what is found
close_past : (w : Word) (all ts : List Token) (node : Place → Tree) (mid : List Token) → length ts ≤ length mid → Gives (λ t rest. length rest ≤ length mid) (eat w ts (λ rest. found all node rest))
close_past w all ts node mid le = eat_past w ts (λ rest. found all node rest) mid le (λ rest le. gives_found (node (between all rest)) rest le)

named_past : (ts : List Token) (go : List ℕ → List Token → Out Tree) (mid : List Token) → length ts ≤ length mid
    → ((n : List ℕ) (rest : List Token) → length rest ≤ length mid → Gives (λ t rest. length rest ≤ length mid) (go n rest)) → Gives (λ t rest. length rest ≤ length mid) (named ts go)
named_past ts go mid le f = gives_named ts {go = go} (λ n rest g. let sh = shorter g in f n rest (omega (arith, sh, le)))

length_past : (r : Reads) (h : ℕ) → Sound r h → (env : Names) (all ts : List Token) (d : Tree) (mid : List Token) → length ts ≤ length mid → Gives (λ t rest. length rest ≤ length mid) (length_at r env all d ts)
length_past r h s env all ts d mid le =
    gives_if {b = begins (Marked RightBracket) ts} (λ _. close_past (Marked RightBracket) all ts (Unsized d) mid le)
    (λ _. past_next ts mid (upto_past r h s 15 env ts) le (λ c rest le. close_past (Marked RightBracket) all rest (Sized d c) mid le))

suffix_past : (r : Reads) (h : ℕ) → Sound r h → (env : Names) → Onward (suffix_one r h env)
suffix_past r h s env all e [] = gives_nothing
suffix_past r h s env all e (t ∷ ts) = at_word t.word
  where
    at_mark : (m : Mark) → Gives (λ u rest. length rest ≤ length (t ∷ ts)) (suffix_mark r h env all e m ts)
    at_mark LeftBracket = length_past r h s env all ts e (t ∷ ts) (omega arith)
    at_mark LeftParen = past_next ts (t ∷ ts) (gives_weaken (parameters_sound r h s env ts) (λ e rest q. shorter q.is)) (omega arith) (λ a rest le. close_past (Marked RightParen) all rest (Function e a) (t ∷ ts) le)
    at_mark _ = gives_nothing

    at_word : (w : Word) → Gives (λ u rest. length rest ≤ length (t ∷ ts)) (suffix_at r h env all e w ts)
    at_word (Named n) = gives_nothing
    at_word (Literal n) = gives_nothing
    at_word (Reserved k) = gives_nothing
    at_word (Marked m) = at_mark m

suffix_none : (r : Reads) (h : ℕ) (env : Names) (all : List Token) (d : Tree) (rest : List Token) → passes continues rest ≡ false → suffix_one r h env all d rest ≡ Nothing
suffix_none r h env all d [] e = refl
suffix_none r h env all d (t ∷ ts) e = at_word t.word e
  where
    at_mark : (m : Mark) → continues (Marked m) ≡ false → suffix_mark r h env all d m ts ≡ Nothing
    at_mark LeftBracket e = absurd (false-true (sym e))
    at_mark LeftParen e = absurd (false-true (sym e))
    at_mark _ e = refl

    at_word : (w : Word) → continues w ≡ false → suffix_at r h env all d w ts ≡ Nothing
    at_word (Named n) e = refl
    at_word (Literal n) e = refl
    at_word (Reserved k) e = refl
    at_word (Marked m) e = at_mark m e

declarator_complete : (r : Reads) (h : ℕ) → Sound r h → Complete r h → (env : Names) (all : List Token) (tree : Tree) (rest : List Token) → Front (Is env tree) all rest → sort_of tree ≡ IsDeclarator → height tree ≤ suc h → is_nameless tree ≡ false → passes continues rest ≡ false
    → declarator r h env all ≡ Found tree rest
declarator_complete r h s c env all (Pointer k d p) rest f t le n e =
    let u = unplaced f in let s1 = split u.is in let s2 = split s1.second in let w = first_word s1.first in let o = sorted s2.second in
    if_true _ _ (begins_is (Marked Star) w) ∙ (eat_is _ w refl ∙ (qualified_is k s1.mid s2.mid _ s2.first (plain d o.is o.sort)
    ∙ (next_is _ (or_none_complete r h c env s2.mid d rest s2.second (omega (arith, le)) e) ∙ found_is all (Pointer k d) u.place)))
  where
    no_qualifiers : (w : Word) → is_declarator_word w ≡ true → is_qualifier_word w ≡ false
    no_qualifiers (Named n) e = refl
    no_qualifiers (Literal n) e = refl
    no_qualifiers (Marked m) e = refl
    no_qualifiers (Reserved k) e = absurd (false-true e)

    plain : {mid : List Token} (d : Tree) → Front (Is env d) mid rest → sort_of d ≡ IsDeclarator → passes is_qualifier_word mid ≡ false
    plain Nameless f t = ap (passes is_qualifier_word) (empty_is f) ∙ no_qualifier rest e
    plain {mid} d f t = passes_not is_declarator_word is_qualifier_word no_qualifiers mid (declarator_begins env mid d rest f t refl)
declarator_complete r h s c env all tree rest f t le n e =
    if_false _ _ (begins_other is_direct_word (Marked Star) all refl (direct_begins env all tree rest f t refl n))
    ∙ reached_exact (spine_ends {S' = Unit {0}} (direct_spine r h c env all tree rest f t refl le (λ y. absurd (false-true (sym n ∙ y)))) (suffix_past r h s env) (λ _. tt) (λ _. suffix_none r h env all tree rest e)) tt

-- primary
primary_is : {w : Word} {all rest : List Token} (r : Reads) (h : ℕ) (env : Names) → First w all rest → primary r h env all ≡ primary_at r h env all w rest
primary_is {w} {all} {rest} r h env f =
    ap (primary r h env) f.whole ∙ (ap (λ w. primary_at r h env (f.token ∷ rest) w rest) f.word ∙ ap (λ l. primary_at r h env l w rest) (sym f.whole))

quantifier_complete : (r : Reads) (h : ℕ) → Complete r h → (env : Names) (all : List Token) (k : Keyword) (a d b : Tree) (p : Place) (rest : List Token) → Front (Is env (Quantifier k a d b p)) all rest → height (Quantifier k a d b p) ≤ suc h
    → primary r h env all ≡ Found (Quantifier k a d b p) rest
quantifier_complete r h c env all k a d b p rest f le =
    let v = unplaced f in let u = held v.is in let s1 = split u.is in let s2 = split s1.second in let s3 = split s2.second in let s4 = split s3.second in let s5 = split s4.second in let s6 = split s5.second in
    let w = first_word s1.first in let o = first_word s2.first in let e = first_word s5.first in let close = first_word s6.second in
    let n = held (inner s4.first) in
    let g : Front (Passing (leaves env a) (Sorted IsDeclarator d (Is env d))) s3.mid s4.mid = record { front = s4.first.front; whole = s4.first.whole; is = record { passes = s4.first.is.passes; is = s4.first.is.is.is } } in
    primary_is r h env w ∙ (checked_is _ u.holds ∙ (eat_is _ o refl
    ∙ (bare_is r h c env s2.mid a s3.mid _ s3.first (omega (arith, le)) (behind_declarator env a d s3.mid s4.mid g (λ y. absurd (false-true (sym (not_nameless d n.holds) ∙ y))))
    ∙ (next_is _ (named_complete r h c env s3.mid d s4.mid (inner s4.first) (omega (arith, le)) (passes_is continues e))
    ∙ (eat_is _ e refl ∙ (next_is _ (exact r h c 15 (omega arith) (naming d false env) s5.mid b s6.mid s6.first (omega (arith, le)) (stops_first 15 close (omega arith)))
    ∙ (eat_is _ close refl ∙ found_is all (Quantifier k a d b) v.place)))))))

primary_complete : (r : Reads) (h : ℕ) → Complete r h → (env : Names) (all : List Token) (tree : Tree) (rest : List Token) → Front (Is env tree) all rest → level_of tree ≤ 0 → height tree ≤ suc h
    → primary r h env all ≡ Found tree rest
primary_complete r h c env all (Name n p) rest f l le = let v = unplaced f in let u = held v.is in primary_is r h env (first_word u.is) ∙ (checked_is _ u.holds ∙ found_is all (Name n) v.place)
primary_complete r h c env all (Constant n p) rest f l le = let u = unplaced f in primary_is r h env (first_word u.is) ∙ found_is all (Constant n) u.place
primary_complete r h c env all (Paren e p) rest f l le =
    let u = unplaced f in let a = split u.is in let b = split a.second in let close = first_word b.second in
    primary_is r h env (first_word a.first) ∙ (next_is _ (exact r h c 16 (omega arith) env a.mid e b.mid b.first (omega (arith, le)) (stops_first 16 close (omega arith))) ∙ (eat_is _ close refl ∙ found_is all (Paren e) u.place))
primary_complete r h c env all (Quantifier k a d b p) rest f l le = quantifier_complete r h c env all k a d b p rest f le
primary_complete r h c env all _ rest f l le = absurd (omega (arith, l))

-- postfix
postfix_one_is : {w : Word} {mid rest : List Token} (r : Reads) (env : Names) (all : List Token) (e : Tree) → First w mid rest → postfix_one r env all e mid ≡ postfix_at r env all e w rest
postfix_one_is {w} {mid} {rest} r env all e f = ap (postfix_one r env all e) f.whole ∙ ap (λ w. postfix_at r env all e w rest) f.word

arguments_complete : (r : Reads) (h : ℕ) → Complete r h → (env : Names) (all : List Token) (tree : Tree) (mid rest : List Token) → Front (Is env tree) all mid → sort_of tree ≡ IsArguments → height tree ≤ h → First (Marked RightParen) mid rest
    → arguments r env all ≡ Found tree mid
arguments_complete r h c env all NoArguments mid rest f s le g = if_true _ _ (ap (begins (Marked RightParen)) (empty_is f) ∙ begins_is (Marked RightParen) g) ∙ ap (λ l. Found NoArguments l) (empty_is f)
arguments_complete r h c env all (Arguments a m) mid rest f s le g =
    let s1 = split f in let o = opened s1.first in let x = sorted s1.second in let ends = list_ends g refl refl in
    let closed = more_closes Assigned env s1.mid m mid x.is x.sort ends.closed in
    if_false _ _ (begins_other (starts env) (Marked RightParen) all refl (heads env all a s1.mid o.is o.level))
    ∙ (next_is _ (assigned_complete r h c env all a s1.mid s1.first (omega (arith, le)) closed)
    ∙ next_is _ (more_complete (r (Upto 16)) Assigned h (assigned_complete r h c) env (length s1.mid) s1.mid m mid x.is x.sort (omega (arith, le)) (omega arith) ends))
arguments_complete r h c env all _ mid rest f s le g = absurd (let k = ap sort_number s in omega (arith, k))

step_cases : (r : Reads) (env : Names) (all : List Token) (e : Tree) (m : Mark) (ts : List Token) → is_step m ≡ true → postfix_mark r env all e m ts ≡ found all (After m e) ts
step_cases r env all e Increment ts y = refl
step_cases r env all e Decrement ts y = refl
step_cases r env all e _ ts y = absurd (false-true y)

post_spine : (r : Reads) (h : ℕ) → Complete r h → (env : Names) (all : List Token) (tree : Tree) (rest : List Token) → Front (Is env tree) all rest → level_of tree ≤ 1 → height tree ≤ suc h
    → Spine (postfix_one r env) h (postfix r h env all) all tree rest (Unit {0})
post_spine r h c env all (Name n p) rest f l le = spine_starts (reached_at (primary_complete r h c env all (Name n p) rest f (omega arith) le))
post_spine r h c env all (Constant n p) rest f l le = spine_starts (reached_at (primary_complete r h c env all (Constant n p) rest f (omega arith) le))
post_spine r h c env all (Paren e p) rest f l le = spine_starts (reached_at (primary_complete r h c env all (Paren e p) rest f (omega arith) le))
post_spine r h c env all (Quantifier k a d b p) rest f l le = spine_starts (reached_at (primary_complete r h c env all (Quantifier k a d b p) rest f (omega arith) le))
post_spine r h c env all (Call g a p) rest f l le =
    let u = unplaced f in let s1 = split u.is in let s2 = split s1.second in let s3 = split s2.second in
    let o = opened s1.first in let x = sorted s3.first in let close = first_word s3.second in
    let one : postfix_one r env all g s1.mid ≡ Found (Call g a p) rest =
    postfix_one_is r env all g (first_word s2.first)
    ∙ (next_is _ (arguments_complete r h c env s2.mid a s3.mid rest x.is x.sort (omega (arith, le)) close) ∙ (eat_is _ close refl ∙ found_is all (Call g a) u.place)) in
    spine_next (post_spine r h c env all g s1.mid o.is o.level (omega (arith, le))) tt (omega (arith, le)) (reached_at one) (omega arith)
post_spine r h c env all (Index g a p) rest f l le =
    let u = unplaced f in let s1 = split u.is in let s2 = split s1.second in let s3 = split s2.second in
    let o = opened s1.first in let close = first_word s3.second in
    let one : postfix_one r env all g s1.mid ≡ Found (Index g a p) rest =
    postfix_one_is r env all g (first_word s2.first)
    ∙ (next_is _ (exact r h c 16 (omega arith) env s2.mid a s3.mid s3.first (omega (arith, le)) (stops_first 16 close (omega arith))) ∙ (eat_is _ close refl ∙ found_is all (Index g a) u.place)) in
    spine_next (post_spine r h c env all g s1.mid o.is o.level (omega (arith, le))) tt (omega (arith, le)) (reached_at one) (omega arith)
post_spine r h c env all (Member g n p) rest f l le =
    let u = unplaced f in let s1 = split u.is in let s2 = split s1.second in let o = opened s1.first in
    let one : postfix_one r env all g s1.mid ≡ Found (Member g n p) rest =
    postfix_one_is r env all g (first_word s2.first) ∙ (named_is _ (first_word s2.second) ∙ found_is all (Member g n) u.place) in
    spine_next (post_spine r h c env all g s1.mid o.is o.level (omega (arith, le))) tt (omega (arith, le)) (reached_at one) (omega arith)
post_spine r h c env all (Through g n p) rest f l le =
    let u = unplaced f in let s1 = split u.is in let s2 = split s1.second in let o = opened s1.first in
    let one : postfix_one r env all g s1.mid ≡ Found (Through g n p) rest =
    postfix_one_is r env all g (first_word s2.first) ∙ (named_is _ (first_word s2.second) ∙ found_is all (Through g n) u.place) in
    spine_next (post_spine r h c env all g s1.mid o.is o.level (omega (arith, le))) tt (omega (arith, le)) (reached_at one) (omega arith)
post_spine r h c env all (After m g p) rest f l le =
    let v = unplaced f in let u = held v.is in let s1 = split u.is in let o = opened s1.first in
    let one : postfix_one r env all g s1.mid ≡ Found (After m g p) rest =
    postfix_one_is r env all g (first_word s1.second) ∙ (step_cases r env all g m rest u.holds ∙ found_is all (After m g) v.place) in
    spine_next (post_spine r h c env all g s1.mid o.is o.level (omega (arith, le))) tt (omega (arith, le)) (reached_at one) (omega arith)
post_spine r h c env all _ rest f l le = absurd (omega (arith, l))

-- nothing goes on
if_none : (b : Bool) {x y : Out Tree} → (b ≡ true → x ≡ Nothing) → y ≡ Nothing → (if b then x else y) ≡ Nothing
if_none true f e = f refl
if_none false f e = e

eat_none : (k : ℕ) (w : Word) (ts : List Token) (go : List Token → Out Tree) → StopsAt k ts → joins w ≤ k → eat w ts go ≡ Nothing
eat_none k w [] go s le = refl
eat_none k w (t ∷ ts) go s le = if_none (is_word w t.word) (λ e. absurd (none (word_is w t.word e))) refl
  where
    none : t.word ≡ w → ⊥
    none e = let j : joins t.word ≡ joins w = ap joins e in omega (arith, j, s, le)

postfix_none : (r : Reads) (env : Names) (all : List Token) (e : Tree) (rest : List Token) → StopsAt 1 rest → postfix_one r env all e rest ≡ Nothing
postfix_none r env all e [] s = refl
postfix_none r env all e (t ∷ ts) s = at_word t.word s
  where
    at_mark : (m : Mark) → 1 < joins (Marked m) → postfix_mark r env all e m ts ≡ Nothing
    at_mark LeftBracket s = absurd (omega (arith, s))
    at_mark LeftParen s = absurd (omega (arith, s))
    at_mark Dot s = absurd (omega (arith, s))
    at_mark Arrow s = absurd (omega (arith, s))
    at_mark Increment s = absurd (omega (arith, s))
    at_mark Decrement s = absurd (omega (arith, s))
    at_mark _ s = refl

    at_word : (w : Word) → 1 < joins w → postfix_at r env all e w ts ≡ Nothing
    at_word (Named n) s = refl
    at_word (Literal n) s = refl
    at_word (Reserved n) s = refl
    at_word (Marked m) s = at_mark m s

binary_none : (r : Reads) (env : Names) (n : ℕ) (all : List Token) (e : Tree) (rest : List Token) → StopsAt (4 + n) rest → binary_one r env n all e rest ≡ Nothing
binary_none r env n all e [] s = refl
binary_none r env n all e (t ∷ ts) s = at_word t.word s
  where
    at_word : (w : Word) → 4 + n < joins w → binary_at r env n all e w ts ≡ Nothing
    at_word (Named m) s = refl
    at_word (Literal m) s = refl
    at_word (Reserved m) s = refl
    at_word (Marked m) s = if_none (infix_level m == suc n) (λ e. absurd (none (eq_is (suc n) (infix_level m) e))) refl
      where
        none : infix_level m ≡ suc n → ⊥
        none e = let j : joins (Marked m) ≡ 4 + n = ap (λ l. op_joins l (other_joins m)) e in omega (arith, j, s)

assign_none : (r : Reads) (env : Names) (all : List Token) (e : Tree) (rest : List Token) → StopsAt 16 rest → assign_one r env all e rest ≡ Nothing
assign_none r env all e rest st = attempt_none (nat_le (level_of e) 2) (by rest st)
  where
    by : (rest : List Token) → StopsAt 16 rest → assign_word r env all e rest ≡ Nothing
    by [] s = refl
    by (t ∷ ts) s = at_word t.word s
      where
        at_word : (w : Word) → 16 < joins w → assign_at r env all e w ts ≡ Nothing
        at_word (Named m) s = refl
        at_word (Literal m) s = refl
        at_word (Reserved m) s = refl
        at_word (Marked m) s = if_none (is_assignment m) (λ y. absurd (none y)) refl
          where
            none : is_assignment m ≡ true → ⊥
            none y = let j = assignment_joins m y in omega (arith, j, s)

-- nothing goes back
postfix_past : (r : Reads) (h : ℕ) → Sound r h → (env : Names) → Onward (postfix_one r env)
postfix_past r h s env all e [] = gives_nothing
postfix_past r h s env all e (t ∷ ts) = at_word t.word
  where
    at_mark : (m : Mark) → Gives (λ u rest. length rest ≤ length (t ∷ ts)) (postfix_mark r env all e m ts)
    at_mark LeftBracket = past_next ts (t ∷ ts) (upto_past r h s 16 env ts) (omega arith) (λ a rest le. close_past (Marked RightBracket) all rest (Index e a) (t ∷ ts) le)
    at_mark LeftParen = past_next ts (t ∷ ts) (gives_weaken (arguments_sound r h s env ts) (λ e rest q. shorter q.is)) (omega arith) (λ a rest le. close_past (Marked RightParen) all rest (Call e a) (t ∷ ts) le)
    at_mark Dot = named_past ts (λ n rest. found all (Member e n) rest) (t ∷ ts) (omega arith) (λ n rest le. gives_found (Member e n (between all rest)) rest le)
    at_mark Arrow = named_past ts (λ n rest. found all (Through e n) rest) (t ∷ ts) (omega arith) (λ n rest le. gives_found (Through e n (between all rest)) rest le)
    at_mark Increment = gives_found (After Increment e (between all ts)) ts (omega arith)
    at_mark Decrement = gives_found (After Decrement e (between all ts)) ts (omega arith)
    at_mark _ = gives_nothing

    at_word : (w : Word) → Gives (λ u rest. length rest ≤ length (t ∷ ts)) (postfix_at r env all e w ts)
    at_word (Named n) = gives_nothing
    at_word (Literal n) = gives_nothing
    at_word (Reserved n) = gives_nothing
    at_word (Marked m) = at_mark m

binary_past : (r : Reads) (h : ℕ) → Sound r h → (env : Names) (n : ℕ) → Onward (binary_one r env n)
binary_past r h s env n all e [] = gives_nothing
binary_past r h s env n all e (t ∷ ts) = at_word t.word
  where
    at_word : (w : Word) → Gives (λ u rest. length rest ≤ length (t ∷ ts)) (binary_at r env n all e w ts)
    at_word (Named m) = gives_nothing
    at_word (Literal m) = gives_nothing
    at_word (Reserved m) = gives_nothing
    at_word (Marked m) = gives_if {b = infix_level m == suc n} (λ _. past_next ts (t ∷ ts) (upto_past r h s (3 + n) env ts) (omega arith) (λ b rest le. gives_found (Binary m e b (between all rest)) rest le)) (λ _. gives_nothing)

implies_past : (r : Reads) (h : ℕ) → Sound r h → (env : Names) → Onward (implies_one r env)
implies_past r h s env all e mid = eat_past (Marked Implication) mid _ mid (omega arith) (λ ts le. past_next ts mid (upto_past r h s 14 env ts) le (λ b rest le. gives_found (Implies e b (between all rest)) rest le))

conditional_past : (r : Reads) (h : ℕ) → Sound r h → (env : Names) → Onward (conditional_one r env)
conditional_past r h s env all e mid = eat_past (Marked Question) mid _ mid (omega arith) (λ ts le. past_next ts mid (upto_past r h s 16 env ts) le (λ b rest le.
    eat_past (Marked Colon) rest _ mid le (λ ts le. past_next ts mid (upto_past r h s 15 env ts) le (λ c rest le. gives_found (Conditional e b c (between all rest)) rest le))))

assign_past : (r : Reads) (h : ℕ) → Sound r h → (env : Names) → Onward (assign_one r env)
assign_past r h s env all e mid = gives_if {b = nat_le (level_of e) 2} (λ _. by mid) (λ _. gives_nothing)
  where
    by : (mid : List Token) → Gives (λ u rest. length rest ≤ length mid) (assign_word r env all e mid)
    by [] = gives_nothing
    by (t ∷ ts) = at_word t.word
      where
        at_word : (w : Word) → Gives (λ u rest. length rest ≤ length (t ∷ ts)) (assign_at r env all e w ts)
        at_word (Named m) = gives_nothing
        at_word (Literal m) = gives_nothing
        at_word (Reserved m) = gives_nothing
        at_word (Marked m) = gives_if {b = is_assignment m} (λ _. past_next ts (t ∷ ts) (upto_past r h s 16 env ts) (omega arith) (λ b rest le. gives_found (Assign m e b (between all rest)) rest le)) (λ _. gives_nothing)

postfix_complete : (r : Reads) (h : ℕ) → Sound r h → Complete r h → (env : Names) (all : List Token) (tree : Tree) (rest : List Token) → Front (Is env tree) all rest → level_of tree ≤ 1 → height tree ≤ suc h
    → Reached (postfix r h env all) tree rest (StopsAt 1 rest)
postfix_complete r h s c env all tree rest f l le =
    spine_ends (post_spine r h c env all tree rest f l le) (postfix_past r h s env) (λ _. tt) (λ st. postfix_none r env all tree rest st)

-- unary and cast
unary_is : {w : Word} {all rest : List Token} (r : Reads) (h : ℕ) (env : Names) → First w all rest → unary r h env all ≡ unary_at r h env all w rest
unary_is {w} {all} {rest} r h env f =
    ap (unary r h env) f.whole ∙ (ap (λ w. unary_at r h env (f.token ∷ rest) w rest) f.word ∙ ap (λ l. unary_at r h env l w rest) (sym f.whole))

abbrev is_quantifier_test : Word → Bool
is_quantifier_test (Reserved k) = is_quantifier k
is_quantifier_test _ = false

-- what is no prefix operator is read as a postfix expression
unary_postfix : (r : Reads) (h : ℕ) (env : Names) (all : List Token) (tree : Tree) (rest : List Token) → Front (Is env tree) all rest → level_of tree ≤ 1 → unary r h env all ≡ postfix r h env all
unary_postfix r h env all (Name n p) rest f l = unary_is r h env (first_word (held (unplaced f).is).is)
unary_postfix r h env all (Constant n p) rest f l = unary_is r h env (first_word (unplaced f).is)
unary_postfix r h env all (Paren e p) rest f l = unary_is r h env (first_word (split (unplaced f).is).first)
unary_postfix r h env all (Quantifier k a d b p) rest f l = let u = held (unplaced f).is in unary_is r h env (first_word (split u.is).first) ∙ if_false _ _ (other_word is_quantifier_test sizeof_word (Reserved k) refl u.holds)
unary_postfix r h env all (Call g a p) rest f l = let s = split (unplaced f).is in let o = opened s.first in unary_postfix r h env all g s.mid o.is o.level
unary_postfix r h env all (Index g a p) rest f l = let s = split (unplaced f).is in let o = opened s.first in unary_postfix r h env all g s.mid o.is o.level
unary_postfix r h env all (Member g a p) rest f l = let s = split (unplaced f).is in let o = opened s.first in unary_postfix r h env all g s.mid o.is o.level
unary_postfix r h env all (Through g a p) rest f l = let s = split (unplaced f).is in let o = opened s.first in unary_postfix r h env all g s.mid o.is o.level
unary_postfix r h env all (After m g p) rest f l = let s = split (held (unplaced f).is).is in let o = opened s.first in unary_postfix r h env all g s.mid o.is o.level
unary_postfix r h env all _ rest f l = absurd (omega (arith, l))

cast_first : {w : Word} {all rest : List Token} (env : Names) → First w all rest → begins_cast env all ≡ (is_word (Marked LeftParen) w && begins_specs env rest)
cast_first {w} {all} {rest} env f = ap (begins_cast env) f.whole ∙ ap (λ w. is_word (Marked LeftParen) w && begins_specs env rest) f.word

-- another mark than a parenthesis
abbrev is_operator : Word → Bool
is_operator (Marked m) = is_prefix m || is_step m
is_operator _ = false

no_cast : {w : Word} {all rest : List Token} (env : Names) → First w all rest → is_word (Marked LeftParen) w ≡ false → begins_cast env all ≡ false
no_cast {w} {all} {rest} env f e = cast_first env f ∙ ap (λ b. b && begins_specs env rest) e

or_true : (a : Bool) {b : Bool} → b ≡ true → (a || b) ≡ true
or_true true e = refl
or_true false e = e

not_cast : (env : Names) (all : List Token) (tree : Tree) (rest : List Token) → Front (Is env tree) all rest → level_of tree ≤ 2 → begins_cast env all ≡ false
not_cast env all (Name n p) rest f l = no_cast env (first_word (held (unplaced f).is).is) refl
not_cast env all (Constant n p) rest f l = no_cast env (first_word (unplaced f).is) refl
not_cast env all (Paren e p) rest f l =
    let a = split (unplaced f).is in let b = split a.second in let o = opened b.first in
    cast_first env (first_word a.first) ∙ no_specs env a.mid (heads env a.mid e b.mid o.is o.level)
not_cast env all (Quantifier k a d b p) rest f l = no_cast env (first_word (split (held (unplaced f).is).is).first) refl
not_cast env all (Call g a p) rest f l = let s = split (unplaced f).is in let o = opened s.first in not_cast env all g s.mid o.is (omega (arith, o.level))
not_cast env all (Index g a p) rest f l = let s = split (unplaced f).is in let o = opened s.first in not_cast env all g s.mid o.is (omega (arith, o.level))
not_cast env all (Member g a p) rest f l = let s = split (unplaced f).is in let o = opened s.first in not_cast env all g s.mid o.is (omega (arith, o.level))
not_cast env all (Through g a p) rest f l = let s = split (unplaced f).is in let o = opened s.first in not_cast env all g s.mid o.is (omega (arith, o.level))
not_cast env all (After m g p) rest f l = let s = split (held (unplaced f).is).is in let o = opened s.first in not_cast env all g s.mid o.is (omega (arith, o.level))
not_cast env all (Before m g p) rest f l = let u = held (unplaced f).is in no_cast env (first_word (split u.is).first) (other_word is_operator (Marked LeftParen) (Marked m) refl (or_true (is_prefix m) u.holds))
not_cast env all (Prefix m g p) rest f l = let u = held (unplaced f).is in no_cast env (first_word (split u.is).first) (other_word is_operator (Marked LeftParen) (Marked m) refl (ap (λ b. b || is_step m) u.holds))
not_cast env all (SizeofExpression g p) rest f l = no_cast env (first_word (split (unplaced f).is).first) refl
not_cast env all (SizeofType g p) rest f l = no_cast env (first_word (split (unplaced f).is).first) refl
not_cast env all _ rest f l = absurd (omega (arith, l))

prefix_no_step : (m : Mark) → is_prefix m ≡ true → is_step m ≡ false
prefix_no_step Increment e = absurd (false-true e)
prefix_no_step Decrement e = absurd (false-true e)
prefix_no_step _ e = refl

unary_complete : (r : Reads) (h : ℕ) → Sound r h → Complete r h → (env : Names) (all : List Token) (tree : Tree) (rest : List Token) → Front (Is env tree) all rest → level_of tree ≤ 2 → height tree ≤ suc h
    → Reached (unary r h env all) tree rest (StopsAt 2 rest)
unary_complete r h s c env all (Before m g p) rest f l le =
    let v = unplaced f in let u = held v.is in let s1 = split u.is in let o = opened s1.second in
    reached_by (unary_is r h env (first_word s1.first) ∙ if_true _ _ u.holds) (λ x. x) (reached_last all (Before m) v.place (c.upto 2 (omega arith) env s1.mid g rest o.is o.sort o.level (omega (arith, le))))
unary_complete r h s c env all (Prefix m a p) rest f l le =
    let v = unplaced f in let u = held v.is in let s1 = split u.is in let o = opened s1.second in
    reached_by (unary_is r h env (first_word s1.first) ∙ (if_false _ _ (prefix_no_step m u.holds) ∙ if_true _ _ u.holds)) (stops_gap rest)
    (reached_last all (Prefix m) v.place (c.upto 3 (omega arith) env s1.mid a rest o.is o.sort o.level (omega (arith, le))))
unary_complete r h s c env all (SizeofExpression g p) rest f l le =
    let u = unplaced f in let s1 = split u.is in let o = opened s1.second in
    reached_by (unary_is r h env (first_word s1.first) ∙ if_false _ _ (not_cast env s1.mid g rest o.is o.level)) (λ x. x)
    (reached_last all SizeofExpression u.place (c.upto 2 (omega arith) env s1.mid g rest o.is o.sort o.level (omega (arith, le))))
unary_complete r h s c env all (SizeofType t p) rest f l le =
    let u = unplaced f in let s1 = split u.is in let s2 = split s1.second in let s3 = split s2.second in let o = sorted s3.first in
    let open_paren = first_word s2.first in let close = first_word s3.second in
    reached_at (unary_is r h env (first_word s1.first)
    ∙ (if_true _ _ (cast_first env open_paren ∙ type_begins env s2.mid t s3.mid o.is o.sort)
    ∙ (eat_is _ open_paren refl ∙ (next_is _ (type_name_complete r h c env s2.mid t s3.mid o.is o.sort (omega (arith, le)) (passes_is closes close)) ∙ (eat_is _ close refl ∙ found_is all (SizeofType t) u.place)))))
unary_complete r h s c env all tree rest f l le =
    let low : level_of tree ≤ 1 = omega (arith, l) in
    reached_by (unary_postfix r h env all tree rest f low) (stops_less 1 2 rest (omega arith)) (postfix_complete r h s c env all tree rest f low le)

infix_positive : (m : Mark) → is_infix m ≡ true → 0 < infix_level m
infix_positive m e = positive (infix_level m) e
  where
    positive : (n : ℕ) → nat_lt 0 n ≡ true → 0 < n
    positive n e = grind (arith, nat_tests)

cast_complete : (r : Reads) (h : ℕ) → Sound r h → Complete r h → (env : Names) (all : List Token) (tree : Tree) (rest : List Token) → Front (Is env tree) all rest → level_of tree ≤ 3 → height tree ≤ suc h
    → Reached (cast r h env all) tree rest (StopsAt 3 rest)
cast_complete r h s c env all (Cast t a p) rest f l le =
    let u = unplaced f in let s1 = split u.is in let s2 = split s1.second in let s3 = split s2.second in
    let x = sorted s2.first in let o = opened s3.second in
    let open_paren = first_word s1.first in let close = first_word s3.first in
    reached_by (if_true _ _ (cast_first env open_paren ∙ type_begins env s1.mid t s2.mid x.is x.sort)
    ∙ (eat_is _ open_paren refl ∙ (next_is _ (type_name_complete r h c env s1.mid t s2.mid x.is x.sort (omega (arith, le)) (passes_is closes close)) ∙ eat_is _ close refl))) (λ x. x)
    (reached_last all (Cast t) u.place (c.upto 3 (omega arith) env s3.mid a rest o.is o.sort o.level (omega (arith, le))))
cast_complete r h s c env all (Binary m a b p) rest f l le = let u = held (unplaced f).is in let j = infix_positive m u.holds in absurd (omega (arith, j, l))
cast_complete r h s c env all tree rest f l le =
    let low : level_of tree ≤ 2 = omega (arith, l) in
    reached_by (if_false _ _ (not_cast env all tree rest f low)) (stops_less 2 3 rest (omega arith)) (unary_complete r h s c env all tree rest f low le)

-- the binary levels
abbrev ReadsBelow : Reads → ℕ → ℕ → Type 0
ReadsBelow r h n = (env : Names) (all : List Token) (tree : Tree) (rest : List Token) → Front (Is env tree) all rest → level_of tree ≤ 3 + n → height tree ≤ suc h → Reached (binary r h env n all) tree rest (StopsAt (3 + n) rest)

binary_one_is : {m : Mark} {mid rest : List Token} (r : Reads) (env : Names) (n : ℕ) (all : List Token) (e : Tree) → First (Marked m) mid rest → infix_level m ≡ suc n
    → binary_one r env n all e mid ≡ next (r (Upto (3 + n)) env rest) (λ b rest. found all (Binary m e b) rest)
binary_one_is {m} {mid} {rest} r env n all e f l = ap (binary_one r env n all e) f.whole ∙ (ap (λ w. binary_at r env n all e w rest) f.word ∙ if_true _ _ (ap (λ k. k == suc n) l ∙ eq_same (suc n)))

binary_spine : (r : Reads) (h n : ℕ) → n ≤ 9 → Complete r h → ReadsBelow r h n → (env : Names) (all : List Token) (tree : Tree) (rest : List Token) → Front (Is env tree) all rest → level_of tree ≤ 4 + n → height tree ≤ suc h
    → Spine (binary_one r env n) h (binary r h env (suc n) all) all tree rest (StopsAt (3 + n) rest)
binary_spine r h n few c below env all (Binary m a b p) rest f l le =
    ⊎_elim higher (lower (λ mid g al ah. binary_spine r h n few c below env all a mid g al ah)) (cases_lt (infix_level m) (suc n))
  where
    higher : infix_level m < suc n → Spine (binary_one r env n) h (binary r h env (suc n) all) all (Binary m a b p) rest (StopsAt (3 + n) rest)
    higher lt = spine_starts (below env all (Binary m a b p) rest f (omega (arith, lt)) le)

    lower : ((mid : List Token) → Front (Is env a) all mid → level_of a ≤ 4 + n → height a ≤ suc h → Spine (binary_one r env n) h (binary r h env (suc n) all) all a mid (StopsAt (3 + n) mid))
        → suc n ≤ infix_level m → Spine (binary_one r env n) h (binary r h env (suc n) all) all (Binary m a b p) rest (StopsAt (3 + n) rest)
    lower ih ge =
        let e : infix_level m ≡ suc n = omega (arith, ge, l) in
        let v = unplaced f in let u = held v.is in
        let s1 = split u.is in let s2 = split s1.second in let o = opened s1.first in let x = opened s2.second in
        let op = first_word s2.first in
        let ol = o.level in let xl = x.level in
        let j : joins (Marked m) ≡ 4 + n = ap (λ l. op_joins l (other_joins m)) e in
        spine_next (ih s1.mid o.is (omega (arith, ol, e)) (omega (arith, le))) (stops_first (3 + n) op (omega (arith, j))) (omega (arith, le))
        (reached_by (binary_one_is r env n all a op e) (λ x. x) (reached_last all (Binary m a) v.place (c.upto (3 + n) (omega (arith, few)) env s2.mid b rest x.is x.sort (omega (arith, xl, e)) (omega (arith, le)))))
        (omega arith)
binary_spine r h n few c below env all tree rest f l le = spine_starts (below env all tree rest f (omega (arith, l, few)) le)

binary_complete : (r : Reads) (h : ℕ) → Sound r h → Complete r h → (n : ℕ) → n ≤ 10 → ReadsBelow r h n
binary_complete r h s c zero few env all tree rest f l le = cast_complete r h s c env all tree rest f (omega (arith, l)) le
binary_complete r h s c (suc n) few env all tree rest f l le =
    reached_by refl (stops_less (4 + n) (3 + suc n) rest (omega arith)) (spine_ends (binary_spine r h n (omega (arith, few)) c (binary_complete r h s c n (omega (arith, few))) env all tree rest f (omega (arith, l)) le)
    (binary_past r h s env n) (stops_less (3 + n) (4 + n) rest (omega arith)) (λ st. binary_none r env n all tree rest st))

implied_complete : (r : Reads) (h : ℕ) → Sound r h → Complete r h → (env : Names) (all : List Token) (tree : Tree) (rest : List Token) → Front (Is env tree) all rest → level_of tree ≤ 14 → height tree ≤ suc h
    → Reached (implied r h env all) tree rest (StopsAt 14 rest)
implied_complete r h s c env all (Implies a b p) rest f l le =
    let u = unplaced f in let s1 = split u.is in let s2 = split s1.second in let o = opened s1.first in let x = opened s2.second in
    let op = first_word s2.first in
    once_takes (implies_one r env) h (binary_complete r h s c 10 (omega arith) env all a s1.mid o.is o.level (omega (arith, le))) (stops_first 13 op (omega arith)) (omega (arith, le))
    (reached_by (eat_is _ op refl) (λ x. x) (reached_last all (Implies a) u.place (c.upto 14 (omega arith) env s2.mid b rest x.is x.sort x.level (omega (arith, le)))))
implied_complete r h s c env all (Binary m a b p) rest f l le =
    let bound = infix_bound m in
    once_ends (implies_one r env) h (binary_complete r h s c 10 (omega arith) env all (Binary m a b p) rest f (omega (arith, bound)) le) (implies_past r h s env) (stops_less 13 14 rest (omega arith)) (λ st. eat_none 14 (Marked Implication) rest _ st (omega arith))
implied_complete r h s c env all tree rest f l le =
    once_ends (implies_one r env) h (binary_complete r h s c 10 (omega arith) env all tree rest f (omega (arith, l)) le) (implies_past r h s env) (stops_less 13 14 rest (omega arith)) (λ st. eat_none 14 (Marked Implication) rest _ st (omega arith))

conditional_complete : (r : Reads) (h : ℕ) → Sound r h → Complete r h → (env : Names) (all : List Token) (tree : Tree) (rest : List Token) → Front (Is env tree) all rest → level_of tree ≤ 15 → height tree ≤ suc h
    → Reached (conditional r h env all) tree rest (StopsAt 15 rest)
conditional_complete r h s c env all (Conditional a b d p) rest f l le =
    let u = unplaced f in let s1 = split u.is in let s2 = split s1.second in let s3 = split s2.second in let s4 = split s3.second in
    let o = opened s1.first in let y = opened s4.second in
    let op = first_word s2.first in let col = first_word s4.first in
    once_takes (conditional_one r env) h (implied_complete r h s c env all a s1.mid o.is o.level (omega (arith, le))) (stops_first 14 op (omega arith)) (omega (arith, le))
    (reached_by (eat_is _ op refl ∙ (next_is _ (exact r h c 16 (omega arith) env s2.mid b s3.mid s3.first (omega (arith, le)) (stops_first 16 col (omega arith))) ∙ eat_is _ col refl)) (λ x. x)
    (reached_last all (Conditional a b) u.place (c.upto 15 (omega arith) env s4.mid d rest y.is y.sort y.level (omega (arith, le)))))
conditional_complete r h s c env all (Binary m a b p) rest f l le =
    let bound = infix_bound m in
    once_ends (conditional_one r env) h (implied_complete r h s c env all (Binary m a b p) rest f (omega (arith, bound)) le) (conditional_past r h s env) (stops_less 14 15 rest (omega arith)) (λ st. eat_none 15 (Marked Question) rest _ st (omega arith))
conditional_complete r h s c env all tree rest f l le =
    once_ends (conditional_one r env) h (implied_complete r h s c env all tree rest f (omega (arith, l)) le) (conditional_past r h s env) (stops_less 14 15 rest (omega arith)) (λ st. eat_none 15 (Marked Question) rest _ st (omega arith))

assign_word_is : {m : Mark} {mid rest : List Token} (r : Reads) (env : Names) (all : List Token) (e : Tree) → First (Marked m) mid rest → is_assignment m ≡ true
    → assign_word r env all e mid ≡ next (r (Upto 16) env rest) (λ b rest. found all (Assign m e b) rest)
assign_word_is {m} {mid} {rest} r env all e f y = ap (assign_word r env all e) f.whole ∙ (ap (λ w. assign_at r env all e w rest) f.word ∙ checked_is _ y)

assign_complete : (r : Reads) (h : ℕ) → Sound r h → Complete r h → (env : Names) (all : List Token) (tree : Tree) (rest : List Token) → Front (Is env tree) all rest → level_of tree ≤ 16 → height tree ≤ suc h
    → Reached (assign r h env all) tree rest (StopsAt 16 rest)
assign_complete r h s c env all (Assign m a b p) rest f l le =
    let v = unplaced f in let u = held v.is in
    let s1 = split u.is in let s2 = split s1.second in let o = opened s1.first in let x = opened s2.second in
    let op = first_word s2.first in let ol = o.level in let j = assignment_joins m u.holds in
    once_takes (assign_one r env) h (conditional_complete r h s c env all a s1.mid o.is (omega (arith, ol)) (omega (arith, le))) (stops_first 15 op (omega (arith, j))) (omega (arith, le))
    (reached_by (checked_is _ (le-true (level_of a) 2 ol) ∙ assign_word_is r env all a op u.holds) (λ x. x) (reached_last all (Assign m a) v.place (c.upto 16 (omega arith) env s2.mid b rest x.is x.sort x.level (omega (arith, le)))))
assign_complete r h s c env all (Binary m a b p) rest f l le =
    let bound = infix_bound m in
    once_ends (assign_one r env) h (conditional_complete r h s c env all (Binary m a b p) rest f (omega (arith, bound)) le) (assign_past r h s env) (stops_less 15 16 rest (omega arith)) (assign_none r env all (Binary m a b p) rest)
assign_complete r h s c env all tree rest f l le =
    once_ends (assign_one r env) h (conditional_complete r h s c env all tree rest f (omega (arith, l)) le) (assign_past r h s env) (stops_less 15 16 rest (omega arith)) (assign_none r env all tree rest)

above_complete : (r : Reads) (h : ℕ) → Sound r h → Complete r h → (env : Names) (n : ℕ) (all : List Token) (tree : Tree) (rest : List Token) → n ≤ 13 → Front (Is env tree) all rest → level_of tree ≤ 3 + n → height tree ≤ suc h
    → Reached (above r h env n all) tree rest (StopsAt (3 + n) rest)
above_complete r h s c env n all tree rest few f l le = by (nat_le n 10) (n == 11) (n == 12) refl refl refl
  where
    low : (n : ℕ) → nat_le n 10 ≡ true → n ≤ 10
    low n e = grind (arith, nat_tests)

    high_is : (n : ℕ) → n ≤ 13 → nat_le n 10 ≡ false → (n == 11) ≡ false → (n == 12) ≡ false → n ≡ 13
    high_is n le a b c = grind (arith, nat_tests)

    by : (a b d : Bool) → nat_le n 10 ≡ a → (n == 11) ≡ b → (n == 12) ≡ d → Reached (if a then binary r h env n all else (if b then implied r h env all else (if d then conditional r h env all else assign r h env all))) tree rest (StopsAt (3 + n) rest)
    by true b d x y z = binary_complete r h s c n (low n x) env all tree rest f l le
    by false true d x y z = let e = eq_is 11 n y in reached_by refl (stops_less 14 (3 + n) rest (omega (arith, e))) (implied_complete r h s c env all tree rest f (omega (arith, l, e)) le)
    by false false true x y z = let e = eq_is 12 n z in reached_by refl (stops_less 15 (3 + n) rest (omega (arith, e))) (conditional_complete r h s c env all tree rest f (omega (arith, l, e)) le)
    by false false false x y z = let e = high_is n few x y z in reached_by refl (stops_less 16 (3 + n) rest (omega (arith, e))) (assign_complete r h s c env all tree rest f (omega (arith, l, e)) le)

upto_complete : (r : Reads) (h : ℕ) → Sound r h → Complete r h → (k : ℕ) → k ≤ 16 → (env : Names) (all : List Token) (tree : Tree) (rest : List Token) → Front (Is env tree) all rest → sort_of tree ≡ IsExpression → level_of tree ≤ k → height tree ≤ suc h
    → Reached (upto r h env k all) tree rest (StopsAt k rest)
upto_complete r h s c zero few env all tree rest f t l le = reached_at (primary_complete r h c env all tree rest f l le)
upto_complete r h s c (suc zero) few env all tree rest f t l le = postfix_complete r h s c env all tree rest f l le
upto_complete r h s c (suc (suc zero)) few env all tree rest f t l le = unary_complete r h s c env all tree rest f l le
upto_complete r h s c (suc (suc (suc n))) few env all tree rest f t l le =
    reached_by refl (stops_less (3 + n) (suc (suc (suc n))) rest (omega arith)) (above_complete r h s c env n all tree rest (omega (arith, few)) f (omega (arith, l)) le)

step_complete : (r : Reads) (h : ℕ) → Sound r h → Complete r h → Complete (step r h) (suc h)
step_complete r h s c =
    record {
      upto = upto_complete r h s c;
      member = member_complete r h c;
      enumerator = enumerator_complete r h c;
      declarator = declarator_complete r h s c;
    }

-- what has a height of its own has one above 0
high_member : (tree : Tree) → sort_of tree ≡ IsMember → 1 ≤ height tree
high_member (MemberDeclaration a d m p) s = omega arith
high_member _ s = absurd (let k = ap sort_number s in omega (arith, k))

high_enumerator : (tree : Tree) → sort_of tree ≡ IsEnumerator → 1 ≤ height tree
high_enumerator (Enumerator n p) s = omega arith
high_enumerator (EnumeratorValue n c p) s = omega arith
high_enumerator _ s = absurd (let k = ap sort_number s in omega (arith, k))

high_declarator : (tree : Tree) → sort_of tree ≡ IsDeclarator → is_nameless tree ≡ false → 1 ≤ height tree
high_declarator Nameless s n = absurd (false-true (sym n))
high_declarator (DeclaredName m p) s n = omega arith
high_declarator (Wrapped d p) s n = omega arith
high_declarator (Unsized d p) s n = omega arith
high_declarator (Sized d c p) s n = omega arith
high_declarator (Function d a p) s n = omega arith
high_declarator (Pointer k d p) s n = omega arith
high_declarator _ s n = absurd (let k = ap sort_number s in omega (arith, k))

none_complete : Complete (λ k env ts. Nothing) 0
none_complete =
    record {
      upto = λ k few env all tree rest f t l le. let p = high tree (omega (arith, l, few)) in absurd (omega (arith, p, le));
      member = λ env all tree rest f t le. let p = high_member tree t in absurd (omega (arith, p, le));
      enumerator = λ env all tree rest f t le e. let p = high_enumerator tree t in absurd (omega (arith, p, le));
      declarator = λ env all tree rest f t le n e. let p = high_declarator tree t n in absurd (omega (arith, p, le));
    }

pub complete : (h : ℕ) → Complete (reads h) h
complete zero = let c = none_complete in record { upto = c.upto; member = c.member; enumerator = c.enumerator; declarator = c.declarator }
complete (suc h) = let c = step_complete (reads h) h (sound h) (complete h) in record { upto = c.upto; member = c.member; enumerator = c.enumerator; declarator = c.declarator }

append_nil : (ts : List Token) → ts ++ [] ≡ ts
append_nil [] = refl
append_nil (t ∷ ts) = ap (λ l. t ∷ l) (append_nil ts)

-- tokens spell at most one expression
pub one_expression : (env : Names) (ts : List Token) (a b : Tree) → Is env a ts → Is env b ts → sort_of a ≡ IsExpression → sort_of b ≡ IsExpression → level_of a ≤ 16 → level_of b ≤ 16 → a ≡ b
one_expression env ts a b p q sa sb l m =
    let h = max (height a) (height b) in
    let whole : ts ≡ ts ++ [] = sym (append_nil ts) in
    let ca = complete h in
    let x = reached_exact (ca.upto 16 (omega arith) env ts a [] (record { front = ts; whole = whole; is = p }) sa l (omega arith)) tt in
    let y = reached_exact (ca.upto 16 (omega arith) env ts b [] (record { front = ts; whole = whole; is = q }) sb m (omega arith)) tt in
    ap (tree_in a) (sym x ∙ y)
  where
    tree_in : Tree → Out Tree → Tree
    tree_in d Nothing = d
    tree_in d (Found t l) = t
