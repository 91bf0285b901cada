-- What is spelled as specs, a type-name, parameters or a declarator, and may end there, is read there.
use Rattle.std.proofs.Common.{◌≡◌, ℕ, zero, suc, ◌<◌, ◌≤◌, Bool, true, false, ◌||◌, ◌&&◌, not, List, [], ◌∷◌, ◌++◌, length, refl, sym, ap, ◌∙◌, subst, arith}
use Rattle.dc_syntax.specs.declared.mark.Mark.TheVariants.{RightParen, RightBracket, LeftBrace, RightBrace, Comma, Equals}
use Rattle.dc_syntax.specs.declared.keyword.Keyword.{Keyword}
use Rattle.dc_syntax.specs.declared.keyword.Keyword.TheVariants.{Void}
use Rattle.dc_syntax.specs.Tokens.{Word, Named, Literal, Marked, Reserved, Token, Place, is_word, is_spec_word, is_tag_word, struct_word, enum_word, void_word}
use Rattle.dc_syntax.specs.Names.{Names, in_force}
use Rattle.dc_syntax.specs.Trees.{Item, Assigned, Condition, Parameters, Declared, Enumerators, Tag, NoTag, Tagged, Tree, Name, NoMore, More, TypeName, LastSpec, Specs, SpecWord, SpecName, StructBody, StructTag, EnumBody, EnumTag, NoMembers, Members, MemberDeclaration, Enumerator, EnumeratorValue, Nameless, DeclaredName, Wrapped, Unsized, Sized, Function, Pointer, NoParameters, SomeParameters, Parameter, Sort, IsExpression, IsMore, IsTypeName, IsSpecs, IsSpec, IsMembers, IsMember, IsEnumerator, IsDeclarator, IsParameters, IsParameter, sort_of, level_of, is_nameless, is_direct, is_named, is_body, is_type_spec, is_type_name, names_type, has_body, has_type, is_void_parameter, is_no_more, declared, tag_height, height}
use Rattle.dc_syntax.specs.Phrases.{IsWord, mark, name, Where, Passing, Within, Sorted, Maybe, Absent, Present, tag, qualifiers, is_typedef_name, begins_spec, begins_specs, leaves, opens_declarator}
use Rattle.dc_syntax.specs.Grammar.{item, Is}
use Rattle.dc_syntax.specs.Reading.{Out, Found, next, between, found, begins, Upto, MemberOf, EnumeratorOf, DeclaratorOf, Reads, goes_on_at, has_more, more, is_declarator_word, declarator_or_none, declarator_named, members, struct_body, enum_end, enum_body, tagged, spec_at, spec, takes_word, takes, specs_from, specs, bare, type_name, parameter, parameters, member, enumerator, qualified_at, qualified, loop, opens, direct_at, direct, suffix_at, suffix_one}
use Rattle.dc_syntax.proofs.Words.{false-true}
use Rattle.dc_syntax.proofs.Base.{Front, front_then, front_placed, front_where, front_sorted, split, First, first_word, unplaced, held, opened, sorted, empty_is, shorter}
use Rattle.dc_syntax.proofs.Reached.{next_is, found_is, if_true, if_false, checked_is, eat_is, named_is, passes, passes_is, begins_is, passes_not, other_word, begins_other, Reached, reached_exact, reached_at, Spine, le-true, spine_next, spine_starts}
use Rattle.dc_syntax.proofs.Heads.{sort_number, starts, heads, specs_pass, closes, continues, is_qualifier_word, ends_at, declarator_pass, no_declarator, declarator_begins, specs_take, specs_begin, parameter_begins, parameters_open, StopsAt, stops_first, stops_closed}

pub record Complete (r : Reads) (h : ℕ) : Type 0 where
  pub upto : (k : ℕ) → k ≤ 16 → (env : Names) (all : List Token) (tree : Tree) (rest : List Token) → Front (Is env tree) all rest → sort_of tree ≡ IsExpression → level_of tree ≤ k → height tree ≤ h
      → Reached (r (Upto k) env all) tree rest (StopsAt k rest)
  pub member : (env : Names) (all : List Token) (tree : Tree) (rest : List Token) → Front (Is env tree) all rest → sort_of tree ≡ IsMember → height tree ≤ h → r MemberOf env all ≡ Found tree rest
  pub enumerator : (env : Names) (all : List Token) (tree : Tree) (rest : List Token) → Front (Is env tree) all rest → sort_of tree ≡ IsEnumerator → height tree ≤ h → passes closes rest ≡ true
      → r EnumeratorOf env all ≡ Found tree rest
  pub declarator : (env : Names) (all : List Token) (tree : Tree) (rest : List Token) → Front (Is env tree) all rest → sort_of tree ≡ IsDeclarator → height tree ≤ h → is_nameless tree ≡ false → passes continues rest ≡ false
      → r DeclaratorOf env all ≡ Found tree rest

-- an expression that stops
pub exact : (r : Reads) (h : ℕ) → Complete r h → (k : ℕ) → k ≤ 16 → (env : Names) (all : List Token) (tree : Tree) (rest : List Token) → Front (Within k tree (Is env tree)) all rest → height tree ≤ h → StopsAt k rest
    → r (Upto k) env all ≡ Found tree rest
exact r h c k few env all tree rest f le st = let o = opened f in reached_exact (c.upto k few env all tree rest o.is o.sort o.level le) st

-- lists with commas
abbrev pub ItemComplete : (Names → List Token → Out Tree) → Item → ℕ → Type 0
ItemComplete one i h = (env : Names) (all : List Token) (a : Tree) (rest : List Token) → Front (item i a (Is env a)) all rest → height a ≤ h → passes closes rest ≡ true → one env all ≡ Found a rest

enumerator_named : (env : Names) (all : List Token) (tree : Tree) (rest : List Token) → Front (Is env tree) all rest → sort_of tree ≡ IsEnumerator → begins (Marked RightBrace) all ≡ false
enumerator_named env all (Enumerator n p) rest f s = begins_is (Marked RightBrace) (first_word (unplaced f).is)
enumerator_named env all (EnumeratorValue n c p) rest f s = begins_is (Marked RightBrace) (first_word (split (unplaced f).is).first)
enumerator_named env all _ rest f s = absurd (let k = ap sort_number s in omega (arith, k))

pub not_nameless : (d : Tree) → is_named d ≡ true → is_nameless d ≡ false
not_nameless Nameless e = absurd (false-true e)
not_nameless _ e = refl

item_begins : (i : Item) (env : Names) (all : List Token) (a : Tree) (rest : List Token) → Front (item i a (Is env a)) all rest → begins (Marked RightBrace) all ≡ false
item_begins Assigned env all a rest f = let o = opened f in begins_other (starts env) (Marked RightBrace) all refl (heads env all a rest o.is (omega (arith, o.level)))
item_begins Condition env all a rest f = let o = opened f in begins_other (starts env) (Marked RightBrace) all refl (heads env all a rest o.is (omega (arith, o.level)))
item_begins Parameters env all a rest f = let o = sorted f in begins_other (begins_spec env) (Marked RightBrace) all refl (sym (specs_pass env all) ∙ parameter_begins env all a rest o.is o.sort)
item_begins Declared env all a rest f = let u = held f in let o = sorted u.is in begins_other is_declarator_word (Marked RightBrace) all refl (declarator_begins env all a rest o.is o.sort (not_nameless a u.holds))
item_begins Enumerators env all a rest f = let o = sorted f in enumerator_named env all a rest o.is o.sort

-- what stands behind a list with commas
pub record ListEnds (rest : List Token) : Type 0 where
  pub closed : passes closes rest ≡ true
  pub no_more : has_more rest ≡ false

pub list_ends : {w : Word} {all rest : List Token} → First w all rest → closes w ≡ true → is_word (Marked Comma) w ≡ false → ListEnds all
list_ends {w} {all} {rest} f c n =
    record { closed = passes_is closes f ∙ c; no_more = ap has_more f.whole ∙ (ap (λ w. is_word (Marked Comma) w && goes_on_at rest) f.word ∙ ap (λ b. b && goes_on_at rest) n) }

abbrev item_of : Sort → Item
item_of (IsMore i) = i
item_of _ = Assigned

pub more_closes : (i : Item) (env : Names) (all : List Token) (tree : Tree) (rest : List Token) → Front (Is env tree) all rest → sort_of tree ≡ IsMore i → passes closes rest ≡ true → passes closes all ≡ true
more_closes i env all (NoMore j) rest f s e = ap (passes closes) (empty_is f) ∙ e
more_closes i env all (More j a m) rest f s e = passes_is closes (first_word (split f).first)
more_closes i env all _ rest f s e = absurd (let k = ap sort_number s in omega (arith, k))

none_more : (one : Names → List Token → Out Tree) (i : Item) (env : Names) (n : ℕ) (ts : List Token) → has_more ts ≡ false → more one i env n ts ≡ Found (NoMore i) ts
none_more one i env zero ts e = refl
none_more one i env (suc n) ts e = if_false _ _ e

has_more_is : {all rest : List Token} → First (Marked Comma) all rest → begins (Marked RightBrace) rest ≡ false → has_more all ≡ true
has_more_is {all} {rest} f n = ap has_more f.whole ∙ (ap (λ w. is_word (Marked Comma) w && goes_on_at rest) f.word ∙ ap not n)

pub more_complete : (one : Names → List Token → Out Tree) (i : Item) (h : ℕ) → ItemComplete one i h → (env : Names) (n : ℕ) (all : List Token) (tree : Tree) (rest : List Token) → Front (Is env tree) all rest → sort_of tree ≡ IsMore i → height tree ≤ h
    → length all ≤ n → ListEnds rest → more one i env n all ≡ Found tree rest
more_complete one i h c env n all (NoMore j) rest f s le few e =
    let same : j ≡ i = ap item_of s in
    ap (more one i env n) (empty_is f) ∙ (none_more one i env n rest e.no_more ∙ ap (λ i. Found (NoMore i) rest) (sym same))
more_complete one i h c env zero all (More j a m) rest f s le few e = absurd (let w = first_word (split f).first in let n = ap length w.whole in omega (arith, n, few))
more_complete one i h c env (suc n) all (More j a m) rest f s le few e =
    let same : i ≡ j = sym (ap item_of s) in
    let s1 = split f in let s2 = split s1.second in let x = sorted s2.second in
    let w = first_word s1.first in
    let g : Front (item i a (Is env a)) s1.mid s2.mid = subst (λ i. Front (item i a (Is env a)) s1.mid s2.mid) (sym same) s2.first in
    let n1 = ap length w.whole in let n2 = shorter g in
    let xs : sort_of m ≡ IsMore i = x.sort ∙ ap IsMore (sym same) in
    if_true _ _ (has_more_is w (item_begins i env s1.mid a s2.mid g))
    ∙ (eat_is _ w refl
    ∙ (next_is _ (c env s1.mid a s2.mid g (omega (arith, le)) (more_closes i (declared a env) s2.mid m rest x.is xs e.closed))
    ∙ (next_is _ (more_complete one i h c (declared a env) n s2.mid m rest x.is xs (omega (arith, le)) (omega (arith, n1, n2, few)) e)
    ∙ ap (λ i. Found (More i a m) rest) same)))
more_complete one i h c env n all _ rest f s le few e = absurd (let k = ap sort_number s in omega (arith, k))

pub assigned_complete : (r : Reads) (h : ℕ) → Complete r h → ItemComplete (r (Upto 16)) Assigned h
assigned_complete r h c env all a rest f le e = exact r h c 16 (omega arith) env all a rest f le (stops_closed 16 rest (omega arith) e)

pub condition_complete : (r : Reads) (h : ℕ) → Complete r h → ItemComplete (r (Upto 15)) Condition h
condition_complete r h c env all a rest f le e = exact r h c 15 (omega arith) env all a rest f le (stops_closed 15 rest (omega arith) e)

enumerators_complete : (r : Reads) (h : ℕ) → Complete r h → ItemComplete (r EnumeratorOf) Enumerators h
enumerators_complete r h c env all a rest f le e = let o = sorted f in c.enumerator env all a rest o.is o.sort le e

-- a declarator with a name
pub named_complete : (r : Reads) (h : ℕ) → Complete r h → (env : Names) (all : List Token) (d : Tree) (rest : List Token) → Front (Where (is_named d) (Sorted IsDeclarator d (Is env d))) all rest → height d ≤ h → passes continues rest ≡ false
    → declarator_named r env all ≡ Found d rest
named_complete r h c env all d rest f le e =
    let u = held f in let o = sorted u.is in next_is _ (c.declarator env all d rest o.is o.sort le (not_nameless d u.holds) e) ∙ checked_is _ u.holds

declared_complete : (r : Reads) (h : ℕ) → Complete r h → ItemComplete (declarator_named r) Declared h
declared_complete r h c env all a rest f le e = named_complete r h c env all a rest f le (ends_at rest e)

-- specs
member_begins : (env : Names) (all : List Token) (tree : Tree) (rest : List Token) → Front (Is env tree) all rest → sort_of tree ≡ IsMember → begins (Marked RightBrace) all ≡ false
member_begins env all (MemberDeclaration a d m p) rest f s = let s1 = split (unplaced f).is in let o = sorted s1.first in begins_other (begins_spec env) (Marked RightBrace) all refl (sym (specs_pass env all) ∙ specs_begin env all a s1.mid o.is o.sort)
member_begins env all _ rest f s = absurd (let k = ap sort_number s in omega (arith, k))

member_takes : (env : Names) (all : List Token) (tree : Tree) (rest : List Token) → Front (Is env tree) all rest → sort_of tree ≡ IsMember → length rest < length all
member_takes env all (MemberDeclaration a d m p) rest f s =
    let s1 = split (unplaced f).is in let s2 = split s1.second in let s3 = split s2.second in
    let n1 = shorter s1.first in let n2 = shorter s2.first in let n3 = shorter s3.first in let n4 = ap length (first_word s3.second).whole in omega (arith, n1, n2, n3, n4)
member_takes env all _ rest f s = absurd (let k = ap sort_number s in omega (arith, k))

members_complete : (r : Reads) (h : ℕ) → Complete r h → (env : Names) (n : ℕ) (all : List Token) (tree : Tree) (rest : List Token) → Front (Is env tree) all rest → sort_of tree ≡ IsMembers → height tree ≤ h
    → length all ≤ n → begins (Marked RightBrace) rest ≡ true → members r env n all ≡ Found tree rest
members_complete r h c env zero all NoMembers rest f s le few e = ap (λ l. Found NoMembers l) (empty_is f)
members_complete r h c env (suc n) all NoMembers rest f s le few e = if_true _ _ (ap (begins (Marked RightBrace)) (empty_is f) ∙ e) ∙ ap (λ l. Found NoMembers l) (empty_is f)
members_complete r h c env zero all (Members a m) rest f s le few e =
    let s1 = split f in let o = sorted s1.first in let t = member_takes env all a s1.mid o.is o.sort in absurd (omega (arith, t, few))
members_complete r h c env (suc n) all (Members a m) rest f s le few e =
    let s1 = split f in let o = sorted s1.first in let x = sorted s1.second in let t = member_takes env all a s1.mid o.is o.sort in
    if_false _ _ (member_begins env all a s1.mid o.is o.sort)
    ∙ (next_is _ (c.member env all a s1.mid o.is o.sort (omega (arith, le)))
    ∙ next_is _ (members_complete r h c (declared a env) n s1.mid m rest x.is x.sort (omega (arith, le)) (omega (arith, t, few)) e))
members_complete r h c env n all _ rest f s le few e = absurd (let k = ap sort_number s in omega (arith, k))

spec_is : {w : Word} {all rest : List Token} (r : Reads) (h : ℕ) (env : Names) (typed : Bool) → First w all rest → spec r h env typed all ≡ spec_at r h env typed all w rest
spec_is {w} {all} {rest} r h env typed f =
    ap (spec r h env typed) f.whole ∙ (ap (λ w. spec_at r h env typed (f.token ∷ rest) w rest) f.word ∙ ap (λ l. spec_at r h env typed l w rest) (sym f.whole))

abbrev is_spec_test : Word → Bool
is_spec_test (Reserved k) = is_spec_word k
is_spec_test _ = false

-- behind `struct` or `enum`: a tag and a brace
tagged_body : (h : ℕ) (all : List Token) (body : Tag → List Token → Out Tree) (alone : List ℕ → Place → Tree) (t : Tag) (ts mid rest : List Token) → Front (tag t) ts mid → First (Marked LeftBrace) mid rest → tag_height t ≤ h
    → tagged h all body alone ts ≡ body t mid
tagged_body h all body alone NoTag ts mid rest f b le = if_true _ _ (ap (begins (Marked LeftBrace)) (empty_is f) ∙ begins_is (Marked LeftBrace) b) ∙ ap (body NoTag) (empty_is f)
tagged_body h all body alone (Tagged n p) ts mid rest f b le =
    let u = unplaced f in let w = first_word u.is in
    if_false _ _ (begins_is (Marked LeftBrace) w) ∙ (checked_is _ (le-true 1 h le) ∙ (named_is _ w ∙ (if_true _ _ (begins_is (Marked LeftBrace) b) ∙ ap (λ p. body (Tagged n p) mid) u.place)))

tagged_alone : (h : ℕ) (all : List Token) (body : Tag → List Token → Out Tree) (alone : List ℕ → Place → Tree) (n : List ℕ) (ts rest : List Token) → First (Named n) ts rest → begins (Marked LeftBrace) rest ≡ false → 1 ≤ h
    → tagged h all body alone ts ≡ found all (alone n) rest
tagged_alone h all body alone n ts rest w b le = if_false _ _ (begins_is (Marked LeftBrace) w) ∙ (checked_is _ (le-true 1 h le) ∙ (named_is _ w ∙ if_false _ _ b))

-- the end of an enum-spec
pub record EnumEnds (all : List Token) (t : Tag) (e m : Tree) (p : Place) (env : Names) (rest before : List Token) : Type 0 where
  pub ends : ListEnds before
  pub is : enum_end env all t e m before ≡ found all (EnumBody t e m) rest

enum_ends : (all : List Token) (t : Tag) (e m : Tree) (p : Place) (env : Names) (before mid rest : List Token) → Front (Maybe (mark Comma)) before mid → First (Marked RightBrace) mid rest → EnumEnds all t e m p env rest before
enum_ends all t e m p env before mid rest f b = by f.is
  where
    by : Maybe (mark Comma) f.front → EnumEnds all t e m p env rest before
    by (Absent n) =
        let here : mid ≡ before = sym (f.whole ∙ ap (λ l. l ++ mid) n) in
        let g : First (Marked RightBrace) before rest = record { token = b.token; whole = sym here ∙ b.whole; word = b.word } in
        record { ends = list_ends g refl refl; is = if_false _ _ (begins_is (Marked Comma) g) ∙ eat_is _ g refl }
    by (Present w) =
        let g : First (Marked Comma) before mid = first_word (record { front = f.front; whole = f.whole; is = w }) in
        record {
          ends = record { closed = passes_is closes g; no_more = ap has_more g.whole ∙ (ap (λ w. is_word (Marked Comma) w && goes_on_at mid) g.word ∙ ap not (begins_is (Marked RightBrace) b)) };
          is = if_true _ _ (begins_is (Marked Comma) g) ∙ (eat_is _ g refl ∙ eat_is _ b refl);
        }

and_both : {a b : Bool} → a ≡ true → b ≡ true → (a && b) ≡ true
and_both {a} {b} p q = ap (λ a. a && b) p ∙ q

untyped : (b : Bool) → (b ≡ true → true ≡ false) → not b ≡ true
untyped true g = sym (g refl)
untyped false g = refl

struct_complete : (r : Reads) (h : ℕ) → Complete r h → (env : Names) (typed : Bool) (all : List Token) (t : Tag) (m : Tree) (p : Place) (rest : List Token) → Front (Is env (StructBody t m p)) all rest → height (StructBody t m p) ≤ h
    → spec r h env typed all ≡ Found (StructBody t m p) rest
struct_complete r h c env typed all t m p rest f le =
    let u = unplaced f in let s1 = split u.is in let s2 = split s1.second in let s3 = split s2.second in let s4 = split s3.second in
    let b = first_word s3.first in let x = sorted s4.first in let e = first_word s4.second in
    spec_is r h env typed (first_word s1.first)
    ∙ (tagged_body h all (struct_body r env all) StructTag t s1.mid s2.mid s3.mid s2.first b (omega (arith, le))
    ∙ (eat_is _ b refl ∙ (next_is _ (members_complete r h c env (length s3.mid) s3.mid m s4.mid x.is x.sort (omega (arith, le)) (omega arith) (begins_is (Marked RightBrace) e)) ∙ (eat_is _ e refl ∙ found_is all (StructBody t m) u.place))))

enum_complete : (r : Reads) (h : ℕ) → Complete r h → (env : Names) (typed : Bool) (all : List Token) (t : Tag) (e m : Tree) (p : Place) (rest : List Token) → Front (Is env (EnumBody t e m p)) all rest → height (EnumBody t e m p) ≤ h
    → spec r h env typed all ≡ Found (EnumBody t e m p) rest
enum_complete r h c env typed all t e m p rest f le =
    let u = unplaced f in let s1 = split u.is in let s2 = split s1.second in let s3 = split s2.second in let s4 = split s3.second in let s5 = split s4.second in let s6 = split s5.second in
    let b = first_word s3.first in let y = sorted s4.first in let x = sorted s5.first in
    let z = enum_ends all t e m p env s5.mid s6.mid rest s6.first (first_word s6.second) in let ze = z.ends in
    spec_is r h env typed (first_word s1.first)
    ∙ (tagged_body h all (enum_body r env all) EnumTag t s1.mid s2.mid s3.mid s2.first b (omega (arith, le))
    ∙ (eat_is _ b refl ∙ (next_is _ (c.enumerator env s3.mid e s4.mid y.is y.sort (omega (arith, le)) (more_closes Enumerators (declared e env) s4.mid m s5.mid x.is x.sort ze.closed))
    ∙ (next_is _ (more_complete (r EnumeratorOf) Enumerators h (enumerators_complete r h c) (declared e env) (length s4.mid) s4.mid m s5.mid x.is x.sort (omega (arith, le)) (omega arith) ze)
    ∙ (z.is ∙ found_is all (EnumBody t e m) u.place)))))

spec_complete : (r : Reads) (h : ℕ) → Complete r h → (env : Names) (typed : Bool) (all : List Token) (tree : Tree) (rest : List Token) → Front (Is env tree) all rest → sort_of tree ≡ IsSpec → height tree ≤ h
    → (typed ≡ true → is_type_name tree ≡ false) → begins (Marked LeftBrace) rest ≡ false → spec r h env typed all ≡ Found tree rest
spec_complete r h c env typed all (SpecWord k p) rest f s le free b =
    let v = unplaced f in let u = held v.is in let w = first_word u.is in
    spec_is r h env typed w ∙ (if_false _ _ (other_word is_spec_test struct_word (Reserved k) refl u.holds) ∙ (if_false _ _ (other_word is_spec_test enum_word (Reserved k) refl u.holds) ∙ (checked_is _ u.holds ∙ found_is all (SpecWord k) v.place)))
spec_complete r h c env typed all (SpecName n p) rest f s le free b =
    let v = unplaced f in let u = held v.is in let w = first_word u.is in
    spec_is r h env typed w ∙ (checked_is _ (and_both (untyped typed free) (and_both u.holds (le-true 1 h le))) ∙ found_is all (SpecName n) v.place)
spec_complete r h c env typed all (StructBody t m p) rest f s le free b = struct_complete r h c env typed all t m p rest f le
spec_complete r h c env typed all (StructTag n p) rest f s le free b =
    let u = unplaced f in let s1 = split u.is in
    spec_is r h env typed (first_word s1.first) ∙ (tagged_alone h all (struct_body r env all) StructTag n s1.mid rest (first_word s1.second) b le ∙ found_is all (StructTag n) u.place)
spec_complete r h c env typed all (EnumBody t e m p) rest f s le free b = enum_complete r h c env typed all t e m p rest f le
spec_complete r h c env typed all (EnumTag n p) rest f s le free b =
    let u = unplaced f in let s1 = split u.is in
    spec_is r h env typed (first_word s1.first) ∙ (tagged_alone h all (enum_body r env all) EnumTag n s1.mid rest (first_word s1.second) b le ∙ found_is all (EnumTag n) u.place)
spec_complete r h c env typed all _ rest f s le free b = absurd (let k = ap sort_number s in omega (arith, k))

takes_pass : (typed : Bool) (env : Names) (ts : List Token) → takes typed env ts ≡ passes (takes_word typed env) ts
takes_pass typed env [] = refl
takes_pass typed env (t ∷ ts) = refl

-- what may stand behind specs
pub record SpecsEnd (typed : Bool) (env : Names) (rest : List Token) : Type 0 where
  pub no_spec : takes typed env rest ≡ false
  pub no_brace : begins (Marked LeftBrace) rest ≡ false

spec_shortens : (env : Names) (all : List Token) (tree : Tree) (rest : List Token) → Front (Is env tree) all rest → sort_of tree ≡ IsSpec → length rest < length all
spec_shortens env all (SpecWord k p) rest f s = let n = ap length (first_word (held (unplaced f).is).is).whole in omega (arith, n)
spec_shortens env all (SpecName k p) rest f s = let n = ap length (first_word (held (unplaced f).is).is).whole in omega (arith, n)
spec_shortens env all (StructBody t m p) rest f s = let s1 = split (unplaced f).is in let n = ap length (first_word s1.first).whole in let k = shorter s1.second in omega (arith, n, k)
spec_shortens env all (StructTag n p) rest f s = let s1 = split (unplaced f).is in let n = ap length (first_word s1.first).whole in let k = shorter s1.second in omega (arith, n, k)
spec_shortens env all (EnumBody t e m p) rest f s = let s1 = split (unplaced f).is in let n = ap length (first_word s1.first).whole in let k = shorter s1.second in omega (arith, n, k)
spec_shortens env all (EnumTag n p) rest f s = let s1 = split (unplaced f).is in let n = ap length (first_word s1.first).whole in let k = shorter s1.second in omega (arith, n, k)
spec_shortens env all _ rest f s = absurd (let k = ap sort_number s in omega (arith, k))

or_first : (a b : Bool) → (a || b) ≡ false → a ≡ false
or_first true b e = e
or_first false b e = refl

pub or_second : (a b : Bool) → (a || b) ≡ false → b ≡ false
or_second true b e = absurd (false-true (sym e))
or_second false b e = e

or_assoc : (a b c : Bool) → ((a || b) || c) ≡ (a || (b || c))
or_assoc true b c = refl
or_assoc false b c = refl

-- behind a type, or where one stood before, the rest names none
rest_free : (typed type name : Bool) (first : Bool) → (typed ≡ true → (first || name) ≡ false) → not (type && name) ≡ true → (typed || type) ≡ true → name ≡ false
rest_free true type name first free on e = or_second first name (free refl)
rest_free false true name first free on e = flip name on
  where
    flip : (b : Bool) → not b ≡ true → b ≡ false
    flip true e = absurd (false-true e)
    flip false e = refl
rest_free false false name first free on e = absurd (false-true e)

pub specs_from_complete : (r : Reads) (h : ℕ) → Complete r h → (env : Names) (typed : Bool) (n : ℕ) (all : List Token) (tree : Tree) (rest : List Token) → Front (Is env tree) all rest → sort_of tree ≡ IsSpecs → height tree ≤ h
    → (typed ≡ true → names_type tree ≡ false) → length all ≤ n → SpecsEnd (typed || has_type tree) (declared tree env) rest → specs_from r h env typed n all ≡ Found tree rest
specs_from_complete r h c env typed zero all (LastSpec a) rest f s le free few e = let o = sorted f in let t = spec_shortens env all a rest o.is o.sort in absurd (omega (arith, t, few))
specs_from_complete r h c env typed (suc n) all (LastSpec a) rest f s le free few e =
    let o = sorted f in next_is _ (spec_complete r h c env typed all a rest o.is o.sort le free e.no_brace) ∙ if_false _ _ e.no_spec
specs_from_complete r h c env typed zero all (Specs a m) rest f s le free few e =
    let s1 = split (held f).is in let o = sorted s1.first in let t = spec_shortens env all a s1.mid o.is o.sort in absurd (omega (arith, t, few))
specs_from_complete r h c env typed (suc n) all (Specs a m) rest f s le free few e =
    let u = held f in let s1 = split u.is in let o = sorted s1.first in let x = sorted s1.second in let t = spec_shortens env all a s1.mid o.is o.sort in
    let typed' : Bool = typed || is_type_spec a in
    let free' : typed' ≡ true → names_type m ≡ false = rest_free typed (is_type_spec a) (names_type m) (is_type_name a) free u.holds in
    let more_specs = specs_take (declared a env) typed' s1.mid m rest x.is x.sort free' in
    let e' : SpecsEnd (typed' || has_type m) (declared m (declared a env)) rest =
    record { no_spec = ap (λ b. takes b (declared m (declared a env)) rest) (or_assoc typed (is_type_spec a) (has_type m)) ∙ e.no_spec; no_brace = e.no_brace } in
    next_is _ (spec_complete r h c env typed all a s1.mid o.is o.sort (omega (arith, le)) (λ y. or_first (is_type_name a) (names_type m) (free y)) (begins_other (takes_word typed' (declared a env)) (Marked LeftBrace) s1.mid refl more_specs))
    ∙ (if_true _ _ (takes_pass typed' (declared a env) s1.mid ∙ more_specs)
    ∙ next_is _ (specs_from_complete r h c (declared a env) typed' n s1.mid m rest x.is x.sort (omega (arith, le)) free' (omega (arith, t, few)) e'))
specs_from_complete r h c env typed n all _ rest f s le free few e = absurd (let k = ap sort_number s in omega (arith, k))

pub specs_complete : (r : Reads) (h : ℕ) → Complete r h → (env : Names) (all : List Token) (tree : Tree) (rest : List Token) → Front (Is env tree) all rest → sort_of tree ≡ IsSpecs → height tree ≤ h
    → SpecsEnd (has_type tree) (declared tree env) rest → specs r h env all ≡ Found tree rest
specs_complete r h c env all tree rest f s le e = specs_from_complete r h c env false (length all) all tree rest f s le (λ y. absurd (false-true y)) (omega arith) e

-- what stands behind specs, up to a place where a declarator ends
pub record Behind (env : Names) (s : Tree) (mid : List Token) : Type 0 where
  pub ends : SpecsEnd (has_type s) env mid
  pub leaves : leaves env s mid ≡ true

-- no spec word stands first
abbrev pub no_spec_word : Word → Bool
no_spec_word (Reserved k) = not (is_spec_word k || is_tag_word k)
no_spec_word _ = true

pub takes_none : (env : Names) (s : Tree) (ts : List Token) → leaves env s ts ≡ true → (passes (λ w. not (no_spec_word w)) ts ≡ false) → takes (has_type s) env ts ≡ false
takes_none env s [] l n = refl
takes_none env s (t ∷ ts) l n = by t.word l n
  where
    by : (w : Word) → (has_type s || not (is_typedef_name env w)) ≡ true → not (no_spec_word w) ≡ false → takes_word (has_type s) env w ≡ false
    by (Named m) l n = flip (has_type s) (in_force env m) l
      where
        flip : (a b : Bool) → (a || not b) ≡ true → (not a && b) ≡ false
        flip true b e = refl
        flip false true e = absurd (false-true e)
        flip false false e = refl
    by (Literal m) l n = refl
    by (Marked m) l n = refl
    by (Reserved k) l n = twice (is_spec_word k || is_tag_word k) n
      where
        twice : (b : Bool) → not (not b) ≡ false → b ≡ false
        twice true e = absurd (false-true (sym e))
        twice false e = refl

leaves_closed : (env : Names) (s : Tree) (ts : List Token) → passes closes ts ≡ true → leaves env s ts ≡ true
leaves_closed env s [] e = absurd (false-true e)
leaves_closed env s (t ∷ ts) e = by t.word e
  where
    either : (b : Bool) → (b || true) ≡ true
    either true = refl
    either false = refl

    by : (w : Word) → closes w ≡ true → (has_type s || not (is_typedef_name env w)) ≡ true
    by (Named m) e = absurd (false-true e)
    by (Literal m) e = either (has_type s)
    by (Marked m) e = either (has_type s)
    by (Reserved k) e = either (has_type s)

closes_no_spec : (w : Word) → closes w ≡ true → not (no_spec_word w) ≡ false
closes_no_spec (Named n) e = refl
closes_no_spec (Literal n) e = refl
closes_no_spec (Marked m) e = refl
closes_no_spec (Reserved k) e = absurd (false-true e)

pub declarator_no_spec : (w : Word) → is_declarator_word w ≡ true → not (no_spec_word w) ≡ false
declarator_no_spec (Named n) e = refl
declarator_no_spec (Literal n) e = refl
declarator_no_spec (Marked m) e = refl
declarator_no_spec (Reserved k) e = absurd (false-true e)

-- a place where something closes
pub behind_closed : (env : Names) (s : Tree) (ts : List Token) → passes closes ts ≡ true → Behind env s ts
behind_closed env s ts e =
    let l = leaves_closed env s ts e in
    record { ends = record { no_spec = takes_none env s ts l (passes_not closes (λ w. not (no_spec_word w)) closes_no_spec ts e); no_brace = begins_other closes (Marked LeftBrace) ts refl e }; leaves = l }

-- a phrase whose tokens pass, and the tokens from there on
leaves_all : (env : Names) (s : Tree) (all front rest : List Token) → all ≡ front ++ rest → leaves env s front ≡ true → (front ≡ [] → leaves env s rest ≡ true) → leaves env s all ≡ true
leaves_all env s all [] rest e l n = ap (leaves env s) e ∙ n refl
leaves_all env s all (t ∷ front) rest e l n = ap (leaves env s) e ∙ l

append_nil : (ts : List Token) → ts ++ [] ≡ ts
append_nil [] = refl
append_nil (t ∷ ts) = ap (λ l. t ∷ l) (append_nil ts)

-- a declarator behind specs
pub behind_declarator : (env : Names) (s d : Tree) (mid rest : List Token) → Front (Passing (leaves env s) (Sorted IsDeclarator d (Is env d))) mid rest → (is_nameless d ≡ true → passes closes rest ≡ true) → Behind env s mid
behind_declarator env s d mid rest f n = by d f n
  where
    by : (d : Tree) → Front (Passing (leaves env s) (Sorted IsDeclarator d (Is env d))) mid rest → (is_nameless d ≡ true → passes closes rest ≡ true) → Behind env s mid
    by d f n = either (is_nameless d) refl
      where
        g : Front (Sorted IsDeclarator d (Is env d)) mid rest
        g = record { front = f.front; whole = f.whole; is = f.is.is }

        none : (d : Tree) → is_nameless d ≡ true → Front (Is env d) mid rest → mid ≡ rest
        none Nameless e f = empty_is f
        none _ e f = absurd (false-true e)

        either : (b : Bool) → is_nameless d ≡ b → Behind env s mid
        either true e = subst (Behind env s) (sym (none d e (sorted g).is)) (behind_closed env s rest (n e))
        either false e =
            let o = sorted g in let p = declarator_begins env mid d rest o.is o.sort e in
            let l : leaves env s mid ≡ true = leaves_all env s mid f.front rest f.whole f.is.passes (λ z. absurd (no_front z p)) in
            record { ends = record { no_spec = takes_none env s mid l (passes_not is_declarator_word (λ w. not (no_spec_word w)) declarator_no_spec mid p); no_brace = begins_other is_declarator_word (Marked LeftBrace) mid refl p }; leaves = l }
          where
            no_front : f.front ≡ [] → passes is_declarator_word mid ≡ true → ⊥
            no_front z p =
                let there = declarator_begins env f.front d [] (record { front = f.front; whole = sym (append_nil f.front); is = f.is.is.is }) f.is.is.sort e in
                false-true (ap (passes is_declarator_word) (sym z) ∙ there)

pub or_none_complete : (r : Reads) (h : ℕ) → Complete r h → (env : Names) (all : List Token) (d : Tree) (rest : List Token) → Front (Sorted IsDeclarator d (Is env d)) all rest → height d ≤ h → passes continues rest ≡ false
    → declarator_or_none r env all ≡ Found d rest
or_none_complete r h c env all Nameless rest f le e = let o = sorted f in ap (declarator_or_none r env) (empty_is o.is) ∙ if_false _ _ (no_declarator rest e)
or_none_complete r h c env all d rest f le e =
    let o = sorted f in if_true _ _ (declarator_pass all ∙ declarator_begins env all d rest o.is o.sort refl) ∙ c.declarator env all d rest o.is o.sort le refl e

-- specs without braces declare nothing
bare_spec : (env : Names) (a : Tree) → sort_of a ≡ IsSpec → is_body a ≡ false → declared a env ≡ env
bare_spec env (SpecWord k p) s e = refl
bare_spec env (SpecName n p) s e = refl
bare_spec env (StructBody t m p) s e = absurd (false-true (sym e))
bare_spec env (StructTag n p) s e = refl
bare_spec env (EnumBody t a m p) s e = absurd (false-true (sym e))
bare_spec env (EnumTag n p) s e = refl
bare_spec env _ s e = absurd (let k = ap sort_number s in omega (arith, k))

bare_specs_declare : (env : Names) (all : List Token) (tree : Tree) (rest : List Token) → Front (Is env tree) all rest → sort_of tree ≡ IsSpecs → has_body tree ≡ false → declared tree env ≡ env
bare_specs_declare env all (LastSpec a) rest f s e = let o = sorted f in bare_spec env a o.sort e
bare_specs_declare env all (Specs a m) rest f s e =
    let s1 = split (held f).is in let o = sorted s1.first in let x = sorted s1.second in
    bare_specs_declare (declared a env) s1.mid m rest x.is x.sort (or_second (is_body a) (has_body m) e) ∙ bare_spec env a o.sort (or_first (is_body a) (has_body m) e)
bare_specs_declare env all _ rest f s e = absurd (let k = ap sort_number s in omega (arith, k))

not_false : (b : Bool) → not b ≡ true → b ≡ false
not_false true e = absurd (false-true e)
not_false false e = refl

pub bare_is : (r : Reads) (h : ℕ) → Complete r h → (env : Names) (all : List Token) (a : Tree) (mid : List Token) (go : Tree → List Token → Out Tree) → Front (Where (not (has_body a)) (Sorted IsSpecs a (Is env a))) all mid → height a ≤ h → Behind env a mid
    → bare r h env all go ≡ go a mid
bare_is r h c env all a mid go f le b =
    let u = held f in let o = sorted u.is in
    let same : declared a env ≡ env = bare_specs_declare env all a mid o.is o.sort (not_false (has_body a) u.holds) in
    next_is _ (specs_complete r h c env all a mid o.is o.sort le (subst (λ e. SpecsEnd (has_type a) e mid) (sym same) b.ends)) ∙ (checked_is _ u.holds ∙ checked_is _ b.leaves)

pub inner : {g : List Token → Bool} {A : List Token → Type 0} {all rest : List Token} → Front (Passing g A) all rest → Front A all rest
inner f = record { front = f.front; whole = f.whole; is = f.is.is }

pub type_name_complete : (r : Reads) (h : ℕ) → Complete r h → (env : Names) (all : List Token) (tree : Tree) (rest : List Token) → Front (Is env tree) all rest → sort_of tree ≡ IsTypeName → height tree ≤ h → passes closes rest ≡ true
    → type_name r h env all ≡ Found tree rest
type_name_complete r h c env all (TypeName a d p) rest f s le e =
    let u = unplaced f in let s1 = split u.is in
    let n = held (inner s1.second) in
    let g : Front (Passing (leaves env a) (Sorted IsDeclarator d (Is env d))) s1.mid rest = record { front = s1.second.front; whole = s1.second.whole; is = record { passes = s1.second.is.passes; is = s1.second.is.is.is } } in
    bare_is r h c env all a s1.mid _ s1.first (omega (arith, le)) (behind_declarator env a d s1.mid rest g (λ _. e))
    ∙ (next_is _ (or_none_complete r h c env s1.mid d rest n.is (omega (arith, le)) (ends_at rest e)) ∙ (checked_is _ n.holds ∙ found_is all (TypeName a d) u.place))
type_name_complete r h c env all _ rest f s le e = absurd (let k = ap sort_number s in omega (arith, k))

parameter_complete : (r : Reads) (h : ℕ) → Complete r h → (env : Names) (all : List Token) (tree : Tree) (rest : List Token) → Front (Is env tree) all rest → sort_of tree ≡ IsParameter → height tree ≤ h → passes closes rest ≡ true
    → parameter r h env all ≡ Found tree rest
parameter_complete r h c env all (Parameter a d p) rest f s le e =
    let u = unplaced f in let s1 = split u.is in
    bare_is r h c env all a s1.mid _ s1.first (omega (arith, le)) (behind_declarator env a d s1.mid rest s1.second (λ _. e))
    ∙ (next_is _ (or_none_complete r h c env s1.mid d rest (inner s1.second) (omega (arith, le)) (ends_at rest e)) ∙ found_is all (Parameter a d) u.place)
parameter_complete r h c env all _ rest f s le e = absurd (let k = ap sort_number s in omega (arith, k))

parameter_items : (r : Reads) (h : ℕ) → Complete r h → ItemComplete (parameter r h) Parameters h
parameter_items r h c env all a rest f le e = let o = sorted f in parameter_complete r h c env all a rest o.is o.sort le e

-- the parameter that is only `void`
void_phrase : (env : Names) (all rest : List Token) → Front (IsWord void_word) all rest → Front (Is env (Parameter (LastSpec (SpecWord Void (between all rest))) Nameless (between all rest))) all rest
void_phrase env all rest f =
    front_placed (front_then (front_where refl (front_sorted refl (front_sorted refl (front_placed (front_where refl f))))) (record { front = []; whole = refl; is = record { passes = either (has_type (LastSpec (SpecWord Void (between all rest)))); is = record { sort = refl; is = record { none = refl } } } }))
  where
    either : (b : Bool) → (b || true) ≡ true
    either true = refl
    either false = refl

parameters_complete : (r : Reads) (h : ℕ) → Complete r h → (env : Names) (all : List Token) (tree : Tree) (mid rest : List Token) → Front (Is env tree) all mid → sort_of tree ≡ IsParameters → height tree ≤ h → First (Marked RightParen) mid rest
    → parameters r h env all ≡ Found tree mid
parameters_complete r h c env all NoParameters mid rest f s le g = by f.is
  where
    by : Maybe (IsWord void_word) f.front → parameters r h env all ≡ Found NoParameters mid
    by (Absent e) = let here : all ≡ mid = f.whole ∙ ap (λ l. l ++ mid) e in ap (parameters r h env) here ∙ if_true _ _ (begins_is (Marked RightParen) g)
    by (Present w) =
        let i : Front (IsWord void_word) all mid = record { front = f.front; whole = f.whole; is = w } in
        let ends = list_ends g refl refl in
        if_false _ _ (begins_is (Marked RightParen) (first_word i))
        ∙ (next_is _ (parameter_complete r h c env all (Parameter (LastSpec (SpecWord Void (between all mid))) Nameless (between all mid)) mid (void_phrase env all mid i) refl (omega arith) ends.closed)
        ∙ next_is _ (none_more (parameter r h) Parameters env (length mid) mid ends.no_more))
parameters_complete r h c env all (SomeParameters a m) mid rest f s le g =
    let u = held f in let s1 = split u.is in let o = sorted s1.first in let x = sorted s1.second in
    let ends = list_ends g refl refl in
    if_false _ _ (begins_other (begins_spec env) (Marked RightParen) all refl (sym (specs_pass env all) ∙ parameter_begins env all a s1.mid o.is o.sort))
    ∙ (next_is _ (parameter_complete r h c env all a s1.mid o.is o.sort (omega (arith, le)) (more_closes Parameters (declared a env) s1.mid m mid x.is x.sort ends.closed))
    ∙ (next_is _ (more_complete (parameter r h) Parameters h (parameter_items r h c) (declared a env) (length s1.mid) s1.mid m mid x.is x.sort (omega (arith, le)) (omega arith) ends)
    ∙ if_false _ _ (not_false (is_void_parameter a && is_no_more m) u.holds)))
parameters_complete r h c env all _ mid rest f s le g = absurd (let k = ap sort_number s in omega (arith, k))

pub member_complete : (r : Reads) (h : ℕ) → Complete r h → (env : Names) (all : List Token) (tree : Tree) (rest : List Token) → Front (Is env tree) all rest → sort_of tree ≡ IsMember → height tree ≤ suc h → member r h env all ≡ Found tree rest
member_complete r h c env all (MemberDeclaration a d m p) rest f s le =
    let u = unplaced f in let s1 = split u.is in let s2 = split s1.second in let s3 = split s2.second in
    let o = sorted s1.first in let x = sorted s3.first in let w = first_word s3.second in
    let ends = list_ends w refl refl in
    let n = held (inner s2.first) in
    let g : Front (Passing (leaves (declared a env) a) (Sorted IsDeclarator d (Is (declared a env) d))) s1.mid s2.mid = record { front = s2.first.front; whole = s2.first.whole; is = record { passes = s2.first.is.passes; is = s2.first.is.is.is } } in
    let b = behind_declarator (declared a env) a d s1.mid s2.mid g (λ y. absurd (false-true (sym (not_nameless d n.holds) ∙ y))) in
    let closed = more_closes Declared (declared a env) s2.mid m s3.mid x.is x.sort ends.closed in
    next_is _ (specs_complete r h c env all a s1.mid o.is o.sort (omega (arith, le)) b.ends)
    ∙ (checked_is _ b.leaves
    ∙ (next_is _ (named_complete r h c (declared a env) s1.mid d s2.mid (inner s2.first) (omega (arith, le)) (ends_at s2.mid closed))
    ∙ (next_is _ (more_complete (declarator_named r) Declared h (declared_complete r h c) (declared a env) (length s2.mid) s2.mid m s3.mid x.is x.sort (omega (arith, le)) (omega arith) ends)
    ∙ (eat_is _ w refl ∙ found_is all (MemberDeclaration a d m) u.place))))
member_complete r h c env all _ rest f s le = absurd (let k = ap sort_number s in omega (arith, k))

-- an expression has a height
pub high : (a : Tree) → level_of a ≤ 16 → 1 ≤ height a
high (Name n p) l = omega arith
high _ l = omega (arith, l)

pub enumerator_complete : (r : Reads) (h : ℕ) → Complete r h → (env : Names) (all : List Token) (tree : Tree) (rest : List Token) → Front (Is env tree) all rest → sort_of tree ≡ IsEnumerator → height tree ≤ suc h → passes closes rest ≡ true
    → enumerator r h env all ≡ Found tree rest
enumerator_complete r h c env all (Enumerator n p) rest f s le e =
    let u = unplaced f in
    checked_is _ (le-true 1 h (omega (arith, le))) ∙ (named_is _ (first_word u.is) ∙ (if_false _ _ (begins_other closes (Marked Equals) rest refl e) ∙ found_is all (Enumerator n) u.place))
enumerator_complete r h c env all (EnumeratorValue n a p) rest f s le e =
    let u = unplaced f in let s1 = split u.is in let s2 = split s1.second in let w = first_word s2.first in
    let pos = high a (omega (arith, (opened s2.second).level)) in
    checked_is _ (le-true 1 h (omega (arith, le, pos))) ∙ (named_is _ (first_word s1.first) ∙ (if_true _ _ (begins_is (Marked Equals) w)
    ∙ (eat_is _ w refl ∙ (next_is _ (condition_complete r h c env s2.mid a rest s2.second (omega (arith, le)) e) ∙ found_is all (EnumeratorValue n a) u.place))))
enumerator_complete r h c env all _ rest f s le e = absurd (let k = ap sort_number s in omega (arith, k))

-- declarators
qualified_stops : (mid : List Token) (go : List Keyword → List Token → Out Tree) → passes is_qualifier_word mid ≡ false → qualified mid go ≡ go [] mid
qualified_stops [] go n = refl
qualified_stops (t ∷ ts) go n = by t.word (λ k. qualified ts (λ ks rest. go (k ∷ ks) rest)) n
  where
    by : (w : Word) (one : Keyword → Out Tree) → is_qualifier_word w ≡ false → qualified_at w one (go [] (t ∷ ts)) ≡ go [] (t ∷ ts)
    by (Named m) one n = refl
    by (Literal m) one n = refl
    by (Marked m) one n = refl
    by (Reserved k) one n = if_false _ _ n

pub qualified_is : (ks : List Keyword) (ts mid : List Token) (go : List Keyword → List Token → Out Tree) → Front (qualifiers ks) ts mid → passes is_qualifier_word mid ≡ false → qualified ts go ≡ go ks mid
qualified_is [] ts mid go f n = ap (λ l. qualified l go) (empty_is f) ∙ qualified_stops mid go n
qualified_is (k ∷ ks) ts mid go f n =
    let u = held f in let s1 = split u.is in let w = first_word s1.first in
    ap (λ l. qualified l go) w.whole ∙ (ap (λ v. qualified_at v (λ k. qualified s1.mid (λ ks rest. go (k ∷ ks) rest)) (go [] (w.token ∷ s1.mid))) w.word
    ∙ (if_true _ _ u.holds ∙ qualified_is ks s1.mid mid (λ ks rest. go (k ∷ ks) rest) s1.second n))

suffix_is : {w : Word} {mid rest : List Token} (r : Reads) (h : ℕ) (env : Names) (all : List Token) (d : Tree) → First w mid rest → suffix_one r h env all d mid ≡ suffix_at r h env all d w rest
suffix_is {w} {mid} {rest} r h env all d f = ap (suffix_one r h env all d) f.whole ∙ ap (λ w. suffix_at r h env all d w rest) f.word

direct_is : {w : Word} {all rest : List Token} (r : Reads) (env : Names) → First w all rest → direct r env all ≡ direct_at r env all w rest
direct_is {w} {all} {rest} r env f =
    ap (direct r env) f.whole ∙ (ap (λ w. direct_at r env (f.token ∷ rest) w rest) f.word ∙ ap (λ l. direct_at r env l w rest) (sym f.whole))

opens_all : (env : Names) (all front rest : List Token) → all ≡ front ++ rest → opens_declarator env front ≡ true → (front ≡ [] → ⊥) → begins_specs env all ≡ false
opens_all env all [] rest e l n = absurd (n refl)
opens_all env all (t ∷ front) rest e l n = ap (begins_specs env) e ∙ not_false (begins_specs env (t ∷ front)) l

neither : {a b : Bool} → a ≡ false → b ≡ false → not (a || b) ≡ true
neither {a} {b} p q = ap (λ a. not (a || b)) p ∙ ap not q

pub direct_spine : (r : Reads) (h : ℕ) → Complete r h → (env : Names) (all : List Token) (tree : Tree) (rest : List Token) → Front (Is env tree) all rest → sort_of tree ≡ IsDeclarator → is_direct tree ≡ true → height tree ≤ suc h
    → (is_nameless tree ≡ true → direct r env rest ≡ Found Nameless rest)
    → Spine (suffix_one r h env) h (next (direct r env all) (λ d rest. loop (suffix_one r h env) h (suc h) all d rest)) all tree rest (Unit {0})
direct_spine r h c env all Nameless rest f s d le n = spine_starts (reached_at (ap (direct r env) (empty_is f) ∙ n refl))
direct_spine r h c env all (DeclaredName m p) rest f s d le n = let u = unplaced f in spine_starts (reached_at (direct_is r env (first_word u.is) ∙ found_is all (DeclaredName m) u.place))
direct_spine r h c env all (Wrapped e p) rest f s d le n =
    let v = unplaced f in let u = held v.is in let s1 = split u.is in let s2 = split s1.second in
    let w = first_word s1.first in let close = first_word s2.second in
    let o = sorted (inner s2.first) in
    let nn = not_false (is_nameless e) u.holds in
    let there = declarator_begins env s1.mid e s2.mid o.is o.sort nn in
    let front_there = declarator_begins env s2.first.front e [] (record { front = s2.first.front; whole = sym (append_nil s2.first.front); is = s2.first.is.is.is }) o.sort nn in
    let no_front : s2.first.front ≡ [] → ⊥ = λ z. false-true (ap (passes is_declarator_word) (sym z) ∙ front_there) in
    let opening : opens env s1.mid ≡ true = neither (begins_other is_declarator_word (Marked RightParen) s1.mid refl there) (opens_all env s1.mid s2.first.front s2.mid s2.first.whole s2.first.is.passes no_front) in
    spine_starts (reached_at (direct_is r env w ∙ (if_true _ _ opening
    ∙ (next_is _ (c.declarator env s1.mid e s2.mid o.is o.sort (omega (arith, le)) nn (passes_is continues close))
    ∙ (checked_is _ u.holds ∙ (eat_is _ close refl ∙ found_is all (Wrapped e) v.place))))))
direct_spine r h c env all (Unsized e p) rest f s d le n =
    let v = unplaced f in let u = held v.is in let s1 = split u.is in let s2 = split s1.second in let o = sorted s1.first in
    let w = first_word s2.first in let close = first_word s2.second in
    let one : suffix_one r h env all e s1.mid ≡ Found (Unsized e p) rest =
    suffix_is r h env all e w ∙ (if_true _ _ (begins_is (Marked RightBracket) close) ∙ (eat_is _ close refl ∙ found_is all (Unsized e) v.place)) in
    spine_next (direct_spine r h c env all e s1.mid o.is o.sort u.holds (omega (arith, le)) (λ z. direct_is r env w)) tt (omega (arith, le)) (reached_at one) (omega arith)
direct_spine r h c env all (Sized e a p) rest f s d le n =
    let v = unplaced f in let u = held v.is in let s1 = split u.is in let s2 = split s1.second in let s3 = split s2.second in let o = sorted s1.first in
    let w = first_word s2.first in let close = first_word s3.second in
    let x = opened s3.first in
    let one : suffix_one r h env all e s1.mid ≡ Found (Sized e a p) rest =
    suffix_is r h env all e w ∙ (if_false _ _ (begins_other (starts env) (Marked RightBracket) s2.mid refl (heads env s2.mid a s3.mid x.is (omega (arith, x.level))))
    ∙ (next_is _ (exact r h c 15 (omega arith) env s2.mid a s3.mid s3.first (omega (arith, le)) (stops_first 15 close (omega arith))) ∙ (eat_is _ close refl ∙ found_is all (Sized e a) v.place))) in
    spine_next (direct_spine r h c env all e s1.mid o.is o.sort u.holds (omega (arith, le)) (λ z. direct_is r env w)) tt (omega (arith, le)) (reached_at one) (omega arith)
direct_spine r h c env all (Function e a p) rest f s d le n =
    let v = unplaced f in let u = held v.is in let s1 = split u.is in let s2 = split s1.second in let s3 = split s2.second in let o = sorted s1.first in
    let w = first_word s2.first in let close = first_word s3.second in
    let x = sorted s3.first in
    let one : suffix_one r h env all e s1.mid ≡ Found (Function e a p) rest =
    suffix_is r h env all e w ∙ (next_is _ (parameters_complete r h c env s2.mid a s3.mid rest x.is x.sort (omega (arith, le)) close) ∙ (eat_is _ close refl ∙ found_is all (Function e a) v.place)) in
    spine_next (direct_spine r h c env all e s1.mid o.is o.sort u.holds (omega (arith, le)) (λ z. direct_is r env w ∙ if_false _ _ (parameters_open env s2.mid a s3.mid rest x.is x.sort close))) tt (omega (arith, le)) (reached_at one) (omega arith)
direct_spine r h c env all (Pointer k e p) rest f s d le n = absurd (false-true d)
direct_spine r h c env all _ rest f s d le n = absurd (let k = ap sort_number s in omega (arith, k))
