-- One spec, by its first word and those behind it.
use Rattle.std.proofs.Common.{◌≡◌, ℕ, ◌+◌, ◌<◌, ◌≤◌, Bool, true, false, if◌then◌else◌, ◌&&◌, not, List, [], length, drop, Option, Some, None, Result, refl, sym, ap, ◌∙◌, subst, arith}
use Rattle.std.specs.Prelude.{nat_le}
use Rattle.std.specs.declared.alloc.AllocError.{AllocError}
use Rattle.std.proofs.lemmas.Bool.Decides.{nat_tests}
use Rattle.dc_syntax.specs.declared.keyword.Keyword.{Keyword}
use Rattle.dc_syntax.specs.declared.mark.Mark.TheVariants.{LeftBrace}
use Rattle.dc_syntax.specs.declared.raw.Raw as raw
use Rattle.dc_syntax.specs.declared.raw.Raw.TheFolds.{fold-roll-Raw}
use Rattle.dc_syntax.specs.declared.raw.Raw.TheOpen.{Raw-F}
use Rattle.dc_syntax.specs.declared.token.Word as code
use Rattle.dc_syntax.specs.WordView.{word_view}
use Rattle.dc_syntax.specs.Tokens.{Token, Place, Word, Named, Marked, Reserved, is_word, is_spec_word, struct_word, enum_word}
use Rattle.dc_syntax.specs.Names.{Names, in_force}
use Rattle.dc_syntax.specs.Trees.{Tag, NoTag, Tagged, Tree, SpecName, SpecWord, StructTag, EnumTag, height}
use Rattle.dc_syntax.specs.View.{raw_step, raw_view}
use Rattle.dc_syntax.proofs.Words.{word_is}
use Rattle.dc_syntax.specs.Reading.{Out, Nothing, Found, Reads, checked, between, begins, found, named, named_at, tagged, spec, spec_at, struct_body, enum_body}
use Rattle.dc_read_expr.specs.declared.read.Read.{Read}
use Rattle.dc_read_expr.specs.View.{Reading, IsReading, IsNext, Next}

le_one : (h : ℕ) → 1 ≤ h → nat_le 1 h ≡ true
le_one h e = grind (arith, nat_tests)

not_le_one : (h : ℕ) → h < 1 → nat_le 1 h ≡ false
not_le_one h e = grind (arith, nat_tests)

-- one spec is read by its first word
pub spec_by : (r : Reads) (h : ℕ) (env : Names) (typed : Bool) (tokens : List Token) (at : ℕ) (w : Word) → IsNext tokens at w → spec r h env typed (drop at tokens) ≡ spec_at r h env typed (drop at tokens) w (drop (at + 1) tokens)
spec_by r h env typed tokens at w n =
    ap (spec r h env typed) n.whole
    ∙ (ap (λ ts. spec_at r h env typed ts n.token.word (drop (at + 1) tokens)) (sym n.whole) ∙ ap (λ w. spec_at r h env typed (drop at tokens) w (drop (at + 1) tokens)) n.word)

pub reading_by : (tokens : List Token) (from limit : ℕ) (result : Result (Option Read) AllocError) (out out' : Out Tree) → Reading tokens from limit result out → out' ≡ out → Reading tokens from limit result out'
reading_by tokens from limit result out out' q e = subst (λ o. Reading tokens from limit result o) (sym e) q

begins_next : (v : Word) (tokens : List Token) (at : ℕ) (w : Word) → IsNext tokens at w → begins v (drop at tokens) ≡ is_word v w
begins_next v tokens at w n = ap (begins v) n.whole ∙ ap (is_word v) n.word

abbrev pub Alone : Type 0
Alone = List ℕ → Place → Tree

abbrev pub Body : Type 0
Body = Tag → List Token → Out Tree

abbrev behind_name : List Token → Body → Alone → List Token → List ℕ → List Token → Bool → Out Tree
behind_name all body alone ts n rest b = if b then body (Tagged n (between ts rest)) rest else found all (alone n) rest

abbrev either : ℕ → List Token → Body → Alone → List Token → Bool → Out Tree
either h all body alone ts b = if b then body NoTag ts else checked (nat_le 1 h) (named ts (λ n rest. behind_name all body alone ts n rest (begins (Marked LeftBrace) rest)))

pub tagged_bare : (h : ℕ) (all : List Token) (body : Body) (alone : Alone) (ts : List Token) → begins (Marked LeftBrace) ts ≡ true → tagged h all body alone ts ≡ body NoTag ts
tagged_bare h all body alone ts is = ap (either h all body alone ts) is

tagged_name : (h : ℕ) (all : List Token) (body : Body) (alone : Alone) (tokens : List Token) (at : ℕ) (n : List ℕ) → IsNext tokens at (Named n)
    → tagged h all body alone (drop at tokens) ≡ checked (nat_le 1 h) (behind_name all body alone (drop at tokens) n (drop (at + 1) tokens) (begins (Marked LeftBrace) (drop (at + 1) tokens)))
tagged_name h all body alone tokens at n is =
    let go = λ (n : List ℕ) (rest : List Token). behind_name all body alone (drop at tokens) n rest (begins (Marked LeftBrace) rest) in
    ap (either h all body alone (drop at tokens)) (begins_next (Marked LeftBrace) tokens at (Named n) is)
    ∙ ap (checked (nat_le 1 h)) (ap (λ ts. named ts go) is.whole ∙ ap (λ w. named_at w (drop (at + 1) tokens) go) is.word)

pub tagged_low : (h : ℕ) (all : List Token) (body : Body) (alone : Alone) (tokens : List Token) (at : ℕ) (n : List ℕ) → IsNext tokens at (Named n) → h < 1 → tagged h all body alone (drop at tokens) ≡ Nothing
tagged_low h all body alone tokens at n is lt =
    tagged_name h all body alone tokens at n is
    ∙ ap (λ b. checked b (behind_name all body alone (drop at tokens) n (drop (at + 1) tokens) (begins (Marked LeftBrace) (drop (at + 1) tokens)))) (not_le_one h lt)

tagged_body : (h : ℕ) (all : List Token) (body : Body) (alone : Alone) (tokens : List Token) (at : ℕ) (n : List ℕ) → IsNext tokens at (Named n) → 1 ≤ h → begins (Marked LeftBrace) (drop (at + 1) tokens) ≡ true
    → tagged h all body alone (drop at tokens) ≡ body (Tagged n (between (drop at tokens) (drop (at + 1) tokens))) (drop (at + 1) tokens)
tagged_body h all body alone tokens at n is le brace =
    tagged_name h all body alone tokens at n is
    ∙ (ap (λ b. checked b (behind_name all body alone (drop at tokens) n (drop (at + 1) tokens) (begins (Marked LeftBrace) (drop (at + 1) tokens)))) (le_one h le)
    ∙ ap (behind_name all body alone (drop at tokens) n (drop (at + 1) tokens)) brace)

tagged_alone : (h : ℕ) (all : List Token) (body : Body) (alone : Alone) (tokens : List Token) (at : ℕ) (n : List ℕ) → IsNext tokens at (Named n) → 1 ≤ h → begins (Marked LeftBrace) (drop (at + 1) tokens) ≡ false
    → tagged h all body alone (drop at tokens) ≡ Found (alone n (between all (drop (at + 1) tokens))) (drop (at + 1) tokens)
tagged_alone h all body alone tokens at n is le brace =
    tagged_name h all body alone tokens at n is
    ∙ (ap (λ b. checked b (behind_name all body alone (drop at tokens) n (drop (at + 1) tokens) (begins (Marked LeftBrace) (drop (at + 1) tokens)))) (le_one h le)
    ∙ ap (behind_name all body alone (drop at tokens) n (drop (at + 1) tokens)) brace)

pub spec_struct : (r : Reads) (h : ℕ) (env : Names) (typed : Bool) (tokens : List Token) (at : ℕ) → IsNext tokens at struct_word
    → spec r h env typed (drop at tokens) ≡ tagged h (drop at tokens) (struct_body r env (drop at tokens)) StructTag (drop (at + 1) tokens)
spec_struct r h env typed tokens at n = spec_by r h env typed tokens at struct_word n

pub spec_enum : (r : Reads) (h : ℕ) (env : Names) (typed : Bool) (tokens : List Token) (at : ℕ) → IsNext tokens at enum_word
    → spec r h env typed (drop at tokens) ≡ tagged h (drop at tokens) (enum_body r env (drop at tokens)) EnumTag (drop (at + 1) tokens)
spec_enum r h env typed tokens at n = spec_by r h env typed tokens at enum_word n

pub next_of : (tokens : List Token) (at : ℕ) (o : Option code.Word) (w : code.Word) → Next tokens at o → o ≡ Some w → IsNext tokens at (word_view w)
next_of tokens at o w n e = subst (Next tokens at) e n

pub next_at : (tokens : List Token) (at at' : ℕ) (w : Word) → IsNext tokens at w → at' ≡ at → IsNext tokens at' w
next_at tokens at at' w n e = subst (λ k. IsNext tokens k w) (sym e) n

pub word_next : (tokens : List Token) (at : ℕ) (w u : Word) → IsNext tokens at u → is_word w u ≡ true → IsNext tokens at w
word_next tokens at w u n e = subst (IsNext tokens at) (word_is w u e) n

-- behind `struct` or `enum`
pub struct_tagged : (r : Reads) (h : ℕ) (env : Names) (typed : Bool) (tokens : List Token) (at next : ℕ) → IsNext tokens at struct_word → next ≡ at + 1
    → spec r h env typed (drop at tokens) ≡ tagged h (drop at tokens) (struct_body r env (drop at tokens)) StructTag (drop next tokens)
struct_tagged r h env typed tokens at next n e =
    spec_struct r h env typed tokens at n ∙ ap (λ k. tagged h (drop at tokens) (struct_body r env (drop at tokens)) StructTag (drop k tokens)) (sym e)

pub enum_tagged : (r : Reads) (h : ℕ) (env : Names) (typed : Bool) (tokens : List Token) (at next : ℕ) → IsNext tokens at enum_word → next ≡ at + 1
    → spec r h env typed (drop at tokens) ≡ tagged h (drop at tokens) (enum_body r env (drop at tokens)) EnumTag (drop next tokens)
enum_tagged r h env typed tokens at next n e =
    spec_enum r h env typed tokens at n ∙ ap (λ k. tagged h (drop at tokens) (enum_body r env (drop at tokens)) EnumTag (drop k tokens)) (sym e)

abbrev nothing : Out Tree
nothing = Nothing

pub tagged_unnamed : (h : ℕ) (all : List Token) (body : Body) (alone : Alone) (ts : List Token) → begins (Marked LeftBrace) ts ≡ false
    → ((go : List ℕ → List Token → Out Tree) → named ts go ≡ Nothing) → tagged h all body alone ts ≡ Nothing
tagged_unnamed h all body alone ts brace none =
    ap (either h all body alone ts) brace
    ∙ (ap (checked (nat_le 1 h)) (none (λ n rest. behind_name all body alone ts n rest (begins (Marked LeftBrace) rest))) ∙ unchecked (nat_le 1 h))
  where
    unchecked : (b : Bool) → checked b nothing ≡ nothing
    unchecked true = refl
    unchecked false = refl

pub tagged_by : (h : ℕ) (all : List Token) (body : Body) (alone : Alone) (tokens : List Token) (at end : ℕ) (n name : List ℕ) (p : Place) → IsNext tokens at (Named n) → 1 ≤ h → end ≡ at + 1
    → begins (Marked LeftBrace) (drop end tokens) ≡ true → name ≡ n → p ≡ between (drop at tokens) (drop end tokens) → tagged h all body alone (drop at tokens) ≡ body (Tagged name p) (drop end tokens)
tagged_by h all body alone tokens at end n name p is le e brace named place =
    tagged_body h all body alone tokens at n is le (ap (λ k. begins (Marked LeftBrace) (drop k tokens)) (sym e) ∙ brace)
    ∙ (ap (λ k. body (Tagged n (between (drop at tokens) (drop k tokens))) (drop k tokens)) (sym e)
    ∙ (ap (λ p. body (Tagged n p) (drop end tokens)) (sym place) ∙ ap (λ n. body (Tagged n p) (drop end tokens)) (sym named)))

tagged_by_name : (h : ℕ) (all : List Token) (body : Body) (alone : Alone) (tokens : List Token) (at end : ℕ) (n : List ℕ) → IsNext tokens at (Named n) → 1 ≤ h → end ≡ at + 1
    → begins (Marked LeftBrace) (drop end tokens) ≡ false → tagged h all body alone (drop at tokens) ≡ Found (alone n (between all (drop end tokens))) (drop end tokens)
tagged_by_name h all body alone tokens at end n is le e brace =
    tagged_alone h all body alone tokens at n is le (ap (λ k. begins (Marked LeftBrace) (drop k tokens)) (sym e) ∙ brace)
    ∙ ap (λ k. Found (alone n (between all (drop k tokens))) (drop k tokens)) (sym e)

-- a name alone
pub alone_reading : (alone : Alone) (tokens : List Token) (from end limit : ℕ) (n name : List ℕ) (p : Place) (read : Read) (out : Out Tree)
    → out ≡ Found (alone n (between (drop from tokens) (drop end tokens))) (drop end tokens) → name ≡ n → raw_view read.tree ≡ alone name p → height (alone name p) ≡ 1
    → p ≡ between (drop from tokens) (drop end tokens) → 1 ≤ limit → from < end → end ≤ length tokens → read.height ≡ 1 → read.at ≡ end → IsReading tokens from limit read out
alone_reading alone tokens from end limit n name p read out is named viewed one place le lt within high at = record {
  found = is ∙ (ap (λ p. Found (alone n p) (drop end tokens)) (sym place) ∙ (ap (λ n. Found (alone n p) (drop end tokens)) (sym named)
      ∙ (ap (λ t. Found t (drop end tokens)) (sym viewed) ∙ ap (λ k. Found (raw_view read.tree) (drop k tokens)) (sym at))));
  high = high ∙ (sym one ∙ sym (ap height viewed));
  short = omega (arith, high, le);
  after = omega (arith, at, lt);
  within = omega (arith, at, within);
}

-- behind `struct` or `enum` stands a name alone
pub tag_reading : (body : Body) (alone : Alone) (tokens : List Token) (from next end limit : ℕ) (n name : List ℕ) (p : Place) (read : Read) (out : Out Tree) → out ≡ tagged limit (drop from tokens) body alone (drop next tokens) → next ≡ from + 1
    → IsNext tokens next (Named n) → end ≡ next + 1 → begins (Marked LeftBrace) (drop end tokens) ≡ false → name ≡ n → raw_view read.tree ≡ alone name p → height (alone name p) ≡ 1
    → p ≡ between (drop from tokens) (drop end tokens) → 1 ≤ limit → read.height ≡ 1 → read.at ≡ end → IsReading tokens from limit read out
tag_reading body alone tokens from next end limit n name p read out is behind there e brace named viewed one place le high at =
    alone_reading alone tokens from end limit n name p read out (is ∙ tagged_by_name limit (drop from tokens) body alone tokens next end n there le e brace) named viewed one place le (omega (arith, behind, e)) (omega (arith, e, there.within)) high at

pub raw_view-SpecName : (n : List ℕ) (p : Place) → raw_view (raw.SpecName n p) ≡ SpecName n p
unfolding raw.roll-Raw denote.Hole.Carrier.roll
raw_view-SpecName n p = fold-roll-Raw Tree raw_step (Raw-F.SpecName n p)

pub raw_view-StructTag : (n : List ℕ) (p : Place) → raw_view (raw.StructTag n p) ≡ StructTag n p
unfolding raw.roll-Raw denote.Hole.Carrier.roll
raw_view-StructTag n p = fold-roll-Raw Tree raw_step (Raw-F.StructTag n p)

pub raw_view-EnumTag : (n : List ℕ) (p : Place) → raw_view (raw.EnumTag n p) ≡ EnumTag n p
unfolding raw.roll-Raw denote.Hole.Carrier.roll
raw_view-EnumTag n p = fold-roll-Raw Tree raw_step (Raw-F.EnumTag n p)

pub unnamed_end : (tokens : List Token) (at : ℕ) (o : Option code.Word) → Next tokens at o → o ≡ None → (go : List ℕ → List Token → Out Tree) → named (drop at tokens) go ≡ Nothing
unnamed_end tokens at o n e go = let is : drop at tokens ≡ [] = subst (Next tokens at) e n in ap (λ ts. named ts go) is

-- a typedef's name
module _ (r : Reads) (h : ℕ) (env : Names) (typed : Bool) (tokens : List Token) (at : ℕ) (n : List ℕ) (next : IsNext tokens at (Named n)) where
  pub name_typed : typed ≡ true → spec r h env typed (drop at tokens) ≡ Nothing
  name_typed e = spec_by r h env typed tokens at (Named n) next
      ∙ ap (λ b. checked (not b && (in_force env n && nat_le 1 h)) (found (drop at tokens) (SpecName n) (drop (at + 1) tokens))) e

  untyped : typed ≡ false → spec r h env typed (drop at tokens) ≡ checked (in_force env n && nat_le 1 h) (found (drop at tokens) (SpecName n) (drop (at + 1) tokens))
  untyped e = spec_by r h env typed tokens at (Named n) next
      ∙ ap (λ b. checked (not b && (in_force env n && nat_le 1 h)) (found (drop at tokens) (SpecName n) (drop (at + 1) tokens))) e

  pub name_unforced : typed ≡ false → in_force env n ≡ false → spec r h env typed (drop at tokens) ≡ Nothing
  name_unforced e f = untyped e ∙ ap (λ b. checked (b && nat_le 1 h) (found (drop at tokens) (SpecName n) (drop (at + 1) tokens))) f

  forced : typed ≡ false → in_force env n ≡ true → spec r h env typed (drop at tokens) ≡ checked (nat_le 1 h) (found (drop at tokens) (SpecName n) (drop (at + 1) tokens))
  forced e f = untyped e ∙ ap (λ b. checked (b && nat_le 1 h) (found (drop at tokens) (SpecName n) (drop (at + 1) tokens))) f

  pub name_low : typed ≡ false → in_force env n ≡ true → h < 1 → spec r h env typed (drop at tokens) ≡ Nothing
  name_low e f lt = forced e f ∙ ap (λ b. checked b (found (drop at tokens) (SpecName n) (drop (at + 1) tokens))) (not_le_one h lt)

  pub name_found : typed ≡ false → in_force env n ≡ true → 1 ≤ h → spec r h env typed (drop at tokens) ≡ Found (SpecName n (between (drop at tokens) (drop (at + 1) tokens))) (drop (at + 1) tokens)
  name_found e f le = forced e f ∙ ap (λ b. checked b (found (drop at tokens) (SpecName n) (drop (at + 1) tokens))) (le_one h le)

-- a keyword that is neither `struct` nor `enum`
abbrev keyword_by : Reads → ℕ → Names → List Token → Keyword → List Token → Bool → Bool → Out Tree
keyword_by r h env all k ts a b =
    if a then tagged h all (struct_body r env all) StructTag ts else (if b then tagged h all (enum_body r env all) EnumTag ts else checked (is_spec_word k) (found all (SpecWord k) ts))

pub spec_keyword : (r : Reads) (h : ℕ) (env : Names) (typed : Bool) (tokens : List Token) (at : ℕ) (k : Keyword) → IsNext tokens at (Reserved k) → is_word struct_word (Reserved k) ≡ false → is_word enum_word (Reserved k) ≡ false
    → spec r h env typed (drop at tokens) ≡ checked (is_spec_word k) (found (drop at tokens) (SpecWord k) (drop (at + 1) tokens))
spec_keyword r h env typed tokens at k n no_struct no_enum =
    spec_by r h env typed tokens at (Reserved k) n
    ∙ (ap (λ b. keyword_by r h env (drop at tokens) k (drop (at + 1) tokens) b (is_word enum_word (Reserved k))) no_struct
    ∙ ap (λ b. keyword_by r h env (drop at tokens) k (drop (at + 1) tokens) false b) no_enum)
