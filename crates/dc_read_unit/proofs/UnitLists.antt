-- The lists of initializers, init-decls, items and external declarations.
use Rattle.std.proofs.Common.{◌≡◌, ℕ, zero, suc, ◌+◌, ◌<◌, ◌≤◌, Bool, true, false, if◌then◌else◌, ◌&&◌, not, List, [], ◌∷◌, map, length, drop, refl, sym, ap, ◌∙◌, arith}
use Rattle.dc_syntax.specs.declared.mark.Mark.TheVariants.{Comma, RightBrace}
use Rattle.dc_syntax.specs.Tokens.{Token, Marked, is_word}
use Rattle.dc_syntax.specs.Names.{Names}
use Rattle.dc_syntax.specs.Parts.{Part, NoInits, Inits, NoMoreDeclared, MoreDeclared, NoItems, Items, NoExternals, Externals, declaring, in_force_behind, height_of}
use Rattle.dc_syntax.specs.Reading.{Out, Nothing, Found, Reads, next, eat, begins, has_more, goes_on_at}
use Rattle.dc_syntax.specs.ReadingUnits.{PartReads, ExternalOf, init, inits, init_decl, more_declared, items, externals}
use Rattle.dc_syntax.specs.UnitView.{part_view, inits_part, more_declared_part, items_part, externals_part}
use Rattle.dc_syntax.proofs.Words.{false-true}
use Rattle.dc_read_expr.proofs.Eating.{eaten, uneaten, within_begins}
use Rattle.dc_read_unit.specs.declared.read.ReadParts.{ReadParts}
use Rattle.dc_read_unit.specs.PartView.{IsParts}
use Rattle.dc_read_unit.specs.StatementParts.{item}
use Rattle.dc_read_unit.proofs.Lists.{PartList, IsPartList, Walked, walked_open}

first : (a b : Bool) → (a && b) ≡ true → a ≡ true
first true b e = refl
first false b e = absurd (false-true e)

comma-first : (ts : List Token) → has_more ts ≡ true → begins (Marked Comma) ts ≡ true
comma-first [] is = absurd (false-true is)
comma-first (t ∷ ts) is = first (is_word (Marked Comma) t.word) (goes_on_at ts) is

turned : (b : Bool) → not b ≡ true → b ≡ false
turned true is = absurd (false-true is)
turned false is = refl

turned-back : (b : Bool) → not b ≡ false → b ≡ true
turned-back true is = refl
turned-back false is = absurd (false-true (sym is))

pub more_within : (tokens : List Token) (at : ℕ) → has_more (drop at tokens) ≡ true → at < length tokens
more_within tokens at is = within_begins (Marked Comma) tokens at (comma-first (drop at tokens) is)

abbrev pub inits_list : Reads → PartReads → PartList
inits_list r q = record {
  list = inits r q;
  one = init r q;
  test = has_more;
  from = λ at. at + 1;
  behind = λ a env. env;
  none = NoInits;
  cons = λ a m. Inits a m;
  view = inits_part;
}

abbrev more_init : Reads → PartReads → Names → ℕ → List Token → Out Part
more_init r q env n ts = next (init r q env ts) (λ i rest. next (inits r q env n rest) (λ m rest. Found (Inits i m) rest))

pub inits_listed : (r : Reads) (q : PartReads) (tokens : List Token) → IsPartList (inits_list r q) tokens
inits_listed r q tokens = record {
  turn = λ env n at is. turn env n at is;
  stop = λ env n at is. stop env n at is;
  forth = λ at. omega arith;
  view-none = refl;
  view-cons = λ a l. refl;
  height-none = refl;
  height-cons = λ a m. refl;
}
  where
    turn : (env : Names) (n at : ℕ) → has_more (drop at tokens) ≡ true → inits r q env (suc n) (drop at tokens) ≡ more_init r q env n (drop (at + 1) tokens)
    turn env n at is =
        ap (λ b. if b then eat (Marked Comma) (drop at tokens) (more_init r q env n) else Found NoInits (drop at tokens)) is
        ∙ eaten (Marked Comma) tokens at (more_init r q env n) (comma-first (drop at tokens) is)

    stop : (env : Names) (n at : ℕ) → has_more (drop at tokens) ≡ false → inits r q env n (drop at tokens) ≡ Found NoInits (drop at tokens)
    stop env zero at is = refl
    stop env (suc n) at is = ap (λ b. if b then eat (Marked Comma) (drop at tokens) (more_init r q env n) else Found NoInits (drop at tokens)) is

abbrev pub declared_list : Reads → PartReads → Bool → PartList
declared_list r q t = record {
  list = λ env n ts. more_declared r q env t n ts;
  one = λ env ts. init_decl r q env t ts;
  test = begins (Marked Comma);
  from = λ at. at + 1;
  behind = declaring t;
  none = NoMoreDeclared;
  cons = λ a m. MoreDeclared a m;
  view = more_declared_part;
}

abbrev more_one : Reads → PartReads → Bool → Names → ℕ → List Token → Out Part
more_one r q t env n ts = next (init_decl r q env t ts) (λ a rest. next (more_declared r q (declaring t a env) t n rest) (λ m rest. Found (MoreDeclared a m) rest))

pub declared_listed : (r : Reads) (q : PartReads) (t : Bool) (tokens : List Token) → IsPartList (declared_list r q t) tokens
declared_listed r q t tokens = record {
  turn = λ env n at is. turn env n at is;
  stop = λ env n at is. stop env n at is;
  forth = λ at. omega arith;
  view-none = refl;
  view-cons = λ a l. refl;
  height-none = refl;
  height-cons = λ a m. refl;
}
  where
    turn : (env : Names) (n at : ℕ) → begins (Marked Comma) (drop at tokens) ≡ true → more_declared r q env t (suc n) (drop at tokens) ≡ more_one r q t env n (drop (at + 1) tokens)
    turn env n at is = ap (λ b. if b then eat (Marked Comma) (drop at tokens) (more_one r q t env n) else Found NoMoreDeclared (drop at tokens)) is ∙ eaten (Marked Comma) tokens at (more_one r q t env n) is

    stop : (env : Names) (n at : ℕ) → begins (Marked Comma) (drop at tokens) ≡ false → more_declared r q env t n (drop at tokens) ≡ Found NoMoreDeclared (drop at tokens)
    stop env zero at is = refl
    stop env (suc n) at is = ap (λ b. if b then eat (Marked Comma) (drop at tokens) (more_one r q t env n) else Found NoMoreDeclared (drop at tokens)) is

-- up to a closing brace
abbrev pub items_list : PartReads → PartList
items_list q = record {
  list = items q;
  one = item q;
  test = λ ts. not (begins (Marked RightBrace) ts);
  from = λ at. at;
  behind = in_force_behind;
  none = NoItems;
  cons = λ a m. Items a m;
  view = items_part;
}

abbrev more_item : PartReads → Names → ℕ → List Token → Out Part
more_item q env n ts = next (item q env ts) (λ a rest. next (items q (in_force_behind a env) n rest) (λ m rest. Found (Items a m) rest))

pub items_listed : (q : PartReads) (tokens : List Token) → IsPartList (items_list q) tokens
items_listed q tokens = record {
  turn = λ env n at is. turn env n at is;
  stop = λ env n at is. stop env n at is;
  forth = λ at. omega arith;
  view-none = refl;
  view-cons = λ a l. refl;
  height-none = refl;
  height-cons = λ a m. refl;
}
  where
    turn : (env : Names) (n at : ℕ) → not (begins (Marked RightBrace) (drop at tokens)) ≡ true → items q env (suc n) (drop at tokens) ≡ more_item q env n (drop at tokens)
    turn env n at is = ap (λ b. if b then Found NoItems (drop at tokens) else more_item q env n (drop at tokens)) (turned (begins (Marked RightBrace) (drop at tokens)) is)

    stop : (env : Names) (n at : ℕ) → not (begins (Marked RightBrace) (drop at tokens)) ≡ false → items q env n (drop at tokens) ≡ Found NoItems (drop at tokens)
    stop env zero at is = refl
    stop env (suc n) at is = ap (λ b. if b then Found NoItems (drop at tokens) else more_item q env n (drop at tokens)) (turned-back (begins (Marked RightBrace) (drop at tokens)) is)

abbrev pub with_brace : Out Part → Out Part
with_brace o = next o (λ m rest. eat (Marked RightBrace) rest (λ rest. Found m rest))

-- no item, and no closing brace
pub items_none : (q : PartReads) (tokens : List Token) (start : Out Part) (from limit : ℕ) (old : ReadParts) (env : Names) → Walked (items_list q) start tokens from limit old env → begins (Marked RightBrace) (drop old.at tokens) ≡ false
    → item q env (drop old.at tokens) ≡ Nothing → with_brace start ≡ Nothing
items_none q tokens start from limit old env v is none =
    walked_open (items_list q) tokens (items_listed q tokens) start from limit old env v (ap not is) none (λ ts. refl) (λ m rest. eat (Marked RightBrace) rest (λ rest. Found m rest)) (λ m. uneaten (Marked RightBrace) (drop old.at tokens) (λ rest. Found m rest) is)

pub items_closed : (tokens : List Token) (start : Out Part) (from limit : ℕ) (old new : ReadParts) → IsParts tokens from limit items_part old start → begins (Marked RightBrace) (drop old.at tokens) ≡ true
    → new.parts ≡ old.parts → new.height ≡ old.height → new.at ≡ old.at + 1 → IsParts tokens from limit items_part new (with_brace start)
items_closed tokens start from limit old new w is these high there = record {
  found = ap with_brace w.found ∙ (eaten (Marked RightBrace) tokens old.at (λ rest. Found (items_part (map part_view old.parts)) rest) is
      ∙ (ap (λ l. Found (items_part (map part_view l)) (drop (old.at + 1) tokens)) (sym these) ∙ ap (λ k. Found (items_part (map part_view new.parts)) (drop k tokens)) (sym there)));
  high = high ∙ (w.high ∙ ap (λ l. height_of (items_part (map part_view l))) (sym these));
  short = omega (arith, high, w.short);
  after = omega (arith, there, w.after);
  within = omega (arith, there, within_begins (Marked RightBrace) tokens old.at is);
}

abbrev pub is_some : List Token → Bool
is_some [] = false
is_some (t ∷ ts) = true

-- up to the end of the tokens
abbrev pub externals_list : PartReads → PartList
externals_list q = record {
  list = externals q;
  one = q ExternalOf;
  test = is_some;
  from = λ at. at;
  behind = in_force_behind;
  none = NoExternals;
  cons = λ a m. Externals a m;
  view = externals_part;
}

pub externals_listed : (q : PartReads) (tokens : List Token) → IsPartList (externals_list q) tokens
externals_listed q tokens = record {
  turn = λ env n at is. turn env n (drop at tokens) is;
  stop = λ env n at is. stop env n (drop at tokens) is;
  forth = λ at. omega arith;
  view-none = refl;
  view-cons = λ a l. refl;
  height-none = refl;
  height-cons = λ a m. refl;
}
  where
    turn : (env : Names) (n : ℕ) (ts : List Token) → is_some ts ≡ true → externals q env (suc n) ts ≡ next (q ExternalOf env ts) (λ a rest. next (externals q (in_force_behind a env) n rest) (λ m rest. Found (Externals a m) rest))
    turn env n [] is = absurd (false-true is)
    turn env n (t ∷ ts) is = refl

    stop : (env : Names) (n : ℕ) (ts : List Token) → is_some ts ≡ false → externals q env n ts ≡ Found NoExternals ts
    stop env zero [] is = refl
    stop env (suc n) [] is = refl
    stop env zero (t ∷ ts) is = absurd (false-true (sym is))
    stop env (suc n) (t ∷ ts) is = absurd (false-true (sym is))

pub some_there : (tokens : List Token) (at : ℕ) → at < length tokens → is_some (drop at tokens) ≡ true
some_there [] zero lt = absurd (omega (arith, lt))
some_there [] (suc at) lt = absurd (omega (arith, lt))
some_there (t ∷ ts) zero lt = refl
some_there (t ∷ ts) (suc at) lt = some_there ts at (omega (arith, lt))

pub none_there : (tokens : List Token) (at : ℕ) → length tokens ≤ at → is_some (drop at tokens) ≡ false
none_there [] zero le = refl
none_there [] (suc at) le = refl
none_there (t ∷ ts) zero le = absurd (omega (arith, le))
none_there (t ∷ ts) (suc at) le = none_there ts at (omega (arith, le))
