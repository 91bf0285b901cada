-- The lists of groups and of clauses.
use Rattle.std.proofs.Common.{◌≡◌, ℕ, zero, suc, ◌+◌, ◌<◌, true, false, if◌then◌else◌, List, [], ◌∷◌, length, drop, refl, ap, ◌∙◌, arith}
use Rattle.dc_syntax.specs.declared.mark.Mark.TheVariants.{Semicolon}
use Rattle.dc_syntax.specs.Tokens.{Token, Marked}
use Rattle.dc_syntax.specs.Names.{Names}
use Rattle.dc_syntax.specs.Parts.{Part, NoMoreGroups, MoreGroups, NoClauses, Clauses}
use Rattle.dc_syntax.specs.Reading.{Out, Found, Reads, next, eat, begins}
use Rattle.dc_syntax.specs.ReadingUnits.{PartReads, ClauseOf, group, more_groups, begins_clause, clauses}
use Rattle.dc_syntax.specs.UnitView.{more_groups_part, clauses_part}
use Rattle.dc_syntax.proofs.Words.{false-true}
use Rattle.dc_read_expr.proofs.Eating.{eaten}
use Rattle.dc_read_unit.proofs.Lists.{PartList, IsPartList}

abbrev pub groups_list : Reads → PartList
groups_list r = record {
  list = more_groups r;
  one = group r;
  test = begins (Marked Semicolon);
  from = λ at. at + 1;
  behind = λ a env. env;
  none = NoMoreGroups;
  cons = λ a m. MoreGroups a m;
  view = more_groups_part;
}

abbrev more_group : Reads → Names → ℕ → List Token → Out Part
more_group r env n ts = next (group r env ts) (λ g rest. next (more_groups r env n rest) (λ m rest. Found (MoreGroups g m) rest))

pub groups_listed : (r : Reads) (tokens : List Token) → IsPartList (groups_list r) tokens
groups_listed r tokens = record {
  turn = λ env n at is. turn env n at is;
  stop = λ env n at is. stop env n at is;
  forth = λ at. omega arith;
  view-none = refl;
  view-cons = λ a l. refl;
  height-none = refl;
  height-cons = λ a m. refl;
}
  where
    turn : (env : Names) (n at : ℕ) → begins (Marked Semicolon) (drop at tokens) ≡ true → more_groups r env (suc n) (drop at tokens) ≡ more_group r env n (drop (at + 1) tokens)
    turn env n at is = ap (λ b. if b then eat (Marked Semicolon) (drop at tokens) (more_group r env n) else Found NoMoreGroups (drop at tokens)) is ∙ eaten (Marked Semicolon) tokens at (more_group r env n) is

    stop : (env : Names) (n at : ℕ) → begins (Marked Semicolon) (drop at tokens) ≡ false → more_groups r env n (drop at tokens) ≡ Found NoMoreGroups (drop at tokens)
    stop env zero at is = refl
    stop env (suc n) at is = ap (λ b. if b then eat (Marked Semicolon) (drop at tokens) (more_group r env n) else Found NoMoreGroups (drop at tokens)) is

abbrev pub clauses_list : PartReads → PartList
clauses_list q = record {
  list = clauses q;
  one = q ClauseOf;
  test = begins_clause;
  from = λ at. at;
  behind = λ a env. env;
  none = NoClauses;
  cons = λ a m. Clauses a m;
  view = clauses_part;
}

abbrev more_clause : PartReads → Names → ℕ → List Token → Out Part
more_clause q env n ts = next (q ClauseOf env ts) (λ c rest. next (clauses q env n rest) (λ m rest. Found (Clauses c m) rest))

pub clauses_listed : (q : PartReads) (tokens : List Token) → IsPartList (clauses_list q) tokens
clauses_listed q tokens = record {
  turn = λ env n at is. turn env n at is;
  stop = λ env n at is. stop env n at is;
  forth = λ at. omega arith;
  view-none = refl;
  view-cons = λ a l. refl;
  height-none = refl;
  height-cons = λ a m. refl;
}
  where
    turn : (env : Names) (n at : ℕ) → begins_clause (drop at tokens) ≡ true → clauses q env (suc n) (drop at tokens) ≡ more_clause q env n (drop at tokens)
    turn env n at is = ap (λ b. if b then more_clause q env n (drop at tokens) else Found NoClauses (drop at tokens)) is

    stop : (env : Names) (n at : ℕ) → begins_clause (drop at tokens) ≡ false → clauses q env n (drop at tokens) ≡ Found NoClauses (drop at tokens)
    stop env zero at is = refl
    stop env (suc n) at is = ap (λ b. if b then more_clause q env n (drop at tokens) else Found NoClauses (drop at tokens)) is

-- a clause has a token
pub clause_within : (tokens : List Token) (at : ℕ) → begins_clause (drop at tokens) ≡ true → at < length tokens
clause_within [] zero is = absurd (false-true is)
clause_within [] (suc at) is = absurd (false-true is)
clause_within (t ∷ ts) zero is = omega arith
clause_within (t ∷ ts) (suc at) is = omega (arith, clause_within ts at is)
