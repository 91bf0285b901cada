-- What stands in parentheses or may be left away, as a step of its own.
use Rattle.std.proofs.Common.{◌≡◌, ℕ, ◌+◌, Bool, true, false, if◌then◌else◌, List, [], ◌∷◌, drop, refl, sym, ap, ◌∙◌, arith}
use Rattle.dc_syntax.specs.declared.mark.Mark.TheVariants.{LeftParen, RightParen, Semicolon}
use Rattle.dc_syntax.specs.declared.raw.Raw.{Raw}
use Rattle.dc_syntax.specs.declared.unit.Part as code
use Rattle.dc_syntax.specs.declared.unit.Part.TheViews.{rolls-NoStep, rolls-Step}
use Rattle.dc_syntax.specs.declared.unit.Part.TheFolds.{fold-roll-Part}
use Rattle.dc_syntax.specs.declared.unit.Part.TheOpen.{Part-F}
use Rattle.dc_syntax.specs.Tokens.{Word, Token, Marked, is_word}
use Rattle.dc_syntax.specs.Names.{Names}
use Rattle.dc_syntax.specs.Trees.{Tree}
use Rattle.dc_syntax.specs.Phrases.{begins_specs}
use Rattle.dc_syntax.specs.Parts.{Part, NoStep, Step, Do, in_force_behind, height_of}
use Rattle.dc_syntax.specs.Reading.{Out, Nothing, Found, Reads, Upto, next, begins, eat}
use Rattle.dc_syntax.specs.ReadingUnits.{PartReads, StatementOf, FirstOf, tested, optional, branch, loop_clauses, ended, first, for_loop, for_condition, for_step, for_body}
use Rattle.dc_syntax.specs.UnitView.{part_view, part_step}
use Rattle.dc_syntax.specs.View.{raw_view}
use Rattle.dc_read_expr.specs.declared.read.Read.{Read}
use Rattle.dc_read_expr.specs.View.{IsReading, IsNext}
use Rattle.dc_read_expr.proofs.Eating.{eaten, uneaten, within_begins, eat_next}
use Rattle.dc_read_unit.specs.declared.read.ReadPart.{ReadPart}
use Rattle.dc_read_unit.specs.PartView.{IsPart}
use Rattle.dc_read_unit.specs.StatementParts.{closed_tested, closed_optional, closed_first, branch_else, do_condition}

pub tested_next : (r : Reads) (env : Names) (ts : List Token) (go : Tree → List Token → Out Part) → tested r env ts go ≡ next (closed_tested r env ts) go
tested_next r env [] go = refl
tested_next r env (t ∷ ts) go = by (is_word (Marked LeftParen) t.word)
  where
    read : (o : Out Tree) → next o (λ e rest. eat (Marked RightParen) rest (λ rest. go e rest)) ≡ next (next o (λ e rest. eat (Marked RightParen) rest (λ rest. Found e rest))) go
    read Nothing = refl
    read (Found e rest) = eat_next (Marked RightParen) rest e go

    by : (b : Bool) → (if b then next (r (Upto 16) env ts) (λ e rest. eat (Marked RightParen) rest (λ rest. go e rest)) else Nothing)
        ≡ next (if b then next (r (Upto 16) env ts) (λ e rest. eat (Marked RightParen) rest (λ rest. Found e rest)) else Nothing) go
    by true = read (r (Upto 16) env ts)
    by false = refl

pub optional_next : (r : Reads) (env : Names) (w : Word) (ts : List Token) (go : Part → List Token → Out Part) → optional r env w ts go ≡ next (closed_optional r env w ts) go
optional_next r env w ts go = by (begins w ts)
  where
    read : (o : Out Tree) → next o (λ e rest. eat w rest (λ rest. go (Step e) rest)) ≡ next (next o (λ e rest. eat w rest (λ rest. Found (Step e) rest))) go
    read Nothing = refl
    read (Found e rest) = eat_next w rest (Step e) go

    by : (b : Bool) → (if b then eat w ts (λ rest. go NoStep rest) else next (r (Upto 16) env ts) (λ e rest. eat w rest (λ rest. go (Step e) rest)))
        ≡ next (if b then eat w ts (λ rest. Found NoStep rest) else next (r (Upto 16) env ts) (λ e rest. eat w rest (λ rest. Found (Step e) rest))) go
    by true = eat_next w ts NoStep go
    by false = read (r (Upto 16) env ts)

abbrev by_mark : Reads → Names → Word → List Token → Bool → Out Part
by_mark r env w ts b = if b then eat w ts (λ rest. Found NoStep rest) else next (r (Upto 16) env ts) (λ e rest. eat w rest (λ rest. Found (Step e) rest))

part_view-NoStep : part_view code.NoStep ≡ NoStep
part_view-NoStep = ap part_view (sym rolls-NoStep) ∙ fold-roll-Part Part part_step Part-F.NoStep

part_view-Step : (e : Raw) → part_view (code.Step e) ≡ Step (raw_view e)
part_view-Step e = ap part_view (sym (rolls-Step e)) ∙ fold-roll-Part Part part_step (Part-F.Step e)

-- nothing before the mark
pub left_away : (r : Reads) (env : Names) (w : Word) (tokens : List Token) (at limit : ℕ) (read : ReadPart) → begins w (drop at tokens) ≡ true → read.part ≡ code.NoStep → read.height ≡ 0 → read.at ≡ at + 1
    → IsPart tokens at limit read (closed_optional r env w (drop at tokens))
left_away r env w tokens at limit read is made high there = let viewed : part_view read.part ≡ NoStep = ap part_view made ∙ part_view-NoStep in record {
  found = ap (by_mark r env w (drop at tokens)) is ∙ (eaten w tokens at (λ rest. Found NoStep rest) is
      ∙ (ap (λ t. Found t (drop (at + 1) tokens)) (sym viewed) ∙ ap (λ k. Found (part_view read.part) (drop k tokens)) (sym there)));
  high = high ∙ sym (ap height_of viewed);
  short = omega (arith, high);
  after = omega (arith, there);
  within = omega (arith, there, within_begins w tokens at is);
}

pub no_step : (r : Reads) (env : Names) (w : Word) (ts : List Token) → begins w ts ≡ false → r (Upto 16) env ts ≡ Nothing → closed_optional r env w ts ≡ Nothing
no_step r env w ts is none = ap (by_mark r env w ts) is ∙ ap (λ o. next o (λ e rest. eat w rest (λ rest. Found (Step e) rest))) none

-- an expression, and what stands behind it
module _ (r : Reads) (env : Names) (w : Word) (tokens : List Token) (at limit : ℕ) (e : Read) (is : begins w (drop at tokens) ≡ false) (q : IsReading tokens at limit e (r (Upto 16) env (drop at tokens))) where
  behind_step : closed_optional r env w (drop at tokens) ≡ eat w (drop e.at tokens) (λ rest. Found (Step (raw_view e.tree)) rest)
  behind_step = ap (by_mark r env w (drop at tokens)) is ∙ ap (λ o. next o (λ e rest. eat w rest (λ rest. Found (Step e) rest))) q.found

  pub open_step : begins w (drop e.at tokens) ≡ false → closed_optional r env w (drop at tokens) ≡ Nothing
  open_step unclosed = behind_step ∙ uneaten w (drop e.at tokens) (λ rest. Found (Step (raw_view e.tree)) rest) unclosed

  pub closed_step : (read : ReadPart) → begins w (drop e.at tokens) ≡ true → read.part ≡ code.Step e.tree → read.height ≡ e.height → read.at ≡ e.at + 1
      → IsPart tokens at limit read (closed_optional r env w (drop at tokens))
  closed_step read closed made high there = let viewed : part_view read.part ≡ Step (raw_view e.tree) = ap part_view made ∙ part_view-Step e.tree in record {
    found = behind_step ∙ (eaten w tokens e.at (λ rest. Found (Step (raw_view e.tree)) rest) closed
        ∙ (ap (λ t. Found t (drop (e.at + 1) tokens)) (sym viewed) ∙ ap (λ k. Found (part_view read.part) (drop k tokens)) (sym there)));
    high = high ∙ (q.high ∙ sym (ap height_of viewed));
    short = omega (arith, high, q.short);
    after = omega (arith, there, q.after);
    within = omega (arith, there, within_begins w tokens e.at closed);
  }

pub branch_is : (r : Reads) (q : PartReads) (env : Names) (all ts : List Token) (e : Tree) (rest : List Token) (a : Part) (rest' : List Token) → closed_tested r env ts ≡ Found e rest → q StatementOf env rest ≡ Found a rest'
    → branch r q env all ts ≡ branch_else q env all e a rest'
branch_is r q env all ts e rest a rest' t s =
    tested_next r env ts (λ e ts. next (q StatementOf env ts) (λ a rest. branch_else q env all e a rest))
    ∙ (ap (λ o. next o (λ e ts. next (q StatementOf env ts) (λ a rest. branch_else q env all e a rest))) t ∙ ap (λ o. next o (λ a rest. branch_else q env all e a rest)) s)

pub for_condition_none : (r : Reads) (q : PartReads) (env : Names) (all : List Token) (f : Part) (ts : List Token) (e : Part) (rest : List Token) → closed_optional r env (Marked Semicolon) ts ≡ Found e rest → closed_optional r env (Marked RightParen) rest ≡ Nothing
    → for_condition r q env all f ts ≡ Nothing
for_condition_none r q env all f ts e rest t none =
    optional_next r env (Marked Semicolon) ts (λ e ts. for_step r q env all f e ts)
    ∙ (ap (λ o. next o (λ e ts. for_step r q env all f e ts)) t
    ∙ (optional_next r env (Marked RightParen) rest (λ s ts. for_body q env all f e s ts) ∙ ap (λ o. next o (λ s ts. for_body q env all f e s ts)) none))

pub for_condition_is : (r : Reads) (q : PartReads) (env : Names) (all : List Token) (f : Part) (ts : List Token) (e : Part) (rest : List Token) (s : Part) (rest' : List Token)
    → closed_optional r env (Marked Semicolon) ts ≡ Found e rest → closed_optional r env (Marked RightParen) rest ≡ Found s rest' → for_condition r q env all f ts ≡ for_body q env all f e s rest'
for_condition_is r q env all f ts e rest s rest' t some =
    optional_next r env (Marked Semicolon) ts (λ e ts. for_step r q env all f e ts)
    ∙ (ap (λ o. next o (λ e ts. for_step r q env all f e ts)) t
    ∙ (optional_next r env (Marked RightParen) rest (λ s ts. for_body q env all f e s ts) ∙ ap (λ o. next o (λ s ts. for_body q env all f e s ts)) some))

pub do_condition_is : (r : Reads) (q : PartReads) (env : Names) (all : List Token) (a : Part) (ts : List Token) (e : Tree) (rest : List Token) (c : Part) (rest' : List Token) → closed_tested r env ts ≡ Found e rest → loop_clauses q env rest ≡ Found c rest'
    → do_condition r q env all a ts ≡ ended all rest' (Do a e c)
do_condition_is r q env all a ts e rest c rest' t l =
    tested_next r env ts (λ e ts. next (loop_clauses q env ts) (λ c rest. ended all rest (Do a e c)))
    ∙ (ap (λ o. next o (λ e ts. next (loop_clauses q env ts) (λ c rest. ended all rest (Do a e c)))) t ∙ ap (λ o. next o (λ c rest. ended all rest (Do a e c))) l)

pub first_next : (r : Reads) (q : PartReads) (env : Names) (ts : List Token) (go : Part → List Token → Out Part) → first r q env ts go ≡ next (closed_first r q env ts) go
first_next r q env ts go = by (begins_specs env ts)
  where
    read : (o : Out Part) → next o (λ f rest. eat (Marked Semicolon) rest (λ rest. go f rest)) ≡ next (next o (λ f rest. eat (Marked Semicolon) rest (λ rest. Found f rest))) go
    read Nothing = refl
    read (Found f rest) = eat_next (Marked Semicolon) rest f go

    by : (b : Bool) → (if b then next (q FirstOf env ts) (λ f rest. eat (Marked Semicolon) rest (λ rest. go f rest)) else optional r env (Marked Semicolon) ts go)
        ≡ next (if b then next (q FirstOf env ts) (λ f rest. eat (Marked Semicolon) rest (λ rest. Found f rest)) else optional r env (Marked Semicolon) ts Found) go
    by true = read (q FirstOf env ts)
    by false = optional_next r env (Marked Semicolon) ts go

pub for_is : (r : Reads) (q : PartReads) (env env' : Names) (all tokens : List Token) (at : ℕ) (f : Part) (rest : List Token) → IsNext tokens at (Marked LeftParen) → closed_first r q env (drop (at + 1) tokens) ≡ Found f rest → env' ≡ in_force_behind f env
    → for_loop r q env all (drop at tokens) ≡ for_condition r q env' all f rest
for_is r q env env' all tokens at f rest n found scope =
    ap (for_loop r q env all) n.whole
    ∙ (ap (λ w. if is_word (Marked LeftParen) w then first r q env (drop (at + 1) tokens) (λ f ts. for_condition r q (in_force_behind f env) all f ts) else Nothing) n.word
    ∙ (first_next r q env (drop (at + 1) tokens) (λ f ts. for_condition r q (in_force_behind f env) all f ts)
    ∙ (ap (λ o. next o (λ f ts. for_condition r q (in_force_behind f env) all f ts)) found ∙ ap (λ e. for_condition r q e all f rest) (sym scope))))
