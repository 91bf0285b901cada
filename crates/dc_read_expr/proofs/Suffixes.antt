-- A loop that reads lengths and parameters behind a declarator, with turns enough: one turn of the code, and its ends.
use Rattle.std.proofs.Common.{◌≡◌, ℕ, zero, suc, ◌+◌, ◌<◌, ◌≤◌, Bool, true, false, if◌then◌else◌, List, length, drop, Result, Ok, refl, sym, ap, ◌∙◌, subst, arith}
use Rattle.std.specs.Prelude.{nat_le}
use Rattle.std.specs.declared.alloc.AllocError.{AllocError}
use Rattle.std.proofs.lemmas.Bool.Decides.{nat_tests}
use Rattle.dc_syntax.specs.declared.mark.Mark.TheVariants.{Star}
use Rattle.dc_syntax.specs.Tokens.{Token, Marked}
use Rattle.dc_syntax.specs.Names.{Names}
use Rattle.dc_syntax.specs.Trees.{Tree, Pointer, height}
use Rattle.dc_syntax.specs.Reading.{Out, Nothing, Found, Reads, next, kept, begins, eat, found, loop, qualified, declarator_or_none, direct, suffix_one, declarator}
use Rattle.dc_syntax.specs.View.{raw_view}
use Rattle.dc_read_expr.specs.declared.read.Read.{Read}
use Rattle.dc_read_expr.specs.declared.read.Turn.{Turn}
use Rattle.dc_read_expr.specs.declared.read.Turn.TheVariants.{More, Done}
use Rattle.dc_read_expr.specs.View.{IsLooseReading, Turning, IsTurn, IsDone}
use Rattle.dc_read_expr.specs.Suffixes.{suffix_turns}

abbrev pub One : Type 0
One = List Token → Tree → List Token → Out Tree

-- the loop goes on from here with this many turns at most, which are enough
pub record Suffixing (one : One) (h : ℕ) (tokens : List Token) (from : ℕ) (start : Out Tree) (r : Read) : Type 0 where
  pub turns : ℕ
  pub same : loop one h turns (drop from tokens) (raw_view r.tree) (drop r.at tokens) ≡ start
  pub enough : suc h ≤ turns + height (raw_view r.tree)
  pub high : r.height ≡ height (raw_view r.tree)
  pub short : r.height ≤ h + 1
  pub after : from ≤ r.at
  pub within : r.at ≤ length tokens

le-false : (m n : ℕ) → n < m → nat_le m n ≡ false
le-false m n e = grind (arith, nat_tests)

le-true : (m n : ℕ) → m ≤ n → nat_le m n ≡ true
le-true m n e = grind (arith, nat_tests)

pub suffixing_starts : (r : Reads) (h : ℕ) (env : Names) (tokens : List Token) (from : ℕ) (first : Read) → first.height ≡ height (raw_view first.tree) → first.height ≤ h + 1 → from ≤ first.at → first.at ≤ length tokens
    → Suffixing (suffix_one r h env) h tokens from (suffix_turns r h env (drop from tokens) (raw_view first.tree) (drop first.at tokens)) first
unfolding suffix_turns
suffixing_starts r h env tokens from first high short after within = record { turns = suc h; same = refl; enough = omega arith; high = high; short = short; after = after; within = within }

turned : (one : One) (h : ℕ) (all : List Token) (e : Tree) (rest : List Token) (e' : Tree) (rest' : List Token) (n : ℕ) → height e ≤ h → one all e rest ≡ Found e' rest' → loop one h (suc n) all e rest ≡ loop one h n all e' rest'
turned one h all e rest e' rest' n le is =
    ap (λ b. kept (if b then one all e rest else Nothing) (Found e rest) (λ e rest. loop one h n all e rest)) (le-true (height e) h le)
    ∙ ap (λ o. kept o (Found e rest) (λ e rest. loop one h n all e rest)) is

pub suffixing_turn : (one : One) (h : ℕ) (tokens : List Token) (from : ℕ) (start : Out Tree) (r r' : Read) (result : Result Turn AllocError) → Suffixing one h tokens from start r → r.height ≤ h
    → Turning tokens from (h + 1) r result (one (drop from tokens) (raw_view r.tree) (drop r.at tokens)) → result ≡ Ok (More r') → Suffixing one h tokens from start r'
suffixing_turn one h tokens from start r r' result s le q e = go s.turns s.same s.enough
  where
    t : IsTurn tokens from (h + 1) r r' (one (drop from tokens) (raw_view r.tree) (drop r.at tokens))
    t = subst (λ o. Turning tokens from (h + 1) r o (one (drop from tokens) (raw_view r.tree) (drop r.at tokens))) e q

    go : (n : ℕ) → loop one h n (drop from tokens) (raw_view r.tree) (drop r.at tokens) ≡ start → suc h ≤ n + height (raw_view r.tree) → Suffixing one h tokens from start r'
    go zero same enough = absurd (omega (arith, enough, le, s.high))
    go (suc n) same enough = record {
      turns = n;
      same = sym (turned one h (drop from tokens) (raw_view r.tree) (drop r.at tokens) (raw_view r'.tree) (drop r'.at tokens) n (omega (arith, le, s.high)) t.found) ∙ same;
      enough = omega (arith, enough, t.grows, t.high, s.high);
      high = t.high;
      short = t.short;
      after = omega (arith, t.after);
      within = t.within;
    }

read_so_far : (one : One) (h : ℕ) (tokens : List Token) (from : ℕ) (start : Out Tree) (r : Read) → Suffixing one h tokens from start r → start ≡ Found (raw_view r.tree) (drop r.at tokens) → IsLooseReading tokens from (h + 1) r start
read_so_far one h tokens from start r s e = record { found = e; high = s.high; short = s.short; after = s.after; within = s.within }

pub suffixing_high : (one : One) (h : ℕ) (tokens : List Token) (from : ℕ) (start : Out Tree) (r : Read) → Suffixing one h tokens from start r → h < r.height → IsLooseReading tokens from (h + 1) r start
suffixing_high one h tokens from start r s lt = read_so_far one h tokens from start r s (go s.turns s.same)
  where
    go : (n : ℕ) → loop one h n (drop from tokens) (raw_view r.tree) (drop r.at tokens) ≡ start → start ≡ Found (raw_view r.tree) (drop r.at tokens)
    go zero same = sym same
    go (suc n) same = sym same
        ∙ ap (λ b. kept (if b then one (drop from tokens) (raw_view r.tree) (drop r.at tokens) else Nothing) (Found (raw_view r.tree) (drop r.at tokens)) (λ e rest. loop one h n (drop from tokens) e rest)) (le-false (height (raw_view r.tree)) h (omega (arith, lt, s.high)))

pub suffixing_done : (one : One) (h : ℕ) (tokens : List Token) (from : ℕ) (start : Out Tree) (r r' : Read) (result : Result Turn AllocError) → Suffixing one h tokens from start r
    → Turning tokens from (h + 1) r result (one (drop from tokens) (raw_view r.tree) (drop r.at tokens)) → result ≡ Ok (Done r') → IsLooseReading tokens from (h + 1) r' start
suffixing_done one h tokens from start r r' result s q e = subst (λ x. IsLooseReading tokens from (h + 1) x start) (sym d.same) (read_so_far one h tokens from start r s (go s.turns s.same))
  where
    d : IsDone r r' (one (drop from tokens) (raw_view r.tree) (drop r.at tokens))
    d = subst (λ o. Turning tokens from (h + 1) r o (one (drop from tokens) (raw_view r.tree) (drop r.at tokens))) e q

    tried : (b : Bool) → (if b then one (drop from tokens) (raw_view r.tree) (drop r.at tokens) else Nothing) ≡ Nothing
    tried true = d.none
    tried false = refl

    go : (n : ℕ) → loop one h n (drop from tokens) (raw_view r.tree) (drop r.at tokens) ≡ start → start ≡ Found (raw_view r.tree) (drop r.at tokens)
    go zero same = sym same
    go (suc n) same = sym same
        ∙ ap (λ o. kept o (Found (raw_view r.tree) (drop r.at tokens)) (λ e rest. loop one h n (drop from tokens) e rest)) (tried (nat_le (height (raw_view r.tree)) h))

unpointed : (r : Reads) (h : ℕ) (env : Names) (ts : List Token) → begins (Marked Star) ts ≡ false → declarator r h env ts ≡ next (direct r env ts) (λ e rest. loop (suffix_one r h env) h (suc h) ts e rest)
unpointed r h env ts plain =
    ap (λ b. if b then eat (Marked Star) ts (λ ts'. qualified ts' (λ ks rest. next (declarator_or_none r env rest) (λ d rest. found ts (Pointer ks d) rest))) else next (direct r env ts) (λ e rest. loop (suffix_one r h env) h (suc h) ts e rest)) plain

declarator_found : (r : Reads) (h : ℕ) (env : Names) (ts : List Token) (e : Tree) (rest : List Token) (e' : Tree) (rest' : List Token) → begins (Marked Star) ts ≡ false → direct r env ts ≡ Found e rest
    → suffix_turns r h env ts e rest ≡ Found e' rest' → declarator r h env ts ≡ Found e' rest'
unfolding suffix_turns
declarator_found r h env ts e rest e' rest' plain is turns = unpointed r h env ts plain ∙ (ap (λ o. next o (λ e rest. loop (suffix_one r h env) h (suc h) ts e rest)) is ∙ turns)

pub declarator_nothing : (r : Reads) (h : ℕ) (env : Names) (ts : List Token) → begins (Marked Star) ts ≡ false → direct r env ts ≡ Nothing → declarator r h env ts ≡ Nothing
declarator_nothing r h env ts plain is = unpointed r h env ts plain ∙ ap (λ o. next o (λ e rest. loop (suffix_one r h env) h (suc h) ts e rest)) is

pub declarator_reading : (r : Reads) (h : ℕ) (env : Names) (tokens : List Token) (from : ℕ) (first whole : Read) → begins (Marked Star) (drop from tokens) ≡ false → direct r env (drop from tokens) ≡ Found (raw_view first.tree) (drop first.at tokens)
    → IsLooseReading tokens from (h + 1) whole (suffix_turns r h env (drop from tokens) (raw_view first.tree) (drop first.at tokens)) → IsLooseReading tokens from (h + 1) whole (declarator r h env (drop from tokens))
declarator_reading r h env tokens from first whole plain is l =
    record { found = declarator_found r h env (drop from tokens) (raw_view first.tree) (drop first.at tokens) (raw_view whole.tree) (drop whole.at tokens) plain is l.found; high = l.high; short = l.short; after = l.after; within = l.within }
