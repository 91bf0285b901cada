-- A loop that reads operators behind an operand, with turns enough: one turn of the code, and its ends.
use Rattle.std.proofs.Common.{◌≡◌, ℕ, zero, suc, ◌+◌, ◌<◌, ◌≤◌, Bool, true, false, if◌then◌else◌, List, drop, refl, sym, ap, ◌∙◌, subst, arith}
use Rattle.std.specs.Prelude.{nat_le, Ok}
use Rattle.std.proofs.lemmas.Bool.Decides.{nat_tests}
use Rattle.dc_syntax.specs.Tokens.{Token}
use Rattle.dc_syntax.specs.Trees.{Tree, height}
use Rattle.dc_syntax.specs.Reading.{Reads, Out, Nothing, Found, kept, loop, once, postfix_one, binary_one}
use Rattle.dc_syntax.specs.Names.{Names}
use Rattle.dc_syntax.specs.View.{raw_view}
use Rattle.dc_read_expr.specs.declared.read.Read.{Read}
use Rattle.dc_read_expr.specs.declared.read.Turn.{Turn}
use Rattle.dc_read_expr.specs.declared.read.Turn.TheVariants.{More, Done}
use Rattle.dc_read_expr.specs.View.{IsReading, IsTurn, IsDone, Turning}
use Rattle.dc_read_expr.specs.Levels.{postfix_turns, binary_turns}

abbrev pub One : Type 0
One = List Token → Tree → List Token → Out Tree

-- the loop goes on from here with this many turns at most, which are enough
pub record Spun (one : One) (h : ℕ) (all : List Token) (start : Out Tree) (e : Tree) (rest : List Token) : Type 0 where
  pub turns : ℕ
  pub same : loop one h turns all e rest ≡ start
  pub enough : suc h ≤ turns + height e

le-false : (m n : ℕ) → n < m → nat_le m n ≡ false
le-false m n e = grind (arith, nat_tests)

le-true : (m n : ℕ) → m ≤ n → nat_le m n ≡ true
le-true m n e = grind (arith, nat_tests)

pub spun_postfix : (r : Reads) (h : ℕ) (env : Names) (all : List Token) (e : Tree) (rest : List Token) → Spun (postfix_one r env) h all (postfix_turns r h env all e rest) e rest
unfolding postfix_turns
spun_postfix r h env all e rest = record { turns = suc h; same = refl; enough = omega arith }

pub spun_binary : (r : Reads) (h : ℕ) (env : Names) (n : ℕ) (all : List Token) (e : Tree) (rest : List Token) → Spun (binary_one r env n) h all (binary_turns r h env n all e rest) e rest
unfolding binary_turns
spun_binary r h env n all e rest = record { turns = suc h; same = refl; enough = omega arith }

pub spun_more : (one : One) (h : ℕ) (all : List Token) (start : Out Tree) (e : Tree) (rest : List Token) (e' : Tree) (rest' : List Token) → Spun one h all start e rest → height e ≤ h
    → one all e rest ≡ Found e' rest' → height e < height e' → Spun one h all start e' rest'
spun_more one h all start e rest e' rest' s le is grows = go s.turns s.same s.enough
  where
    go : (n : ℕ) → loop one h n all e rest ≡ start → suc h ≤ n + height e → Spun one h all start e' rest'
    go zero same enough = absurd (omega (arith, enough, le))
    go (suc n) same enough =
        let turn : loop one h (suc n) all e rest ≡ loop one h n all e' rest' =
        ap (λ b. kept (if b then one all e rest else Nothing) (Found e rest) (λ e rest. loop one h n all e rest)) (le-true (height e) h le)
        ∙ ap (λ o. kept o (Found e rest) (λ e rest. loop one h n all e rest)) is in
        record { turns = n; same = sym turn ∙ same; enough = omega (arith, enough, grows) }

pub spun_high : (one : One) (h : ℕ) (all : List Token) (start : Out Tree) (e : Tree) (rest : List Token) → Spun one h all start e rest → h < height e → start ≡ Found e rest
spun_high one h all start e rest s lt = go s.turns s.same
  where
    go : (n : ℕ) → loop one h n all e rest ≡ start → start ≡ Found e rest
    go zero same = sym same
    go (suc n) same = sym same ∙ ap (λ b. kept (if b then one all e rest else Nothing) (Found e rest) (λ e rest. loop one h n all e rest)) (le-false (height e) h lt)

pub spun_ends : (one : One) (h : ℕ) (all : List Token) (start : Out Tree) (e : Tree) (rest : List Token) → Spun one h all start e rest → one all e rest ≡ Nothing → start ≡ Found e rest
spun_ends one h all start e rest s none = go s.turns s.same
  where
    tried : (b : Bool) → (if b then one all e rest else Nothing) ≡ Nothing
    tried true = none
    tried false = refl

    go : (n : ℕ) → loop one h n all e rest ≡ start → start ≡ Found e rest
    go zero same = sym same
    go (suc n) same = sym same ∙ ap (λ o. kept o (Found e rest) (λ e rest. loop one h n all e rest)) (tried (nat_le (height e) h))

-- the one try of a level that does not repeat
pub once_high : (one : One) (h : ℕ) (all : List Token) (e : Tree) (rest : List Token) → h < height e → once one h all e rest ≡ Found e rest
once_high one h all e rest lt = ap (λ b. kept (if b then one all e rest else Nothing) (Found e rest) (λ e rest. Found e rest)) (le-false (height e) h lt)

pub once_ends : (one : One) (h : ℕ) (all : List Token) (e : Tree) (rest : List Token) → one all e rest ≡ Nothing → once one h all e rest ≡ Found e rest
once_ends one h all e rest none = ap (λ o. kept o (Found e rest) (λ e rest. Found e rest)) (tried (nat_le (height e) h))
  where
    tried : (b : Bool) → (if b then one all e rest else Nothing) ≡ Nothing
    tried true = none
    tried false = refl

pub once_more : (one : One) (h : ℕ) (all : List Token) (e : Tree) (rest : List Token) (e' : Tree) (rest' : List Token) → height e ≤ h → one all e rest ≡ Found e' rest' → once one h all e rest ≡ Found e' rest'
once_more one h all e rest e' rest' le is =
    ap (λ b. kept (if b then one all e rest else Nothing) (Found e rest) (λ e rest. Found e rest)) (le-true (height e) h le)
    ∙ ap (λ o. kept o (Found e rest) (λ e rest. Found e rest)) is

-- one turn of the code, and its end
pub turn_more : (one : One) (h : ℕ) (all tokens : List Token) (start : Out Tree) (from limit : ℕ) (before r : Read) → Spun one h all start (raw_view before.tree) (drop before.at tokens) → before.height ≡ height (raw_view before.tree) → before.height ≤ h
    → IsTurn tokens from limit before r (one all (raw_view before.tree) (drop before.at tokens)) → Spun one h all start (raw_view r.tree) (drop r.at tokens)
turn_more one h all tokens start from limit before r s high low t =
    let grown = t.grows in
    let higher = t.high in
    spun_more one h all start (raw_view before.tree) (drop before.at tokens) (raw_view r.tree) (drop r.at tokens) s (omega arith) t.found (omega arith)

pub turn_ends : (one : One) (h : ℕ) (all tokens : List Token) (start : Out Tree) (from limit : ℕ) (before r : Read) → Spun one h all start (raw_view before.tree) (drop before.at tokens)
    → IsReading tokens from limit before (Found (raw_view before.tree) (drop before.at tokens)) → IsDone before r (one all (raw_view before.tree) (drop before.at tokens)) → IsReading tokens from limit r start
turn_ends one h all tokens start from limit before r s q d =
    subst (λ x. IsReading tokens from limit x start) (sym d.same)
    (record { found = spun_ends one h all start (raw_view before.tree) (drop before.at tokens) s d.none; high = q.high; short = q.short; after = q.after; within = q.within })

pub turns_high : (one : One) (h : ℕ) (all tokens : List Token) (start : Out Tree) (from limit : ℕ) (before : Read) → Spun one h all start (raw_view before.tree) (drop before.at tokens)
    → IsReading tokens from limit before (Found (raw_view before.tree) (drop before.at tokens)) → h < before.height → IsReading tokens from limit before start
turns_high one h all tokens start from limit before s q lt =
    let high = q.high in
    record { found = spun_high one h all start (raw_view before.tree) (drop before.at tokens) s (omega (arith, high, lt)); high = q.high; short = q.short; after = q.after; within = q.within }

-- what a turn's answer says in each of its cases
pub told_more : (tokens : List Token) (from limit : ℕ) (before : Read) (t : Turn) (out : Out Tree) (r : Read) → t ≡ More r → Turning tokens from limit before (Ok t) out → IsTurn tokens from limit before r out
told_more tokens from limit before t out r is q = subst (λ x. Turning tokens from limit before (Ok x) out) is q

pub told_done : (tokens : List Token) (from limit : ℕ) (before : Read) (t : Turn) (out : Out Tree) (r : Read) → t ≡ Done r → Turning tokens from limit before (Ok t) out → IsDone before r out
told_done tokens from limit before t out r is q = subst (λ x. Turning tokens from limit before (Ok x) out) is q
