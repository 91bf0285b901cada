-- Each level by those below it.
use Rattle.std.proofs.Common.{◌≡◌, ℕ, zero, suc, ◌+◌, ◌-◌, ◌<◌, ◌≤◌, true, false, if◌then◌else◌, List, drop, Option, Some, Result, Ok, refl, sym, ap, ◌∙◌, subst, arith}
use Rattle.std.specs.Prelude.{nat_le, ◌==◌}
use Rattle.std.proofs.lemmas.Bool.Decides.{nat_tests}
use Rattle.std.specs.declared.alloc.AllocError.{AllocError}
use Rattle.dc_syntax.specs.Tokens.{Token}
use Rattle.dc_syntax.specs.Names.{Names}
use Rattle.dc_syntax.specs.Trees.{Tree, height}
use Rattle.dc_syntax.specs.View.{raw_view}
use Rattle.dc_syntax.specs.Reading as spec
use Rattle.dc_syntax.specs.Reading.{Reads, Out, Nothing, Found, next, once}
use Rattle.dc_read_expr.specs.Levels as level
use Rattle.dc_read_expr.specs.declared.read.Read.{Read}
use Rattle.dc_read_expr.specs.View.{Reading, IsReading, Turning}
use Rattle.dc_read_expr.specs.declared.read.Turn.{Turn}
use Rattle.dc_read_expr.specs.declared.read.Turn.TheVariants.{More, Done}
use Rattle.dc_read_expr.proofs.Turns.{One, once_high, once_ends, once_more, told_more, told_done}

pub reading_by : (tokens : List Token) (from limit : ℕ) (r : Result (Option Read) AllocError) (o p : Out Tree) → o ≡ p → Reading tokens from limit r p → Reading tokens from limit r o
reading_by tokens from limit r o p e q = subst (λ x. Reading tokens from limit r x) (sym e) q

abbrev pub goes_on : One → ℕ → List Token → Out Tree → Out Tree
goes_on one h ts o = next o (λ e rest. once one h ts e rest)

-- what a reader's answer says where something was read
pub read_some : (tokens : List Token) (from limit : ℕ) (r : Read) (out : Out Tree) (result : Result (Option Read) AllocError) → Reading tokens from limit result out → result ≡ Ok (Some r) → IsReading tokens from limit r out
read_some tokens from limit r out result q e = subst (λ x. Reading tokens from limit x out) e q

-- the one try of a level that does not repeat: none, one operator more, and no operator
pub goes_high : (tokens : List Token) (from h : ℕ) (one : One) (ts : List Token) (a : Read) (o : Out Tree) → IsReading tokens from (h + 1) a o → h < a.height → IsReading tokens from (h + 1) a (goes_on one h ts o)
goes_high tokens from h one ts a o q lt =
    let high = q.high in
    record {
      found = ap (goes_on one h ts) q.found ∙ once_high one h ts (raw_view a.tree) (drop a.at tokens) (omega (arith, high, lt));
      high = q.high;
      short = q.short;
      after = q.after;
      within = q.within;
    }

pub goes_more : (tokens : List Token) (from h : ℕ) (one : One) (ts : List Token) (a b : Read) (t : Turn) (o : Out Tree) → IsReading tokens from (h + 1) a o → a.height ≤ h → t ≡ More b
    → Turning tokens from (h + 1) a (Ok t) (one ts (raw_view a.tree) (drop a.at tokens)) → IsReading tokens from (h + 1) b (goes_on one h ts o)
goes_more tokens from h one ts a b t o q le is turning =
    let high = q.high in
    let m = told_more tokens from (h + 1) a t (one ts (raw_view a.tree) (drop a.at tokens)) b is turning in
    record {
      found = ap (goes_on one h ts) q.found ∙ once_more one h ts (raw_view a.tree) (drop a.at tokens) (raw_view b.tree) (drop b.at tokens) (omega (arith, high, le)) m.found;
      high = m.high;
      short = m.short;
      after = m.after;
      within = m.within;
    }

pub goes_done : (tokens : List Token) (from h : ℕ) (one : One) (ts : List Token) (a b : Read) (t : Turn) (o : Out Tree) → IsReading tokens from (h + 1) a o → t ≡ Done b
    → Turning tokens from (h + 1) a (Ok t) (one ts (raw_view a.tree) (drop a.at tokens)) → IsReading tokens from (h + 1) b (goes_on one h ts o)
goes_done tokens from h one ts a b t o q is turning =
    let d = told_done tokens from (h + 1) a t (one ts (raw_view a.tree) (drop a.at tokens)) b is turning in
    subst (λ x. IsReading tokens from (h + 1) x (goes_on one h ts o)) (sym d.same)
    (record {
      found = ap (goes_on one h ts) q.found ∙ once_ends one h ts (raw_view a.tree) (drop a.at tokens) d.none;
      high = q.high;
      short = q.short;
      after = q.after;
      within = q.within;
    })

pub postfix_found : (r : Reads) (h : ℕ) (env : Names) (ts : List Token) (e : Tree) (rest : List Token) (e' : Tree) (rest' : List Token) → spec.primary r h env ts ≡ Found e rest
    → level.postfix_turns r h env ts e rest ≡ Found e' rest' → spec.postfix r h env ts ≡ Found e' rest'
unfolding level.postfix_turns
postfix_found r h env ts e rest e' rest' is turns = ap (λ o. next o (λ e rest. spec.loop (spec.postfix_one r env) h (suc h) ts e rest)) is ∙ turns

pub binary_nothing : (r : Reads) (h : ℕ) (env : Names) (n : ℕ) (ts : List Token) → spec.cast r h env ts ≡ Nothing → level.binary r h env n ts ≡ Nothing
unfolding level.binary
binary_nothing r h env zero ts is = is
binary_nothing r h env (suc n) ts is = ap (λ o. next o (λ e rest. spec.loop (spec.binary_one r env n) h (suc h) ts e rest)) (binary_nothing r h env n ts is)

pub binary_starts : (tokens : List Token) (from limit : ℕ) (a : Read) (r : Reads) (h : ℕ) (env : Names) (ts : List Token) → IsReading tokens from limit a (spec.cast r h env ts)
    → IsReading tokens from limit a (level.binary r h env 0 ts)
unfolding level.binary
binary_starts tokens from limit a r h env ts q = q

binary_step : (r : Reads) (h : ℕ) (env : Names) (n : ℕ) (ts : List Token) → level.binary r h env (suc n) ts ≡ next (level.binary r h env n ts) (λ e rest. level.binary_turns r h env n ts e rest)
unfolding level.binary level.binary_turns
binary_step r h env n ts = refl

-- one more level
pub binary_goes : (tokens : List Token) (from limit : ℕ) (a b : Read) (r : Reads) (h : ℕ) (env : Names) (n m : ℕ) (ts : List Token) → m ≡ n + 1 → IsReading tokens from limit a (level.binary r h env n ts)
    → IsReading tokens from limit b (level.binary_turns r h env n ts (raw_view a.tree) (drop a.at tokens)) → IsReading tokens from limit b (level.binary r h env m ts)
binary_goes tokens from limit a b r h env n m ts e p q =
    let e : m ≡ suc n = omega arith in
    record {
      found = ap (λ k. level.binary r h env k ts) e ∙ (binary_step r h env n ts ∙ (ap (λ o. next o (λ e rest. level.binary_turns r h env n ts e rest)) p.found ∙ q.found));
      high = q.high;
      short = q.short;
      after = q.after;
      within = q.within;
    }

pub implied_step : (r : Reads) (h : ℕ) (env : Names) (ts : List Token) → level.implied r h env ts ≡ goes_on (level.implies_one r env) h ts (level.binary r h env 10 ts)
unfolding level.implied level.implies_one level.binary
implied_step r h env ts = refl

pub implied_none : (r : Reads) (h : ℕ) (env : Names) (ts : List Token) → level.binary r h env 10 ts ≡ Nothing → level.implied r h env ts ≡ Nothing
implied_none r h env ts is = implied_step r h env ts ∙ ap (goes_on (level.implies_one r env) h ts) is

pub implied_high : (r : Reads) (h : ℕ) (env : Names) (ts : List Token) (e : Tree) (rest : List Token) → level.binary r h env 10 ts ≡ Found e rest → h < height e → level.implied r h env ts ≡ Found e rest
implied_high r h env ts e rest is lt = implied_step r h env ts ∙ (ap (goes_on (level.implies_one r env) h ts) is ∙ once_high (level.implies_one r env) h ts e rest lt)

pub implied_ends : (r : Reads) (h : ℕ) (env : Names) (ts : List Token) (e : Tree) (rest : List Token) → level.binary r h env 10 ts ≡ Found e rest → level.implies_one r env ts e rest ≡ Nothing → level.implied r h env ts ≡ Found e rest
implied_ends r h env ts e rest is none = implied_step r h env ts ∙ (ap (goes_on (level.implies_one r env) h ts) is ∙ once_ends (level.implies_one r env) h ts e rest none)

pub implied_more : (r : Reads) (h : ℕ) (env : Names) (ts : List Token) (e : Tree) (rest : List Token) (e' : Tree) (rest' : List Token) → level.binary r h env 10 ts ≡ Found e rest → height e ≤ h → level.implies_one r env ts e rest ≡ Found e' rest'
    → level.implied r h env ts ≡ Found e' rest'
implied_more r h env ts e rest e' rest' is le more = implied_step r h env ts ∙ (ap (goes_on (level.implies_one r env) h ts) is ∙ once_more (level.implies_one r env) h ts e rest e' rest' le more)

pub conditional_step : (r : Reads) (h : ℕ) (env : Names) (ts : List Token) → level.conditional r h env ts ≡ goes_on (level.conditional_one r env) h ts (level.implied r h env ts)
unfolding level.conditional level.conditional_one level.implied
conditional_step r h env ts = refl

pub conditional_none : (r : Reads) (h : ℕ) (env : Names) (ts : List Token) → level.implied r h env ts ≡ Nothing → level.conditional r h env ts ≡ Nothing
conditional_none r h env ts is = conditional_step r h env ts ∙ ap (goes_on (level.conditional_one r env) h ts) is

pub conditional_high : (r : Reads) (h : ℕ) (env : Names) (ts : List Token) (e : Tree) (rest : List Token) → level.implied r h env ts ≡ Found e rest → h < height e → level.conditional r h env ts ≡ Found e rest
conditional_high r h env ts e rest is lt = conditional_step r h env ts ∙ (ap (goes_on (level.conditional_one r env) h ts) is ∙ once_high (level.conditional_one r env) h ts e rest lt)

pub conditional_ends : (r : Reads) (h : ℕ) (env : Names) (ts : List Token) (e : Tree) (rest : List Token) → level.implied r h env ts ≡ Found e rest → level.conditional_one r env ts e rest ≡ Nothing → level.conditional r h env ts ≡ Found e rest
conditional_ends r h env ts e rest is none = conditional_step r h env ts ∙ (ap (goes_on (level.conditional_one r env) h ts) is ∙ once_ends (level.conditional_one r env) h ts e rest none)

pub conditional_more : (r : Reads) (h : ℕ) (env : Names) (ts : List Token) (e : Tree) (rest : List Token) (e' : Tree) (rest' : List Token) → level.implied r h env ts ≡ Found e rest → height e ≤ h → level.conditional_one r env ts e rest ≡ Found e' rest'
    → level.conditional r h env ts ≡ Found e' rest'
conditional_more r h env ts e rest e' rest' is le more = conditional_step r h env ts ∙ (ap (goes_on (level.conditional_one r env) h ts) is ∙ once_more (level.conditional_one r env) h ts e rest e' rest' le more)

pub assign_step : (r : Reads) (h : ℕ) (env : Names) (ts : List Token) → level.assign r h env ts ≡ goes_on (level.assign_one r env) h ts (level.conditional r h env ts)
unfolding level.assign level.assign_one level.conditional
assign_step r h env ts = refl

pub assign_none : (r : Reads) (h : ℕ) (env : Names) (ts : List Token) → level.conditional r h env ts ≡ Nothing → level.assign r h env ts ≡ Nothing
assign_none r h env ts is = assign_step r h env ts ∙ ap (goes_on (level.assign_one r env) h ts) is

pub assign_high : (r : Reads) (h : ℕ) (env : Names) (ts : List Token) (e : Tree) (rest : List Token) → level.conditional r h env ts ≡ Found e rest → h < height e → level.assign r h env ts ≡ Found e rest
assign_high r h env ts e rest is lt = assign_step r h env ts ∙ (ap (goes_on (level.assign_one r env) h ts) is ∙ once_high (level.assign_one r env) h ts e rest lt)

pub assign_ends : (r : Reads) (h : ℕ) (env : Names) (ts : List Token) (e : Tree) (rest : List Token) → level.conditional r h env ts ≡ Found e rest → level.assign_one r env ts e rest ≡ Nothing → level.assign r h env ts ≡ Found e rest
assign_ends r h env ts e rest is none = assign_step r h env ts ∙ (ap (goes_on (level.assign_one r env) h ts) is ∙ once_ends (level.assign_one r env) h ts e rest none)

pub assign_more : (r : Reads) (h : ℕ) (env : Names) (ts : List Token) (e : Tree) (rest : List Token) (e' : Tree) (rest' : List Token) → level.conditional r h env ts ≡ Found e rest → height e ≤ h → level.assign_one r env ts e rest ≡ Found e' rest'
    → level.assign r h env ts ≡ Found e' rest'
assign_more r h env ts e rest e' rest' is le more = assign_step r h env ts ∙ (ap (goes_on (level.assign_one r env) h ts) is ∙ once_more (level.assign_one r env) h ts e rest e' rest' le more)

pub upto_primary : (r : Reads) (h : ℕ) (env : Names) (k : ℕ) (ts : List Token) → k ≡ 0 → level.upto r h env k ts ≡ spec.primary r h env ts
unfolding level.upto
upto_primary r h env k ts e = ap (λ n. spec.upto r h env n ts) e

pub upto_postfix : (r : Reads) (h : ℕ) (env : Names) (k : ℕ) (ts : List Token) → k ≡ 1 → level.upto r h env k ts ≡ spec.postfix r h env ts
unfolding level.upto
upto_postfix r h env k ts e = ap (λ n. spec.upto r h env n ts) e

pub upto_unary : (r : Reads) (h : ℕ) (env : Names) (k : ℕ) (ts : List Token) → k ≡ 2 → level.upto r h env k ts ≡ spec.unary r h env ts
unfolding level.upto
upto_unary r h env k ts e = ap (λ n. spec.upto r h env n ts) e

abbrev above_rest : Reads → ℕ → Names → ℕ → List Token → Out Tree
above_rest r h env n ts = if n == 11 then spec.implied r h env ts else (if n == 12 then spec.conditional r h env ts else spec.assign r h env ts)

le_test : (m n : ℕ) → m ≤ n → nat_le m n ≡ true
le_test m n e = grind (arith, nat_tests)

gt_test : (m n : ℕ) → n < m → nat_le m n ≡ false
gt_test m n e = grind (arith, nat_tests)

ne_test : (m n : ℕ) → n < m → (m == n) ≡ false
ne_test m n e = grind (arith, nat_tests)

pub upto_binary : (r : Reads) (h : ℕ) (env : Names) (k : ℕ) (ts : List Token) → 3 ≤ k → k ≤ 13 → level.upto r h env k ts ≡ level.binary r h env (k - 3) ts
unfolding level.upto level.binary
upto_binary r h env zero ts le ge = absurd (omega (arith, le))
upto_binary r h env (suc zero) ts le ge = absurd (omega (arith, le))
upto_binary r h env (suc (suc zero)) ts le ge = absurd (omega (arith, le))
upto_binary r h env (suc (suc (suc n))) ts le ge =
    let e : n ≡ suc (suc (suc n)) - 3 = omega arith in
    ap (λ b. if b then spec.binary r h env n ts else above_rest r h env n ts) (le_test n 10 (omega (arith, ge))) ∙ ap (λ m. spec.binary r h env m ts) e

pub upto_implied : (r : Reads) (h : ℕ) (env : Names) (k : ℕ) (ts : List Token) → k ≡ 14 → level.upto r h env k ts ≡ level.implied r h env ts
unfolding level.upto level.implied
upto_implied r h env k ts e = ap (λ n. spec.upto r h env n ts) e

pub upto_conditional : (r : Reads) (h : ℕ) (env : Names) (k : ℕ) (ts : List Token) → k ≡ 15 → level.upto r h env k ts ≡ level.conditional r h env ts
unfolding level.upto level.conditional
upto_conditional r h env k ts e = ap (λ n. spec.upto r h env n ts) e

pub upto_assign : (r : Reads) (h : ℕ) (env : Names) (k : ℕ) (ts : List Token) → 15 < k → level.upto r h env k ts ≡ level.assign r h env ts
unfolding level.upto level.assign
upto_assign r h env zero ts lt = absurd (omega (arith, lt))
upto_assign r h env (suc zero) ts lt = absurd (omega (arith, lt))
upto_assign r h env (suc (suc zero)) ts lt = absurd (omega (arith, lt))
upto_assign r h env (suc (suc (suc n))) ts lt =
    ap (λ b. if b then spec.binary r h env n ts else above_rest r h env n ts) (gt_test n 10 (omega (arith, lt)))
    ∙ (ap (λ b. if b then spec.implied r h env ts else (if n == 12 then spec.conditional r h env ts else spec.assign r h env ts)) (ne_test n 11 (omega (arith, lt)))
    ∙ ap (λ b. if b then spec.conditional r h env ts else spec.assign r h env ts) (ne_test n 12 (omega (arith, lt))))
