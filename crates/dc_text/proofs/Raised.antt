-- Events one after another.
use Rattle.std.proofs.Common.{◌≡◌, ℕ, ◌+◌, List, [], ◌∷◌, ◌++◌, refl, ap, sym, ◌∙◌, arith}
use Rattle.dc_text.specs.Counted.{counted, all_counted, no_counts, raised, raised_by}
use Rattle.dc_text.specs.declared.event.Event.{Event}
use Rattle.dc_text.specs.declared.event.Event.TheVariants.{Draw, Create, Kill, Write, Free, Check, Call, Return}
use Rattle.dc_text.specs.declared.event.Counts.{Counts}

pub all_counted-append : (first second : List Event) (counts : Counts) → all_counted (first ++ second) counts ≡ all_counted second (all_counted first counts)
all_counted-append [] second counts = refl
all_counted-append (event ∷ first) second counts = all_counted-append first second (counted event counts)

pub raised-sum : (count first second : ℕ) → raised (raised count first) second ≡ raised count (first + second)
raised-sum count first second = omega arith

-- a sum after a step is a sum of steps
raised-raised : (c a b : ℕ) → raised (raised c a) b ≡ raised c (raised a b)
raised-raised c a b = omega arith

pub raised-none : (c : ℕ) → raised c 0 ≡ c
raised-none c = omega arith

none-raised : (c b : ℕ) → raised c b ≡ raised c (raised 0 b)
none-raised c b = omega arith

same_counts : (c d : Counts) → c.draws ≡ d.draws → c.creates ≡ d.creates → c.kills ≡ d.kills → c.writes ≡ d.writes
    → c.frees ≡ d.frees → c.checks ≡ d.checks → c.calls ≡ d.calls → c.returns ≡ d.returns → c ≡ d
same_counts c d e1 e2 e3 e4 e5 e6 e7 e8 =
    let make : ℕ → ℕ → ℕ → ℕ → ℕ → ℕ → ℕ → ℕ → Counts =
    λ a b k w f h l r. record { draws = a; creates = b; kills = k; writes = w; frees = f; checks = h; calls = l; returns = r } in
    rw (e1, e2, e3, e4, e5, e6, e7, e8) refl

pub raised_by-counted : (c by : Counts) (e : Event) → raised_by (counted e c) by ≡ raised_by c (raised_by (counted e no_counts) by)
raised_by-counted c by (Draw x) = same_counts _ _ (raised-raised _ _ _) (none-raised _ _) (none-raised _ _) (none-raised _ _) (none-raised _ _) (none-raised _ _) (none-raised _ _) (none-raised _ _)
raised_by-counted c by (Create x) = same_counts _ _ (none-raised _ _) (raised-raised _ _ _) (none-raised _ _) (none-raised _ _) (none-raised _ _) (none-raised _ _) (none-raised _ _) (none-raised _ _)
raised_by-counted c by (Kill x) = same_counts _ _ (none-raised _ _) (none-raised _ _) (raised-raised _ _ _) (none-raised _ _) (none-raised _ _) (none-raised _ _) (none-raised _ _) (none-raised _ _)
raised_by-counted c by (Write x y z) = same_counts _ _ (none-raised _ _) (none-raised _ _) (none-raised _ _) (raised-raised _ _ _) (none-raised _ _) (none-raised _ _) (none-raised _ _) (none-raised _ _)
raised_by-counted c by (Free x) = same_counts _ _ (none-raised _ _) (none-raised _ _) (none-raised _ _) (none-raised _ _) (raised-raised _ _ _) (none-raised _ _) (none-raised _ _) (none-raised _ _)
raised_by-counted c by (Check x) = same_counts _ _ (none-raised _ _) (none-raised _ _) (none-raised _ _) (none-raised _ _) (none-raised _ _) (raised-raised _ _ _) (none-raised _ _) (none-raised _ _)
raised_by-counted c by (Call x) = same_counts _ _ (none-raised _ _) (none-raised _ _) (none-raised _ _) (none-raised _ _) (none-raised _ _) (none-raised _ _) (raised-raised _ _ _) (none-raised _ _)
raised_by-counted c by Return = same_counts _ _ (none-raised _ _) (none-raised _ _) (none-raised _ _) (none-raised _ _) (none-raised _ _) (none-raised _ _) (none-raised _ _) (raised-raised _ _ _)

pub raised_by-none : (c : Counts) → raised_by c no_counts ≡ c
raised_by-none c = same_counts _ _ (raised-none _) (raised-none _) (raised-none _) (raised-none _) (raised-none _) (raised-none _) (raised-none _) (raised-none _)

-- the counts after a list of events are theirs on top
pub all_counted-raised : (es : List Event) (c : Counts) → all_counted es c ≡ raised_by c (all_counted es no_counts)
all_counted-raised [] c = sym (raised_by-none c)
all_counted-raised (e ∷ es) c =
    all_counted-raised es (counted e c)
    ∙ raised_by-counted c (all_counted es no_counts) e
    ∙ ap (raised_by c) (sym (all_counted-raised es (counted e no_counts)))
