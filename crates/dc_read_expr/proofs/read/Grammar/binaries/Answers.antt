use Rattle.std.proofs.Common.{◌+◌, drop, refl}
use Rattle.dc_syntax.specs.Reading.{Found, reads, binary_one}
use Rattle.dc_syntax.specs.View.{raw_view}
use Rattle.dc_read_expr.specs.Levels.{binary_turns}
use Rattle.dc_read_expr.specs.View.{IsReading}
use Rattle.dc_read_expr.proofs.Turns.{spun_binary, turn_more, turn_ends, turns_high, told_more, told_done}
use Rattle.dc_read_expr.proofs.read.Grammar.binaries.Goals as goal

pub loop-read-init : goal.loop-read-init
loop-read-init g c = record { spun = spun_binary _ _ _ _ _ _ _; high = c.requires.high; short = c.requires.low; after = c.requires.within.0; within = c.requires.within.1 }

pub loop-read-preserved : goal.loop-read-preserved
loop-read-preserved g c =
    let s = c.args.self.now in
    let ts = drop c.args.at s.tokens.now in
    let one = binary_one (reads s.budget) s.names.now.names c.args.level in
    let start = binary_turns (reads s.budget) s.budget s.names.now.names c.args.level ts (raw_view c.args.first.tree) (drop c.args.first.at s.tokens.now) in
    let b = c.loop-read.read in
    let i = c.loop-read.invariant in
    let t = told_more s.tokens.now c.args.at (s.budget + 1) b c.in_ok-more.field-0 (one ts (raw_view b.tree) (drop b.at s.tokens.now)) c.in-More.more c.in-More.is c.in_ok-more.ensures in
    record { spun = turn_more one s.budget ts s.tokens.now start c.args.at (s.budget + 1) b c.in-More.more i.spun i.high c.loop-read-test.true t; high = t.high; short = t.short; after = t.after; within = t.within }

pub returns-in-Done : goal.returns-in-Done
returns-in-Done g c =
    let s = c.args.self.now in
    let ts = drop c.args.at s.tokens.now in
    let one = binary_one (reads s.budget) s.names.now.names c.args.level in
    let start = binary_turns (reads s.budget) s.budget s.names.now.names c.args.level ts (raw_view c.args.first.tree) (drop c.args.first.at s.tokens.now) in
    let b = c.loop-read.read in
    let i = c.loop-read.invariant in
    let was : IsReading s.tokens.now c.args.at (s.budget + 1) b (Found (raw_view b.tree) (drop b.at s.tokens.now)) = record { found = refl; high = i.high; short = i.short; after = i.after; within = i.within } in
    let d = told_done s.tokens.now c.args.at (s.budget + 1) b c.in_ok-more.field-0 (one ts (raw_view b.tree) (drop b.at s.tokens.now)) c.in-Done.done c.in-Done.is c.in_ok-more.ensures in
    turn_ends one s.budget ts s.tokens.now start c.args.at (s.budget + 1) b c.in-Done.done i.spun was d

pub returns : goal.returns
returns g c =
    let s = c.args.self.now in
    let ts = drop c.args.at s.tokens.now in
    let one = binary_one (reads s.budget) s.names.now.names c.args.level in
    let start = binary_turns (reads s.budget) s.budget s.names.now.names c.args.level ts (raw_view c.args.first.tree) (drop c.args.first.at s.tokens.now) in
    let b = c.loop-read.read in
    let i = c.loop-read.invariant in
    let was : IsReading s.tokens.now c.args.at (s.budget + 1) b (Found (raw_view b.tree) (drop b.at s.tokens.now)) = record { found = refl; high = i.high; short = i.short; after = i.after; within = i.within } in
    turns_high one s.budget ts s.tokens.now start c.args.at (s.budget + 1) b i.spun was c.loop-read-test.false
