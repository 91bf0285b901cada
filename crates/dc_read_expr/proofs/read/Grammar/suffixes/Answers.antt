use Rattle.std.proofs.Common.{Ok, ap, drop}
use Rattle.dc_syntax.specs.Reading.{reads, suffix_one}
use Rattle.dc_syntax.specs.View.{raw_view}
use Rattle.dc_read_expr.specs.Suffixes.{suffix_turns}
use Rattle.dc_read_expr.proofs.Suffixes.{suffixing_starts, suffixing_turn, suffixing_high, suffixing_done}
use Rattle.dc_read_expr.proofs.read.Grammar.suffixes.Goals as goal

pub loop-read-init : goal.loop-read-init
loop-read-init g c =
    let s = c.args.self.now in
    suffixing_starts (reads s.budget) s.budget s.names.now.names s.tokens.now c.args.at c.args.first c.requires.high c.requires.low c.requires.within.0 c.requires.within.1

pub loop-read-preserved : goal.loop-read-preserved
loop-read-preserved g c =
    let s = c.args.self.now in
    let start = suffix_turns (reads s.budget) s.budget s.names.now.names (drop c.args.at s.tokens.now) (raw_view c.args.first.tree) (drop c.args.first.at s.tokens.now) in
    suffixing_turn (suffix_one (reads s.budget) s.budget s.names.now.names) s.budget s.tokens.now c.args.at start c.loop-read.read c.in-More.more (Ok c.in_ok-more.field-0) c.loop-read.invariant c.loop-read-test.true c.in_ok-more.ensures (ap Ok c.in-More.is)

pub returns-in-Done : goal.returns-in-Done
returns-in-Done g c =
    let s = c.args.self.now in
    let start = suffix_turns (reads s.budget) s.budget s.names.now.names (drop c.args.at s.tokens.now) (raw_view c.args.first.tree) (drop c.args.first.at s.tokens.now) in
    suffixing_done (suffix_one (reads s.budget) s.budget s.names.now.names) s.budget s.tokens.now c.args.at start c.loop-read.read c.in-Done.done (Ok c.in_ok-more.field-0) c.loop-read.invariant c.in_ok-more.ensures (ap Ok c.in-Done.is)

pub returns : goal.returns
returns g c =
    let s = c.args.self.now in
    let start = suffix_turns (reads s.budget) s.budget s.names.now.names (drop c.args.at s.tokens.now) (raw_view c.args.first.tree) (drop c.args.first.at s.tokens.now) in
    suffixing_high (suffix_one (reads s.budget) s.budget s.names.now.names) s.budget s.tokens.now c.args.at start c.loop-read.read c.loop-read.invariant c.loop-read-test.false
