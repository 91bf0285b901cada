use Rattle.std.proofs.Common.{◌∙◌, sym, rules}
use Rattle.dc_layout.specs.Types.{type_view}
use Rattle.dc_rules.proofs.Likeness.{alike-bare, is_const-bare, all_alike-lengths}
use Rattle.dc_rules.proofs.equality.+alike.Goals as goal

pub alike-alike_bare-requires : goal.alike-alike_bare-requires
alike-alike_bare-requires t c = (search rules, rw c.bare.ensures (is_const-bare (type_view c.args.u.now)))

pub alike-returns : goal.alike-returns
alike-returns t c = c.alike_bare.ensures ∙ rw c.bare.ensures (alike-bare (type_view c.args.t.now) (type_view c.args.u.now))

pub all_alike-returns-then-types-others : goal.all_alike-returns-then-types-others
all_alike-returns-then-types-others t c = sym (all_alike-lengths c.args.types.now c.args.others.now c.if-types-others.true)
