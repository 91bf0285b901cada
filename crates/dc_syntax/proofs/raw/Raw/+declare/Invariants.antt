use Rattle.std.proofs.Common.{◌≡◌, map, drop}
use Rattle.dc_syntax.specs.View.{raw_view}
use Rattle.dc_syntax.proofs.Declaring.{declared_in}
use Rattle.dc_syntax.proofs.raw.Raw.+declare.Given as goal

abbrev pub invariant-loop-member : goal.invariant-loop-member
invariant-loop-member l = declared_in (map raw_view (drop l.member-index l.member-items)) l.names.names ≡ declared_in (map raw_view l.member-items) l.initial.names.names

abbrev pub invariant-loop-enumerator : goal.invariant-loop-enumerator
invariant-loop-enumerator l = declared_in (map raw_view (drop l.enumerator-index l.enumerator-items)) l.names.names ≡ declared_in (map raw_view l.enumerator-items) l.initial.names.names

abbrev pub invariant-loop-spec : goal.invariant-loop-spec
invariant-loop-spec l = declared_in (map raw_view (drop l.spec-index l.spec-items)) l.names.names ≡ declared_in (map raw_view l.spec-items) l.initial.names.names
