use Rattle.std.proofs.Common.{◌≡◌, ◌∷◌, ◌++◌, [], sym, ap, ◌∙◌, append_assoc}
use Rattle.std.specs.Vec.Iter.{into_iter_items}
use Rattle.dc_scope.proofs.Differing.{inserted}
use Rattle.dc_scope.proofs.Lookups.{ok-gives}
use Rattle.dc_scope.proofs.member_names.MemberNames.of.Goals as goal

pub loop-name-preserved : goal.loop-name-preserved
loop-name-preserved c =
    let rest = into_iter_items c.next.new.self in
    let whole : c.loop-name.yielded ++ c.in-Some.name ∷ rest ≡ c.args.names.items = ap (λ l. c.loop-name.yielded ++ l) (sym c.in-Some.ensures.steps.0) ∙ c.loop-name.invariant.others in
    record {
      inserted =
          inserted c.loop-name.members.keys c.insert.new.self.keys c.loop-name.yielded rest c.args.names.items _ c.in-Some.name c.loop-name.invariant.inserted c.of.ensures c.requires whole
          (ok-gives _ c.insert.result (sym c.is_err.ensures.value ∙ c.if-is_err.false) c.insert.ensures.keys);
      others = append_assoc c.loop-name.yielded (c.in-Some.name ∷ []) rest ∙ whole;
    }
