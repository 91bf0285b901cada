use Rattle.std.proofs.Common.{[], refl, ◌∙◌, arith}
use Rattle.dc_memory.specs.Access.{copied}
use Rattle.dc_world.specs.declared.report.End.TheVariants as end
use Rattle.dc_machine.specs.Step.{acting}
use Rattle.dc_machine.specs.View.{now_view}
use Rattle.dc_machine.proofs.Parts.{ends_named}
use Rattle.dc_machine.proofs.Acts.{is-written, not-written, put-refused, put-written, told-write}
use Rattle.dc_machine.proofs.now.Now.copy_at.Goals as goal

pub returns-then-not-copy : goal.returns-then-not-copy
returns-then-not-copy g c =
    ends_named acting _ _ (end.Undefined c.args.name.now) (now_view c.args.self.now []).world c.undefined.result _ c.undefined.ensures refl
    (put-refused c.args.name.now c.args.to c.args.len (copied c.args.to c.args.from c.args.len c.args.self.now.memory) (now_view c.args.self.now []) (omega (arith, c.if-len-eq0.false)) (not-written _ _ _ _ c.copy.ensures c.if-not-copy.true)) refl

pub returns : goal.returns
returns g c = record {
  notes = _;
  goes = λ rest. put-written c.args.name.now c.args.to c.args.len (copied c.args.to c.args.from c.args.len c.args.self.now.memory) c.copy.new.self (now_view c.args.self.now rest) (omega (arith, c.if-len-eq0.false)) (is-written _ _ _ _ c.copy.ensures c.if-not-copy.false);
  heard = c.tell.ensures ∙ told-write _ _ _ _ _ _ _ c.object_number-object.ensures c.offset-from.ensures.value refl;
}
