use Rattle.std.proofs.Common.{rules, ◌≡◌, [], refl, ◌∙◌, to_z, of_z}
use mir.Syntax.{w128}
use Rattle.dc_memory.specs.Access.{store}
use Rattle.dc_memory.specs.Kinds.{size_of}
use Rattle.dc_program.specs.Kinds.{mem_kind}
use Rattle.dc_world.specs.declared.report.End.TheVariants as end
use Rattle.dc_machine.specs.Step.{acting}
use Rattle.dc_machine.specs.View.{now_view}
use Rattle.dc_machine.proofs.Parts.{ends_named}
use Rattle.dc_machine.proofs.Acts.{is-written, not-written, put-refused, put-written, told-write, some-bytes}
use Rattle.dc_machine.proofs.now.Now.store_at.Goals as goal

pub returns-then-not-store : goal.returns-then-not-store
returns-then-not-store g c =
    let value : to_z w128 (of_z w128 c.args.value) ≡ c.args.value = search rules in
    ends_named acting _ _ (end.Undefined c.args.name.now) (now_view c.args.self.now []).world c.undefined.result _ c.undefined.ensures refl
    (put-refused c.args.name.now c.args.pointer (size_of (mem_kind c.args.kind)) (store (mem_kind c.args.kind) c.args.pointer c.args.value c.args.self.now.memory) (now_view c.args.self.now []) (some-bytes (mem_kind c.args.kind)) (not-written _ _ _ _ (rw (c.mem_kind.ensures, value) at c.store.ensures) c.if-not-store.true)) refl

pub returns : goal.returns
returns g c =
    let value : to_z w128 (of_z w128 c.args.value) ≡ c.args.value = search rules in
    record {
      notes = _;
      goes = λ rest. put-written c.args.name.now c.args.pointer (size_of (mem_kind c.args.kind)) (store (mem_kind c.args.kind) c.args.pointer c.args.value c.args.self.now.memory) c.store.new.self (now_view c.args.self.now rest) (some-bytes (mem_kind c.args.kind)) (is-written _ _ _ _ (rw (c.mem_kind.ensures, value) at c.store.ensures) c.if-not-store.false);
      heard = c.tell.ensures ∙ told-write _ _ _ _ _ _ _ c.object_number-object.ensures c.offset-from.ensures.value c.size-len.ensures.value;
    }
