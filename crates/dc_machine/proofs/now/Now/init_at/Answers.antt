use Rattle.std.proofs.Common.{rules, ◌≡◌, [], refl, to_z, of_z}
use mir.Syntax.{w128}
use Rattle.dc_goto.specs.Acts.{Next, with_memory}
use Rattle.dc_machine.specs.View.{now_view}
use Rattle.dc_machine.proofs.Acts.{ends_undefined, not-written}
use Rattle.dc_machine.proofs.now.Now.init_at.Goals as goal

pub returns-else-store : goal.returns-else-store
returns-else-store c = λ h.
    let value : to_z w128 (of_z w128 c.args.value) ≡ c.args.value = search rules in
    ends_undefined c.args.name.now _ _ (now_view c.args.self.now) (λ memory. Next [] (with_memory memory (now_view c.args.self.now []))) _ c.undefined.result h refl (not-written _ _ _ _ (rw (c.mem_kind.ensures, value) at c.store.ensures) c.if-store.false) refl c.undefined.ensures
