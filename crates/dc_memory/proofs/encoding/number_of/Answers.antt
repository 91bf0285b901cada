use Rattle.std.proofs.Common.{arith}
use Rattle.dc_memory.proofs.Spelt.{spelt-number, number_of-below}
use Rattle.dc_memory.proofs.encoding.number_of.Goals as goal

pub returns-clause-value : goal.returns-clause-value
returns-clause-value c = spelt-number c.copy_from_slice.new.self c.args.bytes.now c.from_le_bytes.result c.copy_from_slice.ensures.after c.requires c.from_le_bytes.ensures

pub returns-clause-below : goal.returns-clause-below
returns-clause-below c =
    let value = spelt-number c.copy_from_slice.new.self c.args.bytes.now c.from_le_bytes.result c.copy_from_slice.ensures.after c.requires c.from_le_bytes.ensures in
    rw value (number_of-below c.args.bytes.now (λ k. omega (arith, c.type_inv.bytes k)))
