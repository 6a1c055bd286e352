-- What is left to read is no longer than the bytes, also at a fault.
use Rattle.std.proofs.Common.{arith, ap, ◌∙◌}
use Rattle.wal_record.specs.Reading.{as_kind}
use Rattle.wal_record.specs.declared.record.Record.TheVariants as kinds
use Rattle.record_codec.proofs.AnyKind.{read_shorter}
use Rattle.record_codec.proofs.Told.{fails_so, fails_within}
use Rattle.record_codec.proofs.reading.apply_told.Goals as goal

pub overflow_sub-result : goal.overflow_sub-result
overflow_sub-result c = read_shorter _ _ (λ i. omega (arith, c.type_inv.bytes i)) (c.requires ∙ ap (as_kind kinds.Apply) c.in-Ok.ensures)

pub returns-in-Ok : goal.returns-in-Ok
returns-in-Ok c =
    let is = c.requires ∙ ap (as_kind kinds.Apply) c.in-Ok.ensures in
    let le = read_shorter _ _ (λ i. omega (arith, c.type_inv.bytes i)) is in
    (c.in-Ok.after.now, is, omega arith)

pub fault_in-requires : goal.fault_in-requires
fault_in-requires c = fails_within _ _ (λ i. omega (arith, c.type_inv.bytes i)) (fails_so kinds.Apply _ _ _ c.requires c.in-Err.ensures)
