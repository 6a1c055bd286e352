-- What is left to read is no longer than the bytes, also at a fault.
use Rattle.std.proofs.Common.{arith, ap, sym, subst, ◌∙◌}
use Rattle.wal_record.specs.Reading.{record_at}
use Rattle.state_codec.specs.Gives.{Fails}
use Rattle.record_codec.proofs.AnyKind.{read_shorter}
use Rattle.record_codec.proofs.Told.{fails_within}
use Rattle.record_codec.proofs.reading.other_told.Goals as goal

pub overflow_sub-result : goal.overflow_sub-result
overflow_sub-result c = read_shorter _ _ (λ i. omega (arith, c.type_inv.bytes i)) (ap record_at c.requires.parts ∙ c.in-Ok.ensures)

pub returns-in-Ok : goal.returns-in-Ok
returns-in-Ok c =
    let is = ap record_at c.requires.parts ∙ c.in-Ok.ensures in
    let le = read_shorter _ _ (λ i. omega (arith, c.type_inv.bytes i)) is in
    (c.in-Ok.rest.now, is, omega arith)

pub fault_in-requires : goal.fault_in-requires
fault_in-requires c = fails_within _ _ (λ i. omega (arith, c.type_inv.bytes i)) (subst (λ bytes. Fails c.in-Err.fault (record_at bytes)) (sym c.requires.parts) c.in-Err.ensures)
