-- What is left to read is no longer than the bytes, also at a fault; field by field.
use Rattle.std.proofs.Common.{arith}
use Rattle.record_codec.proofs.AnyKind.{read_shorter}
use Rattle.record_codec.proofs.Told.{fails_within, head_fails, key_fails, old_fails, new_fails, write_read}
use Rattle.record_codec.proofs.reading.write_told.Goals as goal

pub fault_in-requires : goal.fault_in-requires
fault_in-requires c = fails_within _ _ (λ i. omega (arith, c.type_inv.bytes i)) (head_fails c.args.bytes.now c.args.rest.now c.in-Err.fault c.requires c.in-Err.ensures)

pub returns-in-Err : goal.returns-in-Err
returns-in-Err c = c.fault_in.ensures _ (head_fails c.args.bytes.now c.args.rest.now c.in-Err.fault c.requires c.in-Err.ensures)

pub fault_in-requires-in-Err-key_at : goal.fault_in-requires-in-Err-key_at
fault_in-requires-in-Err-key_at c = fails_within _ _ (λ i. omega (arith, c.type_inv.bytes i)) (key_fails c.args.bytes.now c.args.rest.now c.in-Ok.read.0.tx c.in-Ok.read.0.prev c.in-Ok.read.0.page c.in-Ok.read.0.page_prev c.in-Ok.read.1.now c.in-Err-key_at.fault (record { is = c.requires; head = c.in-Ok.ensures }) c.in-Err-key_at.ensures)

pub returns-in-Err-key_at : goal.returns-in-Err-key_at
returns-in-Err-key_at c = c.fault_in-in-Err-key_at.ensures _ (key_fails c.args.bytes.now c.args.rest.now c.in-Ok.read.0.tx c.in-Ok.read.0.prev c.in-Ok.read.0.page c.in-Ok.read.0.page_prev c.in-Ok.read.1.now c.in-Err-key_at.fault (record { is = c.requires; head = c.in-Ok.ensures }) c.in-Err-key_at.ensures)

pub fault_in-requires-in-Err-maybe_value_at : goal.fault_in-requires-in-Err-maybe_value_at
fault_in-requires-in-Err-maybe_value_at c = fails_within _ _ (λ i. omega (arith, c.type_inv.bytes i)) (old_fails c.args.bytes.now c.args.rest.now c.in-Ok.read.0.tx c.in-Ok.read.0.prev c.in-Ok.read.0.page c.in-Ok.read.0.page_prev c.in-Ok-key_at.read.0 c.in-Ok-key_at.read.1.now c.in-Err-maybe_value_at.fault (record { before = c.in-Ok.read.1.now; head = record { is = c.requires; head = c.in-Ok.ensures }; read = c.in-Ok-key_at.ensures }) c.in-Err-maybe_value_at.ensures)

pub returns-in-Err-maybe_value_at : goal.returns-in-Err-maybe_value_at
returns-in-Err-maybe_value_at c = c.fault_in-in-Err-maybe_value_at.ensures _ (old_fails c.args.bytes.now c.args.rest.now c.in-Ok.read.0.tx c.in-Ok.read.0.prev c.in-Ok.read.0.page c.in-Ok.read.0.page_prev c.in-Ok-key_at.read.0 c.in-Ok-key_at.read.1.now c.in-Err-maybe_value_at.fault (record { before = c.in-Ok.read.1.now; head = record { is = c.requires; head = c.in-Ok.ensures }; read = c.in-Ok-key_at.ensures }) c.in-Err-maybe_value_at.ensures)

pub fault_in-requires-in-Err-new_value_at : goal.fault_in-requires-in-Err-new_value_at
fault_in-requires-in-Err-new_value_at c = fails_within _ _ (λ i. omega (arith, c.type_inv.bytes i)) (new_fails c.args.bytes.now c.args.rest.now c.in-Ok.read.0.tx c.in-Ok.read.0.prev c.in-Ok.read.0.page c.in-Ok.read.0.page_prev c.in-Ok-key_at.read.0 c.in-Ok-maybe_value_at.read.0 c.in-Ok-maybe_value_at.read.1.now c.in-Err-new_value_at.fault (record { before = c.in-Ok-key_at.read.1.now; keyed = record { before = c.in-Ok.read.1.now; head = record { is = c.requires; head = c.in-Ok.ensures }; read = c.in-Ok-key_at.ensures }; read = c.in-Ok-maybe_value_at.ensures }) c.in-Err-new_value_at.ensures)

pub returns-in-Err-new_value_at : goal.returns-in-Err-new_value_at
returns-in-Err-new_value_at c = c.fault_in-in-Err-new_value_at.ensures _ (new_fails c.args.bytes.now c.args.rest.now c.in-Ok.read.0.tx c.in-Ok.read.0.prev c.in-Ok.read.0.page c.in-Ok.read.0.page_prev c.in-Ok-key_at.read.0 c.in-Ok-maybe_value_at.read.0 c.in-Ok-maybe_value_at.read.1.now c.in-Err-new_value_at.fault (record { before = c.in-Ok-key_at.read.1.now; keyed = record { before = c.in-Ok.read.1.now; head = record { is = c.requires; head = c.in-Ok.ensures }; read = c.in-Ok-key_at.ensures }; read = c.in-Ok-maybe_value_at.ensures }) c.in-Err-new_value_at.ensures)

pub overflow_sub-result : goal.overflow_sub-result
overflow_sub-result c = read_shorter _ _ (λ i. omega (arith, c.type_inv.bytes i)) (write_read c.args.bytes.now c.args.rest.now c.in-Ok.read.0.tx c.in-Ok.read.0.prev c.in-Ok.read.0.page c.in-Ok.read.0.page_prev c.in-Ok-key_at.read.0 c.in-Ok-maybe_value_at.read.0 c.in-Ok-maybe_value_at.read.1.now c.in-Ok-new_value_at.read.0 c.in-Ok-new_value_at.read.1.now (record { before = c.in-Ok-key_at.read.1.now; keyed = record { before = c.in-Ok.read.1.now; head = record { is = c.requires; head = c.in-Ok.ensures }; read = c.in-Ok-key_at.ensures }; read = c.in-Ok-maybe_value_at.ensures }) c.in-Ok-new_value_at.ensures)

pub returns : goal.returns
returns c =
    let is = write_read c.args.bytes.now c.args.rest.now c.in-Ok.read.0.tx c.in-Ok.read.0.prev c.in-Ok.read.0.page c.in-Ok.read.0.page_prev c.in-Ok-key_at.read.0 c.in-Ok-maybe_value_at.read.0 c.in-Ok-maybe_value_at.read.1.now c.in-Ok-new_value_at.read.0 c.in-Ok-new_value_at.read.1.now (record { before = c.in-Ok-key_at.read.1.now; keyed = record { before = c.in-Ok.read.1.now; head = record { is = c.requires; head = c.in-Ok.ensures }; read = c.in-Ok-key_at.ensures }; read = c.in-Ok-maybe_value_at.ensures }) c.in-Ok-new_value_at.ensures in
    let le = read_shorter _ _ (λ i. omega (arith, c.type_inv.bytes i)) is in
    (c.in-Ok-new_value_at.read.1.now, is, omega arith)
