use Rattle.std.proofs.Common.{arith}
use Rattle.state_codec.proofs.StateField.{state_field}
use Rattle.segment_restore_tests.proofs.log.state_in.Goals as goal

pub returns-in-Ok-default-empty : goal.returns-in-Ok-default-empty
returns-in-Ok-default-empty c = (state_field.takes _ _ (λ i. omega (arith, c.type_inv.bytes i)) c.in-Ok-default-empty.ensures).1
