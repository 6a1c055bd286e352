use Rattle.std.proofs.Common.{arith}
use Rattle.record_codec.proofs.AnyKind.{tells_found, tells_only}
use Rattle.record_codec.proofs.reading.decode.Goals as goal

pub returns-clause-found : goal.returns-clause-found
returns-clause-found c = tells_found _ _ (λ i. omega (arith, c.type_inv.bytes i)) c.told.ensures

pub returns-clause-only : goal.returns-clause-only
returns-clause-only c = tells_only _ _ c.told.ensures
