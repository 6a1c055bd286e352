use Rattle.std.proofs.Common.{refl}
use Rattle.wal_record.specs.Spelling.{number_bytes}
use Rattle.record_codec.proofs.writing.commit_bytes.Goals as goal

pub returns : goal.returns
unfolding number_bytes
returns c = rw (c.to_be_bytes.ensures, c.to_be_bytes-2.ensures) refl
