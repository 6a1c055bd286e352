use Rattle.std.proofs.Common.{refl}
use Rattle.wal_record.specs.OpenWrites.{pending}
use Rattle.record_judge.proofs.Rooms.{fits_exact}
use Rattle.record_judge.proofs.judge.RecordJudge.fits.Goals as goal

pub returns : goal.returns
returns c = λ log k. fits_exact log c.args.entered.now c.is_within.result c.pages.result (pending log) c.pending_left.result c.added.result c.most_behind.result
    (c.pages.ensures log k.listing) (c.pending_left.ensures log k) refl c.added.ensures (c.most_behind.ensures log k) c.is_within.ensures
