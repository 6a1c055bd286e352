use Rattle.std.proofs.Common.{◌≡◌, ◌≤◌, ◌^◌, ◌+◌, length, sym, ap, ◌∙◌, subst, arith}
use Rattle.std.specs.Prelude.{Result, IsErrAnd}
use Rattle.media.specs.Counted.{Blames}
use Rattle.media.specs.Kept.{Kept}
use Rattle.media.proofs.Blaming.{then_more}
use Rattle.store_model.specs.declared.fault.Fault.{Fault}
use Rattle.log_blocks.specs.Opening.{IsLogFault}
use Rattle.log_index.specs.GoingOn.{may_go_on}
use Rattle.log_index.specs.declared.listing.Listing.{Listing}
use Rattle.log_manager.specs.Managed.{Managed}
use Rattle.log_manager.specs.Devices.{DevicesStandFor}
use Rattle.opening.specs.Begins.{IsForLogFault, IsWhyNot, MayBegin}
use Rattle.opening.specs.declared.reading.NotOpened.{NotOpened}
use Rattle.opening.specs.declared.reading.WhyNot.{WhyNot}
use Rattle.opening.specs.declared.reading.WhyNot.TheVariants as causes
use Rattle.opening.proofs.Begins.{begins_safe, held, holds_end, kept_of, last_is, next_is, next_kept, none_there, not_bad, some_there, stands_open, stands_still}
use Rattle.opening.specs.Bytes.{IsRead, ShowsWhy, StaysSame}
use Rattle.opening.proofs.Bytes.{is_read, shows_analysed, shows_headers, shows_none, stays_by, stays_open}
use Rattle.opening.proofs.reading.read_log.Goals as goal

pub returns-in-Err-clause-refused : goal.returns-in-Err-clause-refused
returns-in-Err-clause-refused g c = λ t opening stands. not_bad c.never_bad.ensures g.L.Disk.told g.L.Disk.may_leave c.args.disk opening stands c.in-Err.refused.fault (c.in-Err.ensures.bad t)

pub returns-then-last-eq0-clause-refused : goal.returns-then-last-eq0-clause-refused
returns-then-last-eq0-clause-refused g c = λ t opening stands.
    let b = c.in-Ok.ensures.blocks t in
    subst (λ (w : WhyNot). IsWhyNot opening w) (sym (ap (λ r. r.why) c.not_opened.ensures))
    (none_there g.L.Disk.told g.L.Disk.may_leave c.args.disk c.in-Ok.log opening stands b.0 b.1 (c.in-Ok.ensures.same t) c.one_log.ensures
    c.in-Ok.ensures.fresh.0 c.durable_lsn-last.ensures.numbered c.durable_lsn-last.result c.durable_lsn-last.ensures.value c.if-last-eq0.true)

pub returns-in-Ok-analyse-clause-begins : goal.returns-in-Ok-analyse-clause-begins
returns-in-Ok-analyse-clause-begins g c = λ t opening stands.
    let log = c.in-Ok.log in
    let b = c.in-Ok.ensures.blocks t in
    let same = c.in-Ok.ensures.same t in
    let fresh = c.in-Ok.ensures.fresh.0 in
    let numbered = c.durable_lsn-last.ensures.numbered in
    let last = c.durable_lsn-last.result in
    let whole = held g.L.Disk.told g.L.Disk.may_leave c.args.disk log opening stands b.0 b.1 same c.one_log.ensures in
    let size = last_is g.L.Disk.told g.L.Disk.may_leave c.args.disk log opening stands b.0 b.1 same c.one_log.ensures fresh numbered last c.durable_lsn-last.ensures.value in
    let next = next_is g.L.Disk.told g.L.Disk.may_leave c.args.disk log opening stands b.0 b.1 same c.one_log.ensures fresh numbered in
    let some = some_there g.L.Disk.told g.L.Disk.may_leave c.args.disk log opening stands b.0 b.1 same c.one_log.ensures fresh numbered last c.durable_lsn-last.ensures.value c.if-last-eq0.false in
    let few : length opening ≤ 2 ^ 62 = omega (arith, size, c.if-last-gt-MOST_ENTRIES.false) in
    let found = (c.in-Ok-analyse.ensures.listed t b.0 opening b.1 whole stands.sound.lawful (omega (arith, few))).0 in
    let now = c.analyse.ensures.durable t b.0 b.1 in
    let at : c.start.result.log.next ≡ length opening + 1 = ap (λ (m : Managed g.row.L.Denot). m.log.next) c.start.ensures.same ∙ next_kept log c.analyse.new.log c.analyse.ensures.same ∙ next in
    subst (λ (x : Managed g.row.L.Denot × Listing). MayBegin g.L.Disk.tells g.L.Disk.told g.L.Disk.may_leave x.0 x.1 opening) (λ i. (sym c.new.ensures.same.0 i, sym c.new.ensures.same.1 i))
    (record {
      telling = t;
      sound = stands.sound;
      some = some;
      few = few;
      records = c.new.ensures.records (may_go_on opening) opening stands.sound.lawful found.0 found.1 at
          (λ _ _. holds_end g.L.Disk.told g.L.Disk.may_leave c.args.disk log opening stands b.0 b.1 same c.one_log.ensures c.start.result.log (λ before rs are. c.start.ensures.records t before b.0 rs now are));
      safe = begins_safe g.L.Disk.told g.L.Disk.may_leave c.args.disk log opening stands b.0 b.1 same c.one_log.ensures c.start.result.log (ap (λ (m : Managed g.row.L.Denot). m.log.ended) c.start.ensures.same ∙ c.in-Ok-analyse.ensures.live) at
          (λ before rs are. c.start.ensures.records t before b.0 rs now are);
    })

pub returns-in-Err-analyse-clause-refused : goal.returns-in-Err-analyse-clause-refused
returns-in-Err-analyse-clause-refused g c = λ t opening stands.
    let log = c.in-Ok.log in
    let b = c.in-Ok.ensures.blocks t in
    let same = c.in-Ok.ensures.same t in
    let whole = held g.L.Disk.told g.L.Disk.may_leave c.args.disk log opening stands b.0 b.1 same c.one_log.ensures in
    let size = last_is g.L.Disk.told g.L.Disk.may_leave c.args.disk log opening stands b.0 b.1 same c.one_log.ensures c.in-Ok.ensures.fresh.0 c.durable_lsn-last.ensures.numbered c.durable_lsn-last.result c.durable_lsn-last.ensures.value in
    subst (λ (w : WhyNot). IsWhyNot opening w) (sym (ap (λ r. r.why) c.not_opened-in-Err-analyse.ensures))
    (c.in-Err-analyse.ensures.listed t b.0 opening b.1 whole stands.sound.lawful (omega (arith, size, c.if-last-gt-MOST_ENTRIES.false))).1

pub returns-in-Err-clause-kept : goal.returns-in-Err-clause-kept
returns-in-Err-clause-kept g c = λ t opening stands.
    stands_still g.L.Disk.told g.L.Disk.may_leave g.L.Disk.moment g.L.Disk.left_since c.args.disk c.in-Err.refused.disk opening (c.in-Err.ensures.same t)
    c.in-Err.ensures.any_moment (λ t k le m. g.met.L.Disk.counts_now c.in-Err.refused.disk t k le m) stands

pub returns-then-last-eq0-clause-kept : goal.returns-then-last-eq0-clause-kept
returns-then-last-eq0-clause-kept g c = λ t opening stands.
    let log = c.in-Ok.log in
    let b = c.in-Ok.ensures.blocks t in
    subst (λ (d : g.row.L.Denot). DevicesStandFor g.L.Disk.told g.L.Disk.may_leave d opening) (sym (ap (λ r. r.disk) c.not_opened.ensures))
    (stands_open g.L.Disk.told g.L.Disk.may_leave c.args.disk log opening (kept_of g.L.Disk.told g.L.Disk.may_leave c.args.disk opening stands) b.0 b.1 (c.in-Ok.ensures.same t) c.one_log.ensures log b.1)

pub returns-then-last-gt-MOST_ENTRIES-clause-kept : goal.returns-then-last-gt-MOST_ENTRIES-clause-kept
returns-then-last-gt-MOST_ENTRIES-clause-kept g c = λ t opening stands.
    let log = c.in-Ok.log in
    let b = c.in-Ok.ensures.blocks t in
    subst (λ (d : g.row.L.Denot). DevicesStandFor g.L.Disk.told g.L.Disk.may_leave d opening) (sym (ap (λ r. r.disk) c.not_opened-then-last-gt-MOST_ENTRIES.ensures))
    (stands_open g.L.Disk.told g.L.Disk.may_leave c.args.disk log opening (kept_of g.L.Disk.told g.L.Disk.may_leave c.args.disk opening stands) b.0 b.1 (c.in-Ok.ensures.same t) c.one_log.ensures log b.1)

pub returns-in-Err-analyse-clause-kept : goal.returns-in-Err-analyse-clause-kept
returns-in-Err-analyse-clause-kept g c = λ t opening stands.
    let log = c.in-Ok.log in
    let b = c.in-Ok.ensures.blocks t in
    subst (λ (d : g.row.L.Denot). DevicesStandFor g.L.Disk.told g.L.Disk.may_leave d opening) (sym (ap (λ r. r.disk) c.not_opened-in-Err-analyse.ensures))
    (stands_open g.L.Disk.told g.L.Disk.may_leave c.args.disk log opening (kept_of g.L.Disk.told g.L.Disk.may_leave c.args.disk opening stands) b.0 b.1 (c.in-Ok.ensures.same t) c.one_log.ensures c.analyse.new.log (c.analyse.ensures.durable t b.0 b.1))

pub returns-then-last-eq0-clause-fuse : goal.returns-then-last-eq0-clause-fuse
returns-then-last-eq0-clause-fuse g c =
    subst (λ (r : NotOpened g.row.L.Denot). Blames g.L.Disk.passes g.L.Disk.refused g.L.Disk.own c.args.disk r.disk (IsForLogFault r.why)) (sym c.not_opened.ensures) c.in-Ok.ensures.fuse

pub returns-then-last-gt-MOST_ENTRIES-clause-fuse : goal.returns-then-last-gt-MOST_ENTRIES-clause-fuse
returns-then-last-gt-MOST_ENTRIES-clause-fuse g c =
    subst (λ (r : NotOpened g.row.L.Denot). Blames g.L.Disk.passes g.L.Disk.refused g.L.Disk.own c.args.disk r.disk (IsForLogFault r.why)) (sym c.not_opened-then-last-gt-MOST_ENTRIES.ensures) c.in-Ok.ensures.fuse

pub returns-in-Err-analyse-clause-fuse : goal.returns-in-Err-analyse-clause-fuse
returns-in-Err-analyse-clause-fuse g c =
    subst (λ (r : NotOpened g.row.L.Denot). Blames g.L.Disk.passes g.L.Disk.refused g.L.Disk.own c.args.disk r.disk (IsForLogFault r.why)) (sym c.not_opened-in-Err-analyse.ensures)
    (then_more g.L.Disk.passes g.L.Disk.refused g.L.Disk.own c.args.disk c.in-Ok.log.device c.analyse.new.log.device ⊥ (IsLogFault c.in-Err-analyse.fault) c.in-Ok.ensures.fuse (λ never. never)
    (subst (λ (r : Result Listing Fault). Blames g.L.Disk.passes g.L.Disk.refused g.L.Disk.own c.in-Ok.log.device c.analyse.new.log.device (IsErrAnd r IsLogFault)) c.in-Err-analyse.is c.analyse.ensures.fuse))

pub returns-in-Ok-analyse-clause-read : goal.returns-in-Ok-analyse-clause-read
returns-in-Ok-analyse-clause-read g c = λ t.
    let b = c.in-Ok.ensures.blocks t in
    subst (λ (m : Managed g.row.L.Denot). IsRead g.L.Disk.told g.L.Disk.may_leave c.args.disk m.log) (sym (c.new.ensures.same.0 ∙ c.start.ensures.same))
    (is_read g.L.Disk.told g.L.Disk.may_leave c.args.disk c.in-Ok.log (c.in-Ok.ensures.same t) b.0 b.1 c.analyse.new.log (c.analyse.ensures.durable t b.0 b.1))

pub returns-in-Err-clause-shows : goal.returns-in-Err-clause-shows
returns-in-Err-clause-shows g c = λ t.
    subst (λ (k : Kept). ShowsWhy k (causes.Fault c.in-Err.refused.fault)) (sym (c.in-Err.ensures.same t)) (shows_headers (g.L.Disk.told c.args.disk) c.in-Err.refused.fault (c.in-Err.ensures.bad t))

pub returns-then-last-eq0-clause-shows : goal.returns-then-last-eq0-clause-shows
returns-then-last-eq0-clause-shows g c = λ t.
    let b = c.in-Ok.ensures.blocks t in
    subst (λ (r : NotOpened g.row.L.Denot). ShowsWhy (g.L.Disk.told r.disk) r.why) (sym c.not_opened.ensures)
    (shows_none g.L.Disk.told g.L.Disk.may_leave c.args.disk c.in-Ok.log (c.in-Ok.ensures.same t) b.0 b.1 c.durable_lsn-last.result c.durable_lsn-last.ensures.value c.if-last-eq0.true)

pub returns-then-last-gt-MOST_ENTRIES-clause-shows : goal.returns-then-last-gt-MOST_ENTRIES-clause-shows
returns-then-last-gt-MOST_ENTRIES-clause-shows g c = λ t.
    subst (λ (r : NotOpened g.row.L.Denot). ShowsWhy (g.L.Disk.told r.disk) r.why) (sym c.not_opened-then-last-gt-MOST_ENTRIES.ensures) tt

pub returns-in-Err-analyse-clause-shows : goal.returns-in-Err-analyse-clause-shows
returns-in-Err-analyse-clause-shows g c = λ t.
    let b = c.in-Ok.ensures.blocks t in
    subst (λ (r : NotOpened g.row.L.Denot). ShowsWhy (g.L.Disk.told r.disk) r.why) (sym c.not_opened-in-Err-analyse.ensures)
    (shows_analysed (g.L.Disk.told c.analyse.new.log.device) b.0 (c.analyse.ensures.durable t b.0 b.1).stands c.in-Err-analyse.fault (c.in-Err-analyse.ensures.bad t b.0 b.1))

pub returns-in-Err-clause-bytes : goal.returns-in-Err-clause-bytes
returns-in-Err-clause-bytes g c = λ t.
    stays_by g.L.Disk.told g.L.Disk.may_leave g.L.Disk.moment g.L.Disk.left_since c.args.disk c.in-Err.refused.disk (c.in-Err.ensures.same t)
    c.in-Err.ensures.any_moment (λ t k le m. g.met.L.Disk.counts_now c.in-Err.refused.disk t k le m)

pub returns-then-last-eq0-clause-bytes : goal.returns-then-last-eq0-clause-bytes
returns-then-last-eq0-clause-bytes g c = λ t.
    let b = c.in-Ok.ensures.blocks t in
    subst (λ (d : g.row.L.Denot). StaysSame g.L.Disk.told g.L.Disk.may_leave c.args.disk d) (sym (ap (λ r. r.disk) c.not_opened.ensures))
    (stays_open g.L.Disk.told g.L.Disk.may_leave c.args.disk c.in-Ok.log (c.in-Ok.ensures.same t) b.0 b.1 c.in-Ok.log b.1)

pub returns-then-last-gt-MOST_ENTRIES-clause-bytes : goal.returns-then-last-gt-MOST_ENTRIES-clause-bytes
returns-then-last-gt-MOST_ENTRIES-clause-bytes g c = λ t.
    let b = c.in-Ok.ensures.blocks t in
    subst (λ (d : g.row.L.Denot). StaysSame g.L.Disk.told g.L.Disk.may_leave c.args.disk d) (sym (ap (λ r. r.disk) c.not_opened-then-last-gt-MOST_ENTRIES.ensures))
    (stays_open g.L.Disk.told g.L.Disk.may_leave c.args.disk c.in-Ok.log (c.in-Ok.ensures.same t) b.0 b.1 c.in-Ok.log b.1)

pub returns-in-Err-analyse-clause-bytes : goal.returns-in-Err-analyse-clause-bytes
returns-in-Err-analyse-clause-bytes g c = λ t.
    let b = c.in-Ok.ensures.blocks t in
    subst (λ (d : g.row.L.Denot). StaysSame g.L.Disk.told g.L.Disk.may_leave c.args.disk d) (sym (ap (λ r. r.disk) c.not_opened-in-Err-analyse.ensures))
    (stays_open g.L.Disk.told g.L.Disk.may_leave c.args.disk c.in-Ok.log (c.in-Ok.ensures.same t) b.0 b.1 c.analyse.new.log (c.analyse.ensures.durable t b.0 b.1))
