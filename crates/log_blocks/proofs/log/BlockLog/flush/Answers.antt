use Rattle.std.proofs.Common.{◌+◌, ◌++◌, ap, sym, subst, ◌∙◌, arith, length, length-append, List}
use Rattle.std.specs.Prelude.{Some}
use Rattle.std.proofs.lemmas.Option.{none-some}
use Rattle.media.specs.Cause.{Rose}
use Rattle.media.specs.Crash.{LeavesOnly}
use Rattle.log_blocks.specs.declared.header.Place.{Place}
use Rattle.log_blocks.specs.Log.{StandsForSome, IsRun, IsSequence, blocks}
use Rattle.log_blocks.specs.LogState.{LogState, IsDurable, lsn_behind}
use Rattle.log_blocks.specs.Opening.{FlushLeaves, IsChain}
use Rattle.log_blocks.proofs.Durable.{chain_progress, durable_more, not_flushed}
use Rattle.log_blocks.proofs.Walking.{next_above}
use Rattle.log_blocks.proofs.Whole.{chain_room, blocks_room, sized_run, whole_progress, progress_behind, sequence_whole}
use Rattle.log_blocks.proofs.log.BlockLog.flush.Goals as goal

pub flush_all-requires-clause-not_before : goal.flush_all-requires-clause-not_before
flush_all-requires-clause-not_before g c =
    let live = c.self.invariant.live (ap (λ (s : LogState _). s.ended) c.self.view_is ∙ c.in_ok-live.ensures.live) in
    omega (arith, chain_room _ _ _ live.chain)

pub flush_all-requires-clause-few : goal.flush_all-requires-clause-few
flush_all-requires-clause-few g c =
    let w = c.self.invariant.whole in
    omega (arith, chain_room w.from _ _ w.chain, blocks_room c.self.inside.pending, w.end_is, w.fits, length-append c.self.inside.places.items c.self.inside.recent)

pub flush_all-requires-clause-sized : goal.flush_all-requires-clause-sized
flush_all-requires-clause-sized g c = sized_run _ _ c.self.invariant.whole.run

pub invariant_of-self : goal.invariant_of-self
invariant_of-self g c =
    let live = c.self.invariant.live (ap (λ (s : LogState _). s.ended) c.self.view_is ∙ c.in_ok-live.ensures.live) in
    let p = progress_behind c.self.inside.places.items _ _ _ _ _ _ c.flush_all.ensures.progress in
    let chain = chain_progress _ _ _ _ _ _ _ live.chain p in
    let room = chain_room _ _ _ chain in
    let start = c.flush_all.ensures.start in
    record {
      whole = whole_progress _ _ _ _ _ _ _ _ c.self.invariant.whole p;
      live = λ none. record {
        chain = subst (λ n. IsChain n (c.self.inside.places.items ++ c.flush_all.new.done) c.flush_all.new.gate) (sym start) chain;
        short = λ short. omega (arith, short, c.in-Ok.ensures.not_past, room, start);
        within = λ long. c.in-Ok.ensures.not_past;
      };
    }

pub lsn_before-requires : goal.lsn_before-requires
lsn_before-requires g c = let w = c.self.invariant.whole in omega (arith, w.next_is, next_above (lsn_behind (c.self.inside.places.items ++ c.self.inside.recent)) c.self.inside.pending)

pub invariant_of-self-in-Err : goal.invariant_of-self-in-Err
invariant_of-self-in-Err g c = record {
  whole = whole_progress _ _ _ _ _ _ _ _ c.self.invariant.whole (progress_behind c.self.inside.places.items _ _ _ _ _ _ c.flush_all.ensures.progress);
  live = λ none. absurd (none-some _ (sym none));
}

pub returns-in-Ok-clause-durable : goal.returns-in-Ok-clause-durable
returns-in-Ok-clause-durable g c tells bs =
    let e = g.met.L.Disk.extent c.self.inside.device tells in
    let e2 = g.met.L.Disk.extent c.flush_all.new.device tells in
    let p = progress_behind c.self.inside.places.items _ _ _ _ _ _ c.flush_all.ensures.progress in
    subst (λ (s : LogState _). IsDurable g.L.Disk.told g.L.Disk.may_leave s bs
    → IsDurable g.L.Disk.told g.L.Disk.may_leave (record { device = c.flush_all.new.device; places = c.self.inside.places.items ++ c.flush_all.new.done; pending = c.flush_all.new.pending; gate = c.flush_all.new.gate; next = c.self.inside.next; ended = c.self.inside.ended }) (bs ++ s.pending))
    c.self.view_is
    (λ d. durable_more g.L.Disk.told g.L.Disk.may_leave _ _ bs d
    (c.in-Ok.ensures.written tells bs (d.gate_is ∙ ap (λ n. n + length (blocks bs)) e.0) d.stands
    (subst (λ n. IsSequence n (bs ++ c.self.inside.pending)) e.0 (sequence_whole _ bs c.self.inside.pending d.stands.sequence (subst (λ (l : List Place). IsRun (lsn_behind l) c.self.inside.pending) d.places_are c.self.invariant.whole.run))))
    (c.in-Ok.ensures.durable tells d.only) (e2.0 ∙ c.flush_all.ensures.start ∙ sym e.0) p c.in-Ok.ensures.all)

pub returns-in-Ok-clause-any_moment : goal.returns-in-Ok-clause-any_moment
returns-in-Ok-clause-any_moment g c tells bs =
    let e = g.met.L.Disk.extent c.self.inside.device tells in
    subst (λ (s : LogState _). IsDurable g.L.Disk.told g.L.Disk.may_leave s bs → LeavesOnly g.L.Disk.moment g.L.Disk.left_since s.device c.flush_all.new.device (StandsForSome bs s.pending)) c.self.view_is
    (λ d. c.flush_all.ensures.any_moment tells d.only bs (d.gate_is ∙ ap (λ n. n + length (blocks bs)) e.0) d.stands
    (subst (λ n. IsSequence n (bs ++ c.self.inside.pending)) e.0 (sequence_whole _ bs c.self.inside.pending d.stands.sequence (subst (λ (l : List Place). IsRun (lsn_behind l) c.self.inside.pending) d.places_are c.self.invariant.whole.run))))

pub returns-in-Err-clause-any_moment : goal.returns-in-Err-clause-any_moment
returns-in-Err-clause-any_moment g c tells bs =
    let e = g.met.L.Disk.extent c.self.inside.device tells in
    subst (λ (s : LogState _). IsDurable g.L.Disk.told g.L.Disk.may_leave s bs → LeavesOnly g.L.Disk.moment g.L.Disk.left_since s.device c.flush_all.new.device (StandsForSome bs s.pending)) c.self.view_is
    (λ d. c.flush_all.ensures.any_moment tells d.only bs (d.gate_is ∙ ap (λ n. n + length (blocks bs)) e.0) d.stands
    (subst (λ n. IsSequence n (bs ++ c.self.inside.pending)) e.0 (sequence_whole _ bs c.self.inside.pending d.stands.sequence (subst (λ (l : List Place). IsRun (lsn_behind l) c.self.inside.pending) d.places_are c.self.invariant.whole.run))))

pub returns-in-Err-clause-refused : goal.returns-in-Err-clause-refused
returns-in-Err-clause-refused g c =
    let w = whole_progress _ _ _ _ _ _ _ _ c.self.invariant.whole (progress_behind c.self.inside.places.items _ _ _ _ _ _ c.flush_all.ensures.progress) in (
      c.in_ok-live.ensures.live,
      subst (λ (s : LogState _). Rose (g.L.Disk.faults s.device) (g.L.Disk.faults c.flush_all.new.device)) c.self.view_is c.in-Err.ensures.cause.failed,
      ap Some (c.lsn_before.ensures _ w.run w.next_is (omega arith)),
    )

pub returns-in-Ok-clause-numbered : goal.returns-in-Ok-clause-numbered
returns-in-Ok-clause-numbered g c =
    let p = progress_behind c.self.inside.places.items _ _ _ _ _ _ c.flush_all.ensures.progress in
    let w = whole_progress _ _ _ _ _ _ _ _ c.self.invariant.whole p in
    record { run = w.run; next = w.next_is }

pub returns-in-Ok-clause-left : goal.returns-in-Ok-clause-left
returns-in-Ok-clause-left g c tells bs =
    let e = g.met.L.Disk.extent c.self.inside.device tells in
    subst (λ (s : LogState _). IsDurable g.L.Disk.told g.L.Disk.may_leave s bs → FlushLeaves g.L.Disk.told g.L.Disk.may_leave bs s.pending c.flush_all.new.pending c.flush_all.new.device) c.self.view_is
    (λ d. c.flush_all.ensures.left tells d.only bs (d.gate_is ∙ ap (λ n. n + length (blocks bs)) e.0) d.stands
    (subst (λ n. IsSequence n (bs ++ c.self.inside.pending)) e.0 (sequence_whole _ bs c.self.inside.pending d.stands.sequence (subst (λ (l : List Place). IsRun (lsn_behind l) c.self.inside.pending) d.places_are c.self.invariant.whole.run))))

pub returns-in-Err-clause-left : goal.returns-in-Err-clause-left
returns-in-Err-clause-left g c tells bs =
    let e = g.met.L.Disk.extent c.self.inside.device tells in
    subst (λ (s : LogState _). IsDurable g.L.Disk.told g.L.Disk.may_leave s bs → FlushLeaves g.L.Disk.told g.L.Disk.may_leave bs s.pending c.flush_all.new.pending c.flush_all.new.device) c.self.view_is
    (λ d. c.flush_all.ensures.left tells d.only bs (d.gate_is ∙ ap (λ n. n + length (blocks bs)) e.0) d.stands
    (subst (λ n. IsSequence n (bs ++ c.self.inside.pending)) e.0 (sequence_whole _ bs c.self.inside.pending d.stands.sequence (subst (λ (l : List Place). IsRun (lsn_behind l) c.self.inside.pending) d.places_are c.self.invariant.whole.run))))

pub returns-in_err-live-clause-left : goal.returns-in_err-live-clause-left
returns-in_err-live-clause-left g c tells bs d = not_flushed g.L.Disk.told g.L.Disk.may_leave c.args.self.now bs d
