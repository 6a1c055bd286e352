use Rattle.std.proofs.Common.{◌≡◌, ◌++◌, ℕ, [], subst, ap, ◌∙◌, sym, inr, take}
use Rattle.media.specs.Crash.{LeavesOnly}
use Rattle.log_blocks.specs.Batch.{Batched}
use Rattle.log_blocks.specs.Log.{first_lsn}
use Rattle.log_blocks.specs.LogState.{LogState}
use Rattle.log_blocks.specs.Opening.{Progress}
use Rattle.log_blocks.proofs.Moments.{started, weaker}
use Rattle.log_manager.specs.Groups.{EndsBlock}
use Rattle.log_manager.specs.Managed.{Managed, IsCounted, RecordsLeft, first_kept, with_batch}
use Rattle.log_manager.specs.Records.{IsLogOf, StandsForRecords}
use Rattle.log_manager.proofs.Counting.{checkpoint_written, counted_same, end_written, with_none}
use Rattle.log_manager.proofs.Finding.{first_progress}
use Rattle.log_manager.proofs.Logs.{flushed, none_flushed, none_left, records_left, some_flushed}
use Rattle.log_manager.proofs.manager.LogManager.flush_to.Goals as goal

pub returns-in_err-live-clause-any_moment : goal.returns-in_err-live-clause-any_moment
returns-in_err-live-clause-any_moment g c tells before s w h =
    started g.L.Disk.moment g.L.Disk.left_since c.args.self.now.log.device (λ k. (n : ℕ) × (t : StandsForRecords before (s ++ take n w) k) × (first_lsn t.bs ≡ first_kept c.args.self.now.log) × EndsBlock c.args.self.now.log.pending n)
    (λ k left. none_flushed g.L.Disk.told g.L.Disk.may_leave c.args.self.now.log before s w h k (g.met.L.Disk.only_now c.args.self.now.log.device k left))

pub returns-then-lsn-durable-clause-any_moment : goal.returns-then-lsn-durable-clause-any_moment
returns-then-lsn-durable-clause-any_moment g c tells before s w h =
    started g.L.Disk.moment g.L.Disk.left_since c.args.self.now.log.device (λ k. (n : ℕ) × (t : StandsForRecords before (s ++ take n w) k) × (first_lsn t.bs ≡ first_kept c.args.self.now.log) × EndsBlock c.args.self.now.log.pending n)
    (λ k left. none_flushed g.L.Disk.told g.L.Disk.may_leave c.args.self.now.log before s w h k (g.met.L.Disk.only_now c.args.self.now.log.device k left))

pub invariant_of-self : goal.invariant_of-self
invariant_of-self g c =
    let p = c.flush.ensures.progress in
    let old = c.hand_over.new.log in
    let batch = c.hand_over.ensures.batch in
    record {
      counted = subst (λ (b : Batched). IsCounted c.flush.new.self b.blocks b.spare c.hand_over.new.counted) (sym batch)
          (counted_same old c.flush.new.self c.self.inside.batch.spare c.hand_over.new.counted c.hand_over.ensures.counted c.flush.ensures.next
          (end_written old c.flush.new.self p) (checkpoint_written old c.flush.new.self p));
      last = tt;
    }

pub invariant_of-self-2 : goal.invariant_of-self-2
invariant_of-self-2 g c =
    let p = c.flush.ensures.progress in
    let old = c.hand_over.new.log in
    let batch = c.hand_over.ensures.batch in
    record {
      counted = subst (λ (b : Batched). IsCounted c.flush.new.self b.blocks b.spare c.hand_over.new.counted) (sym batch)
          (counted_same old c.flush.new.self c.self.inside.batch.spare c.hand_over.new.counted c.hand_over.ensures.counted c.flush.ensures.next
          (end_written old c.flush.new.self p) (checkpoint_written old c.flush.new.self p));
      last = tt;
    }

pub returns-clause-records : goal.returns-clause-records
returns-clause-records g c tells before s w h =
    let e = c.in_ok-flush.ensures in
    inr (subst (λ (b : Batched). IsLogOf g.L.Disk.told g.L.Disk.may_leave (with_batch c.flush.new.self b.blocks) before (s ++ w) []) (sym c.hand_over.ensures.batch)
    (subst (λ (l : LogState _). IsLogOf g.L.Disk.told g.L.Disk.may_leave l before (s ++ w) []) (sym (with_none c.flush.new.self))
    (flushed g.L.Disk.told g.L.Disk.may_leave c.hand_over.new.log c.flush.new.self before s w e.all.0 e.numbered (λ ds d. e.durable tells ds d)
    (subst (λ (l : LogState _). IsLogOf g.L.Disk.told g.L.Disk.may_leave l before s w) (sym (c.hand_over.ensures.log ∙ ap (λ (m : Managed _). m.log) c.self.view_is)) h))))

pub returns-clause-any_moment : goal.returns-clause-any_moment
returns-clause-any_moment g c tells before s w h =
    let view = c.hand_over.ensures.log ∙ ap (λ (m : Managed _). m.log) c.self.view_is in
    let k = subst (λ (l : LogState _). IsLogOf g.L.Disk.told g.L.Disk.may_leave l before s w) (sym view) h in
    subst (λ (l : LogState _). LeavesOnly g.L.Disk.moment g.L.Disk.left_since l.device c.flush.new.self.device (λ k. (n : ℕ) × (t : StandsForRecords before (s ++ take n w) k) × (first_lsn t.bs ≡ first_kept l) × EndsBlock l.pending n)) view
    (weaker g.L.Disk.moment g.L.Disk.left_since c.hand_over.new.log.device c.flush.new.self.device _ _ (c.flush.ensures.any_moment tells k.bs k.durable)
    (some_flushed g.L.Disk.told g.L.Disk.may_leave c.hand_over.new.log before s w k))

pub returns-in_err-flush-clause-any_moment : goal.returns-in_err-flush-clause-any_moment
returns-in_err-flush-clause-any_moment g c tells before s w h =
    let view = c.hand_over.ensures.log ∙ ap (λ (m : Managed _). m.log) c.self.view_is in
    let k = subst (λ (l : LogState _). IsLogOf g.L.Disk.told g.L.Disk.may_leave l before s w) (sym view) h in
    subst (λ (l : LogState _). LeavesOnly g.L.Disk.moment g.L.Disk.left_since l.device c.flush.new.self.device (λ k. (n : ℕ) × (t : StandsForRecords before (s ++ take n w) k) × (first_lsn t.bs ≡ first_kept l) × EndsBlock l.pending n)) view
    (weaker g.L.Disk.moment g.L.Disk.left_since c.hand_over.new.log.device c.flush.new.self.device _ _ (c.flush.ensures.any_moment tells k.bs k.durable)
    (some_flushed g.L.Disk.told g.L.Disk.may_leave c.hand_over.new.log before s w k))

pub returns-clause-left : goal.returns-clause-left
returns-clause-left g c tells before s w h =
    let view = c.hand_over.ensures.log ∙ ap (λ (m : Managed _). m.log) c.self.view_is in
    let k = subst (λ (l : LogState _). IsLogOf g.L.Disk.told g.L.Disk.may_leave l before s w) (sym view) h in
    subst (λ (l : LogState _). RecordsLeft g.L.Disk.told g.L.Disk.may_leave before s w l (with_batch c.flush.new.self c.hand_over.new.batch.blocks)) view
    (records_left g.L.Disk.told g.L.Disk.may_leave c.hand_over.new.log c.flush.new.self c.hand_over.new.batch.blocks before s w k (c.flush.ensures.left tells k.bs k.durable) c.flush.ensures.progress)

pub returns-clause-progress : goal.returns-clause-progress
returns-clause-progress g c =
    let view = c.hand_over.ensures.log ∙ ap (λ (m : Managed _). m.log) c.self.view_is in
    let new = c.flush.new.self in
    subst (λ (l : LogState _). Progress c.args.self.now.log.gate c.args.self.now.log.places c.args.self.now.log.pending l.gate l.places l.pending)
    (sym (with_none new) ∙ ap (λ (b : Batched). with_batch new b.blocks) (sym c.hand_over.ensures.batch))
    (subst (λ (l : LogState _). Progress l.gate l.places l.pending new.gate new.places new.pending) view c.flush.ensures.progress)

pub returns-in_err-flush-clause-left : goal.returns-in_err-flush-clause-left
returns-in_err-flush-clause-left g c tells before s w h =
    let view = c.hand_over.ensures.log ∙ ap (λ (m : Managed _). m.log) c.self.view_is in
    let k = subst (λ (l : LogState _). IsLogOf g.L.Disk.told g.L.Disk.may_leave l before s w) (sym view) h in
    subst (λ (l : LogState _). RecordsLeft g.L.Disk.told g.L.Disk.may_leave before s w l (with_batch c.flush.new.self c.hand_over.new.batch.blocks)) view
    (records_left g.L.Disk.told g.L.Disk.may_leave c.hand_over.new.log c.flush.new.self c.hand_over.new.batch.blocks before s w k (c.flush.ensures.left tells k.bs k.durable) c.flush.ensures.progress)

pub returns-in_err-flush-clause-progress : goal.returns-in_err-flush-clause-progress
returns-in_err-flush-clause-progress g c =
    let view = c.hand_over.ensures.log ∙ ap (λ (m : Managed _). m.log) c.self.view_is in
    let new = c.flush.new.self in
    subst (λ (l : LogState _). Progress c.args.self.now.log.gate c.args.self.now.log.places c.args.self.now.log.pending l.gate l.places l.pending)
    (sym (with_none new) ∙ ap (λ (b : Batched). with_batch new b.blocks) (sym c.hand_over.ensures.batch))
    (subst (λ (l : LogState _). Progress l.gate l.places l.pending new.gate new.places new.pending) view c.flush.ensures.progress)

pub returns-in_err-live-clause-left : goal.returns-in_err-live-clause-left
returns-in_err-live-clause-left g c tells before s w h = none_left g.L.Disk.told g.L.Disk.may_leave c.args.self.now.log before s w h

pub returns-then-lsn-durable-clause-left : goal.returns-then-lsn-durable-clause-left
returns-then-lsn-durable-clause-left g c tells before s w h = none_left g.L.Disk.told g.L.Disk.may_leave c.args.self.now.log before s w h

pub returns-clause-first : goal.returns-clause-first
returns-clause-first g c =
    let view = c.hand_over.ensures.log ∙ ap (λ (m : Managed _). m.log) c.self.view_is in
    let new = c.flush.new.self in
    ap (λ (b : Batched). first_kept (with_batch new b.blocks)) c.hand_over.ensures.batch ∙ ap first_kept (with_none new) ∙ first_progress c.hand_over.new.log new c.flush.ensures.progress c.flush.ensures.next ∙ ap first_kept view

pub returns-in_err-flush-clause-first : goal.returns-in_err-flush-clause-first
returns-in_err-flush-clause-first g c =
    let view = c.hand_over.ensures.log ∙ ap (λ (m : Managed _). m.log) c.self.view_is in
    let new = c.flush.new.self in
    ap (λ (b : Batched). first_kept (with_batch new b.blocks)) c.hand_over.ensures.batch ∙ ap first_kept (with_none new) ∙ first_progress c.hand_over.new.log new c.flush.ensures.progress c.flush.ensures.next ∙ ap first_kept view
