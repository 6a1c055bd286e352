use Rattle.std.proofs.Common.{◌≡◌, ◌≤◌, ◌+◌, ◌-◌, ◌++◌, ◌∷◌, [], subst, ap, ◌∙◌, sym, arith, length}
use Rattle.log_blocks.specs.Batch.{Batched, numbered, with_group}
use Rattle.log_blocks.specs.LogState.{LogState}
use Rattle.log_manager.specs.Groups.{HoldGroups}
use Rattle.log_manager.specs.LastRead.{IsLastRead}
use Rattle.log_manager.specs.Managed.{HasMore, IsCounted, Managed, with_batch}
use Rattle.log_manager.specs.Payload.{bytes_of}
use Rattle.log_manager.specs.Records.{IsLogOf}
use Rattle.log_manager.proofs.Counting.{counted_more, has_more}
use Rattle.log_manager.proofs.Grouping.{group_more}
use Rattle.log_manager.proofs.Held.{if_some}
use Rattle.log_manager.proofs.Joining.{checkpoint_below}
use Rattle.log_manager.proofs.Logs.{grown}
use Rattle.log_manager.proofs.Taking.{some_bytes}
use Rattle.log_manager.proofs.manager.LogManager.append_group.Goals as goal
use Rattle.wal_record.specs.Checkpoints.{checkpoint_after}

pub push-requires-clause-size : goal.push-requires-clause-size
push-requires-clause-size g c =
    let bytes : c.deref.result.now ≡ bytes_of c.args.recs.now = c.deref.ensures.value ∙ c.in_ok-bytes.ensures in
    (omega (arith, ap length bytes, some_bytes c.args.recs.now c.requires.few.0), omega (arith, ap length bytes, c.requires.size))

pub invariant_of-self-2 : goal.invariant_of-self-2
invariant_of-self-2 g c =
    let log = c.settle.new.self in
    let batch = c.self.inside.batch in
    let counted = c.self.inside.counted in
    let inv = subst (λ (l : LogState _). IsCounted l c.self.inside.batch.blocks c.self.inside.batch.spare c.self.inside.counted) (sym c.settle.ensures) c.self.invariant.counted in
    let recs = c.args.recs.now in
    let k = c.last_checkpoint-checkpoint.result in
    let bytes : c.deref.result.now ≡ bytes_of recs = c.deref.ensures.value ∙ c.in_ok-bytes.ensures in
    let count : c.count_of-count.result ≡ length recs = c.count_of-count.ensures in
    let known : k ≡ checkpoint_after counted.checkpoint (log.next + counted.records) recs = c.last_checkpoint-checkpoint.ensures ∙ ap (λ n. checkpoint_after counted.checkpoint (n + counted.records) recs) c.next.ensures in
    let below : k ≤ log.next + counted.records + length recs - 1 = omega (arith, known, checkpoint_below counted.checkpoint (log.next + counted.records) recs (omega (arith, inv.checkpoint))) in
    let room = c.has_room.ensures c.if-not-has_room.false in
    let size : length c.deref.result.now ≡ c.len-size.result = omega (arith, c.deref.ensures.len, c.len-size.ensures) in
    let more = counted_more log batch.blocks c.count_of-count.result k c.deref.result.now batch.spare counted inv (omega (arith, count, c.requires.few.0)) (omega (arith, below, count))
    (omega (arith, room, c.next-next.ensures, c.spare.ensures)) (omega (arith, room, c.end-end.ensures, size)) in
    record {
      counted =
          subst (λ (b : Batched). IsCounted log b.blocks b.spare c.add.new.self) (sym c.in_ok-push.ensures.ok)
          (subst (IsCounted log (with_group batch.blocks c.count_of-count.result k c.deref.result.now) batch.spare) (sym c.add.ensures)
          (subst (λ n. IsCounted log (with_group batch.blocks c.count_of-count.result k c.deref.result.now) batch.spare (record { records = counted.records + c.count_of-count.result; bytes = counted.bytes + n + 23; checkpoint = k })) size more));
      last = if_some c.self.inside.last_read _ _ (λ r h. subst (λ (l : LogState _). IsLastRead g.L.Disk.tells g.L.Disk.told l r) (sym c.settle.ensures) h) c.self.invariant.last;
    }

pub returns-clause-added : goal.returns-clause-added
returns-clause-added g c =
    let log = c.settle.new.self in
    let batch = c.self.inside.batch in
    let counted = c.self.inside.counted in
    let inv = subst (λ (l : LogState _). IsCounted l c.self.inside.batch.blocks c.self.inside.batch.spare c.self.inside.counted) (sym c.settle.ensures) c.self.invariant.counted in
    let recs = c.args.recs.now in
    let k = c.last_checkpoint-checkpoint.result in
    let bytes : c.deref.result.now ≡ bytes_of recs = c.deref.ensures.value ∙ c.in_ok-bytes.ensures in
    let count : c.count_of-count.result ≡ length recs = c.count_of-count.ensures in
    let known : k ≡ checkpoint_after counted.checkpoint (log.next + counted.records) recs = c.last_checkpoint-checkpoint.ensures ∙ ap (λ n. checkpoint_after counted.checkpoint (n + counted.records) recs) c.next.ensures in
    let below : k ≤ log.next + counted.records + length recs - 1 = omega (arith, known, checkpoint_below counted.checkpoint (log.next + counted.records) recs (omega (arith, inv.checkpoint))) in
    let room = c.has_room.ensures c.if-not-has_room.false in
    let blocks : with_group batch.blocks (length recs) k (bytes_of recs) ≡ c.push.new.self.blocks =
    ap (with_group batch.blocks (length recs) k) (sym bytes) ∙ ap (λ n. with_group batch.blocks n k c.deref.result.now) (sym count) ∙ sym (ap (λ (b : Batched). b.blocks) c.in_ok-push.ensures.ok) in (
      subst (λ (l : LogState _). HasMore recs l (with_batch log c.push.new.self.blocks)) (ap (λ (l : LogState _). with_batch l c.self.inside.batch.blocks) c.settle.ensures ∙ ap (λ (m : Managed _). m.log) c.self.view_is)
          (subst (λ bs. HasMore recs (with_batch log batch.blocks) (with_batch log bs)) blocks (has_more log batch.blocks k recs)),
      ap (λ (b : Batched). b.spare) c.in_ok-push.ensures.ok ∙ ap (λ (m : Managed _). m.spare) c.self.view_is,
    )

pub returns-clause-records : goal.returns-clause-records
returns-clause-records g c tells before s w h =
    let log = c.settle.new.self in
    let batch = c.self.inside.batch in
    let counted = c.self.inside.counted in
    let inv = subst (λ (l : LogState _). IsCounted l c.self.inside.batch.blocks c.self.inside.batch.spare c.self.inside.counted) (sym c.settle.ensures) c.self.invariant.counted in
    let recs = c.args.recs.now in
    let k = c.last_checkpoint-checkpoint.result in
    let bytes : c.deref.result.now ≡ bytes_of recs = c.deref.ensures.value ∙ c.in_ok-bytes.ensures in
    let count : c.count_of-count.result ≡ length recs = c.count_of-count.ensures in
    let known : k ≡ checkpoint_after counted.checkpoint (log.next + counted.records) recs = c.last_checkpoint-checkpoint.ensures ∙ ap (λ n. checkpoint_after counted.checkpoint (n + counted.records) recs) c.next.ensures in
    let below : k ≤ log.next + counted.records + length recs - 1 = omega (arith, known, checkpoint_below counted.checkpoint (log.next + counted.records) recs (omega (arith, inv.checkpoint))) in
    let room = c.has_room.ensures c.if-not-has_room.false in
    let blocks : with_group batch.blocks (length recs) k (bytes_of recs) ≡ c.push.new.self.blocks =
    ap (with_group batch.blocks (length recs) k) (sym bytes) ∙ ap (λ n. with_group batch.blocks n k c.deref.result.now) (sym count) ∙ sym (ap (λ (b : Batched). b.blocks) c.in_ok-push.ensures.ok) in
    subst (λ bs. IsLogOf g.L.Disk.told g.L.Disk.may_leave (with_batch log bs) before s (w ++ recs)) blocks
    (grown g.L.Disk.told g.L.Disk.may_leave log batch.blocks batch.spare k counted before s w recs inv c.requires.spelled c.requires.few.0 c.requires.few.1
    (some_bytes recs c.requires.few.0) c.requires.size (omega (arith, room, c.next-next.ensures, count)) known below
    (subst (λ (l : LogState _). IsLogOf g.L.Disk.told g.L.Disk.may_leave l before s w) (sym (ap (λ (l : LogState _). with_batch l c.self.inside.batch.blocks) c.settle.ensures ∙ ap (λ (m : Managed _). m.log) c.self.view_is)) h))

pub returns-clause-whole : goal.returns-clause-whole
returns-clause-whole g c groups h =
    let log = c.settle.new.self in
    let batch = c.self.inside.batch in
    let recs = c.args.recs.now in
    let k = c.last_checkpoint-checkpoint.result in
    let view = ap (λ (l : LogState _). with_batch l c.self.inside.batch.blocks) c.settle.ensures ∙ ap (λ (m : Managed _). m.log) c.self.view_is in
    let count : c.count_of-count.result ≡ length recs = c.count_of-count.ensures in
    let blocks : with_group batch.blocks (length recs) k c.deref.result.now ≡ c.push.new.self.blocks =
    ap (λ n. with_group batch.blocks n k c.deref.result.now) (sym count) ∙ sym (ap (λ (b : Batched). b.blocks) c.in_ok-push.ensures.ok) in
    subst (λ bs. HoldGroups (log.pending ++ numbered log.next bs) (groups ++ recs ∷ [])) blocks
    (group_more log.pending log.next batch.blocks groups recs k c.deref.result.now (subst (λ (l : LogState _). HoldGroups l.pending groups) (sym view) h))
