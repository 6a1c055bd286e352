use Rattle.std.proofs.Common.{◌≡◌, ◌<◌, subst, ap, sym, arith, drop, take, length}
use Rattle.media.specs.Crash.{LeavesOnly}
use Rattle.log_blocks.specs.LogState.{IsDurable, LogState}
use Rattle.log_blocks.proofs.Moments.{started, weaker}
use Rattle.log_manager.specs.Managed.{IsCounted, IsLogFrom, Managed, RecycleLeaves, StandsForRest, before_lsn, first_kept, recycled, records_at, with_batch}
use Rattle.log_manager.specs.Records.{IsLogOf}
use Rattle.log_manager.proofs.Counting.{counted_dropped, counted_elsewhere}
use Rattle.log_manager.proofs.Finding.{before_small, end_before}
use Rattle.log_manager.proofs.Logs.{all_or_dropped, dropped_from, inner, none_dropped, none_from, none_recycled, recycle_left}
use Rattle.log_manager.proofs.manager.LogManager.recycle_to.Goals as goal

pub returns-in_err-live-clause-any_moment : goal.returns-in_err-live-clause-any_moment
returns-in_err-live-clause-any_moment g c tells before s w h =
    started g.L.Disk.moment g.L.Disk.left_since c.args.self.now.log.device (StandsForRest before (first_kept c.args.self.now.log) s (recycled c.args.upto c.args.self.now.log.places))
    (λ k left. (none_dropped g.L.Disk.told g.L.Disk.may_leave c.args.self.now.log before s w (recycled c.args.upto c.args.self.now.log.places) h k (g.met.L.Disk.only_now c.args.self.now.log.device k left)))

pub returns-then-n-eq0-clause-any_moment : goal.returns-then-n-eq0-clause-any_moment
returns-then-n-eq0-clause-any_moment g c tells before s w h =
    started g.L.Disk.moment g.L.Disk.left_since c.args.self.now.log.device (StandsForRest before (first_kept c.args.self.now.log) s (recycled c.args.upto c.args.self.now.log.places))
    (λ k left. (none_dropped g.L.Disk.told g.L.Disk.may_leave c.args.self.now.log before s w (recycled c.args.upto c.args.self.now.log.places) h k (g.met.L.Disk.only_now c.args.self.now.log.device k left)))

pub drop_front-requires : goal.drop_front-requires
drop_front-requires g c = omega (arith, before_small c.args.upto c.self.inside.log.places, c.blocks_before-n.ensures, c.if-n-eq0.false)

pub invariant_of-self : goal.invariant_of-self
invariant_of-self g c =
    let log = c.self.inside.log in
    let bs = c.self.inside.batch.blocks in
    let new = c.drop_front.new.self in
    record {
      counted = subst (λ (l : LogState _). IsCounted l bs c.self.inside.batch.spare c.self.inside.counted) (sym c.in_err-drop_front.ensures.same)
          (counted_elsewhere log new.device new.ended bs c.self.inside.batch.spare c.self.inside.counted c.self.invariant.counted);
      last = tt;
    }

pub invariant_of-self-2 : goal.invariant_of-self-2
invariant_of-self-2 g c =
    let log = c.self.inside.log in
    let bs = c.self.inside.batch.blocks in
    let n = c.blocks_before-n.result in
    let new = c.drop_front.new.self in
    let lt : n < length log.places = omega (arith, before_small c.args.upto log.places, c.blocks_before-n.ensures, c.if-n-eq0.false) in
    record {
      counted = subst (λ (l : LogState _). IsCounted l bs c.self.inside.batch.spare c.self.inside.counted) (sym c.in_ok-drop_front.ensures.dropped)
          (counted_dropped log new.device log.ended bs c.self.inside.batch.spare n c.self.inside.counted c.self.invariant.counted lt);
      last = tt;
    }

pub returns-clause-records : goal.returns-clause-records
returns-clause-records g c tells before s w =
    let log = c.self.inside.log in
    let bs = c.self.inside.batch.blocks in
    let n = c.blocks_before-n.result in
    let new = c.drop_front.new.self in
    let lt : n < length log.places = omega (arith, before_small c.args.upto log.places, c.blocks_before-n.ensures, c.if-n-eq0.false) in
    let is = c.in_ok-drop_front.ensures.dropped in
    subst (λ (l : LogState _). (h : IsLogOf g.L.Disk.told g.L.Disk.may_leave l before s w) → IsLogFrom g.L.Disk.told g.L.Disk.may_leave before (first_kept l) s w (recycled c.args.upto l.places) (with_batch new bs))
    (ap (λ (m : Managed _). m.log) c.self.view_is) (λ h.
    let count : records_at (take n log.places) ≡ recycled c.args.upto log.places = ap (λ m. records_at (take m log.places)) c.blocks_before-n.ensures in
    subst (λ m. IsLogFrom g.L.Disk.told g.L.Disk.may_leave before (first_kept (with_batch log bs)) s w m (with_batch new bs)) count
    (subst (λ (l : LogState _). IsLogFrom g.L.Disk.told g.L.Disk.may_leave before (first_kept (with_batch log bs)) s w (records_at (take n log.places)) (with_batch l bs)) (sym is)
    (dropped_from g.L.Disk.told g.L.Disk.may_leave log new.device log.ended bs before s w n lt
    (λ ds d. subst (λ (l : LogState _). IsDurable g.L.Disk.told g.L.Disk.may_leave l (drop n ds)) is (c.in_ok-drop_front.ensures.durable tells ds d)) h)))

pub returns-clause-any_moment : goal.returns-clause-any_moment
returns-clause-any_moment g c tells before s w =
    let log = c.self.inside.log in
    let bs = c.self.inside.batch.blocks in
    let n = c.blocks_before-n.result in
    let new = c.drop_front.new.self in
    let lt : n < length log.places = omega (arith, before_small c.args.upto log.places, c.blocks_before-n.ensures, c.if-n-eq0.false) in
    subst (λ (l : LogState _). (h : IsLogOf g.L.Disk.told g.L.Disk.may_leave l before s w)
    → LeavesOnly g.L.Disk.moment g.L.Disk.left_since l.device new.device (StandsForRest before (first_kept l) s (recycled c.args.upto l.places)))
    (ap (λ (m : Managed _). m.log) c.self.view_is) (λ h.
    let count : records_at (take n log.places) ≡ recycled c.args.upto log.places = ap (λ m. records_at (take m log.places)) c.blocks_before-n.ensures in
    weaker g.L.Disk.moment g.L.Disk.left_since log.device new.device _ _ (c.drop_front.ensures.any_moment tells h.bs (inner g.L.Disk.told g.L.Disk.may_leave log bs h.bs h.durable))
    (λ d some. subst (λ m. StandsForRest before (first_kept (with_batch log bs)) s m d) count (all_or_dropped g.L.Disk.told g.L.Disk.may_leave (with_batch log bs) before s w h n lt d some)))

pub returns-in_err-drop_front-clause-any_moment : goal.returns-in_err-drop_front-clause-any_moment
returns-in_err-drop_front-clause-any_moment g c tells before s w =
    let log = c.self.inside.log in
    let bs = c.self.inside.batch.blocks in
    let n = c.blocks_before-n.result in
    let new = c.drop_front.new.self in
    let lt : n < length log.places = omega (arith, before_small c.args.upto log.places, c.blocks_before-n.ensures, c.if-n-eq0.false) in
    subst (λ (l : LogState _). (h : IsLogOf g.L.Disk.told g.L.Disk.may_leave l before s w)
    → LeavesOnly g.L.Disk.moment g.L.Disk.left_since l.device new.device (StandsForRest before (first_kept l) s (recycled c.args.upto l.places)))
    (ap (λ (m : Managed _). m.log) c.self.view_is) (λ h.
    let count : records_at (take n log.places) ≡ recycled c.args.upto log.places = ap (λ m. records_at (take m log.places)) c.blocks_before-n.ensures in
    weaker g.L.Disk.moment g.L.Disk.left_since log.device new.device _ _ (c.drop_front.ensures.any_moment tells h.bs (inner g.L.Disk.told g.L.Disk.may_leave log bs h.bs h.durable))
    (λ d some. subst (λ m. StandsForRest before (first_kept (with_batch log bs)) s m d) count (all_or_dropped g.L.Disk.told g.L.Disk.may_leave (with_batch log bs) before s w h n lt d some)))

pub returns-clause-left : goal.returns-clause-left
returns-clause-left g c tells before s w =
    let log = c.self.inside.log in
    let bs = c.self.inside.batch.blocks in
    let n = c.blocks_before-n.result in
    let new = c.drop_front.new.self in
    let lt : n < length log.places = omega (arith, before_small c.args.upto log.places, c.blocks_before-n.ensures, c.if-n-eq0.false) in
    subst (λ (l : LogState _). (h : IsLogOf g.L.Disk.told g.L.Disk.may_leave l before s w)
    → RecycleLeaves g.L.Disk.told g.L.Disk.may_leave before (first_kept l) s (recycled c.args.upto l.places) new.device)
    (ap (λ (m : Managed _). m.log) c.self.view_is) (λ h.
    let count : records_at (take n log.places) ≡ recycled c.args.upto log.places = ap (λ m. records_at (take m log.places)) c.blocks_before-n.ensures in
    subst (λ m. RecycleLeaves g.L.Disk.told g.L.Disk.may_leave before (first_kept (with_batch log bs)) s m new.device) count
    (recycle_left g.L.Disk.told g.L.Disk.may_leave (with_batch log bs) new.device before s w h n lt (c.drop_front.ensures.left tells h.bs (inner g.L.Disk.told g.L.Disk.may_leave log bs h.bs h.durable))))

pub returns-in_err-drop_front-clause-left : goal.returns-in_err-drop_front-clause-left
returns-in_err-drop_front-clause-left g c tells before s w =
    let log = c.self.inside.log in
    let bs = c.self.inside.batch.blocks in
    let n = c.blocks_before-n.result in
    let new = c.drop_front.new.self in
    let lt : n < length log.places = omega (arith, before_small c.args.upto log.places, c.blocks_before-n.ensures, c.if-n-eq0.false) in
    subst (λ (l : LogState _). (h : IsLogOf g.L.Disk.told g.L.Disk.may_leave l before s w)
    → RecycleLeaves g.L.Disk.told g.L.Disk.may_leave before (first_kept l) s (recycled c.args.upto l.places) new.device)
    (ap (λ (m : Managed _). m.log) c.self.view_is) (λ h.
    let count : records_at (take n log.places) ≡ recycled c.args.upto log.places = ap (λ m. records_at (take m log.places)) c.blocks_before-n.ensures in
    subst (λ m. RecycleLeaves g.L.Disk.told g.L.Disk.may_leave before (first_kept (with_batch log bs)) s m new.device) count
    (recycle_left g.L.Disk.told g.L.Disk.may_leave (with_batch log bs) new.device before s w h n lt (c.drop_front.ensures.left tells h.bs (inner g.L.Disk.told g.L.Disk.may_leave log bs h.bs h.durable))))

pub returns-in_err-live-clause-left : goal.returns-in_err-live-clause-left
returns-in_err-live-clause-left g c tells before s w h = none_recycled g.L.Disk.told g.L.Disk.may_leave c.args.self.now.log before s w (recycled c.args.upto c.args.self.now.log.places) h

pub returns-then-n-eq0-clause-left : goal.returns-then-n-eq0-clause-left
returns-then-n-eq0-clause-left g c tells before s w h = none_recycled g.L.Disk.told g.L.Disk.may_leave c.args.self.now.log before s w (recycled c.args.upto c.args.self.now.log.places) h

pub returns-then-n-eq0-clause-records : goal.returns-then-n-eq0-clause-records
returns-then-n-eq0-clause-records g c tells before s w h =
    let log = c.args.self.now.log in
    let none : before_lsn c.args.upto log.places ≡ 0 = omega (arith, c.blocks_before-n.ensures, c.if-n-eq0.true, ap (λ (m : Managed _). before_lsn c.args.upto m.log.places) c.self.view_is) in
    subst (λ n. IsLogFrom g.L.Disk.told g.L.Disk.may_leave before (first_kept log) s w (records_at (take n log.places)) log) (sym none) (none_from g.L.Disk.told g.L.Disk.may_leave log before s w h)

pub returns-clause-these : goal.returns-clause-these
returns-clause-these g c = end_before c.args.upto c.args.self.now.log.places

pub returns-in_err-live-clause-these : goal.returns-in_err-live-clause-these
returns-in_err-live-clause-these g c = end_before c.args.upto c.args.self.now.log.places

pub returns-then-n-eq0-clause-these : goal.returns-then-n-eq0-clause-these
returns-then-n-eq0-clause-these g c = end_before c.args.upto c.args.self.now.log.places

pub returns-in_err-drop_front-clause-these : goal.returns-in_err-drop_front-clause-these
returns-in_err-drop_front-clause-these g c = end_before c.args.upto c.args.self.now.log.places
