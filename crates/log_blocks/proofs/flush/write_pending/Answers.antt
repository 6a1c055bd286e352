use Rattle.std.proofs.Common.{◌≡◌, ◌+◌, ◌++◌, List, length, take, refl, sym, ◌∙◌, ap, subst, arith, length-append, length-drop, length-take, append-nil}
use Rattle.std.proofs.lemmas.List.{take_all}
use Rattle.media.proofs.Blaming.{no_call, then_more}
use Rattle.log_blocks.specs.Batch.{AreSized}
use Rattle.log_blocks.specs.Log.{Block, Behind, blocks}
use Rattle.log_blocks.specs.Opening.{places}
use Rattle.log_blocks.proofs.BlockLists.{length-next, length-part}
use Rattle.log_blocks.proofs.Flushing.{none_yet, one_more_left, one_more_moment, one_more_stands, so_far_left}
use Rattle.log_blocks.proofs.Progressing.{first, first_is, first_left, is_left, left_more, places_more, sized_drop, length-places, not_empty, empty_is}
use Rattle.log_blocks.proofs.flush.write_pending.Goals as goal

pub loop-pending-init : goal.loop-pending-init
loop-pending-init g c = (
  record {
    count = 0;
    within = omega arith;
    left = refl;
    places_are = sym (append-nil c.args.done.now);
    gate_is = omega arith;
  },
  none_yet g.D.Disk.tells g.D.Disk.start g.D.Disk.len g.D.Disk.faults g.D.Disk.moment g.D.Disk.told g.D.Disk.may_leave g.D.Disk.left_since c.args.device.now c.args.gate.now c.args.pending.now
      c.requires.not_past (λ k left. g.met.D.Disk.only_now c.args.device.now k left),
  no_call g.D.Disk.passes g.D.Disk.refused g.D.Disk.own c.args.device.now ⊥ (λ never. never),
)

pub write_block-requires-clause-fits : goal.write_block-requires-clause-fits
write_block-requires-clause-fits g c =
    let p = c.loop-pending.invariant.0 in
    let lt = is_left c.args.pending.now c.loop-pending.pending p.count p.left (not_empty _ _ c.is_empty.ensures c.loop-pending-test.true) in
    let b = first c.args.pending.now p.count in
    let bytes = c.first_bytes-bytes.ensures b (first_left _ _ p.count p.left lt) in
    omega (arith, length-next c.args.pending.now p.count b lt (first_is _ _ lt), length-part c.args.pending.now (p.count + 1), p.gate_is, ap length bytes, c.requires.fits)

pub overflow_add-gate : goal.overflow_add-gate
overflow_add-gate g c =
    let p = c.loop-pending.invariant.0 in
    let lt = is_left c.args.pending.now c.loop-pending.pending p.count p.left (not_empty _ _ c.is_empty.ensures c.loop-pending-test.true) in
    let b = first c.args.pending.now p.count in
    let bytes = c.first_bytes-bytes.ensures b (first_left _ _ p.count p.left lt) in
    omega (arith, length-next c.args.pending.now p.count b lt (first_is _ _ lt), length-part c.args.pending.now (p.count + 1), p.gate_is, ap length bytes, c.requires.fits)

pub settle_first-requires-clause-few : goal.settle_first-requires-clause-few
settle_first-requires-clause-few g c =
    let p = c.loop-pending.invariant.0 in
    let lt = is_left c.args.pending.now c.loop-pending.pending p.count p.left (not_empty _ _ c.is_empty.ensures c.loop-pending-test.true) in
    let n = length-places c.args.gate.now (take p.count c.args.pending.now) in
    omega (arith, c.requires.few, lt, ap length p.places_are, length-append c.args.done.now (places c.args.gate.now (take p.count c.args.pending.now)), n, length-take p.count c.args.pending.now)

pub settle_first-requires-clause-sized : goal.settle_first-requires-clause-sized
settle_first-requires-clause-sized g c =
    let p = c.loop-pending.invariant.0 in
    subst AreSized (sym p.left) (sized_drop p.count c.args.pending.now c.requires.sized)

pub returns-in_err-write_block-clause-any_moment : goal.returns-in_err-write_block-clause-any_moment
returns-in_err-write_block-clause-any_moment g c tells only bs place behind seq =
    let p = c.loop-pending.invariant.0 in
    let lt = is_left c.args.pending.now c.loop-pending.pending p.count p.left (not_empty _ _ c.is_empty.ensures c.loop-pending-test.true) in
    let b = first c.args.pending.now p.count in
    let bytes = c.first_bytes-bytes.ensures b (first_left _ _ p.count p.left lt) in
    one_more_moment g.D.Disk.tells g.D.Disk.start g.D.Disk.len g.D.Disk.faults g.D.Disk.moment g.D.Disk.told g.D.Disk.may_leave g.D.Disk.left_since
    c.args.device.now c.loop-pending.device c.write_block.new.device c.args.gate.now c.loop-pending.gate c.args.pending.now p.count
    lt b (first_is _ _ lt) c.loop-pending.invariant.1
    _ bytes c.write_block.ensures.any_moment tells only bs (record { place = place; behind = behind }) seq

pub loop-pending-preserved : goal.loop-pending-preserved
loop-pending-preserved g c =
    let p = c.loop-pending.invariant.0 in
    let inv = c.loop-pending.invariant.1 in
    let lt = is_left c.args.pending.now c.loop-pending.pending p.count p.left (not_empty _ _ c.is_empty.ensures c.loop-pending-test.true) in
    let b = first c.args.pending.now p.count in
    let is = first_is c.args.pending.now p.count lt in
    let here = first_left c.args.pending.now c.loop-pending.pending p.count p.left lt in
    let bytes = c.first_bytes-bytes.ensures b here in
    let more = length-next c.args.pending.now p.count b lt is in
    let gate : c.loop-pending.gate + length c.first_bytes-bytes.result.now ≡ c.args.gate.now + length (blocks (take (p.count + 1) c.args.pending.now)) =
    omega (arith, p.gate_is, more, ap length bytes) in (
      record {
        count = p.count + 1;
        within = omega (arith, lt);
        left = left_more _ _ _ p.count p.left c.settle_first.ensures.pending;
        places_are = places_more c.args.gate.now c.loop-pending.gate c.args.done.now c.loop-pending.done _ c.args.pending.now p.count b p.places_are p.gate_is
            (c.settle_first.ensures.done b here) lt is;
        gate_is = gate;
      },
      record {
        start_same = c.write_block.ensures.start ∙ inv.start_same;
        gate_is = gate;
        not_past = omega (arith, c.in_ok-write_block.ensures.len);
        later = omega (arith, inv.later, c.write_block.ensures.cause.later);
        durable = λ t only. c.in_ok-write_block.ensures.durable t;
        stands = one_more_stands g.D.Disk.tells g.D.Disk.start g.D.Disk.len g.D.Disk.faults g.D.Disk.moment g.D.Disk.told g.D.Disk.may_leave g.D.Disk.left_since
            c.args.device.now c.loop-pending.device c.write_block.new.device c.args.gate.now c.loop-pending.gate c.args.pending.now p.count
            lt b is inv _ bytes c.in_ok-write_block.ensures.written;
        any_moment = one_more_moment g.D.Disk.tells g.D.Disk.start g.D.Disk.len g.D.Disk.faults g.D.Disk.moment g.D.Disk.told g.D.Disk.may_leave g.D.Disk.left_since
            c.args.device.now c.loop-pending.device c.write_block.new.device c.args.gate.now c.loop-pending.gate c.args.pending.now p.count
            lt b is inv _ bytes c.write_block.ensures.any_moment;
      },
      then_more g.D.Disk.passes g.D.Disk.refused g.D.Disk.own _ _ _ ⊥ ⊥ c.loop-pending.invariant.2 (λ never. never) c.in_ok-write_block.ensures.fuse,
    )

pub returns-clause-written : goal.returns-clause-written
returns-clause-written g c tells bs place behind =
    let p = c.loop-pending.invariant.0 in
    let at = c.loop-pending.invariant.1.stands tells bs (record { place = place; behind = behind }) in
    let none = empty_is c.loop-pending.pending _ c.is_empty.ensures c.loop-pending-test.false in
    let all : take p.count c.args.pending.now ≡ c.args.pending.now = take_all _ _ (omega (arith, ap length p.left, length-drop p.count c.args.pending.now, none)) in
    subst (λ (l : List Block). Behind (g.D.Disk.start c.args.device.now) (blocks (bs ++ l)) (g.D.Disk.told c.loop-pending.device)) all at.behind

pub returns-in_err-write_block-clause-left : goal.returns-in_err-write_block-clause-left
returns-in_err-write_block-clause-left g c tells only bs place behind seq =
    let p = c.loop-pending.invariant.0 in
    let inv = c.loop-pending.invariant.1 in
    let lt = is_left c.args.pending.now c.loop-pending.pending p.count p.left (not_empty _ _ c.is_empty.ensures c.loop-pending-test.true) in
    let b = first c.args.pending.now p.count in
    let bytes = c.first_bytes-bytes.ensures b (first_left _ _ p.count p.left lt) in
    let left = one_more_left g.D.Disk.tells g.D.Disk.start g.D.Disk.len g.D.Disk.faults g.D.Disk.moment g.D.Disk.told g.D.Disk.may_leave g.D.Disk.left_since
    c.args.device.now c.loop-pending.device c.write_block.new.device c.args.gate.now c.loop-pending.gate c.args.pending.now p.count
    lt b (first_is _ _ lt) inv _ bytes tells bs (record { place = place; behind = behind }) seq in
    record {
      done = p.count;
      within = p.within;
      rest_is = p.left;
      read = left (g.D.Disk.told c.write_block.new.device) (c.write_block.ensures.left tells);
      crash = λ k may. left k (λ front inner at is shut.
          let run = c.write_block.ensures.any_moment tells (inv.durable tells only) front inner at is shut in
          run.each k (g.met.D.Disk.counts_now c.write_block.new.device (g.D.Disk.moment c.loop-pending.device) k run.later may));
    }

pub returns-clause-left : goal.returns-clause-left
returns-clause-left g c tells only bs place behind seq =
    let p = c.loop-pending.invariant.0 in
    let inv = c.loop-pending.invariant.1 in
    let left = so_far_left g.D.Disk.tells g.D.Disk.start g.D.Disk.len g.D.Disk.faults g.D.Disk.moment g.D.Disk.told g.D.Disk.may_leave g.D.Disk.left_since
    c.args.device.now c.loop-pending.device c.args.gate.now c.loop-pending.gate c.args.pending.now p.count p.within inv tells bs (record { place = place; behind = behind }) seq in
    record {
      done = p.count;
      within = p.within;
      rest_is = p.left;
      read = left (g.D.Disk.told c.loop-pending.device) refl;
      crash = λ k may. left k (inv.durable tells only k may);
    }
