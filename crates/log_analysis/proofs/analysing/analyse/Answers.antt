use Rattle.std.proofs.Common.{rules, ◌+◌, ◌-◌, ◌<◌, inl, inr, length, refl, sym, subst, arith}
use Rattle.std.proofs.lemmas.Result.{err_from_is_err_and}
use Rattle.media.proofs.Blaming.{then_more}
use Rattle.log_manager.proofs.Finding.{length-firsts}
use Rattle.log_analysis.specs.Analysed.{IsNotAnalysed}
use Rattle.log_analysis.specs.Taken.{GoesOnWith}
use Rattle.log_analysis.proofs.Going.{knows_none}
use Rattle.log_analysis.proofs.OpenBlocks.{begins_now, block_now, checkpoint_now, count_now, counted_now, first_now, lacks_now, named_now, needed_now, not_analysed, payload_now}
use Rattle.log_analysis.proofs.Reading.{comes_to, lawful_block, none_read, one_more}
use Rattle.log_analysis.proofs.Standing.{all_listed, has_named, never_bad, no_blocks}
use Rattle.log_analysis.proofs.analysing.analyse.Goals as goal

pub returns-then-blocks-eq0-clause-listed : goal.returns-then-blocks-eq0-clause-listed
returns-then-blocks-eq0-clause-listed g c = λ t bs rs d hold lawful short.
    let log = c.args.log.now in
    let none = no_blocks rs bs hold (omega (arith, count_now g.L.Disk.told g.L.Disk.may_leave log log bs d c.requires.fresh refl, c.blocks-2.ensures.value, c.if-blocks-eq0.true)) in
    (subst (λ l. GoesOnWith l c.new-listing.result) (sym none) (c.new-listing.ensures.listing, knows_none _ c.new-listing.result c.new-listing.ensures.noted), tt)

pub returns-in_default-clause-listed : goal.returns-in_default-clause-listed
returns-in_default-clause-listed g c = λ t bs rs d hold lawful short.
    let log = c.args.log.now in
    let some : 0 < length log.places + length log.pending = omega (arith, c.if-blocks-eq0.false, c.blocks-2.ensures.value) in
    let checkpoint = checkpoint_now g.L.Disk.told g.L.Disk.may_leave log log bs d c.requires.fresh refl c.checkpoint.result c.checkpoint.ensures in
    let lacks = lacks_now g.L.Disk.told g.L.Disk.may_leave log log bs d c.requires.fresh refl c.max.result some (c.in_default.ensures.none refl some) (omega (arith, c.max.ensures, checkpoint)) in
    absurd (has_named rs bs hold d.stands.sequence.run (omega (arith, some, count_now g.L.Disk.told g.L.Disk.may_leave log log bs d c.requires.fresh refl)) lacks)

pub returns-in_default-clause-bad : goal.returns-in_default-clause-bad
returns-in_default-clause-bad g c = λ t bs d.
    let log = c.args.log.now in
    let some : 0 < length log.places + length log.pending = omega (arith, c.if-blocks-eq0.false, c.blocks-2.ensures.value) in
    let count = count_now g.L.Disk.told g.L.Disk.may_leave log log bs d c.requires.fresh refl in
    let checkpoint = checkpoint_now g.L.Disk.told g.L.Disk.may_leave log log bs d c.requires.fresh refl c.checkpoint.result c.checkpoint.ensures in
    let lacks = lacks_now g.L.Disk.told g.L.Disk.may_leave log log bs d c.requires.fresh refl c.max.result some (c.in_default.ensures.none refl some) (omega (arith, c.max.ensures, checkpoint)) in
    subst (IsNotAnalysed bs) (sym c.no_checkpoint.ensures) (inr (omega (arith, some, count, c.blocks-3.ensures.value), refl, inl lacks))

pub loop-block-init : goal.loop-block-init
loop-block-init g c = record {
  same = refl;
  live = c.requires.live;
  durable = λ t bs d. d;
  faults = omega arith;
  fuse = (search rules);
  so_far = λ t bs d. (c.new-listing.result, (c.new-listing.ensures.listing, knows_none _ c.new-listing.result c.new-listing.ensures.noted), none_read bs c.in-Some.from c.checkpoint.result c.new-listing.result);
}

pub loop-block-preserved : goal.loop-block-preserved
loop-block-preserved g c =
    let inv = c.loop-block.invariant in
    let log = c.args.log.now in
    let now = c.loop-block.log in
    record {
      same = (search rules);
      live = (search rules);
      durable = (search rules);
      faults = (search rules);
      fuse = then_more g.L.Disk.passes g.L.Disk.refused g.L.Disk.own _ _ _ ⊥ ⊥ inv.fuse (λ (x : ⊥). x) c.in_ok-read_block.ensures.fuse;
      so_far = λ t bs d.
          let lt : c.loop-block.block < length now.places + length now.pending = omega (arith, count_now g.L.Disk.told g.L.Disk.may_leave log now bs d c.requires.fresh inv.same, count_now g.L.Disk.told g.L.Disk.may_leave log log bs d c.requires.fresh refl, c.loop-block-test.true, c.blocks-block-end.ensures.value) in
          let h = block_now g.L.Disk.told g.L.Disk.may_leave log now bs d c.requires.fresh inv.same c.loop-block.block lt in
          let payload = payload_now g.L.Disk.told g.L.Disk.may_leave log now bs d c.requires.fresh inv.same c.loop-block.block c.deref.result.now _ _ h c.deref.ensures.value c.new-payload.ensures.items (c.in_ok-read_block.ensures.payload t bs (inv.durable t bs d).stands (inv.durable t bs d).places_are) in
          let counted = counted_now g.L.Disk.told g.L.Disk.may_leave log now bs d c.requires.fresh inv.same c.loop-block.block c.count_of-count.result h c.count_of-count.ensures in
          let first = first_now g.L.Disk.told g.L.Disk.may_leave log now bs d c.requires.fresh inv.same c.loop-block.block c.first_of-first.result h c.first_of-first.ensures in
          let s = inv.so_far t bs d in (
            s.0,
            s.1,
            one_more bs c.in-Some.from c.loop-block.block c.checkpoint.result s.0 c.loop-block.listing s.2 h d.stands.sequence.run c.first_of-first.result c.count_of-count.result c.deref.result.now c.take_block.new.listing first counted payload c.in_ok-take_block.ensures.taken,
          );
    }

pub returns-in_err-take_block-clause-listed : goal.returns-in_err-take_block-clause-listed
returns-in_err-take_block-clause-listed g c = λ t bs rs d hold lawful short.
    let inv = c.loop-block.invariant in
    let log = c.args.log.now in
    let now = c.loop-block.log in
    let p = err_from_is_err_and c.from_residual-in_err-take_block.result c.from_residual-in_err-take_block.ensures.1 in
    let all = count_now g.L.Disk.told g.L.Disk.may_leave log log bs d c.requires.fresh refl in
    let lt : c.loop-block.block < length now.places + length now.pending = omega (arith, count_now g.L.Disk.told g.L.Disk.may_leave log now bs d c.requires.fresh inv.same, all, c.loop-block-test.true, c.blocks-block-end.ensures.value) in
    let h = block_now g.L.Disk.told g.L.Disk.may_leave log now bs d c.requires.fresh inv.same c.loop-block.block lt in
    let payload = payload_now g.L.Disk.told g.L.Disk.may_leave log now bs d c.requires.fresh inv.same c.loop-block.block c.deref.result.now _ _ h c.deref.ensures.value c.new-payload.ensures.items (c.in_ok-read_block.ensures.payload t bs (inv.durable t bs d).stands (inv.durable t bs d).places_are) in
    let counted = counted_now g.L.Disk.told g.L.Disk.may_leave log now bs d c.requires.fresh inv.same c.loop-block.block c.count_of-count.result h c.count_of-count.ensures in
    let first = first_now g.L.Disk.told g.L.Disk.may_leave log now bs d c.requires.fresh inv.same c.loop-block.block c.first_of-first.result h c.first_of-first.ensures in
    let checkpoint = checkpoint_now g.L.Disk.told g.L.Disk.may_leave log log bs d c.requires.fresh refl c.checkpoint.result c.checkpoint.ensures in
    let s = inv.so_far t bs d in
    let lawful_block = lawful_block bs c.in-Some.from c.loop-block.block c.checkpoint.result s.0 c.loop-block.listing s.2 h d.stands.sequence.run in
    let bad = c.in_err-take_block.ensures.bad (omega (arith, first, counted, lawful_block.last)) in
    rw (p.1, p.2) (tt, never_bad rs bs hold d.stands.sequence.run c.loop-block.block h (record { checkpoint = c.checkpoint.result; block = c.blocks-3.result - 1 }) checkpoint (omega (arith, lt, all)) c.in_err-take_block.field-0.0 (rw (sym first, sym counted, sym payload) bad))

pub returns-in_err-take_block-clause-bad : goal.returns-in_err-take_block-clause-bad
returns-in_err-take_block-clause-bad g c = λ t bs d.
    let inv = c.loop-block.invariant in
    let log = c.args.log.now in
    let now = c.loop-block.log in
    let p = err_from_is_err_and c.from_residual-in_err-take_block.result c.from_residual-in_err-take_block.ensures.1 in
    let all = count_now g.L.Disk.told g.L.Disk.may_leave log log bs d c.requires.fresh refl in
    let lt : c.loop-block.block < length now.places + length now.pending = omega (arith, count_now g.L.Disk.told g.L.Disk.may_leave log now bs d c.requires.fresh inv.same, all, c.loop-block-test.true, c.blocks-block-end.ensures.value) in
    let h = block_now g.L.Disk.told g.L.Disk.may_leave log now bs d c.requires.fresh inv.same c.loop-block.block lt in
    let payload = payload_now g.L.Disk.told g.L.Disk.may_leave log now bs d c.requires.fresh inv.same c.loop-block.block c.deref.result.now _ _ h c.deref.ensures.value c.new-payload.ensures.items (c.in_ok-read_block.ensures.payload t bs (inv.durable t bs d).stands (inv.durable t bs d).places_are) in
    let counted = counted_now g.L.Disk.told g.L.Disk.may_leave log now bs d c.requires.fresh inv.same c.loop-block.block c.count_of-count.result h c.count_of-count.ensures in
    let first = first_now g.L.Disk.told g.L.Disk.may_leave log now bs d c.requires.fresh inv.same c.loop-block.block c.first_of-first.result h c.first_of-first.ensures in
    let checkpoint = checkpoint_now g.L.Disk.told g.L.Disk.may_leave log log bs d c.requires.fresh refl c.checkpoint.result c.checkpoint.ensures in
    let s = inv.so_far t bs d in
    let run = d.stands.sequence.run in
    let lawful_block = lawful_block bs c.in-Some.from c.loop-block.block c.checkpoint.result s.0 c.loop-block.listing s.2 h run in
    let begins = begins_now g.L.Disk.told g.L.Disk.may_leave log log bs d c.requires.fresh refl c.in-Some.from c.max.result c.in-Some.ensures.found (omega (arith, c.in-Some.ensures.found.within, length-firsts log)) (omega (arith, c.max.ensures, checkpoint)) in
    let needed = needed_now g.L.Disk.told g.L.Disk.may_leave log log bs d c.requires.fresh refl c.in-Some.from c.loop-block.block c.max.result h c.in-Some.ensures.found (omega (arith, c.loop-block.auto.block)) (omega (arith, c.max.ensures, checkpoint)) in
    let named = named_now g.L.Disk.told g.L.Disk.may_leave log log bs d c.requires.fresh refl (record { checkpoint = c.checkpoint.result; block = c.blocks-3.result - 1 }) checkpoint (omega (arith, c.blocks-3.ensures.value, all)) in
    let bad = c.in_err-take_block.ensures.bad (omega (arith, first, counted, lawful_block.last)) in
    rw (p.1, p.2) (not_analysed bs c.loop-block.block h c.in_err-take_block.field-0.0 (comes_to bs c.in-Some.from c.loop-block.block c.checkpoint.result s.0 c.loop-block.listing s.2 h run begins needed) (omega (arith, lt, all)) (rw (sym first, sym counted, sym payload, sym named) bad))

pub returns-clause-listed : goal.returns-clause-listed
returns-clause-listed g c = λ t bs rs d hold lawful short.
    let inv = c.loop-block.invariant in
    let log = c.args.log.now in
    let all = count_now g.L.Disk.told g.L.Disk.may_leave log log bs d c.requires.fresh refl in
    let checkpoint = checkpoint_now g.L.Disk.told g.L.Disk.may_leave log log bs d c.requires.fresh refl c.checkpoint.result c.checkpoint.ensures in
    let begins = begins_now g.L.Disk.told g.L.Disk.may_leave log log bs d c.requires.fresh refl c.in-Some.from c.max.result c.in-Some.ensures.found (omega (arith, c.in-Some.ensures.found.within, length-firsts log)) (omega (arith, c.max.ensures, checkpoint)) in
    let s = inv.so_far t bs d in (
      all_listed rs bs hold d.stands.sequence.run lawful short c.in-Some.from c.loop-block.block s.0 c.loop-block.listing (omega (arith, all, c.loop-block-test.false, c.blocks-block-end.ensures.value)) (rw (sym checkpoint) s.2) begins (omega (arith, c.in-Some.ensures.found.within, length-firsts log, all)) s.1,
      tt,
    )
