use Rattle.std.proofs.Common.{arith, ap, sym, ◌∙◌, subst}
use Rattle.page_ops.specs.Asking.{IsForestalled, IsTimely, WasTimely, can_be_late}
use Rattle.journal.proofs.Lateness.{late_at, one_can, timely_all, timely_more, timely_none}
use Rattle.journal.proofs.late.first_late.Goals as goal

pub loop-rec-init : goal.loop-rec-init
loop-rec-init c = timely_none c.args.listing.now c.args.places.now c.args.losers.now c.args.recs.now

pub returns-in-Some-clause-late : goal.returns-in-Some-clause-late
returns-in-Some-clause-late c opening h k =
    late_at opening h c.in-Some.place c.loop-rec.rec-index c.args.recs.now c.rec-item.result (omega (arith, c.loop-rec-test.true)) (subst (IsForestalled opening h c.in-Some.place) c.rec-item.is (c.in-Some.ensures.late opening h k))

pub returns-in-Some-clause-kind : goal.returns-in-Some-clause-kind
returns-in-Some-clause-kind c = one_can c.loop-rec.rec-index c.args.recs.now c.rec-item.result (omega (arith, c.loop-rec-test.true)) (ap can_be_late (sym c.rec-item.is) ∙ c.in-Some.ensures.kind)

pub loop-rec-preserved : goal.loop-rec-preserved
loop-rec-preserved c =
    timely_more c.args.listing.now c.args.places.now c.args.losers.now c.loop-rec.rec-index _ c.args.recs.now c.rec-item.result c.loop-rec.invariant (omega arith) (omega (arith, c.loop-rec-test.true))
    (λ opening h k was. subst (IsTimely opening h) c.rec-item.is (c.in_default.ensures.none opening h k (subst (WasTimely opening h) (sym c.rec-item.is) was)))

pub returns-clause-none : goal.returns-clause-none
returns-clause-none c = timely_all c.args.listing.now c.args.places.now c.args.losers.now c.loop-rec.rec-index c.args.recs.now c.loop-rec.invariant (omega (arith, c.loop-rec-test.false))
