use Rattle.std.proofs.Common.{List, refl, sym, ap, ◌∙◌, subst, inl}
use Rattle.std.proofs.lemmas.Result.{err_from_is_err_and}
use Rattle.journal.proofs.Declining.{declined_ended, declined_group, full_of}
use Rattle.journal.proofs.Ending.{told_stops, stopped_ends}
use Rattle.journal.proofs.Entering.{entered_group, filled_in}
use Rattle.journal.proofs.Lateness.{was_timely}
use mathlib.Core.List.{IsPrefix}
use Rattle.page_ops.specs.Asking.{IsLate}
use Rattle.page_ops.specs.Seeing.{Account, IsConsistent}
use Rattle.wal_record.specs.declared.entry.Entry.{Entry}
use Rattle.journal.specs.Kept.{IsKept}
use Rattle.journal.proofs.Losing.{losers_same}
use Rattle.journal.proofs.Restoring.{restored_same}
use Rattle.journal.proofs.Stopping.{still_safe}
use Rattle.journal.proofs.Calls.{blocks_is, calls_is, ended_is, history_is}
use Rattle.journal.proofs.journal.Journal.enter.Goals as goal

pub returns-in_err-check_open-clause-ends : goal.returns-in_err-check_open-clause-ends
returns-in_err-check_open-clause-ends g c =
    let p = err_from_is_err_and c.from_residual.result c.from_residual.ensures.1 in
    rw (p.1, p.2) (stopped_ends _ g.N.Life.log_faults _ _ _ _ _ _ c.see.ensures.counts (told_stops g.N.Life.log_faults _ _ _ c.in_err-check_open.ensures.ended))

pub late-requires : goal.late-requires
late-requires g c =
    let see = c.see.ensures in
    record { consistent = subst (IsConsistent g.N.Life.opens) (see.pass ∙ sym see.same) see.seen.now.consistent }

pub write-requires-clause-timely : goal.write-requires-clause-timely
write-requires-clause-timely g c opening stands =
    let see = c.see.ensures in
    c.in_default.ensures.none opening stands
    (was_timely opening c.args.pass.now.log c.see.new.self c.args.group.now.recs (subst (λ (h : List Entry). IsPrefix c.args.pass.now.log h) (see.pass ∙ sym see.same) see.seen.now.begins) (c.requires.timely opening stands))

pub returns-in-Some-clause-answer : goal.returns-in-Some-clause-answer
returns-in-Some-clause-answer g c =
    let see = c.see.ensures in (
      c.in-Some.ensures.kind,
      λ opening stands. subst (λ (h : List Entry). IsLate opening h c.in-Some.place c.args.group.now.recs) (sym (see.pass ∙ sym see.same)) (c.in-Some.ensures.late opening stands),
    )

pub returns-then-not-has_room-clause-entered : goal.returns-then-not-has_room-clause-entered
returns-then-not-has_room-clause-entered g c =
    let see = c.see.ensures in
    let done = c.decline-declined.ensures in
    let again = c.see-then-not-has_room.ensures in
    declined_group _ _ _ c.args.group.now _ _ _ _ _ _ _ _ _ c.see.new.self c.decline-declined.new.self.history _ _ _ _ see.seen see.counts c.in_ok-check_open.ensures.open.1 see.rights (see.pass ∙ sym see.same) done.durable again.seen again.counts
    (again.pass ∙ (history_is _ _ c.self-then-not-has_room.view_is)) c.decline-declined.result done.declined

pub returns-then-not-has_room-clause-full : goal.returns-then-not-has_room-clause-full
returns-then-not-has_room-clause-full g c =
    let done = c.decline-declined.ensures in
    let again = c.see-then-not-has_room.ensures in
    let lacks = c.if-not-has_room.ensures.none refl in
    full_of g.N.Life.opens c.args.group.now _ _ _ _ c.see.new.self c.decline-declined.new.self.history _ c.decline-declined.result done.declined (again.pass ∙ (history_is _ _ c.self-then-not-has_room.view_is)) lacks.0 lacks.1

pub returns-in-Ok-clause-entered : goal.returns-in-Ok-clause-entered
returns-in-Ok-clause-entered g c =
    let see = c.see.ensures in
    let again = c.see-in-Ok.ensures in
    entered_group _ _ _ _ _ _ _ _ _ _ _ _ _ _ _ _ _ _ _ _ see.seen see.counts c.in_ok-check_open.ensures.open.1 see.rights (see.pass ∙ sym see.same) c.in-Ok.ensures.entered again.seen again.counts (again.pass ∙ (history_is _ _ c.self-2.view_is))
    (c.if-not-has_room.ensures.room refl)

pub returns-in-Ok-clause-filled : goal.returns-in-Ok-clause-filled
returns-in-Ok-clause-filled g c = filled_in _ _ _ _ _ _ _ _ _ _ c.in-Ok.ensures.entered c.see.ensures.rights c.see-in-Ok.ensures.rights

pub invariant_of-self-in-Ok : goal.invariant_of-self-in-Ok
invariant_of-self-in-Ok g c =
    let j = c.self-2.inside in
    let k = c.self-2.invariant in
    let same = c.see-in-Ok.ensures.same in (
      k.0,
      subst (λ (h : List Entry). IsKept g.N.Life.opens g.L.Disk.tells g.L.Disk.told g.L.Disk.may_leave h j.log.log j.log.listing j.locks j.marked j.faults.total) (sym same) k.1,
      restored_same j.history _ j.restored k.2 same,
      losers_same g.N.Life.opens j.history _ j.losers j.losers k.3 same,
      still_safe g.N.Life.opens g.L.Disk.told g.L.Disk.may_leave j.history _ j.log.log.log j.log.log.log k.4 same refl,
      k.5,
    )

-- ---- the log disk

pub returns-then-not-has_room-clause-disk : goal.returns-then-not-has_room-clause-disk
returns-then-not-has_room-clause-disk g c =
    let done = c.decline-declined.ensures.disk in
    record {
      ended = ended_is _ _ c.self-then-not-has_room.view_is ∙ done.ended ∙ ended_is _ _ c.self.view_is;
      calls = calls_is _ _ c.self-then-not-has_room.view_is ∙ done.calls ∙ calls_is _ _ c.self.view_is;
      blocks = blocks_is _ _ c.self-then-not-has_room.view_is ∙ done.blocks ∙ blocks_is _ _ c.self.view_is;
    }

pub returns-then-not-has_room-clause-learns : goal.returns-then-not-has_room-clause-learns
returns-then-not-has_room-clause-learns g c =
    let same = declined_ended g.N.Life.opens c.args.group.now _ _ _ _ _ _ c.decline-declined.result c.decline-declined.ensures.declined in
    inl (ap (λ (a : Account). a.ended) c.see-then-not-has_room.ensures.counts ∙ same ∙ ap (λ (a : Account). a.ended) (c.in_ok-check_open.ensures.open.1 ∙ c.see.ensures.counts))

pub returns-in-Ok-clause-disk : goal.returns-in-Ok-clause-disk
returns-in-Ok-clause-disk g c =
    let done = c.in-Ok.ensures.disk in
    record {
      ended = ended_is _ _ c.self-2.view_is ∙ done.ended ∙ ended_is _ _ c.self.view_is;
      calls = calls_is _ _ c.self-2.view_is ∙ done.calls ∙ calls_is _ _ c.self.view_is;
      blocks = blocks_is _ _ c.self-2.view_is ∙ done.blocks ∙ blocks_is _ _ c.self.view_is;
    }

pub returns-in-Ok-clause-learns : goal.returns-in-Ok-clause-learns
returns-in-Ok-clause-learns g c =
    inl (ap (λ (a : Account). a.ended) c.see-in-Ok.ensures.counts ∙ ap (λ (a : Account). a.ended) c.in-Ok.ensures.entered.counted ∙ ap (λ (a : Account). a.ended) (c.in_ok-check_open.ensures.open.1 ∙ c.see.ensures.counts))
