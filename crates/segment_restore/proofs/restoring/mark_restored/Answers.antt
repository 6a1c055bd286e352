use Rattle.std.proofs.Common.{Ok}
use Rattle.page_ops.proofs.Gaining.{looked, upheld}
use Rattle.page_repair.specs.Supplies.{is_restored}
use Rattle.segment_restore.proofs.Segments.{entered_at, entered_none, has_rights, is_askable, is_group, is_timely, restored_at, spelled_by, upheld_at}
use Rattle.segment_restore.proofs.restoring.mark_restored.Goals as goal

pub enter-requires : goal.enter-requires
enter-requires g c =
    let spelled = spelled_by c.args.segment c.ranges.segment.fits in
    record {
      group = is_group c.args.segment spelled _ c.in-Ok.ensures;
      rights = has_rights c.args.segment spelled _ c.in-Ok.ensures _ _ _;
      askable = is_askable c.args.segment spelled _ c.in-Ok.ensures g.N.Life.opens _ c.requires.was _;
      timely = λ opening stands. is_timely c.args.segment spelled _ c.in-Ok.ensures opening _ (c.requires.was opening stands);
    }

pub returns-in_default-clause-entered : goal.returns-in_default-clause-entered
returns-in_default-clause-entered g c = upheld _ _ _ is_restored _ _ _ _ (looked _ _ _ _ _ _ _ _ _ c.see.ensures.seen)

pub returns-in_err-enter-clause-entered : goal.returns-in_err-enter-clause-entered
returns-in_err-enter-clause-entered g c =
    entered_none c.args.segment (spelled_by c.args.segment c.ranges.segment.fits) _ c.in-Ok.ensures _ _ _ c.enter.new.group _ _ _ _ _ _ _ c.in_err-enter.ensures.entered

pub returns-in-At-clause-restored : goal.returns-in-At-clause-restored
returns-in-At-clause-restored g c =
    let spelled = spelled_by c.args.segment c.ranges.segment.fits in
    λ opening stands.
    restored_at c.args.segment spelled _ c.in-Ok.ensures g.N.Life.opens g.N.Life.entries g.N.Life.session_entries c.enter.new.group _ _ c.args.pass.now c.enter.new.pass c.none-rights.result c.enter.new.rights c.enter.new.group.lsn
    (entered_at c.args.segment spelled _ c.in-Ok.ensures g.N.Life.opens g.N.Life.entries g.N.Life.session_entries c.enter.new.group (g.J.Entering.account c.args.journal.now) (g.J.Entering.account c.enter.new.self) c.args.pass.now c.enter.new.pass c.none-rights.result c.enter.new.rights
    c.in-At.field-0 (Ok c.in_ok-enter.field-0) (λ i. Ok (c.in-At.is i)) c.in_ok-enter.ensures.entered c.in_ok-enter.ensures.filled)
    opening

pub returns-in-At-clause-entered : goal.returns-in-At-clause-entered
returns-in-At-clause-entered g c =
    let spelled = spelled_by c.args.segment c.ranges.segment.fits in
    upheld_at c.args.segment spelled _ c.in-Ok.ensures g.N.Life.opens g.N.Life.entries g.N.Life.session_entries c.enter.new.group _ _ c.args.pass.now c.enter.new.pass c.none-rights.result c.enter.new.rights c.enter.new.group.lsn
    (entered_at c.args.segment spelled _ c.in-Ok.ensures g.N.Life.opens g.N.Life.entries g.N.Life.session_entries c.enter.new.group (g.J.Entering.account c.args.journal.now) (g.J.Entering.account c.enter.new.self) c.args.pass.now c.enter.new.pass c.none-rights.result c.enter.new.rights c.in-At.field-0
    (Ok c.in_ok-enter.field-0) (λ i. Ok (c.in-At.is i)) c.in_ok-enter.ensures.entered c.in_ok-enter.ensures.filled)
