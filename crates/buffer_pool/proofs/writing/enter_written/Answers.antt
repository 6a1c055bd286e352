use Rattle.std.proofs.Common.{[], ◌∷◌, refl, Ok}
use Rattle.wal_record.specs.declared.entry.Entry.TheVariants as entries
use Rattle.std.proofs.lemmas.Result.{err_from_is_err_and}
use Rattle.page_ops.proofs.Gaining.{gains_of}
use Rattle.buffer_pool.specs.Writes.{is_written, written_of}
use Rattle.buffer_pool.proofs.Entering.{upheld_one}
use Rattle.buffer_pool.proofs.Storing.{entered_none, entered_one, has_rights, is_askable, is_group, is_timely, written_none, written_one}
use Rattle.buffer_pool.proofs.writing.enter_written.Goals as goal

pub enter-requires : goal.enter-requires
enter-requires g c = record {
  group = is_group c.args.page c.args.lsn c.requires.page c.requires.lsn _ c.requires.group;
  rights = has_rights c.args.page c.args.lsn c.requires.page c.requires.lsn _ c.requires.group _ _ _ c.none-rights.ensures;
  askable = is_askable c.args.page c.args.lsn c.requires.page c.requires.lsn _ c.requires.group g.N.Life.opens _ c.requires.named _ c.none-rights.ensures;
  timely = λ opening stands. is_timely c.args.page c.args.lsn c.requires.page c.requires.lsn _ c.requires.group opening _;
}

pub returns-in_err-enter-clause-enters : goal.returns-in_err-enter-clause-enters
returns-in_err-enter-clause-enters g c =
    let p = err_from_is_err_and c.from_residual.result c.from_residual.ensures.1 in
    rw (p.1, p.2) (written_none _ _ _ _ _ _ _ _ (gains_of _ _ _ [] _ _
    (entered_none c.args.page c.args.lsn c.requires.page c.requires.lsn _ c.requires.group _ _ _ c.enter.new.group _ _ _ _ _ _ c.none-rights.ensures _ c.in_err-enter.ensures.entered)))

pub returns-clause-enters : goal.returns-clause-enters
returns-clause-enters g c =
    written_one _ _ _ _ _ _ _ c.enter.new.group.lsn (gains_of _ _ _ (entries.Rec c.enter.new.group.lsn (written_of c.args.page c.args.lsn) ∷ []) _ _
    (entered_one c.args.page c.args.lsn c.requires.page c.requires.lsn _ c.requires.group _ _ _ c.enter.new.group _ _ _ _ _ _ c.none-rights.ensures c.in-At.field-0 (Ok c.in_ok-enter.field-0) (λ i. Ok (c.in-At.is i)) c.in_ok-enter.ensures.entered c.in_ok-enter.ensures.filled))

pub returns-clause-entered : goal.returns-clause-entered
returns-clause-entered g c =
    upheld_one _ _ _ is_written (entries.Rec c.enter.new.group.lsn (written_of c.args.page c.args.lsn)) _ _ _ _ refl (λ h. refl)
    (entered_one c.args.page c.args.lsn c.requires.page c.requires.lsn _ c.requires.group _ _ _ c.enter.new.group _ _ _ _ _ _ c.none-rights.ensures c.in-At.field-0 (Ok c.in_ok-enter.field-0) (λ i. Ok (c.in-At.is i)) c.in_ok-enter.ensures.entered c.in_ok-enter.ensures.filled)
