-- Which step of maintenance goes first.
use Rattle.std.specs.Prelude.{Option}
use Rattle.std.specs.Option.{option_map, option_or}
use Rattle.restart.specs.declared.step.Counts.{Counts}
use Rattle.restart.specs.declared.step.Step.{Step}
use Rattle.restart.specs.declared.step.Step.TheVariants as steps

-- losers, then segments, then pages to redo, then pages to write, then the archive
abbrev pub first_step : Counts → Option Step
first_step c = option_or (option_map steps.UndoLoser c.undo) (option_or (option_map steps.RestoreSegment c.restore)
    (option_or (option_map steps.RedoPage c.redo) (option_or (option_map steps.WritePage c.write) (option_map steps.ArchiveNext c.archive))))
