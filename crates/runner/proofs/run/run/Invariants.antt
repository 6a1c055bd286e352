use Rattle.std.proofs.Common.{◌≤◌, List}
use Rattle.line_reader.specs.Lines.{to_come}
use Rattle.life_commands.specs.Living.{Out}
use Rattle.life_commands.specs.LogDisk.{View, IsWhole, seen}
use Rattle.life_commands.specs.Stores.{stores}
use Rattle.life_commands.specs.Turns.{Start, Turn, begin_stage}
use Rattle.runner.specs.Clause.{Between}
use Rattle.runner.specs.Devices.{Stored}
use Rattle.runner.specs.Vault.{WithVault}
use Rattle.runner.proofs.run.run.Given as goal

abbrev pub invariant-loop : goal.invariant-loop
invariant-loop g l = record {
  turns : (v : View g.L.Disk.tells) (start : Start) → Stored (IsWhole v) (stores g.D.PageDevice g.V.Vault) (l.fn.pages, l.fn.vault) (Out g.L.Disk.tells (seen g.L.Disk v) l.fn.disk) (begin_stage start)
      → (turns : List Turn) × Between (IsWhole v) start (WithVault l.armed (Stored (IsWhole v) (stores g.D.PageDevice g.V.Vault) (l.pages, l.vault) (Out g.L.Disk.tells (seen g.L.Disk v) l.disk))) (to_come l.fn.input (g.S.Source.left l.fn.source)) (g.K.Sink.told l.fn.sink) l.input turns (g.S.Source.left l.source) (g.K.Sink.told l.sink);
  source : g.S.Source.faults l.fn.source ≤ g.S.Source.faults l.source;
  sink : g.K.Sink.faults l.fn.sink ≤ g.K.Sink.faults l.sink;
  log : g.L.Disk.own l.fn.disk ≤ g.L.Disk.own l.disk;
}
