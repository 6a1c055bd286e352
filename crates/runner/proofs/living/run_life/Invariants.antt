use Rattle.std.proofs.Common.{◌≤◌, ℕ, List}
use Rattle.std.specs.Prelude.{Option}
use Rattle.life_commands.specs.LogDisk.{View, IsWhole, seen}
use Rattle.life_commands.specs.Turns.{Start, Turn}
use Rattle.life_commands.specs.Living.{Within}
use Rattle.runner.specs.Clause.{Between}
use Rattle.runner.specs.Vault.{WithVault}
use Rattle.store_pages.specs.Pages.{IsIdle}
use Rattle.runner.proofs.living.run_life.Given as goal

abbrev pub invariant-loop : goal.invariant-loop
invariant-loop g l = record {
  idle : IsIdle l.pages.pool.out l.pages.pool.reserves;
  turns : (v : View g.L.Disk.tells) (start : Start) (left told : Option (List ℕ)) (turns : List Turn) → Between (IsWhole v) start (WithVault l.fn.armed (Within (seen g.L.Disk v) g.N.Life.opens l.fn.life)) left told l.fn.input turns (g.S.Source.left l.fn.source) (g.K.Sink.told l.fn.sink)
      → (more : List Turn) × Between (IsWhole v) start (WithVault l.armed (Within (seen g.L.Disk v) g.N.Life.opens l.life)) left told l.input more (g.S.Source.left l.source) (g.K.Sink.told l.sink);
  source : g.S.Source.faults l.fn.source ≤ g.S.Source.faults l.source;
  sink : g.K.Sink.faults l.fn.sink ≤ g.K.Sink.faults l.sink;
  log : l.fn.life.calls.own ≤ l.life.calls.own;
}
