use Rattle.std.proofs.Common.{◌≡◌, ◌≤◌}
use Rattle.store_life.specs.Steps.{AddsUpkeep}
use Rattle.own_life.specs.State.{GoesOn}
use Rattle.store_pages.specs.Pages.{IsIdle}
use Rattle.own_life.proofs.life.OwnLife.bring_pages.Given as goal

abbrev pub invariant-loop-taken : goal.invariant-loop-taken
invariant-loop-taken g l = record {
  goes : GoesOn l.fn.self l.self;
  upkeep : AddsUpkeep l.fn.self.history l.self.history;
  counted : l.fn.pages.pool.supply.bases.faults ≤ l.pages.pool.supply.bases.faults;
  names : l.self.active ≡ l.fn.self.active;
  idle : IsIdle l.pages.pool.out l.pages.pool.reserves;
}
