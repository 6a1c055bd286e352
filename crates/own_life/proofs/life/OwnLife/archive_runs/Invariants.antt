use Rattle.std.proofs.Common.{◌≡◌, ◌≤◌}
use Rattle.store_pages.specs.Backed.{MakesUpto}
use Rattle.store_pages.specs.Pages.{IsIdle}
use Rattle.own_life.specs.State.{GoesOn}
use Rattle.own_life.proofs.life.OwnLife.archive_runs.Given as goal

abbrev pub invariant-loop-taken : goal.invariant-loop-taken
invariant-loop-taken g l = record {
  goes : GoesOn l.fn.self l.self;
  made : MakesUpto l.taken l.fn.self.history l.self.history;
  frames : l.pages.pool.frames ≡ l.fn.pages.pool.frames;
  plan : l.pages.pool.plan ≡ l.fn.pages.pool.plan;
  counted : l.fn.pages.pool.supply.bases.faults ≤ l.pages.pool.supply.bases.faults;
  names : l.self.active ≡ l.fn.self.active;
  idle : IsIdle l.pages.pool.out l.pages.pool.reserves;
}
