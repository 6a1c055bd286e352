use Rattle.std.proofs.Common.{◌≡◌, ℕ}
use Rattle.store_pages.specs.Pages.{AllBut, AwaitsRedo, IsIdle, Lacks, WritesUpto}
use Rattle.own_life.specs.State.{GoesOn}
use Rattle.own_life.proofs.life.OwnLife.write_pages.Given as goal

abbrev pub invariant-loop-taken : goal.invariant-loop-taken
invariant-loop-taken g l = record {
  goes : GoesOn l.fn.self l.self;
  written : WritesUpto l.taken l.fn.self.history l.self.history;
  stored : AllBut l.taken (Lacks l.fn.pages.pool.frames) (Lacks l.pages.pool.frames);
  awaits : (page : ℕ) → AwaitsRedo l.pages.pool.plan page → AwaitsRedo l.fn.pages.pool.plan page;
  counted : l.pages.pool.supply.bases.faults ≡ l.fn.pages.pool.supply.bases.faults;
  names : l.self.active ≡ l.fn.self.active;
  idle : IsIdle l.pages.pool.out l.pages.pool.reserves;
}
