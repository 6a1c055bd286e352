use Rattle.std.proofs.Common.{◌≡◌, ◌≤◌}
use Rattle.rollback.specs.Owners.{IsLoserOf}
use Rattle.own_life.specs.Helps.{Undoes}
use Rattle.own_life.specs.State.{GoesOn}
use Rattle.store_pages.specs.Pages.{IsIdle}
use Rattle.own_life.proofs.life.OwnLife.undo_losers.Given as goal

abbrev pub invariant-loop-taken : goal.invariant-loop-taken
invariant-loop-taken g l = record {
  goes : GoesOn l.fn.self l.self;
  undoes : Undoes (IsLoserOf g.N.Life.opens) l.taken l.fn.self.history l.self.history;
  counted : l.fn.pages.pool.supply.bases.faults ≤ l.pages.pool.supply.bases.faults;
  names : l.self.active ≡ l.fn.self.active;
  idle : IsIdle l.pages.pool.out l.pages.pool.reserves;
}
