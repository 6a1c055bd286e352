use Rattle.std.proofs.Common.{◌≡◌, ◌-◌, ◌^◌}
use Rattle.store_pages.specs.Pages.{IsIdle, Lacks, WritesPages}
use Rattle.own_life.specs.State.{GoesOn}
use Rattle.own_life.proofs.Sequences.{CleanUpto}
use Rattle.own_life.proofs.life.OwnLife.close.Given as goal

abbrev pub invariant-loop-page : goal.invariant-loop-page
invariant-loop-page g l = record {
  goes : GoesOn l.fn.self l.self;
  writes : WritesPages l.fn.self.history l.self.history;
  names : l.self.active ≡ l.fn.self.active;
  clean : CleanUpto (Lacks l.pages.pool.frames) l.after;
  idle : IsIdle l.pages.pool.out l.pages.pool.reserves;
}

abbrev pub decreases-loop-page : goal.decreases-loop-page
decreases-loop-page g l = 2 ^ 32 - l.after
