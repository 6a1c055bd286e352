use Rattle.std.proofs.Common.{arith, false, refl, [], ◌∷◌, ◌++◌}
use Rattle.life_commands.specs.Living.{Out}
use Rattle.life_commands.specs.LogDisk.{IsWhole, seen}
use Rattle.life_commands.specs.Stores.{stores}
use Rattle.life_commands.specs.Turns.{stage}
use Rattle.runner.specs.Devices.{Stored}
use Rattle.runner.specs.Vault.{WithVault}
use Rattle.runner.proofs.Places.{rests_out}
use Rattle.runner.proofs.Runs.{at_start, ends_here}
use Rattle.runner.proofs.run.run.Goals as goal

pub loop-init : goal.loop-init
loop-init g c = record { turns = λ v start out. ([], at_start (IsWhole v) start (WithVault false (Stored (IsWhole v) (stores g.D.PageDevice g.V.Vault) (c.args.pages, c.args.vault) (Out g.L.Disk.tells (seen g.L.Disk v) c.args.disk))) _ _ c.args.input.now c.requires.0 c.requires.1 c.requires.2 (record { here = out; vault = refl })); source = omega arith; sink = omega arith; log = omega arith }

pub loop-preserved : goal.loop-preserved
loop-preserved g c = record {
  turns = λ v start out.
      let p = c.loop.invariant.turns v start out in
      let t = c.in-Goes.ensures.turns v start _ _ p.0 p.1 in
      c.in-Over.ensures.turns v start _ _ (p.0 ++ t.0 ∷ []) t.1;
  source = omega (arith, c.loop.invariant.source, c.in-Goes.ensures.later.0, c.in-Over.ensures.later.0);
  sink = omega (arith, c.loop.invariant.sink, c.in-Goes.ensures.later.1, c.in-Over.ensures.later.1);
  log = omega (arith, c.loop.invariant.log, c.in-Goes.ensures.cause, c.in-Over.ensures.cause);
}

pub returns-in-Ends-run_from-clause-headline : goal.returns-in-Ends-run_from-clause-headline
returns-in-Ends-run_from-clause-headline g c = λ v start out.
    let p = c.loop.invariant.turns v start out in
    let t = c.in-Goes.ensures.turns v start _ _ p.0 p.1 in
    c.in-Ends-run_from.ensures.turns v start _ _ (p.0 ++ t.0 ∷ []) t.1

pub returns-in-Ends-clause-headline : goal.returns-in-Ends-clause-headline
returns-in-Ends-clause-headline g c = λ v start out.
    let p = c.loop.invariant.turns v start out in
    c.in-Ends.ensures.turns v start _ _ p.0 p.1

pub returns-clause-headline : goal.returns-clause-headline
returns-clause-headline g c = λ v start out.
    let p = c.loop.invariant.turns v start out in
    ends_here g.L.Disk.tells (seen g.L.Disk v) (stores g.D.PageDevice g.V.Vault) 0 c.loop.disk (c.loop.pages, c.loop.vault) p.1 (rests_out g.L.Disk.tells (seen g.L.Disk v) (stores g.D.PageDevice g.V.Vault) (c.loop.pages, c.loop.vault) c.loop.disk (stage start p.0) p.1.holds.here)
