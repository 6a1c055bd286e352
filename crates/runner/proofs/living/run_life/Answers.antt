use Rattle.std.proofs.Common.{arith, ap, [], ◌∷◌, ◌++◌}
use Rattle.page_ops.specs.Seeing.{Calls}
use Rattle.life_commands.specs.declared.status.Status.TheVariants as statuses
use Rattle.life_commands.specs.LogDisk.{seen}
use Rattle.life_commands.specs.Stores.{stores}
use Rattle.runner.proofs.Causes.{life_ended, lived_since, memory_cause}
use Rattle.runner.proofs.Insides.{devices_of, rests_in, told_in}
use Rattle.runner.proofs.Runs.{ends_here}
use Rattle.runner.proofs.living.run_life.Goals as goal

pub loop-init : goal.loop-init
loop-init g c = record { idle = c.requires.idle; turns = λ v start left told turns b. (turns, b); source = omega arith; sink = omega arith; log = omega arith }

pub loop-preserved : goal.loop-preserved
loop-preserved g c = record {
  idle = c.in-Goes.ensures.idle;
  turns = λ v start left told turns b.
      let p = c.loop.invariant.turns v start left told turns b in
      let t = c.in-Goes.ensures.turns v start left told p.0 p.1 in
      (p.0 ++ t.0 ∷ [], t.1);
  source = omega (arith, c.loop.invariant.source, c.in-Goes.ensures.later.0);
  sink = omega (arith, c.loop.invariant.sink, c.in-Goes.ensures.later.1);
  log = omega (arith, c.loop.invariant.log, c.in-Goes.ensures.cause);
}

pub returns-in-Stops-clause-turns : goal.returns-in-Stops-clause-turns
returns-in-Stops-clause-turns g c = λ v start left told turns b.
    let p = c.loop.invariant.turns v start left told turns b in
    let gone = c.into_devices-disk.ensures.left in
    let devices = devices_of g.L.Disk g.D.PageDevice g.V.Vault v g.N.Life.opens c.turn_inside.new.life c.into_devices-disk.result.0 c.into_devices-disk.result.1 c.into_devices-disk.result.2 gone in
    c.stop_life.ensures.turns v start gone.kept left told c.turn_inside.new.input p.0 _ (told_in g.L.Disk g.D.PageDevice g.V.Vault v c.requires.told p.1.holds.here) (c.in-Stops.ensures.turns v start left told p.0 p.1 gone.kept c.into_devices-disk.result.0 (c.into_devices-disk.result.1, c.into_devices-disk.result.2) devices)

pub returns-in-Closes-clause-turns : goal.returns-in-Closes-clause-turns
returns-in-Closes-clause-turns g c = λ v start left told turns b.
    let p = c.loop.invariant.turns v start left told turns b in
    let gone = c.into_devices-disk-in-Closes.ensures.left in
    let devices = devices_of g.L.Disk g.D.PageDevice g.V.Vault v g.N.Life.opens c.turn_inside.new.life c.into_devices-disk-in-Closes.result.0 c.into_devices-disk-in-Closes.result.1 c.into_devices-disk-in-Closes.result.2 gone in
    c.end_life.ensures.turns v start c.turn_inside.new.armed left told c.turn_inside.new.input p.0 _ (c.in-Closes.ensures.turns v start left told p.0 p.1 gone.kept c.into_devices-disk-in-Closes.result.0 (c.into_devices-disk-in-Closes.result.1, c.into_devices-disk-in-Closes.result.2) devices)

pub returns-in-Ends-clause-turns : goal.returns-in-Ends-clause-turns
returns-in-Ends-clause-turns g c = λ v start left told turns b.
    let p = c.loop.invariant.turns v start left told turns b in
    let gone = c.into_devices-disk-in-Ends.ensures.left in
    c.in-Ends.ensures.turns v start left told p.0 p.1 gone.kept c.into_devices-disk-in-Ends.result.0 (c.into_devices-disk-in-Ends.result.1, c.into_devices-disk-in-Ends.result.2) (devices_of g.L.Disk g.D.PageDevice g.V.Vault v g.N.Life.opens c.turn_inside.new.life c.into_devices-disk-in-Ends.result.0 c.into_devices-disk-in-Ends.result.1 c.into_devices-disk-in-Ends.result.2 gone)

pub returns-clause-turns : goal.returns-clause-turns
returns-clause-turns g c = λ v start left told turns b.
    let p = c.loop.invariant.turns v start left told turns b in
    let gone = c.into_devices-disk-2.ensures.left in
    ends_here g.L.Disk.tells (seen g.L.Disk v) (stores g.D.PageDevice g.V.Vault) gone.kept c.into_devices-disk-2.result.0 (c.into_devices-disk-2.result.1, c.into_devices-disk-2.result.2) p.1
    (rests_in g.L.Disk g.D.PageDevice g.V.Vault v c.requires.told p.1.holds.here gone.kept c.into_devices-disk-2.result.0 (c.into_devices-disk-2.result.1, c.into_devices-disk-2.result.2) (devices_of g.L.Disk g.D.PageDevice g.V.Vault v g.N.Life.opens c.loop.life c.into_devices-disk-2.result.0 c.into_devices-disk-2.result.1 c.into_devices-disk-2.result.2 gone))

pub returns-in-Stops-clause-cause : goal.returns-in-Stops-clause-cause
returns-in-Stops-clause-cause g c =
    lived_since g.L.Disk c.args.life.calls.own (g.L.Disk.own c.into_devices-disk.result.0) (g.S.Source.faults c.args.source.now) (g.S.Source.faults c.turn_inside.new.source) (g.K.Sink.faults c.args.sink.now) (g.K.Sink.faults c.turn_inside.new.sink) _ c.stop_life.result
    (omega (arith, c.loop.invariant.log, c.in-Stops.ensures.cause, ap (λ (x : Calls). x.own) c.into_devices-disk.ensures.left.calls))
    (omega (arith, c.loop.invariant.source, c.in-Stops.ensures.later.0))
    (omega (arith, c.loop.invariant.sink, c.in-Stops.ensures.later.1))
    (c.stop_life.ensures.cause (g.S.Source.faults c.turn_inside.new.source))

pub returns-in-Closes-clause-cause : goal.returns-in-Closes-clause-cause
returns-in-Closes-clause-cause g c =
    lived_since g.L.Disk c.args.life.calls.own (g.L.Disk.own c.into_devices-disk-in-Closes.result.0) (g.S.Source.faults c.args.source.now) (g.S.Source.faults c.turn_inside.new.source) (g.K.Sink.faults c.args.sink.now) (g.K.Sink.faults c.turn_inside.new.sink) _ c.end_life.result
    (omega (arith, c.loop.invariant.log, c.in-Closes.ensures.cause, ap (λ (x : Calls). x.own) c.into_devices-disk-in-Closes.ensures.left.calls))
    (omega (arith, c.loop.invariant.source, c.in-Closes.ensures.later.0))
    (omega (arith, c.loop.invariant.sink, c.in-Closes.ensures.later.1))
    (c.end_life.ensures.cause (g.S.Source.faults c.turn_inside.new.source))

pub returns-in-Ends-clause-cause : goal.returns-in-Ends-clause-cause
returns-in-Ends-clause-cause g c =
    let cause = c.in-Ends.ensures.cause in
    life_ended g.L.Disk c.into_devices-disk-in-Ends.result.0 c.into_devices-disk-in-Ends.result.1 c.into_devices-disk-in-Ends.result.2 c.turn_inside.new.life.calls c.in-Ends.status _ (g.S.Source.faults c.loop.source) _ _ (g.K.Sink.faults c.loop.sink) _ _ c.loop.life.calls.own c.into_devices-disk-in-Ends.ensures.left.calls
    c.loop.invariant.source c.loop.invariant.sink c.loop.invariant.log cause.0 cause.1 cause.2

pub returns-clause-cause : goal.returns-clause-cause
returns-clause-cause g c =
    life_ended g.L.Disk c.into_devices-disk-2.result.0 c.into_devices-disk-2.result.1 c.into_devices-disk-2.result.2 c.loop.life.calls statuses.Memory _ (g.S.Source.faults c.loop.source) _ _ (g.K.Sink.faults c.loop.sink) _ _ c.loop.life.calls.own c.into_devices-disk-2.ensures.left.calls
    c.loop.invariant.source c.loop.invariant.sink c.loop.invariant.log (omega arith) (memory_cause _ _ _ _ _ _) tt
