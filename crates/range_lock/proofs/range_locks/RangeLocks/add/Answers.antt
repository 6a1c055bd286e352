use Rattle.std.proofs.Common.{sym, subst}
use Rattle.std.specs.Prelude.{OnOk}
use Rattle.store_model.specs.Range.{Interval}
use Rattle.range_lock.specs.Held.{Gains}
use Rattle.range_lock.proofs.range_locks.RangeLocks.add.Goals as goal

pub returns-in-Some-clause-ok : goal.returns-in-Some-clause-ok
returns-in-Some-clause-ok c =
    subst (λ (r : Interval). OnOk c.add_point.result (Gains c.args.self.now c.add_point.new.self (record { tx = c.args.tx; range = r; mode = c.args.mode }))) (sym c.in-Some.ensures.value) c.add_point.ensures.ok
