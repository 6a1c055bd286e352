use Rattle.std.proofs.Common.{sym, subst}
use Rattle.range_lock.proofs.Members.{among_entry}
use Rattle.range_lock.specs.Lock.{IsAmong}
use Rattle.range_lock.specs.Tables.{on_range}
use Rattle.range_lock.proofs.wider.holds_range.Goals as goal

pub returns-in-Some : goal.returns-in-Some
returns-in-Some c e = among_entry c.args.tx (on_range c.args.range.now c.args.mode) c.in-Some.held.now c.args.ranges.now.entries (sym c.in-Some.ensures.value) (subst (IsAmong _) c.as_slice.ensures (c.is_listed.ensures e))
