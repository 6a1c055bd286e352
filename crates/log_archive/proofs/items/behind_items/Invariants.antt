use Rattle.std.proofs.Common.{◌≡◌, ◌-◌}
use Rattle.log_archive.specs.Reading.{behind_items}
use Rattle.log_archive.proofs.items.behind_items.Given as goal

abbrev pub invariant-loop : goal.invariant-loop
invariant-loop l = behind_items l.page l.last (l.count - l.counter) l.low l.rest ≡ behind_items l.page l.last l.count l.above l.bytes
