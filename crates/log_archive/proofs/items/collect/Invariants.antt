use Rattle.std.proofs.Common.{◌≡◌, ◌-◌, []}
use Rattle.std.specs.List.{All}
use Rattle.log_archive.specs.Reading.{collected}
use Rattle.log_archive.specs.Run.{IsSpelled}
use Rattle.log_archive.proofs.items.collect.Given as goal

abbrev pub invariant-loop : goal.invariant-loop
invariant-loop l = record {
  read : collected l.page l.last l.from (l.count - l.counter) l.low l.found.items l.rest ≡ collected l.page l.last l.from l.count l.above [] l.bytes;
  spelled : All IsSpelled l.found.items;
}
