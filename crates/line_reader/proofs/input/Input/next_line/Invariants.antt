use Rattle.std.proofs.Common.{◌≡◌, ◌≤◌, ◌<◌, ◌+◌, false, length}
use Rattle.std.specs.Io.KnownBytes.{Consumes}
use Rattle.line_reader.specs.Lines.{to_come, has_end, IsBounded}
use Rattle.line_reader.proofs.input.Input.next_line.Given as goal

abbrev pub invariant-loop : goal.invariant-loop
invariant-loop g l = record {
  bytes : Consumes (to_come l.fn.self (g.S.Source.left l.fn.source)) (to_come l.self (g.S.Source.left l.source)) l.line.items;
  one : has_end l.line.items ≡ false;
  count : l.counter ≤ length l.line.items;
  short : length l.line.items < 2048;
  taken : l.self.taken ≡ l.fn.self.taken + length l.line.items;
  most : IsBounded l.self;
  lines : l.self.lines ≡ l.fn.self.lines;
  faults : g.S.Source.faults l.fn.source ≤ g.S.Source.faults l.source;
}
