use Rattle.std.proofs.Common.{◌≡◌, ◌++◌, take}
use Rattle.std.specs.List.{flat_map}
use Rattle.field_line.specs.Printing.{number_field}
use Rattle.field_line.proofs.line.Line.numbers.Given as goal

abbrev pub invariant-loop-field : goal.invariant-loop-field
invariant-loop-field l = l.self ≡ l.fn.self ++ flat_map number_field (take l.field-index l.fields)
