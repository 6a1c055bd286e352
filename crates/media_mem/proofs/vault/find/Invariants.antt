use Rattle.std.proofs.Common.{take}
use Rattle.media_mem.specs.Shelf.{HasNone}
use Rattle.media_mem.proofs.vault.find.Given as goal

abbrev pub invariant-loop-i : goal.invariant-loop-i
invariant-loop-i l = HasNone l.name (take l.i l.objects)
