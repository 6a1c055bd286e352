use Rattle.std.proofs.Common.{◌≡◌, ◌++◌, take, drop}
use Rattle.std.specs.Prelude.{map}
use Rattle.media_mem.specs.Shelf.{left_object}
use Rattle.media_mem.proofs.vault.leave_all.Given as goal

abbrev pub invariant-loop-object : goal.invariant-loop-object
invariant-loop-object l = l.object-items ≡ map left_object (take l.object-index l.fn.objects.items) ++ drop l.object-index l.fn.objects.items
