use Rattle.std.proofs.Common.{◌≡◌, ◌++◌, take, drop}
use Rattle.std.specs.Prelude.{map}
use Rattle.media_mem.specs.Shelf.{synced_object}
use Rattle.media_mem.proofs.vault.sync_all.Given as goal

abbrev pub invariant-loop-object : goal.invariant-loop-object
invariant-loop-object l = l.object-items ≡ map synced_object (take l.object-index l.fn.objects.items) ++ drop l.object-index l.fn.objects.items
