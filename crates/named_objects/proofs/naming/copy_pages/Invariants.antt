use Rattle.std.proofs.Common.{◌≡◌, take}
use Rattle.named_objects.proofs.naming.copy_pages.Given as goal

abbrev pub invariant-loop-told : goal.invariant-loop-told
invariant-loop-told l = l.made.items ≡ take l.told-index l.pages
