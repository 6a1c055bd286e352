use Rattle.std.proofs.Common.{◌≡◌, ℕ, List, ◌++◌, take}
use Rattle.std.specs.Prelude.{flat_map}
use Rattle.backup_set.proofs.writing.put_images.Given as goal

abbrev pub invariant-loop-image : goal.invariant-loop-image
invariant-loop-image l = l.bytes.items ≡ l.fn.bytes.items ++ flat_map (λ (image : List ℕ). image) (take l.image-index l.images)
