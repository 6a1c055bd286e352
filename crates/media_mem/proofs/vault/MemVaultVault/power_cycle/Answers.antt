use Rattle.std.proofs.Common.{sym, subst, List}
use Rattle.media.specs.Objects.{MayLeave}
use Rattle.media_mem.specs.Shelf.{Held, MemHeld, stored}
use Rattle.media_mem.proofs.Shelves.{left_stored}
use Rattle.media_mem.proofs.vault.MemVaultVault.power_cycle.Goals as goal

pub returns-clause-left : goal.returns-clause-left
returns-clause-left c t name =
    subst (λ (v : MemHeld). MayLeave (stored v.objects name) (stored c.leave_all.new.objects.items name)) c.self.view_is
    (subst (λ (l : List Held). MayLeave (stored c.self.inside.objects.items name) (stored l name)) (sym c.leave_all.ensures) (left_stored c.self.inside.objects.items name))
