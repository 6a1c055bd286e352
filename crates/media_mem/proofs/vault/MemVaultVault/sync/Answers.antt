use Rattle.std.proofs.Common.{ap, inr, ◌∙◌, List}
use Rattle.media.specs.Objects.{synced}
use Rattle.media_mem.specs.Shelf.{Held, MemHeld, stored}
use Rattle.media_mem.proofs.Shelves.{synced_stored}
use Rattle.media_mem.proofs.vault.MemVaultVault.sync.Goals as goal

pub returns-clause-synced : goal.returns-clause-synced
returns-clause-synced c t name =
    ap (λ (l : List Held). stored l name) c.sync_all.ensures ∙ synced_stored c.self.inside.objects.items name ∙ ap (λ (v : MemHeld). synced (stored v.objects name)) c.self.view_is

pub returns-clause-may_sync : goal.returns-clause-may_sync
returns-clause-may_sync c t name =
    inr (ap (λ (l : List Held). stored l name) c.sync_all.ensures ∙ synced_stored c.self.inside.objects.items name ∙ ap (λ (v : MemHeld). synced (stored v.objects name)) c.self.view_is)
