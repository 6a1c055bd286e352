use Rattle.std.proofs.Common.{◌+◌, List, refl, subst, sym}
use Rattle.wal_record.specs.declared.entry.Entry.{Entry}
use Rattle.untold_journal.specs.Upkeep.{IsKept}
use Rattle.untold_journal.proofs.Upkeep.{kept_one}
use Rattle.untold_journal.proofs.untold.Untold.push.Goals as goal

pub invariant_of-self : goal.invariant_of-self
invariant_of-self g c =
    subst
    (λ (h : List Entry). IsKept g.N.Life.opens h (c.self.inside.count + 1) c.add-2.new.self.total c.self.inside.session_entries.total c.self.inside.sessions c.self.inside.maint)
    (sym c.add.ensures)
    (kept_one g.N.Life.opens c.self.inside.front c.self.inside.count c.self.inside.entries.total c.self.inside.session_entries.total (c.self.inside.count + 1) c.add-2.new.self.total c.self.inside.session_entries.total c.self.inside.sessions c.self.inside.maint c.args.entry.now c.self.invariant c.requires.upkeep refl c.add-2.ensures.total refl)
