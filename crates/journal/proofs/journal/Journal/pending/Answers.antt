use Rattle.std.proofs.Common.{List, ◌≡◌, ◌<◌, ◌^◌, sym, ap, ◌∙◌, subst}
use Rattle.log_index.specs.Listing.{IsListingOf}
use Rattle.wal_record.specs.OpenWrites.{pending}
use Rattle.wal_record.specs.History.{life_log}
use Rattle.wal_record.specs.declared.entry.Entry.{Entry}
use Rattle.journal.proofs.Grouping.{few_pending}
use Rattle.journal.proofs.journal.Journal.pending.Goals as goal

pub returns-clause-count : goal.returns-clause-count
returns-clause-count g c opening stands =
    let h = c.self.inside.history in
    let is : c.pending.result ≡ pending (life_log opening h) = c.pending.ensures (life_log opening h) (subst (IsListingOf (life_log opening h)) (sym c.listing.ensures) (c.self.invariant.1.life.records opening stands).listing) in
    c.number_of.ensures (subst (λ n. n < 2 ^ 32) (sym is) (few_pending g.N.Life.opens h c.look.ensures.consistent opening stands)) ∙ is ∙ ap (λ (l : List Entry). pending (life_log opening l)) (sym c.look.ensures.pass)
