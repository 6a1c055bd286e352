use Rattle.std.proofs.Common.{ap, arith, subst, sym, ◌∙◌}
use Rattle.front.specs.Seen.{PassSeen}
use Rattle.log_index.specs.Listing.{IsListingOf}
use Rattle.plain_store.proofs.Earlier.{earlier_written}
use Rattle.plain_store.proofs.opened.open_store.Goals as goal

pub new-images-requires-clause-written : goal.new-images-requires-clause-written
new-images-requires-clause-written g c t =
    earlier_written g.N.Life.opens g.P.PageDevice.told c.args.device c.copy.result (c.requires.images t)
    (ap (λ (p : PassSeen _). p.log) c.copy.ensures.copy ∙ c.store.ensures.log ∙ ap (λ (p : PassSeen _). p.log) c.in-Ok.ensures.history.2 ∙ c.requires.history.2)
    (λ opening stands.
    let first = (c.requires.opens opening stands).safe.begins in
    omega (arith, first, c.durable.ensures, c.store.ensures.seen, ap (λ (p : PassSeen _). p.durable) c.copy.ensures.copy))

pub returns-clause-redo : goal.returns-clause-redo
returns-clause-redo g c = λ opening stands.
    let awaited = c.in-Ok-redo_plan.ensures opening (subst (IsListingOf opening) (sym c.listing.ensures) (c.requires.opens opening stands).records.listing) in
    c.in-Ok-new.ensures.parts.2 ∙ awaited
