use Rattle.std.proofs.Common.{sym, ◌∙◌, subst, arith}
use Rattle.log_index.specs.Listing.{IsListingOf}
use Rattle.journal.proofs.Calls.{durable_open}
use Rattle.journal.proofs.KeptBlocks.{record_behind, run_behind}
use Rattle.journal.proofs.Lookup.{run_of}
use Rattle.journal.proofs.ends.find.Goals as goal

pub returns-in-Some-clause-found : goal.returns-in-Some-clause-found
returns-in-Some-clause-found g c goes rs k tells = (run_of rs c.args.lsn c.in-Some.run' (sym c.in-Some.is ∙ c.run_at.ensures rs (subst (IsListingOf rs) (sym c.listing.ensures) k.listing) k.lawful), tt)

pub returns-in-Ok-clause-found : goal.returns-in-Ok-clause-found
returns-in-Ok-clause-found g c goes rs k tells = c.in-Ok.ensures.found tells goes rs k

pub returns-after-matches-clause-found : goal.returns-after-matches-clause-found
returns-after-matches-clause-found g c goes rs k tells = c.in-Err.ensures.found tells goes rs k

pub returns-in-Ok-clause-durable : goal.returns-in-Ok-clause-durable
returns-in-Ok-clause-durable g c = durable_open c.read.new.self.log.log c.in-Ok.ensures.live.1

pub returns-in-Some-clause-kind : goal.returns-in-Some-clause-kind
returns-in-Some-clause-kind g c = run_behind c.args.log.now.log.log c.args.lsn c.in-Some.run' (omega (arith, c.first_kept.ensures, c.if-lsn-first_kept.true))

pub returns-in-Ok-clause-kind : goal.returns-in-Ok-clause-kind
returns-in-Ok-clause-kind g c = record_behind c.args.log.now.log.log c.args.lsn c.in-Ok.found (omega (arith, c.first_kept.ensures, c.if-lsn-first_kept.false))
