use Rattle.record_judge.proofs.judge.RecordJudge.prepare.Goals as goal

pub returns-in_err-prepare-clause-same : goal.returns-in_err-prepare-clause-same
returns-in_err-prepare-clause-same c = λ log k is. record { lawful = k.lawful; listing = c.prepare.ensures.same log k.listing; contents = k.contents; chains = k.chains; images = k.images; names = k.names; backups = k.backups }

pub returns-in_err-prepare-2-clause-same : goal.returns-in_err-prepare-2-clause-same
returns-in_err-prepare-2-clause-same c = λ log k is. record { lawful = k.lawful; listing = c.prepare.ensures.same log k.listing; contents = k.contents; chains = c.prepare-2.ensures.same log k.chains; images = k.images; names = k.names; backups = k.backups }

pub returns-in_err-prepare-3-clause-same : goal.returns-in_err-prepare-3-clause-same
returns-in_err-prepare-3-clause-same c = λ log k is. record { lawful = k.lawful; listing = c.prepare.ensures.same log k.listing; contents = k.contents; chains = c.prepare-2.ensures.same log k.chains; images = c.prepare-3.ensures.same log k.images; names = k.names; backups = k.backups }

pub returns-clause-same : goal.returns-clause-same
returns-clause-same c = λ log k is. record {
  lawful = k.lawful;
  listing = c.prepare.ensures.same log k.listing;
  contents = k.contents;
  chains = c.prepare-2.ensures.same log k.chains;
  images = c.prepare-3.ensures.same log k.images;
  names = c.note.ensures.same log k.names is;
  backups = k.backups;
}
