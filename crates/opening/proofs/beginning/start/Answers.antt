use Rattle.opening.proofs.beginning.start.Goals as goal

pub start-journal-requires-clause-few : goal.start-journal-requires-clause-few
start-journal-requires-clause-few g c = λ opening opens. (c.requires.opens opening opens).few

pub start-journal-requires-clause-records : goal.start-journal-requires-clause-records
start-journal-requires-clause-records g c = λ opening opens. (c.requires.opens opening opens).records

pub start-journal-requires-clause-telling : goal.start-journal-requires-clause-telling
start-journal-requires-clause-telling g c = λ opening opens. (c.requires.opens opening opens).telling

pub start-journal-requires-clause-safe : goal.start-journal-requires-clause-safe
start-journal-requires-clause-safe g c = λ opening opens. (c.requires.opens opening opens).safe
