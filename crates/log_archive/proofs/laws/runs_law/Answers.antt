use Rattle.log_archive.specs.Items.{on_page}
use Rattle.log_archive.proofs.Made.{made_is_run, on_all}
use Rattle.log_archive.proofs.laws.runs_law.Goals as goal

pub returns-clause-made : goal.returns-clause-made
returns-clause-made c = made_is_run

pub returns-clause-exact : goal.returns-clause-exact
returns-clause-exact c page items is = on_all (λ p. on_page p items) page is
