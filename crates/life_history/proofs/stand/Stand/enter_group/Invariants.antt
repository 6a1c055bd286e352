use Rattle.page_ops.specs.Groups.{group_entries}
use Rattle.life_history.proofs.stand.Stand.enter_group.Given as goal

abbrev pub ghosts-add_group : goal.ghosts-add_group
ghosts-add_group g a = record { entries = group_entries a.lsn a.recs.now a.said.now }
