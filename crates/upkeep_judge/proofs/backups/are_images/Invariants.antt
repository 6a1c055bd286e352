use Rattle.std.proofs.Common.{◌≡◌, List, length, take}
use Rattle.std.specs.Prelude.{IsTrue}
use Rattle.wal_record.specs.Sound.{are_images}
use Rattle.wal_record.specs.declared.record.Record.{Record}
use Rattle.page_judge.specs.Names.{AreNamesOf}
use Rattle.upkeep_judge.proofs.backups.are_images.Given as goal

abbrev pub invariant-loop-page : goal.invariant-loop-page
invariant-loop-page l = (log : List Record) → AreNamesOf log l.names → l.last ≡ length log → IsTrue (are_images log (take l.page-index l.pages))
