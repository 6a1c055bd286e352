-- What a sound life owes.
use Rattle.std.proofs.Common.{List, subst}
use Rattle.wal_record.specs.History.{life_log, log_of}
use Rattle.wal_record.specs.Legal.{IsLegal}
use Rattle.wal_record.specs.Sound.{AreLawful, IsSound}
use Rattle.wal_record.specs.declared.record.Record.{Record}
use Rattle.wal_record.specs.declared.entry.Entry.{Entry}
use Rattle.log_laws.proofs.Beginnings.{beginning, history_beginning}
use Rattle.life_laws.proofs.CalmLives.{right_of}
use Rattle.command_laws.specs.Right.{RightLaw}

pub right_law : (opening : List Record) (h : List Entry) → RightLaw opening h
right_law opening h = record {
  now = λ sound legal. right_of opening (begins sound) h legal;
  before = λ sound legal first rest is. right_of opening (begins sound) first ((history_beginning opening first rest).legal (subst (IsLegal opening) is legal));
}
  where
    begins : IsSound (life_log opening h) → AreLawful opening
    begins sound = (beginning opening (log_of h)).lawful sound.lawful
