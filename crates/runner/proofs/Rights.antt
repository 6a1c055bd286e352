-- A life in which nothing has happened is right.
use Rattle.std.proofs.Common.{List, [], sym, subst, append-nil}
use Rattle.store_model.specs.Along.{AllAlong}
use Rattle.wal_record.specs.Legal.{IsLegal}
use Rattle.wal_record.specs.Sound.{IsSound}
use Rattle.wal_record.specs.declared.record.Record.{Record}
use Rattle.log_laws.specs.Right.{IsRight}
use Rattle.command_laws.proofs.Right.{right_law}

nothing_legal : (opening : List Record) → IsLegal opening []
unfolding AllAlong
nothing_legal opening = tt

pub right_life : (opening : List Record) → IsSound opening → IsRight opening []
right_life opening sound = (right_law opening []).now (subst IsSound (sym (append-nil opening)) sound) (nothing_legal opening)
