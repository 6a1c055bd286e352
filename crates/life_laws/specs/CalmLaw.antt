-- The law of calm lives.
use Rattle.std.specs.Prelude.{◌≡◌, ℕ, List, ◌++◌, None, IsTrue}
use Rattle.wal_record.specs.Rules.{is_limit}
use Rattle.std.specs.FinMap as finite
use Rattle.wal_record.specs.State.{live}
use Rattle.wal_record.specs.Contents.{current, committed_contents}
use Rattle.wal_record.specs.History.{life_log}
use Rattle.wal_record.specs.Sound.{HasRoom}
use Rattle.wal_record.specs.declared.record.Record.{Record}
use Rattle.wal_record.specs.declared.entry.Entry.{Entry}
use Rattle.log_laws.specs.Right.{IsRight, first_log}
use Rattle.life_laws.specs.Commands.{Command, CalmStanding, fresh, entries_from, standing_from, ArePossible}

-- the rows have the current values of all keys, and the committed ones where no transaction is open
pub record HasRows (s : CalmStanding) (log : List Record) : Type 0 where
  pub current : (key : List ℕ) → live s.rows key ≡ finite.get (current log) key
  pub committed : s.active ≡ None → (key : List ℕ) → live s.rows key ≡ finite.get (committed_contents log) key

-- of a life that a format began, and the commands in it, where each is possible after those before it:
-- after each of its entries it is right and has room, also in the middle of a command; after all the leaf has its rows
abbrev pub CalmLaw : ℕ → List Command → Type 0
CalmLaw limit cs = IsTrue (is_limit limit) → ArePossible limit fresh cs
    → ((before rest : List Entry) → entries_from fresh cs ≡ before ++ rest → IsRight (first_log limit) before × HasRoom (life_log (first_log limit) before)) × HasRows (standing_from fresh cs) (life_log (first_log limit) (entries_from fresh cs))
