-- The numbers in a command's line that its entries don't tell.
use Rattle.std.specs.Prelude.{◌≡◌, ◌⊎◌, ℕ, ◌-◌, List, [], ◌++◌, length, filter, Option, Some, None}
use Rattle.page_ops.specs.Outcomes.{is_repaired, is_undo, losers_left}
use Rattle.wal_record.specs.Chains.{pages}
use Rattle.wal_record.specs.Checkpoints.{commits}
use Rattle.wal_record.specs.History.{life_log, log_of}
use Rattle.wal_record.specs.OpenWrites.{losers}
use Rattle.wal_record.specs.Upkeep.{lost_pages, segments, unrestored}
use Rattle.wal_record.specs.declared.entry.Entry.{Entry}
use Rattle.wal_record.specs.declared.record.Record.{Record}
use Rattle.store_pages.specs.Backed.{IsArchived, IsWhole}
use Rattle.own_life.specs.Helps.{takes_back}
use Rattle.script.specs.declared.command.Command.{Command}
use Rattle.script.specs.declared.command.Command.TheVariants as commands
use Rattle.transcript.specs.declared.upkeep.Stat.{Stat}
use Rattle.life_commands.specs.Turns.{Counted, Figures, Life, Made, Numbered, Opening, Stage, log_of_life, longer}

-- the segments that had a page when the data device was lost last
abbrev pub lost_segments : List Record → ℕ
lost_segments log = length (segments (lost_pages log))

-- what `stat` counts of a life
abbrev pub stat_of : Life → Stat
stat_of l =
    let log = life_log l.opening l.history in
    record {
      commits = commits log;
      losers = length (losers_left l.opening l.history);
      undone = length (filter is_undo (log_of l.history));
      repaired = length (filter is_repaired l.history);
      pages = pages log;
      lost = lost_segments log;
      restored = lost_segments log - length (unrestored log);
    }

abbrev pub IsStat : Option Life → Stat → Type 0
IsStat None x = ⊥
IsStat (Some l) x = x ≡ stat_of l

-- A help that is done has left no loser without an End, or has taken as many steps as were asked for, each an Undo or an End.
abbrev pub IsHelped : ℕ → Option Life → List Entry → Type 0
IsHelped steps None es = ⊥
IsHelped steps (Some l) es = (losers_left l.opening l.history ≡ []) ⊎ (length (filter takes_back es) ≡ steps)

-- A backup that is done is a new one that has each page, as it was or later.
abbrev pub IsBackedUp : Option Life → List Entry → Type 0
IsBackedUp None es = ⊥
IsBackedUp (Some l) es = (backup : ℕ) × IsWhole backup l.opening l.history es

-- An archive that is done leaves no record waiting that stood before it, or as many runs stand as may.
abbrev pub AllArchived : Option Life → List Entry → Type 0
AllArchived None es = ⊥
AllArchived (Some l) es = IsArchived l.opening l.history (l.history ++ es) es

-- The figures of a command that is done, and how far a help went, a backup or an archive. Where the log disk tells nothing they may be any.
abbrev pub AreFigures : Type 0 → Stage → Command → List Entry → List Record → Figures → Type 0
AreFigures tells s commands.Open es found figures = (c : ℕ) × (l : ℕ) × (figures ≡ Opening c l) × (tells → (c ≡ commits found) × (l ≡ length (losers found)))
AreFigures tells s (commands.Commit name) es found figures = (n : ℕ) × (figures ≡ Numbered n) × (tells → n ≡ commits (log_of_life (longer s.life es)))
AreFigures tells s commands.Backup es found figures = tells → IsBackedUp s.life es
AreFigures tells s commands.Archive es found figures = (n : ℕ) × (figures ≡ Made n) × (n ≡ length es) × (tells → AllArchived s.life es)
AreFigures tells s (commands.Help steps) es found figures = tells → IsHelped steps (longer s.life es) es
AreFigures tells s commands.Stat es found figures = (x : Stat) × (figures ≡ Counted x) × (tells → IsStat s.life x)
AreFigures tells s _ es found figures = Unit {0}
