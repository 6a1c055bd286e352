-- The transcript of turns.
use Rattle.std.specs.Prelude.{ℕ, List, [], ◌∷◌, ◌++◌, unwrap_or, codes}
use Rattle.std.specs.Fmt.{decimal}
use Rattle.store_model.specs.Along.{along}
use Rattle.store_model.specs.declared.reply.Outcome.{Outcome}
use Rattle.store_model.specs.declared.reply.Outcome.TheVariants as outcomes
use Rattle.store_model.specs.declared.request.Request.{Request}
use Rattle.wal_record.specs.declared.entry.Entry.{Entry}
use Rattle.wal_record.specs.declared.entry.Entry.TheVariants.{Rec, Lock, Refused, Said, Declined, Acked, Repaired, Began}
use Rattle.command_laws.specs.Names.{Active}
use Rattle.own_life.specs.State.{name_by}
use Rattle.script.specs.declared.command.Command.{Command}
use Rattle.script.specs.declared.command.Command.TheVariants as commands
use Rattle.script.specs.declared.command.Device.TheVariants.{Log, Vault}
use Rattle.transcript.specs.Lines.{archive_line, conflict_line, device_text, ended_line, failed_line, full_line, refused_line, request_head, request_lines, stat_line, upkeep_head, upkeep_line}
use Rattle.transcript.specs.declared.upkeep.Upkeep.TheVariants as upkeeps
use Rattle.life_commands.specs.Turns.{Turn, End, Done, TooMany, LogFault, VaultFault, Ended, Cut, Figures, Opening, Numbered, Counted, Made, Start, Stage, stage}

abbrev pub outcome_lines : List ℕ → Request → Outcome → List ℕ
outcome_lines name request (outcomes.Replied reply) = request_lines name request reply
outcome_lines name request (outcomes.Full pages pending) = full_line (request_head name request) pages pending
outcome_lines name request outcomes.OpRefused = refused_line (request_head name request)
outcome_lines name request (outcomes.Conflict holder range) = []

-- the answer among a request's entries
abbrev pub answer_lines : List Active → List ℕ → Request → List Entry → List ℕ
answer_lines active name request [] = []
answer_lines active name request (Said session tx asked reply ∷ es) = outcome_lines name request (outcomes.Replied reply)
answer_lines active name request (Declined session tx asked why ∷ es) = outcome_lines name request why
answer_lines active name request (Refused tx range mode holder ∷ es) = conflict_line (request_head name request) (unwrap_or (name_by holder active) [])
answer_lines active name request (Rec lsn written ∷ es) = answer_lines active name request es
answer_lines active name request (Lock tx range mode ∷ es) = answer_lines active name request es
answer_lines active name request (Acked session tx ∷ es) = answer_lines active name request es
answer_lines active name request (Repaired page ∷ es) = answer_lines active name request es
answer_lines active name request (Began session tx ∷ es) = answer_lines active name request es

-- A command's line up to its answer. Words that aren't built, here and below, have no text.
abbrev pub head : Command → List ℕ
head commands.Nothing = []
head (commands.Format limit) = codes "format"
head commands.Open = codes "open"
head (commands.Begin name) = name ++ codes " begin"
head (commands.Ask name request) = request_head name request
head (commands.Commit name) = name ++ codes " commit"
head (commands.Abort name) = name ++ codes " abort"
head commands.Checkpoint = upkeep_head upkeeps.Checkpoint
head commands.Backup = upkeep_head upkeeps.Backup
head commands.Archive = codes "archive"
head commands.Merge = []
head commands.Recycle = []
head commands.Lose = upkeep_head upkeeps.Lose
head (commands.Help steps) = upkeep_head upkeeps.Help
head commands.Stat = codes "stat"
head commands.Close = upkeep_head upkeeps.Close
head (commands.Stop keep) = []
head (commands.Damage page) = []
head (commands.Fuse device calls) = []
head (commands.Renew device) = []
head (commands.Parallel workers retries show) = []
head (commands.Worker transactions) = []
head (commands.Step request) = []
head commands.End = []

abbrev pub opened_line : Figures → List ℕ
opened_line (Opening commits losers) = codes "open commits=" ++ decimal commits ++ codes " losers=" ++ decimal losers ++ codes "\n"
opened_line _ = []

abbrev pub committed_line : List ℕ → Figures → List ℕ
committed_line name (Numbered number) = name ++ codes " commit " ++ decimal number ++ codes "\n"
committed_line name _ = []

abbrev pub counted_line : Figures → List ℕ
counted_line (Counted stat) = stat_line stat
counted_line _ = []

abbrev pub made_line : Figures → List ℕ
made_line (Made runs) = archive_line runs
made_line _ = []

abbrev pub done_lines : Stage → Command → List Entry → Figures → List ℕ
done_lines s commands.Nothing es figures = []
done_lines s (commands.Format limit) es figures = codes "format ok\n"
done_lines s commands.Open es figures = opened_line figures
done_lines s (commands.Begin name) es figures = name ++ codes " begin\n"
done_lines s (commands.Ask name request) es figures = answer_lines s.active name request es
done_lines s (commands.Commit name) es figures = committed_line name figures
done_lines s (commands.Abort name) es figures = name ++ codes " abort\n"
done_lines s commands.Checkpoint es figures = upkeep_line upkeeps.Checkpoint
done_lines s commands.Backup es figures = upkeep_line upkeeps.Backup
done_lines s commands.Archive es figures = made_line figures
done_lines s commands.Merge es figures = []
done_lines s commands.Recycle es figures = []
done_lines s commands.Lose es figures = upkeep_line upkeeps.Lose
done_lines s (commands.Help steps) es figures = upkeep_line upkeeps.Help
done_lines s commands.Stat es figures = counted_line figures
done_lines s commands.Close es figures = upkeep_line upkeeps.Close
done_lines s (commands.Stop keep) es figures = codes "stop\n"
done_lines s (commands.Damage page) es figures = codes "damage " ++ decimal page ++ codes "\n"
done_lines s (commands.Fuse device calls) es figures = codes "fuse " ++ device_text device ++ codes " " ++ decimal calls ++ codes "\n"
done_lines s (commands.Renew device) es figures = codes "renew " ++ device_text device ++ codes "\n"
done_lines s (commands.Parallel workers retries show) es figures = []
done_lines s (commands.Worker transactions) es figures = []
done_lines s (commands.Step request) es figures = []
done_lines s commands.End es figures = []

abbrev pub lines_at : Stage → Command → List Entry → Figures → End → List ℕ
lines_at s c es figures Done = done_lines s c es figures
lines_at s c es figures TooMany = refused_line (head c)
lines_at s c es figures (LogFault n) = failed_line (head c) Log
lines_at s c es figures VaultFault = failed_line (head c) Vault
lines_at s c es figures (Ended n) = ended_line (head c) n
lines_at s c es figures Cut = []

-- the lines of a turn after the turns that led to this stage
abbrev pub lines : Stage → Turn → List ℕ
lines s t = lines_at s t.command t.entries t.figures t.end

unfoldable pub text : Start → List Turn → List ℕ
text start turns = along (λ before out t. out ++ lines (stage start before) t) [] turns
