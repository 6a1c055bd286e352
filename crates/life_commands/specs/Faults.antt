-- What becomes of a call of a life that failed.
use Rattle.std.specs.Prelude.{◌≡◌, ◌<◌, ◌≤◌, ℕ, List, Some, length, ◌-◌}
use Rattle.store_model.specs.declared.fault.Fault.{Fault}
use Rattle.store_model.specs.declared.fault.Fault.TheVariants as faults
use Rattle.store_model.specs.declared.request.Request.{Request}
use Rattle.wal_record.specs.Upkeep.{segments}
use Rattle.page_ops.specs.declared.outcome.Survey.{Survey}
use Rattle.command_laws.specs.Names.{Active}
use Rattle.own_life.specs.State.{name_by}
use Rattle.transcript.specs.Lines.{conflict_line, full_line, refused_line, request_head}
use Rattle.transcript.specs.declared.upkeep.Stat.{Stat}
use Rattle.life_commands.specs.declared.status.Status.{Status}
use Rattle.life_commands.specs.declared.status.Status.TheVariants as statuses

-- The status of a fault that no line tells. So many calls the log disk's fuse had refused before the call, and so many now.
abbrev pub FailsAs : ℕ → ℕ → Fault → Status → Type 0
FailsAs before now faults.LogFault status = (status ≡ statuses.LogFault) × (now ≤ before)
FailsAs before now faults.VaultFault status = status ≡ statuses.VaultFault
FailsAs before now (faults.LogBad block byte) status = status ≡ statuses.BlockBad block byte
FailsAs before now (faults.VaultBad object byte) status = status ≡ statuses.VaultBad object byte
FailsAs before now fault status = status ≡ statuses.Memory

-- the line of a request that was refused, where active transactions have these names
abbrev pub IsRefusedLine : List Active → List ℕ → Request → List ℕ → ℕ → ℕ → Fault → List ℕ → Type 0
IsRefusedLine active name request failed before now (faults.Conflict holder range at) out = (other : List ℕ) × (name_by holder active ≡ Some other) × (out ≡ conflict_line (request_head name request) other)
IsRefusedLine active name request failed before now (faults.Full pages pending at) out = out ≡ full_line (request_head name request) pages pending
IsRefusedLine active name request failed before now (faults.OpRefused at) out = out ≡ refused_line (request_head name request)
IsRefusedLine active name request failed before now faults.LogFault out = (out ≡ failed) × (before < now)
IsRefusedLine active name request failed before now fault out = ⊥

-- what a journal tells, as `stat` counts it
abbrev pub counts_of : Survey → Stat
counts_of x = record {
  commits = x.analysis.commits;
  losers = length x.losers;
  undone = x.undone;
  repaired = x.repaired;
  pages = length x.analysis.heads;
  lost = length (segments x.analysis.lost);
  restored = length (segments x.analysis.lost) - length x.analysis.unrestored;
}
