-- The phases of a life's transactions as they are kept.
use Rattle.std.specs.Prelude.{◌≡◌, ℕ, ◌-◌, ◌≤◌, ◌<◌, ◌==◌, max, List, [], ◌∷◌, length, filter, Option, Some, None, unwrap_or, Bool, true, false, if◌then◌else◌}
use Rattle.std.specs.Ordering.{nat_cmp}
use Rattle.std.specs.BTreeMap.{BTreeMap, get}
use Rattle.wal_record.specs.Chains.{greatest}
use Rattle.wal_record.specs.History.{Phase, Idle, Live, Committed, Acknowledged, Ended, phase, phase_step, is_live, Beginning, beginnings, is_owner, begun_step, greatest_begun, live_count, session_step, last_begun}
use Rattle.wal_record.specs.declared.record.Record.{Record}
use Rattle.wal_record.specs.declared.entry.Entry.{Entry}
use Rattle.phase_judge.specs.declared.stage.Stage.{Stage}
use Rattle.phase_judge.specs.declared.stage.Stage.TheVariants as stages
use Rattle.phase_judge.specs.declared.stage.Started.{Started}
use Rattle.phase_judge.specs.declared.phases.Phases.{Phases}

abbrev pub phase_of : Stage → Phase
phase_of stages.Idle = Idle
phase_of stages.Live = Live
phase_of stages.Committed = Committed
phase_of stages.Acknowledged = Acknowledged
phase_of stages.Ended = Ended

abbrev pub is_committed : Phase → Bool
is_committed Committed = true
is_committed _ = false

-- ---- what the maps have

abbrev pub untouched : Started
untouched = record { session = None; stage = stages.Idle }

abbrev pub started_in : BTreeMap ℕ Started → ℕ → Started
started_in m t = unwrap_or (get nat_cmp m t) untouched

abbrev pub last_in : BTreeMap ℕ (Option ℕ) → ℕ → Option ℕ
last_in m s = unwrap_or (get nat_cmp m s) None

abbrev pub phase_in : BTreeMap ℕ Started → ℕ → Phase
phase_in m t = phase_of (started_in m t).stage

abbrev pub is_by : ℕ → Option ℕ → Bool
is_by s None = false
is_by s (Some x) = x == s

abbrev pub is_owner_in : BTreeMap ℕ Started → ℕ → ℕ → Bool
is_owner_in m s t = is_by s (started_in m t).session

-- ---- what they are of a history

-- how often the transaction was begun
abbrev pub times : ℕ → List Beginning → ℕ
times t bs = length (filter (λ (b : Beginning). b.tx == t) bs)

-- The phases, who began whom, what each session began last, the greatest number and how many are live. Each transaction
-- was begun once at most, and a live one was begun.
pub record AreKept (opening : List Record) (h : List Entry) (phases : ℕ → Phase) (owns : ℕ → ℕ → Bool) (begun : ℕ → Option ℕ) (most live : ℕ) : Type 0 where
  pub stands : (t : ℕ) → phases t ≡ phase h t
  pub owner : (s t : ℕ) → owns s t ≡ is_owner h s t
  pub last : (s : ℕ) → begun s ≡ last_begun h s
  pub highest : most ≡ max (greatest opening) (greatest_begun h)
  pub counted : live ≡ live_count h
  pub few : live ≤ 64
  pub below : (t : ℕ) → most < t → times t (beginnings h) ≡ 0
  pub once : (t : ℕ) → times t (beginnings h) ≤ 1
  pub started : (t : ℕ) → phase h t ≡ Live → 1 ≤ times t (beginnings h)

unfoldable pub ArePhasesOf : List Record → List Entry → Phases → Type 0
ArePhasesOf opening h p = AreKept opening h (phase_in p.transactions) (is_owner_in p.transactions) (last_in p.sessions) p.greatest p.live

-- ---- entries

-- how many are live after one that was in this phase is live no more
abbrev pub live_after : ℕ → Phase → ℕ
live_after n p = if is_live p then n - 1 else n

-- the transaction comes to this phase by the entry, and no other one to any; nothing begins
pub record IsMoveOf (tx : ℕ) (next : Phase) (e : Entry) : Type 0 where
  pub phases : (t : ℕ) (p : Phase) → phase_step t p e ≡ (if tx == t then next else p)
  pub begins : beginnings (e ∷ []) ≡ []
  pub last : (s : ℕ) (t : Option ℕ) → session_step s t e ≡ t
  pub greatest : (n : ℕ) → begun_step n e ≡ n
