-- What each command does where no life is open, over any stage.
use Rattle.std.proofs.Common.{◌≡◌, ◌≢◌, ℕ, ◌<◌, ◌≤◌, Bool, true, false, List, [], ◌++◌, Option, None, Some, refl, sym, ap, subst, ◌∙◌, arith, ⊎_elim, inl, inr, length}
use Rattle.std.specs.Prelude.{codes, is_some, ◌^◌}
use Rattle.std.specs.Fmt.{decimal}
use Rattle.media.specs.Cause.{Rose}
use Rattle.media.specs.Counted.{Armed, Blames}
use Rattle.media.specs.Crash.{NoMore, Only}
use Rattle.media.specs.declared.disk.Disk.{Ghosts}
use Rattle.wal_record.specs.Rules.{is_limit}
use Rattle.wal_record.specs.Checkpoints.{commits}
use Rattle.wal_record.specs.OpenWrites.{losers}
use Rattle.wal_record.specs.declared.record.Record.{Record}
use Rattle.script.specs.declared.command.Command.{Command}
use Rattle.script.specs.declared.command.Command.TheVariants as commands
use Rattle.script.specs.declared.command.Device.{Device}
use Rattle.script.specs.declared.command.Device.TheVariants.{Log, Data, Vault}
use Rattle.transcript.specs.Lines.{device_text}
use Rattle.runner.specs.declared.at.At.{At}
use Rattle.runner.specs.declared.at.Stepped.{Stepped}
use Rattle.runner.specs.declared.at.Stepped.TheVariants as steps
use Rattle.life_commands.specs.declared.status.Status.{Status}
use Rattle.life_commands.specs.declared.status.Status.TheVariants as statuses
use Rattle.life_commands.specs.Bytes.{Known, MayMake, MayOpen, StaysKnown, Allows}
use Rattle.store_log.specs.Shows.{Shows}
use Rattle.runner.specs.Causes.{LogCause, SteppedCause, disk_at}
use Rattle.life_commands.specs.LogDisk.{View, Whole, Form, IsWhole, seen, Keeps}
use Rattle.life_commands.specs.Living.{Adds, IsFused, Out, Safe}
use Rattle.store_log.specs.Beginnings.{BeginsOn, Beginning}
use Rattle.runner.specs.Machine.{Begun, IsAt, Steps, Refuses, no_opening}
use Rattle.runner.specs.Clause.{AtRest}
use Rattle.store_log.specs.Openings.{Makes, IsMade, IsNotMade, IsBegun, IsNotBegun}
use Rattle.life_commands.specs.Refusals.{HasLife, LeftAs, RefusesAt}
use Rattle.life_commands.specs.Stores.{AreOf, Stores}
use Rattle.life_commands.specs.Rows.{FitsAt, IsEnd, IsCutOff, no_life, is_lawful}
use Rattle.life_commands.specs.Turns.{Fuses, Life, Stage, Turn, stage_step, turn, last_turn, with_fuse, Last, Unformatted, Stopped, Done, LogFault, Opening, room_of, last_after, bytes_after}
use Rattle.life_commands.proofs.Entered.{enters_own}
use Rattle.runner.proofs.Stores.{fewer_of, stopped_of}
use Rattle.store_log.proofs.Known.{known_none}
use Rattle.runner.proofs.Places.{safe_out}
use Rattle.life_commands.proofs.Lives.{keeps_same, keeps_only}

-- ---- fuses

module _ {D : Type 0} (L : Ghosts D) (disk left : D) (F : Type 0) (b : Blames L.passes L.refused L.own disk left F) where
  fused_after : (armed : Bool) → IsFused L disk armed → IsFused L left armed
  fused_after armed f = record { fuse = f.fuse; renewed = λ e. (b.unarmed (f.renewed e)).0 }

  -- only an armed fuse refuses a call
  armed_by : (armed : Bool) → IsFused L disk armed → L.refused left ≢ L.refused disk → armed ≡ true
  armed_by true f more = refl
  armed_by false f more = absurd (more (b.unarmed (f.renewed refl)).1)

  -- where none was refused, the disk itself failed
  own_rose : F → L.refused left ≤ L.refused disk → L.refused disk < 2 ^ 62 → Rose (L.own disk) (L.own left)
  own_rose f none few = ⊎_elim (λ rose. rose) (λ rose. absurd (omega (arith, rose, none, few))) (b.cause f)

module _ {D F : Type 0} (T : Type 0) (L : Ghosts D) (inside : F → Stage → Type 0) (disk : D) (s : Stage) (h : Out T L disk s) where
  lawful_out : no_life s.life ≡ true
  lawful_out = ap no_life h.life

  out_known : Known T L (bytes_after s.life s.bytes) disk
  out_known = (safe_out L T 0 disk s h).bytes

  known_as : (left : D) → StaysKnown T L disk left → Known T L (bytes_after s.life s.bytes) left
  known_as left stays = stays _ out_known

  pub out_nothing : (out : List ℕ) → out ≡ [] → Adds L.tells (Out T L disk) s commands.Nothing out
  out_nothing out is = record { turn = turn commands.Nothing [] Done; is = refl; fits = record { goes = h.goes; lawful = refl; row = (tt, enters_own L.tells s commands.Nothing [] tt refl, tt) }; holds = h; lines = is }

  abbrev Stops : D → Command → ℕ → Status → Type 0
  Stops left c line status = RefusesAt L 0 left no_opening [] s c line status × Known T L (bytes_after s.life s.bytes) left

  -- no life is open
  no_here : HasLife L.tells no_opening [] s
  no_here l is = let none : ◌≡◌ {A = Option Life} None (Some l) = sym h.life ∙ is in absurd cc

  leaves_last : (left : D) (last : Last) → (L.tells → Keeps L last left) → L.tells → Keeps L (last_after s.life last 0) left
  leaves_last left last k t = subst (λ (x : Option Life). Keeps L (last_after x last 0) left) (sym h.life) (k t)

  leaves_as : (left : D) → (L.tells → Keeps L s.last left) → LeftAs L 0 left no_opening [] s
  leaves_as left k = record { leaves = leaves_last left s.last k; life = no_here }

  no_end : (n : Option ℕ) → IsEnd s.life n
  no_end n = subst (λ (x : Option Life). IsEnd x n) (sym h.life) tt

  -- a command without entries is cut off
  format_off : (limit : Option ℕ) → IsCutOff L.tells s (commands.Format limit) []
  format_off limit = record { goes = h.ended; rest = []; enters = enters_own L.tells s (commands.Format limit) [] tt refl; part = λ e. refl }

  open_off : IsCutOff L.tells s commands.Open []
  open_off = record { goes = h.ended; rest = []; enters = enters_own L.tells s commands.Open [] tt refl; part = λ e. refl }

  -- ---- a format

  module _ (limit : Option ℕ) (room : is_limit (room_of limit) ≡ true) where
    lawful_format : is_lawful s (commands.Format limit) ≡ true
    lawful_format = rw (lawful_out) room

    pub did_format : (left : D) (out : List ℕ) (F' : Type 0) → Makes L disk (IsMade L (room_of limit) left) → Allows T L disk MayMake → Blames L.passes L.refused L.own disk left F' → out ≡ codes "format ok\n" → Adds L.tells (Out T L left) s (commands.Format limit) out
    did_format left out F' made may b is = record {
      turn = turn (commands.Format limit) [] Done;
      is = refl;
      fits = record { goes = h.goes; lawful = lawful_format; row = ((may s.bytes h.bytes, λ t. (made t s.last (h.keeps t)).none), enters_own L.tells s (commands.Format limit) [] tt refl, tt) };
      holds = record { past = h.past; life = h.life; active = h.active; ended = h.ended; goes = h.goes; fused = fused_after L disk left F' b s.armed.log h.fused; keeps = λ t. (made t s.last (h.keeps t)).keeps; bytes = known_none T L s.bytes left (may s.bytes h.bytes) };
      lines = is;
    }

    refuses_format : (left : D) (line : ℕ) (status : Status) → IsNotMade L (room_of limit) disk left status → RefusesAt L 0 left no_opening [] s (commands.Format limit) line status
    refuses_format left line statuses.Memory not = inl (leaves_as left (λ t. not t s.last (h.keeps t)))
    refuses_format left line statuses.LogFault not = record {
      entries = [];
      fits = record { goes = h.goes; lawful = lawful_format; row = (inr refl, format_off limit) };
      right = (safe_out L T 0 disk s h).right;
      left = record { leaves = leaves_last left (Unformatted s.last (room_of limit)) (λ t. not t s.last (h.keeps t)); life = no_here };
    }
    refuses_format left line statuses.AlreadyFormatted not = (tt, (λ t. (not t s.last (h.keeps t)).0), leaves_as left (λ t. (not t s.last (h.keeps t)).1))
    refuses_format left line _ not = absurd not

    pub format_refused : (left : D) (line before : ℕ) (status : Status) (failed : List ℕ) (r : Stepped D F) → before ≡ L.refused disk → Refuses L left status before failed r → IsNotMade L (room_of limit) disk left status → Blames L.passes L.refused L.own disk left (status ≡ statuses.LogFault) → failed ≡ codes "format log failed\n"
        → StaysKnown T L disk left → Steps T L inside s (commands.Format limit) line r
    format_refused left line before status failed (steps.Goes out at) is r not b text stays = subst (λ (x : At D F). Adds L.tells (IsAt T L inside x) s (commands.Format limit) out.items) (sym r.2) (record {
      turn = turn (commands.Format limit) [] (LogFault 0);
      is = refl;
      fits = record { goes = h.goes; lawful = lawful_format; row = (armed_by L disk left (status ≡ statuses.LogFault) b s.armed.log h.fused (λ e. omega (arith, r.3, is, e)), refl, format_off limit, λ t. no_end s.ended) };
      holds = record {
        past = h.past;
        life = h.life;
        active = h.active;
        ended = h.ended;
        goes = h.goes;
        fused = fused_after L disk left (status ≡ statuses.LogFault) b s.armed.log h.fused;
        keeps = λ t. subst (λ (x : Status). IsNotMade L (room_of limit) disk left x) r.0 not t s.last (h.keeps t);
        bytes = stays s.bytes h.bytes;
      };
      lines = r.1 ∙ text;
    })
    format_refused left line before status failed (steps.Ends ending d) is r not b text stays =
        subst (λ (x : D). Stops x (commands.Format limit) line ending) (sym r.1) (subst (RefusesAt L 0 left no_opening [] s (commands.Format limit) line) (sym r.0) (refuses_format left line status not), known_as left stays)

  -- ---- an opening

  refuses_open : (left : D) (line : ℕ) (status : Status) → IsNotBegun L disk left status → RefusesAt L 0 left no_opening [] s commands.Open line status
  refuses_open left line statuses.Memory not = inl (leaves_as left (λ t. not.1 t s.last (h.keeps t)))
  refuses_open left line statuses.LogFault not = record {
    entries = [];
    fits = record { goes = h.goes; lawful = lawful_out; row = (inr refl, open_off) };
    right = (safe_out L T 0 disk s h).right;
    left = record { leaves = leaves_last left s.last (λ t. not.1 t s.last (h.keeps t)); life = no_here };
  }
  refuses_open left line (statuses.LogBad block byte) not = (tt, λ t. not.1 t s.last (h.keeps t))
  refuses_open left line statuses.NotFormatted not = (tt, (λ t. (not.1 t s.last (h.keeps t)).0), leaves_as left (λ t. (not.1 t s.last (h.keeps t)).1))
  refuses_open left line _ not = absurd not.0

  -- its line wants memory
  pub opened_leaves : (b : Beginning D) (line : ℕ) → Makes L disk (IsBegun T L b) → StaysKnown T L disk b.log.log.device → RefusesAt L 0 b.log.log.device no_opening [] s commands.Open line statuses.Memory × Known T L (bytes_after s.life s.bytes) b.log.log.device
  opened_leaves b line begun stays = (inl (leaves_as b.log.log.device (λ t. let k = begun t s.last (h.keeps t) in found_keeps b k)), known_as b.log.log.device stays)
    where
      found_keeps : (b : Beginning D) → IsBegun T L b s.last → Keeps L s.last b.log.log.device
      found_keeps b k = keeps_only L s.last b.log.log.device (k.opening, k.found, record { sound = k.begins.stands.sound; bs = k.begins.stands.log_disk.bs; stands = k.begins.stands.log_disk.stands; records = k.begins.stands.log_disk.records }) k.begins.stands.log_disk.only

  pub open_refused : (left : D) (line before : ℕ) (status : Status) (failed : List ℕ) (r : Stepped D F) → before ≡ L.refused disk → Refuses L left status before failed r → IsNotBegun L disk left status → Blames L.passes L.refused L.own disk left (status ≡ statuses.LogFault) → failed ≡ codes "open log failed\n"
      → StaysKnown T L disk left → Steps T L inside s commands.Open line r
  open_refused left line before status failed (steps.Goes out at) is r not b text stays = subst (λ (x : At D F). Adds L.tells (IsAt T L inside x) s commands.Open out.items) (sym r.2) (record {
    turn = turn commands.Open [] (LogFault 0);
    is = refl;
    fits = record { goes = h.goes; lawful = lawful_out; row = (armed_by L disk left (status ≡ statuses.LogFault) b s.armed.log h.fused (λ e. omega (arith, r.3, is, e)), refl, open_off, λ t. no_end s.ended) };
    holds = record {
      past = h.past;
      life = h.life;
      active = h.active;
      ended = h.ended;
      goes = h.goes;
      fused = fused_after L disk left (status ≡ statuses.LogFault) b s.armed.log h.fused;
      keeps = λ t. (subst (λ (x : Status). IsNotBegun L disk left x) r.0 not).1 t s.last (h.keeps t);
      bytes = stays s.bytes h.bytes;
    };
    lines = r.1 ∙ text;
  })
  open_refused left line before status failed (steps.Ends ending d) is r not b text stays =
      subst (λ (x : D). Stops x commands.Open line ending) (sym r.1) (subst (RefusesAt L 0 left no_opening [] s commands.Open line) (sym r.0) (refuses_open left line status not), known_as left stays)

  -- ---- the data device, and fuses

  -- the log disk is as it was
  pub did_damage : (page : ℕ) (out : List ℕ) → out ≡ codes "damage " ++ decimal page ++ codes "\n" → Adds L.tells (Out T L disk) s (commands.Damage page) out
  did_damage page out is = record { turn = turn (commands.Damage page) [] Done; is = refl; fits = record { goes = h.goes; lawful = refl; row = (tt, enters_own L.tells s (commands.Damage page) [] tt refl, tt) }; holds = h; lines = is }

  module _ (left : D) (same : L.tells → L.told left ≡ L.told disk) (more : NoMore L.may_leave disk left) (stays : StaysKnown T L disk left) (device : Device) where
    still_keeps : L.tells → Keeps L s.last left
    still_keeps t = keeps_same L s.last disk left (same t) more (h.keeps t)

    pub did_fuse : (calls : ℕ) (out : List ℕ) → IsFused L left (with_fuse device true s.armed).log → out ≡ codes "fuse " ++ device_text device ++ codes " " ++ decimal calls ++ codes "\n" → Adds L.tells (Out T L left) s (commands.Fuse device calls) out
    did_fuse calls out fused is = record {
      turn = turn (commands.Fuse device calls) [] Done;
      is = refl;
      fits = record { goes = h.goes; lawful = refl; row = (tt, enters_own L.tells s (commands.Fuse device calls) [] tt refl, tt) };
      holds = record { past = h.past; life = h.life; active = h.active; ended = h.ended; goes = h.goes; fused = fused; keeps = still_keeps; bytes = stays s.bytes h.bytes };
      lines = is;
    }

    pub did_renew : (out : List ℕ) → IsFused L left (with_fuse device false s.armed).log → out ≡ codes "renew " ++ device_text device ++ codes "\n" → Adds L.tells (Out T L left) s (commands.Renew device) out
    did_renew out fused is = record {
      turn = turn (commands.Renew device) [] Done;
      is = refl;
      fits = record { goes = h.goes; lawful = refl; row = (tt, enters_own L.tells s (commands.Renew device) [] tt refl, tt) };
      holds = record { past = h.past; life = h.life; active = h.active; ended = h.ended; goes = h.goes; fused = fused; keeps = still_keeps; bytes = stays s.bytes h.bytes };
      lines = is;
    }

-- the log disk's fuse, armed or renewed; that of another device leaves it as it was
pub log_armed : {D : Type 0} (L : Ghosts D) (old new : D) (n : Option ℕ) → Armed L.fuses L.passes L.refused L.own n old new → (armed : Fuses) → IsFused L old armed.log → IsFused L new (with_fuse Log (is_some n) armed).log
log_armed L old new None a armed f = record { fuse = f.fuse; renewed = λ e. a.armed f.fuse }
log_armed L old new (Some n) a armed f = record { fuse = f.fuse; renewed = λ e. absurd cc }

pub other_armed : {D : Type 0} (L : Ghosts D) (disk : D) (device : Device) (n : Option ℕ) → device ≢ Log → (armed : Fuses) → IsFused L disk armed.log → IsFused L disk (with_fuse device (is_some n) armed).log
other_armed L disk Log n other armed f = absurd (other refl)
other_armed L disk Data n other armed f = f
other_armed L disk Vault n other armed f = f

pub fused_seen : {D : Type 0} (L : Ghosts D) (v : View L.tells) (old new : D) (device : Device) (on : Bool) (armed : Fuses) → (IsFused L old armed.log → IsFused L new (with_fuse device on armed).log) → IsFused (seen L v) old armed.log → IsFused (seen L v) new (with_fuse device on armed).log
fused_seen L v old new device on armed to f = let g = to (record { fuse = f.fuse; renewed = f.renewed }) in record { fuse = g.fuse; renewed = g.renewed }

-- a stop, at any place
module _ {D : Type 0} (T : Type 0) (L : Ghosts D) (kept : ℕ) (disk left : D) (s : Stage) (safe : Safe T L kept disk s) (stays : StaysKnown T L disk left) (keep : Option ℕ) (out : List ℕ) (may : L.tells → L.may_leave disk (L.told left)) (only : L.tells → Only (L.told left) (L.may_leave left)) (renewed : L.fuses → L.passes left ≡ None)
    (is : out ≡ codes "stop\n") where
  abbrev stop_turn : Turn
  stop_turn = last_turn (commands.Stop keep) [] kept Done

  stop_fits : FitsAt L.tells s stop_turn
  stop_fits = record { goes = safe.goes; lawful = refl; row = (tt, enters_own L.tells s (commands.Stop keep) [] tt refl, tt) }

  stop_out : Out T L left (stage_step s stop_turn)
  stop_out = record {
    past = safe.right;
    life = refl;
    active = refl;
    ended = refl;
    goes = safe.goes;
    fused = record { fuse = safe.fuse; renewed = λ e. renewed safe.fuse };
    keeps = λ t. keeps_only L (Stopped (last_after s.life s.last kept)) left ((safe.leaves t).crash (L.told left) (may t)) (only t);
    bytes = stays _ safe.bytes;
  }

  pub did_stop : Adds L.tells (Out T L left) s (commands.Stop keep) out
  did_stop = record { turn = stop_turn; is = refl; fits = stop_fits; holds = stop_out; lines = is }

  -- with what is beside the log disk
  pub did_rest : {S : Type 0} (B : Stores S) (old new : S) → (B.tells → (log : List Record) → B.are_of old log → B.are_of new log) → (L.tells → B.tells) → (L.tells → AreOf (B.are_of old) (last_after s.life s.last kept)) → Adds L.tells (AtRest T L B left new) s (commands.Stop keep) out
  did_rest B old new fewer told these = record {
    turn = stop_turn;
    is = refl;
    fits = stop_fits;
    holds = record {
      here = stop_out;
      told = told;
      stores = λ t. fewer_of (B.are_of old) (B.are_of new) (Stopped (last_after s.life s.last kept)) (fewer (told t)) (stopped_of (B.are_of old) (last_after s.life s.last kept) (these t));
    };
    lines = is;
  }

-- an opening finds a log; where the form alone is looked at, any stands for it
pub did_open : {D : Type 0} (L : Ghosts D) (v : View L.tells) (disk : D) (s : Stage) → Out L.tells (seen L v) disk s → Allows L.tells L disk MayOpen → (b : Beginning D) (commits_found losers_found : ℕ) (out : List ℕ) (F : Type 0) → Makes (seen L v) disk (IsBegun L.tells (seen L v) b)
    → ((opening : List Record) → BeginsOn L.tells L b opening → (commits_found ≡ commits opening) × (losers_found ≡ length (losers opening))) → Blames L.passes L.refused L.own disk b.log.log.device F
    → out ≡ codes "open commits=" ++ decimal commits_found ++ codes " losers=" ++ decimal losers_found ++ codes "\n" → Adds (IsWhole v) (Begun L.tells (seen L v) b) s commands.Open out
did_open L (Whole t) disk s h may b cs ls out F begun figures blames text =
    let M = seen L (Whole t) in
    let k = begun tt s.last (h.keeps tt) in
    let on : BeginsOn L.tells L b k.opening = record { may = k.begins.may; stands = k.begins.stands } in
    record {
      turn = record { command = commands.Open; entries = []; found = k.opening; kept = 0; figures = Opening cs ls; end = Done };
      is = refl;
      fits = record { goes = h.goes; lawful = ap no_life h.life; row = ((may s.bytes h.bytes, λ _. (k.found, k.begins.may.some)), enters_own M.tells s commands.Open [] tt refl, (cs, ls, refl, λ _. figures k.opening on)) };
      holds = record {
        past = h.past;
        opening = k.opening;
        life = refl;
        active = h.active;
        ended = h.ended;
        goes = h.goes;
        fused = fused_after M disk b.log.log.device F blames s.armed.log h.fused;
        begins = λ _. k.begins;
      };
      lines = text;
    }
did_open L Form disk s h may b cs ls out F begun figures blames text =
    let M = seen L Form in
    record {
      turn = record { command = commands.Open; entries = []; found = []; kept = 0; figures = Opening cs ls; end = Done };
      is = refl;
      fits = record { goes = h.goes; lawful = ap no_life h.life; row = ((may s.bytes h.bytes, λ t. absurd t), enters_own M.tells s commands.Open [] tt refl, (cs, ls, refl, λ t. absurd t)) };
      holds = record {
        past = h.past;
        opening = [];
        life = refl;
        active = h.active;
        ended = h.ended;
        goes = h.goes;
        fused = fused_after M disk b.log.log.device F blames s.armed.log h.fused;
        begins = λ t. absurd t;
      };
      lines = text;
    }

-- which statuses an opening and a format may give
pub open_kind : {D : Type 0} (L : Ghosts D) (disk left : D) (status : Status) → IsNotBegun L disk left status → status ≢ statuses.LogFault → LogCause 0 0 status
open_kind L disk left statuses.Memory not q = tt
open_kind L disk left statuses.LogFault not q = absurd (q refl)
open_kind L disk left (statuses.LogBad block byte) not q = tt
open_kind L disk left statuses.NotFormatted not q = tt
open_kind L disk left _ not q = absurd not.0

pub made_kind : {D : Type 0} (L : Ghosts D) (limit : ℕ) (disk left : D) (status : Status) → IsNotMade L limit disk left status → status ≢ statuses.LogFault → LogCause 0 0 status
made_kind L limit disk left statuses.Memory not q = tt
made_kind L limit disk left statuses.LogFault not q = absurd (q refl)
made_kind L limit disk left statuses.AlreadyFormatted not q = tt
made_kind L limit disk left _ not q = absurd not

-- the cause of a log that isn't made or opened
cause_of : {D : Type 0} (L : Ghosts D) (disk left : D) (status : Status) → L.refused disk < 2 ^ 62 → (status ≡ statuses.LogFault → L.refused left ≤ L.refused disk) → Blames L.passes L.refused L.own disk left (status ≡ statuses.LogFault)
    → (status ≢ statuses.LogFault → LogCause 0 0 status) → LogCause (L.own disk) (L.own left) status
cause_of L disk left statuses.LogFault few none b kind = own_rose L disk left _ b refl (none refl) few
cause_of L disk left statuses.SourceFault few none b kind = kind (λ q. cc)
cause_of L disk left statuses.SinkFault few none b kind = kind (λ q. cc)
cause_of L disk left statuses.Usage few none b kind = kind (λ q. cc)
cause_of L disk left statuses.NoGenerator few none b kind = kind (λ q. cc)
cause_of L disk left statuses.Done few none b kind = kind (λ q. cc)
cause_of L disk left _ few none b kind = tt

pub refused_cause : {D F : Type 0} (L : Ghosts D) (device : F → D) (disk left : D) (before : ℕ) (status : Status) (failed : List ℕ) (r : Stepped D F) → before ≡ L.refused disk → before < 2 ^ 62 → Refuses L left status before failed r → Blames L.passes L.refused L.own disk left (status ≡ statuses.LogFault)
    → (status ≢ statuses.LogFault → LogCause 0 0 status) → Shows L left status → SteppedCause L device disk r
refused_cause {D} {F} L device disk left before status failed (steps.Goes out at) is few r b kind shows = subst (λ (x : At D F). L.own disk ≤ L.own (disk_at device x)) (sym r.2) b.own_later
refused_cause {D} {F} L device disk left before status failed (steps.Ends ending d) is few r b kind shows =
    subst (λ (x : D). (L.own disk ≤ L.own x) × LogCause (L.own disk) (L.own x) ending × Shows L x ending) (sym r.1)
    (subst (λ (x : Status). (L.own disk ≤ L.own left) × LogCause (L.own disk) (L.own left) x × Shows L left x) (sym r.0) (b.own_later, cause_of L disk left status (omega (arith, is, few)) (λ e. omega (arith, r.2 e, is)) b kind, shows))
