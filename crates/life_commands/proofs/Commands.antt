-- What each command of a life adds, over any stage.
use Rattle.std.proofs.Common.{◌≡◌, ℕ, ◌<◌, Bool, true, false, List, [], ◌∷◌, ◌++◌, Option, Some, None, refl, sym, ap, subst, ◌∙◌, append-nil, arith, inl, inr, length}
use Rattle.std.specs.Prelude.{◌⊎◌, codes, filter}
use Rattle.std.specs.List.{All}
use Rattle.std.proofs.lemmas.List.{append_cancel_left}
use Rattle.std.specs.Fmt.{decimal}
use Rattle.media.specs.declared.disk.Disk.{Ghosts}
use Rattle.store_model.specs.declared.limits.TheConstants.{MOST_ACTIVE}
use Rattle.store_model.specs.declared.object.ObjectName.{ObjectName}
use Rattle.store_model.specs.declared.reply.Outcome.{Outcome}
use Rattle.store_model.specs.declared.reply.Outcome.TheVariants as outcomes
use Rattle.store_model.specs.declared.request.Request.{Request}
use Rattle.wal_record.specs.Checkpoints.{commits}
use Rattle.wal_record.specs.History.{life_log}
use Rattle.wal_record.specs.declared.record.Checkpoint.{Checkpoint}
use Rattle.wal_record.specs.declared.record.Lost.{Lost}
use Rattle.wal_record.specs.declared.record.Record.{Record}
use Rattle.wal_record.specs.declared.record.Record.TheVariants as kinds
use Rattle.wal_record.specs.declared.entry.Entry.{Entry}
use Rattle.wal_record.specs.declared.entry.Entry.TheVariants.{Rec, Declined, Acked}
use Rattle.log_laws.specs.Right.{IsRight}
use Rattle.journal.specs.Stops.{IsDurableUpto}
use Rattle.page_ops.specs.Causes.{IsUntold}
use Rattle.page_ops.specs.Outcomes.{losers_left}
use Rattle.page_ops.specs.Seeing.{Calls}
use Rattle.command_laws.specs.Commands.{Among, Answers, Aborts, Begins, Commits, IsBesideRequest, IsUpkeep, commit_record, end_record}
use Rattle.command_laws.specs.Names.{Active, active_of, began, is_active, without}
use Rattle.maintenance.specs.Steps.{AreAllOver}
use Rattle.rollback.specs.Owners.{IsLoserOf}
use Rattle.engine.specs.Beside.{IsInWay}
use Rattle.engine.specs.Requests.{lock_of}
use Rattle.store_life.specs.Steps.{IsStep}
use Rattle.store_life.specs.Turns.{IsOfAbort, WasInWay}
use Rattle.store_pages.specs.Backed.{AddsBackup, AddsRuns, IsArchived, IsWhole}
use Rattle.own_life.specs.Helps.{AddsSteps, Helps, takes_back}
use Rattle.own_life.specs.State.{BreaksOff, CallsGoOn, GoesOn, LifeState}
use Rattle.script.specs.declared.command.Command.{Command}
use Rattle.script.specs.declared.command.Command.TheVariants as commands
use Rattle.script.specs.declared.command.Device.TheVariants.{Log, Vault}
use Rattle.transcript.specs.Lines.{archive_line, ended_line, failed_line, refused_line, stat_line, upkeep_line}
use Rattle.transcript.specs.declared.upkeep.Stat.{Stat}
use Rattle.transcript.specs.declared.upkeep.Upkeep.TheVariants as upkeeps
use Rattle.life_commands.specs.Figures.{AllArchived, IsBackedUp, IsHelped, IsStat}
use Rattle.life_commands.specs.LogDisk.{Keeps}
use Rattle.life_commands.specs.Living.{Adds, IsArmed, IsDiskOf, Within}
use Rattle.life_commands.specs.Refusals.{CutAt, LeftAs, RefusesAt}
use Rattle.life_commands.specs.Rows.{Calls as CallsDevice, FitsAt, IsBeside, IsCutOff, IsEnd, IsInWayOf, IsLoserIn, IsNoClose, IsOfLife, IsOwn, MayEnter, WroteInRoom, is_lawful, no_life}
use Rattle.life_commands.specs.Text.{answer_lines, head}
use Rattle.life_commands.specs.Turns.{turn, Turn, Life, Fuses, with_entries, Stage, Done, TooMany, LogFault, VaultFault, Ended, Cut, Numbered, Counted, Made, history_of, lives, lives_of, last_after, IsRightLife, close_over, done, failed_stage, last_turn, stage_step, longer, log_of_life}
use Rattle.life_commands.specs.declared.status.Status.TheVariants as statuses
use Rattle.life_commands.proofs.Entered.{all_map, all_taken, among_last, among_map, beside_map, answer_own, enters_among, enters_own, room_declined, step_map, undoes}
use Rattle.life_commands.proofs.Lives.{has_life, life_keeps, right_more}

-- ---- the fuse

pub armed_next : (fuses F : Type 0) (x y : Calls) (armed : Bool) → CallsGoOn F x y → IsArmed fuses x armed → IsArmed fuses y armed
armed_next fuses F x y armed c a = record { fuse = a.fuse; renewed = λ e. (c.unarmed (a.renewed e)).0 }

-- only an armed fuse refuses a call
armed_by : (fuses F : Type 0) (x y : Calls) (armed : Bool) → CallsGoOn F x y → IsArmed fuses x armed → x.refused < y.refused → armed ≡ true
armed_by fuses F x y true c a more = refl
armed_by fuses F x y false c a more = absurd (let same = (c.unarmed (a.renewed refl)).1 in omega (arith, more, same))

-- what a failed command leaves, whichever it was
failed_is : (s : Stage) (c : Command) (es : List Entry) (at : Option ℕ) → IsOfLife c → CallsDevice c Log → failed_stage s c es at ≡ record (with_entries s es) { ended = at }
failed_is s (commands.Ask name request) es at kind calls = refl
failed_is s (commands.Commit name) es at kind calls = refl
failed_is s (commands.Abort name) es at kind calls = refl
failed_is s commands.Checkpoint es at kind calls = refl
failed_is s commands.Backup es at kind calls = refl
failed_is s commands.Archive es at kind calls = refl
failed_is s commands.Lose es at kind calls = refl
failed_is s (commands.Help steps) es at kind calls = refl
failed_is s commands.Close es at kind calls = refl
failed_is s (commands.Begin name) es at kind calls = absurd calls
failed_is s commands.Stat es at kind calls = absurd calls
failed_is s _ es at kind calls = absurd kind

-- a close alone ends a life that has ended before, or fails
not_over : (c : Command) (kept : ℕ) (s : Stage) → IsNoClose c → close_over c kept s ≡ s
not_over commands.Close kept s stays = absurd stays
not_over _ kept s stays = refl

module _ {D : Type 0} (L : Ghosts D) (opens : List Record → Type 0) (x : LifeState) (s : Stage) (h : Within L opens x s) where
  abbrev In : LifeState → Stage → Type 0
  In y s' = Within L opens y s'

  pub living : no_life s.life ≡ false
  living = ap no_life h.life

  named : (name : List ℕ) → is_active s.active name ≡ is_active x.active name
  named name = ap (λ (a : List Active). is_active a name) h.active

  pub goes_on : x.ended ≡ None → s.ended ≡ None
  goes_on none = h.ended ∙ none

  -- ---- which commands are lawful

  pub begun_twice : (name : List ℕ) → is_active x.active name ≡ true → is_lawful s (commands.Begin name) ≡ false
  begun_twice name e = rw (living, named name ∙ e) refl

  pub may_begin : (name : List ℕ) → is_active x.active name ≡ false → is_lawful s (commands.Begin name) ≡ true
  may_begin name e = rw (living, named name ∙ e) refl

  pub is_named : (name : List ℕ) (b : Bool) → is_active x.active name ≡ b → is_active s.active name ≡ b
  is_named name b e = named name ∙ e

  pub may_look : is_lawful s commands.Stat ≡ true
  may_look = rw living refl

  -- ---- lines that add nothing

  pub did_nothing : (out : List ℕ) → out ≡ [] → Adds L.tells (In x) s commands.Nothing out
  did_nothing out is = record { turn = turn commands.Nothing [] Done; is = refl; fits = record { goes = h.goes; lawful = refl; row = (tt, enters_own L.tells s commands.Nothing [] tt refl, tt) }; holds = h; lines = is }

  -- the life has ended
  pub did_end : (c : Command) (n : ℕ) (out : List ℕ) → x.ended ≡ Some n → is_lawful s c ≡ true → IsOfLife c → IsNoClose c → out ≡ ended_line (head c) n → Adds L.tells (In x) s c out
  did_end c n out ended lawful kind stays is = record {
    turn = turn c [] (Ended n);
    is = refl;
    fits = record { goes = h.goes; lawful = lawful; row = (h.ended ∙ ended, kind, refl) };
    holds = subst (In x) (sym (not_over c 0 s stays)) h;
    lines = is;
  }

  -- ---- the disk that the life hands out

  -- nothing was entered
  left_still : (y : LifeState) (kept : ℕ) (disk : D) → y.history ≡ x.history → IsDiskOf L opens y kept disk → LeftAs L kept disk opens y.history s
  left_still y kept disk same of = record {
    leaves = λ t. subst (λ (o : Option Life). Keeps L (last_after o s.last kept) disk) (sym h.life) (life_keeps L opens y h.here kept disk (h.begins t) (h.history ∙ sym same) of);
    life = has_life L.tells opens y.history h.here s h.life h.begins (h.history ∙ sym same);
  }

  module _ (kept : ℕ) (disk : D) (of : IsDiskOf L opens x kept disk) where
    pub left_here : LeftAs L kept disk opens x.history s
    left_here = left_still x kept disk refl of

    -- a line that isn't lawful
    pub unlawful : (c : Command) (line : ℕ) → is_lawful s c ≡ false → RefusesAt L kept disk opens x.history s c line (statuses.Script line)
    unlawful c line is = (refl, is, left_here)

    pub no_memory : (c : Command) (line : ℕ) → RefusesAt L kept disk opens x.history s c line statuses.Memory
    no_memory c line = inl left_here

  -- ---- a turn with these entries, behind which the life is so

  module _ (y : LifeState) (es : List Entry) (grew : y.history ≡ x.history ++ es) (right : (opening : List Record) → opens opening → IsRight opening y.history) where
    abbrev pub here : Life
    here = record { opening = h.here.opening; history = h.here.history ++ es }

    pub history_is : here.history ≡ y.history
    history_is = ap (λ (l : List Entry). l ++ es) h.history ∙ sym grew

    pub longer_is : longer s.life es ≡ Some here
    longer_is = ap (λ (o : Option Life). longer o es) h.life

    pub here_right : L.tells → IsRightLife here
    here_right t = subst (IsRight h.here.opening) (sym history_is) (right h.here.opening (h.begins t))

    next : (s' : Stage) → s'.past ≡ s.past → s'.life ≡ longer s.life es → s'.active ≡ y.active → s'.ended ≡ y.ended → s'.cut ≡ s.cut → s'.armed ≡ s.armed → IsArmed L.fuses y.calls s.armed.log → In y s'
    next s' past life active ended cut armed fused = record {
      past = λ t. subst (All IsRightLife) (sym past) (h.past t);
      here = here;
      life = life ∙ longer_is;
      active = active;
      ended = ended;
      goes = cut ∙ h.goes;
      fused = subst (λ (f : Fuses). IsArmed L.fuses y.calls f.log) (sym armed) fused;
      history = history_is;
      begins = h.begins;
      right = here_right;
    }

    -- what holds then wherever the run ends
    pub all_right : (s' : Stage) → s'.past ≡ s.past → s'.life ≡ longer s.life es → L.tells → All IsRightLife (lives s')
    all_right s' past life t = subst (λ (o : Option Life). All IsRightLife (lives_of o s'.past)) (sym (life ∙ longer_is)) (right_more L s'.past here (subst (All IsRightLife) (sym past) (h.past t)) (here_right t))

    all_left : (s' : Stage) (kept : ℕ) (disk : D) → IsDiskOf L opens y kept disk → s'.life ≡ longer s.life es → LeftAs L kept disk opens y.history s'
    all_left s' kept disk of life = record {
      leaves = λ t. subst (λ (o : Option Life). Keeps L (last_after o s'.last kept) disk) (sym (life ∙ longer_is)) (life_keeps L opens y here kept disk (h.begins t) history_is of);
      life = has_life L.tells opens y.history here s' (life ∙ longer_is) h.begins history_is;
    }

    -- ---- a command that is done

    module _ (c : Command) (kind : IsOfLife c) (t : Turn) (is : t.command ≡ c) (fits : FitsAt L.tells s t) (past : (stage_step s t).past ≡ s.past) (life : (stage_step s t).life ≡ longer s.life es) where
      -- its lines want memory
      pub lacks_lines : (kept : ℕ) (disk : D) → IsDiskOf L opens y kept disk → (line : ℕ) → RefusesAt L kept disk opens y.history s c line statuses.Memory
      lacks_lines kept disk of line = inr (record { here = h.here; life = h.life; kind = kind; turn = t; is = is; fits = fits; there = here; stays = life ∙ longer_is; right = all_right (stage_step s t) past life; left = all_left (stage_step s t) kept disk of life })

    -- ---- a command that the vault's fuse refused a call

    pub did_vault_fail : (c : Command) → CallsDevice c Vault → is_lawful s c ≡ true → IsCutOff L.tells s c es → s.armed.vault ≡ true → GoesOn x y → y.active ≡ x.active → (out : List ℕ) → out ≡ failed_line (head c) Vault → Adds L.tells (In y) s c out
    did_vault_fail c calls lawful off armed goes active out text =
        let t : Turn = turn c es VaultFault in
        record {
          turn = t;
          is = refl;
          fits = record { goes = h.goes; lawful = lawful; row = (armed, calls, off) };
          holds = next (stage_step s t) refl refl (h.active ∙ sym active) (off.goes ∙ sym goes.ended) refl refl (armed_next L.fuses ⊥ x.calls y.calls s.armed.log goes.calls h.fused);
          lines = text;
        }

    -- ---- a command that was cut off

    module _ (c : Command) (kind : IsOfLife c) (calls : CallsDevice c Log) (lawful : is_lawful s c ≡ true) (off : IsCutOff L.tells s c es) where
      cut_fits : FitsAt L.tells s (turn c es Cut)
      cut_fits = record { goes = h.goes; lawful = lawful; row = (inl kind, off) }

      cut_past : (stage_step s (turn c es Cut)).past ≡ s.past
      cut_past = ap (λ (z : Stage). z.past) (failed_is s c es None kind calls)

      cut_life : (stage_step s (turn c es Cut)).life ≡ longer s.life es
      cut_life = ap (λ (z : Stage). z.life) (failed_is s c es None kind calls)

      cut_at : (kept : ℕ) (disk : D) → IsDiskOf L opens y kept disk → CutAt L kept disk opens y.history s c
      cut_at kept disk of = record { entries = es; fits = cut_fits; right = all_right (stage_step s (turn c es Cut)) cut_past cut_life; left = all_left (stage_step s (turn c es Cut)) kept disk of cut_life }

      pub cut_memory : (kept : ℕ) (disk : D) → IsDiskOf L opens y kept disk → (line : ℕ) → RefusesAt L kept disk opens y.history s c line statuses.Memory
      cut_memory kept disk of line = lacks_lines c kind (turn c es Cut) refl cut_fits cut_past cut_life kept disk of line

      pub cut_fault : (kept : ℕ) (disk : D) → IsDiskOf L opens y kept disk → (line : ℕ) → RefusesAt L kept disk opens y.history s c line statuses.LogFault
      cut_fault kept disk of line = cut_at kept disk of

      pub cut_bad : (kept : ℕ) (disk : D) → IsDiskOf L opens y kept disk → (line block byte : ℕ) → IsUntold opens → RefusesAt L kept disk opens y.history s c line (statuses.BlockBad block byte)
      cut_bad kept disk of line block byte untold = (cut_at kept disk of, λ t. untold h.here.opening (h.begins t))

      pub cut_vault : (kept : ℕ) (disk : D) → IsDiskOf L opens y kept disk → (line : ℕ) → RefusesAt L kept disk opens y.history s c line statuses.VaultFault
      cut_vault kept disk of line = cut_at kept disk of

      pub cut_object : (kept : ℕ) (disk : D) → IsDiskOf L opens y kept disk → (line : ℕ) (object : ObjectName) (byte : ℕ) → IsUntold opens → RefusesAt L kept disk opens y.history s c line (statuses.VaultBad object byte)
      cut_object kept disk of line object byte untold = (cut_at kept disk of, λ t. untold h.here.opening (h.begins t))

      -- a fuse refused a call
      -- so many records of the log are durable then, where the command is a close
      pub fail_fits : (kept : ℕ) (b : BreaksOff opens x y) → x.calls.refused < y.calls.refused → FitsAt L.tells s (last_turn c es kept (LogFault b.at))
      fail_fits kept b refused = record {
        goes = h.goes;
        lawful = lawful;
        row = (
          armed_by L.fuses (Unit {0}) x.calls y.calls s.armed.log b.calls h.fused refused,
          calls,
          off,
          λ u. subst (λ (z : Stage). IsEnd z.life z.ended) (sym (failed_is s c es (Some b.at) kind calls))
              (subst (λ (o : Option Life). IsEnd o (Some b.at)) (sym longer_is) (subst (λ (l : List Entry). IsDurableUpto h.here.opening l b.at) (sym history_is) (b.durable h.here.opening (h.begins u)))),
        );
      }

      pub did_fail : IsNoClose c → (b : BreaksOff opens x y) → y.active ≡ x.active → x.calls.refused < y.calls.refused → (out : List ℕ) → out ≡ failed_line (head c) Log → Adds L.tells (In y) s c out
      did_fail stays b active refused out text =
          let at = not_over c 0 (failed_stage s c es (Some b.at)) stays ∙ failed_is s c es (Some b.at) kind calls in
          let t : Turn = turn c es (LogFault b.at) in
          record {
            turn = t;
            is = refl;
            fits = fail_fits 0 b refused;
            holds = next (stage_step s t) (ap (λ (z : Stage). z.past) at) (ap (λ (z : Stage). z.life) at) (ap (λ (z : Stage). z.active) at ∙ h.active ∙ sym active) (ap (λ (z : Stage). z.ended) at ∙ sym b.ended) (ap (λ (z : Stage). z.cut) at) (ap (λ (z : Stage). z.armed) at)
                (armed_next L.fuses (Unit {0}) x.calls y.calls s.armed.log b.calls h.fused);
            lines = text;
          }

  -- ---- begin

  pub did_begin : (none : x.ended ≡ None) (y : LifeState) (name : List ℕ) (tx session : ℕ) (own : List Entry) → Begins x.history session tx own → y.history ≡ x.history ++ own → y.active ≡ x.active ++ record { name = name; session = session; tx = tx } ∷ [] → GoesOn x y
      → length x.active < MOST_ACTIVE → is_active x.active name ≡ false → ((opening : List Record) → opens opening → IsRight opening y.history) → (out : List ℕ) → out ≡ name ++ codes " begin\n" → Adds L.tells (In y) s (commands.Begin name) out
  did_begin none y name tx session own begins grew active goes few free right out text =
      let t : Turn = turn (commands.Begin name) own Done in
      let seen : history_of s.life ≡ x.history = ap history_of h.life ∙ h.history in
      record {
        turn = t;
        is = refl;
        fits = record {
          goes = h.goes;
          lawful = may_begin name free;
          row = ((goes_on none, subst (λ (l : List Active). length l < MOST_ACTIVE) (sym h.active) few), enters_own L.tells s (commands.Begin name) own tt (session, tx, subst (λ (l : List Entry). Begins l session tx own) (sym seen) begins), tt);
        };
        holds = next y own grew right (stage_step s t) refl refl ((λ i. h.active i ++ began name (begins.1 i)) ∙ sym active) (goes_on none ∙ sym goes.ended) refl refl (armed_next L.fuses ⊥ x.calls y.calls s.armed.log goes.calls h.fused);
        lines = text;
      }

  -- so many names are active that no more may be
  pub did_crowd : (none : x.ended ≡ None) (y : LifeState) (name : List ℕ) → y.history ≡ x.history → y.active ≡ x.active → GoesOn x y → length x.active ≡ MOST_ACTIVE → is_active x.active name ≡ false
      → (out : List ℕ) → out ≡ refused_line (head (commands.Begin name)) → Adds L.tells (In y) s (commands.Begin name) out
  did_crowd none y name same active goes many free out text = record {
    turn = turn (commands.Begin name) [] TooMany;
    is = refl;
    fits = record { goes = h.goes; lawful = may_begin name free; row = (name, refl, goes_on none, ap (λ (a : List Active). length a) h.active ∙ many, refl) };
    holds = still y same active (goes_on none ∙ sym goes.ended) (armed_next L.fuses ⊥ x.calls y.calls s.armed.log goes.calls h.fused);
    lines = text;
  }
    where
      still : (y : LifeState) → y.history ≡ x.history → y.active ≡ x.active → s.ended ≡ y.ended → IsArmed L.fuses y.calls s.armed.log → In y s
      still y same active ended fused = record { past = h.past; here = h.here; life = h.life; active = h.active ∙ sym active; ended = ended; goes = h.goes; fused = fused; history = h.history ∙ sym same; begins = h.begins; right = h.right }

  -- the same life, of which a disk is handed out
  pub as_before : (y : LifeState) (kept : ℕ) (disk : D) → y.history ≡ x.history → IsDiskOf L opens y kept disk → (c : Command) (line : ℕ) → RefusesAt L kept disk opens y.history s c line statuses.Memory
  as_before y kept disk same of c line = inl (left_still y kept disk same of)

  -- ---- requests

  module _ (name : List ℕ) (a : Active) (act : active_of x.active name ≡ Some a) where
    act_here : active_of s.active name ≡ Some a
    act_here = ap (λ (l : List Active). active_of l name) h.active ∙ act

    lawful_name : is_active s.active name ≡ true
    lawful_name = rw act_here refl

    module _ (request : Request) where
      abbrev Was : Entry → Type 0
      Was e = IsBesideRequest (WasInWay opens x.history (lock_of request)) a.tx (lock_of request) e

      abbrev Now : Entry → Type 0
      Now e = IsBesideRequest (IsInWayOf L.tells s.life (lock_of request)) a.tx (lock_of request) e

      in_way : (t : ℕ) → WasInWay opens x.history (lock_of request) t → IsInWayOf L.tells s.life (lock_of request) t
      in_way t was = subst (λ (o : Option Life). IsInWayOf L.tells o (lock_of request) t) (sym h.life) (λ u. subst (λ (l : List Entry). IsInWay h.here.opening l (lock_of request) t) (sym h.history) (was h.here.opening (h.begins u)))

      now_beside : (e : Entry) → Was e → Now e
      now_beside e was = beside_map (WasInWay opens x.history (lock_of request)) (IsInWayOf L.tells s.life (lock_of request)) in_way a.tx (lock_of request) e was

      to_beside : (e : Entry) → Was e → IsBeside L.tells s (commands.Ask name request) e
      to_beside e was = (a, act_here, now_beside e was)

      abbrev Had : List Entry → List Entry → Type 0
      Had own es = WroteInRoom L.tells s.life (commands.Ask name request) own es

      ask_row : (own es : List Entry) (outcome : Outcome) → Answers a.session a.tx request (lock_of request) outcome own → Among Was own es → Had own es → MayEnter L.tells s (commands.Ask name request) es
      ask_row own es outcome are among room = record { own = own; is = (a, act_here, (outcome, are)); among = among_map Was (IsBeside L.tells s (commands.Ask name request)) to_beside own es among; room = room }

      module _ (y : LifeState) (es : List Entry) (grew : y.history ≡ x.history ++ es) (right : (opening : List Record) → opens opening → IsRight opening y.history) where
        module _ (none : x.ended ≡ None) (own : List Entry) (outcome : Outcome) (are : Answers a.session a.tx request (lock_of request) outcome own) (among : Among Was own es) (room : Had own es) where
          ask_fits : FitsAt L.tells s (turn (commands.Ask name request) es Done)
          ask_fits = record { goes = h.goes; lawful = lawful_name; row = (goes_on none, ask_row own es outcome are among room, tt) }

          pub did_answer : GoesOn x y → y.active ≡ x.active → (out : List ℕ) → out ≡ answer_lines s.active name request own → Adds L.tells (In y) s (commands.Ask name request) out
          did_answer goes active out text =
              let t : Turn = turn (commands.Ask name request) es Done in
              record {
                turn = t;
                is = refl;
                fits = ask_fits;
                holds = next y es grew right (stage_step s t) refl refl (h.active ∙ sym active) (goes_on none ∙ sym goes.ended) refl refl (armed_next L.fuses ⊥ x.calls y.calls s.armed.log goes.calls h.fused);
                lines = text ∙ sym (answer_own (WasInWay opens x.history (lock_of request)) a.tx (lock_of request) s.active name request own es among);
              }

          pub answer_lacks : (kept : ℕ) (disk : D) → IsDiskOf L opens y kept disk → (line : ℕ) → RefusesAt L kept disk opens y.history s (commands.Ask name request) line statuses.Memory
          answer_lacks kept disk of line = lacks_lines y es grew right (commands.Ask name request) tt (turn (commands.Ask name request) es Done) refl ask_fits refl refl kept disk of line

        -- nothing of its own was entered
        pub ask_cut : x.ended ≡ None → All Was es → IsCutOff L.tells s (commands.Ask name request) es
        ask_cut none all =
            let last : Entry = Declined a.session a.tx request outcomes.OpRefused in
            record {
              goes = goes_on none;
              rest = last ∷ [];
              enters = ask_row (last ∷ []) (es ++ last ∷ []) outcomes.OpRefused refl (among_last Was es last all) (room_declined L.tells s.life name request request a.session a.tx outcomes.OpRefused (es ++ last ∷ []));
              part = λ e. absurd cc;
            }

    -- ---- commit

    module _ (y : LifeState) (es : List Entry) (grew : y.history ≡ x.history ++ es) (right : (opening : List Record) → opens opening → IsRight opening y.history) (none : x.ended ≡ None) where
      module _ (made : Commits a.session a.tx es) (number : ℕ) (counted : (opening : List Record) → opens opening → number ≡ commits (life_log opening y.history)) where
        commit_fits : FitsAt L.tells s (done (commands.Commit name) es (Numbered number))
        commit_fits = record {
          goes = h.goes;
          lawful = lawful_name;
          row = (
            goes_on none,
            enters_own L.tells s (commands.Commit name) es tt (a, act_here, made),
            (number, refl, λ t. counted h.here.opening (h.begins t) ∙ ap (λ (l : List Entry). commits (life_log h.here.opening l)) (sym (history_is y es grew right)) ∙ ap (λ (o : Option Life). commits (log_of_life o)) (sym (longer_is y es grew right))),
          );
        }

        pub did_commit : GoesOn x y → y.active ≡ without x.active name → (out : List ℕ) → out ≡ name ++ codes " commit " ++ decimal number ++ codes "\n" → Adds L.tells (In y) s (commands.Commit name) out
        did_commit goes active out text =
            let t : Turn = done (commands.Commit name) es (Numbered number) in
            record {
              turn = t;
              is = refl;
              fits = commit_fits;
              holds = next y es grew right (stage_step s t) refl refl (ap (λ (l : List Active). without l name) h.active ∙ sym active) (goes_on none ∙ sym goes.ended) refl refl (armed_next L.fuses ⊥ x.calls y.calls s.armed.log goes.calls h.fused);
              lines = text;
            }

        pub commit_lacks : (kept : ℕ) (disk : D) → IsDiskOf L opens y kept disk → (line : ℕ) → RefusesAt L kept disk opens y.history s (commands.Commit name) line statuses.Memory
        commit_lacks kept disk of line = lacks_lines y es grew right (commands.Commit name) tt (done (commands.Commit name) es (Numbered number)) refl commit_fits refl refl kept disk of line

      -- ---- abort

      module _ (own : List Entry) (aborts : Aborts (IsUntold opens) a.tx own) (among : Among IsUpkeep own es) where
        pub did_abort : GoesOn x y → y.active ≡ without x.active name → (out : List ℕ) → out ≡ name ++ codes " abort\n" → Adds L.tells (In y) s (commands.Abort name) out
        did_abort goes active out text =
            let t : Turn = turn (commands.Abort name) es Done in
            let told : Aborts (L.tells → ⊥) a.tx own = record {
              undos = aborts.undos;
              each = all_taken (IsUntold opens) (L.tells → ⊥) (λ untold u. untold h.here.opening (h.begins u)) a.tx aborts.undos aborts.each;
              lsn = aborts.lsn;
              prev = aborts.prev;
              is = aborts.is;
            } in
            record {
              turn = t;
              is = refl;
              fits = record { goes = h.goes; lawful = lawful_name; row = (goes_on none, enters_among L.tells s (commands.Abort name) own es tt (a, act_here, told) among, tt) };
              holds = next y es grew right (stage_step s t) refl refl (ap (λ (l : List Active). without l name) h.active ∙ sym active) (goes_on none ∙ sym goes.ended) refl refl (armed_next L.fuses ⊥ x.calls y.calls s.armed.log goes.calls h.fused);
              lines = text;
            }

      pub abort_cut : All (IsOfAbort ⊥ a.tx) es → IsCutOff L.tells s (commands.Abort name) es
      abort_cut all =
          let u = undoes (L.tells → ⊥) a.tx es all in
          let last : Entry = Rec 0 (end_record a.tx 0) in
          record {
            goes = goes_on none;
            rest = last ∷ [];
            enters = enters_among L.tells s (commands.Abort name) (u.undos ++ last ∷ []) (es ++ last ∷ []) tt (a, act_here, record { undos = u.undos; each = u.each; lsn = 0; prev = 0; is = refl }) u.among;
            part = λ e. absurd cc;
          }

    -- a commit of which nothing was entered, or its Commit alone
    pub commit_none : x.ended ≡ None → IsCutOff L.tells s (commands.Commit name) []
    commit_none none = record {
      goes = goes_on none;
      rest = Rec 0 (commit_record a.tx 0) ∷ Acked a.session a.tx ∷ [];
      enters = enters_own L.tells s (commands.Commit name) (Rec 0 (commit_record a.tx 0) ∷ Acked a.session a.tx ∷ []) tt (a, act_here, (0, 0, refl));
      part = λ e. absurd cc;
    }

    pub commit_half : x.ended ≡ None → (lsn prev : ℕ) → IsCutOff L.tells s (commands.Commit name) (Rec lsn (commit_record a.tx prev) ∷ [])
    commit_half none lsn prev = record {
      goes = goes_on none;
      rest = Acked a.session a.tx ∷ [];
      enters = enters_own L.tells s (commands.Commit name) (Rec lsn (commit_record a.tx prev) ∷ Acked a.session a.tx ∷ []) tt (a, act_here, (lsn, prev, refl));
      part = λ e. absurd cc;
    }

  -- ---- checkpoints

  module _ (none : x.ended ≡ None) (lsn : ℕ) (k : Checkpoint) where
    abbrev taken : List Entry
    taken = Rec lsn (kinds.Checkpoint k) ∷ []

    checkpoint_enters : MayEnter L.tells s commands.Checkpoint taken
    checkpoint_enters = enters_own L.tells s commands.Checkpoint taken tt (lsn, k, refl)

    pub checkpoint_cut : IsCutOff L.tells s commands.Checkpoint taken
    checkpoint_cut = record { goes = goes_on none; rest = []; enters = checkpoint_enters; part = tt }

    pub did_checkpoint : (y : LifeState) → y.history ≡ x.history ++ taken → ((opening : List Record) → opens opening → IsRight opening y.history) → GoesOn x y → y.active ≡ x.active → (out : List ℕ) → out ≡ upkeep_line upkeeps.Checkpoint → Adds L.tells (In y) s commands.Checkpoint out
    did_checkpoint y grew right goes active out text =
        let t : Turn = turn commands.Checkpoint taken Done in
        record {
          turn = t;
          is = refl;
          fits = record { goes = h.goes; lawful = may_look; row = (goes_on none, checkpoint_enters, tt) };
          holds = next y taken grew right (stage_step s t) refl refl (h.active ∙ sym active) (goes_on none ∙ sym goes.ended) refl refl (armed_next L.fuses ⊥ x.calls y.calls s.armed.log goes.calls h.fused);
          lines = text;
        }

  -- ---- backups

  module _ (none : x.ended ≡ None) (backup : ℕ) (y : LifeState) (k : AddsBackup backup x.history y.history) where
    backup_enters : MayEnter L.tells s commands.Backup k.own
    backup_enters = enters_own L.tells s commands.Backup k.own tt (backup, k.each)

    pub backup_cut : IsCutOff L.tells s commands.Backup k.own
    backup_cut = record { goes = goes_on none; rest = []; enters = subst (MayEnter L.tells s commands.Backup) (sym (append-nil k.own)) backup_enters; part = tt }

    pub did_backup : ((opening : List Record) → opens opening → IsWhole backup opening x.history k.own) → ((opening : List Record) → opens opening → IsRight opening y.history) → GoesOn x y → y.active ≡ x.active → (out : List ℕ) → out ≡ upkeep_line upkeeps.Backup → Adds L.tells (In y) s commands.Backup out
    did_backup whole right goes active out text =
        let t : Turn = turn commands.Backup k.own Done in
        let all : L.tells → IsBackedUp s.life k.own = λ u. subst (λ (o : Option Life). IsBackedUp o k.own) (sym h.life) (backup, subst (λ (l : List Entry). IsWhole backup h.here.opening l k.own) (sym h.history) (whole h.here.opening (h.begins u))) in
        record {
          turn = t;
          is = refl;
          fits = record { goes = h.goes; lawful = may_look; row = (goes_on none, backup_enters, all) };
          holds = next y k.own k.added right (stage_step s t) refl refl (h.active ∙ sym active) (goes_on none ∙ sym goes.ended) refl refl (armed_next L.fuses ⊥ x.calls y.calls s.armed.log goes.calls h.fused);
          lines = text;
        }

  -- ---- archive runs

  module _ (none : x.ended ≡ None) (y : LifeState) (k : AddsRuns x.history y.history) where
    archive_enters : MayEnter L.tells s commands.Archive k.own
    archive_enters = enters_own L.tells s commands.Archive k.own tt k.each

    pub archive_cut : IsCutOff L.tells s commands.Archive k.own
    archive_cut = record { goes = goes_on none; rest = []; enters = subst (MayEnter L.tells s commands.Archive) (sym (append-nil k.own)) archive_enters; part = tt }

    module _ (count : ℕ) (counted : count ≡ length k.own) (done_all : (opening : List Record) → opens opening → IsArchived opening x.history y.history k.own) where
      archive_fits : FitsAt L.tells s (done commands.Archive k.own (Made count))
      archive_fits =
          let all : L.tells → AllArchived s.life k.own = λ u. subst (λ (o : Option Life). AllArchived o k.own) (sym h.life) (subst (λ (l : List Entry). IsArchived h.here.opening l (l ++ k.own) k.own) (sym h.history) (subst (λ (l : List Entry). IsArchived h.here.opening x.history l k.own) k.added (done_all h.here.opening (h.begins u)))) in
          record { goes = h.goes; lawful = may_look; row = (goes_on none, archive_enters, (count, refl, counted, all)) }

      pub did_archive : ((opening : List Record) → opens opening → IsRight opening y.history) → GoesOn x y → y.active ≡ x.active → (out : List ℕ) → out ≡ archive_line count → Adds L.tells (In y) s commands.Archive out
      did_archive right goes active out text =
          let t : Turn = done commands.Archive k.own (Made count) in
          record {
            turn = t;
            is = refl;
            fits = archive_fits;
            holds = next y k.own k.added right (stage_step s t) refl refl (h.active ∙ sym active) (goes_on none ∙ sym goes.ended) refl refl (armed_next L.fuses ⊥ x.calls y.calls s.armed.log goes.calls h.fused);
            lines = text;
          }

      -- its line wants memory
      pub archive_lacks : ((opening : List Record) → opens opening → IsRight opening y.history) → (kept : ℕ) (disk : D) → IsDiskOf L opens y kept disk → (line : ℕ) → RefusesAt L kept disk opens y.history s commands.Archive line statuses.Memory
      archive_lacks right kept disk of line = lacks_lines y k.own k.added right commands.Archive tt (done commands.Archive k.own (Made count)) refl archive_fits refl refl kept disk of line

  -- ---- losses of the data device

  module _ (none : x.ended ≡ None) (lsn : ℕ) (k : Lost) where
    abbrev lost : List Entry
    lost = Rec lsn (kinds.Lost k) ∷ []

    loss_enters : MayEnter L.tells s commands.Lose lost
    loss_enters = enters_own L.tells s commands.Lose lost tt (lsn, k, refl)

    pub loss_cut : IsCutOff L.tells s commands.Lose lost
    loss_cut = record { goes = goes_on none; rest = []; enters = loss_enters; part = tt }

    pub did_loss : (y : LifeState) → y.history ≡ x.history ++ lost → ((opening : List Record) → opens opening → IsRight opening y.history) → GoesOn x y → y.active ≡ x.active → (out : List ℕ) → out ≡ upkeep_line upkeeps.Lose → Adds L.tells (In y) s commands.Lose out
    did_loss y grew right goes active out text =
        let t : Turn = turn commands.Lose lost Done in
        record {
          turn = t;
          is = refl;
          fits = record { goes = h.goes; lawful = may_look; row = (goes_on none, loss_enters, tt) };
          holds = next y lost grew right (stage_step s t) refl refl (h.active ∙ sym active) (goes_on none ∙ sym goes.ended) refl refl (armed_next L.fuses ⊥ x.calls y.calls s.armed.log goes.calls h.fused);
          lines = text;
        }

  -- ---- help

  loses_in : (t : ℕ) → IsLoserOf opens t → IsLoserIn L.tells s.life t
  loses_in t loser = subst (λ (o : Option Life). IsLoserIn L.tells o t) (sym h.life) (λ u. loser h.here.opening (h.begins u))

  module _ (none : x.ended ≡ None) (steps : ℕ) (y : LifeState) (k : Helps (IsLoserOf opens) steps x.history y.history) where
    helps_own : IsOwn L.tells s (commands.Help steps) k.own
    helps_own = record {
      undone = k.are.undone;
      each = all_map (IsStep (IsLoserOf opens)) (IsStep (IsLoserIn L.tells s.life)) (step_map (IsLoserOf opens) (IsLoserIn L.tells s.life) loses_in) k.are.undone k.are.each;
      redone = k.are.redone;
      kept_up = k.are.kept_up;
      written = k.are.written;
      pages = k.are.pages;
      runs = k.are.runs;
      archived = k.are.archived;
      few = k.are.few;
      is = k.are.is;
    }

    help_enters : MayEnter L.tells s (commands.Help steps) k.entries
    help_enters = enters_among L.tells s (commands.Help steps) k.own k.entries tt helps_own k.among

    pub help_cut : IsCutOff L.tells s (commands.Help steps) k.entries
    help_cut = record { goes = goes_on none; rest = []; enters = subst (MayEnter L.tells s (commands.Help steps)) (sym (append-nil k.entries)) help_enters; part = tt }

    module _ (right : (opening : List Record) → opens opening → IsRight opening y.history) (far : AreAllOver opens y.history ⊎ AddsSteps steps x.history y.history) where
      -- how far it went
      went : L.tells → IsHelped steps (longer s.life k.entries) k.entries
      went t = subst (λ (o : Option Life). IsHelped steps o k.entries) (sym (longer_is y k.entries k.added right)) (elim far [
        | inl over ↦ inl (subst (λ (l : List Entry). losers_left h.here.opening l ≡ []) (sym (history_is y k.entries k.added right)) (over h.here.opening (h.begins t)))
        | inr all ↦ inr (ap (λ (l : List Entry). length (filter takes_back l)) (append_cancel_left x.history k.entries all.0 (sym k.added ∙ all.1)) ∙ all.2)
      ])

      help_fits : FitsAt L.tells s (turn (commands.Help steps) k.entries Done)
      help_fits = record { goes = h.goes; lawful = may_look; row = (goes_on none, help_enters, went) }

      pub did_help : GoesOn x y → y.active ≡ x.active → (out : List ℕ) → out ≡ upkeep_line upkeeps.Help → Adds L.tells (In y) s (commands.Help steps) out
      did_help goes active out text =
          let t : Turn = turn (commands.Help steps) k.entries Done in
          record {
            turn = t;
            is = refl;
            fits = help_fits;
            holds = next y k.entries k.added right (stage_step s t) refl refl (h.active ∙ sym active) (goes_on none ∙ sym goes.ended) refl refl (armed_next L.fuses ⊥ x.calls y.calls s.armed.log goes.calls h.fused);
            lines = text;
          }

  -- ---- stat

  pub did_stat : (none : x.ended ≡ None) (y : LifeState) → y.history ≡ x.history → y.active ≡ x.active → GoesOn x y → (stat : Stat) → (L.tells → IsStat s.life stat) → (out : List ℕ) → out ≡ stat_line stat → Adds L.tells (In y) s commands.Stat out
  did_stat none y same active goes stat counts out text = record {
    turn = done commands.Stat [] (Counted stat);
    is = refl;
    fits = record { goes = h.goes; lawful = may_look; row = (goes_on none, enters_own L.tells s commands.Stat [] tt refl, (stat, refl, counts)) };
    holds = record { past = h.past; here = h.here; life = h.life; active = h.active ∙ sym active; ended = goes_on none ∙ sym goes.ended; goes = h.goes; fused = armed_next L.fuses ⊥ x.calls y.calls s.armed.log goes.calls h.fused; history = h.history ∙ sym same; begins = h.begins; right = h.right };
    lines = text;
  }
