-- What a close makes of the turns: no life is open behind it.
use Rattle.std.proofs.Common.{◌≡◌, ℕ, ◌<◌, ◌≤◌, true, false, List, [], ◌∷◌, ◌++◌, Option, Some, None, refl, sym, ap, subst, ◌∙◌, append-nil, arith, length}
use Rattle.std.specs.List.{All}
use Rattle.media.specs.declared.disk.Disk.{Ghosts}
use Rattle.media.specs.declared.pages.PageDevice as pages
use Rattle.media.specs.declared.vault.Vault as vaults
use Rattle.wal_record.specs.History.{life_log}
use Rattle.wal_record.specs.declared.record.Record.{Record}
use Rattle.wal_record.specs.declared.entry.Entry.{Entry}
use Rattle.log_laws.specs.Right.{IsRight}
use Rattle.journal.specs.State.{calls_of}
use Rattle.page_ops.specs.Seeing.{Calls}
use Rattle.command_laws.specs.Names.{Active}
use Rattle.store_pages.specs.Pages.{IsWrittenEntry, WritesPages}
use Rattle.own_life.specs.State.{BreaksOff, GoesOn, LifeState}
use Rattle.script.specs.declared.command.Command.TheVariants as commands
use Rattle.script.specs.declared.command.Device.TheVariants.{Log}
use Rattle.transcript.specs.Lines.{ended_line, failed_line, upkeep_line}
use Rattle.transcript.specs.declared.upkeep.Upkeep.TheVariants as upkeeps
use Rattle.life_commands.specs.Bytes.{Known}
use Rattle.life_commands.specs.LogDisk.{Keeps, View, seen}
use Rattle.life_commands.specs.Living.{Adds, AreBeside, IsArmed, IsDiskOf, IsFused, Out, Within}
use Rattle.life_commands.specs.Promises.{Closed}
use Rattle.life_commands.specs.Rows.{IsCutOff, is_lawful, no_name}
use Rattle.life_commands.specs.Stores.{AreOf, stores}
use Rattle.life_commands.specs.Text.{head}
use Rattle.life_commands.specs.Turns.{Done, Ended, Found, IsRightLife, Last, LeftBy, Life, LogFault, Stage, bytes_after, last_after, last_turn, lives, log_of_life, longer, over, with_entries}
use Rattle.life_commands.proofs.Commands as c
use Rattle.life_commands.proofs.Ends.{IsCut}
use Rattle.life_commands.proofs.Entered.{enters_own}
use Rattle.life_commands.proofs.Images.{left_whole, stores_found, stores_left}
use Rattle.life_commands.proofs.Lives.{disk_seen, keeps_map, life_keeps, right_more}

-- ---- names

pub no_names : (active : List Active) → length active ≡ 0 → active ≡ []
no_names [] none = refl
no_names (a ∷ active) none = absurd cc

some_name : (active : List Active) → 0 < length active → no_name active ≡ false
some_name [] some = absurd (omega (arith, some))
some_name (a ∷ active) some = refl

-- ---- where the life is over

module _ {D : Type 0} (T : Type 0) (L : Ghosts D) (calls : Calls) (disk : D) (is : calls_of L.passes L.refused L.own disk ≡ calls) (s : Stage) (l : Life) (life : s.life ≡ Some l) where
  fused_out : IsArmed L.fuses calls s.armed.log → IsFused L disk s.armed.log
  fused_out armed = record { fuse = armed.fuse; renewed = λ e. ap (λ (k : Calls). k.passes) is ∙ armed.renewed e }

  known_out : Known T L (bytes_after s.life s.bytes) disk
  known_out = subst (λ (o : Option Life). Known T L (bytes_after o s.bytes) disk) (sym life) tt

  -- the disk that is handed out keeps a log that may be found behind this use
  out_over : (last : Last) → (L.tells → All IsRightLife (lives s)) → s.cut ≡ false → IsArmed L.fuses calls s.armed.log → (L.tells → Keeps L last disk) → Out T L disk (over s last)
  out_over last right goes armed keeps = record {
    past = right;
    life = refl;
    active = refl;
    ended = refl;
    goes = goes;
    fused = fused_out armed;
    keeps = keeps;
    bytes = known_out;
  }

-- ---- behind any stage

module _ {D : Type 0} (L : Ghosts D) (opens : List Record → Type 0) (x : LifeState) (s : Stage) (h : Within L opens x s) (none : x.active ≡ []) where
  lawful : is_lawful s commands.Close ≡ true
  lawful = rw (c.living L opens x s h, h.active ∙ none) refl

  -- what was written was entered, or nothing
  cut_close : (es : List Entry) → x.ended ≡ None → All IsWrittenEntry es → IsCutOff L.tells s commands.Close es
  cut_close es goes written = record {
    goes = c.goes_on L opens x s h goes;
    rest = [];
    enters = enters_own L.tells s commands.Close (es ++ []) tt (subst (All IsWrittenEntry) (sym (append-nil es)) written);
    part = tt;
  }

  module _ {E F : Type 0} (P : pages.Ghosts E) (V : vaults.Ghosts F) (T : Type 0) (y : LifeState) (kept : ℕ) (disk : D) (beside : E × F) (of : IsDiskOf L opens y kept disk) (images : AreBeside P V opens y kept beside) where
    -- no life is open then, and what stands beside the log disk is of what this keeps
    abbrev Behind : Stage → Type 0
    Behind t = Out T L disk t × (L.tells → (stores P V).tells → AreOf ((stores P V).are_of beside) t.last)

    -- it had ended before
    ended_close : (n : ℕ) → x.ended ≡ Some n → y ≡ x → (out : List ℕ) → out ≡ ended_line (head commands.Close) n → Adds L.tells Behind s commands.Close out
    ended_close n ended same out text = record {
      turn = last_turn commands.Close [] kept (Ended n);
      is = refl;
      fits = record { goes = h.goes; lawful = lawful; row = (h.ended ∙ ended, tt, refl) };
      holds = (
        out_over T L y.calls disk of.calls s h.here h.life (last_after s.life s.last kept)
            (λ t. subst (λ (o : Option Life). All IsRightLife (lives (record s { life = o }))) (sym h.life) (right_more L s.past h.here (h.past t) (h.right t)))
            h.goes (subst (λ (z : LifeState). IsArmed L.fuses z.calls s.armed.log) (sym same) h.fused)
            (λ t. subst (λ (o : Option Life). Keeps L (last_after o s.last kept) disk) (sym h.life) (life_keeps L opens y h.here kept disk (h.begins t) here_same of)),
        λ t u. subst (λ (o : Option Life). AreOf ((stores P V).are_of beside) (last_after o s.last kept)) (sym h.life) (stores_left P V opens y h.here kept beside (h.begins t) here_same images u),
      );
      lines = text;
    }
      where
        here_same : h.here.history ≡ y.history
        here_same = h.history ∙ ap (λ (z : LifeState). z.history) (sym same)

    -- a life that goes on
    module _ (es : List Entry) (grew : y.history ≡ x.history ++ es) (right : (opening : List Record) → opens opening → IsRight opening y.history) (goes : x.ended ≡ None) (written : All IsWrittenEntry es) where
      abbrev now : Life
      now = c.here L opens x s h y es grew right

      is_now : now.history ≡ y.history
      is_now = c.history_is L opens x s h y es grew right

      life_now : longer s.life es ≡ Some now
      life_now = c.longer_is L opens x s h y es grew right

      right_now : L.tells → All IsRightLife (lives (with_entries s es))
      right_now t = c.all_right L opens x s h y es grew right (with_entries s es) refl refl t

      -- its log is made durable
      done_close : GoesOn x y → ((opening : List Record) → opens opening → length (life_log opening y.history) ≤ kept) → (out : List ℕ) → out ≡ upkeep_line upkeeps.Close → Adds L.tells Behind s commands.Close out
      done_close on durable out text = record {
        turn = last_turn commands.Close es kept Done;
        is = refl;
        fits = record { goes = h.goes; lawful = lawful; row = (c.goes_on L opens x s h goes, enters_own L.tells s commands.Close es tt written, tt) };
        holds = (
          out_over T L y.calls disk of.calls (with_entries s es) now life_now (Found (log_of_life (longer s.life es))) right_now h.goes
              (c.armed_next L.fuses ⊥ x.calls y.calls s.armed.log on.calls h.fused)
              (λ t. subst (λ (o : Option Life). Keeps L (Found (log_of_life o)) disk) (sym life_now) (whole t)),
          λ t u. subst (λ (o : Option Life). AreOf ((stores P V).are_of beside) (Found (log_of_life o))) (sym life_now) (stores_found P V opens y now kept beside (h.begins t) is_now images u),
        );
        lines = text;
      }
        where
          few : L.tells → length (life_log now.opening now.history) ≤ kept
          few t = subst (λ (l : List Entry). length (life_log now.opening l) ≤ kept) (sym is_now) (durable now.opening (h.begins t))

          whole : L.tells → Keeps L (Found (life_log now.opening now.history)) disk
          whole t = keeps_map L (LeftBy now kept) (Found (life_log now.opening now.history)) disk (λ rs left. left_whole now kept rs left (few t)) (λ rs left. left_whole now kept rs left (few t))
              (life_keeps L opens y now kept disk (h.begins t) is_now of)

      -- a fuse refused a call
      failed_close : (b : BreaksOff opens x y) → x.calls.refused < y.calls.refused → (out : List ℕ) → out ≡ failed_line (head commands.Close) Log → Adds L.tells Behind s commands.Close out
      failed_close b refused out text = record {
        turn = last_turn commands.Close es kept (LogFault b.at);
        is = refl;
        fits = c.fail_fits L opens x s h y es grew right commands.Close tt refl lawful (cut_close es goes written) kept b refused;
        holds = (
          out_over T L y.calls disk of.calls (record (with_entries s es) { ended = Some b.at }) now life_now (last_after (longer s.life es) s.last kept) right_now h.goes
              (c.armed_next L.fuses (Unit {0}) x.calls y.calls s.armed.log b.calls h.fused)
              (λ t. subst (λ (o : Option Life). Keeps L (last_after o s.last kept) disk) (sym life_now) (life_keeps L opens y now kept disk (h.begins t) is_now of)),
          λ t u. subst (λ (o : Option Life). AreOf ((stores P V).are_of beside) (last_after o s.last kept)) (sym life_now) (stores_left P V opens y now kept beside (h.begins t) is_now images u),
        );
        lines = text;
      }

-- ---- the promises

module _ {D : Type 0} (L : Ghosts D) (opens : List Record → Type 0) (x : LifeState) where
  -- a name is active
  pub named_close : 0 < length x.active → (v : View L.tells) (s : Stage) → Within (seen L v) opens x s → is_lawful s commands.Close ≡ false
  named_close some v s h = rw (c.living (seen L v) opens x s h, some_name s.active (subst (λ (a : List Active). 0 < length a) (sym h.active) some)) refl

  module _ (none : x.active ≡ []) where
    module _ (y : LifeState) (goes : x.ended ≡ None) (written : WritesPages x.history y.history) where
      -- it was cut off
      pub close_cut : (v : View L.tells) (s : Stage) → Within (seen L v) opens x s → IsCut (seen L v) y x s commands.Close
      close_cut v s h = record { entries = written.0; added = written.2; lawful = lawful (seen L v) opens x s h none; off = cut_close (seen L v) opens x s h none written.0 goes written.1 }

    module _ {E F : Type 0} (P : pages.Ghosts E) (V : vaults.Ghosts F) where
      pub closes_ended : (n : ℕ) → x.ended ≡ Some n → (out : List ℕ) → out ≡ ended_line (head commands.Close) n → Closed L P V opens x x out
      closes_ended n ended out text = λ v s h kept disk beside more of images. ended_close (seen L v) opens x s h none P V L.tells x kept disk beside (disk_seen L v opens x kept disk of) images n ended refl out text

      module _ (y : LifeState) (right : (opening : List Record) → opens opening → IsRight opening y.history) (goes : x.ended ≡ None) (written : WritesPages x.history y.history) where
        pub closes_done : GoesOn x y → ((opening : List Record) → opens opening → length (life_log opening y.history) ≤ y.durable) → (out : List ℕ) → out ≡ upkeep_line upkeeps.Close → Closed L P V opens x y out
        closes_done on durable out text = λ v s h kept disk beside more of images.
            done_close (seen L v) opens x s h none P V L.tells y kept disk beside (disk_seen L v opens y kept disk of) images written.0 written.2 right goes written.1 on
            (λ opening may. let n = durable opening may in omega (arith, n, more)) out text

        pub closes_failed : BreaksOff opens x y → x.calls.refused < y.calls.refused → (out : List ℕ) → out ≡ failed_line (head commands.Close) Log → Closed L P V opens x y out
        closes_failed b refused out text = λ v s h kept disk beside more of images.
            failed_close (seen L v) opens x s h none P V L.tells y kept disk beside (disk_seen L v opens y kept disk of) images written.0 written.2 right goes written.1 b refused out text
