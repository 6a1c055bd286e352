-- A run, turn by turn.
use Rattle.std.proofs.Common.{◌≡◌, ◌≤◌, ℕ, ◌+◌, Bool, true, false, List, [], ◌∷◌, ◌++◌, Option, Some, None, Ok, Err, refl, sym, ap, subst, ◌∙◌, arith, inl, inr, ⊎_elim, append_assoc, append-nil, length, length-append}
use Rattle.std.specs.Prelude.{IfOk, codes}
use Rattle.std.specs.Option.{option_map}
use Rattle.std.specs.Global.{Vec}
use Rattle.std.specs.declared.result.Result.{Result}
use Rattle.std.specs.List.{All}
use Rattle.std.proofs.lemmas.List.Elements.{All-nil}
use Rattle.std.specs.Io.KnownBytes.{Appends, Consumes, IsAtEnd, prepend_known}
use Rattle.std.proofs.KnownBytes.{Consumes-nil, Consumes-trans, Appends-nil, Appends-trans}
use Rattle.media.specs.declared.disk.Disk.{Ghosts}
use Rattle.store_model.specs.Along.{along, AllAlong}
use Rattle.script.specs.declared.command.Command.{Command}
use Rattle.script.specs.declared.command.Command.TheVariants as commands
use Rattle.wal_record.specs.declared.entry.Entry.{Entry}
use Rattle.wal_record.specs.declared.record.Record.{Record}
use Rattle.script.specs.Line.{reads}
use Rattle.life_commands.specs.declared.status.Status.{Status}
use Rattle.life_commands.specs.declared.status.Status.TheVariants as statuses
use Rattle.line_reader.specs.Lines.{Reader, to_come, first_reader, longest_script, IsBounded, IsLine, IsNoLine}
use Rattle.line_reader.specs.Built.{is_built}
use Rattle.runner.specs.Causes.{LineCause}
use Rattle.life_commands.specs.Stores.{AreOf, Stores}
use Rattle.life_commands.specs.Rows.{Fits, FitsAt, IsOfLife}
use Rattle.life_commands.specs.Turns.{Start, Turn, Stage, Cut, stage, stage_step, begin_stage, bytes_after, last_after, Life, IsRightLife, lives, turn}
use Rattle.life_commands.specs.Living.{Adds}
use Rattle.life_commands.specs.Text.{lines, text}
use Rattle.life_commands.specs.Refusals.{RefusesAt, CutAt, LacksLines, LeftAs, IsOpen, IsFormat}
use Rattle.runner.specs.Devices.{Rests, Stored}
use Rattle.runner.specs.Machine.{IsAt}
use Rattle.runner.specs.Vault.{WithVault}
use Rattle.runner.specs.declared.at.At.{At}
use Rattle.life_commands.specs.Bytes.{Bytes, Known}
use Rattle.life_commands.specs.LogDisk.{Leaves}
use Rattle.runner.specs.Cuts.{MayCut}
use Rattle.runner.specs.Clause.{IsNext, IsPrefix, Partly, Unlawful, OfCommand, NextLine, Ended, HandsBack, Headline, Between, Asked, AtRest, Closing, IsUnread, Stopping, TakesNone, TakesText, Whatever}
use Rattle.runner.proofs.Stages.{cut_bytes, life_still}
use Rattle.runner.proofs.Turning.{stage_push, text_push, fits_push, script_push}

prefix_self : (a : List ℕ) → IsPrefix a a
prefix_self a = ([], sym (append-nil a))

all_of : (start : Start) (turns : List Turn) → Partly start turns (text start turns)
all_of start turns = (turns, [], omega arith, sym (append-nil turns), prefix_self (text start turns), prefix_self (text start turns))

of_command : (P : Command → Type 0) (taken : ℕ) (bytes rest : List ℕ) (c : Command) → IsNext taken rest bytes → reads bytes ≡ Some c → P c → NextLine P taken rest
of_command P taken bytes rest c next e p = (bytes, next, subst (OfCommand P) (sym e) p)

-- ---- lines

-- a line was taken that spells this command
pub record Took (old new : Reader) (lo ln : Option (List ℕ)) (c : Command) : Type 0 where
  pub line : List ℕ
  pub took : Consumes (to_come old lo) (to_come new ln) (line ++ 10 ∷ [])
  pub one : IsLine line
  pub said : reads line ≡ Some c
  pub size : new.taken ≡ old.taken + length line + 1
  pub within : new.taken ≤ longest_script
  pub count : new.lines ≡ old.lines + 1

-- the next line, with its number
pub record TookNext (old new : Reader) (lo ln : Option (List ℕ)) (next : Command × ℕ) : Type 0 where
  pub line : Took old new lo ln next.0
  pub built : is_built line.line ≡ true
  pub number : next.1 ≡ old.lines + 1

-- the text of a line, and its number, as they are read
abbrev pub texts : Option (Vec ℕ × ℕ) → Option (List ℕ × ℕ)
texts = option_map (λ (n : Vec ℕ × ℕ). (n.0.items, n.1))

pub took : {E : Type 0} (old new : Reader) (lo ln : Option (List ℕ)) (o : Option (Vec ℕ × ℕ)) (next : Vec ℕ × ℕ) (line : List ℕ) (r : Result (Option Command) E) (c : Command)
    → o ≡ Some next → TakesText old new lo ln (texts o) → line ≡ next.0.items → IfOk r (λ x. x ≡ reads line) → r ≡ Ok (Some c) → TookNext old new lo ln (c, next.1)
took {E = E} old new lo ln o next line r c is t same said read =
    let u = subst (λ (x : Option (Vec ℕ × ℕ)). TakesText old new lo ln (texts x)) is t in
    let s = subst (λ (x : Result (Option Command) E). IfOk x (λ y. y ≡ reads line)) read said in
    record { line = record { line = next.0.items; took = u.0; one = u.1; said = sym (s ∙ ap reads same); size = u.5; within = u.6; count = u.4 }; built = u.2; number = u.3 }

-- a line that was asked for
pub asked_line : {tells : Type 0} {start : Start} {H : Stage → Type 0} {left0 told0 left told : Option (List ℕ)} {reader : Reader} {turns : List Turn} {c : Command}
    (a : Asked tells start H left0 told0 reader turns left told c) → Took a.old reader a.left_old left c
asked_line a = record { line = a.line; took = a.took; one = a.one; said = a.said; size = a.size; within = a.within; count = a.count }

-- the same turns, of whose stage this holds
pub between_as : {tells : Type 0} {start : Start} {H : Stage → Type 0} {left0 told0 left told : Option (List ℕ)} {reader : Reader} {turns : List Turn}
    (H' : Stage → Type 0) → H' (stage start turns) → Between tells start H left0 told0 reader turns left told → Between tells start H' left0 told0 reader turns left told
between_as H' h b = record {
  read = b.read;
  script = b.script;
  taken = b.taken;
  count = b.count;
  size = b.size;
  within = b.within;
  most = b.most;
  fits = b.fits;
  holds = h;
  wrote = b.wrote;
}

-- the same turns, of whose stage the run's place says what it says of where the run is
pub between_at : {D F S : Type 0} {tells : Type 0} {B : Stores S} {beside : S} {start : Start} {left0 told0 left told : Option (List ℕ)} {reader : Reader} {turns : List Turn} (T : Type 0) (L : Ghosts D) (inside : F → Stage → Type 0) (armed : Bool) (at now : At D F) → at ≡ now
    → Between tells start (WithVault armed (Stored tells B beside (IsAt T L inside at))) left0 told0 reader turns left told → Between tells start (WithVault armed (Stored tells B beside (IsAt T L inside now))) left0 told0 reader turns left told
between_at {tells = tells} {B = B} {beside = beside} {start = start} {turns = turns} T L inside armed at now is b =
    between_as (WithVault armed (Stored tells B beside (IsAt T L inside now))) (subst (λ (x : At _ _). WithVault armed (Stored tells B beside (IsAt T L inside x)) (stage start turns)) is b.holds) b

-- ---- behind these turns so much more was read

module _ {D S : Type 0} {start : Start} {H : Stage → Type 0} {left0 told0 lo told : Option (List ℕ)} {old : Reader} {turns : List Turn} (T : Type 0) (L : Ghosts D) (B : Stores S) (new : Reader) (ln : Option (List ℕ))
    (b : Between L.tells start H left0 told0 old turns lo told) (most : IsBounded new) where
  abbrev Ends : D → S → Option (List ℕ) → Status → Type 0
  Ends now beside told' status = Headline L.tells start (HandsBack T L B now beside) left0 new.pending ln told0 told' status

  abbrev AreRight : Type 0
  AreRight = L.tells → All IsRightLife (lives (stage start turns))

  -- what is known of a disk that ends a run
  abbrev IsKnown : D → Type 0
  IsKnown now = Known T L (bytes_after (stage start turns).life (stage start turns).bytes) now

  at_line : (line : ℕ) → line ≡ old.lines + 1 → line ≡ length turns + 1
  at_line line is = is ∙ ap (λ (n : ℕ). n + 1) b.count

  -- the run ends between two turns
  stop : AreRight → (stage start turns).cut ≡ false → (now : D) (beside : S) (rest : List ℕ) (status : Status) → MayCut status false → Consumes (to_come old lo) (to_come new ln) rest → new.taken ≡ old.taken + length rest → Ended L.tells start status turns b.read rest (text start turns) (to_come new ln)
      → HandsBack T L B now beside (stage start turns) → Ends now beside told status
  stop right goes now beside rest status whole took size ended hands = record {
    turns = turns;
    read = b.read;
    rest = rest;
    written = text start turns;
    taken = Consumes-trans _ _ _ b.read rest b.taken took;
    within = b.within;
    most = omega (arith, most, size, b.size);
    ran = record { script = b.script; fits = b.fits; right = right };
    cut = subst (MayCut status) (sym goes) whole;
    wrote = b.wrote;
    ended = ended;
    back = hands;
  }

  -- ---- with the devices as they were

  module _ (kept : ℕ) (disk : D) (beside : S) (rests : Rests T L B kept disk beside (stage start turns)) where
    stop_here : (rest : List ℕ) (status : Status) → MayCut status false → Consumes (to_come old lo) (to_come new ln) rest → new.taken ≡ old.taken + length rest → Ended L.tells start status turns b.read rest (text start turns) (to_come new ln) → Ends disk beside told status
    stop_here rest status whole took size ended =
        let safe = rests.safe in
        stop safe.right safe.goes disk beside rest status whole took size ended (record { kept = kept; leaves = safe.leaves; stores = rests.stores; bytes = safe.bytes })

    pub no_memory : (rest : List ℕ) → Consumes (to_come old lo) (to_come new ln) rest → new.taken ≡ old.taken + length rest → Ends disk beside told statuses.Memory
    no_memory rest took size = stop_here rest statuses.Memory tt took size (all_of start turns)

    -- the input is at its end
    pub at_end : Consumes (to_come old lo) (to_come new ln) [] × IsAtEnd (to_come new ln) × (new.taken ≡ old.taken) → Ends disk beside told statuses.Done
    at_end h = stop_here [] statuses.Done refl h.0 (omega (arith, h.2)) (refl, refl, h.1)

    -- no line is read
    pub no_line : (status : Status) (before now : ℕ) → TakesNone old new lo ln status → LineCause before now status → Ends disk beside told status
    no_line statuses.Memory before now (rest, took, size) why = no_memory rest took size
    no_line statuses.SourceFault before now (rest, took, size) why = stop_here rest statuses.SourceFault refl took size refl
    no_line (statuses.NotBuilt n) before now (is, bytes, took, one, size, within, unbuilt) why =
        stop_here (bytes ++ 10 ∷ []) (statuses.NotBuilt n) refl took (omega (arith, size, length-append bytes (10 ∷ []))) (refl, at_line n is, (bytes, record { is = refl; one = one; within = omega (arith, within, size, b.size, length-append bytes (10 ∷ [])) }, unbuilt))
    no_line (statuses.Script n) before now (is, rest, took, size, bad) why =
        stop_here rest (statuses.Script n) refl took size (refl, at_line n is, inr (subst (λ (n : ℕ). IsNoLine n rest (to_come new ln)) b.size bad))
    no_line _ before now took why = absurd why

    -- a line is no command, or memory ran out as it was read
    pub no_command : {E : Type 0} (o : Option (Vec ℕ × ℕ)) (next : Vec ℕ × ℕ) (line : List ℕ) (r : Result (Option Command) E) (status : Status)
        → o ≡ Some next → TakesText old new lo ln (texts o) → line ≡ next.0.items → IfOk r (λ x. x ≡ reads line) → IsUnread r next.1 status → Ends disk beside told status
    no_command {E = E} o next line r status is t same said why = by r said why
      where
        bytes : List ℕ
        bytes = next.0.items

        u : TakesText old new lo ln (Some (bytes, next.1))
        u = subst (λ (x : Option (Vec ℕ × ℕ)). TakesText old new lo ln (texts x)) is t

        size : new.taken ≡ old.taken + length (bytes ++ 10 ∷ [])
        size = omega (arith, u.5, length-append bytes (10 ∷ []))

        by : (r : Result (Option Command) E) → IfOk r (λ x. x ≡ reads line) → IsUnread r next.1 status → Ends disk beside told status
        by (Ok (Some c)) said why = absurd why
        by (Ok None) said why = subst (λ (s : Status). Ends disk beside told s) (sym why)
            (stop_here (bytes ++ 10 ∷ []) (statuses.Script next.1) refl u.0 size (refl, at_line next.1 u.3, inl (bytes, record { is = refl; one = u.1; within = omega (arith, u.6, u.5, b.size, length-append bytes (10 ∷ [])) }, u.2, subst (Unlawful (stage start turns)) (said ∙ ap reads same) tt)))
        by (Err e) said why = subst (λ (s : Status). Ends disk beside told s) (sym why) (no_memory (bytes ++ 10 ∷ []) u.0 size)

  -- ---- a line with its command

  module _ (c : Command) (line : Took old new lo ln c) where
    abbrev whole : List ℕ
    whole = line.line ++ 10 ∷ []

    taken_more : Consumes left0 (to_come new ln) (b.read ++ whole)
    taken_more = Consumes-trans _ _ _ b.read whole b.taken line.took

    taken_whole : Consumes left0 (to_come new ln) ((b.read ++ whole) ++ [])
    taken_whole = subst (Consumes left0 (to_come new ln)) (sym (append-nil (b.read ++ whole))) taken_more

    read_more : new.taken ≡ length (b.read ++ whole)
    read_more = omega (arith, line.size, b.size, length-append b.read whole, length-append line.line (10 ∷ []))

    within_more : length (b.read ++ whole) ≤ longest_script
    within_more = omega (arith, line.within, read_more)

    said_here : (t : Turn) → t.command ≡ c → reads line.line ≡ Some t.command
    said_here t same = line.said ∙ ap (λ (x : Command). Some x) (sym same)

    -- one turn more
    pub went : (H' : Stage → Type 0) (out : List ℕ) → Adds L.tells H' (stage start turns) c out → (told' : Option (List ℕ)) → Appends told told' out → (t : Turn) × Between L.tells start H' left0 told0 new (turns ++ t ∷ []) ln told'
    went H' out added told' wrote =
        let t : Turn = added.turn in (
          t,
          record {
            read = b.read ++ whole;
            script = script_push b.read line.line turns t b.script line.one (said_here t added.is);
            taken = taken_more;
            count = line.count ∙ ap (λ (n : ℕ). n + 1) b.count ∙ sym (length-append turns (t ∷ []));
            size = read_more;
            within = within_more;
            most = most;
            fits = fits_push L.tells start turns t b.fits added.fits;
            holds = subst H' (sym (stage_push start turns t)) added.holds;
            wrote = subst (Appends told0 told') (ap (λ (x : List ℕ). text start turns ++ x) added.lines ∙ sym (text_push start turns t)) (Appends-trans _ _ _ (text start turns) out b.wrote wrote);
          },
        )

    -- the sink fails within a turn's lines
    pub fell : (kept : ℕ) (now : D) (beside : S) (H' : Stage → Type 0) → ((s : Stage) → H' s → Rests T L B kept now beside s) → (out done rest : List ℕ) → Adds L.tells H' (stage start turns) c out → out ≡ done ++ rest → (told' : Option (List ℕ)) → Appends told told' done → Ends now beside told' statuses.SinkFault
    fell kept now beside H' rests out done rest added cut told' wrote =
        let t : Turn = added.turn in
        let all : text start (turns ++ t ∷ []) ≡ (text start turns ++ done) ++ rest = text_push start turns t ∙ ap (λ (x : List ℕ). text start turns ++ x) (sym added.lines ∙ cut) ∙ sym (append_assoc (text start turns) done rest) in
        let at = subst H' (sym (stage_push start turns t)) added.holds in
        let behind = rests (stage start (turns ++ t ∷ [])) at in
        let then = behind.safe in
        record {
          turns = turns ++ t ∷ [];
          read = b.read ++ whole;
          rest = [];
          written = text start turns ++ done;
          taken = taken_whole;
          within = within_more;
          most = omega (arith, most, read_more);
          ran = record {
            script = script_push b.read line.line turns t b.script line.one (said_here t added.is);
            fits = fits_push L.tells start turns t b.fits added.fits;
            right = then.right;
          };
          cut = then.goes;
          wrote = Appends-trans _ _ _ (text start turns) done b.wrote wrote;
          ended = (turns, t ∷ [], omega arith, refl, (done, refl), (rest, all));
          back = record { kept = kept; leaves = then.leaves; stores = behind.stores; bytes = then.bytes };
        }

    -- the line asks for this command
    asked : (H' : Stage → Type 0) → H' (stage start turns) → (d : Command) → c ≡ d → Asked L.tells start H' left0 told0 new turns ln told d
    asked H' holds d is = record {
      old = old;
      left_old = lo;
      before = between_as H' holds b;
      most = most;
      line = line.line;
      took = line.took;
      one = line.one;
      said = line.said ∙ ap (λ (x : Command). Some x) is;
      size = line.size;
      within = line.within;
      count = line.count;
    }

    pub stops : (kept : ℕ) (disk : D) (beside : S) → Rests T L B kept disk beside (stage start turns) → (keep : Option ℕ) (out : List ℕ) → c ≡ commands.Stop keep → out ≡ codes "stop\n" → Stopping T L B start kept disk beside left0 told0 new turns ln told keep out
    stops kept disk beside rests keep out is text = (text, asked (Rests T L B kept disk beside) rests (commands.Stop keep) is)

    pub closes : (disk : D) (beside : S) (armed : Bool) (out : List ℕ) → c ≡ commands.Close → Adds L.tells (WithVault armed (AtRest T L B disk beside)) (stage start turns) commands.Close out → Closing T L B start disk beside armed left0 told0 new turns ln told out
    closes disk beside armed out is added = (added, asked Whatever tt commands.Close is)

    -- want of memory for the lines of a stop
    pub lacks_memory : (kept : ℕ) (disk : D) (beside : S) → Rests T L B kept disk beside (stage start turns) → Ends disk beside told statuses.Memory
    lacks_memory kept disk beside rests = no_memory kept disk beside rests whole line.took (omega (arith, line.size, length-append line.line (10 ∷ [])))

    -- ---- a command that ends the run

    -- behind a turn of it, whose lines aren't written
    turned_off : (kept : ℕ) (now : D) (beside : S) (status : Status) (t : Turn) → t.command ≡ c → FitsAt L.tells (stage start turns) t → (L.tells → All IsRightLife (lives (stage_step (stage start turns) t))) → Leaves L kept now (stage_step (stage start turns) t)
        → (L.tells → AreOf (B.are_of beside) (last_after (stage_step (stage start turns) t).life (stage_step (stage start turns) t).last kept))
        → bytes_after (stage_step (stage start turns) t).life (stage_step (stage start turns) t).bytes ≡ bytes_after (stage start turns).life (stage start turns).bytes
        → MayCut status (stage_step (stage start turns) t).cut → Ended L.tells start status (turns ++ t ∷ []) (b.read ++ whole) [] (text start turns) (to_come new ln) → IsKnown now → Ends now beside told status
    turned_off kept now beside status t same fits right leaves these bytes_are cut ended known = record {
      turns = turns ++ t ∷ [];
      read = b.read ++ whole;
      rest = [];
      written = text start turns;
      taken = taken_whole;
      within = within_more;
      most = omega (arith, most, read_more);
      ran = record {
        script = script_push b.read line.line turns t b.script line.one (said_here t same);
        fits = fits_push L.tells start turns t b.fits fits;
        right = λ u. subst (λ (z : Stage). All IsRightLife (lives z)) (sym (stage_push start turns t)) (right u);
      };
      cut = subst (λ (z : Stage). MayCut status z.cut) (sym (stage_push start turns t)) cut;
      wrote = b.wrote;
      ended = ended;
      back = subst (HandsBack T L B now beside) (sym (stage_push start turns t)) (record {
        kept = kept;
        leaves = leaves;
        stores = these;
        bytes = subst (λ (z : Bytes). Known T L z now) (sym bytes_are) known;
      });
    }

    -- a cut turn has no lines
    cut_text : (es : List Entry) → text start turns ≡ text start (turns ++ turn c es Cut ∷ [])
    cut_text es = sym (text_push start turns (turn c es Cut) ∙ append-nil (text start turns))

    -- with what is beside the log disk, behind the turns so far and behind one more
    module _ (kept : ℕ) (now : D) (beside : S) (opens : List Record → Type 0) (h : List Entry)
        (images : LeftAs L kept now opens h (stage start turns) → L.tells → AreOf (B.are_of beside) (last_after (stage start turns).life (stage start turns).last kept))
        (cut_images : (es : List Entry) → FitsAt L.tells (stage start turns) (turn c es Cut) → LeftAs L kept now opens h (stage_step (stage start turns) (turn c es Cut))
        → L.tells → AreOf (B.are_of beside) (last_after (stage_step (stage start turns) (turn c es Cut)).life (stage_step (stage start turns) (turn c es Cut)).last kept))
        (turn_images : (l : Life) (t : Turn) (m : Life) → (stage start turns).life ≡ Some l → (stage_step (stage start turns) t).life ≡ Some m → LeftAs L kept now opens h (stage_step (stage start turns) t)
        → L.tells → AreOf (B.are_of beside) (last_after (stage_step (stage start turns) t).life (stage_step (stage start turns) t).last kept)) where
      -- a status cuts the command off
      cut_off : (status : Status) → MayCut status true → ((cut : CutAt L kept now opens h (stage start turns) c) → Ended L.tells start status (turns ++ turn c cut.entries Cut ∷ []) (b.read ++ whole) [] (text start turns) (to_come new ln)) → CutAt L kept now opens h (stage start turns) c → IsKnown now → Ends now beside told status
      cut_off status may ended cut known =
          let s = stage start turns in
          turned_off kept now beside status (turn c cut.entries Cut) refl cut.fits cut.right cut.left.leaves (cut_images cut.entries cut.fits cut.left) (cut_bytes s c cut.entries) may (ended cut) known

      -- want of memory for the lines of a turn
      lacks_lines : LacksLines L kept now opens h (stage start turns) c → IsKnown now → Ends now beside told statuses.Memory
      lacks_lines lacks known =
          let s = stage start turns in
          let still = life_still s lacks.here lacks.turn lacks.life (subst IsOfLife (sym lacks.is) lacks.kind) in
          turned_off kept now beside statuses.Memory lacks.turn lacks.is lacks.fits lacks.right lacks.left.leaves (turn_images lacks.here lacks.turn lacks.there lacks.life lacks.stays lacks.left) still tt
          (turns, lacks.turn ∷ [], omega arith, refl, prefix_self (text start turns), (lines s lacks.turn, text_push start turns lacks.turn)) known

      pub refused : AreRight → (stage start turns).cut ≡ false → (n : ℕ) (status : Status) → n ≡ old.lines + 1 → is_built line.line ≡ true → RefusesAt L kept now opens h (stage start turns) c n status → IsKnown now → Ends now beside told status
      refused right goes n status is built why known = by status why
        where
          next : IsNext (length b.read) whole line.line
          next = record { is = refl; one = line.one; within = omega (arith, line.within, line.size, b.size, length-append line.line (10 ∷ [])) }

          stop_as : (status : Status) → MayCut status false → Ended L.tells start status turns b.read whole (text start turns) (to_come new ln) → Leaves L kept now (stage start turns) → (L.tells → AreOf (B.are_of beside) (last_after (stage start turns).life (stage start turns).last kept)) → Ends now beside told status
          stop_as status cut ended leaves these = stop right goes now beside whole status cut line.took (omega (arith, line.size, length-append line.line (10 ∷ []))) ended (record { kept = kept; leaves = leaves; stores = these; bytes = known })

          stop_with : (status : Status) → MayCut status false → Ended L.tells start status turns b.read whole (text start turns) (to_come new ln) → LeftAs L kept now opens h (stage start turns) → Ends now beside told status
          stop_with status cut ended left = stop_as status cut ended left.leaves (images left)

          by : (status : Status) → RefusesAt L kept now opens h (stage start turns) c n status → Ends now beside told status
          by statuses.Memory why = ⊎_elim (λ (left : LeftAs L kept now opens h (stage start turns)). stop_with statuses.Memory tt (all_of start turns) left) (λ lacks. lacks_lines lacks known) why
          by (statuses.Script m) why = stop_with (statuses.Script m) refl (refl, why.0 ∙ at_line n is, inl (line.line, next, built, subst (Unlawful (stage start turns)) (sym line.said) why.1)) why.2
          by statuses.LogFault why = cut_off statuses.LogFault refl (λ cut. cut_text cut.entries) why known
          by statuses.VaultFault why = cut_off statuses.VaultFault refl (λ cut. cut_text cut.entries) why known
          by (statuses.VaultBad object byte) why = cut_off (statuses.VaultBad object byte) refl (λ cut. (cut_text cut.entries, why.1)) why.0 known
          by (statuses.BlockBad block byte) why = cut_off (statuses.BlockBad block byte) refl (λ cut. (cut_text cut.entries, why.1)) why.0 known
          by (statuses.LogBad block byte) why = stop_as (statuses.LogBad block byte) refl (refl, of_command IsOpen (length b.read) line.line whole c next line.said why.0, why.1) (λ t. absurd (why.1 t)) (λ t. absurd (why.1 t))
          by statuses.NotFormatted why = stop_with statuses.NotFormatted refl (refl, of_command IsOpen (length b.read) line.line whole c next line.said why.0, why.1) why.2
          by statuses.AlreadyFormatted why = stop_with statuses.AlreadyFormatted refl (refl, of_command IsFormat (length b.read) line.line whole c next line.said why.0, why.1) why.2
          by _ why = absurd why

-- want of memory where nothing more was read
pub ends_here : {D S : Type 0} {start : Start} {H : Stage → Type 0} {left0 told0 left told : Option (List ℕ)} {reader : Reader} {turns : List Turn} (T : Type 0) (L : Ghosts D) (B : Stores S) (kept : ℕ) (disk : D) (beside : S)
    (b : Between L.tells start H left0 told0 reader turns left told) → Rests T L B kept disk beside (stage start turns) → Headline L.tells start (HandsBack T L B disk beside) left0 reader.pending left told0 told statuses.Memory
ends_here {left = left} {reader = reader} T L B kept disk beside b rests = no_memory T L B reader left b b.most kept disk beside rests [] (Consumes-nil (to_come reader left)) (omega arith)

-- all is written
pub all_written : (told told' : Option (List ℕ)) (out done rest : List ℕ) → out ≡ done ++ rest → rest ≡ [] → Appends told told' done → Appends told told' out
all_written told told' out done rest cut all part = subst (Appends told told') (sym (append-nil done) ∙ ap (λ (x : List ℕ). done ++ x) (sym all) ∙ sym cut) part

nothing_pending : (left : Option (List ℕ)) → to_come first_reader left ≡ left
nothing_pending None = refl
nothing_pending (Some bytes) = refl

module _ (tells : Type 0) (start : Start) (H : Stage → Type 0) where
  pub at_start : (left told : Option (List ℕ)) (reader : Reader) → reader.lines ≡ 0 → reader.taken ≡ 0 → IsBounded reader → H (begin_stage start) → Between tells start H (to_come reader left) told reader [] left told
  unfolding Fits AllAlong stage text along
  at_start left told reader lines taken most holds = record {
    read = [];
    script = refl;
    taken = Consumes-nil (to_come reader left);
    count = lines;
    size = taken;
    within = omega arith;
    most = most;
    fits = tt;
    holds = holds;
    wrote = Appends-nil told;
  }

module _ (tells : Type 0) (start : Start) (B : Stage → Type 0) where
  -- nothing is run
  abbrev NotRun : Option (List ℕ) → Option (List ℕ) → Status → Type 0
  NotRun left told status = (pending : List ℕ) × Headline tells start B left pending left told told status

  not_begun : (left told : Option (List ℕ)) (status : Status) → MayCut status false → Ended tells start status [] [] [] [] (prepend_known [] left) → B (begin_stage start) → NotRun left told status
  unfolding Fits AllAlong stage text along
  not_begun left told status whole ended back = (
    [],
    record {
      turns = [];
      read = [];
      rest = [];
      written = [];
      taken = subst (λ (x : Option (List ℕ)). Consumes left x []) (sym (nothing_pending left)) (Consumes-nil left);
      within = omega arith;
      most = omega arith;
      ran = record { script = refl; fits = tt; right = λ _. All-nil IsRightLife };
      cut = whole;
      wrote = Appends-nil told;
      ended = ended;
      back = back;
    },
  )

  nothing_written : Partly start [] []
  unfolding text along
  nothing_written = all_of start []

  -- told as want of memory
  pub as_memory : {left0 left told0 told : Option (List ℕ)} {pending : List ℕ} → Headline tells start B left0 pending left told0 told statuses.VaultFault → Headline tells start B left0 pending left told0 told statuses.Memory
  as_memory h = record {
    turns = h.turns;
    read = h.read;
    rest = h.rest;
    written = h.written;
    taken = h.taken;
    within = h.within;
    most = h.most;
    ran = h.ran;
    cut = tt;
    wrote = h.wrote;
    ended = subst (Partly start h.turns) (sym h.ended) (all_of start h.turns);
    back = h.back;
  }

  pub not_called : (left told : Option (List ℕ)) → B (begin_stage start) → NotRun left told statuses.Usage
  not_called left told back = not_begun left told statuses.Usage refl (refl, refl, refl, refl) back

  pub not_generated : (left told : Option (List ℕ)) → B (begin_stage start) → NotRun left told statuses.NoGenerator
  not_generated left told back = not_begun left told statuses.NoGenerator refl (refl, refl, refl, refl) back

  pub no_buffer : (left told : Option (List ℕ)) → B (begin_stage start) → NotRun left told statuses.Memory
  no_buffer left told back = not_begun left told statuses.Memory tt nothing_written back

  pub ran_whole : (left left' told told' : Option (List ℕ)) (old new : Reader) (status : Status) → old ≡ first_reader → Headline tells start B (to_come old left) new.pending left' told told' status
      → (pending : List ℕ) × Headline tells start B left pending left' told told' status
  ran_whole left left' told told' old new status is h = (
    new.pending,
    subst (λ (x : Option (List ℕ)). Headline tells start B x new.pending left' told told' status) (nothing_pending left)
        (subst (λ (r : Reader). Headline tells start B (to_come r left) new.pending left' told told' status) is h),
  )
