-- Within a life, and as it begins: what holds in each view of the log disk.
use Rattle.std.proofs.Common.{◌≡◌, ℕ, List, [], Option, Some, sym, ap, subst, ◌∙◌}
use Rattle.std.specs.List.{All}
use Rattle.media.specs.declared.disk.Disk.{Ghosts}
use Rattle.media.specs.declared.pages.PageDevice as pages
use Rattle.media.specs.declared.vault.Vault as vaults
use Rattle.page_ops.specs.Seeing.{Calls}
use Rattle.journal.specs.State.{calls_of}
use Rattle.log_manager.specs.Managed.{Managed}
use Rattle.script.specs.declared.command.Command.{Command}
use Rattle.script.specs.declared.command.Command.TheVariants as commands
use Rattle.wal_record.specs.declared.entry.Entry.{Entry}
use Rattle.wal_record.specs.declared.record.Record.{Record}
use Rattle.own_life.specs.State.{AreLeft, HasJustBegun, LifeState}
use Rattle.life_commands.specs.LogDisk.{View, IsWhole, seen}
use Rattle.life_commands.specs.Living.{Adds, AreBeside, Out, Within}
use Rattle.life_commands.specs.Refusals.{HasLife, LeftAs}
use Rattle.life_commands.specs.Rows.{FitsAt}
use Rattle.life_commands.specs.Stores.{AreOf, Stores, stores}
use Rattle.life_commands.specs.Turns.{Cut, Life, Stage, Turn, IsRightLife, last_after, lives, lives_of, stage_step, turn}
use Rattle.life_commands.proofs.Images.{stores_left}
use Rattle.life_commands.proofs.Lives.{disk_seen, has_life, right_more, safe_in}
use Rattle.runner.specs.Clause.{AtRest}
use Rattle.runner.specs.Devices.{AreDevicesOf, AreOfAt, Rests, Stored}
use Rattle.store_log.specs.Beginnings.{Beginning, BeginsOn}
use Rattle.runner.specs.Machine.{Begun, OpensOn}
use Rattle.runner.proofs.Places.{begun_right}
use Rattle.runner.proofs.Stages.{cut_open}

-- each life is right
pub right_in : {D : Type 0} (L : Ghosts D) {opens : List Record → Type 0} {x : LifeState} {s : Stage} → Within L opens x s → L.tells → All IsRightLife (lives s)
right_in L {s = s} h t = subst (λ (o : Option Life). All IsRightLife (lives_of o s.past)) (sym h.life) (right_more L s.past h.here (h.past t) (h.right t))

-- what is beside the log disk of a life is of each log that a stop may leave of it
life_stores : {E F : Type 0} (P : pages.Ghosts E) (V : vaults.Ghosts F) (tells : Type 0) (opens : List Record → Type 0) (y : LifeState) (kept : ℕ) (beside : E × F) (s : Stage) (l : Life) → s.life ≡ Some l → HasLife tells opens y.history s → tells → (stores P V).tells
    → AreBeside P V opens y kept beside → AreOf ((stores P V).are_of beside) (last_after s.life s.last kept)
life_stores P V tells opens y kept beside s l is has t told of =
    let here = has l is in
    subst (λ (o : Option Life). AreOf ((stores P V).are_of beside) (last_after o s.last kept)) (sym is) (stores_left P V opens y l kept beside (here.0 t) here.1 of told)

module _ {D E F : Type 0} (L : Ghosts D) (P : pages.Ghosts E) (V : vaults.Ghosts F) (v : View L.tells) where
  abbrev B : Stores (E × F)
  B = stores P V

  -- the devices that a life has handed out
  pub devices_of : (opens : List Record → Type 0) (x : LifeState) (disk : D) (device : E) (vault : F) → (left : AreLeft L P V opens x disk device vault) → AreDevicesOf L P V opens x left.kept disk (device, vault)
  devices_of opens x disk device vault left = record { durable = left.durable; log = record { left = left.left; calls = left.calls }; stores = record { images = left.images; objects = left.objects } }

  -- a log is known only where the devices beside it tell what they hold
  pub told_in : {opens : List Record → Type 0} {x : LifeState} {s : Stage} → ((opening : List Record) → opens opening → B.tells) → Within (seen L v) opens x s → IsWhole v → B.tells
  told_in told h t = told h.here.opening (h.begins t)

  -- whatever devices the life hands out
  pub rests_in : {opens : List Record → Type 0} {x : LifeState} {s : Stage} → ((opening : List Record) → opens opening → B.tells) → Within (seen L v) opens x s → (kept : ℕ) (disk : D) (beside : E × F) → AreDevicesOf L P V opens x kept disk beside
      → Rests L.tells (seen L v) B kept disk beside s
  rests_in {opens} {x} {s} told h kept disk beside d = record {
    safe = safe_in (seen L v) L.tells opens x s h kept disk (disk_seen L v opens x kept disk d.log);
    stores = λ t. life_stores P V (IsWhole v) opens x kept beside s h.here h.life (has_life (IsWhole v) opens x.history h.here s h.life h.begins h.history) t (told_in told h t) d.stores;
  }

  -- behind a command that ends the run, at a stage whose life has the history that the life has then
  module _ {opens : List Record → Type 0} {x y : LifeState} {s : Stage} (told : (opening : List Record) → opens opening → B.tells) (h : Within (seen L v) opens x s) (kept : ℕ) (disk : D) (beside : E × F) (d : AreDevicesOf L P V opens y kept disk beside) where
    pub still_inside : LeftAs (seen L v) kept disk opens y.history s → IsWhole v → AreOf (B.are_of beside) (last_after s.life s.last kept)
    still_inside left t = life_stores P V (IsWhole v) opens y kept beside s h.here h.life left.life t (told_in told h t) d.stores

    pub cut_inside : (c : Command) (es : List Entry) → FitsAt (IsWhole v) s (turn c es Cut) → LeftAs (seen L v) kept disk opens y.history (stage_step s (turn c es Cut)) → IsWhole v
        → AreOf (B.are_of beside) (last_after (stage_step s (turn c es Cut)).life (stage_step s (turn c es Cut)).last kept)
    cut_inside c es fits left t =
        let m = cut_open s h.here c es h.life in
        life_stores P V (IsWhole v) opens y kept beside (stage_step s (turn c es Cut)) m.0 m.1 left.life t (told_in told h t) d.stores

    pub turned_inside : (l : Life) (u : Turn) (m : Life) → s.life ≡ Some l → (stage_step s u).life ≡ Some m → LeftAs (seen L v) kept disk opens y.history (stage_step s u) → IsWhole v
        → AreOf (B.are_of beside) (last_after (stage_step s u).life (stage_step s u).last kept)
    turned_inside l u m is there left t = life_stores P V (IsWhole v) opens y kept beside (stage_step s u) m there left.life t (told_in told h t) d.stores

  -- behind a close
  pub closed_in : {opens : List Record → Type 0} {x y : LifeState} {s : Stage} → ((opening : List Record) → opens opening → B.tells) → Within (seen L v) opens x s → (kept : ℕ) (disk : D) (beside : E × F) → AreDevicesOf L P V opens y kept disk beside → (out : List ℕ)
      → Adds (IsWhole v) (λ t. Out L.tells (seen L v) disk t × (IsWhole v → B.tells → AreOf (B.are_of beside) t.last)) s commands.Close out → Adds (IsWhole v) (AtRest L.tells (seen L v) B disk beside) s commands.Close out
  closed_in told h kept disk beside d out a =
      let now = stage_step _ a.turn in
      record {
        turn = a.turn;
        is = a.is;
        fits = a.fits;
        holds = record {
          here = a.holds.0;
          told = told_in told h;
          stores = λ t. subst (λ (o : Option Life). AreOfAt (B.are_of beside) o now.last) (sym a.holds.0.life) (a.holds.1 t (told_in told h t));
        };
        lines = a.lines;
      }

  begins_seen : (b : Beginning D) (opening : List Record) → BeginsOn L.tells (seen L v) b opening → BeginsOn L.tells L b opening
  begins_seen b opening o = record { may = o.may; stands = o.stands }

  -- a life in which nothing has happened, on the devices that it took over
  pub within_begun : (opens : List Record → Type 0) (b : Beginning D) (beside : E × F) (m : Managed D) (x : LifeState) (s : Stage) → ((opening : List Record) → OpensOn L.tells L B b beside opening → opens opening) → m ≡ b.log
      → HasJustBegun opens (calls_of L.passes L.refused L.own m.log.device) x → Stored (IsWhole v) B beside (Begun L.tells (seen L v) b) s → Within (seen L v) opens x s
  within_begun opens b beside m x s may log is i =
      let h = i.here in
      let calls : x.calls ≡ calls_of L.passes L.refused L.own b.log.log.device = is.calls ∙ ap (λ (n : Managed D). calls_of L.passes L.refused L.own n.log.device) log in
      record {
        past = h.past;
        here = record { opening = h.opening; history = [] };
        life = h.life;
        active = h.active ∙ sym is.active;
        ended = h.ended ∙ sym is.ended;
        goes = h.goes;
        fused = record { fuse = h.fused.fuse; renewed = λ e. ap (λ (y : Calls). y.passes) calls ∙ h.fused.renewed e };
        history = sym is.history;
        begins = λ t. may h.opening (record { begins = begins_seen b h.opening (h.begins t); told = i.told t; stores = subst (λ (o : Option Life). AreOfAt (B.are_of beside) o s.last) h.life (i.stores t) });
        right = λ t. begun_right (seen L v) h.opening (h.begins t).may.sound;
      }
