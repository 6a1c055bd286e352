-- What stands beside the log disk, by the logs that may be found.
use Rattle.std.proofs.Common.{◌≡◌, ℕ, false, List, [], ◌∷◌, ◌++◌, Option, Some, None, refl, sym, ap, subst, ◌∙◌, ⊎_elim, append-nil}
use Rattle.std.specs.Prelude.{if◌then◌else◌, zero, suc, take, IsTrue}
use Rattle.media.specs.Images.{NoOther}
use Rattle.media.specs.Objects.{MayLeave, Stored as Object, Synced}
use Rattle.media.specs.declared.pages.PageDevice as pages
use Rattle.media.specs.declared.vault.Vault as vaults
use Rattle.store_model.specs.declared.object.ObjectName.{ObjectName}
use Rattle.store_model.specs.Along.{along}
use Rattle.page_repair.specs.Supplies.{IsSealed}
use Rattle.plain_store.specs.Opens.{AreEarlier}
use Rattle.named_objects.specs.Named.{AreNamed, Names, record_of}
use Rattle.named_objects.specs.declared.naming.Naming.{Naming}
use Rattle.named_objects.specs.declared.naming.Naming.TheVariants as namings
use Rattle.wal_record.specs.History.{log_of}
use Rattle.wal_record.specs.Images.{image}
use Rattle.wal_record.specs.declared.record.Format.{Format}
use Rattle.wal_record.specs.declared.record.Record.{Record}
use Rattle.wal_record.specs.declared.record.Record.TheVariants as kinds
use Rattle.wal_record.specs.declared.entry.Entry.{Entry}
use Rattle.script.specs.declared.command.Command.{Command}
use Rattle.script.specs.declared.command.Command.TheVariants as commands
use Rattle.script.specs.declared.command.Device.{Device}
use Rattle.script.specs.declared.command.Device.TheVariants.{Log, Data, Vault}
use Rattle.log_laws.specs.Right.{first_log}
use Rattle.life_commands.specs.Images.{AreSealed}
use Rattle.life_commands.specs.Living.{Adds}
use Rattle.life_commands.specs.Rows.{FitsAt, Row, is_lawful, no_life, no_name}
use Rattle.life_commands.specs.Stores.{AreOf, AreStored, Stores, stores}
use Rattle.life_commands.specs.Turns.{Figures, Life, Last, Found, Formatted, Unformatted, Stopped, LeftBy, IsLeftBy, Stage, Turn, End, Done, TooMany, LogFault, VaultFault, Ended, Cut, last_after, longer, room_of, stage_after, stage_step, turn}
use Rattle.runner.specs.Devices.{AreOfAt, Stored}
use Rattle.runner.specs.Vault.{Arms, Cycles}
use Rattle.runner.proofs.Stages.{cut_none}

-- ---- a log in which nothing is stored

-- no image is one of the empty log
no_image : (page : ℕ) → image [] page ≡ None
unfolding image along
no_image page = refl

none_sealed : (page : ℕ) (bytes : List ℕ) → IsSealed [] page bytes → ⊥
none_sealed page bytes s = by s.upto s.image
  where
    nothing : None ≡ Some s.state → ⊥
    nothing e = absurd cc

    by : (n : ℕ) → image (take n []) page ≡ Some s.state → ⊥
    by zero e = nothing (sym (no_image page) ∙ e)
    by (suc n) e = nothing (sym (no_image page) ∙ e)

none_told : (told : ℕ → List ℕ → Type 0) (log : List Record) → AreSealed told [] → AreSealed told log
none_told told log none page bytes there = absurd (none_sealed page bytes (none page bytes there))

-- a format names no object
no_naming : (x : Format) (n : Naming) → kinds.Format x ≡ record_of n → ⊥
no_naming x (namings.Backup b) e = cc
no_naming x (namings.Run d) e = cc

none_named : (x : Format) (name : ObjectName) (bytes : List ℕ) → Names (kinds.Format x ∷ []) name bytes → ⊥
none_named x name bytes n = by n.before n.is
  where
    by : (before : List Record) → kinds.Format x ∷ [] ≡ before ++ record_of n.naming ∷ n.behind → ⊥
    by [] e = no_naming x n.naming (cc e)
    by (r ∷ []) e = cc
    by (r ∷ (r' ∷ rs)) e = cc

-- what is of the empty log is of the log of a format
abbrev pub OfFirst : {S : Type 0} → Stores S → S → Type 0
OfFirst B beside = (limit : ℕ) → B.are_of beside [] → B.are_of beside (first_log limit)

pub first_stores : {D E : Type 0} (P : pages.Ghosts D) (V : vaults.Ghosts E) (beside : D × E) → OfFirst (stores P V) beside
first_stores P V beside limit none = (none_told (P.told beside.0) (first_log limit) none.0, λ name bytes names. absurd (none_named _ name bytes names))

-- ---- what is taken over

pub are_earlier : {E : Type 0} (opens : List Record → Type 0) (told : E → ℕ → List ℕ → Type 0) (device : E) → ((opening : List Record) → opens opening → AreSealed (told device) opening) → AreEarlier opens told device
are_earlier opens told device all opening may page bytes there = let s = all opening may page bytes there in record { sealed = s; durable_upto = s.within }

pub are_named : {F : Type 0} (opens : List Record → Type 0) (told : F → ObjectName → Object) (vault : F) → ((opening : List Record) → opens opening → AreStored (told vault) opening) → AreNamed opens told [] vault
are_named opens told vault all opening name bytes may names = all opening may name bytes (subst (λ (l : List Record). Names l name bytes) (append-nil opening) names)

-- ---- what is of each log that may be found

module _ (of : List Record → Type 0) where
  -- of less
  pub fewer_of : (of' : List Record → Type 0) (last : Last) → ((log : List Record) → of log → of' log) → AreOf of last → AreOf of' last
  fewer_of of' last less h = record { found = λ log may. less log (h.found log may); left = λ log may. less log (h.left log may) }

  -- the one log that is there
  pub found_of : (log : List Record) → of log → AreOf of (Found log)
  found_of log all = record { found = λ rs same. subst of (sym same) all; left = λ rs same. subst of (sym same) all }

  pub stopped_of : (last : Last) → AreOf of last → AreOf of (Stopped last)
  stopped_of last h = record { found = h.left; left = h.left }

  -- a format that failed has made its log where none was
  unformatted_of : (last : Last) (limit : ℕ) → (of [] → of (first_log limit)) → AreOf of last → AreOf of (Unformatted last limit)
  unformatted_of last limit first h = record {
    found = λ log may. ⊎_elim (λ x. h.found log x) (λ x. subst of (sym x.1) (first (h.found [] x.0))) may;
    left = λ log may. ⊎_elim (λ x. h.left log x) (λ x. subst of (sym x.1) (first (h.found [] x.0))) may;
  }

  -- of a life that has just begun
  pub begun_of : (l : Life) → ◌≡◌ {A = List Entry} l.history [] → of l.opening → AreOf of (LeftBy l 0)
  begun_of l none all = record { found = by; left = by }
    where
      no_own : (own lost : List Record) → [] ≡ own ++ lost → own ≡ []
      no_own [] lost e = refl
      no_own (r ∷ own) lost e = absurd cc

      by : (rs : List Record) → IsLeftBy l 0 rs → of rs
      by rs (own, left, is, most) =
          let nothing : own ≡ [] = no_own own left.lost (sym (ap log_of none) ∙ left.whole) in
          subst of (sym (is ∙ ap (λ (x : List Record). l.opening ++ x) nothing ∙ append-nil l.opening)) all

-- ---- one turn more, where no life is open

module _ (of : List Record → Type 0) (first : (limit : ℕ) → of [] → of (first_log limit)) (tells : Type 0) (t : tells) where
  -- behind a turn that fits
  pub stores_step : (s : Stage) (turn : Turn) → s.life ≡ None → FitsAt tells s turn → AreOf of s.last → AreOfAt of (stage_step s turn).life (stage_step s turn).last
  stores_step s turn none fits images = by turn.command turn.entries turn.found turn.kept turn.figures turn.end fits.lawful fits.row
    where
      as_it_was : (o : Option Life) → o ≡ None → AreOfAt of o s.last
      as_it_was o is = subst (λ (x : Option Life). AreOfAt of x s.last) (sym is) images

      longer_none : (es : List Entry) → longer s.life es ≡ None
      longer_none es = ap (λ (o : Option Life). longer o es) none

      grown : (es : List Entry) → AreOfAt of (longer s.life es) s.last
      grown es = as_it_was (longer s.life es) (longer_none es)

      -- no life is closed
      unclosed : {A : Type 0} → IsTrue (is_lawful s commands.Close) → A
      unclosed lawful = let no : IsTrue (if no_life None then false else no_name s.active) = subst (λ (o : Option Life). IsTrue (if no_life o then false else no_name s.active)) none lawful in absurd cc

      by : (c : Command) (es : List Entry) (found : List Record) (kept : ℕ) (figures : Figures) (end : End) → IsTrue (is_lawful s c) → Row tells s c es found figures end
          → AreOfAt of (stage_after s c es found kept end).life (stage_after s c es found kept end).last
      by commands.Close es found kept figures end lawful row = unclosed lawful
      by (commands.Format limit) es found kept figures Done lawful row = subst (λ (o : Option Life). AreOfAt of o (Formatted (room_of limit))) (sym none) (
          let all = first (room_of limit) (images.found [] (row.0.1 t)) in
          record { found = λ log may. subst of (sym may) all; left = λ log may. subst of (sym may) all })
      by (commands.Format limit) es found kept figures (LogFault n) lawful row = subst (λ (o : Option Life). AreOfAt of o (Unformatted s.last (room_of limit))) (sym none) (unformatted_of of s.last (room_of limit) (first (room_of limit)) images)
      by (commands.Format limit) es found kept figures Cut lawful row = subst (λ (o : Option Life). AreOfAt of o (Unformatted s.last (room_of limit))) (sym none) (unformatted_of of s.last (room_of limit) (first (room_of limit)) images)
      by (commands.Format limit) es found kept figures TooMany lawful row = as_it_was s.life none
      by (commands.Format limit) es found kept figures VaultFault lawful row = grown es
      by (commands.Format limit) es found kept figures (Ended n) lawful row = as_it_was s.life none
      by commands.Open es found kept figures Done lawful row = images.found found (row.0.1 t).0
      by (commands.Stop keep) es found kept figures Done lawful row = stopped_of of (last_after s.life s.last kept) (subst (λ (o : Option Life). AreOf of (last_after o s.last kept)) (sym none) images)
      by (commands.Begin name) es found kept figures Done lawful row = grown es
      by (commands.Begin name) es found kept figures (LogFault n) lawful row = grown es
      by (commands.Begin name) es found kept figures Cut lawful row = grown es
      by (commands.Ask name request) es found kept figures Done lawful row = grown es
      by (commands.Ask name request) es found kept figures (LogFault n) lawful row = grown es
      by (commands.Ask name request) es found kept figures Cut lawful row = grown es
      by (commands.Commit name) es found kept figures Done lawful row = grown es
      by (commands.Commit name) es found kept figures (LogFault n) lawful row = grown es
      by (commands.Commit name) es found kept figures Cut lawful row = grown es
      by (commands.Abort name) es found kept figures Done lawful row = grown es
      by (commands.Abort name) es found kept figures (LogFault n) lawful row = grown es
      by (commands.Abort name) es found kept figures Cut lawful row = grown es
      by commands.Checkpoint es found kept figures Done lawful row = grown es
      by commands.Checkpoint es found kept figures (LogFault n) lawful row = grown es
      by commands.Checkpoint es found kept figures Cut lawful row = grown es
      by commands.Backup es found kept figures Done lawful row = grown es
      by commands.Archive es found kept figures Done lawful row = grown es
      by commands.Lose es found kept figures Done lawful row = grown es
      by commands.Backup es found kept figures (LogFault n) lawful row = grown es
      by commands.Archive es found kept figures (LogFault n) lawful row = grown es
      by commands.Lose es found kept figures (LogFault n) lawful row = grown es
      by commands.Backup es found kept figures Cut lawful row = grown es
      by commands.Archive es found kept figures Cut lawful row = grown es
      by commands.Lose es found kept figures Cut lawful row = grown es
      by (commands.Help steps) es found kept figures Done lawful row = grown es
      by (commands.Help steps) es found kept figures (LogFault n) lawful row = grown es
      by (commands.Help steps) es found kept figures Cut lawful row = grown es
      by _ es found kept figures Done lawful row = as_it_was s.life none
      by _ es found kept figures TooMany lawful row = as_it_was s.life none
      by _ es found kept figures (LogFault n) lawful row = as_it_was s.life none
      by _ es found kept figures VaultFault lawful row = grown es
      by _ es found kept figures (Ended n) lawful row = as_it_was s.life none
      by _ es found kept figures Cut lawful row = as_it_was s.life none

fewer_at : (of of' : List Record → Type 0) (o : Option Life) (last : Last) → ((log : List Record) → of log → of' log) → AreOfAt of o last → AreOfAt of' o last
fewer_at of of' None last less h = fewer_of of of' last less h
fewer_at of of' (Some l) last less h = less l.opening h

module _ {S : Type 0} (B : Stores S) (old new : S) (first : OfFirst B old) (fewer : B.tells → (log : List Record) → B.are_of old log → B.are_of new log) (tells : Type 0) (told : tells → B.tells) where
  -- a command where no life is open, with what is beside the log disk
  pub adds_stores : (H H' : Stage → Type 0) (s : Stage) (c : Command) (out : List ℕ) → s.life ≡ None → Stored tells B old H s → Adds tells H' s c out → Adds tells (Stored tells B new H') s c out
  adds_stores H H' s c out none before a = record {
    turn = a.turn;
    is = a.is;
    fits = a.fits;
    holds = record {
      here = a.holds;
      told = told;
      stores = λ t.
          let these : AreOf (B.are_of old) s.last = subst (λ (o : Option Life). AreOfAt (B.are_of old) o s.last) none (before.stores t) in
          fewer_at (B.are_of old) (B.are_of new) (stage_step s a.turn).life (stage_step s a.turn).last (fewer (told t)) (stores_step (B.are_of old) first tells t s a.turn none a.fits these);
    };
    lines = a.lines;
  }

  -- or cut off
  pub cut_outside : (H : Stage → Type 0) (s : Stage) (c : Command) (kept : ℕ) → s.life ≡ None → Stored tells B old H s → (es : List Entry) → FitsAt tells s (turn c es Cut) → tells → AreOf (B.are_of new) (last_after (stage_step s (turn c es Cut)).life (stage_step s (turn c es Cut)).last kept)
  cut_outside H s c kept none before es fits t =
      let cut = stage_step s (turn c es Cut) in
      let over : cut.life ≡ None = cut_none s c es none in
      let these : AreOf (B.are_of old) s.last = subst (λ (o : Option Life). AreOfAt (B.are_of old) o s.last) none (before.stores t) in
      let behind = subst (λ (o : Option Life). AreOfAt (B.are_of old) o cut.last) over (stores_step (B.are_of old) first tells t s (turn c es Cut) none fits these) in
      subst (λ (o : Option Life). AreOf (B.are_of new) (last_after o cut.last kept)) (sym over) (fewer_of (B.are_of old) (B.are_of new) cut.last (fewer (told t)) behind)

  pub still_stores : (H : Stage → Type 0) (s : Stage) (kept : ℕ) → s.life ≡ None → Stored tells B old H s → tells → AreOf (B.are_of new) (last_after s.life s.last kept)
  still_stores H s kept none before t =
      let these : AreOf (B.are_of old) s.last = subst (λ (o : Option Life). AreOfAt (B.are_of old) o s.last) none (before.stores t) in
      subst (λ (o : Option Life). AreOf (B.are_of new) (last_after o s.last kept)) (sym none) (fewer_of (B.are_of old) (B.are_of new) s.last (fewer (told t)) these)

-- ---- a data device and a vault

-- a stop leaves each synced object
stored_left : (old new : Object) (bytes : List ℕ) → MayLeave old new → old ≡ Synced bytes → new ≡ Synced bytes
stored_left old new bytes may is = subst (λ (x : Object). MayLeave x new) is may

same_vault : {F : Type 0} (V : vaults.Ghosts F) (old new : F) (log : List Record) → new ≡ old → AreStored (V.told old) log → AreStored (V.told new) log
same_vault V old new log same all = subst (λ (x : _). AreStored (V.told x) log) (sym same) all

vault_armed : {F : Type 0} (V : vaults.Ghosts F) (device : Device) (n : Option ℕ) (old new : F) (log : List Record) → V.tells → Arms V device n old new → AreStored (V.told old) log → AreStored (V.told new) log
vault_armed V Log n old new log t same all = same_vault V old new log same all
vault_armed V Data n old new log t same all = same_vault V old new log same all
vault_armed V Vault n old new log t armed all = λ name bytes names. armed.same t name ∙ all name bytes names

pub vault_after : {F : Type 0} (V : vaults.Ghosts F) (c : Command) (old new : F) (log : List Record) → V.tells → Cycles V c old new → AreStored (V.told old) log → AreStored (V.told new) log
vault_after V (commands.Stop keep) old new log t cycled all = λ name bytes names. stored_left (V.told old name) (V.told new name) bytes (cycled.left t name) (all name bytes names)
vault_after V (commands.Fuse device calls) old new log t armed all = vault_armed V device (Some calls) old new log t armed all
vault_after V (commands.Renew device) old new log t armed all = vault_armed V device None old new log t armed all
vault_after V _ old new log t same all = same_vault V old new log same all

-- no image more, and the vault behind a command where no life is open
pub stores_after : {E F : Type 0} (P : pages.Ghosts E) (V : vaults.Ghosts F) (c : Command) (old new : E) (vault left : F) → (P.tells → NoOther P.told old new) → Cycles V c vault left → (stores P V).tells → (log : List Record) → (stores P V).are_of (old, vault) log → (stores P V).are_of (new, left) log
stores_after P V c old new vault left fewer cycled t log all = ((λ page bytes there. all.0 page bytes (fewer t.0 page bytes there)), vault_after V c vault left log t.1 cycled all.1)

-- the vault as it was
pub no_more : {E F : Type 0} (P : pages.Ghosts E) (V : vaults.Ghosts F) (old new : E) (vault : F) → (P.tells → NoOther P.told old new) → (stores P V).tells → (log : List Record) → (stores P V).are_of (old, vault) log → (stores P V).are_of (new, vault) log
no_more P V old new vault fewer t log all = ((λ page bytes there. all.0 page bytes (fewer t.0 page bytes there)), all.1)
