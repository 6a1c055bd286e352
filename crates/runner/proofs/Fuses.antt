-- Whether the vault's fuse is armed, turn by turn.
use Rattle.std.proofs.Common.{◌≡◌, ℕ, List, Bool, refl, sym, ap, ◌∙◌, ⊎_elim}
use Rattle.script.specs.declared.command.Command.{Command}
use Rattle.script.specs.declared.command.Command.TheVariants as commands
use Rattle.script.specs.declared.command.Device.TheVariants.{Log, Data, Vault}
use Rattle.wal_record.specs.declared.entry.Entry.{Entry}
use Rattle.wal_record.specs.declared.record.Record.{Record}
use Rattle.life_commands.specs.Living.{Adds}
use Rattle.life_commands.specs.Rows.{FitsAt, Row}
use Rattle.life_commands.specs.Turns.{Figures, Stage, Turn, End, Done, TooMany, LogFault, VaultFault, Ended, Cut, stage_after, stage_step}
use Rattle.runner.specs.Vault.{WithVault, armed_after}

-- no turn but one that is done changes it
armed_step : (tells : Type 0) (s : Stage) (t : Turn) → FitsAt tells s t → (stage_step s t).armed.vault ≡ armed_after t.command s.armed.vault
armed_step tells s t fits = by t.command t.entries t.found t.kept t.figures t.end fits.row
  where
    by : (c : Command) (es : List Entry) (found : List Record) (kept : ℕ) (figures : Figures) (end : End) → Row tells s c es found figures end → (stage_after s c es found kept end).armed.vault ≡ armed_after c s.armed.vault
    by (commands.Stop keep) es found kept figures Done row = refl
    by (commands.Stop keep) es found kept figures TooMany row = absurd (let e = row.1 in cc)
    by (commands.Stop keep) es found kept figures (LogFault n) row = absurd row.1
    by (commands.Stop keep) es found kept figures VaultFault row = absurd row.1
    by (commands.Stop keep) es found kept figures (Ended n) row = absurd row.1
    by (commands.Stop keep) es found kept figures Cut row = ⊎_elim (λ no. absurd no) (λ no. absurd no) row.0
    by (commands.Fuse Log calls) es found kept figures Done row = refl
    by (commands.Fuse Data calls) es found kept figures Done row = refl
    by (commands.Fuse Vault calls) es found kept figures Done row = refl
    by (commands.Fuse device calls) es found kept figures TooMany row = absurd (let e = row.1 in cc)
    by (commands.Fuse device calls) es found kept figures (LogFault n) row = absurd row.1
    by (commands.Fuse device calls) es found kept figures VaultFault row = absurd row.1
    by (commands.Fuse device calls) es found kept figures (Ended n) row = absurd row.1
    by (commands.Fuse device calls) es found kept figures Cut row = ⊎_elim (λ no. absurd no) (λ no. absurd no) row.0
    by (commands.Renew Log) es found kept figures Done row = refl
    by (commands.Renew Data) es found kept figures Done row = refl
    by (commands.Renew Vault) es found kept figures Done row = refl
    by (commands.Renew device) es found kept figures TooMany row = absurd (let e = row.1 in cc)
    by (commands.Renew device) es found kept figures (LogFault n) row = absurd row.1
    by (commands.Renew device) es found kept figures VaultFault row = absurd row.1
    by (commands.Renew device) es found kept figures (Ended n) row = absurd row.1
    by (commands.Renew device) es found kept figures Cut row = ⊎_elim (λ no. absurd no) (λ no. absurd no) row.0
    by _ es found kept figures Done row = refl
    by _ es found kept figures TooMany row = refl
    by _ es found kept figures (LogFault n) row = refl
    by _ es found kept figures VaultFault row = refl
    by _ es found kept figures (Ended n) row = refl
    by _ es found kept figures Cut row = refl

-- one turn more, with that
pub adds_armed : (tells : Type 0) (H : Stage → Type 0) (s : Stage) (c : Command) (out : List ℕ) (armed now : Bool) → s.armed.vault ≡ armed → now ≡ armed_after c armed → Adds tells H s c out → Adds tells (WithVault now H) s c out
adds_armed tells H s c out armed now is next a = record {
  turn = a.turn;
  is = a.is;
  fits = a.fits;
  holds = record { here = a.holds; vault = armed_step tells s a.turn a.fits ∙ ap (λ (d : Command). armed_after d s.armed.vault) a.is ∙ ap (λ (b : Bool). armed_after c b) is ∙ sym next };
  lines = a.lines;
}
