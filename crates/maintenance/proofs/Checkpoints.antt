-- A Checkpoint asked for.
use Rattle.std.proofs.Common.{◌≡◌, List, [], ◌∷◌, refl, sym, ap, subst, arith}
use Rattle.std.specs.Prelude.{IsTrue}
use Rattle.front.proofs.Keeping.{prefix_self}
use Rattle.store_model.specs.Along.{AllAlong}
use Rattle.wal_record.specs.History.{log_of}
use Rattle.wal_record.specs.Rules.{KeepsCheckpoint, KeepsUnfinished, run_fits, segment_fits}
use Rattle.wal_record.specs.Sound.{IsLawful}
use Rattle.wal_record.specs.declared.record.Checkpoint.{Checkpoint}
use Rattle.wal_record.specs.declared.record.Record.{Record}
use Rattle.wal_record.specs.declared.record.Record.TheVariants as kinds
use Rattle.wal_record.specs.declared.entry.Entry.{Entry}
use Rattle.wal_record.proofs.Along.{AllAlong_less}
use Rattle.claim_laws.specs.Entering.{IsAtRest}
use Rattle.asking_laws.proofs.Asks.{asks_law}
use Rattle.page_ops.specs.Asking.{IsAskable, WasTimely}
use Rattle.page_ops.specs.Claims.{Claims}
use Rattle.page_ops.specs.Groups.{Each, HasRights, IsGroup, no_checkpoint}
use Rattle.page_ops.specs.Seeing.{IsMoment}
use Rattle.page_ops.specs.declared.group.Group.{Group}
use Rattle.maintenance.specs.Checkpoints.{checkpoint_group}
use Rattle.maintenance.proofs.Marks.{StaysOfKind}

no_unfinished : AllAlong KeepsUnfinished []
unfolding AllAlong
no_unfinished = tt

no_segments : AllAlong (λ before segment. IsTrue (segment_fits before segment)) []
unfolding AllAlong
no_segments = tt

no_runs : AllAlong (λ before x. IsTrue (run_fits before x)) []
unfolding AllAlong
no_runs = tt

spelled : KeepsCheckpoint no_checkpoint
spelled = record { next_tx = refl; commits = refl; limit = refl; pages_count = refl; pages = refl; transactions_count = refl; transactions = no_unfinished; lost = refl; unrestored_count = refl; unrestored = no_segments; runs_count = refl; runs = no_runs; next_backup = refl; next_run = refl }

module _ (g : Group) (is : g ≡ checkpoint_group) where
  pub is_group : IsGroup g
  is_group = subst IsGroup (sym is) (record { few = omega arith; kinds = refl; spelled = (spelled, tt); told = refl; alone = λ a. refl })

  pub has_rights : (opens : List Record → Type 0) (h : List Entry) (x : Claims) → HasRights opens h x g
  has_rights opens h x = subst (HasRights opens h x) (sym is) (record { pages = refl; new = λ s. absurd (cc s); owners = (tt, tt); speaker = tt; maintenance = λ needs. absurd (cc needs) })

  pub is_askable : (opens : List Record → Type 0) (seen : List Entry) (x : Claims) (opening : List Record) (h : List Entry) → opens opening → IsMoment opens seen x h → IsAskable opening h x.a g
  is_askable opens seen x opening h stands moment =
      let consistent = moment.consistent in
      let sound = consistent.sound opening stands in
      let rest : IsAtRest opening h = record { legal = consistent.legal opening stands; sound = sound; told = consistent.told; split = consistent.split opening stands } in
      subst (λ (z : Group). IsAskable opening h x.a z) (sym is)
      ((asks_law opening [] h).checkpoint (AllAlong_less IsLawful opening (log_of h) sound.lawful) rest x.a no_checkpoint (consistent.some opening stands))

  pub is_timely : (opening : List Record) (seen : List Entry) → Each (WasTimely opening seen) g.recs
  is_timely opening seen = subst (λ (z : Group). Each (WasTimely opening seen) z.recs) (sym is) ((seen, prefix_self seen, tt), tt)

pub filled : StaysOfKind Checkpoint kinds.Checkpoint (kinds.Checkpoint no_checkpoint)
filled new [] f = absurd f
filled new (x ∷ []) f = (f.0.0.checkpoint, ap (λ (y : Record). y ∷ []) f.0.2)
filled new (x ∷ y ∷ ys) f = absurd f.1
