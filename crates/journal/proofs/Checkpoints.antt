-- A Checkpoint that the listing makes is what its group asks for.
use Rattle.std.proofs.Common.{◌≡◌, ℕ, List, [], ◌∷◌, Option, None, refl, sym, ap, subst, ◌∙◌}
use Rattle.asking_laws.specs.Entered.{fill_all}
use Rattle.page_ops.specs.Asking.{HasNumbers, MayFollow}
use Rattle.page_ops.specs.Claims.{Claims}
use Rattle.page_ops.specs.Groups.{AreFilled, IsGroup, Numbers, made_by}
use Rattle.page_ops.specs.Seeing.{Account, IsConsistent}
use Rattle.page_ops.specs.declared.group.Group.{Group}
use Rattle.wal_record.specs.Checkpoints.{checkpoint_of}
use Rattle.wal_record.specs.History.{life_log}
use Rattle.wal_record.specs.declared.record.Checkpoint.{Checkpoint}
use Rattle.wal_record.specs.declared.record.Record.{Record}
use Rattle.wal_record.specs.declared.record.Record.TheVariants as kinds
use Rattle.wal_record.specs.declared.entry.Entry.{Entry}
use Rattle.journal.specs.Groups.{EntersFilled, EntersNow, GroupFollows, IsCheckpointAlone, IsNewRight, IsNext}
use Rattle.journal.proofs.Entering.{enters_now}
use Rattle.journal.proofs.Grouping.{filled_follows}

abbrev numbers_of : Checkpoint → Numbers
numbers_of c = record { prev = 0; page_prev = 0; other_prev = 0; child = 2; checkpoint = c; pages = 0 }

-- one Checkpoint stands in the group, and it makes no page
the_checkpoint : (recs : List Record) → IsCheckpointAlone recs → (x : Checkpoint) × (recs ≡ kinds.Checkpoint x ∷ [])
the_checkpoint [] alone = absurd alone
the_checkpoint (kinds.Checkpoint x ∷ []) alone = (x, refl)
the_checkpoint (kinds.Checkpoint x ∷ r ∷ rs) alone = absurd alone
the_checkpoint (r ∷ rs) alone = absurd alone

module _ (g : Group) (alone : IsCheckpointAlone g.recs) (c : Checkpoint) where
  asked : (x : Checkpoint) × (g.recs ≡ kinds.Checkpoint x ∷ [])
  asked = the_checkpoint g.recs alone

  no_page : made_by g.recs ≡ None
  no_page = ap made_by asked.1

  filling : AreFilled 2 g.recs (kinds.Checkpoint c ∷ [])
  filling = subst (λ (rs : List Record). AreFilled 2 rs (kinds.Checkpoint c ∷ [])) (sym asked.1) ((numbers_of c, refl, refl), tt)

  pub checkpoint_follows : (opens : List Record → Type 0) (h : List Entry) → IsConsistent opens h → IsGroup g → ((opening : List Record) → opens opening → c ≡ checkpoint_of (life_log opening h))
      → ((opening : List Record) → opens opening → HasNumbers opening h → MayFollow opening h g) → (lsn : ℕ) → IsNext opens h lsn → GroupFollows opens h lsn (kinds.Checkpoint c ∷ []) g.said
  checkpoint_follows opens h consistent is_group says follows lsn next =
      filled_follows opens h consistent g is_group None None 2 lsn (kinds.Checkpoint c ∷ []) (sym no_page) (λ some. some) tt tt filling follows
      (λ opening stands runs. (λ i. kinds.Checkpoint (says opening stands i) ∷ []) ∙ ap (λ (rs : List Record). fill_all (life_log opening h) None 2 rs) (sym asked.1))
      next

  pub checkpoint_entered : (recs : List Record) (lsn : ℕ) (x x' : Claims) (a a' : Account) (h h' : List Entry) → recs ≡ kinds.Checkpoint c ∷ [] → EntersFilled recs g.said None x x' a a' h h' lsn
      → EntersNow g (record g { recs = recs; lsn = lsn }) x x' a a' h h'
  checkpoint_entered recs lsn x x' a a' h h' is e =
      enters_now g (record g { recs = recs; lsn = lsn }) x x' a a' h h' 2 None (subst (λ (rs : List Record). AreFilled 2 g.recs rs) (sym is) filling) refl e
      (subst (λ (o : Option ℕ). IsNewRight o 2 None) (sym no_page) refl)
      (λ some. refl)
