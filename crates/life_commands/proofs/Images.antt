-- Images of the data device and objects of the vault, in the logs that may be found.
use Rattle.std.proofs.Common.{◌≡◌, ℕ, ◌≤◌, List, [], ◌∷◌, ◌++◌, refl, sym, ap, subst, ◌∙◌, append-nil, append_assoc, arith, length, take}
use Rattle.std.proofs.lemmas.List.{length-append, take-append-le}
use Rattle.media.specs.Objects.{Stored}
use Rattle.media.specs.declared.pages.PageDevice as pages
use Rattle.media.specs.declared.vault.Vault as vaults
use Rattle.store_model.specs.declared.object.ObjectName.{ObjectName}
use Rattle.page_repair.specs.Images.{IsImage}
use Rattle.page_repair.specs.Supplies.{IsSealed}
use Rattle.wal_record.specs.History.{life_log}
use Rattle.wal_record.specs.declared.record.Record.{Record}
use Rattle.wal_record.specs.declared.entry.Entry.{Entry}
use Rattle.named_objects.specs.Named.{Names, record_of}
use Rattle.own_life.specs.State.{LifeState}
use Rattle.life_commands.specs.Living.{AreBeside}
use Rattle.life_commands.specs.Stores.{AreOf, AreStored, stores}
use Rattle.life_commands.specs.Turns.{Found, IsLeftBy, LeftBy, Life}

-- ---- the first part of a log

-- an image that is sealed in a log up to this LSN is sealed in each first part of it that has so many records
pub sealed_first : (log first rest : List Record) (page : ℕ) (bytes : List ℕ) (sealed : IsSealed log page bytes) → log ≡ first ++ rest → sealed.upto ≤ length first → IsSealed first page bytes
sealed_first log first rest page bytes sealed is within =
    let same : take sealed.upto log ≡ take sealed.upto first = ap (λ (l : List Record). take sealed.upto l) is ∙ take-append-le sealed.upto first rest within in
    record {
      upto = sealed.upto;
      within = within;
      state = sealed.state;
      image = rw (sym same) sealed.image;
      sealed = rw (sym same) sealed.sealed;
    }

nothing_more : (rs lost : List Record) → length (rs ++ lost) ≤ length rs → lost ≡ []
nothing_more rs [] few = refl
nothing_more rs (r ∷ lost) few = absurd (let n = length-append rs (r ∷ lost) in omega (arith, few, n))

-- ---- what a life may leave

module _ (l : Life) (kept : ℕ) (rs : List Record) (h : IsLeftBy l kept rs) where
  abbrev log : List Record
  log = life_log l.opening l.history

  -- a log that a stop may leave is the first part of the life's log
  pub left_first : log ≡ rs ++ h.1.lost
  left_first = ap (λ (z : List Record). l.opening ++ z) h.1.whole ∙ sym (append_assoc l.opening h.0 h.1.lost) ∙ ap (λ (z : List Record). z ++ h.1.lost) (sym h.2)

  -- and the whole of it, where the whole is durable
  pub left_whole : length log ≤ kept → rs ≡ log
  left_whole durable =
      let long : length (rs ++ h.1.lost) ≤ length rs = (let n = ap (λ (z : List Record). length z) left_first in let more = h.3 in omega (arith, durable, n, more)) in
      sym (left_first ∙ ap (λ (z : List Record). rs ++ z) (nothing_more rs h.1.lost long) ∙ append-nil rs)

  -- an image that is sealed in the log up to a durable LSN is sealed in it
  pub sealed_left : (page : ℕ) (bytes : List ℕ) → IsImage log kept page bytes → IsSealed rs page bytes
  sealed_left page bytes i = sealed_first log rs h.1.lost page bytes i.sealed left_first (let upto = i.durable_upto in let more = h.3 in omega (arith, upto, more))

-- ---- what stands beside the log disk of a life that is over

-- what a log names each longer one names
pub names_more : (log more : List Record) (name : ObjectName) (bytes : List ℕ) → Names log name bytes → Names (log ++ more) name bytes
names_more rs more name bytes n = record {
  before = n.before;
  naming = n.naming;
  behind = n.behind ++ more;
  is = ap (λ (l : List Record). l ++ more) n.is ∙ append_assoc n.before (record_of n.naming ∷ n.behind) more;
  named = n.named;
  tells = n.tells;
}

pub stored_first : (told : ObjectName → Stored) (log first rest : List Record) → log ≡ first ++ rest → AreStored told log → AreStored told first
stored_first told rs first rest is all name bytes names = all name bytes (subst (λ (l : List Record). Names l name bytes) (sym is) (names_more first rest name bytes names))

module _ {E F : Type 0} (P : pages.Ghosts E) (V : vaults.Ghosts F) (opens : List Record → Type 0) (x : LifeState) (l : Life) (kept : ℕ) (beside : E × F) (may : opens l.opening) (same : l.history ≡ x.history) (of : AreBeside P V opens x kept beside)
    (tells : (stores P V).tells) where
  image_here : (page : ℕ) (bytes : List ℕ) → P.told beside.0 page bytes → IsImage (life_log l.opening l.history) kept page bytes
  image_here page bytes told = subst (λ (h : List Entry). IsImage (life_log l.opening h) kept page bytes) (sym same) (of.images tells.0 page bytes told l.opening may)

  objects_here : AreStored (V.told beside.1) (life_log l.opening l.history)
  objects_here name bytes names = of.objects tells.1 l.opening name bytes may (subst (λ (h : List Entry). Names (life_log l.opening h) name bytes) same names)

  of_left : (rs : List Record) → IsLeftBy l kept rs → (stores P V).are_of beside rs
  of_left rs h = (
    λ page bytes told. sealed_left l kept rs h page bytes (image_here page bytes told),
    stored_first (V.told beside.1) (life_log l.opening l.history) rs h.1.lost (left_first l kept rs h) objects_here,
  )

  -- it is of each log that a stop may leave
  pub stores_left : AreOf ((stores P V).are_of beside) (LeftBy l kept)
  stores_left = record { found = of_left; left = of_left }

  -- of the whole log
  pub stores_found : AreOf ((stores P V).are_of beside) (Found (life_log l.opening l.history))
  stores_found = record { found = of_whole; left = of_whole }
    where
      of_whole : (rs : List Record) → rs ≡ life_log l.opening l.history → (stores P V).are_of beside rs
      of_whole rs is = subst (λ (z : List Record). (stores P V).are_of beside z) (sym is) ((λ page bytes told. (image_here page bytes told).sealed), objects_here)
