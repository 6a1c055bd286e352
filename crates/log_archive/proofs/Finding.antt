-- Entries that are looked for, and what is answered of objects that keep their form.
use Rattle.std.proofs.Common.{◌≡◌, ◌≢◌, ◌⊎◌, inl, inr, ℕ, zero, suc, ◌+◌, ◌^◌, ◌<◌, ◌≤◌, List, [], ◌∷◌, ◌++◌, length, get_or, take, Result, Ok, Err, refl, sym, ap, subst, ◌∙◌, arith}
use Rattle.std.specs.Prelude.{OnOk, IfErr, ⊤}
use Rattle.std.specs.List.{All}
use Rattle.std.proofs.lemmas.List.{take_all, take_more}
use Rattle.std.proofs.lemmas.List.Elements.{All-push}
use Rattle.store_model.specs.declared.fault.Fault.{Fault}
use Rattle.store_model.specs.declared.fault.Fault.TheVariants as faults
use Rattle.store_model.specs.declared.object.ObjectName.{ObjectName}
use Rattle.log_archive.specs.Answers.{FailsToFind, GivesItems, GivesSize, HasNone, IsEntryOf, IsFirstFault}
use Rattle.log_archive.specs.Items.{Chunk}
use Rattle.log_archive.specs.Run.{IsRun, run_name}
use Rattle.log_archive.specs.declared.directory.Entry.{Entry}
use Rattle.log_archive.specs.declared.directory.Outline.{Outline}
use Rattle.log_archive.specs.declared.item.Numbered.{Numbered}
use Rattle.log_archive.proofs.Again.{run_again}

-- ---- entries

pub is_entry : (es : List Entry) (i : ℕ) (d : Entry) → i < length es → IsEntryOf (get_or es i d) es
is_entry [] i d lt = absurd (omega arith)
is_entry (e ∷ es) zero d lt = inl refl
is_entry (e ∷ es) (suc i) d lt = inr (is_entry es i d (omega arith))

pub none_more : (page : ℕ) (es : List Entry) (i : ℕ) (d : Entry) → i < length es → (get_or es i d).page ≢ page → All (λ (e : Entry). e.page ≢ page) (take i es) → All (λ (e : Entry). e.page ≢ page) (take (i + 1) es)
none_more page es i d lt other none = subst (All (λ (e : Entry). e.page ≢ page)) (sym (take_more es i d lt)) (All-push (λ (e : Entry). e.page ≢ page) (take i es) (get_or es i d) none other)

pub none_in_all : (page : ℕ) (es : List Entry) (i : ℕ) → length es ≤ i → All (λ (e : Entry). e.page ≢ page) (take i es) → All (λ (e : Entry). e.page ≢ page) es
none_in_all page es i le none = subst (All (λ (e : Entry). e.page ≢ page)) (take_all i es le) none

-- ---- faults

-- want of memory, or a bad object
pub only : (bad : ObjectName → ℕ → Type 0) (fault : Fault) → FailsToFind bad fault → (fault ≡ faults.Memory) ⊎ ((object : ObjectName) × (byte : ℕ) × (fault ≡ faults.VaultBad object byte) × bad object byte)
only bad faults.Memory f = inl refl
only bad (faults.VaultBad object byte) f = inr (object, byte, refl, f)
only bad faults.VaultFault f = absurd f
only bad faults.LogFault f = absurd f
only bad (faults.Ended at) f = absurd f
only bad (faults.Conflict holder range at) f = absurd f
only bad faults.TooManyActive f = absurd f
only bad (faults.Full pages pending at) f = absurd f
only bad faults.NotActive f = absurd f
only bad (faults.LogBad block byte) f = absurd f
only bad faults.NotFormatted f = absurd f
only bad (faults.OpRefused at) f = absurd f
only bad faults.SourceFault f = absurd f
only bad faults.SinkFault f = absurd f
only bad faults.AlreadyFormatted f = absurd f

module _ (run first last : ℕ) (chunks : List Chunk) (bytes : List ℕ) (is : IsRun run first last chunks bytes) (r : run < 2 ^ 64) where
  pub no_first_fault : (byte : ℕ) → IsFirstFault run bytes byte → ⊥
  no_first_fault byte f = let both : ◌≡◌ {A = Result Outline ℕ} (Err f.0) (Ok _) = sym f.1 ∙ run_again run first last chunks bytes is r in absurd cc

  pub wants_memory : (fault : Fault) → FailsToFind (λ object byte. (object ≡ run_name run) × IsFirstFault run bytes byte) fault → fault ≡ faults.Memory
  wants_memory fault f = elim (only _ fault f) [ inl memory ↦ memory | inr bad ↦ absurd (no_first_fault bad.1 bad.3.1) ]

pub none_of_memory : (items : List Numbered) (fault : Fault) → fault ≡ faults.Memory → HasNone items fault
none_of_memory items fault is = subst (HasNone items) (sym is) tt

pub size_of_memory : (chunks : List Chunk) (fault : Fault) → fault ≡ faults.Memory → GivesSize chunks (Err fault)
size_of_memory chunks fault is = subst (λ (f : Fault). GivesSize chunks (Err f)) (sym is) tt

pub appended : (old new found items : List Numbered) (r : Result ⊤ Fault) → found ≡ items → OnOk r (new ≡ old ++ found) → IfErr r (λ fault. fault ≡ faults.Memory) → GivesItems old new items r
appended old new found items (Ok u) same ok err = ok ∙ ap (λ (l : List Numbered). old ++ l) same
appended old new found items (Err fault) same ok err = none_of_memory items fault err
