-- A page that awaited redo is brought: which pages await it then, and what that adds; and a data device that is damaged.
use Rattle.std.proofs.Common.{◌≡◌, ℕ, zero, suc, ◌<◌, ◌≤◌, Bool, true, false, List, ◌++◌, Some, None, Result, Ok, Err, sym, ap, subst, ◌∙◌, arith, inl, inr}
use Rattle.std.specs.Prelude.{◌⊎◌, ◌==◌, OnOk}
use Rattle.std.proofs.lemmas.Bool.{eqb-true}
use Rattle.front.specs.Seen.{PassSeen}
use Rattle.front.proofs.Keeping.{prefix_self}
use Rattle.media.specs.Cause.{HasCause, Rose}
use Rattle.wal_record.specs.Chains.{pages}
use Rattle.wal_record.specs.History.{life_log}
use Rattle.wal_record.specs.declared.entry.Entry.{Entry}
use Rattle.wal_record.specs.declared.entry.Entry.TheVariants.{Rec, Repaired}
use Rattle.wal_record.specs.declared.record.Record.{Record}
use Rattle.wal_record.specs.declared.record.Record.TheVariants as kinds
use Rattle.log_laws.proofs.Central.{eqb_self}
use Rattle.tree_laws.proofs.Whole.{tree}
use Rattle.page_ops.specs.Claims.{no_claims}
use Rattle.page_ops.specs.Desks.{IsMade}
use Rattle.page_ops.specs.Names.{LedgerName}
use Rattle.page_ops.specs.Seeing.{Account, IsConsistent, Keeps, Looks, Upholds, is_upkeep, known}
use Rattle.page_ops.proofs.Gaining.{gains_of_upheld, keeps_then}
use Rattle.restart.specs.Plans.{Comes, IsNextAwaiting}
use Rattle.command_laws.specs.Alone.{IsAlone}
use Rattle.command_laws.specs.Commands.{IsUpkeep}
use Rattle.command_laws.proofs.Alone.{entered, still_alone}
use Rattle.command_laws.proofs.Listed.{each_by}
use Rattle.store_life.specs.Steps.{AddsUpkeep}
use Rattle.store_life.proofs.Looked.{looked_alone, looked_same}
use Rattle.store_pages.specs.Pages.{AwaitsRedo, IsNextRedone}

-- ---- which pages await redo

pub none_awaits : (plan : List Bool) → IsNextAwaiting plan 0 None → (q : ℕ) → AwaitsRedo plan q → ⊥
none_awaits plan none zero is = absurd (cc is)
none_awaits plan none (suc q) is = let two : true ≡ false = sym is ∙ none (suc q) (omega arith) in cc

module _ (page : ℕ) (plan plan' : List Bool) (comes : Comes page plan plan') where
  come : AwaitsRedo plan' page → ⊥
  come is = let two : true ≡ false = sym is ∙ comes.come in cc

  pub comes_fewer : (q : ℕ) → AwaitsRedo plan' q → AwaitsRedo plan q
  comes_fewer q is = by (q == page) (λ i. q == page)
    where
      by : (b : Bool) → (q == page) ≡ b → AwaitsRedo plan q
      by true same = absurd (come (subst (AwaitsRedo plan') (eqb-true q page same) is))
      by false other = sym (comes.others q (λ same. let two : true ≡ false = sym (ap (λ (n : ℕ). n == page) same ∙ eqb_self page) ∙ other in cc)) ∙ is

  below : IsNextAwaiting plan 0 (Some page) → (q : ℕ) → q < page → AwaitsRedo plan q → ⊥
  below next zero less is = absurd (cc is)
  below next (suc q) less is = let two : true ≡ false = sym is ∙ next.2 (suc q) (omega arith) less in cc

  pub next_redone : IsNextAwaiting plan 0 (Some page) → IsNextRedone (AwaitsRedo plan) (AwaitsRedo plan') (Some page)
  next_redone next = (next.1, come, below next, λ q not is. comes.others q not ∙ is)

-- ---- a page that is there

pub made_upto : (opens : List Record → Type 0) (h : List Entry) → IsConsistent opens h → (page count : ℕ) → 0 < page → page ≤ count → ((opening : List Record) → opens opening → count ≡ pages (life_log opening h)) → IsMade opens h page
made_upto opens h consistent page count some low all opening stands =
    let whole = tree (life_log opening h) (consistent.sound opening stands).lawful (consistent.some opening stands) in
    let is = all opening stands in
    whole.made page (omega (arith, some)) (omega (arith, low, is))

-- ---- what bringing it adds, behind a look

up_entry : (e : Entry) → is_upkeep e ≡ true → IsUpkeep e
up_entry (Rec lsn (kinds.Written w)) is = tt
up_entry (Rec lsn (kinds.Restored r)) is = tt
up_entry (Repaired page) is = tt
up_entry _ is = absurd (cc is)

module _ (opens : List Record → Type 0) (ledger sessions : LedgerName) (a a1 a2 : Account) (t t1 t2 : PassSeen Entry) (alone : IsAlone opens ledger a t.log) (looks : Looks opens ledger sessions a t a1 t1) (up : Upholds opens ledger sessions is_upkeep (known a1 t1 no_claims) (known a2 t2 no_claims)) where
  there : IsAlone opens ledger a1 t1.log
  there = looked_alone opens ledger sessions a a1 t t1 alone looks

  pub redone_upkeep : AddsUpkeep t.log t2.log
  redone_upkeep = (
    up.own,
    each_by is_upkeep IsUpkeep up_entry up.own up.kinds,
    entered opens ledger sessions t1.log up.own (known a1 t1 no_claims) (known a2 t2 no_claims) there (prefix_self t1.log) (gains_of_upheld is_upkeep opens ledger sessions (known a1 t1 no_claims) (known a2 t2 no_claims) up)
        ∙ ap (λ (l : List Entry). l ++ up.own) (looked_same opens ledger sessions a a1 t t1 alone looks),
  )

  pub redone_alone : IsAlone opens ledger a2 t2.log
  redone_alone = still_alone opens ledger sessions t1.log up.own (known a1 t1 no_claims) (known a2 t2 no_claims) there (prefix_self t1.log) (gains_of_upheld is_upkeep opens ledger sessions (known a1 t1 no_claims) (known a2 t2 no_claims) up)

  pub redone_durable : t.durable ≤ t2.durable
  redone_durable = let l = looks.durable in let m = up.durable in omega (arith, l, m)

  pub redone_keeps : Keeps a a2
  redone_keeps = keeps_then a a1 a2 looks.keeps up.keeps

-- ---- a page of the data device is spoiled, or the device fails

pub damaged : {D T E : Type 0} (tells spoiled : Type 0) (faults : D → ℕ) (old new : D) (r : Result T E) → (tells → OnOk r spoiled) → HasCause faults old new r → tells → spoiled ⊎ Rose (faults old) (faults new)
damaged tells spoiled faults old new (Ok x) ok cause t = inl (ok t)
damaged tells spoiled faults old new (Err e) ok cause t = inr cause.failed
