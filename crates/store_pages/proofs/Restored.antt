-- A segment is restored: what that adds, and what stays restored.
use Rattle.std.proofs.Common.{◌≡◌, ◌≤◌, ℕ, List, [], ◌∷◌, ◌++◌, Option, Some, None, ap, subst, sym, ◌∙◌, append_assoc, append-nil, refl, arith}
use Rattle.std.specs.Prelude.{IfNone, false, is_some}
use Rattle.std.specs.List.{All}
use Rattle.std.proofs.lemmas.List.Elements.{All-cons, All-head, All-nil, All-tail}
use Rattle.front.specs.Seen.{PassSeen}
use Rattle.wal_record.specs.History.{life_log}
use Rattle.wal_record.specs.Upkeep.{unrestored, unrestored_step}
use Rattle.wal_record.specs.declared.entry.Entry.{Entry}
use Rattle.wal_record.specs.declared.entry.Entry.TheVariants as entries
use Rattle.wal_record.specs.declared.record.Record.{Record}
use Rattle.wal_record.specs.declared.record.Record.TheVariants as kinds
use Rattle.wal_record.proofs.Pushes.{log_more, unrestored_push}
use Rattle.page_ops.specs.Claims.{no_claims}
use Rattle.page_ops.specs.Names.{LedgerName}
use Rattle.page_ops.specs.Outcomes.{first_of}
use Rattle.page_ops.specs.Seeing.{Account, Keeps, Looks, Upholds, is_upkeep, known}
use Rattle.page_ops.proofs.Gaining.{keeps_then}
use Rattle.page_ops.proofs.Staying.{longer_log}
use Rattle.command_laws.specs.Alone.{IsAlone}
use Rattle.command_laws.specs.Commands.{IsUpkeep}
use Rattle.store_life.specs.Steps.{AddsUpkeep}
use Rattle.store_life.proofs.Looked.{looked_alone, looked_same}
use Rattle.store_pages.specs.Backed.{IsRunEntry, MakesUpto}
use Rattle.store_pages.specs.Pages.{AreRestored, IsWrittenEntry, WritesUpto}
use Rattle.store_pages.proofs.Redone.{redone_alone, redone_durable, redone_keeps, redone_upkeep}

-- ---- what bringing a page adds, behind two looks

module _ (opens : List Record → Type 0) (ledger sessions : LedgerName) (a a1 a2 a3 : Account) (t t1 t2 t3 : PassSeen Entry) (alone : IsAlone opens ledger a t.log)
    (first : Looks opens ledger sessions a t a1 t1) (second : Looks opens ledger sessions a1 t1 a2 t2) (up : Upholds opens ledger sessions is_upkeep (known a2 t2 no_claims) (known a3 t3 no_claims)) where
  there : IsAlone opens ledger a1 t1.log
  there = looked_alone opens ledger sessions a a1 t t1 alone first

  pub restored_upkeep : AddsUpkeep t.log t3.log
  restored_upkeep = subst (λ (l : List Entry). AddsUpkeep l t3.log) (looked_same opens ledger sessions a a1 t t1 alone first) (redone_upkeep opens ledger sessions a1 a2 a3 t1 t2 t3 there second up)

  pub restored_alone : IsAlone opens ledger a3 t3.log
  restored_alone = redone_alone opens ledger sessions a1 a2 a3 t1 t2 t3 there second up

  pub restored_durable : t.durable ≤ t3.durable
  restored_durable = let l = first.durable in let m = redone_durable opens ledger sessions a1 a2 a3 t1 t2 t3 there second up in omega (arith, l, m)

  pub restored_keeps : Keeps a a3
  restored_keeps = keeps_then a a1 a3 first.keeps (redone_keeps opens ledger sessions a1 a2 a3 t1 t2 t3 there second up)

-- ---- none is left

pub none_unrestored : (opens : List Record → Type 0) (h : List Entry) (segment : Option ℕ) → segment ≡ None → ((opening : List Record) → opens opening → segment ≡ first_of (unrestored (life_log opening h))) → AreRestored opens h
none_unrestored opens h segment none is opening stands = by (unrestored (life_log opening h)) (sym none ∙ is opening stands)
  where
    by : (ss : List ℕ) → None ≡ first_of ss → ss ≡ []
    by [] e = refl
    by (s ∷ ss) e = absurd (cc e)

pub when_none : (P : Type 0) (o : Option ℕ) → is_some o ≡ false → IfNone o P → P
when_none P (Some segment) none p = absurd (cc none)
when_none P None none p = p

-- ---- what upkeep enters loses no segment

abbrev LosesNone : Entry → Type 0
LosesNone (entries.Rec lsn (kinds.Lost l)) = ⊥
LosesNone e = Unit {0}

step_none : (opening : List Record) (h : List Entry) (e : Entry) → LosesNone e → unrestored (life_log opening h) ≡ [] → unrestored (life_log opening (h ++ e ∷ [])) ≡ []
step_none opening h (entries.Rec lsn r) none is = ap unrestored (log_more opening h lsn r) ∙ unrestored_push (life_log opening h) r ∙ ap (λ (ss : List ℕ). unrestored_step ss r) is ∙ by r none
  where
    by : (r : Record) → LosesNone (entries.Rec lsn r) → unrestored_step [] r ≡ []
    by (kinds.Lost l) none = absurd none
    by (kinds.Restored x) none = refl
    by _ none = refl
step_none opening h e none is = ap unrestored (longer_log opening h (e ∷ []) ∙ append-nil (life_log opening h)) ∙ is

still_none : (opening : List Record) (h es : List Entry) → All LosesNone es → unrestored (life_log opening h) ≡ [] → unrestored (life_log opening (h ++ es)) ≡ []
still_none opening h [] all is = ap (λ (l : List Entry). unrestored (life_log opening l)) (append-nil h) ∙ is
still_none opening h (e ∷ es) all is =
    ap (λ (l : List Entry). unrestored (life_log opening l)) (sym (append_assoc h (e ∷ []) es))
    ∙ still_none opening (h ++ e ∷ []) es (All-tail LosesNone e es all) (step_none opening h e (All-head LosesNone e es all) is)

all_to : (P : Entry → Type 0) → ((e : Entry) → P e → LosesNone e) → (es : List Entry) → All P es → All LosesNone es
all_to P f [] all = All-nil LosesNone
all_to P f (e ∷ es) all = All-cons LosesNone e es (f e (All-head P e es all)) (all_to P f es (All-tail P e es all))

upkeep_loses : (e : Entry) → IsUpkeep e → LosesNone e
upkeep_loses (entries.Rec lsn (kinds.Lost l)) is = is
upkeep_loses _ is = tt

written_loses : (e : Entry) → IsWrittenEntry e → LosesNone e
written_loses (entries.Rec lsn (kinds.Lost l)) is = is
written_loses _ is = tt

run_loses : (e : Entry) → IsRunEntry e → LosesNone e
run_loses (entries.Rec lsn (kinds.Lost l)) is = is
run_loses _ is = tt

pub restored_upkept : (opens : List Record → Type 0) (h h' : List Entry) → AddsUpkeep h h' → AreRestored opens h → AreRestored opens h'
restored_upkept opens h h' a is opening stands = ap (λ (l : List Entry). unrestored (life_log opening l)) a.2 ∙ still_none opening h a.0 (all_to IsUpkeep upkeep_loses a.0 a.1) (is opening stands)

pub restored_written : (opens : List Record → Type 0) (most : ℕ) (h h' : List Entry) → WritesUpto most h h' → AreRestored opens h → AreRestored opens h'
restored_written opens most h h' w is opening stands = ap (λ (l : List Entry). unrestored (life_log opening l)) w.3 ∙ still_none opening h w.0 (all_to IsWrittenEntry written_loses w.0 w.1) (is opening stands)

pub restored_made : (opens : List Record → Type 0) (most : ℕ) (h h' : List Entry) → MakesUpto most h h' → AreRestored opens h → AreRestored opens h'
restored_made opens most h h' m is opening stands = ap (λ (l : List Entry). unrestored (life_log opening l)) m.3 ∙ still_none opening h m.0 (all_to IsRunEntry run_loses m.0 m.1) (is opening stands)
