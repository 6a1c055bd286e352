-- What a page that is brought makes of frames and rights, and what bringing it enters.
use Rattle.std.proofs.Common.{◌≡◌, ℕ, ◌≤◌, List, [], ◌∷◌, Option, Some, None, Bool, true, refl, sym, ap, subst, ◌∙◌, arith, inl, inr}
use Rattle.std.specs.Prelude.{IfNone, IfOk, IfSome, Result, Ok, Err, length, is_some, not}
use Rattle.std.specs.List.{list_all}
use Rattle.std.proofs.lemmas.Bool.{cases_eq}
use mathlib.Core.List.{IsPrefix}
use Rattle.books.specs.Rights.{PageClaim}
use Rattle.front.specs.Seen.{PassSeen}
use Rattle.front.proofs.Keeping.{prefix_trans}
use Rattle.media.specs.Cause.{Rose}
use Rattle.store_model.specs.declared.fault.Fault.{Fault}
use Rattle.wal_record.specs.declared.record.Record.{Record}
use Rattle.wal_record.specs.declared.entry.Entry.{Entry}
use Rattle.page_image.specs.declared.sealed.Sealed.{Sealed}
use Rattle.page_ops.specs.Gains.{Gains}
use Rattle.page_ops.specs.Hands.{Hand}
use Rattle.page_ops.specs.Names.{LedgerName}
use Rattle.page_ops.specs.Outcomes.{IsListed}
use Rattle.page_ops.specs.Seeing.{Known, Upholds}
use Rattle.page_ops.specs.declared.outcome.Listed.{Listed}
use Rattle.page_ops.proofs.Gaining.{gains_of_upheld, gains_then}
use Rattle.page_repair.specs.Supplies.{is_restored}
use Rattle.buffer_pool.specs.Bases.{IsBaseAmong, IsGiven, is_current}
use Rattle.buffer_pool.specs.Brings.{Brings, BringsInHand, IsLookedFor, WasWritten}
use Rattle.buffer_pool.specs.Repairs.{Repairs}
use Rattle.buffer_pool.specs.Tables.{Calls, HasFrame, Moves, PutsIn, Stays, Table, frame_of, is_full, right_of}
use Rattle.buffer_pool.specs.declared.frame.Frame.TheVariants.{Full}
use Rattle.buffer_pool.proofs.Entering.{upheld_both}
use Rattle.buffer_pool.proofs.Serving.{given_later}

-- ---- frames and rights

-- what became what it was stays
pub stays_as : (page : ℕ) (t t' : Table) → Moves page (frame_of t page) (right_of t page) t t' → Stays t t'
stays_as page t t' m = record {
  limit = m.becomes.limit;
  frames = λ q. elim (cases_eq q page) [
    | inl e ↦ ap (frame_of t') e ∙ m.becomes.frame ∙ ap (frame_of t) (sym e)
    | inr d ↦ m.becomes.frames q d
  ];
  rights = λ q. elim (cases_eq q page) [
    | inl e ↦ ap (right_of t') e ∙ m.becomes.right ∙ ap (right_of t) (sym e)
    | inr d ↦ m.becomes.rights q d
  ];
}

-- a page whose right was called out
module _ (page : ℕ) (right : PageClaim) (t t1 t2 : Table) (called : Calls page t t1 (Some right)) (whose : right.page ≡ page) (inside : HasFrame t1 page) where
  -- it comes into its frame
  pub comes_in : (h : Hand) → h.page ≡ page → PutsIn h t1 t2 → Moves page (Full h) None t t2
  comes_in h is puts =
      let put = subst (λ (p : ℕ). Moves p (Full h) (right_of t1 p) t1 t2) is (puts.there (subst (HasFrame t1) (sym is) inside)) in
      let m = called.2 in
      record {
        becomes = record {
          limit = put.becomes.limit ∙ m.becomes.limit;
          frame = put.becomes.frame;
          right = put.becomes.right ∙ m.becomes.right;
          frames = λ q d. put.becomes.frames q d ∙ m.becomes.frames q d;
          rights = λ q d. put.becomes.rights q d ∙ m.becomes.rights q d;
        };
        written = λ q. put.written q ∙ m.written q;
      }

-- ---- what was looked at

module _ (opens : List Record → Type 0) where
  -- as the page was listed
  pub was_written : (before at now : List Entry) (page : ℕ) (x : Listed) → IsPrefix before at → IsPrefix at now → IsListed opens at page x → WasWritten opens before now page x.ends.written
  was_written before at now page x begins goes_on is = record {
    moment = at;
    begins = begins;
    goes_on = goes_on;
    is = λ opening stands. ap (λ (e : _). e.written) (is.ends opening stands);
  }

  -- what the device gave is so at the end of the call
  pub looked_for : (page lsn faults read_from faults_now written : ℕ) (old : Known) (listed seen : PassSeen Entry) (new : Known) (bytes : Option (List ℕ)) (base : Option Sealed) → faults ≤ read_from
      → WasWritten opens old.log listed.log page written → IsPrefix listed.log seen.log → IsPrefix seen.log new.log → seen.durable ≤ new.durable → IfSome bytes (IsGiven opens seen page) → IfNone bytes (Rose read_from faults_now)
      → IsBaseAmong page written lsn bytes base → IsLookedFor opens page lsn faults faults_now old new base
  looked_for page lsn faults read_from faults_now written old listed seen new bytes base before last next later durable given failed serves = record {
    bytes = bytes;
    given = given_later opens seen (record { log = new.log; durable = new.durable }) page bytes later durable given;
    failed = rose bytes failed;
    written = written;
    last = record { moment = last.moment; begins = last.begins; goes_on = prefix_trans _ _ _ last.goes_on (prefix_trans _ _ _ next later); is = last.is };
    serves = serves;
  }
    where
      rose : (o : Option (List ℕ)) → IfNone o (Rose read_from faults_now) → IfNone o (Rose faults faults_now)
      rose None r = omega (arith, before, r)
      rose (Some b) r = tt

-- ---- what is entered

module _ (opens : List Record → Type 0) (ledger sessions : LedgerName) where
  none_counted : (es : List Entry) → length es ≡ 0 → es ≡ []
  none_counted [] is = refl
  none_counted (e ∷ es) is = absurd (omega (arith, is))

  -- a call that enters nothing of its own enters nothing of any kind
  pub upheld_none : (k k' : Entry → Bool) (a b : Known) → Upholds opens ledger sessions k a b → Gains opens ledger sessions [] a b → Upholds opens ledger sessions k' a b
  upheld_none k k' a b u g =
      let none : u.own ≡ [] = none_counted u.own (let m = u.counted in let n = g.counted in omega (arith, m, n)) in
      record {
        gained = u.gained;
        is = u.is;
        own = u.own;
        among = u.among;
        kinds = ap (list_all k') none;
        consistent = u.consistent;
        durable = u.durable;
        keeps = u.keeps;
        counted = u.counted;
        sessions_counted = u.sessions_counted;
        totals = u.totals;
      }

  -- a page that was restored and looked for, and then rebuilt
  module _ (page lsn faults faults_now : ℕ) (base : Option Sealed) (first old new : Known) (u : Upholds opens ledger sessions is_restored first old) (k : Entry → Bool) (v : Upholds opens ledger sessions k old new) where
    pub brings_in_hand : (r : Result Hand Fault) → IsLookedFor opens page lsn faults faults_now first new base → IfOk r (λ h. (h.page ≡ page) × (h.lsn ≡ lsn) × (h.dirty ≡ not (is_current lsn base))) → Repairs opens ledger sessions page (is_some base) r old new
        → BringsInHand opens ledger sessions page lsn faults faults_now r first new
    brings_in_hand (Ok h) looked (whose, place, dirty) repairs = record {
      whose = whose;
      place = place;
      base = base;
      looked = looked;
      dirty = dirty;
      enters = record {
        restored = u.own;
        kinds = u.kinds;
        repair = repairs.own;
        is = repairs.is;
        gains = gains_then opens ledger sessions u.own repairs.own first old new (gains_of_upheld is_restored opens ledger sessions first old u) repairs.gains;
      };
    }
    brings_in_hand (Err f) looked is repairs =
        upheld_both opens ledger sessions is_restored first old new u (upheld_none k is_restored old new v (subst (λ (es : List Entry). Gains opens ledger sessions es old new) repairs.is repairs.gains))

-- the page was there, or wasn't
module _ (opens : List Record → Type 0) (ledger sessions : LedgerName) (page faults faults_now : ℕ) (t t1 t2 : Table) (old new : Known) where
  pub brings_there : (x : Unit {0}) → Calls page t t1 None → is_full (frame_of t1 page) ≡ true → Gains opens ledger sessions [] old new → Brings opens ledger sessions page faults faults_now (Ok x) t t1 old new
  brings_there x called full gains = inl (record { there = ap is_full (sym called.1.becomes.frame) ∙ full; same = stays_as page t t1 called.1; gains = gains })

  pub brings_here : (x : Unit {0}) (right : PageClaim) (lsn : ℕ) (h : Hand) → lsn ≡ right.lsn → Calls page t t1 (Some right) → right.page ≡ page → HasFrame t1 page → PutsIn h t1 t2 → BringsInHand opens ledger sessions page lsn faults faults_now (Ok h) old new
      → Brings opens ledger sessions page faults faults_now (Ok x) t t2 old new
  brings_here x right lsn h is called whose inside puts brought = inr (record {
    lsn = lsn;
    was = called.0;
    home = called.1 ∙ (λ i. Some (record { page = whose i; lsn = sym is i }));
    hand = h;
    brought = brought;
    now = comes_in page right t t1 t2 called whose inside h brought.whose puts;
  })
