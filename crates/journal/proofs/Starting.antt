-- What is kept at the start: nobody holds a lock, and the log is the opening log.
use Rattle.std.proofs.Common.{◌≡◌, ℕ, ◌≤◌, ◌^◌, List, [], length, refl, sym, ap, subst, arith, append-nil}
use Rattle.std.specs.Prelude.{None, is_some}
use Rattle.listed_log.specs.Listed.{IsLogWith}
use Rattle.log_index.specs.GoingOn.{may_go_on}
use Rattle.log_index.specs.declared.listing.Listing.{Listing}
use Rattle.log_manager.specs.Managed.{Managed}
use Rattle.media.specs.Kept.{Kept}
use Rattle.range_lock.specs.Held as tables
use Rattle.range_lock.specs.Lock.{Lock, IsAmong}
use Rattle.range_lock.specs.declared.range_locks.RangeLocks.{RangeLocks}
use Rattle.store_model.specs.Along.{along}
use Rattle.wal_record.specs.History.{life_log, live_count, phase}
use Rattle.wal_record.specs.Legal.{held}
use Rattle.wal_record.specs.Locks.{Held, taken_locks}
use Rattle.wal_record.specs.declared.record.Record.{Record}
use Rattle.wal_record.specs.declared.entry.Entry.{Entry}
use Rattle.journal.specs.Kept.{IsKept, IsTold}
use Rattle.journal.specs.Locks.{AreHeld, AreAcknowledged}

nothing_taken : (t : ℕ) → taken_locks [] t ≡ []
unfolding taken_locks along
nothing_taken t = refl

none_held : (t : RangeLocks) → tables.held t ≡ [] → AreHeld [] t
none_held t none l = (λ has. absurd (subst (λ (ls : List Lock). IsAmong l ls) none has), λ has. absurd (subst (λ (ls : List Held). IsAmong (held l.range l.mode) ls) (nothing_taken l.tx) has))

nothing_live : live_count [] ≡ 0
nothing_live = refl

nothing_waits : AreAcknowledged []
unfolding phase along
nothing_waits t e = absurd (cc e)

pub kept_start : {D : Type 0} (opens : List Record → Type 0) (tells : Type 0) (told : D → Kept) (may_leave : D → Kept → Type 0) (h : List Entry) (m : Managed D) (s : Listing) (t : RangeLocks) (faults : ℕ)
    → h ≡ [] → m.log.ended ≡ None → faults ≡ 0 → ((opening : List Record) → opens opening → length opening ≤ 2 ^ 62) → ((opening : List Record) → opens opening → IsLogWith tells told may_leave (may_go_on opening) opening m s) → tables.held t ≡ [] → IsTold opens tells → IsKept opens tells told may_leave h m s t 0 faults
kept_start opens tells told may_leave h m s t faults begins goes fresh few records none telling =
    let same : (opening : List Record) → life_log opening [] ≡ opening = λ opening. append-nil opening in
    subst (λ (l : List Entry). IsKept opens tells told may_leave l m s t 0 faults) (sym begins)
    (record {
      life = record {
        records = λ opening stands. subst (λ (l : List Record). IsLogWith tells told may_leave (may_go_on opening) l m s) (sym (same opening)) (records opening stands);
        locks = none_held t none;
        telling = telling;
        places = record { commits = omega arith; numbers = λ opening stands. let f = few opening stands in omega (arith, f, ap (λ (l : List Record). length l) (same opening)) };
        durable = λ opening stands tell. omega arith;
      };
      ends = record {
        acknowledged = λ _. nothing_waits;
        none = λ _. fresh;
        one = λ over. absurd (cc (over, ap is_some goes));
      };
    })
