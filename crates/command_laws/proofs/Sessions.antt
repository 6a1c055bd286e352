-- A session of which no entry is there.
use Rattle.std.proofs.Common.{◌≡◌, ℕ, suc, Bool, true, false, cond, List, [], Some, None, refl, sym, ap, ◌∙◌, arith}
use Rattle.wal_record.specs.Books.{belongs, session_entries}
use Rattle.wal_record.specs.History.{last_begun, session_step}
use Rattle.wal_record.specs.declared.entry.Entry.{Entry}
use Rattle.wal_record.specs.declared.entry.Entry.TheVariants.{Rec, Lock, Refused, Said, Declined, Acked, Repaired, Began}
use Rattle.store_model.specs.Along.{along}
use Rattle.wal_record.proofs.Along.{by_pushes}
use Rattle.wal_record.proofs.Pushes.{last_begun_push, session_entries_push}

none_begun : (session : ℕ) → last_begun [] session ≡ None
unfolding last_begun along
none_begun session = refl

neither : (b : Bool) (n : ℕ) → cond b (suc n) n ≡ 0 → (b ≡ false) × (n ≡ 0)
neither true n e = absurd (omega (arith, e))
neither false n e = (refl, e)

-- an entry of no session begins nothing in it
step : (h : List Entry) (session : ℕ) (e : Entry) → belongs h session e ≡ false → last_begun h session ≡ None → session_step session (last_begun h session) e ≡ None
step h session (Began other tx) apart none = ap (λ (b : Bool). cond b (Some tx) (last_begun h session)) apart ∙ none
step h session (Rec lsn r) apart none = none
step h session (Lock tx range mode) apart none = none
step h session (Refused tx range mode holder) apart none = none
step h session (Said other tx request reply) apart none = none
step h session (Declined other tx request why) apart none = none
step h session (Acked other tx) apart none = none
step h session (Repaired page) apart none = none

pub has_begun_none : (session : ℕ) (h : List Entry) → session_entries h session ≡ 0 → last_begun h session ≡ None
has_begun_none session = by_pushes (λ (h : List Entry). session_entries h session ≡ 0 → last_begun h session ≡ None) (λ e. none_begun session) (λ h e before zero.
    let parts = neither (belongs h session e) (session_entries h session) (sym (session_entries_push h e session) ∙ zero) in
    last_begun_push h e session ∙ step h session e parts.0 (before parts.1))
