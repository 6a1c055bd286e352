-- The link laws: who is live, or has an open write, has no Commit and no End.
use Rattle.std.proofs.Common.{◌≡◌, ℕ, ◌<◌, Bool, false, List, [], ◌∷◌, refl, ap, ◌∙◌, arith}
use Rattle.std.specs.Prelude.{◌||◌}
use Rattle.std.specs.List.{list_any}
use Rattle.std.proofs.Math.Nat.{le-max_left, le-max_right}
use Rattle.std.proofs.lemmas.Bool.{ne_eqb}
use Rattle.std.proofs.lemmas.List.Folds.{list_any-append}
use Rattle.store_model.proofs.Bools.{false_unless, not_both}
use Rattle.wal_record.specs.Chains.{finishes, greatest, tx_of}
use Rattle.wal_record.specs.OpenWrites.{open_writes, has_items}
use Rattle.wal_record.specs.History.{log_of, life_log, Live, phase}
use Rattle.wal_record.specs.Legal.{IsLegal}
use Rattle.wal_record.specs.Sound.{AreLawful}
use Rattle.wal_record.specs.declared.record.Record.{Record}
use Rattle.wal_record.specs.declared.record.Record.TheVariants as kinds
use Rattle.wal_record.specs.declared.entry.Entry.{Entry}
use Rattle.wal_record.proofs.Along.{by_pushes}
use Rattle.wal_record.proofs.Pushes.{greatest_push}
use Rattle.log_laws.proofs.Phases.{live_law}
use Rattle.log_laws.proofs.Serial.{after_legal}
use Rattle.claim_laws.proofs.Losers.{finished_none}
use Rattle.claim_laws.proofs.Filling.{last_in}
use Rattle.foster_laws.specs.Links.{LinkLaw, OpenLaw}

-- a transaction above all that a log names has no end there
unnamed_step : (t : ℕ) (r : Record) → tx_of r < t → finishes t r ≡ false
unnamed_step t (kinds.Commit c) l = ne_eqb c.tx t (λ e. omega (arith, e, l))
unnamed_step t (kinds.End e) l = ne_eqb e.tx t (λ e. omega (arith, e, l))
unnamed_step t _ l = refl

unnamed : (t : ℕ) (log : List Record) → greatest log < t → list_any (finishes t) log ≡ false
unnamed t = by_pushes (λ (log : List Record). greatest log < t → list_any (finishes t) log ≡ false) (λ _. refl) (λ log r before l.
    let e = greatest_push log r in
    let a = le-max_left (greatest log) (tx_of r) in
    let b = le-max_right (greatest log) (tx_of r) in
    list_any-append (finishes t) log (r ∷ [])
    ∙ ap (λ (b : Bool). b || (finishes t r || false)) (before (omega (arith, e, a, l)))
    ∙ ap (λ (b : Bool). b || false) (unnamed_step t r (omega (arith, e, b, l))))

pub live_unfinished : (opening : List Record) → AreLawful opening → (h : List Entry) (t : ℕ) → IsLegal opening h → phase h t ≡ Live → list_any (finishes t) (life_log opening h) ≡ false
live_unfinished opening sound h t legal live =
    let told = (after_legal opening sound h legal).0 in
    list_any-append (finishes t) opening (log_of h)
    ∙ ap (λ (b : Bool). b || list_any (finishes t) (log_of h)) (unnamed t opening (told.new t live))
    ∙ ((live_law opening h).live sound legal t live).1

pub link_law : (opening : List Record) (h : List Entry) (t : ℕ) → LinkLaw opening h t
link_law opening h t = record { live = λ sound legal live. live_unfinished opening sound h t legal live }

pub open_law : (log : List Record) (t : ℕ) → OpenLaw log t
open_law log t = record {
  unfinished = λ lawful some. false_unless (list_any (finishes t) log) (λ f. not_both (has_items (open_writes log t)) some (ap has_items (finished_none t log lawful f)));
  last = last_in t log;
}
