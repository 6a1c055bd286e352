-- What the journal's listing tells, as the traits ask it; the record of a transaction's last open write.
use Rattle.std.proofs.Common.{◌≡◌, ℕ, suc, ◌+◌, ◌≤◌, List, [], ◌∷◌, length, Option, Some, None, refl, sym, ap, ◌∙◌, subst, arith}
use Rattle.std.specs.Prelude.{◌-◌, ◌==◌, filter, slice_get, Result, Ok, IfOk}
use Rattle.std.specs.List.{list_any}
use Rattle.std.specs.Option.{option_map_or}
use Rattle.front.specs.Seen.{PassSeen}
use Rattle.page_ops.specs.Outcomes.{IsFound, IsListed, IsSurvey, IsWork, first_of, is_repaired, is_undo, losers_left}
use Rattle.page_ops.specs.declared.outcome.Found.{Found}
use Rattle.page_ops.specs.declared.outcome.Found.TheVariants as founds
use Rattle.page_ops.specs.declared.outcome.Listed.{Listed}
use Rattle.page_ops.specs.declared.outcome.Survey.{Survey}
use Rattle.page_ops.specs.declared.outcome.Work.{Work}
use Rattle.store_model.specs.declared.fault.Fault.{Fault}
use Rattle.store_model.specs.Lists.{last_of}
use Rattle.log_laws.specs.Places.{AllPlaced}
use Rattle.log_laws.proofs.Places.{places}
use Rattle.wal_record.specs.Chains.{record_with}
use Rattle.wal_record.specs.Checkpoints.{analysis_of, last_open, page_head}
use Rattle.wal_record.specs.History.{life_log, log_of}
use Rattle.wal_record.specs.OpenWrites.{open_list, open_writes}
use Rattle.wal_record.specs.Rules.{HasSpelling}
use Rattle.wal_record.specs.Upkeep.{archived, lost_pages, segment_of, standing_runs, unrestored}
use Rattle.wal_record.specs.declared.entry.Entry.{Entry}
use Rattle.wal_record.specs.declared.record.OpenWrite.{OpenWrite}
use Rattle.wal_record.specs.declared.record.Record.{Record}

last_more : {A : Type 0} (x y : A) (ys : List A) → last_of (x ∷ y ∷ ys) ≡ last_of (y ∷ ys)
last_more x y ys =
    let one : suc (suc (length ys)) - 1 ≡ suc (length ys) = omega arith in
    let two : suc (length ys) - 1 ≡ length ys = omega arith in
    ap (slice_get (x ∷ y ∷ ys)) one ∙ ap (slice_get (y ∷ ys)) (sym two)

open_more : (w v : OpenWrite) (ws : List OpenWrite) → last_open (w ∷ v ∷ ws) ≡ last_open (v ∷ ws)
open_more w v ws = ap (λ (o : Option OpenWrite). option_map_or (λ (x : OpenWrite). x.lsn) o 0) (last_more w v ws)

none_placed : (log : List Record) (ws : List OpenWrite) (rs : List Record) → AllPlaced log ws rs → 0 ≡ last_open ws → None ≡ last_of rs
none_placed log [] [] p none = refl
none_placed log (w ∷ []) (r ∷ []) p none = absurd (cc (sym p.0 ∙ ap (record_with log) (sym none)))
none_placed log (w ∷ v ∷ ws) (r ∷ q ∷ rs) p none = none_placed log (v ∷ ws) (q ∷ rs) p.2 (none ∙ open_more w v ws) ∙ sym (last_more r q rs)
none_placed log [] (r ∷ rs) p none = absurd p
none_placed log (w ∷ ws) [] p none = absurd p
none_placed log (w ∷ []) (r ∷ q ∷ rs) p none = absurd p.2
none_placed log (w ∷ v ∷ ws) (r ∷ []) p none = absurd p.2

some_placed : (log : List Record) (ws : List OpenWrite) (rs : List Record) (x : Record) → AllPlaced log ws rs → record_with log (last_open ws) ≡ Some x → Some x ≡ last_of rs
some_placed log [] [] x p found = absurd (cc found)
some_placed log (w ∷ []) (r ∷ []) x p found = sym found ∙ p.0
some_placed log (w ∷ v ∷ ws) (r ∷ q ∷ rs) x p found = some_placed log (v ∷ ws) (q ∷ rs) x p.2 (ap (record_with log) (sym (open_more w v ws)) ∙ found) ∙ sym (last_more r q rs)
some_placed log [] (r ∷ rs) x p found = absurd p
some_placed log (w ∷ ws) [] x p found = absurd p
some_placed log (w ∷ []) (r ∷ q ∷ rs) x p found = absurd p.2
some_placed log (w ∷ v ∷ ws) (r ∷ []) x p found = absurd p.2

-- it has none
pub none_open : (log : List Record) (tx lsn : ℕ) → lsn ≡ last_open (open_list log tx) → lsn ≡ 0 → None ≡ last_of (open_writes log tx)
none_open log tx lsn is none = none_placed log (open_list log tx) (open_writes log tx) (places log tx).placed (sym none ∙ is)

-- it is the record with its LSN
pub last_is : (log : List Record) (tx lsn : ℕ) (x : Record) → lsn ≡ last_open (open_list log tx) → record_with log lsn ≡ Some x → Some x ≡ last_of (open_writes log tx)
last_is log tx lsn x is found = some_placed log (open_list log tx) (open_writes log tx) x (places log tx).placed (ap (record_with log) (sym is) ∙ found)

pub first_is : (ss : List ℕ) (o : Option ℕ) → o ≡ slice_get ss 0 → o ≡ first_of ss
first_is [] o is = is
first_is (s ∷ ss) o is = is

-- ---- what is told

module _ (opens : List Record → Type 0) (seen : PassSeen Entry) (h : List Entry) (same : seen.log ≡ h) where
  pub listed_is : (page segment : ℕ) (x : Listed) → ((opening : List Record) → opens opening → x.ends ≡ page_head (life_log opening h) page) → ((opening : List Record) → opens opening → x.unrestored ≡ list_any (λ s. s == segment) (unrestored (life_log opening h))) → segment ≡ segment_of page → ((opening : List Record) → opens opening → x.lost ≡ lost_pages (life_log opening h)) → IsListed opens seen.log page x
  listed_is page segment x ends whole is lost = subst (λ (l : List Entry). IsListed opens l page x) (sym same) (record { ends = ends; unrestored = λ opening stands. whole opening stands ∙ ap (λ (n : ℕ). list_any (λ s. s == n) (unrestored (life_log opening h))) is; lost = lost })

  pub survey_is : (x : Survey) → ((opening : List Record) → opens opening → x.analysis ≡ analysis_of (life_log opening h)) → ((opening : List Record) → opens opening → x.losers ≡ losers_left opening h) → x.undone ≡ length (filter is_undo (log_of h)) → x.repaired ≡ length (filter is_repaired h)
      → ((opening : List Record) → opens opening → x.last ≡ length (life_log opening h)) → x.first_kept ≤ x.durable + 1 → x.durable ≡ seen.durable → x.durable ≤ x.last → IsSurvey opens seen x
  survey_is x analysis losers undone repaired last kept durable most = subst (λ (l : List Entry). IsSurvey opens (record { log = l; durable = seen.durable }) x) (sym same) (record {
    analysis = analysis;
    losers = losers;
    undone = undone;
    repaired = repaired;
    last = last;
    kept = omega (arith, kept);
    durable = durable;
    most = most;
  })

  pub work_is : (x : Work) → ((opening : List Record) → opens opening → x.loser ≡ first_of (losers_left opening h)) → ((opening : List Record) → opens opening → x.segment ≡ slice_get (unrestored (life_log opening h)) 0) → ((opening : List Record) → opens opening → x.runs ≡ length (standing_runs (life_log opening h)))
      → ((opening : List Record) → opens opening → x.archived ≡ archived (standing_runs (life_log opening h))) → x.durable ≡ seen.durable → ((opening : List Record) → opens opening → x.durable ≤ length (life_log opening h)) → IsWork opens seen x
  work_is x loser segment runs archives durable most = subst (λ (l : List Entry). IsWork opens (record { log = l; durable = seen.durable }) x) (sym same) (record {
    loser = loser;
    segment = λ opening stands. first_is (unrestored (life_log opening h)) x.segment (segment opening stands);
    runs = runs;
    archived = archives;
    durable = durable;
    most = most;
  })

  -- a record that was read is the one with its LSN
  pub read_last : (tx lsn : ℕ) (x : Record) (r : Result Found Fault) → r ≡ Ok (founds.Record x) → IfOk r (IsFound opens seen.log lsn) → ((opening : List Record) → opens opening → lsn ≡ last_open (open_list (life_log opening h) tx))
      → HasSpelling x × ((opening : List Record) → opens opening → Some x ≡ last_of (open_writes (life_log opening seen.log) tx))
  read_last tx lsn x r is found at =
      let told : IsFound opens seen.log lsn (founds.Record x) = subst (λ (y : Result Found Fault). IfOk y (IsFound opens seen.log lsn)) is found in
      (told.0, λ opening stands. last_is (life_log opening seen.log) tx lsn x (at opening stands ∙ ap (λ (l : List Entry). last_open (open_list (life_log opening l) tx)) (sym same)) (told.1 opening stands))

  pub none_last : (tx lsn : ℕ) → lsn ≡ 0 → ((opening : List Record) → opens opening → lsn ≡ last_open (open_list (life_log opening h) tx)) → (opening : List Record) → opens opening → None ≡ last_of (open_writes (life_log opening seen.log) tx)
  none_last tx lsn none at opening stands = none_open (life_log opening seen.log) tx lsn (at opening stands ∙ ap (λ (l : List Entry). last_open (open_list (life_log opening l) tx)) (sym same)) none
