-- A listing that goes on by the records of a block.
use Rattle.std.proofs.Common.{◌≡◌, ℕ, ◌+◌, ◌<◌, ◌≤◌, ◌^◌, List, [], ◌∷◌, ◌++◌, length, refl, sym, ◌∙◌, ap, subst, arith, append_assoc, append-nil, length-append}
use Rattle.wal_record.specs.Sound.{IsLawful, AreLawful}
use Rattle.wal_record.specs.declared.record.Checkpoint.{Checkpoint}
use Rattle.wal_record.specs.declared.record.Record.{Record}
use Rattle.wal_record.specs.declared.record.Record.TheVariants as kinds
use Rattle.wal_record.proofs.Along.{AllAlong_less}
use Rattle.listing_laws.specs.Summary.{last_in}
use Rattle.log_index.specs.Listing.{IsListingOf, noted}
use Rattle.log_index.specs.Table.{noted_step}
use Rattle.log_index.specs.declared.listing.Listing.{Listing}
use Rattle.log_analysis.specs.Taken.{GoesOnWith, IsListed, ListsMore}
use Rattle.log_analysis.proofs.Going.{knows_checkpoint, knows_more}

-- no record
pub lists_none : (checkpoint first : ℕ) (s : Listing) → ListsMore checkpoint first [] s s
lists_none checkpoint first s log lawful is short listed = subst (λ (l : List Record). IsListed checkpoint l s) (sym (append-nil log)) listed

-- records, and then one more
pub lists_more : (checkpoint first lsn : ℕ) (front : List Record) (r : Record) (old now new : Listing) → (first + length front < 2 ^ 63 → lsn ≡ first + length front)
    → ListsMore checkpoint first front old now → ListsMore checkpoint lsn (r ∷ []) now new → ListsMore checkpoint first (front ++ r ∷ []) old new
lists_more checkpoint first lsn front r old now new numbered a b log lawful is short listed =
    let whole = sym (append_assoc log front (r ∷ [])) in
    let all : AreLawful ((log ++ front) ++ r ∷ []) = subst AreLawful whole lawful in
    let before : AreLawful (log ++ front) = AllAlong_less IsLawful (log ++ front) (r ∷ []) all in
    let size = ap length (sym whole) ∙ length-append log (front ++ r ∷ []) in
    let short : length ((log ++ front) ++ r ∷ []) < 2 ^ 63 = omega (arith, short, ap length whole) in
    let one = length-append (log ++ front) (r ∷ []) in
    let two = length-append log front in
    let now_listed = a log before is (omega (arith, short, one)) listed in
    let at = numbered (omega (arith, short, one, two, is)) in
    subst (λ (l : List Record). IsListed checkpoint l new) (sym whole) (b (log ++ front) all (omega (arith, at, two, is)) short now_listed)

-- records, and then others behind them
pub both : (checkpoint first : ℕ) (own more : List Record) (old now new : Listing) → ListsMore checkpoint first own old now → ListsMore checkpoint (first + length own) more now new
    → ListsMore checkpoint first (own ++ more) old new
both checkpoint first own more old now new a b log lawful is short listed =
    let whole = sym (append_assoc log own more) in
    let all : AreLawful ((log ++ own) ++ more) = subst AreLawful whole lawful in
    let before : AreLawful (log ++ own) = AllAlong_less IsLawful (log ++ own) more all in
    let size = ap length whole in
    let one = length-append (log ++ own) more in
    let two = length-append log own in
    let now_listed = a log before is (omega (arith, short, size, one)) listed in
    subst (λ (l : List Record). IsListed checkpoint l new) (sym whole) (b (log ++ own) all (omega (arith, two, is)) (omega (arith, short, size)) now_listed)

-- the whole log
pub from_checkpoint : (checkpoint : ℕ) (before own : List Record) (old new : Listing) → AreLawful (before ++ own) → length (before ++ own) < 2 ^ 63 → length before < checkpoint → checkpoint ≤ length (before ++ own)
    → ListsMore checkpoint (length before + 1) own old new → GoesOnWith (before ++ own) new
from_checkpoint checkpoint before own old new lawful short lt le more = more before lawful refl short (λ none. absurd (omega (arith, lt, none))) le

pub from_start : (own : List Record) (old new : Listing) → AreLawful own → length own < 2 ^ 63 → GoesOnWith [] old → ListsMore 0 1 own old new → GoesOnWith own new
from_start own old new lawful short none more = more [] lawful (omega arith) short (λ _. none) (omega arith)

module _ (checkpoint lsn : ℕ) (r : Record) (old new : Listing) where
  -- one before the Checkpoint
  pub passed_over : lsn < checkpoint → ListsMore checkpoint lsn (r ∷ []) old new
  passed_over lt log lawful is short listed le = absurd (omega (arith, lt, is, le, length-append log (r ∷ [])))

  -- one behind it
  pub noted_behind : checkpoint < lsn → ((log : List Record) → IsListingOf log old → AreLawful (log ++ r ∷ []) → lsn ≡ length log + 1 → length log < 2 ^ 63 → IsListingOf (log ++ r ∷ []) new) → ((q : ℕ) → noted new q ≡ noted_step lsn q (noted old q) r)
      → ListsMore checkpoint lsn (r ∷ []) old new
  noted_behind lt more step log lawful is short listed le =
      let now = listed (omega (arith, lt, is)) in
      (more log now.0 lawful is (omega (arith, short, length-append log (r ∷ []))), knows_more log r lsn old new now.1 step is)

-- the Checkpoint itself
pub begun : (checkpoint lsn : ℕ) (r : Record) (c : Checkpoint) (old new : Listing) → r ≡ kinds.Checkpoint c
    → ((before : List Record) → AreLawful (before ++ kinds.Checkpoint c ∷ []) → lsn ≡ length before + 1 → IsListingOf (before ++ kinds.Checkpoint c ∷ []) new) → ((q : ℕ) → noted new q ≡ last_in q c.transactions) → ListsMore checkpoint lsn (r ∷ []) old new
begun checkpoint lsn r c old new is_c made told log lawful is short listed le =
    let whole : log ++ r ∷ [] ≡ log ++ kinds.Checkpoint c ∷ [] = ap (λ (x : Record). log ++ x ∷ []) is_c in
    let now = subst AreLawful whole lawful in
    subst (λ (l : List Record). GoesOnWith l new) (sym whole) (made log now is, knows_checkpoint log c new now told)
