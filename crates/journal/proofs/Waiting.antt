-- What the listing and the table of losers tell of a lock.
use Rattle.std.proofs.Common.{◌≡◌, ℕ, List, Option, Some, None, sym, subst}
use Rattle.std.specs.Prelude.{◌⊎◌}
use Rattle.log_index.specs.Listing.{IsListingOf}
use Rattle.log_index.specs.declared.listing.Listing.{Listing}
use Rattle.log_manager.specs.Managed.{Managed}
use Rattle.loser_laws.specs.Losers.{AreLosers}
use Rattle.losers.specs.declared.losers.LoserState.{LoserState}
use Rattle.media.specs.Kept.{Kept}
use Rattle.page_ops.specs.Outcomes.{IsLeastLoser}
use Rattle.page_ops.specs.Seeing.{IsConsistent}
use Rattle.range_lock.specs.Lock.{Lock}
use Rattle.range_lock.specs.declared.range_locks.RangeLocks.{RangeLocks}
use Rattle.wal_record.specs.History.{life_log}
use Rattle.wal_record.specs.Legal.{held}
use Rattle.wal_record.specs.Sound.{AreLawful}
use Rattle.wal_record.specs.declared.entry.Entry.{Entry}
use Rattle.wal_record.specs.declared.record.Record.{Record}
use Rattle.journal.specs.Kept.{AreRecords}
use Rattle.journal.specs.Locks.{AreHeld, IsBarred, IsFree, first_in}
use Rattle.journal.specs.Losers.{HasLosers}
use Rattle.journal.proofs.Locking.{NoneInWay, none_in_way, opening_lawful, waits_for}

-- what the call found of the losers that the journal keeps, at a history that it looked at
module _ {D : Type 0} {tells : Type 0} {told : D → Kept} {may_leave : D → Kept → Type 0} (opens : List Record → Type 0) (h g : List Entry) (t : RangeLocks) (a : Lock) (m : Managed D) (s s' : Listing) (xs ys : List LoserState) (same : h ≡ g) (c : IsConsistent opens h) (records : AreRecords opens tells told may_leave g m s)
    (losers : HasLosers opens g xs) (listed : s' ≡ s) (all : ys ≡ xs) where
  -- the same lock for the transaction that was asked
  abbrev asked : ℕ → Lock
  asked n = record { tx = n; range = a.range; mode = a.mode }

  -- the answer is so, whatever log the listing is of
  abbrev FoundFirst : Option ℕ → Type 0
  FoundFirst answer = (log : List Record) → IsListingOf log s' → AreLawful log → first_in a.range log ys ≡ answer

  lawful_here : (opening : List Record) → opens opening → AreLawful (life_log opening h)
  lawful_here opening stands = (c.sound opening stands).lawful

  listed_here : (opening : List Record) → opens opening → IsListingOf (life_log opening h) s'
  listed_here opening stands = subst (IsListingOf (life_log opening h)) (sym listed) (subst (λ (l : List Entry). IsListingOf (life_log opening l) s) (sym same) (records opening stands).listing)

  losers_here : (opening : List Record) → opens opening → AreLosers opening h ys
  losers_here opening stands = subst (AreLosers opening h) (sym all) (subst (λ (l : List Entry). AreLosers opening l xs) (sym same) (losers opening stands))

  pub none_seen : (n : ℕ) → n ≡ a.tx → IsFree t (asked n) → IsBarred t (asked n) ⊎ FoundFirst None → (opening : List Record) → opens opening → NoneInWay opening h a.range
  none_seen n is free why opening stands =
      none_in_way opening h t a s' ys (opening_lawful opens h c opening stands) (lawful_here opening stands) (listed_here opening stands) (losers_here opening stands)
      (subst (λ (m : ℕ). IsFree t (asked m)) is free) (subst (λ (m : ℕ). IsBarred t (asked m) ⊎ FoundFirst None) is why)

  pub loser_seen : AreHeld h t → (n : ℕ) → n ≡ a.tx → IsFree t (asked n) → (loser : ℕ) → FoundFirst (Some loser) → (opening : List Record) → opens opening → IsLeastLoser opening h a.tx (held a.range a.mode) loser
  loser_seen k n is free loser found opening stands =
      waits_for h t k opening a ys (opening_lawful opens h c opening stands) (c.legal opening stands) (losers_here opening stands) (subst (λ (m : ℕ). IsFree t (asked m)) is free) loser
      (found (life_log opening h) (listed_here opening stands) (lawful_here opening stands))
