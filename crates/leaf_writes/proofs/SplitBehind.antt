-- Behind a split with the change that it was made for: both halves in hand.
use Rattle.std.proofs.Common.{◌≡◌, ◌≢◌, ℕ, suc, List, [], ◌∷◌, ◌++◌, Option, Some, Bool, true, false, cond, sym, ap, subst, ◌∙◌, refl, arith, append_assoc}
use Rattle.std.specs.Prelude.{Ok, ◌<◌}
use mathlib.Core.List.{IsPrefix}
use Rattle.books.specs.Rights.{PageClaim, SessionClaim}
use Rattle.front.specs.Seen.{PassSeen}
use Rattle.wal_record.specs.State.{is_child, is_key, page_room, state_size}
use Rattle.wal_record.specs.Chains.{pages}
use Rattle.wal_record.specs.History.{life_log}
use Rattle.wal_record.specs.Images.{IsLeafOf, image, with_value}
use Rattle.wal_record.specs.Rules.{is_maybe_value}
use Rattle.wal_record.specs.Sound.{AreLawful, IsLawful}
use Rattle.wal_record.specs.declared.page.PageState.{PageState}
use Rattle.wal_record.specs.declared.record.Split.{Split}
use Rattle.wal_record.specs.declared.record.Record.{Record}
use Rattle.wal_record.specs.declared.record.Record.TheVariants as kinds
use Rattle.wal_record.specs.declared.entry.Entry.{Entry}
use Rattle.wal_record.specs.declared.entry.Entry.TheVariants.{Rec}
use Rattle.wal_record.proofs.Pushes.{lawful_front}
use Rattle.foster_laws.specs.Enters.{LeafEntered, SplitEntered}
use Rattle.foster_laws.specs.Purges.{has_tombstone}
use Rattle.foster_laws.specs.Splits.{upper_half}
use Rattle.foster_laws.proofs.Entering.{split_enters, split_inside}
use Rattle.page_halves.specs.Parts.{lower_with, split_of}
use Rattle.page_ops.specs.Claims.{Claims, AreInRange}
use Rattle.page_ops.specs.Groups.{Numbers, AreFilledFrom, filled, place_of, record_entries, said_entries}
use Rattle.page_ops.specs.Hands.{Hand, IsInHand}
use Rattle.page_ops.specs.Names.{LedgerName}
use Rattle.page_ops.specs.Outcomes.{page_of}
use Rattle.page_ops.specs.Seeing.{Account, known}
use Rattle.page_ops.specs.declared.group.Group.{Group}
use Rattle.page_ops.specs.declared.outcome.Entered.TheVariants.{At}
use Rattle.page_ops.proofs.Staying.{longer_log}
use Rattle.smo.specs.Asked.{Asked}
use Rattle.smo.specs.Settled.{claims_of}
use Rattle.smo.specs.Splits.{split_by}
use Rattle.smo.proofs.MadePages as making
use Rattle.smo.proofs.Settling.{no_record}
use Rattle.leaf_writes.specs.Changes.{goes_low, half_of, record_by, split_group_by}
use Rattle.leaf_writes.specs.Halves.{lower_written, upper_written}
use Rattle.leaf_writes.specs.declared.change.How.{How}
use Rattle.leaf_writes.proofs.AsksSplit.{from_zero, place_by}
use Rattle.leaf_writes.proofs.Halves.{lower_keeps, upper_keeps}
use Rattle.leaf_writes.proofs.EachKind.{Gives, enters_half}

pushed_some : (l : List Record) (r : Record) → l ++ r ∷ [] ≢ []
pushed_some [] r e = absurd (cc e)
pushed_some (x ∷ l) r e = absurd (cc e)

rest_filled : (made : Option ℕ) (new : ℕ) (r : Record) (rs : List Record) (x : Record) (xs : List Record) → AreFilledFrom made new (r ∷ rs) (x ∷ xs) → AreFilledFrom made new rs xs
rest_filled made new r rs x xs f = f.1

first_filled : (made : Option ℕ) (new : ℕ) (r : Record) (rs : List Record) (x : Record) (xs : List Record) → AreFilledFrom made new (r ∷ rs) (x ∷ xs) → (n : Numbers) × (n.child ≡ new) × (x ≡ filled made n r)
first_filled made new r rs x xs f = f.0

record IsFilledTwo (made : Option ℕ) (new : ℕ) (r q : Record) (xs : List Record) : Type 0 where
  first : Numbers
  second : Numbers
  first_new : first.child ≡ new
  second_new : second.child ≡ new
  is : xs ≡ filled made first r ∷ filled made second q ∷ []

filled_two : (made : Option ℕ) (new : ℕ) (r q : Record) (xs : List Record) → AreFilledFrom made new (r ∷ q ∷ []) xs → IsFilledTwo made new r q xs
filled_two made new r q [] f = absurd f
filled_two made new r q (x ∷ xs) f =
    let a = first_filled made new r (q ∷ []) x xs f in
    let b = making.filled_made made new q xs (rest_filled made new r (q ∷ []) x xs f) in
    record { first = a.0; second = b.0; first_new = a.1; second_new = b.1; is = λ i. a.2 i ∷ b.2 i }

module _ (opens : List Record → Type 0) (ledger sessions : LedgerName) (hand : Hand) (owner : Option SessionClaim) (there : IsInHand opens hand) (seen seen' : PassSeen Entry) (begins : IsPrefix hand.pass.log seen.log) (how : How) (tx : ℕ) (key : List ℕ) (new : Option (List ℕ)) (gives : Gives how new) (a a' : Account) (z : Claims) (pos : ℕ)
    (at : IsLeafOf key hand.state) (whole : has_tombstone hand.state ≡ false) (key_ok : is_key key ≡ true) (new_ok : is_maybe_value new ≡ true) (full : page_room < state_size (with_value key new hand.state))
    (asked : Asked opens ledger sessions (split_group_by how tx key new owner hand.page hand.state) (Ok (At pos)) (known a seen (claims_of hand owner)) (known a' seen' z)) where
  abbrev group : Group
  group = split_group_by how tx key new owner hand.page hand.state

  abbrev child : ℕ
  child = asked.filled.child

  pub number : is_child child ≡ true
  number = making.number opens ledger sessions hand owner there seen seen' a a' z group 0 refl pos begins asked

  abbrev two : IsFilledTwo (Some 0) child (split_by hand.page hand.state 0 0) (record_by how tx (half_of hand.page 0 key hand.state) key new) asked.now.recs
  two = filled_two (Some 0) child (split_by hand.page hand.state 0 0) (record_by how tx (half_of hand.page 0 key hand.state) key new) asked.now.recs asked.filled.recs

  abbrev x : Split
  x = split_of hand.page two.first.page_prev two.first.child hand.state

  abbrev q : Record
  q = filled (Some 0) two.second (record_by how tx (half_of hand.page 0 key hand.state) key new)

  -- the page that it is on
  abbrev place : ℕ
  place = place_of (Some 0) two.second.child (half_of hand.page 0 key hand.state)

  place_is : place ≡ cond (goes_low key hand.state) hand.page child
  place_is = place_by (goes_low key hand.state) hand.page 0 two.second.child (from_zero hand.page there.number) ∙ ap (λ (n : ℕ). cond (goes_low key hand.state) hand.page n) two.second_new

  module _ (opening : List Record) (stands : opens opening) where
    abbrev log : List Record
    log = life_log opening asked.enters.enters.moment

    log_is : life_log opening seen'.log ≡ (log ++ kinds.Split x ∷ []) ++ q ∷ []
    log_is =
        let m = asked.enters.enters.moment in
        ap (life_log opening) (asked.enters.enters.is ∙ ap (λ (rs : List Record). m ++ (record_entries asked.now.lsn rs ++ said_entries group.said)) two.is)
        ∙ longer_log opening m (Rec asked.now.lsn (kinds.Split x) ∷ Rec (suc asked.now.lsn) q ∷ said_entries group.said)
        ∙ ap (λ (rs : List Record). log ++ kinds.Split x ∷ q ∷ rs) (no_record group.said)
        ∙ sym (append_assoc log (kinds.Split x ∷ []) (q ∷ []))

    behind : AreLawful (log ++ kinds.Split x ∷ []) × IsLawful (log ++ kinds.Split x ∷ []) q
    behind = lawful_front (log ++ kinds.Split x ∷ []) q (subst AreLawful log_is (asked.enters.enters.now.consistent.sound opening stands).lawful)

    before : AreLawful log × IsLawful log (kinds.Split x)
    before = lawful_front log (kinds.Split x) behind.0

    some : log ≢ []
    some = making.some opens ledger sessions hand owner there seen seen' a a' z group 0 refl pos begins asked opening stands

    was : image log hand.page ≡ Some hand.state
    was = making.was opens ledger sessions hand owner there seen seen' a a' z group 0 refl pos begins asked opening stands

    split : SplitEntered log x hand.state
    split = (split_enters log x hand.state).entered before.0 some was before.1

    lower_split : image (log ++ kinds.Split x ∷ []) hand.page ≡ Some (lower_with child hand.state)
    lower_split = split.pages.page ∙ ap (λ (n : ℕ). Some (lower_with n hand.state)) two.first_new

    upper_split : image (log ++ kinds.Split x ∷ []) child ≡ Some (upper_half hand.state)
    upper_split = ap (image (log ++ kinds.Split x ∷ [])) (sym two.first_new) ∙ split.pages.child

    apart : hand.page ≢ child
    apart e =
        let i = (split_inside log x hand.state before.0 some was before.1.place).1 in
        let n : two.first.child ≡ suc (pages log) = before.1.place in
        let m : two.first.child ≡ child = two.first_new in
        omega (arith, e, i, n, m)

    abbrev after : List Record
    after = (log ++ kinds.Split x ∷ []) ++ q ∷ []

    written : (t : PageState) → image (log ++ kinds.Split x ∷ []) place ≡ Some t → LeafEntered (log ++ kinds.Split x ∷ []) q place (with_value key new t)
    written t is = enters_half how (log ++ kinds.Split x ∷ []) t tx (half_of hand.page 0 key hand.state) key new two.second behind.0 (pushed_some log (kinds.Split x)) is behind.1 gives

    record Both (low : Bool) : Type 0 where
      lower : image after hand.page ≡ Some (cond low (with_value key new (lower_with child hand.state)) (lower_with child hand.state))
      upper : image after child ≡ Some (cond low (upper_half hand.state) (with_value key new (upper_half hand.state)))

    both_at : (low : Bool) → place ≡ cond low hand.page child → Both low
    both_at true page =
        let made = written (lower_with child hand.state) (ap (image (log ++ kinds.Split x ∷ [])) page ∙ lower_split) in
        record { lower = ap (image after) (sym page) ∙ made.is; upper = made.others child (λ e. apart (sym page ∙ sym e)) ∙ upper_split }
    both_at false page =
        let made = written (upper_half hand.state) (ap (image (log ++ kinds.Split x ∷ [])) page ∙ upper_split) in
        record { lower = made.others hand.page (λ e. apart (e ∙ page)) ∙ lower_split; upper = ap (image after) (sym page) ∙ made.is }

    lower_there : image (life_log opening seen'.log) hand.page ≡ Some (lower_written child key new hand.state)
    lower_there = ap (λ (l : List Record). image l hand.page) log_is ∙ (both_at (goes_low key hand.state) place_is).lower

    upper_there : image (life_log opening seen'.log) child ≡ Some (upper_written key new hand.state)
    upper_there = ap (λ (l : List Record). image l child) log_is ∙ (both_at (goes_low key hand.state) place_is).upper

  pub lower_in_hand : (c : PageClaim) → z.a ≡ Some c → page_of z.a ≡ page_of hand.right → AreInRange z
      → IsInHand opens (record { page = hand.page; lsn = c.lsn; state = lower_written child key new hand.state; dirty = true; right = Some c; pass = seen' })
  lower_in_hand c =
      making.kept opens ledger sessions hand owner there seen seen' a a' z group 0 refl pos begins asked (lower_written child key new hand.state) true c lower_there
      (lower_keeps hand.state there.keeps key at whole new key_ok new_ok full child number)

  pub upper_in_hand : (c : PageClaim) → z.c ≡ Some c → AreInRange z → IsInHand opens (record { page = c.page; lsn = c.lsn; state = upper_written key new hand.state; dirty = true; right = Some c; pass = seen' })
  upper_in_hand c =
      making.new_page opens ledger sessions hand owner there seen seen' a a' z group 0 refl pos begins asked (upper_written key new hand.state) c upper_there
      (upper_keeps hand.state there.keeps key at whole new key_ok new_ok full)
