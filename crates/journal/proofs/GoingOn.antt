-- Who may go on behind the opening log: whoever has begun in a legal life, and its losers.
use Rattle.std.proofs.Common.{◌≡◌, ℕ, ◌<◌, List, Bool, true, false, nat_lt, inl, inr, refl, ap, arith}
use Rattle.std.specs.Prelude.{◌||◌}
use Rattle.std.proofs.lemmas.Bool.Decides.{nat_tests}
use Rattle.log_index.specs.GoingOn.{may_go_on}
use Rattle.log_laws.proofs.Serial.{after_legal}
use Rattle.wal_record.specs.Chains.{greatest}
use Rattle.wal_record.specs.History.{Live, phase}
use Rattle.wal_record.specs.Legal.{IsLegal, MayUndo}
use Rattle.wal_record.specs.OpenWrites.{is_loser}
use Rattle.wal_record.specs.Sound.{AreLawful}
use Rattle.wal_record.specs.declared.record.Record.{Record}
use Rattle.wal_record.specs.declared.entry.Entry.{Entry}

is_below : (m n : ℕ) → m < n → nat_lt m n ≡ true
is_below m n below = grind (arith, nat_tests)

either : (a b : Bool) → b ≡ true → (a || b) ≡ true
either true b e = refl
either false b e = e

pub new_goes_on : (opening : List Record) (t : ℕ) → greatest opening < t → may_go_on opening t ≡ true
new_goes_on opening t above = ap (λ (b : Bool). b || is_loser opening t) (is_below (greatest opening) t above)

pub live_goes_on : (opening : List Record) (h : List Entry) → AreLawful opening → IsLegal opening h → (t : ℕ) → phase h t ≡ Live → may_go_on opening t ≡ true
live_goes_on opening h sound legal t live = new_goes_on opening t ((after_legal opening sound h legal).0.new t live)

pub undo_goes_on : (opening : List Record) (h : List Entry) → AreLawful opening → IsLegal opening h → (t : ℕ) → MayUndo opening h t → may_go_on opening t ≡ true
undo_goes_on opening h sound legal t (inl live) = live_goes_on opening h sound legal t live
undo_goes_on opening h sound legal t (inr loser) = either (nat_lt (greatest opening) t) (is_loser opening t) loser
