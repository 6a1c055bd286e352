-- Who stands in the way of a lock.
use Rattle.std.proofs.Common.{◌≡◌, ◌≢◌, ℕ, List, Option, Some, None, Bool, true, false, refl, sym, ap, ◌∙◌, inl, inr}
use Rattle.std.specs.Prelude.{◌↔◌, ◌&&◌, ◌||◌}
use Rattle.std.specs.List.{find, list_any}
use Rattle.store_model.proofs.Bools.{false_unless, not_both}
use Rattle.wal_record.specs.History.{Phase, Live, is_live, life_log, phase}
use Rattle.wal_record.specs.Legal.{IsLegal, MayLock, MayRefuse, untold}
use Rattle.wal_record.specs.Locks.{Held, blocks, conflict, locks, taken_locks}
use Rattle.wal_record.specs.OpenWrites.{is_loser, losers}
use Rattle.wal_record.specs.Sound.{AreLawful}
use Rattle.wal_record.specs.declared.entry.Entry.{Entry}
use Rattle.wal_record.specs.declared.record.Record.{Record}
use Rattle.log_laws.proofs.Holders.{holders}
use Rattle.loser_laws.specs.Losers.{has_open_in}
use Rattle.loser_laws.proofs.Least.{least}
use Rattle.loser_laws.proofs.Ways.{ways}
use Rattle.lock_judge.specs.Taken.{IsFirstInWay, NoneInWay}
use Rattle.judge_laws.specs.Locks.{LockLaw, RefuseLaw}
use Rattle.judge_laws.proofs.Owners.{own}

left_false : (a b : Bool) → (a || b) ≡ false → a ≡ false
left_false true b e = absurd (cc e)
left_false false b e = refl

right_false : (a b : Bool) → (a || b) ≡ false → b ≡ false
right_false true b e = absurd (cc e)
right_false false b e = e

none_of : (l p : Bool) → (l ≡ true → p ≡ false) → (l && p) ≡ false
none_of true p h = h refl
none_of false p h = refl

module _ (opening : List Record) (h : List Entry) (sound : AreLawful opening) (legal : IsLegal opening h) (tx : ℕ) (lock : Held) (live : phase h tx ≡ Live) where
  abbrev meets : ℕ → Bool
  meets = has_open_in lock.range (life_log opening h)

  told_of : (t : ℕ) → list_any (conflict lock) (locks opening h t) ≡ (list_any (conflict lock) (taken_locks h t) || (is_loser opening t && meets t))
  told_of = (ways opening h).conflicts lock

  free : NoneInWay h tx lock → find meets (losers opening) ≡ None → (o : ℕ) → o ≢ tx → list_any (conflict lock) (locks opening h o) ≡ false
  free taken none o apart =
      told_of o ∙ (λ i. taken o apart i || none_of (is_loser opening o) (meets o) ((least opening meets).none sound none o) i)

  not_taken : ((o : ℕ) → o ≢ tx → list_any (conflict lock) (locks opening h o) ≡ false) → NoneInWay h tx lock
  not_taken all o apart = left_false (list_any (conflict lock) (taken_locks h o)) (is_loser opening o && meets o) (sym (told_of o) ∙ all o apart)

  not_met : ((o : ℕ) → o ≢ tx → list_any (conflict lock) (locks opening h o) ≡ false) → find meets (losers opening) ≡ None
  not_met all = by (find meets (losers opening)) refl
    where
      no_live : (t : ℕ) → is_loser opening t ≡ true → t ≢ tx
      no_live t is = λ same. not_both (is_loser opening t) is ((ways opening h).live sound legal t (ap (phase h) same ∙ live))

      by : (o : Option ℕ) → find meets (losers opening) ≡ o → o ≡ None
      by None is = refl
      by (Some t) is =
          let found = (least opening meets).some t is in
          let rest = right_false (list_any (conflict lock) (taken_locks h t)) (is_loser opening t && meets t) (sym (told_of t) ∙ all t (no_live t found.0)) in
          let both : (is_loser opening t && meets t) ≡ true = λ i. found.0 i && found.1 i in
          absurd (not_both (is_loser opening t && meets t) both rest)

  pub may_lock : untold h ≡ None → (NoneInWay h tx lock × (find meets (losers opening) ≡ None)) ↔ MayLock opening h tx lock
  may_lock told = (
    λ p. record { told = told; live = live; free = free p.0 p.1 },
    λ m. (not_taken m.free, not_met m.free),
  )

  live_is : (p : Phase) → p ≡ Live → is_live p ≡ true
  live_is p e = ap is_live e

  -- who blocks a lock took one in conflict
  blocks_is : (t : ℕ) → blocks opening h lock t ≡ list_any (conflict lock) (taken_locks h t)
  blocks_is t = by (is_live (phase h t)) refl
    where
      is : (p : Phase) → is_live p ≡ true → p ≡ Live
      is Live e = refl
      is _ e = absurd (cc e)

      by : (c : Bool) → is_live (phase h t) ≡ c → blocks opening h lock t ≡ list_any (conflict lock) (taken_locks h t)
      by true e =
          ap (λ (b : Bool). b && list_any (conflict lock) (locks opening h t)) e
          ∙ ap (list_any (conflict lock)) ((own opening h).live sound legal t (is (phase h t) e))
      by false e =
          ap (λ (b : Bool). b && list_any (conflict lock) (locks opening h t)) e
          ∙ sym (false_unless (list_any (conflict lock) (taken_locks h t)) (λ took.
          let holds : list_any (conflict lock) (locks opening h t) ≡ true = told_of t ∙ ap (λ (b : Bool). b || (is_loser opening t && meets t)) took in
          elim ((holders opening h).holder legal t (conflict lock) holds) [
            | inl lives ↦ not_both (is_live (phase h t)) (ap is_live lives) e
            | inr loser ↦ (let none : list_any (conflict lock) (taken_locks h t) ≡ false = ap (list_any (conflict lock)) ((ways opening h).untaken sound legal t loser) in not_both _ took none)
          ]))

  pub may_refuse : untold h ≡ None → (holder : ℕ) → IsFirstInWay h tx lock holder ↔ MayRefuse opening h tx lock holder
  may_refuse told holder = (
    λ f. record { told = told; live = live; other = f.other; holds = blocks_is holder ∙ f.conflicts; least = λ o apart low. blocks_is o ∙ f.least o apart low },
    λ m. record { other = m.other; conflicts = sym (blocks_is holder) ∙ m.holds; least = λ o apart low. sym (blocks_is o) ∙ m.least o apart low },
  )

pub locking : (opening : List Record) (h : List Entry) → LockLaw opening h
locking opening h = record { may = λ sound legal told tx lock live. may_lock opening h sound legal tx lock live told }

pub refusing : (opening : List Record) (h : List Entry) → RefuseLaw opening h
refusing opening h = record { may = λ sound legal told tx lock live holder. may_refuse opening h sound legal tx lock live told holder }
