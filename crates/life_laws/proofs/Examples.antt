-- A calm life, worked by hand: a transaction puts apple = 1, gets it, commits, and is acknowledged.
use Rattle.std.proofs.Common.{◌≡◌, ℕ, Bool, cond, eqb, take, drop, true, false, List, [], ◌∷◌, Some, None, refl, arith}
use Rattle.std.specs.FinMap.{empty, insert}
use Rattle.store_model.specs.Along.{along}
use Rattle.store_model.specs.Range.{point}
use Rattle.store_model.specs.declared.request.Request.TheVariants as requests
use Rattle.store_model.specs.declared.reply.Reply.TheVariants as replies
use Rattle.store_model.specs.declared.range.Mode.TheVariants.{Shared, Exclusive}
use Rattle.wal_record.specs.OpenWrites.{open_writes}
use Rattle.wal_record.specs.Contents.{committed_contents}
use Rattle.wal_record.specs.Steps.{steps, committed_transactions}
use Rattle.wal_record.specs.Serial.{serial}
use Rattle.wal_record.specs.Left.{IsLeft}
use Rattle.wal_record.specs.declared.entry.Entry.{Entry}
use Rattle.wal_record.specs.declared.entry.Entry.TheVariants.{Rec, Lock, Said, Acked, Began}
use Rattle.wal_record.proofs.ExampleLogs.{apple, x, one, put_apple, commit_apple, apple_log}
use Rattle.wal_record.proofs.SoundExamples.{apple_sound}
use Rattle.wal_record.specs.Images.{applied, image}
use Rattle.wal_record.specs.declared.record.Record.{Record}
use Rattle.wal_record.specs.Left.{Life}
use Rattle.wal_record.specs.Chains.{greatest}
use Rattle.wal_record.specs.declared.record.Record.TheVariants as kinds
use Rattle.std.specs.Prelude.{map}
use Rattle.life_laws.specs.Calm.{only_leaf}
use Rattle.log_laws.specs.Right.{first_log}
use Rattle.life_laws.specs.Opening.{IsOpened}
use Rattle.life_laws.proofs.Opened.{opening}
use Rattle.life_laws.specs.Stops.{Commands, lives_from, MayAllStop, AreRight}
use Rattle.life_laws.proofs.Reopening.{calm_stops}
use Rattle.life_laws.specs.Commands.{Command, Begin, Get, Put, Commit, fresh, entries_from, standing_from, ArePossible}
use Rattle.log_laws.specs.Right.{IsRight}
use Rattle.life_laws.proofs.CalmLives.{calm_lives}

abbrev commands : List Command
commands = Begin ∷ Put (97 ∷ 112 ∷ 112 ∷ 108 ∷ 101 ∷ []) (49 ∷ []) ∷ Get (97 ∷ 112 ∷ 112 ∷ 108 ∷ 101 ∷ []) ∷ Commit ∷ []

its_entries :
    entries_from fresh commands
    ≡ Began 1 1 ∷ Lock 1 (point apple) Exclusive ∷ Rec 2 put_apple ∷ Said 1 1 (requests.Put apple one) (replies.Was None)
    ∷ Lock 1 (point apple) Shared ∷ Said 1 1 (requests.Get apple) (replies.Found (Some one)) ∷ Rec 3 commit_apple ∷ Acked 1 1 ∷ []
its_entries = refl

at_its_end : standing_from fresh commands ≡ record { rows = record { key = apple; tombstone = false; value = one } ∷ []; top = 2; active = None; next = 2; commits = 1; lsn = 3 }
at_its_end = refl

possible : ArePossible 16384 fresh commands
possible = (tt, (record { key_fits = refl; value_fits = refl; leaf_fits = omega arith; room = omega arith; numbers = record { lsns = omega arith; transactions = omega arith } }, (tt, (record { lsns = omega arith; transactions = omega arith }, tt))))

right : IsRight (first_log 16384) (entries_from fresh commands)
right = ((calm_lives 16384 commands refl possible).0 (entries_from fresh commands) [] refl).0

its_serial : serial empty (committed_transactions (entries_from fresh commands)) ≡ Some (record { replies = replies.Was None ∷ replies.Found (Some one) ∷ []; contents = insert empty apple one })
unfolding committed_transactions steps along committed_contents open_writes
its_serial = right.serial

-- a stop may leave all records, and not the Format alone, since the commit is acknowledged
all_left : IsLeft (first_log 16384) (entries_from fresh commands) (put_apple ∷ commit_apple ∷ [])
all_left = right.behind (put_apple ∷ commit_apple ∷ []) [] refl refl ((calm_lives 16384 commands refl possible).0 (entries_from fresh commands) [] refl).1

none_left : IsLeft (first_log 16384) (entries_from fresh commands) [] → ⊥
none_left l = let e : false ≡ true = l.acknowledged 1 refl in cc

-- before it is, a stop may leave the Format alone too
unheard : List Entry
unheard = take 7 (entries_from fresh commands)

none_left_unheard : IsLeft (first_log 16384) unheard []
unfolding unheard
none_left_unheard = ((calm_lives 16384 commands refl possible).0 unheard (Acked 1 1 ∷ []) refl).0.left [] (record { lost = put_apple ∷ commit_apple ∷ []; whole = refl; acknowledged = λ t a. absurd cc })
    ((calm_lives 16384 commands refl possible).0 [] (entries_from fresh commands) refl).1

-- a second transaction can't begin while one is open
not_twice : ArePossible 16384 fresh (Begin ∷ Begin ∷ []) → ⊥
not_twice m = m.1.0

-- ---- a stop

-- a second transaction puts x = 1, and the store stops
abbrev first_life : Commands
first_life = record { kept = commands; lost = Begin ∷ Put (120 ∷ []) (49 ∷ []) ∷ [] }

-- the next life gets both keys
abbrev second_life : Commands
second_life = record { kept = Begin ∷ Get (97 ∷ 112 ∷ 112 ∷ 108 ∷ 101 ∷ []) ∷ Get (120 ∷ []) ∷ Commit ∷ []; lost = [] }

abbrev lives : List Life
lives = lives_from (first_log 16384) fresh (first_life ∷ second_life ∷ [])

-- the number of the lost transaction comes again
second_entries :
    map (λ (l : Life). l.history) (drop 1 lives)
    ≡ (Began 2 2 ∷ Lock 2 (point apple) Shared ∷ Said 2 2 (requests.Get apple) (replies.Found (Some one))
    ∷ Lock 2 (point x) Shared ∷ Said 2 2 (requests.Get x) (replies.Found None) ∷ Rec 4 (kinds.Commit (record { tx = 2; prev = 0 })) ∷ Acked 2 2 ∷ []) ∷ []
unfolding greatest along
second_entries = refl

may_stop : MayAllStop 16384 (first_log 16384) fresh (first_life ∷ second_life ∷ [])
unfolding greatest along
may_stop = (
  record { possible = (tt, (record { key_fits = refl; value_fits = refl; leaf_fits = omega arith; room = omega arith; numbers = record { lsns = omega arith; transactions = omega arith } }, (tt, (record { lsns = omega arith; transactions = omega arith }, (tt, (record { key_fits = refl; value_fits = refl; leaf_fits = omega arith; room = omega arith; numbers = record { lsns = omega arith; transactions = omega arith } }, tt)))))); closed = refl; unfinished = refl },
  (record { possible = (tt, (tt, (tt, (record { lsns = omega arith; transactions = omega arith }, tt)))); closed = refl; unfinished = refl }, tt),
)

right_lives : AreRight (first_log 16384) lives
right_lives = calm_stops 16384 (first_life ∷ second_life ∷ []) refl may_stop

-- ---- an opening

-- no transaction of the apple's log has open writes
none_open : (t : ℕ) → open_writes apple_log t ≡ []
unfolding open_writes along
none_open t = by (eqb 1 t)
  where
    by : (b : Bool) → cond {A = List Record} b [] (cond {A = List Record} b (put_apple ∷ []) []) ≡ []
    by true = refl
    by false = refl

apple_opened : IsOpened apple_log
apple_opened = opening apple_log (record { lawful = apple_sound.lawful; some = refl; settled = none_open; whole = refl })

-- page 1 has the apple alone
its_leaf : image apple_log 1 ≡ Some (only_leaf (record { key = apple; tombstone = false; value = one } ∷ []))
unfolding image applied along
its_leaf = refl
