-- A legal history: a transaction puts apple = 1, deletes a key that isn't there, reads, commits, and is
-- acknowledged.
use Rattle.std.proofs.Common.{◌≡◌, ◌≢◌, ℕ, eqb, false, List, [], ◌∷◌, Some, None, refl, sym, ap, ◌∙◌, arith}
use Rattle.std.specs.FinMap.{get-empty, get-insert, empty}
use Rattle.std.specs.Cmp.Lexicographic.{nat_list_cmp_total}
use Rattle.std.proofs.lemmas.Bool.Decides.{nat_tests}
use Rattle.store_model.specs.Along.{along, AllAlong}
use Rattle.store_model.specs.Range.{point}
use Rattle.store_model.specs.declared.request.Request.TheVariants as requests
use Rattle.store_model.specs.declared.reply.Reply.TheVariants as replies
use Rattle.store_model.specs.declared.range.Mode.TheVariants.{Exclusive}
use Rattle.wal_record.specs.declared.record.Record.{Record}
use Rattle.wal_record.specs.declared.entry.Entry.{Entry}
use Rattle.wal_record.specs.declared.entry.Entry.TheVariants.{Rec, Lock, Said, Acked, Began}
use Rattle.wal_record.specs.Books.{page_book, maintenance_book, session_entries, session_transaction}
use Rattle.wal_record.specs.declared.record.Record.TheVariants as kinds
use Rattle.wal_record.specs.Chains.{head, greatest}
use Rattle.wal_record.specs.OpenWrites.{open_writes}
use Rattle.wal_record.specs.Contents.{current}
use Rattle.wal_record.specs.History.{phase, greatest_begun, last_begun}
use Rattle.wal_record.specs.Locks.{taken_locks, locks}
use Rattle.wal_record.specs.Steps.{steps, Asked, committed_transactions}
use Rattle.wal_record.specs.Legal.{untold, split_leaf, IsAllowed, IsLegal}
use Rattle.wal_record.proofs.ExampleLogs.{apple, x, one, format, put_apple, commit_apple}
use Rattle.wal_record.proofs.SoundExamples.{put_lawful, commit_lawful}

abbrev pub opening : List Record
opening = format ∷ []

abbrev pub began : Entry
began = Began 7 1

abbrev pub lock_apple : Entry
lock_apple = Lock 1 (point (97 ∷ 112 ∷ 112 ∷ 108 ∷ 101 ∷ [])) Exclusive

abbrev pub wrote : Entry
wrote = Rec 2 put_apple

abbrev pub said_put : Entry
said_put = Said 7 1 (requests.Put (97 ∷ 112 ∷ 112 ∷ 108 ∷ 101 ∷ []) (49 ∷ [])) (replies.Was None)

abbrev pub lock_x : Entry
lock_x = Lock 1 (point (120 ∷ [])) Exclusive

abbrev pub said_del : Entry
said_del = Said 7 1 (requests.Del (120 ∷ [])) (replies.Was None)

abbrev pub said_get : Entry
said_get = Said 7 1 (requests.Get (97 ∷ 112 ∷ 112 ∷ 108 ∷ 101 ∷ [])) (replies.Found (Some (49 ∷ [])))

abbrev pub commit_entered : Entry
commit_entered = Rec 3 commit_apple

abbrev pub acked : Entry
acked = Acked 7 1

a1 : IsAllowed opening [] began
unfolding untold split_leaf greatest greatest_begun last_begun along
a1 = record { split = tt; rule = record { told = refl; number = refl; room = omega arith; free = tt } }

a2 : IsAllowed opening (began ∷ []) lock_apple
unfolding untold split_leaf phase taken_locks locks open_writes along
a2 = record { split = tt; rule = record { told = refl; live = refl; free = λ other n. refl } }

a3 : IsAllowed opening (began ∷ lock_apple ∷ []) wrote
unfolding untold split_leaf phase taken_locks locks open_writes along
a3 = record { split = tt; rule = record { told = refl; place = refl; lawful = put_lawful; rule = (refl, refl) } }

a4 : IsAllowed opening (began ∷ lock_apple ∷ wrote ∷ []) said_put
unfolding untold split_leaf along
a4 = record { split = tt; rule = record { owner = refl; answer = (refl, (refl, refl, refl)) } }

elsewhere : (other : ℕ) → other ≢ 1 → eqb 1 other ≡ false
elsewhere other n = grind (arith, nat_tests)

-- nobody else has a lock
a5 : IsAllowed opening (began ∷ lock_apple ∷ wrote ∷ said_put ∷ []) lock_x
unfolding untold split_leaf phase taken_locks locks open_writes along
a5 = record { split = tt; rule = record { told = refl; live = refl; free = λ other n. rw (elsewhere other n) refl } }

-- a Del of an absent key is told alone
a6 : IsAllowed opening (began ∷ lock_apple ∷ wrote ∷ said_put ∷ lock_x ∷ []) said_del
unfolding untold split_leaf phase taken_locks locks open_writes current along
a6 = record { split = tt; rule = record { owner = refl; answer = (refl, get-insert nat_list_cmp_total empty apple one x ∙ get-empty _ x, refl) } }

a7 : IsAllowed opening (began ∷ lock_apple ∷ wrote ∷ said_put ∷ lock_x ∷ said_del ∷ []) said_get
unfolding untold split_leaf phase taken_locks locks open_writes current along
a7 = record { split = tt; rule = record { owner = refl; answer = (refl, ap replies.Found (sym (get-insert nat_list_cmp_total empty apple one apple))) } }

a8 : IsAllowed opening (began ∷ lock_apple ∷ wrote ∷ said_put ∷ lock_x ∷ said_del ∷ said_get ∷ []) commit_entered
unfolding untold split_leaf phase along
a8 = record { split = tt; rule = record { told = refl; place = refl; lawful = commit_lawful; rule = refl } }

a9 : IsAllowed opening (began ∷ lock_apple ∷ wrote ∷ said_put ∷ lock_x ∷ said_del ∷ said_get ∷ commit_entered ∷ []) acked
unfolding untold split_leaf phase along
a9 = record { split = tt; rule = record { told = refl; owner = refl; committed = refl } }

abbrev pub history : List Entry
history = began ∷ lock_apple ∷ wrote ∷ said_put ∷ lock_x ∷ said_del ∷ said_get ∷ commit_entered ∷ acked ∷ []

pub legal : IsLegal opening history
unfolding AllAlong
legal = (a1, (a2, (a3, (a4, (a5, (a6, (a7, (a8, (a9, tt)))))))))

-- its one committed transaction has three steps
its_steps :
    committed_transactions history
    ≡ record { tx = 1; steps = Asked (requests.Put apple one) (replies.Was None) ∷ Asked (requests.Del x) (replies.Was None) ∷ Asked (requests.Get apple) (replies.Found (Some one)) ∷ [] } ∷ []
unfolding committed_transactions steps along
its_steps = refl

-- ---- the books

-- all nine entries are the session's, whose transaction is acknowledged at the end
nine_entries : session_entries history 7 ≡ 9
unfolding session_entries along
nine_entries = refl

no_transaction : session_transaction history 7 ≡ 0
unfolding last_begun phase along
no_transaction = refl

its_transaction : session_transaction (began ∷ lock_apple ∷ wrote ∷ []) 7 ≡ 1
unfolding last_begun phase along
its_transaction = refl

others_entries : session_entries history 8 ≡ 0
unfolding session_entries along
others_entries = refl

book_of_one : page_book opening history 1 ≡ 2
unfolding head along
book_of_one = refl

-- the book of maintenance takes the LSNs of this life alone
maintenance : maintenance_book (began ∷ Rec 9 (kinds.RunDone (record { run = 1; first = 1; last = 8 })) ∷ lock_apple ∷ []) ≡ 9
unfolding maintenance_book along
maintenance = refl
