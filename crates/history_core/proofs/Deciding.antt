-- Tests that decide an entry.
use Rattle.std.proofs.Common.{◌≡◌, ℕ, List, None, sym, subst}
use Rattle.std.specs.Prelude.{◌↔◌, IsTrue}
use Rattle.store_model.specs.declared.request.Request.{Request}
use Rattle.store_model.specs.declared.reply.Reply.{Reply}
use Rattle.store_model.specs.declared.reply.Outcome.{Outcome}
use Rattle.wal_record.specs.Contents.{current}
use Rattle.wal_record.specs.History.{Live, is_owner, life_log, phase}
use Rattle.wal_record.specs.Legal.{IsLegal, IsLocked, MayDecline, MaySay, ReplyRule, WhyRule, untold, written_key}
use Rattle.wal_record.specs.Locks.{Held, locks, taken_locks}
use Rattle.wal_record.specs.declared.entry.Entry.{Entry}
use Rattle.wal_record.specs.declared.record.Record.{Record}
use Rattle.judge_laws.proofs.Owners.{own}

pub chain : {A B C : Type 0} → A ↔ B → B ↔ C → A ↔ C
chain p q = (λ a. q.0 (p.0 a), λ c. p.1 (q.1 c))

module _ (opening : List Record) (h : List Entry) (legal : IsLegal opening h) (session tx : ℕ) (owner : IsTrue (is_owner h session tx)) where
  own_locks : locks opening h tx ≡ taken_locks h tx
  own_locks = (own opening h).begun legal session tx owner

  pub says : (request : Request) (reply : Reply) → ReplyRule (untold h) (current (life_log opening h)) (taken_locks h tx) tx request reply ↔ MaySay opening h session tx request reply
  says request reply = (
    λ r. record { owner = owner; answer = subst (λ (ls : List Held). ReplyRule (untold h) (current (life_log opening h)) ls tx request reply) (sym own_locks) r },
    λ m. subst (λ (ls : List Held). ReplyRule (untold h) (current (life_log opening h)) ls tx request reply) own_locks m.answer,
  )

  pub declines : untold h ≡ None → phase h tx ≡ Live → (request : Request) (why : Outcome) → (IsLocked (taken_locks h tx) (written_key request) × WhyRule (life_log opening h) request why) ↔ MayDecline opening h session tx request why
  declines told live request why = (
    λ p. record { told = told; owner = owner; live = live; locked = subst (λ (ls : List Held). IsLocked ls (written_key request)) (sym own_locks) p.0; cause = p.1 },
    λ m. (subst (λ (ls : List Held). IsLocked ls (written_key request)) own_locks m.locked, m.cause),
  )
