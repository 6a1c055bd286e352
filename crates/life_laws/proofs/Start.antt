-- A calm life as a format leaves it.
use Rattle.std.proofs.Common.{◌≡◌, ℕ, ◌≤◌, true, List, [], None, refl, arith}
use Rattle.std.specs.Prelude.{nat_le}
use Rattle.std.proofs.lemmas.Bool.{and_parts}
use Rattle.std.proofs.lemmas.Bool.Decides.{nat_tests}
use Rattle.store_model.specs.Along.{along, AllAlong}
use Rattle.wal_record.specs.Rules.{is_limit}
use Rattle.wal_record.specs.Chains.{head, pages, last, greatest}
use Rattle.wal_record.specs.OpenWrites.{open_writes, pending}
use Rattle.wal_record.specs.Contents.{current}
use Rattle.wal_record.specs.Images.{applied, image, CanApply}
use Rattle.wal_record.specs.Sound.{IsLawful, AreLawful}
use Rattle.wal_record.specs.History.{phase, greatest_begun, last_begun}
use Rattle.wal_record.specs.Locks.{taken_locks}
use Rattle.wal_record.specs.Legal.{untold, split_leaf, IsLegal}
use Rattle.wal_record.specs.declared.record.Record.{Record}
use Rattle.wal_record.specs.declared.record.Record.TheVariants as kinds
use Rattle.wal_record.proofs.SoundExamples.{at_one}
use Rattle.life_laws.specs.Calm.{CalmLog, CalmHistory, Calm}
use Rattle.log_laws.specs.Right.{first_log}

limit_least : (limit : ℕ) → is_limit limit ≡ true → 8 ≤ limit
limit_least limit e = let least : nat_le 8 limit ≡ true = (and_parts _ _ e).0 in grind (arith, nat_tests)

format_lawful : (limit : ℕ) → is_limit limit ≡ true → IsLawful [] (kinds.Format (record { limit = limit }))
unfolding image along applied CanApply head last current pages pending greatest open_writes
format_lawful limit e =
    let least = limit_least limit e in
    record {
      first = refl;
      fields = record { limit = e };
      chain = tt;
      heads = tt;
      place = tt;
      value = tt;
      upkeep = tt;
      applicable = at_one (kinds.Format (record { limit = limit })) [] 1 (record { can = refl; fits = (_, refl, omega arith) });
      room = record { most = omega (arith, least); next = λ z. absurd (omega arith) };
    }

first_lawful : (limit : ℕ) → is_limit limit ≡ true → AreLawful (first_log limit)
unfolding AllAlong
first_lawful limit e = (format_lawful limit e, tt)

first_closed : (limit t : ℕ) → open_writes (first_log limit) t ≡ []
unfolding open_writes along
first_closed limit t = refl

log_start : (limit : ℕ) → is_limit limit ≡ true → CalmLog (first_log limit) [] 1 None 1 0 1
unfolding image along applied head last pages pending greatest open_writes
log_start limit e =
    let least = limit_least limit e in
    record {
      some = refl;
      size = refl;
      leaf = refl;
      page_head = refl;
      below = omega arith;
      one_page = refl;
      whole = refl;
      closed = λ t a. refl;
      unfinished = refl;
      room = omega (arith, least);
      opened = tt;
      fresh = λ t l. record { chain = refl; unfinished = refl };
      commits_are = refl;
    }

history_start : (limit : ℕ) → CalmHistory (first_log limit) [] None 1
unfolding along greatest greatest_begun last_begun phase taken_locks split_leaf
history_start limit = record { number = refl; sessions = λ s l. refl; rest = λ t a. record { idle = refl; unlocked = refl }; opened = tt; no_split = refl }

pub nothing_told : untold [] ≡ None
unfolding untold along
nothing_told = refl

pub nothing_legal : (opening : List Record) → IsLegal opening []
unfolding AllAlong
nothing_legal opening = tt

pub calm_start : (limit : ℕ) → is_limit limit ≡ true → Calm (first_log limit) [] [] 1 None 1 0 1
calm_start limit e =
    record {
      found = refl;
      begins = first_lawful limit e;
      settled = first_closed limit;
      legal = nothing_legal (first_log limit);
      told = nothing_told;
      log = log_start limit e;
      history = history_start limit;
    }
