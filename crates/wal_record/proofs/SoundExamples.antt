-- A sound log.
use Rattle.std.proofs.Common.{◌≡◌, ℕ, true, eqb, List, [], ◌∷◌, refl, sym, subst, arith, inl, inr}
use Rattle.std.specs.Prelude.{◌||◌}
use Rattle.std.specs.FinMap.{get-empty}
use Rattle.std.proofs.lemmas.Bool.{eqb-true, or_cases}
use Rattle.store_model.specs.Along.{along, AllAlong}
use Rattle.wal_record.specs.declared.record.Record.{Record}
use Rattle.wal_record.specs.Chains.{head, pages, last, greatest}
use Rattle.wal_record.specs.OpenWrites.{open_writes, pending}
use Rattle.wal_record.specs.Contents.{current}
use Rattle.wal_record.specs.Images.{applied, image, CanApply, IsApplicable}
use Rattle.wal_record.specs.Sound.{IsLawful, IsSound, HasRoom}
use Rattle.wal_record.proofs.ExampleLogs.{apple, format, put_apple, commit_apple, apple_log}

pub at_one : (r : Record) (log : List Record) (n : ℕ) → IsApplicable r n (image log n) → (p : ℕ) → eqb p n ≡ true → IsApplicable r p (image log p)
at_one r log n h p e = subst (λ (k : ℕ). IsApplicable r k (image log k)) (sym (eqb-true p n e)) h

pub at_two : (r : Record) (log : List Record) (m n : ℕ) → IsApplicable r m (image log m) → IsApplicable r n (image log n) → (p : ℕ) → (eqb p m || eqb p n) ≡ true → IsApplicable r p (image log p)
at_two r log m n h h' p e = elim (or_cases _ _ e) [ inl f ↦ at_one r log m h p f | inr f ↦ at_one r log n h' p f ]

pub format_lawful : IsLawful [] format
unfolding image along applied CanApply pages pending greatest open_writes
format_lawful = record {
  first = refl;
  fields = record { limit = refl };
  chain = tt;
  heads = tt;
  place = tt;
  value = tt;
  upkeep = tt;
  applicable = at_one format [] 1 (record { can = refl; fits = (_, refl, omega arith) });
  room = record { most = omega arith; next = λ e. absurd (omega arith) };
}

pub put_lawful : IsLawful (format ∷ []) put_apple
unfolding image along applied CanApply head last current pages pending greatest open_writes
put_lawful = record {
  first = refl;
  chain = (refl, refl);
  heads = (refl, tt);
  place = tt;
  upkeep = tt;
  fields = record { tx = refl; prev = refl; page = refl; page_prev = refl; key = refl; old = refl; new = refl; change = refl };
  applicable = at_one put_apple (format ∷ []) 1 (record { can = (_, refl, record { at = record { leaf = refl; own = refl }; value = refl }); fits = (_, refl, omega arith) });
  value = ((λ other n. refl), sym (get-empty _ apple), refl);
  room = record { most = omega arith; next = λ e. absurd (omega arith) };
}

pub commit_lawful : IsLawful (format ∷ put_apple ∷ []) commit_apple
unfolding image along applied CanApply head last current pages pending greatest open_writes
commit_lawful = record {
  first = refl;
  chain = (refl, refl);
  heads = tt;
  place = tt;
  upkeep = tt;
  value = tt;
  fields = record { tx = refl; prev = refl };
  applicable = λ p e. absurd cc;
  room = record { most = omega arith; next = λ e. absurd (omega arith) };
}

apple_room : HasRoom apple_log
unfolding pages pending greatest open_writes along
apple_room h = omega arith

pub apple_sound : IsSound apple_log
unfolding AllAlong
apple_sound = record { lawful = (format_lawful, (put_lawful, (commit_lawful, tt))); room = apple_room }
