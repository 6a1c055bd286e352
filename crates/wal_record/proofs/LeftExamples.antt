-- What a stop may leave: of Format, Write, Commit, Write, Commit, Write with both commits acknowledged
-- the first five records, or all six.
use Rattle.std.proofs.Common.{◌≡◌, ℕ, zero, suc, ◌+◌, Bool, true, false, cond, eqb, List, [], ◌∷◌, ◌++◌, length, take, length-append, Some, None, refl, sym, ap, ◌∙◌, arith, inl, inr}
use Rattle.std.specs.Prelude.{◌⊎◌, ◌≤◌, nat_le}
use Rattle.std.proofs.lemmas.Bool.Decides.{nat_tests}
use Rattle.std.specs.List.{list_any}
use Rattle.std.specs.FinMap.{empty, insert, get-empty, get-insert}
use Rattle.std.specs.Cmp.Lexicographic.{nat_list_cmp_total}
use Rattle.std.proofs.Math.Seq.{take-append_seam}
use Rattle.store_model.specs.Along.{along, AllAlong}
use Rattle.wal_record.specs.declared.record.Record.{Record}
use Rattle.wal_record.specs.declared.record.Record.TheVariants as kinds
use Rattle.wal_record.specs.declared.entry.Entry.{Entry}
use Rattle.wal_record.specs.declared.entry.Entry.TheVariants.{Rec, Acked}
use Rattle.wal_record.specs.Chains.{head, pages, last, greatest}
use Rattle.wal_record.specs.OpenWrites.{open_writes, pending, writes}
use Rattle.wal_record.specs.Contents.{current}
use Rattle.wal_record.specs.Images.{applied, image, CanApply}
use Rattle.wal_record.specs.Sound.{IsLawful, IsSound, HasRoom}
use Rattle.wal_record.specs.Left.{is_commit_of, IsLeft}
use Rattle.wal_record.proofs.ExampleLogs.{x, y, one, two, format, put_x, commit_x, put_x_again}
use Rattle.wal_record.proofs.SoundExamples.{at_one, format_lawful}

abbrev commit_two : Record
commit_two = kinds.Commit (record { tx = 2; prev = 4 })

abbrev put_last : Record
put_last = kinds.Write (record { tx = 3; prev = 0; page = 1; page_prev = 4; key = 121 ∷ []; old = None; new = Some (49 ∷ []) })

abbrev five : List Record
five = format ∷ put_x ∷ commit_x ∷ put_x_again ∷ commit_two ∷ []

abbrev six : List Record
six = format ∷ put_x ∷ commit_x ∷ put_x_again ∷ commit_two ∷ put_last ∷ []

-- ---- it is sound

l2 : IsLawful (format ∷ []) put_x
unfolding image along applied CanApply head last current pages pending greatest open_writes
l2 = record {
  first = refl;
  chain = (refl, refl);
  heads = (refl, tt);
  place = tt;
  upkeep = tt;
  fields = record { tx = refl; prev = refl; page = refl; page_prev = refl; key = refl; old = refl; new = refl; change = refl };
  applicable = at_one put_x (format ∷ []) 1 (record { can = (_, refl, record { at = record { leaf = refl; own = refl }; value = refl }); fits = (_, refl, omega arith) });
  value = ((λ other n. refl), sym (get-empty _ x), refl);
  room = record { most = omega arith; next = λ e. absurd (omega arith) };
}

l3 : IsLawful (format ∷ put_x ∷ []) commit_x
unfolding along head last pages pending greatest open_writes
l3 = record {
  first = refl;
  chain = (refl, refl);
  heads = tt;
  place = tt;
  upkeep = tt;
  value = tt;
  fields = record { tx = refl; prev = refl };
  applicable = λ p e. absurd cc;
  room = record { most = omega arith; next = λ e. absurd (omega arith) };
}

-- after its commit the first transaction has no open write
closed : (key : List ℕ) (w : Record) (b : Bool) → list_any (writes key) (cond b [] (cond b (w ∷ []) [])) ≡ false
closed key w true = refl
closed key w false = refl

l4 : IsLawful (format ∷ put_x ∷ commit_x ∷ []) put_x_again
unfolding image along applied CanApply head last current pages pending greatest open_writes
l4 = record {
  first = refl;
  chain = (refl, refl);
  heads = (refl, tt);
  place = tt;
  upkeep = tt;
  fields = record { tx = refl; prev = refl; page = refl; page_prev = refl; key = refl; old = refl; new = refl; change = refl };
  applicable = at_one put_x_again (format ∷ put_x ∷ commit_x ∷ []) 1 (record { can = (_, refl, record { at = record { leaf = refl; own = refl }; value = refl }); fits = (_, refl, omega arith) });
  value = ((λ other n. closed x put_x (eqb 1 other)), sym (get-insert nat_list_cmp_total empty x one x), refl);
  room = record { most = omega arith; next = λ e. absurd (omega arith) };
}

l5 : IsLawful (format ∷ put_x ∷ commit_x ∷ put_x_again ∷ []) commit_two
unfolding along head last pages pending greatest open_writes
l5 = record {
  first = refl;
  chain = (refl, refl);
  heads = tt;
  place = tt;
  upkeep = tt;
  value = tt;
  fields = record { tx = refl; prev = refl };
  applicable = λ p e. absurd cc;
  room = record { most = omega arith; next = λ e. absurd (omega arith) };
}

both_closed : (key : List ℕ) (v w : Record) (b c : Bool) → list_any (writes key) (cond c [] (cond c (cond b [] (cond b (v ∷ []) []) ++ w ∷ []) (cond b [] (cond b (v ∷ []) [])))) ≡ false
both_closed key v w true true = refl
both_closed key v w true false = refl
both_closed key v w false true = refl
both_closed key v w false false = refl

l6 : IsLawful five put_last
unfolding image along applied CanApply head last current pages pending greatest open_writes
l6 = record {
  first = refl;
  chain = (refl, refl);
  heads = (refl, tt);
  place = tt;
  upkeep = tt;
  fields = record { tx = refl; prev = refl; page = refl; page_prev = refl; key = refl; old = refl; new = refl; change = refl };
  applicable = at_one put_last five 1 (record { can = (_, refl, record { at = record { leaf = refl; own = refl }; value = refl }); fits = (_, refl, omega arith) });
  value = (
    (λ other n. both_closed y put_x put_x_again (eqb 1 other) (eqb 2 other)),
    sym (get-insert nat_list_cmp_total (insert empty x one) x two y ∙ get-insert nat_list_cmp_total empty x one y ∙ get-empty _ y),
    refl,
  );
  room = record { most = omega arith; next = λ e. absurd (omega arith) };
}

five_room : HasRoom five
unfolding pages pending greatest open_writes along
five_room h = omega arith

six_room : HasRoom six
unfolding pages pending greatest open_writes along
six_room h = omega arith

five_sound : IsSound five
unfolding AllAlong
five_sound = record { lawful = (format_lawful, (l2, (l3, (l4, (l5, tt))))); room = five_room }

six_sound : IsSound six
unfolding AllAlong
six_sound = record { lawful = (format_lawful, (l2, (l3, (l4, (l5, (l6, tt)))))); room = six_room }

-- ---- what may be left

abbrev history : List Entry
history = Rec 1 format ∷ Rec 2 put_x ∷ Rec 3 commit_x ∷ Acked 1 1 ∷ Rec 4 put_x_again ∷ Rec 5 commit_two ∷ Acked 2 2 ∷ Rec 6 put_last ∷ []

five_left : IsLeft [] history five
five_left = record { lost = put_last ∷ []; whole = refl; sound = five_sound; acknowledged = λ t h. h }

six_left : IsLeft [] history six
six_left = record { lost = []; whole = refl; sound = six_sound; acknowledged = λ t h. h }

-- a shorter beginning lacks the second commit
long : (n : ℕ) → list_any (is_commit_of 2) (take n six) ≡ true → 5 ≤ n
long zero h = absurd cc
long (suc zero) h = absurd cc
long (suc (suc zero)) h = absurd cc
long (suc (suc (suc zero))) h = absurd cc
long (suc (suc (suc (suc zero)))) h = absurd cc
long (suc (suc (suc (suc (suc n))))) h = omega arith

five_or_six : (n : ℕ) → 5 ≤ n → n ≤ 6 → (n ≡ 5) ⊎ (n ≡ 6)
five_or_six n least most = by (nat_le n 5) refl
  where
    by : (b : Bool) → nat_le n 5 ≡ b → (n ≡ 5) ⊎ (n ≡ 6)
    by true e = inl (grind (arith, nat_tests))
    by false e = inr (grind (arith, nat_tests))

no_others : (own : List Record) → IsLeft [] history own → (length own ≡ 5) ⊎ (length own ≡ 6)
no_others own h =
    let total : 6 ≡ length own + length h.lost = ap length h.whole ∙ length-append own h.lost in
    let front : take (length own) six ≡ own = ap (take (length own)) h.whole ∙ take-append_seam own h.lost in
    let least : 5 ≤ length own = long (length own) (ap (list_any (is_commit_of 2)) front ∙ h.acknowledged 2 refl) in
    five_or_six (length own) least (omega arith)
