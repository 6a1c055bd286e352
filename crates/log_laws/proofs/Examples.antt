-- A life over a log with a loser, transaction 1. Transaction 2 writes b; its abort is refused after it
-- took the write back; it applies an operator to b; the loser is undone and ended; transaction 2 reads
-- a, commits, and is acknowledged. Transaction 3 writes c and is aborted.
use Rattle.std.proofs.Common.{◌≡◌, ◌≢◌, ℕ, Bool, true, false, eqb, List, [], ◌∷◌, Some, None, refl, sym, ap, subst, ◌∙◌, arith, inl, inr}
use Rattle.std.specs.List.{list_any}
use Rattle.std.specs.FinMap.{empty, insert, get, get-empty, get-insert, get-remove}
use Rattle.std.specs.Cmp.Lexicographic.{nat_list_cmp_total}
use Rattle.std.proofs.lemmas.Bool.{eqb-true}
use Rattle.store_model.specs.Along.{along, AllAlong}
use Rattle.store_model.specs.Range.{point}
use Rattle.store_model.specs.declared.request.Request.TheVariants as requests
use Rattle.store_model.specs.declared.reply.Reply.TheVariants as replies
use Rattle.store_model.specs.declared.range.Mode.TheVariants.{Shared, Exclusive}
use Rattle.wal_record.specs.declared.record.Record.{Record}
use Rattle.wal_record.specs.declared.record.Record.TheVariants as kinds
use Rattle.wal_record.specs.declared.entry.Entry.{Entry}
use Rattle.wal_record.specs.declared.entry.Entry.TheVariants.{Rec, Lock, Said, Acked, Began}
use Rattle.wal_record.specs.Chains.{head, pages, last, greatest}
use Rattle.wal_record.specs.OpenWrites.{open_writes, pending, writes, IsAlone}
use Rattle.wal_record.specs.Contents.{current}
use Rattle.wal_record.specs.Images.{applied, image, CanApply}
use Rattle.wal_record.specs.Sound.{IsLawful, AreLawful}
use Rattle.wal_record.specs.History.{phase, greatest_begun, last_begun}
use Rattle.wal_record.specs.Locks.{conflict, taken_locks, locks}
use Rattle.wal_record.specs.Steps.{steps, Asked, Back, committed_transactions}
use Rattle.wal_record.specs.Legal.{untold, split_leaf, held, IsAllowed, IsLegal}
use Rattle.wal_record.proofs.SoundExamples.{at_one}
use Rattle.log_laws.proofs.Central.{get-after}

abbrev a : List ℕ
a = 97 ∷ []

abbrev b : List ℕ
b = 98 ∷ []

abbrev c : List ℕ
c = 99 ∷ []

abbrev one : List ℕ
one = 49 ∷ []

abbrev r1 : Record
r1 = kinds.Format (record { limit = 8 })

abbrev r2 : Record
r2 = kinds.Write (record { tx = 1; prev = 0; page = 1; page_prev = 1; key = 97 ∷ []; old = None; new = Some (49 ∷ []) })

abbrev r3 : Record
r3 = kinds.Write (record { tx = 2; prev = 0; page = 1; page_prev = 2; key = 98 ∷ []; old = None; new = Some (49 ∷ []) })

abbrev r4 : Record
r4 = kinds.Undo (record { tx = 2; prev = 3; page = 1; page_prev = 3; key = 98 ∷ []; restores = None; undo_next = 0 })

abbrev r5 : Record
r5 = kinds.Apply (record { tx = 2; prev = 4; page = 1; page_prev = 4; key = 98 ∷ []; operator = 3; argument = 49 ∷ []; old = None })

abbrev r6 : Record
r6 = kinds.Undo (record { tx = 1; prev = 2; page = 1; page_prev = 5; key = 97 ∷ []; restores = None; undo_next = 0 })

abbrev r7 : Record
r7 = kinds.End (record { tx = 1; prev = 6 })

abbrev r8 : Record
r8 = kinds.Commit (record { tx = 2; prev = 5 })

abbrev r9 : Record
r9 = kinds.Write (record { tx = 3; prev = 0; page = 1; page_prev = 6; key = 99 ∷ []; old = None; new = Some (49 ∷ []) })

abbrev r10 : Record
r10 = kinds.Undo (record { tx = 3; prev = 9; page = 1; page_prev = 9; key = 99 ∷ []; restores = None; undo_next = 0 })

abbrev r11 : Record
r11 = kinds.End (record { tx = 3; prev = 10 })

abbrev pub opening : List Record
opening = r1 ∷ r2 ∷ []

abbrev e1 : Entry
e1 = Began 1 2

abbrev e2 : Entry
e2 = Lock 2 (point (98 ∷ [])) Exclusive

abbrev e3 : Entry
e3 = Rec 3 r3

abbrev e4 : Entry
e4 = Said 1 2 (requests.Put (98 ∷ []) (49 ∷ [])) (replies.Was None)

abbrev e5 : Entry
e5 = Rec 4 r4

abbrev e6 : Entry
e6 = Rec 5 r5

abbrev e7 : Entry
e7 = Said 1 2 (requests.Apply 3 (98 ∷ []) (49 ∷ [])) (replies.Was None)

abbrev e8 : Entry
e8 = Rec 6 r6

abbrev e9 : Entry
e9 = Rec 7 r7

abbrev e10 : Entry
e10 = Lock 2 (point (97 ∷ [])) Shared

abbrev e11 : Entry
e11 = Said 1 2 (requests.Get (97 ∷ [])) (replies.Found None)

abbrev e12 : Entry
e12 = Rec 8 r8

abbrev e13 : Entry
e13 = Acked 1 2

abbrev e14 : Entry
e14 = Began 2 3

abbrev e15 : Entry
e15 = Lock 3 (point (99 ∷ [])) Exclusive

abbrev e16 : Entry
e16 = Rec 9 r9

abbrev e17 : Entry
e17 = Said 2 3 (requests.Put (99 ∷ []) (49 ∷ [])) (replies.Was None)

abbrev e18 : Entry
e18 = Rec 10 r10

abbrev e19 : Entry
e19 = Rec 11 r11

-- ---- the records are lawful

-- a transaction other than this one is 1, 2, 3, or none of them
other_than : (t : ℕ) (P : ℕ → Type 0) → (t ≢ 1 → P 1) → (t ≢ 2 → P 2) → (t ≢ 3 → P 3) → ((u : ℕ) → eqb 1 u ≡ false → eqb 2 u ≡ false → eqb 3 u ≡ false → P u) → (u : ℕ) → u ≢ t → P u
other_than t P p q r s u n = by (eqb 1 u) refl (eqb 2 u) refl (eqb 3 u) refl
  where
    by : (x : Bool) → eqb 1 u ≡ x → (y : Bool) → eqb 2 u ≡ y → (z : Bool) → eqb 3 u ≡ z → P u
    by true e y f z g = subst P (eqb-true 1 u e) (p (λ h. n (sym (h ∙ eqb-true 1 u e))))
    by false e true f z g = subst P (eqb-true 2 u f) (q (λ h. n (sym (h ∙ eqb-true 2 u f))))
    by false e false f true g = subst P (eqb-true 3 u g) (r (λ h. n (sym (h ∙ eqb-true 3 u g))))
    by false e false f false g = s u e f g

l1 : IsLawful [] r1
unfolding image along applied CanApply head last current pages pending greatest open_writes
l1 = record {
  first = refl;
  chain = tt;
  heads = tt;
  place = tt;
  upkeep = tt;
  fields = record { limit = refl };
  applicable = at_one r1 [] 1 (record { can = refl; fits = (_, refl, omega arith) });
  value = tt;
  room = record { most = omega arith; next = λ e. absurd (omega arith) };
}

l2 : IsLawful (r1 ∷ []) r2
unfolding image along applied CanApply head last current pages pending greatest open_writes
l2 = record {
  first = refl;
  chain = (refl, refl);
  heads = (refl, tt);
  place = tt;
  upkeep = tt;
  fields = record { tx = refl; prev = refl; page = refl; page_prev = refl; key = refl; old = refl; new = refl; change = refl };
  applicable = at_one r2 (r1 ∷ []) 1 (record { can = (_, refl, record { at = record { leaf = refl; own = refl }; value = refl }); fits = (_, refl, omega arith) });
  value = ((λ other n. refl), sym (get-empty _ a), refl);
  room = record { most = omega arith; next = λ e. absurd (omega arith) };
}

alone_at_b : IsAlone (r1 ∷ r2 ∷ []) b 2
unfolding open_writes along
alone_at_b = other_than 2 (λ u. list_any (writes b) (open_writes (r1 ∷ r2 ∷ []) u) ≡ false) (λ h. refl) (λ h. absurd (h refl)) (λ h. refl) (λ u e f g. simp e refl)

l3 : IsLawful (r1 ∷ r2 ∷ []) r3
unfolding image along applied CanApply head last current pages pending greatest open_writes
l3 = record {
  first = refl;
  chain = (refl, refl);
  heads = (refl, tt);
  place = tt;
  upkeep = tt;
  fields = record { tx = refl; prev = refl; page = refl; page_prev = refl; key = refl; old = refl; new = refl; change = refl };
  applicable = at_one r3 (r1 ∷ r2 ∷ []) 1 (record { can = (_, refl, record { at = record { leaf = refl; own = refl }; value = refl }); fits = (_, refl, omega arith) });
  value = (alone_at_b, sym (get-insert nat_list_cmp_total empty a one b ∙ get-empty _ b), refl);
  room = record { most = omega arith; next = λ e. absurd (omega arith) };
}

l4 : IsLawful (r1 ∷ r2 ∷ r3 ∷ []) r4
unfolding image along applied CanApply head last current pages pending greatest open_writes
l4 = record {
  first = refl;
  chain = (refl, refl);
  heads = (refl, tt);
  place = tt;
  upkeep = tt;
  fields = record { tx = refl; prev = refl; page = refl; page_prev = refl; key = refl; restores = refl; undo_next = refl };
  applicable = at_one r4 (r1 ∷ r2 ∷ r3 ∷ []) 1 (record { can = (_, refl, record { at = record { leaf = refl; own = refl }; there = refl }); fits = (_, refl, omega arith) });
  value = record { front = []; back = r3; split = refl; takes = (refl, refl, refl) };
  room = record { most = omega arith; next = λ e. absurd (omega arith) };
}

alone_at_b_again : IsAlone (r1 ∷ r2 ∷ r3 ∷ r4 ∷ []) b 2
unfolding open_writes along
alone_at_b_again = other_than 2 (λ u. list_any (writes b) (open_writes (r1 ∷ r2 ∷ r3 ∷ r4 ∷ []) u) ≡ false) (λ h. refl) (λ h. absurd (h refl)) (λ h. refl) (λ u e f g. simp (e, f) refl)

l5 : IsLawful (r1 ∷ r2 ∷ r3 ∷ r4 ∷ []) r5
unfolding image along applied CanApply head last current pages pending greatest open_writes
l5 = record {
  first = refl;
  chain = (refl, refl);
  heads = (refl, tt);
  place = tt;
  upkeep = tt;
  fields = record { tx = refl; prev = refl; page = refl; page_prev = refl; key = refl; operator = refl; argument = refl; old = refl };
  applicable = at_one r5 (r1 ∷ r2 ∷ r3 ∷ r4 ∷ []) 1 (record { can = ((_, refl, record { at = record { leaf = refl; own = refl }; value = refl }), refl); fits = (_, refl, omega arith) });
  value = (alone_at_b_again, sym (get-remove nat_list_cmp_total (insert (insert empty a one) b one) b b), refl);
  room = record { most = omega arith; next = λ e. absurd (omega arith) };
}

l6 : IsLawful (r1 ∷ r2 ∷ r3 ∷ r4 ∷ r5 ∷ []) r6
unfolding image along applied CanApply head last current pages pending greatest open_writes
l6 = record {
  first = refl;
  chain = (refl, refl);
  heads = (refl, tt);
  place = tt;
  upkeep = tt;
  fields = record { tx = refl; prev = refl; page = refl; page_prev = refl; key = refl; restores = refl; undo_next = refl };
  applicable = at_one r6 (r1 ∷ r2 ∷ r3 ∷ r4 ∷ r5 ∷ []) 1 (record { can = (_, refl, record { at = record { leaf = refl; own = refl }; there = refl }); fits = (_, refl, omega arith) });
  value = record { front = []; back = r2; split = refl; takes = (refl, refl, refl) };
  room = record { most = omega arith; next = λ e. absurd (omega arith) };
}

l7 : IsLawful (r1 ∷ r2 ∷ r3 ∷ r4 ∷ r5 ∷ r6 ∷ []) r7
unfolding image along applied CanApply head last current pages pending greatest open_writes
l7 = record {
  first = refl;
  chain = (refl, refl);
  heads = tt;
  place = tt;
  upkeep = tt;
  fields = record { tx = refl; prev = refl };
  applicable = λ p e. absurd cc;
  value = refl;
  room = record { most = omega arith; next = λ e. absurd (omega arith) };
}

l8 : IsLawful (r1 ∷ r2 ∷ r3 ∷ r4 ∷ r5 ∷ r6 ∷ r7 ∷ []) r8
unfolding image along applied CanApply head last current pages pending greatest open_writes
l8 = record {
  first = refl;
  chain = (refl, refl);
  heads = tt;
  place = tt;
  upkeep = tt;
  fields = record { tx = refl; prev = refl };
  applicable = λ p e. absurd cc;
  value = tt;
  room = record { most = omega arith; next = λ e. absurd (omega arith) };
}

alone_at_c : IsAlone (r1 ∷ r2 ∷ r3 ∷ r4 ∷ r5 ∷ r6 ∷ r7 ∷ r8 ∷ []) c 3
unfolding open_writes along
alone_at_c = other_than 3 (λ u. list_any (writes c) (open_writes (r1 ∷ r2 ∷ r3 ∷ r4 ∷ r5 ∷ r6 ∷ r7 ∷ r8 ∷ []) u) ≡ false) (λ h. refl) (λ h. refl) (λ h. absurd (h refl)) (λ u e f g. simp (e, f) refl)

no_c : None ≡ get (current (r1 ∷ r2 ∷ r3 ∷ r4 ∷ r5 ∷ r6 ∷ r7 ∷ r8 ∷ [])) c
unfolding current along
no_c = sym (get-after _ c r6 ∙ get-after _ c r5 ∙ get-after _ c r4 ∙ get-after _ c r3 ∙ get-after _ c r2 ∙ get-empty _ c)

l9 : IsLawful (r1 ∷ r2 ∷ r3 ∷ r4 ∷ r5 ∷ r6 ∷ r7 ∷ r8 ∷ []) r9
unfolding image along applied CanApply head last current pages pending greatest open_writes
l9 = record {
  first = refl;
  chain = (refl, refl);
  heads = (refl, tt);
  place = tt;
  upkeep = tt;
  fields = record { tx = refl; prev = refl; page = refl; page_prev = refl; key = refl; old = refl; new = refl; change = refl };
  applicable = at_one r9 (r1 ∷ r2 ∷ r3 ∷ r4 ∷ r5 ∷ r6 ∷ r7 ∷ r8 ∷ []) 1 (record { can = (_, refl, record { at = record { leaf = refl; own = refl }; value = refl }); fits = (_, refl, omega arith) });
  value = (alone_at_c, no_c, refl);
  room = record { most = omega arith; next = λ e. absurd (omega arith) };
}

l10 : IsLawful (r1 ∷ r2 ∷ r3 ∷ r4 ∷ r5 ∷ r6 ∷ r7 ∷ r8 ∷ r9 ∷ []) r10
unfolding image along applied CanApply head last current pages pending greatest open_writes
l10 = record {
  first = refl;
  chain = (refl, refl);
  heads = (refl, tt);
  place = tt;
  upkeep = tt;
  fields = record { tx = refl; prev = refl; page = refl; page_prev = refl; key = refl; restores = refl; undo_next = refl };
  applicable = at_one r10 (r1 ∷ r2 ∷ r3 ∷ r4 ∷ r5 ∷ r6 ∷ r7 ∷ r8 ∷ r9 ∷ []) 1 (record { can = (_, refl, record { at = record { leaf = refl; own = refl }; there = refl }); fits = (_, refl, omega arith) });
  value = record { front = []; back = r9; split = refl; takes = (refl, refl, refl) };
  room = record { most = omega arith; next = λ e. absurd (omega arith) };
}

l11 : IsLawful (r1 ∷ r2 ∷ r3 ∷ r4 ∷ r5 ∷ r6 ∷ r7 ∷ r8 ∷ r9 ∷ r10 ∷ []) r11
unfolding image along applied CanApply head last current pages pending greatest open_writes
l11 = record {
  first = refl;
  chain = (refl, refl);
  heads = tt;
  place = tt;
  upkeep = tt;
  fields = record { tx = refl; prev = refl };
  applicable = λ p e. absurd cc;
  value = refl;
  room = record { most = omega arith; next = λ e. absurd (omega arith) };
}

pub opening_lawful : AreLawful opening
unfolding AllAlong
opening_lawful = (l1, (l2, tt))

-- ---- the entries are allowed

a1 : IsAllowed opening [] e1
unfolding untold split_leaf phase taken_locks locks open_writes current greatest greatest_begun last_begun image applied along
a1 = record { split = tt; rule = record { told = refl; number = refl; room = omega arith; free = tt } }

free_b : (other : ℕ) → other ≢ 2 → list_any (conflict (held (point b) Exclusive)) (locks opening (e1 ∷ []) other) ≡ false
unfolding taken_locks locks open_writes along
free_b = other_than 2 (λ u. list_any (conflict (held (point b) Exclusive)) (locks opening (e1 ∷ []) u) ≡ false) (λ h. refl) (λ h. absurd (h refl)) (λ h. refl) (λ u e f g. simp e refl)

a2 : IsAllowed opening (e1 ∷ []) e2
unfolding untold split_leaf phase taken_locks locks open_writes current greatest greatest_begun last_begun image applied along
a2 = record { split = tt; rule = record { told = refl; live = refl; free = free_b } }

a3 : IsAllowed opening (e1 ∷ e2 ∷ []) e3
unfolding untold split_leaf phase taken_locks locks open_writes current greatest greatest_begun last_begun image applied along
a3 = record { split = tt; rule = record { told = refl; place = refl; lawful = l3; rule = (refl, refl) } }

a4 : IsAllowed opening (e1 ∷ e2 ∷ e3 ∷ []) e4
unfolding untold split_leaf phase taken_locks locks open_writes current greatest greatest_begun last_begun image applied along
a4 = record { split = tt; rule = record { owner = refl; answer = (refl, (refl, refl, refl)) } }

a5 : IsAllowed opening (e1 ∷ e2 ∷ e3 ∷ e4 ∷ []) e5
unfolding untold split_leaf phase taken_locks locks open_writes current greatest greatest_begun last_begun image applied along
a5 = record { split = tt; rule = record { told = refl; place = refl; lawful = l4; rule = inl refl } }

a6 : IsAllowed opening (e1 ∷ e2 ∷ e3 ∷ e4 ∷ e5 ∷ []) e6
unfolding untold split_leaf phase taken_locks locks open_writes current greatest greatest_begun last_begun image applied along
a6 = record { split = tt; rule = record { told = refl; place = refl; lawful = l5; rule = (refl, refl) } }

a7 : IsAllowed opening (e1 ∷ e2 ∷ e3 ∷ e4 ∷ e5 ∷ e6 ∷ []) e7
unfolding untold split_leaf phase taken_locks locks open_writes current greatest greatest_begun last_begun image applied along
a7 = record { split = tt; rule = record { owner = refl; answer = (refl, (refl, refl, refl, refl)) } }

a8 : IsAllowed opening (e1 ∷ e2 ∷ e3 ∷ e4 ∷ e5 ∷ e6 ∷ e7 ∷ []) e8
unfolding untold split_leaf phase taken_locks locks open_writes current greatest greatest_begun last_begun image applied along
a8 = record { split = tt; rule = record { told = refl; place = refl; lawful = l6; rule = inr refl } }

a9 : IsAllowed opening (e1 ∷ e2 ∷ e3 ∷ e4 ∷ e5 ∷ e6 ∷ e7 ∷ e8 ∷ []) e9
unfolding untold split_leaf phase taken_locks locks open_writes current greatest greatest_begun last_begun image applied along
a9 = record { split = tt; rule = record { told = refl; place = refl; lawful = l7; rule = inr refl } }

free_a : (other : ℕ) → other ≢ 2 → list_any (conflict (held (point a) Shared)) (locks opening (e1 ∷ e2 ∷ e3 ∷ e4 ∷ e5 ∷ e6 ∷ e7 ∷ e8 ∷ e9 ∷ []) other) ≡ false
unfolding taken_locks locks open_writes along
free_a = other_than 2 (λ u. list_any (conflict (held (point a) Shared)) (locks opening (e1 ∷ e2 ∷ e3 ∷ e4 ∷ e5 ∷ e6 ∷ e7 ∷ e8 ∷ e9 ∷ []) u) ≡ false) (λ h. refl) (λ h. absurd (h refl)) (λ h. refl) (λ u e f g. simp (e, f) refl)

a10 : IsAllowed opening (e1 ∷ e2 ∷ e3 ∷ e4 ∷ e5 ∷ e6 ∷ e7 ∷ e8 ∷ e9 ∷ []) e10
unfolding untold split_leaf phase taken_locks locks open_writes current greatest greatest_begun last_begun image applied along
a10 = record { split = tt; rule = record { told = refl; live = refl; free = free_a } }

a11 : IsAllowed opening (e1 ∷ e2 ∷ e3 ∷ e4 ∷ e5 ∷ e6 ∷ e7 ∷ e8 ∷ e9 ∷ e10 ∷ []) e11
unfolding untold split_leaf phase taken_locks locks open_writes current greatest greatest_begun last_begun image applied along
a11 = record { split = tt; rule = record { owner = refl; answer = (refl, ap replies.Found (sym (get-remove nat_list_cmp_total _ a a))) } }

a12 : IsAllowed opening (e1 ∷ e2 ∷ e3 ∷ e4 ∷ e5 ∷ e6 ∷ e7 ∷ e8 ∷ e9 ∷ e10 ∷ e11 ∷ []) e12
unfolding untold split_leaf phase taken_locks locks open_writes current greatest greatest_begun last_begun image applied along
a12 = record { split = tt; rule = record { told = refl; place = refl; lawful = l8; rule = refl } }

a13 : IsAllowed opening (e1 ∷ e2 ∷ e3 ∷ e4 ∷ e5 ∷ e6 ∷ e7 ∷ e8 ∷ e9 ∷ e10 ∷ e11 ∷ e12 ∷ []) e13
unfolding untold split_leaf phase taken_locks locks open_writes current greatest greatest_begun last_begun image applied along
a13 = record { split = tt; rule = record { told = refl; owner = refl; committed = refl } }

a14 : IsAllowed opening (e1 ∷ e2 ∷ e3 ∷ e4 ∷ e5 ∷ e6 ∷ e7 ∷ e8 ∷ e9 ∷ e10 ∷ e11 ∷ e12 ∷ e13 ∷ []) e14
unfolding untold split_leaf phase taken_locks locks open_writes current greatest greatest_begun last_begun image applied along
a14 = record { split = tt; rule = record { told = refl; number = refl; room = omega arith; free = tt } }

free_c : (other : ℕ) → other ≢ 3 → list_any (conflict (held (point c) Exclusive)) (locks opening (e1 ∷ e2 ∷ e3 ∷ e4 ∷ e5 ∷ e6 ∷ e7 ∷ e8 ∷ e9 ∷ e10 ∷ e11 ∷ e12 ∷ e13 ∷ e14 ∷ []) other) ≡ false
unfolding taken_locks locks open_writes along
free_c = other_than 3 (λ u. list_any (conflict (held (point c) Exclusive)) (locks opening (e1 ∷ e2 ∷ e3 ∷ e4 ∷ e5 ∷ e6 ∷ e7 ∷ e8 ∷ e9 ∷ e10 ∷ e11 ∷ e12 ∷ e13 ∷ e14 ∷ []) u) ≡ false) (λ h. refl) (λ h. refl) (λ h. absurd (h refl)) (λ u e f g. simp (e, f) refl)

a15 : IsAllowed opening (e1 ∷ e2 ∷ e3 ∷ e4 ∷ e5 ∷ e6 ∷ e7 ∷ e8 ∷ e9 ∷ e10 ∷ e11 ∷ e12 ∷ e13 ∷ e14 ∷ []) e15
unfolding untold split_leaf phase taken_locks locks open_writes current greatest greatest_begun last_begun image applied along
a15 = record { split = tt; rule = record { told = refl; live = refl; free = free_c } }

a16 : IsAllowed opening (e1 ∷ e2 ∷ e3 ∷ e4 ∷ e5 ∷ e6 ∷ e7 ∷ e8 ∷ e9 ∷ e10 ∷ e11 ∷ e12 ∷ e13 ∷ e14 ∷ e15 ∷ []) e16
unfolding untold split_leaf phase taken_locks locks open_writes current greatest greatest_begun last_begun image applied along
a16 = record { split = tt; rule = record { told = refl; place = refl; lawful = l9; rule = (refl, refl) } }

a17 : IsAllowed opening (e1 ∷ e2 ∷ e3 ∷ e4 ∷ e5 ∷ e6 ∷ e7 ∷ e8 ∷ e9 ∷ e10 ∷ e11 ∷ e12 ∷ e13 ∷ e14 ∷ e15 ∷ e16 ∷ []) e17
unfolding untold split_leaf phase taken_locks locks open_writes current greatest greatest_begun last_begun image applied along
a17 = record { split = tt; rule = record { owner = refl; answer = (refl, (refl, refl, refl)) } }

a18 : IsAllowed opening (e1 ∷ e2 ∷ e3 ∷ e4 ∷ e5 ∷ e6 ∷ e7 ∷ e8 ∷ e9 ∷ e10 ∷ e11 ∷ e12 ∷ e13 ∷ e14 ∷ e15 ∷ e16 ∷ e17 ∷ []) e18
unfolding untold split_leaf phase taken_locks locks open_writes current greatest greatest_begun last_begun image applied along
a18 = record { split = tt; rule = record { told = refl; place = refl; lawful = l10; rule = inl refl } }

a19 : IsAllowed opening (e1 ∷ e2 ∷ e3 ∷ e4 ∷ e5 ∷ e6 ∷ e7 ∷ e8 ∷ e9 ∷ e10 ∷ e11 ∷ e12 ∷ e13 ∷ e14 ∷ e15 ∷ e16 ∷ e17 ∷ e18 ∷ []) e19
unfolding untold split_leaf phase taken_locks locks open_writes current greatest greatest_begun last_begun image applied along
a19 = record { split = tt; rule = record { told = refl; place = refl; lawful = l11; rule = inl refl } }

abbrev pub history : List Entry
history = e1 ∷ e2 ∷ e3 ∷ e4 ∷ e5 ∷ e6 ∷ e7 ∷ e8 ∷ e9 ∷ e10 ∷ e11 ∷ e12 ∷ e13 ∷ e14 ∷ e15 ∷ e16 ∷ e17 ∷ e18 ∷ e19 ∷ []

pub legal : IsLegal opening history
unfolding AllAlong
legal = (a1, (a2, (a3, (a4, (a5, (a6, (a7, (a8, (a9, (a10, (a11, (a12, (a13, (a14, (a15, (a16, (a17, (a18, (a19, tt)))))))))))))))))))

-- its one committed transaction has a step back
pub its_steps : committed_transactions history ≡ record { tx = 2; steps = Asked (requests.Put b one) (replies.Was None) ∷ Back ∷ Asked (requests.Apply 3 b one) (replies.Was None) ∷ Asked (requests.Get a) (replies.Found None) ∷ [] } ∷ []
unfolding committed_transactions steps along
its_steps = refl
