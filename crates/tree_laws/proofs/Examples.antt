-- A sound log with a split, a growth, an adoption, an undo and a purge: a leaf with a and b is split at
-- b, the root grows over it and adopts the foster child, whose one write is then undone and purged.
use Rattle.std.proofs.Common.{◌≡◌, ℕ, Bool, true, false, cond, eqb, List, [], ◌∷◌, Some, None, refl, sym, ◌∙◌, arith}
use Rattle.std.specs.List.{list_any}
use Rattle.std.specs.FinMap.{empty, get-empty, get-insert}
use Rattle.std.specs.Cmp.Lexicographic.{nat_list_cmp_total}
use Rattle.store_model.specs.Along.{along, AllAlong}
use Rattle.wal_record.specs.declared.page.PageState.{PageState}
use Rattle.wal_record.specs.declared.page.LeafRow.{LeafRow}
use Rattle.wal_record.specs.declared.page.Rows.TheVariants.{Leaf}
use Rattle.wal_record.specs.declared.record.Record.{Record}
use Rattle.wal_record.specs.declared.record.Record.TheVariants as kinds
use Rattle.wal_record.specs.State.{KeepsState}
use Rattle.wal_record.specs.Chains.{head, pages, last, greatest}
use Rattle.wal_record.specs.OpenWrites.{open_writes, pending, writes}
use Rattle.wal_record.specs.Contents.{current}
use Rattle.wal_record.specs.Images.{applied, image, CanApply}
use Rattle.wal_record.specs.Sound.{IsLawful, HasRoom, IsSound}
use Rattle.wal_record.proofs.SoundExamples.{at_one, at_two}

abbrev a : List ℕ
a = 97 ∷ []

abbrev b : List ℕ
b = 98 ∷ []

abbrev one : List ℕ
one = 49 ∷ []

abbrev row : List ℕ → LeafRow
row key = record { key = key; tombstone = false; value = 49 ∷ [] }

abbrev upper : PageState
upper = record { level = 0; low = Some b; high = None; foster = None; rows = Leaf (row b ∷ []) }

abbrev lower : PageState
lower = record { level = 0; low = Some []; high = None; foster = Some (record { key = b; child = 2 }); rows = Leaf (row a ∷ []) }

abbrev r1 : Record
r1 = kinds.Format (record { limit = 8 })

abbrev r2 : Record
r2 = kinds.Write (record { tx = 1; prev = 0; page = 1; page_prev = 1; key = a; old = None; new = Some (49 ∷ []) })

abbrev r3 : Record
r3 = kinds.Write (record { tx = 1; prev = 2; page = 1; page_prev = 2; key = b; old = None; new = Some (49 ∷ []) })

abbrev r4 : Record
r4 = kinds.Split (record { page = 1; page_prev = 3; child = 2; child_state = upper })

abbrev r5 : Record
r5 = kinds.Grow (record { page_prev = 4; child = 3; child_state = lower })

abbrev r6 : Record
r6 = kinds.Adopt (record { parent = 1; parent_prev = 5; fosterer = 3; fosterer_prev = 5; child = 2; key = b })

abbrev r7 : Record
r7 = kinds.Undo (record { tx = 1; prev = 3; page = 2; page_prev = 4; key = b; restores = None; undo_next = 2 })

abbrev r8 : Record
r8 = kinds.Purge (record { page = 2; page_prev = 7 })

upper_keeps : KeepsState upper
upper_keeps = record { level = refl; fences = refl; texts = refl; foster = refl; rows = (refl, refl, refl); size = omega arith }

lower_keeps : KeepsState lower
lower_keeps = record { level = refl; fences = refl; texts = refl; foster = refl; rows = (refl, refl, refl); size = omega arith }

l1 : IsLawful [] r1
unfolding image along applied CanApply head last current pages pending greatest open_writes
l1 = record {
  first = refl;
  chain = tt;
  heads = tt;
  upkeep = tt;
  place = tt;
  value = tt;
  fields = record { limit = refl };
  applicable = at_one r1 [] 1 (record { can = refl; fits = (_, refl, omega arith) });
  room = record { most = omega arith; next = λ e. absurd (omega arith) };
}

l2 : IsLawful (r1 ∷ []) r2
unfolding image along applied CanApply head last current pages pending greatest open_writes
l2 = record {
  first = refl;
  chain = (refl, refl);
  heads = (refl, tt);
  upkeep = tt;
  place = tt;
  value = ((λ other n. refl), sym (get-empty _ a), refl);
  fields = record { tx = refl; prev = refl; page = refl; page_prev = refl; key = refl; old = refl; new = refl; change = refl };
  applicable = at_one r2 (r1 ∷ []) 1 (record { can = (_, refl, record { at = record { leaf = refl; own = refl }; value = refl }); fits = (_, refl, omega arith) });
  room = record { most = omega arith; next = λ e. absurd (omega arith) };
}

apart : (other : ℕ) → list_any (writes b) (open_writes (r1 ∷ r2 ∷ []) other) ≡ false
unfolding open_writes along
apart other = by (eqb 1 other)
  where
    by : (x : Bool) → list_any (writes b) (cond x (r2 ∷ []) []) ≡ false
    by true = refl
    by false = refl

l3 : IsLawful (r1 ∷ r2 ∷ []) r3
unfolding image along applied CanApply head last current pages pending greatest open_writes
l3 = record {
  first = refl;
  chain = (refl, refl);
  heads = (refl, tt);
  upkeep = tt;
  place = tt;
  value = ((λ other n. apart other), sym (get-insert nat_list_cmp_total empty a one b ∙ get-empty _ b), refl);
  fields = record { tx = refl; prev = refl; page = refl; page_prev = refl; key = refl; old = refl; new = refl; change = refl };
  applicable = at_one r3 (r1 ∷ r2 ∷ []) 1 (record { can = (_, refl, record { at = record { leaf = refl; own = refl }; value = refl }); fits = (_, refl, omega arith) });
  room = record { most = omega arith; next = λ e. absurd (omega arith) };
}

l4 : IsLawful (r1 ∷ r2 ∷ r3 ∷ []) r4
unfolding image along applied CanApply head last current pages pending greatest open_writes
l4 = record {
  first = refl;
  chain = tt;
  heads = (refl, tt);
  upkeep = tt;
  place = refl;
  value = tt;
  fields = record { page = refl; page_prev = refl; child = refl; child_state = upper_keeps };
  applicable = at_two r4 (r1 ∷ r2 ∷ r3 ∷ []) 1 2
      (record { can = ((λ e. (_, refl, record { level = refl; high = refl; foster = refl; upper = refl; goes = refl; stays = refl })), λ e. absurd (omega (arith, e))); fits = (_, refl, omega arith) })
      (record { can = ((λ e. absurd (omega (arith, e))), λ e. refl); fits = (_, refl, omega arith) });
  room = record { most = omega arith; next = λ e. absurd (omega arith) };
}

l5 : IsLawful (r1 ∷ r2 ∷ r3 ∷ r4 ∷ []) r5
unfolding image along applied CanApply head last current pages pending greatest open_writes
l5 = record {
  first = refl;
  chain = tt;
  heads = (refl, tt);
  upkeep = tt;
  place = refl;
  value = tt;
  fields = record { page_prev = refl; child = refl; child_state = lower_keeps };
  applicable = at_two r5 (r1 ∷ r2 ∷ r3 ∷ r4 ∷ []) 1 3
      (record { can = ((λ e. (_, refl, record { foster = refl; level = omega arith; child = refl })), λ e. absurd (omega (arith, e))); fits = (_, refl, omega arith) })
      (record { can = ((λ e. absurd (omega (arith, e))), λ e. refl); fits = (_, refl, omega arith) });
  room = record { most = omega arith; next = λ e. absurd (omega arith) };
}

l6 : IsLawful (r1 ∷ r2 ∷ r3 ∷ r4 ∷ r5 ∷ []) r6
unfolding image along applied CanApply head last current pages pending greatest open_writes
l6 = record {
  first = refl;
  chain = tt;
  heads = (refl, (refl, tt));
  upkeep = tt;
  place = (_, refl, refl);
  value = tt;
  fields = record { parent = refl; parent_prev = refl; fosterer = refl; fosterer_prev = refl; child = refl; key = refl };
  applicable = at_two r6 (r1 ∷ r2 ∷ r3 ∷ r4 ∷ r5 ∷ []) 1 3
      (record { can = ((λ e. (_, refl, record { branch = refl; level = omega arith; own = refl; fresh = refl; before = refl })), λ e. absurd (omega (arith, e))); fits = (_, refl, omega arith) })
      (record { can = ((λ e. absurd (omega (arith, e))), λ e. (_, refl, record { foster = refl })); fits = (_, refl, omega arith) });
  room = record { most = omega arith; next = λ e. absurd (omega arith) };
}

l7 : IsLawful (r1 ∷ r2 ∷ r3 ∷ r4 ∷ r5 ∷ r6 ∷ []) r7
unfolding image along applied CanApply head last current pages pending greatest open_writes
l7 = record {
  first = refl;
  chain = (refl, refl);
  heads = (refl, tt);
  upkeep = tt;
  place = tt;
  value = record { front = r2 ∷ []; back = r3; split = refl; takes = (refl, refl, refl) };
  fields = record { tx = refl; prev = refl; page = refl; page_prev = refl; key = refl; restores = refl; undo_next = refl };
  applicable = at_one r7 (r1 ∷ r2 ∷ r3 ∷ r4 ∷ r5 ∷ r6 ∷ []) 2 (record { can = (_, refl, record { at = record { leaf = refl; own = refl }; there = refl }); fits = (_, refl, omega arith) });
  room = record { most = omega arith; next = λ e. absurd (omega arith) };
}

l8 : IsLawful (r1 ∷ r2 ∷ r3 ∷ r4 ∷ r5 ∷ r6 ∷ r7 ∷ []) r8
unfolding image along applied CanApply head last current pages pending greatest open_writes
l8 = record {
  first = refl;
  chain = tt;
  heads = (refl, tt);
  upkeep = tt;
  place = tt;
  value = tt;
  fields = record { page = refl; page_prev = refl };
  applicable = at_one r8 (r1 ∷ r2 ∷ r3 ∷ r4 ∷ r5 ∷ r6 ∷ r7 ∷ []) 2 (record { can = (_, refl, record { leaf = refl; some = refl }); fits = (_, refl, omega arith) });
  room = record { most = omega arith; next = λ e. absurd (omega arith) };
}

abbrev pub example : List Record
example = r1 ∷ r2 ∷ r3 ∷ r4 ∷ r5 ∷ r6 ∷ r7 ∷ r8 ∷ []

example_room : HasRoom example
unfolding pages pending greatest open_writes along
example_room h = omega arith

pub sound : IsSound example
unfolding AllAlong
sound = record { lawful = (l1, (l2, (l3, (l4, (l5, (l6, (l7, (l8, tt)))))))); room = example_room }
