-- Records of the tree that are lawful: the root grows, the new root adopts a foster child, and a leaf's tombstones are
-- purged.
use Rattle.std.proofs.Common.{List, [], ◌∷◌, Some, None, refl, arith}
use Rattle.store_model.specs.Along.{along}
use Rattle.wal_record.specs.declared.record.Record.{Record}
use Rattle.wal_record.specs.declared.record.Record.TheVariants as kinds
use Rattle.wal_record.specs.State.{KeepsState}
use Rattle.wal_record.specs.Chains.{head, pages, last, greatest}
use Rattle.wal_record.specs.OpenWrites.{open_writes, pending}
use Rattle.wal_record.specs.Images.{applied, image, CanApply}
use Rattle.wal_record.specs.Sound.{IsLawful}
use Rattle.wal_record.proofs.ExampleLogs.{a, b, c, one, format, put_key, row, leaf, split_at_b, split_at_c, grow, grown_log, adopt_two}
use Rattle.wal_record.proofs.SoundExamples.{at_one, at_two}

abbrev split_log : List Record
split_log = format ∷ put_key a 0 1 ∷ put_key b 2 2 ∷ put_key c 3 3 ∷ split_at_b ∷ split_at_c ∷ []

-- the leaf with a, whose foster child begins at b
grown_child_keeps : KeepsState (leaf [] (Some (record { key = b; child = 2 })) (row a ∷ []))
grown_child_keeps = record { level = refl; fences = refl; texts = refl; foster = refl; rows = (refl, refl, refl); size = omega arith }

grow_lawful : IsLawful split_log grow
unfolding image along applied CanApply head last pages pending greatest open_writes
grow_lawful = record {
  first = refl;
  chain = tt;
  heads = (refl, tt);
  place = refl;
  value = tt;
  upkeep = tt;
  fields = record { page_prev = refl; child = refl; child_state = grown_child_keeps };
  applicable = at_two grow split_log 1 4
      (record { can = ((λ e. (_, refl, record { foster = refl; level = omega arith; child = refl })), λ e. absurd (omega (arith, e))); fits = (_, refl, omega arith) })
      (record { can = ((λ e. absurd (omega (arith, e))), λ e. refl); fits = (_, refl, omega arith) });
  room = record { most = omega arith; next = λ e. absurd (omega arith) };
}

adopt_lawful : IsLawful grown_log adopt_two
unfolding image along applied CanApply head last pages pending greatest open_writes
adopt_lawful = record {
  first = refl;
  chain = tt;
  heads = (refl, (refl, tt));
  place = (_, refl, refl);
  value = tt;
  upkeep = tt;
  fields = record { parent = refl; parent_prev = refl; fosterer = refl; fosterer_prev = refl; child = refl; key = refl };
  applicable = at_two adopt_two grown_log 1 4
      (record { can = ((λ e. (_, refl, record { branch = refl; level = omega arith; own = refl; fresh = refl; before = refl })), λ e. absurd (omega (arith, e))); fits = (_, refl, omega arith) })
      (record { can = ((λ e. absurd (omega (arith, e))), λ e. (_, refl, record { foster = refl })); fits = (_, refl, omega arith) });
  room = record { most = omega arith; next = λ e. absurd (omega arith) };
}

-- a was put and deleted
abbrev deleted_log : List Record
deleted_log = format ∷ put_key a 0 1 ∷ kinds.Write (record { tx = 1; prev = 2; page = 1; page_prev = 2; key = a; old = Some one; new = None }) ∷ []

abbrev purge : Record
purge = kinds.Purge (record { page = 1; page_prev = 3 })

purge_lawful : IsLawful deleted_log purge
unfolding image along applied CanApply head last pages pending greatest open_writes
purge_lawful = record {
  first = refl;
  chain = tt;
  heads = (refl, tt);
  place = tt;
  value = tt;
  upkeep = tt;
  fields = record { page = refl; page_prev = refl };
  applicable = at_one purge deleted_log 1 (record { can = (_, refl, record { leaf = refl; some = refl }); fits = (_, refl, omega arith) });
  room = record { most = omega arith; next = λ e. absurd (omega arith) };
}
