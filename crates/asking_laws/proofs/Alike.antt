-- Groups that ask for the same.
use Rattle.std.proofs.Common.{◌≡◌, ℕ, List, [], ◌∷◌, ◌++◌, length, Option, None, refl, sym, subst, ◌∙◌}
use Rattle.std.specs.Prelude.{◌<◌, ◌≤◌, ◌+◌, suc}
use Rattle.books.specs.Rights.{PageClaim}
use Rattle.wal_record.specs.OpenWrites.{open_writes}
use Rattle.wal_record.specs.Checkpoints.{limit_of}
use Rattle.wal_record.specs.Sound.{TakesBack, UndoRule, used}
use Rattle.wal_record.specs.History.{life_log}
use Rattle.wal_record.specs.Legal.{split_leaf, IsLegal}
use Rattle.wal_record.specs.declared.record.Undo.{Undo}
use Rattle.wal_record.specs.declared.record.Record.{Record}
use Rattle.wal_record.specs.declared.record.Record.TheVariants as kinds
use Rattle.wal_record.specs.declared.entry.Entry.{Entry}
use Rattle.page_ops.specs.declared.group.Said.{Said}
use Rattle.page_ops.specs.declared.group.Group.{Group}
use Rattle.page_ops.specs.Groups.{Each, Numbers, least_numbers, filled, made_by, AreFilledFrom, group_entries}
use Rattle.page_ops.specs.Asking.{IsTimely, HasLeaf, HasRoomFor, LacksRoomFor, needed, MayFollow, MayBeDeclined, IsAskable}
use Rattle.asking_laws.specs.Alike.{AreAlike, IsSameGroup, AlikeLaw}

-- ---- nobody came first

-- what an undo takes back is told by these three fields
takes_same : (u x : Undo) → u.key ≡ x.key → u.restores ≡ x.restores → u.undo_next ≡ x.undo_next → (back : Record) → TakesBack u back → TakesBack x back
takes_same u x key restores next (kinds.Write w) t = (sym key ∙ t.0, sym restores ∙ t.1, sym next ∙ t.2)
takes_same u x key restores next (kinds.Apply a) t = (sym key ∙ t.0, sym restores ∙ t.1, sym next ∙ t.2)
takes_same u x key restores next _ t = absurd t

undo_same : (u x : Undo) → u.key ≡ x.key → u.restores ≡ x.restores → u.undo_next ≡ x.undo_next → (ws : List Record) → UndoRule ws u → UndoRule ws x
undo_same u x key restores next ws rule = record { front = rule.front; back = rule.back; split = rule.split; takes = takes_same u x key restores next rule.back rule.takes }

module _ (opening : List Record) (h : List Entry) (made : Option ℕ) (n : Numbers) where
  from_filled : (r : Record) → IsTimely opening h (filled made n r) → IsTimely opening h r
  from_filled (kinds.Undo u) t = λ loser. undo_same _ u refl refl refl (open_writes (life_log opening h) u.tx) (t loser)
  from_filled (kinds.End e) t = t
  from_filled (kinds.Restored x) t = t
  from_filled _ t = tt

  to_filled : (r : Record) → IsTimely opening h r → IsTimely opening h (filled made n r)
  to_filled (kinds.Undo u) t = λ loser. undo_same u _ refl refl refl (open_writes (life_log opening h) u.tx) (t loser)
  to_filled (kinds.End e) t = t
  to_filled (kinds.Restored x) t = t
  to_filled _ t = tt

timely_alike : (opening : List Record) (h : List Entry) (made made' : Option ℕ) (rs xs : List Record) → AreAlike made made' rs xs → Each (IsTimely opening h) xs → Each (IsTimely opening h) rs
timely_alike opening h made made' [] [] alike t = tt
timely_alike opening h made made' [] (x ∷ xs) alike t = absurd alike
timely_alike opening h made made' (r ∷ rs) [] alike t = absurd alike
timely_alike opening h made made' (r ∷ rs) (x ∷ xs) alike t = (
  from_filled opening h made least_numbers r (subst (IsTimely opening h) (sym (alike.0 least_numbers)) (to_filled opening h made' least_numbers x t.0)),
  timely_alike opening h made made' rs xs alike.1 t.1,
)

-- ---- filled in

filled_alike : (made made' : Option ℕ) (new : ℕ) (rs xs now : List Record) → AreAlike made made' rs xs → AreFilledFrom made new rs now → AreFilledFrom made' new xs now
filled_alike made made' new [] [] now alike f = f
filled_alike made made' new [] (x ∷ xs) now alike f = absurd alike
filled_alike made made' new (r ∷ rs) [] now alike f = absurd alike
filled_alike made made' new (r ∷ rs) (x ∷ xs) [] alike f = absurd f
filled_alike made made' new (r ∷ rs) (x ∷ xs) (y ∷ now) alike f = ((f.0.0, f.0.1, f.0.2 ∙ alike.0 f.0.0), filled_alike made made' new rs xs now alike.1 f.1)

-- ---- the leaf in hand

leaf_alike : (opening : List Record) (h : List Entry) (made made' : Option ℕ) (rs xs : List Record) (said : Option Said) (a : Option PageClaim) → AreAlike made made' rs xs → HasLeaf opening h rs said a → HasLeaf opening h xs said a
leaf_alike opening h made made' [] [] said a alike leaf = leaf
leaf_alike opening h made made' [] (x ∷ xs) said a alike leaf = absurd alike
leaf_alike opening h made made' (r ∷ rs) [] said a alike leaf = absurd alike
leaf_alike opening h made made' (r ∷ rs) (x ∷ xs) said a alike leaf = leaf

module _ (opening : List Record) (h : List Entry) (g other : Group) (same : IsSameGroup g other) where
  room_for : HasRoomFor opening h other → HasRoomFor opening h g
  room_for room on = subst (λ (s : Option Said). used (life_log opening h) + needed s ≤ limit_of (life_log opening h)) (sym same.said) (room (sym same.room ∙ on))

  lacks_room : LacksRoomFor opening h other → LacksRoomFor opening h g
  lacks_room lacks = (same.room ∙ lacks.0, subst (λ (s : Option Said). limit_of (life_log opening h) < used (life_log opening h) + needed s) (sym same.said) lacks.1)

  follows : MayFollow opening h g → MayFollow opening h other
  follows m = record {
    new = m.new;
    recs = m.recs;
    filled = filled_alike (made_by g.recs) (made_by other.recs) m.new g.recs other.recs m.recs same.records m.filled;
    legal = subst (λ (s : Option Said). IsLegal opening (h ++ group_entries (suc (length (life_log opening h))) m.recs s)) same.said m.legal;
    whole = subst (λ (s : Option Said). split_leaf opening (h ++ group_entries (suc (length (life_log opening h))) m.recs s) ≡ None) same.said m.whole;
  }

  asks_alike : (a : Option PageClaim) → IsAskable opening h a g → IsAskable opening h a other
  asks_alike a ask = record {
    leaf = subst (λ (s : Option Said). HasLeaf opening h other.recs s a) same.said (leaf_alike opening h (made_by g.recs) (made_by other.recs) g.recs other.recs g.said a same.records ask.leaf);
    follows = λ timely room few. follows (ask.follows (timely_alike opening h (made_by g.recs) (made_by other.recs) g.recs other.recs same.records timely) (room_for room) few);
    declines = λ lacks. subst (MayBeDeclined opening h) same.said (ask.declines (lacks_room lacks));
  }

pub alike_law : (opening : List Record) (h : List Entry) (g other : Group) → AlikeLaw opening h g other
alike_law opening h g other = record { asks = asks_alike opening h g other }
