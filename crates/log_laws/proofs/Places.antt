-- Where open writes stand in the log.
use Rattle.std.proofs.Common.{◌≡◌, ℕ, zero, suc, ◌+◌, Bool, true, false, cond, eqb, List, [], ◌∷◌, ◌++◌, length, Some, refl, sym, ap, subst, ◌∙◌, arith}
use Rattle.std.specs.Prelude.{slice_get}
use Rattle.store_model.specs.Along.{along}
use Rattle.wal_record.specs.declared.record.OpenWrite.{OpenWrite}
use Rattle.wal_record.specs.declared.record.Record.{Record}
use Rattle.wal_record.specs.declared.record.Record.TheVariants as kinds
use Rattle.wal_record.specs.Chains.{record_with}
use Rattle.wal_record.specs.OpenWrites.{key_of, open_step, open_writes, open_list, without_last}
use Rattle.wal_record.proofs.Along.{by_pushes}
use Rattle.wal_record.proofs.Pushes.{open_push, open_list_push}
use Rattle.log_laws.specs.Places.{AllPlaced, PlacesLaw}

item_kept : (log : List Record) (r : Record) (n : ℕ) (x : Record) → slice_get log n ≡ Some x → slice_get (log ++ r ∷ []) n ≡ Some x
item_kept [] r n x e = absurd cc
item_kept (y ∷ log) r zero x e = e
item_kept (y ∷ log) r (suc n) x e = item_kept log r n x e

kept : (log : List Record) (r : Record) (n : ℕ) (x : Record) → record_with log n ≡ Some x → record_with (log ++ r ∷ []) n ≡ Some x
kept log r zero x e = absurd cc
kept log r (suc n) x e = item_kept log r n x e

item_last : (log : List Record) (r : Record) → slice_get (log ++ r ∷ []) (length log) ≡ Some r
item_last [] r = refl
item_last (y ∷ log) r = item_last log r

last_placed : (log : List Record) (r : Record) → record_with (log ++ r ∷ []) (length log + 1) ≡ Some r
last_placed log r = let e : length log + 1 ≡ suc (length log) = omega arith in ap (record_with (log ++ r ∷ [])) e ∙ item_last log r

all_kept : (log : List Record) (r : Record) (ws : List OpenWrite) (rs : List Record) → AllPlaced log ws rs → AllPlaced (log ++ r ∷ []) ws rs
all_kept log r [] [] h = tt
all_kept log r [] (x ∷ rs) h = h
all_kept log r (w ∷ ws) [] h = h
all_kept log r (w ∷ ws) (x ∷ rs) h = (kept log r w.lsn x h.0, h.1, all_kept log r ws rs h.2)

one_more : (log : List Record) (ws : List OpenWrite) (rs : List Record) (w : OpenWrite) (x : Record) → AllPlaced log ws rs → record_with log w.lsn ≡ Some x → w.key ≡ key_of x → AllPlaced log (ws ++ w ∷ []) (rs ++ x ∷ [])
one_more log [] [] w x h e k = (e, k, tt)
one_more log [] (y ∷ rs) w x h e k = absurd h
one_more log (v ∷ ws) [] w x h e k = absurd h
one_more log (v ∷ ws) (y ∷ rs) w x h e k = (h.0, h.1, one_more log ws rs w x h.2 e k)

one_less : (log : List Record) (ws : List OpenWrite) (rs : List Record) → AllPlaced log ws rs → AllPlaced log (without_last ws) (without_last rs)
one_less log [] [] h = tt
one_less log [] (y ∷ rs) h = absurd h
one_less log (v ∷ ws) [] h = absurd h
one_less log (v ∷ []) (y ∷ []) h = tt
one_less log (v ∷ []) (y ∷ z ∷ rs) h = absurd h.2
one_less log (v ∷ w ∷ ws) (y ∷ []) h = absurd h.2
one_less log (v ∷ w ∷ ws) (y ∷ z ∷ rs) h = (h.0, h.1, one_less log (w ∷ ws) (z ∷ rs) h.2)

module _ (log : List Record) (ws : List OpenWrite) (rs : List Record) (h : AllPlaced log ws rs) where
  added : (r : Record) (b : Bool) → AllPlaced (log ++ r ∷ []) (cond b (ws ++ record { lsn = length log + 1; key = key_of r } ∷ []) ws) (cond b (rs ++ r ∷ []) rs)
  added r true = one_more (log ++ r ∷ []) ws rs _ r (all_kept log r ws rs h) (last_placed log r) refl
  added r false = all_kept log r ws rs h

  taken : (r : Record) (b : Bool) → AllPlaced (log ++ r ∷ []) (cond b (without_last ws) ws) (cond b (without_last rs) rs)
  taken r true = one_less (log ++ r ∷ []) ws rs (all_kept log r ws rs h)
  taken r false = all_kept log r ws rs h

  emptied : (r : Record) (b : Bool) → AllPlaced (log ++ r ∷ []) (cond b [] ws) (cond b [] rs)
  emptied r true = tt
  emptied r false = all_kept log r ws rs h

  step : (t : ℕ) (r : Record) → AllPlaced (log ++ r ∷ []) (open_step t (record { lsn = length log + 1; key = key_of r }) ws r) (open_step t r rs r)
  step t (kinds.Write w) = added (kinds.Write w) (eqb w.tx t)
  step t (kinds.Apply a) = added (kinds.Apply a) (eqb a.tx t)
  step t (kinds.Undo u) = taken (kinds.Undo u) (eqb u.tx t)
  step t (kinds.Commit c) = emptied (kinds.Commit c) (eqb c.tx t)
  step t (kinds.End e) = emptied (kinds.End e) (eqb e.tx t)
  step t r = all_kept log r ws rs h

none : (t : ℕ) → AllPlaced [] (open_list [] t) (open_writes [] t)
unfolding open_list open_writes along
none t = tt

all_placed : (t : ℕ) (log : List Record) → AllPlaced log (open_list log t) (open_writes log t)
all_placed t = by_pushes (λ (log : List Record). AllPlaced log (open_list log t) (open_writes log t)) (none t) (λ log r before.
    subst (λ (ws : List OpenWrite). AllPlaced (log ++ r ∷ []) ws (open_writes (log ++ r ∷ []) t)) (sym (open_list_push log r t))
    (subst (AllPlaced (log ++ r ∷ []) (open_step t (record { lsn = length log + 1; key = key_of r }) (open_list log t) r)) (sym (open_push log r t))
    (step log (open_list log t) (open_writes log t) before t r)))

pub places : (log : List Record) (t : ℕ) → PlacesLaw log t
places log t = record { placed = all_placed t log }
