-- Which groups may be asked for at a later moment, by what suited and what stayed.
use Rattle.std.specs.Prelude.{◌≢◌, ◌≡◌, List, [], ◌∷◌, ◌++◌, Option, Some, None, Bool, true, false}
use Rattle.books.specs.Rights.{PageClaim}
use Rattle.wal_record.specs.Chains.{tx_of}
use Rattle.wal_record.specs.OpenWrites.{is_loser}
use Rattle.wal_record.specs.Sound.{spare, AreLawful}
use Rattle.wal_record.specs.History.{life_log, is_owner}
use Rattle.wal_record.specs.Legal.{split_step, FollowsSplit, IsToldAs}
use Rattle.wal_record.specs.declared.record.Checkpoint.{Checkpoint}
use Rattle.wal_record.specs.declared.record.Split.{Split}
use Rattle.wal_record.specs.declared.record.Grow.{Grow}
use Rattle.wal_record.specs.declared.record.Undo.{Undo}
use Rattle.wal_record.specs.declared.record.End.{End}
use Rattle.wal_record.specs.declared.record.Lost.{Lost}
use Rattle.wal_record.specs.declared.record.Restored.{Restored}
use Rattle.wal_record.specs.declared.record.Record.{Record}
use Rattle.wal_record.specs.declared.record.Record.TheVariants as kinds
use Rattle.wal_record.specs.declared.entry.Entry.{Entry}
use Rattle.wal_record.specs.declared.entry.Entry.TheVariants.{Rec}
use Rattle.claim_laws.specs.Resting.{Rests}
use Rattle.claim_laws.specs.Suiting.{Suits, SuitsSaid, SameHead, Pins}
use Rattle.claim_laws.specs.Entering.{IsAtRest, HasRoomOf, WouldWrite}
use Rattle.claim_laws.specs.Filling.{HasNumbers, IsOnSplit, after_split}
use Rattle.page_ops.specs.declared.group.Said.{Said}
use Rattle.page_ops.specs.declared.group.Group.{Group}
use Rattle.page_ops.specs.Asking.{HasLeaf, IsAskable}

abbrev pub told_group : Record → Said → Group
told_group r s = record { recs = r ∷ []; said = Some s; room = true; lsn = 0 }

abbrev pub group_of : Record → Group
group_of r = record { recs = r ∷ []; said = None; room = false; lsn = 0 }

-- records that stay as they are, take no room, and have no answer
abbrev pub is_plain : Record → Bool
is_plain (kinds.Undo u) = true
is_plain (kinds.End e) = true
is_plain (kinds.Adopt a) = true
is_plain (kinds.Purge g) = true
is_plain (kinds.Written w) = true
is_plain (kinds.BackupDone b) = true
is_plain (kinds.RunDone d) = true
is_plain _ = false

-- between the moment that a caller has seen and a later one, at which the journal is free
pub record AsksLaw (opening : List Record) (seen more : List Entry) : Type 0 where
  -- a write with its answer
  pub told : AreLawful opening → IsAtRest opening (seen ++ more) → (a : Option PageClaim) (r : Record) (s : Said) → IsToldAs r s.request s.reply → s.tx ≡ tx_of r → is_owner seen s.session s.tx ≡ true
      → Pins opening seen more r → Suits opening seen r → IsAskable opening (seen ++ more) a (told_group r s)
  -- where no such group can follow any more, since room or numbers have run out, its request may still be declined
  pub declined : AreLawful opening → IsAtRest opening (seen ++ more) → (a : Option PageClaim) (r : Record) (rs : List Record) (s : Said) → Rests s.tx more → WouldWrite opening seen s.session s.tx s.request
      → (HasRoomOf opening (seen ++ more) 2 → HasNumbers (life_log opening (seen ++ more)) 3 → ⊥)
      → IsAskable opening (seen ++ more) a (record { recs = r ∷ rs; said = Some s; room = true; lsn = 0 })
  -- an answer
  pub said : AreLawful opening → IsAtRest opening (seen ++ more) → (a : Option PageClaim) (s : Said) → HasLeaf opening (seen ++ more) [] (Some s) a
      → Rests s.tx more → SuitsSaid opening seen s.session s.tx s.request s.reply → IsAskable opening (seen ++ more) a (record { recs = []; said = Some s; room = false; lsn = 0 })
  -- for which the leaf in hand is still the one
  pub leaf_stays : (p : PageClaim) (s : Said) → SameHead opening seen more p.page → HasLeaf opening seen [] (Some s) (Some p) → HasLeaf opening (seen ++ more) [] (Some s) (Some p)
  -- a record alone
  pub plain : AreLawful opening → IsAtRest opening (seen ++ more) → (a : Option PageClaim) (r : Record) → is_plain r ≡ true
      → Pins opening seen more r → Suits opening seen r → IsAskable opening (seen ++ more) a (group_of r)
  pub restored : AreLawful opening → IsAtRest opening (seen ++ more) → (a : Option PageClaim) (x : Restored)
      → Suits opening seen (kinds.Restored x) → IsAskable opening (seen ++ more) a (group_of (kinds.Restored x))
  pub lost : AreLawful opening → IsAtRest opening (seen ++ more) → (a : Option PageClaim) (l : Lost)
      → Suits opening seen (kinds.Lost l) → IsAskable opening (seen ++ more) a (group_of (kinds.Lost l))
  -- a checkpoint, at every moment
  pub checkpoint : AreLawful opening → IsAtRest opening (seen ++ more) → (a : Option PageClaim) (c : Checkpoint) → life_log opening (seen ++ more) ≢ []
      → IsAskable opening (seen ++ more) a (group_of (kinds.Checkpoint c))
  -- of a loser
  pub loser_undo : AreLawful opening → IsAtRest opening (seen ++ more) → (a : Option PageClaim) (u : Undo) → is_loser opening u.tx ≡ true → SameHead opening seen more u.page
      → Suits opening seen (kinds.Undo u) → IsAskable opening (seen ++ more) a (group_of (kinds.Undo u))
  pub loser_end : AreLawful opening → IsAtRest opening (seen ++ more) → (a : Option PageClaim) (e : End) → is_loser opening e.tx ≡ true
      → Suits opening seen (kinds.End e) → IsAskable opening (seen ++ more) a (group_of (kinds.End e))
  -- a branch split, and a growth
  pub branch_split : AreLawful opening → IsAtRest opening (seen ++ more) → (a : Option PageClaim) (x : Split) → SameHead opening seen more x.page
      → split_step (life_log opening seen) (Rec 0 (kinds.Split x)) ≡ None
      → Suits opening seen (kinds.Split x) → IsAskable opening (seen ++ more) a (record { recs = kinds.Split x ∷ []; said = None; room = true; lsn = 0 })
  pub grow : AreLawful opening → IsAtRest opening (seen ++ more) → (a : Option PageClaim) (g : Grow) → SameHead opening seen more 1
      → Suits opening seen (kinds.Grow g) → IsAskable opening (seen ++ more) a (record { recs = kinds.Grow g ∷ []; said = None; room = true; lsn = 0 })
  -- the split of a leaf, with the write that it is made for, and its answer
  pub split_told : AreLawful opening → IsAtRest opening (seen ++ more) → (a : Option PageClaim) (x : Split) → SameHead opening seen more x.page → Suits opening seen (kinds.Split x)
      → (r : Record) (s : Said) → IsToldAs r s.request s.reply → s.tx ≡ tx_of r → is_owner seen s.session s.tx ≡ true → IsOnSplit x r → Rests (tx_of r) more
      → FollowsSplit (split_step (life_log opening seen) (Rec 0 (kinds.Split x))) (Rec 0 r)
      → Suits opening (after_split opening seen x) r
      → IsAskable opening (seen ++ more) a (record { recs = kinds.Split x ∷ r ∷ []; said = Some s; room = true; lsn = 0 })
  -- or with the undo, of a transaction that rests
  pub split_undo : AreLawful opening → IsAtRest opening (seen ++ more) → (a : Option PageClaim) (x : Split) → SameHead opening seen more x.page → Suits opening seen (kinds.Split x)
      → spare (kinds.Split x) ≡ 1 → (u : Undo) → IsOnSplit x (kinds.Undo u) → Rests u.tx more
      → FollowsSplit (split_step (life_log opening seen) (Rec 0 (kinds.Split x))) (Rec 0 (kinds.Undo u))
      → Suits opening (after_split opening seen x) (kinds.Undo u)
      → IsAskable opening (seen ++ more) a (record { recs = kinds.Split x ∷ kinds.Undo u ∷ []; said = None; room = false; lsn = 0 })
  -- or of a loser
  pub split_loser_undo : AreLawful opening → IsAtRest opening (seen ++ more) → (a : Option PageClaim) (x : Split) → SameHead opening seen more x.page → Suits opening seen (kinds.Split x)
      → spare (kinds.Split x) ≡ 1 → (u : Undo) → IsOnSplit x (kinds.Undo u) → is_loser opening u.tx ≡ true
      → FollowsSplit (split_step (life_log opening seen) (Rec 0 (kinds.Split x))) (Rec 0 (kinds.Undo u))
      → Suits opening (after_split opening seen x) (kinds.Undo u)
      → IsAskable opening (seen ++ more) a (record { recs = kinds.Split x ∷ kinds.Undo u ∷ []; said = None; room = false; lsn = 0 })
