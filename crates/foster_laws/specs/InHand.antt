-- What pages in hand let their holder enter: the records and replies that it reads off their states suit.
use Rattle.std.specs.Prelude.{◌≡◌, ◌≢◌, ℕ, suc, ◌+◌, ◌<◌, length, IsTrue, ◌≤◌, List, [], ◌∷◌, ◌++◌, Option, Some, None, is_some, true}
use Rattle.std.specs.List.{list_any}
use Rattle.store_model.specs.Range.{point}
use Rattle.store_model.specs.Operator.{meaning}
use Rattle.store_model.specs.declared.request.Request.TheVariants as requests
use Rattle.store_model.specs.declared.reply.Reply.TheVariants as replies
use Rattle.wal_record.specs.State.{leaf_rows, live, state_size, page_room, is_key, is_text, free_bytes, has_own}
use Rattle.wal_record.specs.Rules.{is_number, is_maybe_value, is_change, is_u8}
use Rattle.wal_record.specs.Chains.{head, last, pages}
use Rattle.wal_record.specs.OpenWrites.{open_writes, key_of, old_of}
use Rattle.wal_record.specs.Images.{image, IsLeafOf, with_value}
use Rattle.wal_record.specs.Sound.{AreLawful}
use Rattle.wal_record.specs.History.{life_log, Live, phase, is_owner}
use Rattle.wal_record.specs.Locks.{covers, covers_write, locks}
use Rattle.wal_record.specs.Legal.{MayUndo, NeedsSplit, FollowsSplit, split_step}
use Rattle.wal_record.specs.declared.page.PageState.{PageState}
use Rattle.wal_record.specs.declared.record.Record.{Record}
use Rattle.wal_record.specs.declared.record.Record.TheVariants as kinds
use Rattle.wal_record.specs.declared.entry.Entry.{Entry}
use Rattle.claim_laws.specs.Suiting.{Suits, SuitsSaid}
use Rattle.claim_laws.specs.Entering.{IsAtRest, next}
use Rattle.wal_record.specs.declared.page.Rows.TheVariants.{Leaf}
use Rattle.wal_record.specs.declared.record.Adopt.{Adopt}
use Rattle.wal_record.specs.declared.record.Grow.{Grow}
use Rattle.wal_record.specs.declared.record.Purge.{Purge}
use Rattle.wal_record.specs.declared.record.Split.{Split}
use Rattle.wal_record.specs.declared.entry.Entry.TheVariants.{Rec}
use Rattle.claim_laws.specs.Filling.{HasNumbers, HasPage, IsOnSplit, after_split}
use Rattle.foster_laws.specs.Purges.{has_tombstone}
use Rattle.foster_laws.specs.Splits.{Halves, LeafHalves}
use Rattle.foster_laws.specs.Enters.{HasFosterer, half_page}

-- a moment that a caller has seen: nobody is in the middle of a group
pub record IsSeen (opening : List Record) (h : List Entry) : Type 0 where
  pub lawful : AreLawful opening
  pub rest : IsAtRest opening h
  pub some : life_log opening h ≢ []

-- the page has this state, and is the leaf of the key
pub record HasLeafOf (log : List Record) (page : ℕ) (s : PageState) (key : List ℕ) : Type 0 where
  pub image : image log page ≡ Some s
  pub at : IsLeafOf key s

-- a live transaction that has locked the key for writing
pub record MayWrite (opening : List Record) (h : List Entry) (t : ℕ) (key : List ℕ) : Type 0 where
  pub live : phase h t ≡ Live
  pub locked : list_any (covers_write key) (locks opening h t) ≡ true
  pub number : is_number t ≡ true
  pub spelled : is_key key ≡ true

-- the LSN of the transaction's record before this open write
abbrev pub prev_of : Record → ℕ
prev_of (kinds.Write w) = w.prev
prev_of (kinds.Apply a) = a.prev
prev_of _ = 0

-- the records that its holder makes of a leaf, where the last record of the page has this LSN
abbrev pub write_on : List Record → ℕ → ℕ → ℕ → PageState → List ℕ → Option (List ℕ) → Record
write_on log last_lsn t page s key new =
    kinds.Write (record { tx = t; prev = last log t; page = page; page_prev = last_lsn; key = key; old = live (leaf_rows s.rows) key; new = new })

abbrev pub apply_on : List Record → ℕ → ℕ → ℕ → PageState → List ℕ → ℕ → List ℕ → Record
apply_on log last_lsn t page s key operator argument =
    kinds.Apply (record { tx = t; prev = last log t; page = page; page_prev = last_lsn; key = key; operator = operator; argument = argument; old = live (leaf_rows s.rows) key })

abbrev pub undo_on : List Record → ℕ → ℕ → ℕ → Record → Record
undo_on log last_lsn t page w =
    kinds.Undo (record { tx = t; prev = last log t; page = page; page_prev = last_lsn; key = key_of w; restores = old_of w; undo_next = prev_of w })

pub record HandLaw (opening : List Record) (h : List Entry) : Type 0 where
  -- a write that names the leaf's live value, where it fits into the leaf
  pub write : IsSeen opening h → HasNumbers (life_log opening h) 0 → (page : ℕ) (s : PageState) (key : List ℕ) → HasLeafOf (life_log opening h) page s key
      → (t : ℕ) → MayWrite opening h t key → (new : Option (List ℕ)) → is_maybe_value new ≡ true → is_change (live (leaf_rows s.rows) key) new ≡ true
      → state_size (with_value key new s) ≤ page_room → Suits opening h (write_on (life_log opening h) (head (life_log opening h) page) t page s key new)
  -- an operator that gives a value
  pub apply : IsSeen opening h → HasNumbers (life_log opening h) 0 → (page : ℕ) (s : PageState) (key : List ℕ) → HasLeafOf (life_log opening h) page s key
      → (t : ℕ) → MayWrite opening h t key → (operator : ℕ) (argument : List ℕ) → is_u8 operator ≡ true → is_text argument ≡ true
      → is_some (meaning operator (live (leaf_rows s.rows) key) argument) ≡ true
      → state_size (with_value key (meaning operator (live (leaf_rows s.rows) key) argument) s) ≤ page_room
      → Suits opening h (apply_on (life_log opening h) (head (life_log opening h) page) t page s key operator argument)
  -- the undo of the last open write, where it fits
  pub undo : IsSeen opening h → HasNumbers (life_log opening h) 0 → (t : ℕ) (front : List Record) (w : Record) → open_writes (life_log opening h) t ≡ front ++ w ∷ []
      → MayUndo opening h t → (page : ℕ) (s : PageState) → HasLeafOf (life_log opening h) page s (key_of w) → state_size (with_value (key_of w) (old_of w) s) ≤ page_room
      → Suits opening h (undo_on (life_log opening h) (head (life_log opening h) page) t page w)
  -- a purge of a leaf with a tombstone
  pub purge : IsSeen opening h → HasNumbers (life_log opening h) 0 → (x : Purge) (s : PageState) → image (life_log opening h) x.page ≡ Some s → x.page_prev ≡ head (life_log opening h) x.page
      → s.rows ≡ Leaf (leaf_rows s.rows) → IsTrue (has_tombstone s) → Suits opening h (kinds.Purge x)
  -- the split of a page, with the next number for the new page
  pub split : IsSeen opening h → HasNumbers (life_log opening h) 0 → HasPage (life_log opening h) → (x : Split) (s : PageState) → image (life_log opening h) x.page ≡ Some s
      → x.page_prev ≡ head (life_log opening h) x.page → x.child ≡ suc (pages (life_log opening h)) → Halves x s → Suits opening h (kinds.Split x)
  -- a root with a foster child that grows
  pub grow : IsSeen opening h → HasNumbers (life_log opening h) 0 → HasPage (life_log opening h) → (g : Grow) (s : PageState) → image (life_log opening h) 1 ≡ Some s
      → g.page_prev ≡ head (life_log opening h) 1 → g.child ≡ suc (pages (life_log opening h)) → g.child_state ≡ s → IsTrue (is_some s.foster) → s.level < 255
      → Suits opening h (kinds.Grow g)
  -- the foster child of the page in a slot, where its parent has room for the row
  pub adopt : IsSeen opening h → HasNumbers (life_log opening h) 0 → (a : Adopt) (s f : PageState) (i : ℕ) → HasFosterer (life_log opening h) a s f i
      → a.parent_prev ≡ head (life_log opening h) a.parent → a.fosterer_prev ≡ head (life_log opening h) a.fosterer → 5 + length a.key ≤ free_bytes s → Suits opening h (kinds.Adopt a)
  -- the replies of a get, and of a del that finds nothing
  pub get : IsSeen opening h → (page : ℕ) (s : PageState) (key : List ℕ) → HasLeafOf (life_log opening h) page s key
      → (session t : ℕ) → is_owner h session t ≡ true → list_any (covers (point key)) (locks opening h t) ≡ true
      → SuitsSaid opening h session t (requests.Get key) (replies.Found (live (leaf_rows s.rows) key))
  pub del : IsSeen opening h → (page : ℕ) (s : PageState) (key : List ℕ) → HasLeafOf (life_log opening h) page s key → live (leaf_rows s.rows) key ≡ None
      → (session t : ℕ) → is_owner h session t ≡ true → list_any (covers_write key) (locks opening h t) ≡ true
      → SuitsSaid opening h session t (requests.Del key) (replies.Was None)

-- ---- behind the split of a leaf

-- the leaf of the key, which is split, with the next number for the new page
pub record IsSplitOf (log : List Record) (x : Split) (s : PageState) (key : List ℕ) : Type 0 where
  pub image : image log x.page ≡ Some s
  pub leaf : s.rows ≡ Leaf (leaf_rows s.rows)
  pub room : HasPage log
  pub number : x.child ≡ suc (pages log)
  pub halves : LeafHalves x s
  pub own : IsTrue (has_own s key)

-- the record is on one of the halves, and suits behind the split
pub record SuitsBehind (opening : List Record) (h : List Entry) (x : Split) (r : Record) : Type 0 where
  pub on : IsOnSplit x r
  pub suits : Suits opening (after_split opening h x) r

-- on the half of its key, behind the split, any write and any undo fits
pub record BehindLaw (opening : List Record) (h : List Entry) (x : Split) (s : PageState) (key : List ℕ) : Type 0 where
  pub write : IsSeen opening h → HasNumbers (life_log opening h) 1 → IsSplitOf (life_log opening h) x s key
      → (t : ℕ) → MayWrite opening h t key → (new : Option (List ℕ)) → is_maybe_value new ≡ true → is_change (live (leaf_rows s.rows) key) new ≡ true
      → SuitsBehind opening h x (write_on (life_log opening h) (next opening h) t (half_page x key) s key new)
  pub apply : IsSeen opening h → HasNumbers (life_log opening h) 1 → IsSplitOf (life_log opening h) x s key
      → (t : ℕ) → MayWrite opening h t key → (operator : ℕ) (argument : List ℕ) → is_u8 operator ≡ true → is_text argument ≡ true
      → is_some (meaning operator (live (leaf_rows s.rows) key) argument) ≡ true → is_maybe_value (meaning operator (live (leaf_rows s.rows) key) argument) ≡ true
      → SuitsBehind opening h x (apply_on (life_log opening h) (next opening h) t (half_page x key) s key operator argument)
  pub undo : IsSeen opening h → HasNumbers (life_log opening h) 1 → (t : ℕ) (front : List Record) (w : Record) → open_writes (life_log opening h) t ≡ front ++ w ∷ []
      → key_of w ≡ key → MayUndo opening h t → IsSplitOf (life_log opening h) x s key
      → SuitsBehind opening h x (undo_on (life_log opening h) (next opening h) t (half_page x key) w)
  -- for which the leaf has to be split, where the record doesn't fit
  pub asked : IsSplitOf (life_log opening h) x s key → (r : Record) (lsn after : ℕ) → NeedsSplit s r
      → FollowsSplit (split_step (life_log opening h) (Rec lsn (kinds.Split x))) (Rec after r)
