-- What holds at any place of a run: lives are right, and the log disk keeps a log that may be found.
use Rattle.std.proofs.Common.{◌≡◌, ℕ, ◌≤◌, List, [], ◌∷◌, ◌++◌, Option, Some, refl, sym, ap, subst, ◌∙◌, inl, inr}
use Rattle.std.specs.List.{All}
use Rattle.std.proofs.lemmas.List.Elements.{All-cons, All-nil, All-append}
use Rattle.media.specs.Crash.{Only, NoMore, LeavesOnly}
use Rattle.media.specs.Kept.{Kept}
use Rattle.media.specs.declared.disk.Disk.{Ghosts}
use Rattle.stop_laws.specs.Stops.{StandsForLeft}
use Rattle.wal_record.specs.Left.{IsLeft}
use Rattle.wal_record.specs.declared.record.Record.{Record}
use Rattle.wal_record.specs.declared.entry.Entry.{Entry}
use Rattle.own_life.specs.State.{LifeState}
use Rattle.life_commands.specs.Bytes.{Known}
use Rattle.life_commands.specs.LogDisk.{seen, View, Whole, Form, IsWhole, Keeps, HoldsOne}
use Rattle.life_commands.specs.Living.{IsDiskOf, Safe, Within}
use Rattle.life_commands.specs.Refusals.{HasLife}
use Rattle.life_commands.specs.Turns.{Last, Found, Unsynced, Formatted, Unformatted, Stopped, Life, Stage, LeftBy, IsLeftBy, MayFind, MayBeLeft, IsRightLife, lives_of, last_after, bytes_after}

-- ---- views

pub tells_of : {T : Type 0} (v : View T) → IsWhole v → T
tells_of (Whole t) h = t
tells_of Form h = absurd h

-- ---- the disk

-- a log that may be found may also be left behind a stop
pub left_too : (last : Last) (rs : List Record) → MayFind last rs → MayBeLeft last rs
left_too (Found log) rs h = h
left_too (Unsynced log before) rs h = inl h
left_too (Formatted limit) rs h = h
left_too (Unformatted before limit) rs (inl h) = inl (left_too before rs h)
left_too (Unformatted before limit) rs (inr h) = inr h
left_too (LeftBy l kept) rs h = h
left_too (Stopped before) rs h = h

pub holds_map : (P Q : List Record → Type 0) (k : Kept) → ((rs : List Record) → P rs → Q rs) → HoldsOne P k → HoldsOne Q k
holds_map P Q k f (log, p, stands) = (log, f log p, stands)

pub keeps_map : {D : Type 0} (L : Ghosts D) (a b : Last) (disk : D) → ((rs : List Record) → MayFind a rs → MayFind b rs) → ((rs : List Record) → MayBeLeft a rs → MayBeLeft b rs) → Keeps L a disk → Keeps L b disk
keeps_map L a b disk f g k = record { now = holds_map (MayFind a) (MayFind b) (L.told disk) f k.now; crash = λ c left. holds_map (MayBeLeft a) (MayBeLeft b) c g (k.crash c left) }

-- a disk that gives the same, and of which a crash leaves nothing else
pub keeps_same : {D : Type 0} (L : Ghosts D) (last : Last) (old new : D) → L.told new ≡ L.told old → NoMore L.may_leave old new → Keeps L last old → Keeps L last new
keeps_same L last old new same more k = record { now = subst (HoldsOne (MayFind last)) (sym same) k.now; crash = λ c left. k.crash c (more c left) }

-- a disk on which nothing waits for a sync
pub keeps_only : {D : Type 0} (L : Ghosts D) (last : Last) (disk : D) → HoldsOne (MayFind last) (L.told disk) → Only (L.told disk) (L.may_leave disk) → Keeps L last disk
keeps_only L last disk h only = record { now = h; crash = λ c left. subst (HoldsOne (MayBeLeft last)) (sym (only c left)) (holds_map (MayFind last) (MayBeLeft last) (L.told disk) (left_too last) h) }

-- what a crash may leave now is among what one might have left since before
pub crashed : {D : Type 0} (L : Ghosts D) (old new : D) (P : Kept → Type 0) → LeavesOnly L.moment L.left_since old new P
    → ((t : ℕ) (c : Kept) → t ≤ L.moment new → L.may_leave new c → L.left_since new t c) → (c : Kept) → L.may_leave new c → P c
crashed L old new P only counts c left = only.each c (counts (L.moment old) c only.later left)

-- ---- what the kept bytes stand for

-- a member of what a stop may leave of a life, with so many records
left_stands : (l : Life) (h : List Entry) (kept : ℕ) (k : Kept) → l.history ≡ h → StandsForLeft l.opening h kept k → HoldsOne (IsLeftBy l kept) k
left_stands l h kept k same z = (
  l.opening ++ z.own,
  (z.own, subst (λ (x : List Entry). IsLeft l.opening x z.own) (sym same) z.left, refl, z.no_fewer),
  record { sound = z.left.sound; bs = z.stands.bs; stands = z.stands.stands; records = z.stands.records },
)

-- ---- lives

module _ {D : Type 0} (L : Ghosts D) where
  -- the disk of a life that has stopped
  pub life_keeps : (opens : List Record → Type 0) (x : LifeState) (l : Life) (kept : ℕ) (disk : D) → opens l.opening → l.history ≡ x.history → IsDiskOf L opens x kept disk → Keeps L (LeftBy l kept) disk
  life_keeps opens x l kept disk may same d =
      let left = d.left l.opening may in
      record {
        now = left_stands l x.history kept (L.told disk) same left.now;
        crash = λ c m. left_stands l x.history kept c same (left.crash c m);
      }

  -- the lives with one more
  pub right_more : (past : List Life) (l : Life) → All IsRightLife past → IsRightLife l → All IsRightLife (past ++ l ∷ [])
  right_more past l h r = All-append IsRightLife past (l ∷ []) h (All-cons IsRightLife l [] r (All-nil IsRightLife))

  module _ (T : Type 0) (opens : List Record → Type 0) (x : LifeState) (s : Stage) (h : Within L opens x s) where
    -- of any disk nothing is known within a life
    pub known_in : (disk : D) → Known T L (bytes_after s.life s.bytes) disk
    known_in disk = subst (λ (o : Option Life). Known T L (bytes_after o s.bytes) disk) (sym h.life) tt

    pub safe_in : (kept : ℕ) (disk : D) → IsDiskOf L opens x kept disk → Safe T L kept disk s
    safe_in kept disk d = record {
      right = λ t. subst (λ (o : Option Life). All IsRightLife (lives_of o s.past)) (sym h.life) (right_more s.past h.here (h.past t) (h.right t));
      leaves = λ t. subst (λ (o : Option Life). Keeps L (last_after o s.last kept) disk) (sym h.life) (life_keeps opens x h.here kept disk (h.begins t) h.history d);
      bytes = known_in disk;
      goes = h.goes;
      fuse = h.fused.fuse;
    }

-- the disk is the same in each view
pub disk_seen : {D : Type 0} (L : Ghosts D) (v : View L.tells) (opens : List Record → Type 0) (x : LifeState) (kept : ℕ) (disk : D) → IsDiskOf L opens x kept disk → IsDiskOf (seen L v) opens x kept disk
disk_seen L v opens x kept disk of = record { left = of.left; calls = of.calls }

-- the life that is open is this one
pub has_life : (tells : Type 0) (opens : List Record → Type 0) (h : List Entry) (here : Life) (s : Stage) → s.life ≡ Some here → (tells → opens here.opening) → here.history ≡ h → HasLife tells opens h s
has_life tells opens h here s is may same = λ l e.
    let eq : here ≡ l = some_same here l (sym is ∙ e) in
    (λ t. subst (λ (z : Life). opens z.opening) eq (may t), ap (λ (z : Life). z.history) (sym eq) ∙ same)
  where
    some_same : (a b : Life) → Some a ≡ Some b → a ≡ b
    some_same a b e = cc
