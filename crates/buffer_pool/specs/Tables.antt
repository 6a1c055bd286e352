-- The frames of a pool, and what a change of one page leaves.
use Rattle.std.specs.Prelude.{◌≡◌, ◌≢◌, ◌⊎◌, ℕ, ◌<◌, List, length, Option, Some, None, Bool, true, false, IfSome}
use Rattle.books.specs.Rights.{PageClaim}
use Rattle.page_index.specs.Index.{Index, for_page, home_of, limit_of, written_of, IsIn}
use Rattle.page_ops.specs.Claims.{IsInRange}
use Rattle.page_ops.specs.Hands.{Hand}
use Rattle.page_ops.specs.declared.taken.Taken.{Taken}
use Rattle.page_ops.specs.declared.taken.Taken.TheVariants.{Page, Busy, Away}
use Rattle.buffer_pool.specs.declared.frame.Frame.{Frame}
use Rattle.buffer_pool.specs.declared.frame.Frame.TheVariants.{Empty, Kept, Full}

-- for each page, from 1 on, its frame; and the index, with the rights that are at home
pub record Table : Type 0 where
  pub frames : List (Frame Hand)
  pub index : Index

-- the frame of the page; of a page that the pool has no frame for, an empty one
abbrev pub frame_of : Table → ℕ → Frame Hand
frame_of t page = for_page Empty t.frames page

abbrev pub right_of : Table → ℕ → Option PageClaim
right_of t page = home_of t.index page

-- the pool has a frame for the page
abbrev pub HasFrame : Table → ℕ → Type 0
HasFrame t page = IsIn t.index page

abbrev pub IsOf : ℕ → Frame Hand → Type 0
IsOf page (Full h) = h.page ≡ page
IsOf page Kept = Unit {0}
IsOf page Empty = Unit {0}

-- each page of the index has one frame, in which no other page is; the rights at home are in their ranges
pub record IsKept (t : Table) : Type 0 where
  pub pages : length t.frames ≡ limit_of t.index
  pub own : (page : ℕ) → IsOf page (frame_of t page)
  pub rights : (page : ℕ) → IfSome (right_of t page) IsInRange

-- The frame of the page and the home of its right become these, and all else is as before.
pub record Becomes (page : ℕ) (now : Frame Hand) (home : Option PageClaim) (old new : Table) : Type 0 where
  pub limit : limit_of new.index ≡ limit_of old.index
  pub frame : frame_of new page ≡ now
  pub right : right_of new page ≡ home
  pub frames : (q : ℕ) → q ≢ page → frame_of new q ≡ frame_of old q
  pub rights : (q : ℕ) → q ≢ page → right_of new q ≡ right_of old q

-- and so are the LSNs as which the pages were written
pub record Moves (page : ℕ) (now : Frame Hand) (home : Option PageClaim) (old new : Table) : Type 0 where
  pub becomes : Becomes page now home old new
  pub written : (q : ℕ) → written_of new.index q ≡ written_of old.index q

-- each frame and each right at home is as before
pub record Stays (old new : Table) : Type 0 where
  pub limit : limit_of new.index ≡ limit_of old.index
  pub frames : (q : ℕ) → frame_of new q ≡ frame_of old q
  pub rights : (q : ℕ) → right_of new q ≡ right_of old q

-- A page that is taken was in its frame, which is kept for it. It is busy exactly where its frame is kept, and away where
-- that is empty.
abbrev pub Takes : ℕ → Table → Table → Taken Hand → Type 0
Takes page old new (Page h) = (frame_of old page ≡ Full h) × Moves page Kept (right_of old page) old new
Takes page old new Busy = (frame_of old page ≡ Kept) × (new ≡ old)
Takes page old new Away = (frame_of old page ≡ Empty) × (new ≡ old)

-- the page is in its frame, and the data device lacks it
abbrev pub is_dirty : Frame Hand → Bool
is_dirty (Full h) = h.dirty
is_dirty Kept = false
is_dirty Empty = false

abbrev pub is_full : Frame Hand → Bool
is_full (Full h) = true
is_full Kept = false
is_full Empty = false

-- the page is in its frame, where the pool has one for it
pub record PutsIn (h : Hand) (old new : Table) : Type 0 where
  pub there : HasFrame old h.page → Moves h.page (Full h) (right_of old h.page) old new
  pub none : ¬ HasFrame old h.page → new ≡ old

-- the right to the page is at home and its frame empty, where the pool has one for it
pub record SendsHome (right : PageClaim) (old new : Table) : Type 0 where
  pub there : HasFrame old right.page → Moves right.page Empty (Some right) old new
  pub none : ¬ HasFrame old right.page → new ≡ old

-- the right was at home and the frame empty, which is then kept; without the right nothing changes
abbrev pub Calls : ℕ → Table → Table → Option PageClaim → Type 0
Calls page old new (Some right) = (frame_of old page ≡ Empty) × (right_of old page ≡ Some right) × Moves page Kept None old new
Calls page old new None = (frame_of old page ≡ Empty → right_of old page ≡ None) × Moves page (frame_of old page) (right_of old page) old new

-- the least dirty page above this one
abbrev pub IsNextDirty : Table → ℕ → Option ℕ → Type 0
IsNextDirty t after (Some page) = (after < page) × (is_dirty (frame_of t page) ≡ true) × ((q : ℕ) → after < q → q < page → is_dirty (frame_of t q) ≡ false)
IsNextDirty t after None = (q : ℕ) → after < q → is_dirty (frame_of t q) ≡ false

-- ---- pages that are written

-- the page is in its frame and clean, and was written as its LSN
pub record IsStored (page : ℕ) (h : Hand) (old new : Table) : Type 0 where
  pub was : frame_of old page ≡ Full h
  pub frame : Becomes page (Full (record h { dirty = false })) (right_of old page) old new
  pub written : written_of new.index page ≡ h.lsn

-- the page is dropped: its frame is empty and its right at home
pub record IsDropped (page : ℕ) (h : Hand) (old new : Table) : Type 0 where
  pub was : frame_of old page ≡ Full h
  pub frame : Becomes page Empty (Some (record { page = page; lsn = h.lsn })) old new

-- A page that is dirty in its frame is written or dropped; another one stays as it is.
abbrev pub Stores : ℕ → Table → Table → Type 0
Stores page old new = ((is_dirty (frame_of old page) ≡ false) × Stays old new) ⊎ ((h : Hand) × (IsStored page h old new ⊎ IsDropped page h old new))

-- ---- the data device is lost

-- a page in its frame is dropped; one in hand or on its way stays so
abbrev pub lost_frame : Frame Hand → Frame Hand
lost_frame (Full h) = Empty
lost_frame Kept = Kept
lost_frame Empty = Empty

-- and its right goes home
abbrev pub lost_right : Frame Hand → Option PageClaim → Option PageClaim
lost_right (Full h) right = Some (record { page = h.page; lsn = h.lsn })
lost_right Kept right = right
lost_right Empty right = right

-- the page is dropped, if it is in its frame
abbrev pub Drops : ℕ → Table → Table → Type 0
Drops page old new = Becomes page (lost_frame (frame_of old page)) (lost_right (frame_of old page) (right_of old page)) old new

-- each page in its frame is dropped, and no page counts as written
pub record Loses (old new : Table) : Type 0 where
  pub limit : limit_of new.index ≡ limit_of old.index
  pub frames : (q : ℕ) → frame_of new q ≡ lost_frame (frame_of old q)
  pub rights : (q : ℕ) → right_of new q ≡ lost_right (frame_of old q) (right_of old q)
  pub written : (q : ℕ) → written_of new.index q ≡ 0
