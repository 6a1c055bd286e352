-- What the reader of lines takes from its source.
use Rattle.std.specs.Prelude.{◌≡◌, ◌+◌, ◌<◌, ◌≤◌, ℕ, List, [], ◌∷◌, ◌++◌, length, Option, Bool, true, false, ◌==◌, ◌⊎◌}
use Rattle.std.specs.List.{list_any}
use Rattle.std.specs.declared.result.Result.{Result}
use Rattle.std.specs.declared.result.Result.TheVariants.{Ok, Err}
use Rattle.std.specs.Io.KnownBytes.{Consumes, IsAtEnd, prepend_known}
use Rattle.media.specs.Cause.{Rose}
use Rattle.line_reader.specs.declared.refusal.NotRead.{NotRead}
use Rattle.line_reader.specs.declared.refusal.NotRead.TheVariants as refusals
use Rattle.line_reader.specs.declared.input.Filled.{Filled}
use Rattle.line_reader.specs.declared.input.Filled.TheVariants as fills
use Rattle.line_reader.specs.declared.input.Next.{Next}
use Rattle.line_reader.specs.declared.input.Next.TheVariants as nexts

-- the most bytes of a line, with its end, and of a script
abbrev pub longest_line : ℕ
longest_line = 2048

abbrev pub longest_script : ℕ
longest_script = 16777216

-- a reader: the bytes that it has read and given to no line yet, how many the lines had so far with their ends, and how
-- many lines there were
pub record Reader : Type 0 where
  pub pending : List ℕ
  pub taken : ℕ
  pub lines : ℕ

abbrev pub first_reader : Reader
first_reader = record { pending = []; taken = 0; lines = 0 }

-- what comes yet: the pending bytes, and what is left of the source
abbrev pub to_come : Reader → Option (List ℕ) → Option (List ℕ)
to_come r left = prepend_known r.pending left

-- at most the longest script was read, and one byte more
abbrev pub IsBounded : Reader → Type 0
IsBounded r = r.taken + length r.pending ≤ longest_script + 1

-- a reader is filled: nothing is taken, and a byte is pending, or none is left, or too many were read
abbrev pub Fills : {E : Type 0} → Reader → Reader → Option (List ℕ) → Option (List ℕ) → Result Filled E → Type 0
Fills old new left_old left_new (Ok fills.Some) = Consumes (to_come old left_old) (to_come new left_new) [] × (0 < length new.pending)
Fills old new left_old left_new (Ok fills.End) = Consumes (to_come old left_old) (to_come new left_new) [] × IsAtEnd (to_come new left_new)
Fills old new left_old left_new (Ok fills.TooLong) = Consumes (to_come old left_old) (to_come new left_new) [] × (longest_script < new.taken)
Fills old new left_old left_new (Err e) = Consumes (to_come old left_old) (to_come new left_new) []

abbrev pub is_end : ℕ → Bool
is_end b = b == 10

abbrev pub has_end : List ℕ → Bool
has_end line = list_any is_end line

-- a line without its end: no line end in it, and with its end at most 2,048 bytes
pub record IsLine (line : List ℕ) : Type 0 where
  pub one : has_end line ≡ false
  pub short : length line < 2048

-- a line end comes next, or nothing
abbrev pub BeginsWithEnd : Bool → List ℕ → Type 0
BeginsWithEnd true rest = (more : List ℕ) × (rest ≡ 10 ∷ more)
BeginsWithEnd false rest = rest ≡ []

-- the bytes before the first line end, and whether there is one
pub record IsFront (bytes front : List ℕ) (ends : Bool) : Type 0 where
  pub rest : List ℕ
  pub whole : bytes ≡ front ++ rest
  pub one : has_end front ≡ false
  pub next : BeginsWithEnd ends rest

-- behind a part of a line: a line end comes next, or the part is as long as it may be, or nothing more is pending
abbrev pub IsNextEnd : Bool → ℕ → ℕ → List ℕ → Type 0
IsNextEnd true size most pending = (more : List ℕ) × (pending ≡ 10 ∷ more)
IsNextEnd false size most pending = (size ≡ most) ⊎ (pending ≡ [])

-- a line got the pending bytes before the first line end, so many at most
pub record GivesPart (old new : Reader) (before after : List ℕ) (most : ℕ) (ends : Bool) : Type 0 where
  pub part : List ℕ
  pub line : after ≡ before ++ part
  pub pending : old.pending ≡ part ++ new.pending
  pub one : has_end part ≡ false
  pub bound : length part ≤ most
  pub taken : new.taken ≡ old.taken + length part
  pub next : IsNextEnd ends (length part) most new.pending

-- the bytes are of one line: a line end stands at their own end, or nowhere
abbrev pub IsOfOneLine : List ℕ → Type 0
IsOfOneLine rest = (has_end rest ≡ false) ⊎ ((line : List ℕ) × (rest ≡ line ++ 10 ∷ []) × (has_end line ≡ false))

-- why these bytes begin no line of a script that had so many bytes before: they are too many for a line, or the input
-- ends within the line, or the script gets too long within the line or with its end
abbrev pub IsNoLine : ℕ → List ℕ → Option (List ℕ) → Type 0
IsNoLine before rest left = ((has_end rest ≡ false) × ((2048 ≤ length rest) ⊎ ((0 < length rest) × IsAtEnd left))) ⊎ (IsOfOneLine rest × (longest_script < before + length rest))

-- the input ends behind these bytes of a line
abbrev pub ended : List ℕ → Next
ended [] = nexts.End
ended (b ∷ bs) = nexts.Bad

abbrev pub TakesNext : Reader → Reader → Option (List ℕ) → Option (List ℕ) → Next → Type 0
TakesNext old new left_old left_new (nexts.Line line) =
    Consumes (to_come old left_old) (to_come new left_new) (line.items ++ 10 ∷ []) × IsLine line.items × (new.taken ≡ old.taken + length line.items + 1) × (new.taken ≤ longest_script) × (new.lines ≡ old.lines + 1)
TakesNext old new left_old left_new nexts.End = Consumes (to_come old left_old) (to_come new left_new) [] × IsAtEnd (to_come new left_new) × (new.taken ≡ old.taken)
TakesNext old new left_old left_new nexts.Bad = (rest : List ℕ) × Consumes (to_come old left_old) (to_come new left_new) rest × IsNoLine old.taken rest (to_come new left_new) × (new.taken ≡ old.taken + length rest)

abbrev pub TakesLine : {E : Type 0} → Reader → Reader → Option (List ℕ) → Option (List ℕ) → Result Next E → Type 0
TakesLine old new left_old left_new (Ok next) = TakesNext old new left_old left_new next
TakesLine old new left_old left_new (Err e) = (rest : List ℕ) × Consumes (to_come old left_old) (to_come new left_new) rest × (new.taken ≡ old.taken + length rest)

-- a line isn't read for want of memory, or since the source failed
abbrev pub IsReadFault : ℕ → ℕ → NotRead → Type 0
IsReadFault before now refusals.Memory = Unit {0}
IsReadFault before now refusals.SourceFault = Rose before now
