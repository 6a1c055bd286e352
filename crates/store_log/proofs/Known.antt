-- What is known of the bytes of a log disk stays so.
use Rattle.std.proofs.Common.{◌≡◌, ◌∷◌, ℕ, List, [], sym, subst, ◌∙◌, ⊎_elim, arith}
use Rattle.media.specs.Crash.{Only, NoMore}
use Rattle.media.specs.Kept.{Kept}
use Rattle.media.specs.declared.disk.Disk.{Ghosts}
use Rattle.log_blocks.specs.Log.{Block, StandsFor, open_gate}
use Rattle.log_blocks.specs.LogState.{LogState}
use Rattle.log_blocks.specs.Opening.{IsBadAt}
use Rattle.life_commands.specs.Bytes.{Bytes, Unknown, Gated, Bad, IsFormatted, IsGated, IsBad, Known, MayMake, MayOpen, StaysKnown, Allows}
use Rattle.opening.specs.Bytes.{IsRead, StaysSame}
use Rattle.store_log.proofs.Gates.{NeverBad, log_formatted}

-- where nothing is known, no disk breaks it
pub known_none : {D : Type 0} (tells : Type 0) (L : Ghosts D) (b : Bytes) (disk : D) → MayMake b → Known tells L b disk
known_none tells L Unknown disk may = tt
known_none tells L _ disk may = absurd may

module _ {D : Type 0} (tells : Type 0) (L : Ghosts D) (old new : D) where
  same_gate : L.told new ≡ L.told old → ((c : Kept) → L.may_leave new c → IsFormatted c) → IsGated L.told L.may_leave old → IsGated L.told L.may_leave new
  same_gate same crash g = record { now = subst IsFormatted (sym same) g.now; crash = crash }

  -- no byte changes, and a crash leaves nothing else
  pub known_by : (tells → L.told new ≡ L.told old) → NoMore L.may_leave old new → StaysKnown tells L old new
  known_by same more Unknown h = tt
  known_by same more Gated (t, g) = (t, same_gate (same t) (λ c left. g.crash c (more c left)) g)
  known_by same more (Bad k) (t, b) = (t, record { now = same t ∙ b.now; only = λ c left. b.only c (more c left); block = b.block; byte = b.byte; bad = b.bad })

  -- behind a stop
  pub known_behind : (tells → L.may_leave old (L.told new)) → (tells → Only (L.told new) (L.may_leave new)) → StaysKnown tells L old new
  known_behind may only Unknown h = tt
  known_behind may only Gated (t, g) = let now = g.crash (L.told new) (may t) in (t, record { now = now; crash = λ c left. subst IsFormatted (sym (only t c left)) now })
  known_behind may only (Bad k) (t, b) =
      let now = b.only (L.told new) (may t) in
      (t, record { now = now; only = λ c left. only t c left ∙ now; block = b.block; byte = b.byte; bad = b.bad })

-- an empty log is behind no open gate
not_gated : (k : Kept) → StandsFor [] k → IsFormatted k → ⊥
not_gated k s f = ⊎_elim (λ short. omega (arith, short.0, f.long)) (λ h. h.closed (same h.gate h.rest (sym h.bytes ∙ f.gate))) s.bytes
  where
    same : (gate : ℕ) (rest : List ℕ) → gate ∷ rest ≡ open_gate ∷ f.rest → gate ≡ open_gate
    same gate rest e = cc

-- a bad disk has an open gate, and more behind it
module _ {D : Type 0} (tells : Type 0) (L : Ghosts D) (disk : D) (never : NeverBad) (found : tells → (bs : List Block) × StandsFor bs (L.told disk)) where
  not_bad : (k : Kept) → tells → IsBad L.told L.may_leave k disk → ⊥
  not_bad k t b =
      let d = found t in
      never d.0 b.block b.byte (L.told disk) d.1 (subst (IsBadAt b.block b.byte) (sym b.now) b.bad)

  -- a log was read
  pub allows_open : Allows tells L disk MayOpen
  allows_open Unknown h = tt
  allows_open Gated h = tt
  allows_open (Bad k) (t, b) = not_bad k t b

  -- the log that was read is empty
  pub allows_make : (tells → StandsFor [] (L.told disk)) → Allows tells L disk MayMake
  allows_make none Unknown h = tt
  allows_make none Gated (t, g) = not_gated (L.told disk) (none t) g.now
  allows_make none (Bad k) (t, b) = not_bad k t b

-- behind an open gate stands a block
gated_still : (bs : List Block) (k c : Kept) → StandsFor bs k → StandsFor bs c → IsFormatted k → IsFormatted c
gated_still [] k c old new g = absurd (not_gated k old g)
gated_still (b ∷ bs) k c old new g = log_formatted b bs c new

-- a disk that kept its blocks
module _ {D : Type 0} (tells : Type 0) (L : Ghosts D) (old new : D) (never : NeverBad) where
  known_blocks : (tells → (bs : List Block) × StandsFor bs (L.told old) × StandsFor bs (L.told new) × Only (L.told new) (L.may_leave new)) → StaysKnown tells L old new
  known_blocks same Unknown h = tt
  known_blocks same Gated (t, g) =
      let k = same t in
      let now = gated_still k.0 (L.told old) (L.told new) k.1 k.2 g.now in
      (t, record { now = now; crash = λ c left. subst IsFormatted (sym (k.3 c left)) now })
  known_blocks same (Bad k) (t, b) = absurd (not_bad tells L old never (λ u. ((same u).0, (same u).1)) k t b)

  pub known_read : (log : LogState D) → log.device ≡ new → (tells → IsRead L.told L.may_leave old log) → StaysKnown tells L old new
  known_read log is read = known_blocks (λ t.
      let r = read t in
      (r.0, r.1, subst (λ (d : D). StandsFor r.0 (L.told d)) is r.2.stands, subst (λ (d : D). Only (L.told d) (L.may_leave d)) is r.2.only))

  pub known_same : (tells → StaysSame L.told L.may_leave old new) → StaysKnown tells L old new
  known_same same b h = by b h
    where
      by : (b : Bytes) → Known tells L b old → Known tells L b new
      by Unknown h = tt
      by Gated (t, g) = ⊎_elim (λ x. known_by tells L old new (λ _. x.0) x.1 Gated (t, g)) (λ x. known_blocks (λ _. x) Gated (t, g)) (same t)
      by (Bad k) (t, b) = ⊎_elim (λ x. known_by tells L old new (λ _. x.0) x.1 (Bad k) (t, b)) (λ x. known_blocks (λ _. x) (Bad k) (t, b)) (same t)

-- where nothing can be known of a disk, what is known of it stays so of any other
pub known_unless : {D : Type 0} (tells : Type 0) (L : Ghosts D) (disk left : D) → Allows tells L disk MayMake → StaysKnown tells L disk left
known_unless tells L disk left none b h = known_none tells L b left (none b h)
