-- LSNs and sizes of the blocks in memory.
use Rattle.std.proofs.Common.{◌≡◌, ℕ, zero, suc, ◌+◌, ◌-◌, ◌*◌, ◌<◌, ◌≤◌, ◌^◌, Bool, true, false, List, [], ◌∷◌, ◌++◌, length, take, drop, min, refl, sym, ◌∙◌, ap, arith, append-nil, append_assoc, length-append, take-append-drop}
use Rattle.std.specs.Prelude.{map, nat_le, Option, if◌then◌else◌}
use Rattle.std.proofs.lemmas.Bool.{leb-true}
use Rattle.store_model.proofs.Bools.{both_true}
use Rattle.log_blocks.specs.Batch.{begun, joined, joins, numbered, records_in, with_group, IsChecked}
use Rattle.log_blocks.specs.Log.{Block, IsRun, blocks, body, open_gate}
use Rattle.log_blocks.specs.LogState.{LogState, checkpoint_of, last_or, log_end}
use Rattle.log_blocks.specs.Opening.{Progress, places}
use Rattle.log_blocks.specs.declared.header.Place.{Place}
use Rattle.log_blocks.proofs.BlockLists.{blocks-append}
use Rattle.log_blocks.proofs.Lasts.{last_or-append, map-append}
use Rattle.log_blocks.proofs.Whole.{length-block, length-numbered}
use Rattle.log_manager.specs.declared.counted.Counted.{Counted}
use Rattle.wal_record.specs.declared.record.Record.{Record}
use Rattle.log_manager.specs.Payload.{bytes_of}
use Rattle.log_manager.specs.Managed.{HasMore, IsCounted, with_batch}

-- ---- a group that joins the last block, or begins one

pub group_records : (bs : List Block) (count k : ℕ) (bytes : List ℕ) → records_in (with_group bs count k bytes) ≡ records_in bs + count
group_records bs count k bytes = by (joins bs count (length bytes)) refl
  where
    in_joined : (bs : List Block) → joins bs count (length bytes) ≡ true → records_in (joined bs count k bytes) ≡ records_in bs + count
    in_joined [] j = absurd cc
    in_joined (b ∷ []) j = omega arith
    in_joined (b ∷ d ∷ bs) j = omega (arith, in_joined (d ∷ bs) j)

    in_begun : (bs : List Block) → records_in (bs ++ begun count k bytes ∷ []) ≡ records_in bs + count
    in_begun [] = omega arith
    in_begun (b ∷ bs) = omega (arith, in_begun bs)

    by : (b : Bool) → joins bs count (length bytes) ≡ b → records_in (if b then joined bs count k bytes else bs ++ begun count k bytes ∷ []) ≡ records_in bs + count
    by true j = in_joined bs j
    by false j = in_begun bs

length-blocks : (b : Block) (bs : List Block) → length (blocks (b ∷ bs)) ≡ 23 + length b.payload + length (blocks bs)
length-blocks b bs = omega (arith, length-block b, length-append (open_gate ∷ body b) (blocks bs))

-- it takes its bytes, and those of a block's header at most
pub group_size : (bs : List Block) (count k : ℕ) (bytes : List ℕ) → length (blocks (with_group bs count k bytes)) ≤ length (blocks bs) + length bytes + 23
group_size bs count k bytes = by (joins bs count (length bytes)) refl
  where
    in_joined : (bs : List Block) → joins bs count (length bytes) ≡ true → length (blocks (joined bs count k bytes)) ≡ length (blocks bs) + length bytes
    in_joined [] j = absurd cc
    in_joined (b ∷ []) j =
        omega (arith, length-blocks b [], length-blocks (record { first = b.first; checkpoint = k; count = b.count + count; payload = b.payload ++ bytes }) [], length-append b.payload bytes)
    in_joined (b ∷ d ∷ bs) j = omega (arith, length-blocks b (d ∷ bs), length-blocks b (joined (d ∷ bs) count k bytes), in_joined (d ∷ bs) j)

    in_begun : (bs : List Block) → length (blocks (bs ++ begun count k bytes ∷ [])) ≡ length (blocks bs) + length bytes + 23
    in_begun [] = omega (arith, length-blocks (begun count k bytes) [])
    in_begun (b ∷ bs) = omega (arith, length-blocks b bs, length-blocks b (bs ++ begun count k bytes ∷ []), in_begun bs)

    by : (b : Bool) → joins bs count (length bytes) ≡ b → length (blocks (if b then joined bs count k bytes else bs ++ begun count k bytes ∷ [])) ≤ length (blocks bs) + length bytes + 23
    by true j = omega (arith, in_joined bs j)
    by false j = omega (arith, in_begun bs)

-- its Checkpoint is the last
pub group_checked : (n : ℕ) (bs : List Block) (count k : ℕ) (bytes : List ℕ) → IsChecked n bs → k < n + records_in bs + count → IsChecked n (with_group bs count k bytes)
group_checked n bs count k bytes c lt = by (joins bs count (length bytes)) refl
  where
    in_joined : (n : ℕ) (bs : List Block) → IsChecked n bs → k < n + records_in bs + count → joins bs count (length bytes) ≡ true → IsChecked n (joined bs count k bytes)
    in_joined n [] c lt j = absurd cc
    in_joined n (b ∷ []) c lt j = (omega (arith, lt), tt)
    in_joined n (b ∷ d ∷ bs) c lt j = (c.0, in_joined (n + b.count) (d ∷ bs) c.1 (omega (arith, lt)) j)

    in_begun : (n : ℕ) (bs : List Block) → IsChecked n bs → k < n + records_in bs + count → IsChecked n (bs ++ begun count k bytes ∷ [])
    in_begun n [] c lt = (omega (arith, lt), tt)
    in_begun n (b ∷ bs) c lt = (c.0, in_begun (n + b.count) bs c.1 (omega (arith, lt)))

    by : (b : Bool) → joins bs count (length bytes) ≡ b → IsChecked n (if b then joined bs count k bytes else bs ++ begun count k bytes ∷ [])
    by true j = in_joined n bs c lt j
    by false j = in_begun n bs c lt

abbrev pub checkpoint_of_block : Block → ℕ
checkpoint_of_block b = b.checkpoint

pub group_last : (c n : ℕ) (bs : List Block) (count k : ℕ) (bytes : List ℕ) → last_or c (map checkpoint_of_block (numbered n (with_group bs count k bytes))) ≡ k
group_last c n bs count k bytes = by (joins bs count (length bytes)) refl
  where
    in_joined : (c n : ℕ) (bs : List Block) → joins bs count (length bytes) ≡ true → last_or c (map checkpoint_of_block (numbered n (joined bs count k bytes))) ≡ k
    in_joined c n [] j = absurd cc
    in_joined c n (b ∷ []) j = refl
    in_joined c n (b ∷ d ∷ bs) j = in_joined b.checkpoint (n + b.count) (d ∷ bs) j

    in_begun : (c n : ℕ) (bs : List Block) → last_or c (map checkpoint_of_block (numbered n (bs ++ begun count k bytes ∷ []))) ≡ k
    in_begun c n [] = refl
    in_begun c n (b ∷ bs) = in_begun b.checkpoint (n + b.count) bs

    by : (b : Bool) → joins bs count (length bytes) ≡ b → last_or c (map checkpoint_of_block (numbered n (if b then joined bs count k bytes else bs ++ begun count k bytes ∷ []))) ≡ k
    by true j = in_joined c n bs j
    by false j = in_begun c n bs

-- ---- numbers

pub group_run : (n : ℕ) (bs : List Block) (count k : ℕ) (bytes : List ℕ) → IsRun n (numbered n bs) → 1 ≤ n → 1 ≤ count → count ≤ 3 → 1 ≤ length bytes → length bytes ≤ 4194304
    → k < n + records_in bs + count → n + records_in bs + count ≤ 9223372036854775808 → IsRun n (numbered n (with_group bs count k bytes))
group_run n bs count k bytes run some one three byte most lt le = by (joins bs count (length bytes)) refl
  where
    in_joined : (n : ℕ) (bs : List Block) → IsRun n (numbered n bs) → k < n + records_in bs + count → n + records_in bs + count ≤ 9223372036854775808 → joins bs count (length bytes) ≡ true
        → IsRun n (numbered n (joined bs count k bytes))
    in_joined n [] run lt le j = absurd cc
    in_joined n (b ∷ []) run lt le j =
        let p = both_true (nat_le (b.count + count) 65535) (nat_le (length b.payload + length bytes) 4194304) j in
        let l = run.1 in (
          refl,
          record {
            first = l.first;
            count = (omega (arith, l.count.0), omega (arith, leb-true (b.count + count) 65535 p.0));
            last = omega (arith, le);
            checkpoint = omega (arith, lt);
            payload = (omega (arith, l.payload.0, length-append b.payload bytes), omega (arith, leb-true (length b.payload + length bytes) 4194304 p.1, length-append b.payload bytes));
          },
          tt,
        )
    in_joined n (b ∷ d ∷ bs) run lt le j = (refl, run.1, in_joined (n + b.count) (d ∷ bs) run.2 (omega (arith, lt)) (omega (arith, le)) j)

    in_begun : (n : ℕ) (bs : List Block) → 1 ≤ n → IsRun n (numbered n bs) → k < n + records_in bs + count → n + records_in bs + count ≤ 9223372036854775808
        → IsRun n (numbered n (bs ++ begun count k bytes ∷ []))
    in_begun n [] some run lt le =
        (refl, record { first = some; count = (one, omega (arith, three)); last = omega (arith, le); checkpoint = omega (arith, lt); payload = (byte, most) }, tt)
    in_begun n (b ∷ bs) some run lt le = (refl, run.1, in_begun (n + b.count) bs (omega (arith, some)) run.2 (omega (arith, lt)) (omega (arith, le)))

    by : (b : Bool) → joins bs count (length bytes) ≡ b → IsRun n (numbered n (if b then joined bs count k bytes else bs ++ begun count k bytes ∷ []))
    by true j = in_joined n bs run lt le j
    by false j = in_begun n bs some run lt le

-- ---- what is counted

min_is : (a b : ℕ) → a ≤ b → a ≡ min a b
min_is a b le = omega (arith, le)

last_in : (log_places pending : List ℕ) (k : ℕ) (more : List ℕ) → ((c : ℕ) → last_or c more ≡ k) → last_or (last_or 0 log_places) (pending ++ more) ≡ k
last_in log_places pending k more last = last_or-append (last_or 0 log_places) pending more ∙ last (last_or (last_or 0 log_places) pending)

module _ {D : Type 0} (log : LogState D) (bs : List Block) where
  -- the Checkpoint of the last block that joined
  group_checkpoint : (count k : ℕ) (bytes : List ℕ) → checkpoint_of (with_batch log (with_group bs count k bytes)) ≡ k
  group_checkpoint count k bytes =
      ap (last_or (last_or 0 (map (λ p. p.checkpoint) log.places))) (map-append checkpoint_of_block log.pending (numbered log.next (with_group bs count k bytes)))
      ∙ last_in (map (λ p. p.checkpoint) log.places) (map checkpoint_of_block log.pending) k (map checkpoint_of_block (numbered log.next (with_group bs count k bytes)))
      (λ c. group_last c log.next bs count k bytes)

  some_there : (count k : ℕ) (bytes : List ℕ) (spare : ℕ) (c : Counted) → IsCounted log bs spare c → 1 ≤ count → c.records + count ≡ 0 → with_group bs count k bytes ≡ []
  some_there count k bytes spare c counted one none = absurd (omega (arith, none, one))

  -- a group joins, where there is room for it
  pub counted_more : (count k : ℕ) (bytes : List ℕ) (spare : ℕ) (c : Counted) → IsCounted log bs spare c → 1 ≤ count → k ≤ log.next + c.records + count - 1
      → log.next + c.records + spare + count ≤ 2 ^ 62 → log_end log + c.bytes + length bytes + 23 < 2 ^ 62
      → IsCounted log (with_group bs count k bytes) spare (record { records = c.records + count; bytes = c.bytes + length bytes + 23; checkpoint = k })
  counted_more count k bytes spare c counted one le places room = record {
    checked = group_checked log.next bs count k bytes counted.checked (omega (arith, counted.count, one, le));
    count = omega (arith, counted.count, group_records bs count k bytes);
    none = some_there count k bytes spare c counted one;
    size = omega (arith, counted.size, group_size bs count k bytes);
    few = omega (arith, places);
    short = omega (arith, room);
    places = λ some. omega (arith, places);
    room = λ some. omega (arith, room);
    checkpoint = min_is k (log.next + (c.records + count) - 1) (omega (arith, le)) ∙ ap (λ n. min n (log.next + (c.records + count) - 1)) (sym (group_checkpoint count k bytes));
  }

  -- a short record joins, for which there was room
  pub counted_short : (bytes : List ℕ) (spare : ℕ) (c : Counted) → IsCounted log bs spare c → 1 ≤ spare → length bytes ≤ 17
      → IsCounted log (with_group bs 1 c.checkpoint bytes) (spare - 1) (record { records = c.records + 1; bytes = c.bytes; checkpoint = c.checkpoint })
  counted_short bytes spare c counted one short =
      let places = counted.places (omega (arith, one)) in
      let room = counted.room (omega (arith, one)) in
      let below : c.checkpoint ≤ log.next + c.records - 1 = omega (arith, counted.checkpoint) in
      record {
        checked = group_checked log.next bs 1 c.checkpoint bytes counted.checked (omega (arith, counted.count, below));
        count = omega (arith, counted.count, group_records bs 1 c.checkpoint bytes);
        none = some_there 1 c.checkpoint bytes spare c counted (omega arith);
        size = omega (arith, counted.size, group_size bs 1 c.checkpoint bytes, one, short);
        few = omega (arith, counted.few, one);
        short = counted.short;
        places = λ some. omega (arith, places, one);
        room = λ some. room;
        checkpoint = min_is c.checkpoint (log.next + (c.records + 1) - 1) (omega (arith, below)) ∙ ap (λ n. min n (log.next + (c.records + 1) - 1)) (sym (group_checkpoint 1 c.checkpoint bytes));
      }

  -- room for one short record more
  pub counted_spare : (spare : ℕ) (c : Counted) → IsCounted log bs spare c → log.next + c.records + spare + 1 ≤ 2 ^ 62 → log_end log + c.bytes + 40 + 23 < 2 ^ 62
      → IsCounted log bs (spare + 1) (record { records = c.records; bytes = c.bytes + 40; checkpoint = c.checkpoint })
  counted_spare spare c counted places room = record {
    checked = counted.checked;
    count = counted.count;
    none = counted.none;
    size = omega (arith, counted.size);
    few = omega (arith, places);
    short = omega (arith, room);
    places = λ some. omega (arith, places);
    room = λ some. omega (arith, room);
    checkpoint = counted.checkpoint;
  }

-- the log's blocks are all its own
pub with_none : {D : Type 0} (log : LogState D) → with_batch log [] ≡ log
with_none log i = record log { pending = append-nil log.pending i; next = none log.next i }
  where
    none : (n : ℕ) → n + 0 ≡ n
    none n = omega arith

pub end_more : {D : Type 0} (log : LogState D) (bs : List Block) → log_end (with_batch log bs) ≡ log_end log + length (blocks bs)
end_more log bs = omega (arith, ap length (blocks-append log.pending (numbered log.next bs)), length-append (blocks log.pending) (blocks (numbered log.next bs)), length-numbered log.next bs)

-- the blocks in memory join the log
pub counted_over : {D : Type 0} (log : LogState D) (bs : List Block) (spare : ℕ) (c : Counted) → IsCounted log bs spare c
    → IsCounted (with_batch log bs) [] spare (record { records = 0; bytes = 40 * spare; checkpoint = c.checkpoint })
counted_over log bs spare c counted = record {
  checked = tt;
  count = refl;
  none = λ _. refl;
  size = omega arith;
  few = omega (arith, counted.few);
  short = omega (arith, counted.size, counted.short);
  places = λ some. omega (arith, counted.places (omega (arith, some)), counted.count);
  room = λ some. omega (arith, counted.room (omega (arith, some)), counted.size, end_more log bs);
  checkpoint = counted.checkpoint ∙ ap (λ n. min (checkpoint_of (with_batch log bs)) n) bound ∙ ap (λ (l : LogState _). min (checkpoint_of l) (log.next + records_in bs + 0 - 1)) (sym (with_none (with_batch log bs)));
}
  where
    bound : log.next + c.records - 1 ≡ log.next + records_in bs + 0 - 1
    bound = omega (arith, counted.count)

-- the same, over a log whose next LSN, end and last Checkpoint are the same
pub counted_same : {D : Type 0} (old new : LogState D) (spare : ℕ) (c : Counted) → IsCounted old [] spare c → new.next ≡ old.next → log_end new ≡ log_end old
    → checkpoint_of new ≡ checkpoint_of old → IsCounted new [] spare c
counted_same old new spare c counted next end checkpoint = record {
  checked = tt;
  count = counted.count;
  none = counted.none;
  size = counted.size;
  few = counted.few;
  short = counted.short;
  places = λ some. omega (arith, counted.places some, next);
  room = λ some. omega (arith, counted.room some, end);
  checkpoint = counted.checkpoint ∙ ap (λ (l : LogState _). min (checkpoint_of l) (old.next + c.records - 1)) (with_none old)
      ∙ ap (λ n. min n (old.next + c.records - 1)) (sym checkpoint) ∙ ap (λ n. min (checkpoint_of new) (n + c.records - 1)) (sym next)
      ∙ ap (λ (l : LogState _). min (checkpoint_of l) (new.next + c.records - 1)) (sym (with_none new));
}

-- ---- blocks that were written

pub checkpoints-places : (at : ℕ) (bs : List Block) → map (λ (p : Place). p.checkpoint) (places at bs) ≡ map checkpoint_of_block bs
checkpoints-places at [] = refl
checkpoints-places at (b ∷ bs) = ap (λ (l : List ℕ). b.checkpoint ∷ l) (checkpoints-places (at + length (open_gate ∷ body b)) bs)

pub checkpoint_written : {D : Type 0} (old new : LogState D) → Progress old.gate old.places old.pending new.gate new.places new.pending → checkpoint_of new ≡ checkpoint_of old
checkpoint_written old new p =
    let cp : Place → ℕ = λ p. p.checkpoint in
    let done = take p.count old.pending in
    let left = drop p.count old.pending in
    let before = last_or 0 (map cp old.places) in
    ap (λ (l : List Place). last_or (last_or 0 (map cp l)) (map checkpoint_of_block new.pending)) p.places_are
    ∙ ap (λ (l : List ℕ). last_or (last_or 0 l) (map checkpoint_of_block new.pending)) (map-append cp old.places (places old.gate done))
    ∙ ap (λ n. last_or n (map checkpoint_of_block new.pending)) (last_or-append 0 (map cp old.places) (map cp (places old.gate done)))
    ∙ ap (λ (l : List ℕ). last_or (last_or before l) (map checkpoint_of_block new.pending)) (checkpoints-places old.gate done)
    ∙ ap (λ (l : List Block). last_or (last_or before (map checkpoint_of_block done)) (map checkpoint_of_block l)) p.left
    ∙ sym (last_or-append before (map checkpoint_of_block done) (map checkpoint_of_block left))
    ∙ ap (last_or before) (sym (map-append checkpoint_of_block done left))
    ∙ ap (λ (l : List Block). last_or before (map checkpoint_of_block l)) (take-append-drop p.count old.pending)

pub end_written : {D : Type 0} (old new : LogState D) → Progress old.gate old.places old.pending new.gate new.places new.pending → log_end new ≡ log_end old
end_written old new p =
    let done = take p.count old.pending in
    let left = drop p.count old.pending in
    let both = ap (λ (l : List Block). length (blocks l)) (take-append-drop p.count old.pending) in
    omega (arith, p.gate_is, ap (λ (l : List Block). length (blocks l)) p.left, both, ap length (blocks-append done left), length-append (blocks done) (blocks left))

pub last_or-drop : (c n : ℕ) (xs : List ℕ) → n < length xs → last_or c (drop n xs) ≡ last_or c xs
last_or-drop c n [] lt = absurd (omega (arith, lt))
last_or-drop c zero (x ∷ xs) lt = refl
last_or-drop c (suc n) (x ∷ []) lt = absurd (omega (arith, lt))
last_or-drop c (suc n) (x ∷ y ∷ xs) lt = last_or-drop c n (y ∷ xs) (omega (arith, lt))

-- ---- durable blocks that go

last_dropped : (c n : ℕ) (ps : List Place) → n < length ps → last_or c (map (λ (p : Place). p.checkpoint) (drop n ps)) ≡ last_or c (map (λ (p : Place). p.checkpoint) ps)
last_dropped c n [] lt = absurd (omega (arith, lt))
last_dropped c zero (p ∷ ps) lt = refl
last_dropped c (suc n) (p ∷ []) lt = absurd (omega (arith, lt))
last_dropped c (suc n) (p ∷ q ∷ ps) lt = last_dropped c n (q ∷ ps) (omega (arith, lt))

-- the log on another disk, without some durable blocks
abbrev pub without_first : {D : Type 0} → LogState D → D → Option ℕ → ℕ → LogState D
without_first log device ended n = record log { device = device; ended = ended; places = drop n log.places }

pub counted_dropped : {D : Type 0} (log : LogState D) (device : D) (ended : Option ℕ) (bs : List Block) (spare n : ℕ) (c : Counted) → IsCounted log bs spare c → n < length log.places
    → IsCounted (without_first log device ended n) bs spare c
counted_dropped log device ended bs spare n c counted lt = record {
  checked = counted.checked;
  count = counted.count;
  none = counted.none;
  size = counted.size;
  few = counted.few;
  short = counted.short;
  places = counted.places;
  room = counted.room;
  checkpoint = counted.checkpoint ∙ ap (λ m. min (last_or m (map checkpoint_of_block (log.pending ++ numbered log.next bs))) (log.next + c.records - 1)) (sym (last_dropped 0 n log.places lt));
}

-- the same on another disk
pub counted_elsewhere : {D : Type 0} (log : LogState D) (device : D) (ended : Option ℕ) (bs : List Block) (spare : ℕ) (c : Counted) → IsCounted log bs spare c
    → IsCounted (record log { device = device; ended = ended }) bs spare c
counted_elsewhere log device ended bs spare c counted = record {
  checked = counted.checked;
  count = counted.count;
  none = counted.none;
  size = counted.size;
  few = counted.few;
  short = counted.short;
  places = counted.places;
  room = counted.room;
  checkpoint = counted.checkpoint;
}

-- ---- a group stands in one block

pub group_whole : (n : ℕ) (bs : List Block) (count k : ℕ) (bytes : List ℕ)
    → (front : List Block) × (block : Block) × (own : List ℕ) × (numbered n (with_group bs count k bytes) ≡ front ++ block ∷ []) × (block.payload ≡ own ++ bytes)
group_whole n bs count k bytes = by (joins bs count (length bytes)) refl
  where
    in_joined : (n : ℕ) (bs : List Block) → joins bs count (length bytes) ≡ true
        → (front : List Block) × (block : Block) × (own : List ℕ) × (numbered n (joined bs count k bytes) ≡ front ++ block ∷ []) × (block.payload ≡ own ++ bytes)
    in_joined n [] j = absurd cc
    in_joined n (b ∷ []) j = ([], record { first = n; checkpoint = k; count = b.count + count; payload = b.payload ++ bytes }, b.payload, refl, refl)
    in_joined n (b ∷ d ∷ bs) j =
        let x = in_joined (n + b.count) (d ∷ bs) j in
        let own : Block = record { first = n; checkpoint = b.checkpoint; count = b.count; payload = b.payload } in
        (own ∷ x.0, x.1, x.2, ap (λ (l : List Block). own ∷ l) x.3, x.4)

    in_begun : (n : ℕ) (bs : List Block)
        → (front : List Block) × (block : Block) × (own : List ℕ) × (numbered n (bs ++ begun count k bytes ∷ []) ≡ front ++ block ∷ []) × (block.payload ≡ own ++ bytes)
    in_begun n [] = ([], record { first = n; checkpoint = k; count = count; payload = bytes }, [], refl, refl)
    in_begun n (b ∷ bs) =
        let x = in_begun (n + b.count) bs in
        let own : Block = record { first = n; checkpoint = b.checkpoint; count = b.count; payload = b.payload } in
        (own ∷ x.0, x.1, x.2, ap (λ (l : List Block). own ∷ l) x.3, x.4)

    by : (b : Bool) → joins bs count (length bytes) ≡ b
        → (front : List Block) × (block : Block) × (own : List ℕ) × (numbered n (if b then joined bs count k bytes else bs ++ begun count k bytes ∷ []) ≡ front ++ block ∷ []) × (block.payload ≡ own ++ bytes)
    by true j = in_joined n bs j
    by false j = in_begun n bs

-- records joined the log, in one block
pub has_more : {D : Type 0} (log : LogState D) (bs : List Block) (k : ℕ) (recs : List Record)
    → HasMore recs (with_batch log bs) (with_batch log (with_group bs (length recs) k (bytes_of recs)))
has_more log bs k recs =
    let bs2 = with_group bs (length recs) k (bytes_of recs) in
    let x = group_whole log.next bs (length recs) k (bytes_of recs) in
    record {
      pending = log.pending ++ numbered log.next bs2;
      is = ap (λ n. record log { pending = log.pending ++ numbered log.next bs2; next = n }) (more (records_in bs) (records_in bs2) (group_records bs (length recs) k (bytes_of recs)));
      group = record { front = log.pending ++ x.0; block = x.1; own = x.2; is = ap (λ (l : List Block). log.pending ++ l) x.3 ∙ sym (append_assoc log.pending x.0 (x.1 ∷ [])); payload = x.4 };
    }
  where
    more : (a b : ℕ) → b ≡ a + length recs → log.next + b ≡ log.next + a + length recs
    more a b e = omega (arith, e)
