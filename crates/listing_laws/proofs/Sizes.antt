-- How long the spelling of a checkpoint is.
use Rattle.std.proofs.Common.{◌≡◌, ℕ, ◌+◌, ◌*◌, ◌≤◌, suc, true, List, [], ◌∷◌, ◌++◌, length, refl, arith, length-append}
use Rattle.std.specs.Prelude.{flat_map, ◌^◌, nat_le}
use Rattle.std.specs.Int.{w16, w32, w64, to_be_bytes}
use Rattle.std.proofs.lemmas.Bool.Decides.{nat_tests}
use Rattle.store_model.proofs.Bools.{both_true}
use Rattle.wal_record.specs.State.{is_key}
use Rattle.wal_record.specs.Spelling.{number_bytes, text_bytes, list_bytes, page_head_bytes, open_write_bytes, unfinished_bytes, run_bytes, checkpoint_bytes, spelling}
use Rattle.wal_record.specs.OpenWrites.{is_loser, open_list}
use Rattle.wal_record.specs.Chains.{pages, greatest}
use Rattle.wal_record.specs.Checkpoints.{checkpoint_of, page_head, unfinished}
use Rattle.wal_record.specs.Sound.{AreLawful}
use Rattle.wal_record.specs.declared.analysis.PageHead.{PageHead}
use Rattle.wal_record.specs.declared.analysis.Run.{Run}
use Rattle.wal_record.specs.declared.record.Checkpoint.{Checkpoint}
use Rattle.wal_record.specs.declared.record.OpenWrite.{OpenWrite}
use Rattle.wal_record.specs.declared.record.Unfinished.{Unfinished}
use Rattle.wal_record.specs.declared.record.Record.{Record}
use Rattle.wal_record.specs.declared.record.Record.TheVariants as kinds
use Rattle.listing_laws.specs.Summary.{pending_in}
use Rattle.listing_laws.proofs.Rising.{Each, each_more}
use Rattle.listing_laws.proofs.Spelled.{with_one, few_listed, each_listed, spelled}
use Rattle.listing_laws.proofs.Numbers.{IsOpenIn, open_in, segments_in, runs_in}
use Rattle.listing_laws.proofs.Reading.{counted}
use Rattle.listing_laws.proofs.Bounds.{little_used, limit_small}
use Rattle.listing_laws.specs.Laws.{SpellingLaw}
use Rattle.std.proofs.lemmas.List.FromFn.{length-map-range_with_len}

-- ---- fields

len64 : (n : ℕ) → length (number_bytes w64 n) ≡ 8
unfolding number_bytes
len64 n = refl

len32 : (n : ℕ) → length (number_bytes w32 n) ≡ 4
unfolding number_bytes
len32 n = refl

len_text : (xs : List ℕ) → length (text_bytes xs) ≡ suc (length xs)
unfolding text_bytes
len_text xs = refl

module _ {A : Type 0} (f : A → List ℕ) where
  len_list32 : (xs : List A) → length (list_bytes w32 f xs) ≡ 4 + length (flat_map f xs)
  unfolding list_bytes
  len_list32 xs = length-append (to_be_bytes w32 (length xs)) (flat_map f xs)

  len_list16 : (xs : List A) → length (list_bytes w16 f xs) ≡ 2 + length (flat_map f xs)
  unfolding list_bytes
  len_list16 xs = length-append (to_be_bytes w16 (length xs)) (flat_map f xs)

  -- items of at most k bytes
  flat_most : (k : ℕ) (xs : List A) → Each (λ x. length (f x) ≤ k) xs → length (flat_map f xs) ≤ k * length xs
  flat_most k [] h = omega arith
  flat_most k (x ∷ xs) h = let e = length-append (f x) (flat_map f xs) in let o = h.0 in let r = flat_most k xs h.1 in omega (arith, e, o, r)

-- ---- items

all_of : {A : Type 0} (P : A → Type 0) → ((x : A) → P x) → (xs : List A) → Each P xs
all_of P f [] = tt
all_of P f (x ∷ xs) = (f x, all_of P f xs)

-- texts one behind the other
joined : (xs ys : List ℕ) (m n k : ℕ) → length xs ≤ m → length ys ≤ n → m + n ≤ k → length (xs ++ ys) ≤ k
joined xs ys m n k h g s = let e = length-append xs ys in omega (arith, e, h, g, s)

added : (xs ys : List ℕ) (m n : ℕ) → length xs ≤ m → length ys ≤ n → length (xs ++ ys) ≤ m + n
added xs ys m n h g = joined xs ys m n (m + n) h g (omega arith)

at_most64 : (n : ℕ) → length (number_bytes w64 n) ≤ 8
at_most64 n = let e = len64 n in omega (arith, e)

at_most32 : (n : ℕ) → length (number_bytes w32 n) ≤ 4
at_most32 n = let e = len32 n in omega (arith, e)

len_head : (h : PageHead) → length (page_head_bytes h) ≤ 32
len_head h =
    let two = added _ _ _ _ (at_most64 h.head) (at_most64 h.written) in
    let three = added _ _ _ _ two (at_most64 h.backup) in
    joined _ _ _ _ 32 three (at_most64 h.backup_lsn) (omega arith)

len_run : (x : Run) → length (run_bytes x) ≤ 24
len_run x = let two = added _ _ _ _ (at_most64 x.run) (at_most64 x.first) in joined _ _ _ _ 24 two (at_most64 x.last) (omega arith)

key_short : (key : List ℕ) → is_key key ≡ true → length key ≤ 64
key_short key h = let l : nat_le (length key) 64 ≡ true = (both_true (nat_le 1 (length key)) (nat_le (length key) 64) h).1 in grind (arith, nat_tests)

len_write : (w : OpenWrite) → is_key w.key ≡ true → length (open_write_bytes w) ≤ 73
len_write w h = joined _ _ 8 65 73 (at_most64 w.lsn) (let e = len_text w.key in let k = key_short w.key h in omega (arith, e, k)) (omega arith)

abbrev pub HasKey : OpenWrite → Type 0
HasKey w = is_key w.key ≡ true

abbrev pub HaveKeys : Unfinished → Type 0
HaveKeys u = Each HasKey u.writes

len_unfinished : (u : Unfinished) → HaveKeys u → length (unfinished_bytes u) ≤ 28 + 73 * length u.writes
len_unfinished u h =
    let items = flat_most open_write_bytes 73 u.writes (each_more HasKey _ (λ w k. len_write w k) u.writes h) in
    let list = len_list32 open_write_bytes u.writes in
    let writes : length (list_bytes w32 open_write_bytes u.writes) ≤ 4 + 73 * length u.writes = omega (arith, list, items) in
    let two = added _ _ _ _ (at_most64 u.tx) (at_most64 u.last) in
    let three = added _ _ _ _ two (at_most64 u.undo_next) in
    joined _ _ _ _ (28 + 73 * length u.writes) three writes (omega arith)

len_transactions : (us : List Unfinished) → Each HaveKeys us → length (flat_map unfinished_bytes us) ≤ 28 * length us + 73 * pending_in us
len_transactions [] h = omega arith
len_transactions (u ∷ us) h =
    let e = length-append (unfinished_bytes u) (flat_map unfinished_bytes us) in
    let o = len_unfinished u h.0 in
    let r = len_transactions us h.1 in
    let p = with_one u us in
    omega (arith, e, o, r, p)

-- ---- the whole

-- a checkpoint within these numbers
pub record IsModest (c : Checkpoint) : Type 0 where
  pub room : length c.pages + pending_in c.transactions ≤ 16385
  pub few : length c.transactions ≤ pending_in c.transactions
  pub keys : Each HaveKeys c.transactions
  pub unrestored : length c.unrestored ≤ 1025
  pub runs : length c.runs ≤ 1024

pub modest_size : (c : Checkpoint) → IsModest c → length (spelling (kinds.Checkpoint c)) ≤ 2 ^ 21
unfolding checkpoint_bytes
modest_size c m =
    let pages_items = flat_most page_head_bytes 32 c.pages (all_of (λ h. length (page_head_bytes h) ≤ 32) len_head c.pages) in
    let pages_list = len_list32 page_head_bytes c.pages in
    let pages_most : length (list_bytes w32 page_head_bytes c.pages) ≤ 4 + 32 * length c.pages = omega (arith, pages_list, pages_items) in
    let tx_items = len_transactions c.transactions m.keys in
    let tx_list = len_list32 unfinished_bytes c.transactions in
    let few = m.few in
    let tx_most : length (list_bytes w32 unfinished_bytes c.transactions) ≤ 4 + 101 * pending_in c.transactions = omega (arith, tx_list, tx_items, few) in
    let room = m.room in
    let segments_items = flat_most (number_bytes w32) 4 c.unrestored (all_of (λ n. length (number_bytes w32 n) ≤ 4) at_most32 c.unrestored) in
    let segments_list = len_list32 (number_bytes w32) c.unrestored in
    let unrestored = m.unrestored in
    let segments_most : length (list_bytes w32 (number_bytes w32) c.unrestored) ≤ 4104 = omega (arith, segments_list, segments_items, unrestored) in
    let runs_items = flat_most run_bytes 24 c.runs (all_of (λ x. length (run_bytes x) ≤ 24) len_run c.runs) in
    let runs_list = len_list16 run_bytes c.runs in
    let runs = m.runs in
    let runs_most : length (list_bytes w16 run_bytes c.runs) ≤ 24578 = omega (arith, runs_list, runs_items, runs) in
    let two = added _ _ _ _ (at_most64 c.next_tx) (at_most64 c.commits) in
    let three = added _ _ _ _ two (at_most32 c.limit) in
    let four = added _ _ _ _ three pages_most in
    let five = added _ _ _ _ four tx_most in
    let six = added _ _ _ _ five (at_most32 c.lost) in
    let seven = added _ _ _ _ six segments_most in
    let eight = added _ _ _ _ seven runs_most in
    let nine = added _ _ _ _ eight (at_most64 c.next_backup) in
    let body : length (checkpoint_bytes c) ≤ 28730 + 32 * length c.pages + 101 * pending_in c.transactions = joined _ _ _ _ _ nine (at_most64 c.next_run) (omega arith) in
    omega (arith, body, room)

pub modest : (log : List Record) → AreLawful log → IsModest (checkpoint_of log)
unfolding checkpoint_of
modest log lawful = record {
  room = (let n = length-map-range_with_len (page_head log) 1 (pages log) in let c = counted log lawful in let u = little_used log lawful in let l = limit_small log lawful in omega (arith, n, c, u, l));
  few = (let f = few_listed log lawful in let c = counted log lawful in omega (arith, f, c));
  keys = each_listed (is_loser log) (unfinished log) HaveKeys 1 (greatest log) (λ t l u e. each_more (IsOpenIn (length log)) HasKey (λ w i. i.2) (open_list log t) (open_in t log lawful).1);
  unrestored = (segments_in log lawful).2;
  runs = (runs_in log lawful).1;
}

pub spelling_law : (log : List Record) → SpellingLaw log
spelling_law log = record { spelled = λ lawful short. spelled log lawful short; size = λ lawful. modest_size (checkpoint_of log) (modest log lawful) }
