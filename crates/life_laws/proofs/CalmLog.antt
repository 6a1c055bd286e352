-- The log of a calm life goes on: a write and a commit of the open transaction are lawful, and what is
-- said of the log holds after them.
use Rattle.std.proofs.Common.{◌≡◌, ◌≢◌, ℕ, ◌+◌, ◌<◌, ◌≤◌, suc, Bool, true, false, cond, eqb, List, [], ◌∷◌, ◌++◌, length, Option, Some, None, refl, sym, ap, ◌∙◌, arith, length-append}
use Rattle.std.specs.Prelude.{◌&&◌, ◌||◌, ◌^◌, not, is_some}
use Rattle.std.specs.List.{list_any, list_all, sum_by}
use Rattle.std.specs.FinMap.{get}
use Rattle.std.specs.Option.{option_map}
use Rattle.std.proofs.lemmas.Bool.Decides.{nat_tests}
use Rattle.std.proofs.lemmas.List.Folds.{list_any-append}
use Rattle.std.proofs.lemmas.Bool.{and_parts}
use Rattle.store_model.proofs.Bools.{or_right}
use Rattle.store_model.specs.Range.{Interval, has_key}
use Rattle.wal_record.specs.State.{KeepsState, leaf_row_size, own_part, same_key, leaf_row_fits, is_key, is_value, live, state_size, page_room, has_own}
use Rattle.wal_record.specs.Rules.{is_number, is_lsn_or_none, is_maybe_value}
use Rattle.wal_record.specs.Chains.{last, finishes}
use Rattle.wal_record.specs.OpenWrites.{open_writes, writes, pending, has_items}
use Rattle.wal_record.specs.Contents.{current}
use Rattle.wal_record.specs.Images.{applied, image, with_value, CanApply}
use Rattle.wal_record.specs.Checkpoints.{limit_of, commits}
use Rattle.wal_record.specs.Sound.{IsLawful, AreLawful, used}
use Rattle.wal_record.specs.declared.page.PageState.{PageState}
use Rattle.wal_record.specs.declared.page.LeafRow.{LeafRow}
use Rattle.wal_record.specs.declared.record.Record.{Record}
use Rattle.wal_record.specs.declared.record.Record.TheVariants as kinds
use Rattle.wal_record.proofs.Pushes.{head_push, pages_push, last_push, open_push, image_push}
use Rattle.wal_record.proofs.SoundExamples.{at_one}
use Rattle.log_laws.proofs.Central.{eqb_self, eqb_differ}
use Rattle.log_laws.proofs.Pending.{pending_change}
use Rattle.tree_laws.proofs.Whole.{tree}
use Rattle.life_laws.specs.Calm.{Opened, is_open, only_leaf, splits_page, CalmLog}
use Rattle.life_laws.specs.Commands.{writing, committing, with_write, with_row, begun}

-- ---- words on numbers and lists

pub number_is : (n : ℕ) → 1 ≤ n → n < 2 ^ 63 → is_number n ≡ true
number_is n l u = grind (arith, nat_tests)

pub lsn_is : (n : ℕ) → n < 2 ^ 63 → is_lsn_or_none n ≡ true
lsn_is n u = grind (arith, nat_tests)

-- of a leaf without fence keys and without a foster child, the bytes of its rows alone count
pub fits_by : (rows : List LeafRow) → sum_by leaf_row_size rows ≤ 4045 → state_size (only_leaf rows) ≤ page_room
fits_by rows h = omega (arith, h)

pub all_own : (rows : List LeafRow) (key : List ℕ) → has_own (only_leaf rows) key ≡ true
all_own rows [] = refl
all_own rows (b ∷ bs) = refl

some_more : (log : List Record) (r : Record) → has_items (log ++ r ∷ []) ≡ true
some_more [] r = refl
some_more (x ∷ xs) r = refl

pub limit_kept : (log more : List Record) → has_items log ≡ true → limit_of (log ++ more) ≡ limit_of log
limit_kept [] more e = absurd cc
limit_kept (kinds.Format f ∷ xs) more e = refl
limit_kept (x ∷ xs) more e = refl

pub not_nothing : (log : List Record) → has_items log ≡ true → log ≢ []
not_nothing [] e n = absurd cc
not_nothing (r ∷ rs) e n = let x : suc (length rs) ≡ 0 = ap length n in absurd (omega (arith, x))

commits_append : (xs ys : List Record) → commits (xs ++ ys) ≡ commits xs + commits ys
commits_append [] ys = omega arith
commits_append (kinds.Commit c ∷ xs) ys = ap suc (commits_append xs ys) ∙ omega arith
commits_append (_ ∷ xs) ys = commits_append xs ys

-- ---- what the leaf says

live_fits : (part : Interval) (rows : List LeafRow) (key : List ℕ) → list_all (leaf_row_fits part) rows ≡ true → is_maybe_value (live rows key) ≡ true
live_fits part [] key e = refl
live_fits part (row ∷ rows) key e = by (same_key key row.key) row.tombstone (and_parts _ _ (and_parts _ _ e).0) (live_fits part rows key (and_parts _ _ e).1)
  where
    by : (b t : Bool) → (has_key part row.key ≡ true) × ((is_key row.key && is_value row.value && (not row.tombstone || eqb (length row.value) 0)) ≡ true) → is_maybe_value (live rows key) ≡ true → is_maybe_value (cond b (cond t None (Some row.value)) (live rows key)) ≡ true
    by true true p f = refl
    by true false p f = (and_parts _ _ (and_parts _ _ p.1).0).1
    by false t p f = f

module _ (log : List Record) (rows : List LeafRow) (top : ℕ) (active : Option Opened) (next count lsn : ℕ) (c : CalmLog log rows top active next count lsn) where
  root : (sound : AreLawful log) → KeepsState (only_leaf rows)
  root sound = (tree log sound (not_nothing log c.some)).keeps 1 (only_leaf rows) c.leaf

  pub value_fits : AreLawful log → (key : List ℕ) → is_maybe_value (live rows key) ≡ true
  value_fits sound key = live_fits (own_part (only_leaf rows)) rows key (root sound).rows.2

  -- a key's live row has its current value
  pub live_is : AreLawful log → (key : List ℕ) → live rows key ≡ get (current log) key
  live_is sound key = (tree log sound (not_nothing log c.some)).values key (record { page = 1; state = only_leaf rows; image = c.leaf; leaf = refl; own = all_own rows key })

-- ---- a record more

differs : (tx next t : ℕ) → tx < next → next ≤ t → eqb tx t ≡ false
differs tx next t l u = eqb_differ tx t (λ e. absurd (omega (arith, l, u, e)))

finishes_more : (t : ℕ) (log : List Record) (r : Record) → finishes t r ≡ false → list_any (finishes t) log ≡ false → list_any (finishes t) (log ++ r ∷ []) ≡ false
finishes_more t log r e f = list_any-append (finishes t) log (r ∷ []) ∙ ap (λ (b : Bool). b || (finishes t r || false)) f ∙ ap (λ (b : Bool). b || false) e

whole_more : (log : List Record) (r : Record) → splits_page r ≡ false → list_any splits_page log ≡ false → list_any splits_page (log ++ r ∷ []) ≡ false
whole_more log r e f = list_any-append splits_page log (r ∷ []) ∙ ap (λ (b : Bool). b || (splits_page r || false)) f ∙ ap (λ (b : Bool). b || false) e

size_more : (log : List Record) (r : Record) (n : ℕ) → length log ≡ n → length (log ++ r ∷ []) ≡ n + 1
size_more log r n e = length-append log (r ∷ []) ∙ ap (λ (x : ℕ). x + 1) e

cond_both : (b : Bool) (xs : List Record) → (b ≡ false → xs ≡ []) → cond b [] xs ≡ []
cond_both true xs f = refl
cond_both false xs f = f refl

module _ (log : List Record) (rows : List LeafRow) (top : ℕ) (o : Opened) (next count lsn : ℕ) (c : CalmLog log rows top (Some o) next count lsn) where
  others : (t : ℕ) → t ≢ o.tx → is_open (Some o) t ≡ false
  others t n = eqb_differ o.tx t (λ e. n (sym e))

  mine_more : (r : Record) → (t : ℕ) → open_writes (log ++ r ∷ []) t ≡ open_writes log t ++ r ∷ [] → t ≡ o.tx → length (open_writes (log ++ r ∷ []) o.tx) ≡ o.writes + 1
  mine_more r t e same = ap (λ (x : ℕ). length (open_writes (log ++ r ∷ []) x)) (sym same) ∙ ap length e ∙ length-append (open_writes log t) (r ∷ []) ∙ ap (λ (x : ℕ). length (open_writes log x) + 1) same ∙ ap (λ (x : ℕ). x + 1) c.opened.mine

  module _ (key value : List ℕ) where
    abbrev r : Record
    r = writing o top rows key value

    mine_written : length (open_writes (log ++ r ∷ []) o.tx) ≡ o.writes + 1
    mine_written = mine_more r o.tx (open_push log r o.tx ∙ ap (λ (b : Bool). cond b (open_writes log o.tx ++ r ∷ []) (open_writes log o.tx)) (eqb_self o.tx)) refl

    pending_written : pending (log ++ r ∷ []) ≡ o.writes + 1
    pending_written = let change = (pending_change log r).change in let mine = c.opened.mine in let after = mine_written in let all = c.unfinished in omega (arith, change, mine, after, all)

    image_written : applied r 1 (image log 1) ≡ Some (only_leaf (with_row rows key value))
    unfolding applied
    image_written = ap (λ (s : Option PageState). option_map (with_value key (Some value)) s) c.leaf

    -- the write is lawful
    pub write_lawful : AreLawful log → is_key key ≡ true → is_value value ≡ true → state_size (only_leaf (with_row rows key value)) ≤ page_room → o.writes + 2 ≤ limit_of log → lsn < 2 ^ 63 → next ≤ 2 ^ 63 → IsLawful log r
    unfolding CanApply
    write_lawful sound k v size room top_lsn top_tx =
        let number = c.opened.number in
        let below = c.opened.below in
        let place = c.opened.place in
        let top_below = c.below in
        record {
          first = ap not (sym c.some);
          fields = record { tx = number_is o.tx number (omega (arith, below, top_tx)); prev = lsn_is o.last_lsn (omega (arith, place, top_lsn)); page = refl; page_prev = lsn_is top (omega (arith, top_below, top_lsn)); key = k; old = value_fits log rows top (Some o) next count lsn c sound key; new = v; change = or_right (is_some (live rows key)) true refl };
          chain = (sym c.opened.chain, c.opened.unfinished);
          heads = (sym c.page_head, tt);
          applicable = at_one r log 1 (record { can = (only_leaf rows, c.leaf, record { at = record { leaf = refl; own = all_own rows key }; value = refl }); fits = (only_leaf (with_row rows key value), image_written, size) });
          place = tt;
          value = ((λ other n. ap (list_any (writes key)) (c.closed other (others other n))), live_is log rows top (Some o) next count lsn c sound key, or_right (is_some (live rows key)) true refl);
          room = record { most = most; next = λ over. absurd (next_full over) };
          upkeep = tt;
        }
      where
        most : used (log ++ r ∷ []) ≤ limit_of (log ++ r ∷ []) + 0
        most = let p = pages_push log r ∙ c.one_page in let q = pending_written in let l = limit_kept log (r ∷ []) c.some in omega (arith, p, q, l, room)

        next_full : limit_of log < used log → ⊥
        next_full over = let p = c.one_page in let q = c.unfinished in let l = c.room in omega (arith, p, q, l, over)

    pub log_written : o.writes + 2 ≤ limit_of log → CalmLog (log ++ r ∷ []) (with_row rows key value) (lsn + 1) (Some (with_write o (lsn + 1))) next count (lsn + 1)
    log_written room =
        record {
          some = some_more log r;
          size = size_more log r lsn c.size;
          leaf = image_push log r 1 ∙ image_written;
          page_head = head_push log r 1 ∙ ap (λ (n : ℕ). n + 1) c.size;
          below = omega arith;
          one_page = pages_push log r ∙ c.one_page;
          closed = λ t e. open_push log r t ∙ ap (λ (b : Bool). cond b (open_writes log t ++ r ∷ []) (open_writes log t)) e ∙ c.closed t e;
          whole = whole_more log r refl c.whole;
          unfinished = pending_written;
          room = let l = limit_kept log (r ∷ []) c.some in omega (arith, l, room);
          opened = record {
            number = c.opened.number;
            below = c.opened.below;
            chain = last_push log r o.tx ∙ ap (λ (b : Bool). cond b (length log + 1) (last log o.tx)) (eqb_self o.tx) ∙ ap (λ (n : ℕ). n + 1) c.size;
            place = omega arith;
            unfinished = finishes_more o.tx log r refl c.opened.unfinished;
            mine = mine_written;
          };
          fresh = λ t u. record { chain = last_push log r t ∙ ap (λ (b : Bool). cond b (length log + 1) (last log t)) (differs o.tx next t c.opened.below u) ∙ (c.fresh t u).chain; unfinished = finishes_more t log r refl (c.fresh t u).unfinished };
          commits_are = commits_append log (r ∷ []) ∙ omega (arith, c.commits_are);
        }

  abbrev k : Record
  k = committing o

  mine_committed : open_writes (log ++ k ∷ []) o.tx ≡ []
  mine_committed = open_push log k o.tx ∙ ap (λ (b : Bool). cond b [] (open_writes log o.tx)) (eqb_self o.tx)

  pending_committed : pending (log ++ k ∷ []) ≡ 0
  pending_committed = let change = (pending_change log k).change in let mine = c.opened.mine in let after = ap length mine_committed in let all = c.unfinished in omega (arith, change, mine, after, all)

  -- the commit is lawful
  pub commit_lawful : lsn < 2 ^ 63 → next ≤ 2 ^ 63 → IsLawful log k
  commit_lawful top_lsn top_tx =
      let number = c.opened.number in
      let below = c.opened.below in
      let place = c.opened.place in
      record {
        first = ap not (sym c.some);
        fields = record { tx = number_is o.tx number (omega (arith, below, top_tx)); prev = lsn_is o.last_lsn (omega (arith, place, top_lsn)) };
        chain = (sym c.opened.chain, c.opened.unfinished);
        heads = tt;
        applicable = λ p e. absurd cc;
        place = tt;
        value = tt;
        room = record { most = most; next = λ over. absurd (next_full over) };
        upkeep = tt;
      }
    where
      most : used (log ++ k ∷ []) ≤ limit_of (log ++ k ∷ []) + 0
      most = let p = pages_push log k ∙ c.one_page in let q = pending_committed in let l = limit_kept log (k ∷ []) c.some in let room = c.room in omega (arith, p, q, l, room)

      next_full : limit_of log < used log → ⊥
      next_full over = let p = c.one_page in let q = c.unfinished in let l = c.room in omega (arith, p, q, l, over)

  pub log_committed : CalmLog (log ++ k ∷ []) rows top None next (count + 1) (lsn + 1)
  log_committed =
      record {
        some = some_more log k;
        size = size_more log k lsn c.size;
        leaf = image_push log k 1 ∙ c.leaf;
        page_head = head_push log k 1 ∙ c.page_head;
        below = let b = c.below in omega (arith, b);
        one_page = pages_push log k ∙ c.one_page;
        closed = λ t e. open_push log k t ∙ cond_both (eqb o.tx t) (open_writes log t) (c.closed t);
        whole = whole_more log k refl c.whole;
        unfinished = pending_committed;
        room = let l = limit_kept log (k ∷ []) c.some in let room = c.room in omega (arith, l, room);
        opened = tt;
        fresh = λ t u. record { chain = last_push log k t ∙ ap (λ (b : Bool). cond b (length log + 1) (last log t)) (differs o.tx next t c.opened.below u) ∙ (c.fresh t u).chain; unfinished = finishes_more t log k (differs o.tx next t c.opened.below u) (c.fresh t u).unfinished };
        commits_are = commits_append log (k ∷ []) ∙ ap (λ (n : ℕ). n + 1) c.commits_are;
      }

-- a transaction begins
pub log_began : (log : List Record) (rows : List LeafRow) (top session next count lsn : ℕ) → 1 ≤ next → CalmLog log rows top None next count lsn → CalmLog log rows top (Some (begun session next)) (next + 1) count lsn
log_began log rows top session next count lsn one c =
    record {
      some = c.some;
      size = c.size;
      leaf = c.leaf;
      page_head = c.page_head;
      below = c.below;
      one_page = c.one_page;
      closed = λ t e. c.closed t refl;
      whole = c.whole;
      unfinished = c.unfinished;
      room = c.room;
      opened = record { number = one; below = omega arith; chain = (c.fresh next (omega arith)).chain; place = omega arith; unfinished = (c.fresh next (omega arith)).unfinished; mine = ap length (c.closed next refl) };
      fresh = λ t u. c.fresh t (omega (arith, u));
      commits_are = c.commits_are;
    }
