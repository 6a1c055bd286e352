-- What is read off pages in hand suits.
use Rattle.std.proofs.Common.{◌≡◌, ◌≢◌, ℕ, Bool, true, false, cond, eqb, List, [], ◌∷◌, ◌++◌, Option, Some, None, refl, sym, ap, subst, ◌∙◌, arith, length-append}
use Rattle.std.specs.Prelude.{◌≤◌, ◌<◌, ◌^◌, ◌||◌, not, is_some, length, suc, ◌+◌}
use Rattle.std.specs.List.{list_any, list_all}
use Rattle.std.specs.Option.{option_map}
use Rattle.std.specs.FinMap.{get}
use Rattle.std.proofs.lemmas.Bool.{eqb-true}
use Rattle.std.proofs.lemmas.Bool.Decides.{nat_tests}
use Rattle.store_model.specs.Along.{along}
use Rattle.store_model.specs.Range.{Interval, point}
use Rattle.store_model.specs.Operator.{meaning}
use Rattle.store_model.proofs.Bools.{both_true, false_unless}
use Rattle.store_model.specs.declared.reply.Reply.TheVariants as replies
use Rattle.store_model.specs.declared.request.Request.TheVariants as requests
use Rattle.wal_record.specs.State.{KeepsRows, own_part, leaf_rows, same_key, live_value, live, leaf_row_fits, state_size, page_room, is_key, is_value, is_text, KeepsState, free_bytes, is_child}
use Rattle.wal_record.specs.Rules.{is_number, is_lsn_or_none, is_page, is_maybe_value, is_change, is_u8, HasSpelling}
use Rattle.wal_record.specs.Chains.{head, pages, last, finishes}
use Rattle.wal_record.specs.OpenWrites.{open_step, open_writes, without_last, key_of, old_of, has_items}
use Rattle.wal_record.specs.Contents.{current}
use Rattle.wal_record.specs.Images.{image, applied, CanApply, with_value, purged}
use Rattle.wal_record.specs.Tree.{Tree}
use Rattle.wal_record.specs.Sound.{TakesBack, AreLawful}
use Rattle.wal_record.specs.History.{life_log, is_owner}
use Rattle.wal_record.specs.Legal.{MayUndo}
use Rattle.wal_record.specs.Locks.{covers, covers_write, locks}
use Rattle.wal_record.specs.declared.page.PageState.{PageState}
use Rattle.wal_record.specs.declared.page.LeafRow.{LeafRow}
use Rattle.wal_record.specs.declared.page.Rows.{Rows}
use Rattle.wal_record.specs.declared.page.Rows.TheVariants.{Leaf, Branch}
use Rattle.wal_record.specs.declared.record.Record.{Record}
use Rattle.wal_record.specs.declared.record.Record.TheVariants as kinds
use Rattle.wal_record.specs.declared.entry.Entry.{Entry}
use Rattle.wal_record.proofs.Along.{by_pushes}
use Rattle.wal_record.proofs.Pushes.{open_push, lawful_front}
use Rattle.log_laws.proofs.EnteringLaws.{entering}
use Rattle.tree_laws.proofs.Whole.{tree}
use Rattle.claim_laws.specs.Suiting.{Suits, SuitsSaid}
use Rattle.claim_laws.specs.Entering.{IsAtRest}
use Rattle.claim_laws.specs.Filling.{HasNumbers, HasPage}
use Rattle.claim_laws.proofs.Pages.{head_in}
use Rattle.claim_laws.proofs.Losers.{finished_none}
use Rattle.claim_laws.proofs.Filling.{last_in, pages_law}
use Rattle.wal_record.specs.declared.record.Adopt.{Adopt}
use Rattle.wal_record.specs.declared.record.Grow.{Grow}
use Rattle.wal_record.specs.declared.record.Purge.{Purge}
use Rattle.wal_record.specs.declared.record.Split.{Split}
use Rattle.foster_laws.specs.Purges.{has_tombstone}
use Rattle.foster_laws.specs.Splits.{Halves}
use Rattle.foster_laws.specs.Enters.{HasFosterer}
use Rattle.foster_laws.proofs.Entering.{adopt_applicable, adopted, grow_applicable, grown_root, split_applicable}
use Rattle.foster_laws.proofs.Purging.{purge}
use Rattle.foster_laws.proofs.Room.{next_child}
use Rattle.foster_laws.proofs.Linking.{live_unfinished}
use Rattle.foster_laws.specs.InHand.{HasLeafOf, MayWrite, prev_of, HandLaw}

-- ---- numbers

pub lsn_is : (n : ℕ) → n < 2 ^ 63 → is_lsn_or_none n ≡ true
lsn_is n u = grind (arith, nat_tests)

pub page_is : (n : ℕ) → 1 ≤ n → n ≤ 16384 → is_page n ≡ true
page_is n l u = grind (arith, nat_tests)

-- ---- values of a leaf

value_here : (part : Interval) (row : LeafRow) → leaf_row_fits part row ≡ true → is_maybe_value (live_value row) ≡ true
value_here part row e = by row.tombstone (both_true _ _ (both_true _ _ (both_true _ _ e).1).0).1
  where
    by : (b : Bool) → is_value row.value ≡ true → is_maybe_value (cond b None (Some row.value)) ≡ true
    by true v = refl
    by false v = v

live_fits : (part : Interval) (rows : List LeafRow) (key : List ℕ) → list_all (leaf_row_fits part) rows ≡ true → is_maybe_value (live rows key) ≡ true
live_fits part [] key e = refl
live_fits part (row ∷ rows) key e = by (same_key key row.key) (value_here part row parts.0) (live_fits part rows key parts.1)
  where
    parts : (leaf_row_fits part row ≡ true) × (list_all (leaf_row_fits part) rows ≡ true)
    parts = both_true (leaf_row_fits part row) (list_all (leaf_row_fits part) rows) e

    by : (b : Bool) → is_maybe_value (live_value row) ≡ true → is_maybe_value (live rows key) ≡ true → is_maybe_value (cond b (live_value row) (live rows key)) ≡ true
    by true f g = f
    by false f g = g

leaf_fits : (level : ℕ) (part : Interval) (rows : Rows) (key : List ℕ) → rows ≡ Leaf (leaf_rows rows) → KeepsRows level part rows → is_maybe_value (live (leaf_rows rows) key) ≡ true
leaf_fits level part (Leaf rows) key e k = live_fits part rows key k.2
leaf_fits level part (Branch rows) key e k = absurd cc

-- ---- open writes are records that have a spelling

-- a write of the transaction that has a spelling
abbrev pub IsOwn : ℕ → Record → Type 0
IsOwn t (kinds.Write w) = (w.tx ≡ t) × HasSpelling (kinds.Write w)
IsOwn t (kinds.Apply a) = (a.tx ≡ t) × HasSpelling (kinds.Apply a)
IsOwn t _ = ⊥

abbrev pub AllOwn : ℕ → List Record → Type 0
AllOwn t [] = Unit {0}
AllOwn t (w ∷ ws) = IsOwn t w × AllOwn t ws

own_push : (t : ℕ) (ws : List Record) (w : Record) → AllOwn t ws → IsOwn t w → AllOwn t (ws ++ w ∷ [])
own_push t [] w h g = (g, tt)
own_push t (x ∷ ws) w h g = (h.0, own_push t ws w h.1 g)

own_front : (t : ℕ) (ws : List Record) → AllOwn t ws → AllOwn t (without_last ws)
own_front t [] h = tt
own_front t (x ∷ []) h = tt
own_front t (x ∷ y ∷ ys) h = (h.0, own_front t (y ∷ ys) h.1)

pub own_last : (t : ℕ) (front : List Record) (w : Record) → AllOwn t (front ++ w ∷ []) → IsOwn t w
own_last t [] w h = h.0
own_last t (x ∷ front) w h = own_last t front w h.1

own_step : (t : ℕ) (ws : List Record) (r : Record) → HasSpelling r → AllOwn t ws → AllOwn t (open_step t r ws r)
own_step t ws (kinds.Write w) k h = by (eqb w.tx t) refl
  where
    by : (b : Bool) → eqb w.tx t ≡ b → AllOwn t (cond b (ws ++ kinds.Write w ∷ []) ws)
    by true e = own_push t ws (kinds.Write w) h (eqb-true w.tx t e, k)
    by false e = h
own_step t ws (kinds.Apply w) k h = by (eqb w.tx t) refl
  where
    by : (b : Bool) → eqb w.tx t ≡ b → AllOwn t (cond b (ws ++ kinds.Apply w ∷ []) ws)
    by true e = own_push t ws (kinds.Apply w) h (eqb-true w.tx t e, k)
    by false e = h
own_step t ws (kinds.Undo w) k h = by (eqb w.tx t)
  where
    by : (b : Bool) → AllOwn t (cond b (without_last ws) ws)
    by true = own_front t ws h
    by false = h
own_step t ws (kinds.Commit w) k h = by (eqb w.tx t)
  where
    by : (b : Bool) → AllOwn t (cond b [] ws)
    by true = tt
    by false = h
own_step t ws (kinds.End w) k h = by (eqb w.tx t)
  where
    by : (b : Bool) → AllOwn t (cond b [] ws)
    by true = tt
    by false = h
own_step t ws _ k h = h

no_writes : (t : ℕ) → open_writes [] t ≡ []
unfolding open_writes along
no_writes t = refl

pub all_own : (t : ℕ) (log : List Record) → AreLawful log → AllOwn t (open_writes log t)
all_own t = by_pushes (λ (log : List Record). AreLawful log → AllOwn t (open_writes log t)) (λ _. subst (AllOwn t) (sym (no_writes t)) tt) (λ log r before sound.
    let parts = lawful_front log r sound in
    subst (AllOwn t) (sym (open_push log r t)) (own_step t (open_writes log t) r parts.1.fields (before parts.0)))

-- ---- what the undo needs of the write that it takes back

pub takes_it : (t prev page page_prev : ℕ) (w : Record) → IsOwn t w → TakesBack (record { tx = t; prev = prev; page = page; page_prev = page_prev; key = key_of w; restores = old_of w; undo_next = prev_of w }) w
takes_it t prev page page_prev (kinds.Write w) own = (refl, refl, refl)
takes_it t prev page page_prev (kinds.Apply w) own = (refl, refl, refl)
takes_it t prev page page_prev _ own = absurd own

pub record Spelled (t : ℕ) (w : Record) : Type 0 where
  pub tx : is_number t ≡ true
  pub key : is_key (key_of w) ≡ true
  pub old : is_maybe_value (old_of w) ≡ true
  pub prev : is_lsn_or_none (prev_of w) ≡ true

pub spelled_of : (t : ℕ) (w : Record) → IsOwn t w → Spelled t w
spelled_of t (kinds.Write w) own = let k = own.1 in record { tx = subst (λ (n : ℕ). is_number n ≡ true) own.0 k.tx; key = k.key; old = k.old; prev = k.prev }
spelled_of t (kinds.Apply w) own = let k = own.1 in record { tx = subst (λ (n : ℕ). is_number n ≡ true) own.0 k.tx; key = k.key; old = k.old; prev = k.prev }
spelled_of t _ own = absurd own

pub some_items : (log : List Record) → log ≢ [] → false ≡ not (has_items log)
some_items [] n = absurd (n refl)
some_items (x ∷ xs) n = refl

module _ (opening : List Record) (h : List Entry) (sound : AreLawful opening) (rest : IsAtRest opening h) (some : life_log opening h ≢ []) where
  the_tree : Tree (image (life_log opening h)) (pages (life_log opening h)) (λ key. get (current (life_log opening h)) key)
  the_tree = tree (life_log opening h) rest.sound.lawful some

  -- the leaf of a key has its current value
  pub value_is : (page : ℕ) (s : PageState) (key : List ℕ) → HasLeafOf (life_log opening h) page s key → live (leaf_rows s.rows) key ≡ get (current (life_log opening h)) key
  value_is page s key leaf = the_tree.values key (record { page = page; state = s; image = leaf.image; leaf = leaf.at.leaf; own = leaf.at.own })

  get_suits : (page : ℕ) (s : PageState) (key : List ℕ) → HasLeafOf (life_log opening h) page s key → (session t : ℕ) → is_owner h session t ≡ true → list_any (covers (point key)) (locks opening h t) ≡ true
      → SuitsSaid opening h session t (requests.Get key) (replies.Found (live (leaf_rows s.rows) key))
  get_suits page s key leaf session t owns locked = record { owner = owns; answer = (locked, ap replies.Found (value_is page s key leaf)) }

  del_suits : (page : ℕ) (s : PageState) (key : List ℕ) → HasLeafOf (life_log opening h) page s key → live (leaf_rows s.rows) key ≡ None → (session t : ℕ) → is_owner h session t ≡ true → list_any (covers_write key) (locks opening h t) ≡ true
      → SuitsSaid opening h session t (requests.Del key) (replies.Was None)
  del_suits page s key leaf none session t owns locked = record { owner = owns; answer = (locked, sym (value_is page s key leaf) ∙ none, refl) }

  pub page_fits : (page : ℕ) (s : PageState) → image (life_log opening h) page ≡ Some s → is_page page ≡ true
  page_fits page s e = let i = the_tree.inside page s e in let a = i.0 in let b = i.1 in let m = (pages_law (life_log opening h)).most rest.sound in page_is page a (omega (arith, b, m))

  pub old_fits : (page : ℕ) (s : PageState) (key : List ℕ) → HasLeafOf (life_log opening h) page s key → is_maybe_value (live (leaf_rows s.rows) key) ≡ true
  old_fits page s key leaf = leaf_fits s.level (own_part s) s.rows key leaf.at.leaf (the_tree.keeps page s leaf.image).rows

  module _ (few : HasNumbers (life_log opening h) 0) where
    pub last_fits : (t : ℕ) → is_lsn_or_none (last (life_log opening h) t) ≡ true
    last_fits t = let l = last_in t (life_log opening h) in lsn_is (last (life_log opening h) t) (omega (arith, l, few))

    head_fits : (page : ℕ) → is_lsn_or_none (head (life_log opening h) page) ≡ true
    head_fits page = let l = head_in page (life_log opening h) in lsn_is (head (life_log opening h) page) (omega (arith, l, few))

    write_suits : (page : ℕ) (s : PageState) (key : List ℕ) → HasLeafOf (life_log opening h) page s key
        → (t : ℕ) → MayWrite opening h t key → (new : Option (List ℕ)) → is_maybe_value new ≡ true → is_change (live (leaf_rows s.rows) key) new ≡ true
        → state_size (with_value key new s) ≤ page_room
        → Suits opening h (kinds.Write (record { tx = t; prev = last (life_log opening h) t; page = page; page_prev = head (life_log opening h) page; key = key; old = live (leaf_rows s.rows) key; new = new }))
    unfolding CanApply applied
    write_suits page s key leaf t may new fits change size = record {
      lawful = record {
        first = some_items (life_log opening h) some;
        fields = record { tx = may.number; prev = last_fits t; page = page_fits page s leaf.image; page_prev = head_fits page; key = may.spelled; old = old_fits page s key leaf; new = fits; change = change };
        chain = (refl, live_unfinished opening sound h t rest.legal may.live);
        heads = (refl, tt);
        applicable = λ p n. let e = ap (image (life_log opening h)) (eqb-true p page n) ∙ leaf.image in
            record { can = (s, e, record { at = leaf.at; value = refl }); fits = (with_value key new s, ap (option_map (with_value key new)) e, size) };
        place = tt;
        value = ((entering opening h).alone sound rest.legal t key may.locked, value_is page s key leaf, change);
        upkeep = tt;
      };
      rule = (may.live, may.locked);
    }

    apply_suits : (page : ℕ) (s : PageState) (key : List ℕ) → HasLeafOf (life_log opening h) page s key
        → (t : ℕ) → MayWrite opening h t key → (operator : ℕ) (argument : List ℕ) → is_u8 operator ≡ true → is_text argument ≡ true
        → is_some (meaning operator (live (leaf_rows s.rows) key) argument) ≡ true
        → state_size (with_value key (meaning operator (live (leaf_rows s.rows) key) argument) s) ≤ page_room
        → Suits opening h (kinds.Apply (record { tx = t; prev = last (life_log opening h) t; page = page; page_prev = head (life_log opening h) page; key = key; operator = operator; argument = argument; old = live (leaf_rows s.rows) key }))
    unfolding CanApply applied
    apply_suits page s key leaf t may operator argument o g means size = record {
      lawful = record {
        first = some_items (life_log opening h) some;
        fields = record { tx = may.number; prev = last_fits t; page = page_fits page s leaf.image; page_prev = head_fits page; key = may.spelled; operator = o; argument = g; old = old_fits page s key leaf };
        chain = (refl, live_unfinished opening sound h t rest.legal may.live);
        heads = (refl, tt);
        applicable = λ p n. let e = ap (image (life_log opening h)) (eqb-true p page n) ∙ leaf.image in
            record { can = ((s, e, record { at = leaf.at; value = refl }), means); fits = (with_value key (meaning operator (live (leaf_rows s.rows) key) argument) s, ap (option_map (with_value key (meaning operator (live (leaf_rows s.rows) key) argument))) e, size) };
        place = tt;
        value = ((entering opening h).alone sound rest.legal t key may.locked, value_is page s key leaf, means);
        upkeep = tt;
      };
      rule = (may.live, may.locked);
    }

    undo_suits : (t : ℕ) (front : List Record) (w : Record) → open_writes (life_log opening h) t ≡ front ++ w ∷ []
        → MayUndo opening h t → (page : ℕ) (s : PageState) → HasLeafOf (life_log opening h) page s (key_of w) → state_size (with_value (key_of w) (old_of w) s) ≤ page_room
        → Suits opening h (kinds.Undo (record { tx = t; prev = last (life_log opening h) t; page = page; page_prev = head (life_log opening h) page; key = key_of w; restores = old_of w; undo_next = prev_of w }))
    unfolding CanApply applied
    undo_suits t front w split may page s leaf size =
        let own = own_last t front w (subst (AllOwn t) split (all_own t (life_log opening h) rest.sound.lawful)) in
        let k = spelled_of t w own in
        let there : (is_some (old_of w) || is_some (live (leaf_rows s.rows) (key_of w))) ≡ true =
        ap (λ (v : Option (List ℕ)). is_some (old_of w) || is_some v) (value_is page s (key_of w) leaf) ∙ (entering opening h).can_undo sound rest.legal t front w split in
        record {
          lawful = record {
            first = some_items (life_log opening h) some;
            fields = record { tx = k.tx; prev = last_fits t; page = page_fits page s leaf.image; page_prev = head_fits page; key = k.key; restores = k.old; undo_next = k.prev };
            chain = (refl, false_unless (list_any (finishes t) (life_log opening h)) (λ f. not_empty front w (sym split ∙ finished_none t (life_log opening h) rest.sound.lawful f)));
            heads = (refl, tt);
            applicable = λ p n. let e = ap (image (life_log opening h)) (eqb-true p page n) ∙ leaf.image in
                record { can = (s, e, record { at = leaf.at; there = there }); fits = (with_value (key_of w) (old_of w) s, ap (option_map (with_value (key_of w) (old_of w))) e, size) };
            place = tt;
            value = record { front = front; back = w; split = split; takes = takes_it t (last (life_log opening h) t) page (head (life_log opening h) page) w own };
            upkeep = tt;
          };
          rule = may;
        }
      where
        not_empty : (front : List Record) (back : Record) → front ++ back ∷ [] ≡ [] → ⊥
        not_empty front back e = let n : length (front ++ back ∷ []) ≡ 0 = ap length e in let l = length-append front (back ∷ []) in omega (arith, n, l)

    -- ---- records of the tree

    purge_suits : (x : Purge) (s : PageState) → image (life_log opening h) x.page ≡ Some s → x.page_prev ≡ head (life_log opening h) x.page → s.rows ≡ Leaf (leaf_rows s.rows) → has_tombstone s ≡ true → Suits opening h (kinds.Purge x)
    unfolding CanApply applied
    purge_suits x s found prev leaf some' =
        let made = (purge s).leaf (the_tree.keeps x.page s found) leaf in
        record {
          lawful = record {
            first = some_items (life_log opening h) some;
            fields = record { page = page_fits x.page s found; page_prev = ap is_lsn_or_none prev ∙ head_fits x.page };
            chain = tt;
            heads = (prev, tt);
            applicable = λ p n. let e = ap (image (life_log opening h)) (eqb-true p x.page n) ∙ found in
                record { can = (s, e, made.can some'); fits = (purged s, ap (option_map purged) e, made.keeps.size) };
            place = tt;
            value = tt;
            upkeep = tt;
          };
          rule = tt;
        }

    adopt_suits : (a : Adopt) (s f : PageState) (i : ℕ) → HasFosterer (life_log opening h) a s f i → a.parent_prev ≡ head (life_log opening h) a.parent → a.fosterer_prev ≡ head (life_log opening h) a.fosterer
        → 5 + length a.key ≤ free_bytes s → Suits opening h (kinds.Adopt a)
    adopt_suits a s f i has prev prev' enough =
        let made = adopted (life_log opening h) a s f i rest.sound.lawful some has in
        record {
          lawful = record {
            first = some_items (life_log opening h) some;
            fields = record {
              parent = page_fits a.parent s has.parent;
              parent_prev = ap is_lsn_or_none prev ∙ head_fits a.parent;
              fosterer = page_fits a.fosterer f has.fosterer;
              fosterer_prev = ap is_lsn_or_none prev' ∙ head_fits a.fosterer;
              child = made.child;
              key = made.key;
            };
            chain = tt;
            heads = (prev, (prev', tt));
            applicable = adopt_applicable (life_log opening h) a s f i rest.sound.lawful some has enough;
            place = (s, has.parent, made.leads);
            value = tt;
            upkeep = tt;
          };
          rule = tt;
        }

    module _ (room : HasPage (life_log opening h)) where
      child_fits : (child : ℕ) → child ≡ suc (pages (life_log opening h)) → is_child child ≡ true
      child_fits child number = ap is_child number ∙ next_child (life_log opening h) rest.sound.lawful some room

      split_suits : (x : Split) (s : PageState) → image (life_log opening h) x.page ≡ Some s → x.page_prev ≡ head (life_log opening h) x.page → x.child ≡ suc (pages (life_log opening h)) → Halves x s → Suits opening h (kinds.Split x)
      split_suits x s found prev number halves = record {
        lawful = record {
          first = some_items (life_log opening h) some;
          fields = record { page = page_fits x.page s found; page_prev = ap is_lsn_or_none prev ∙ head_fits x.page; child = child_fits x.child number; child_state = halves.upper };
          chain = tt;
          heads = (prev, tt);
          applicable = split_applicable (life_log opening h) x s rest.sound.lawful some found number halves;
          place = number;
          value = tt;
          upkeep = tt;
        };
        rule = (s, found, halves.may);
      }

      grow_suits : (g : Grow) (s : PageState) → image (life_log opening h) 1 ≡ Some s → g.page_prev ≡ head (life_log opening h) 1 → g.child ≡ suc (pages (life_log opening h)) → g.child_state ≡ s → is_some s.foster ≡ true → s.level < 255
          → Suits opening h (kinds.Grow g)
      grow_suits g s found prev number is foster level =
          let made = grown_root (life_log opening h) g s rest.sound.lawful some found is number foster level (child_fits g.child number) in
          record {
            lawful = record {
              first = some_items (life_log opening h) some;
              fields = record { page_prev = ap is_lsn_or_none prev ∙ head_fits 1; child = child_fits g.child number; child_state = subst KeepsState (sym is) (the_tree.keeps 1 s found) };
              chain = tt;
              heads = (prev, tt);
              applicable = grow_applicable (life_log opening h) g s rest.sound.lawful some found is number made;
              place = number;
              value = tt;
              upkeep = tt;
            };
            rule = tt;
          }

pub hand_law : (opening : List Record) (h : List Entry) → HandLaw opening h
hand_law opening h = record {
  write = λ seen. write_suits opening h seen.lawful seen.rest seen.some;
  apply = λ seen. apply_suits opening h seen.lawful seen.rest seen.some;
  undo = λ seen. undo_suits opening h seen.lawful seen.rest seen.some;
  purge = λ seen. purge_suits opening h seen.lawful seen.rest seen.some;
  split = λ seen. split_suits opening h seen.lawful seen.rest seen.some;
  grow = λ seen. grow_suits opening h seen.lawful seen.rest seen.some;
  adopt = λ seen. adopt_suits opening h seen.lawful seen.rest seen.some;
  get = λ seen. get_suits opening h seen.lawful seen.rest seen.some;
  del = λ seen. del_suits opening h seen.lawful seen.rest seen.some;
}
