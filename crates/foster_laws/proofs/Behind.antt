-- Behind the split of a leaf in hand, on the half of its key, any write and any undo suits.
use Rattle.std.proofs.Common.{◌≡◌, ◌≢◌, ℕ, Bool, true, false, cond, eqb, List, [], ◌∷◌, ◌++◌, Option, Some, None, refl, sym, ap, subst, ◌∙◌, arith, inl, inr, ◌≤◌}
use Rattle.std.specs.Prelude.{is_some, ◌||◌}
use Rattle.std.specs.List.{list_any}
use Rattle.std.specs.Option.{option_map}
use Rattle.std.specs.FinMap.{get}
use Rattle.std.proofs.lemmas.Bool.{eq-eqb, eqb-true}
use Rattle.store_model.specs.Range.{is_below}
use Rattle.store_model.specs.Contents.{Contents}
use Rattle.store_model.specs.Operator.{meaning}
use Rattle.wal_record.specs.State.{leaf_rows, live, state_size, page_room, is_key, is_text}
use Rattle.wal_record.specs.Rules.{is_lsn_or_none, is_maybe_value, is_change, is_page, is_u8}
use Rattle.wal_record.specs.Chains.{head, last, finishes}
use Rattle.wal_record.specs.OpenWrites.{open_writes, writes, has_items, IsAlone, key_of, old_of}
use Rattle.wal_record.specs.Contents.{current}
use Rattle.wal_record.specs.Images.{image, applied, CanApply, CanUndo, with_value}
use Rattle.wal_record.specs.History.{life_log, phase}
use Rattle.wal_record.specs.Locks.{covers_write, locks}
use Rattle.wal_record.specs.Legal.{MayUndo, NeedsSplit, FollowsSplit, split_step, if_leaf, leaf_only}
use Rattle.wal_record.specs.declared.page.PageState.{PageState}
use Rattle.wal_record.specs.declared.page.Rows.{Rows}
use Rattle.wal_record.specs.declared.page.Rows.TheVariants.{Leaf, Branch}
use Rattle.wal_record.specs.declared.record.Split.{Split}
use Rattle.wal_record.specs.declared.record.Record.{Record}
use Rattle.wal_record.specs.declared.record.Record.TheVariants as kinds
use Rattle.wal_record.specs.declared.entry.Entry.{Entry}
use Rattle.wal_record.specs.declared.entry.Entry.TheVariants.{Rec}
use Rattle.wal_record.proofs.Pushes.{log_more}
use Rattle.log_laws.proofs.Beginnings.{structure}
use Rattle.log_laws.proofs.EnteringLaws.{entering}
use Rattle.claim_laws.specs.Suiting.{Suits}
use Rattle.claim_laws.specs.Entering.{next}
use Rattle.claim_laws.specs.Filling.{HasNumbers, IsOnSplit, after_split}
use Rattle.claim_laws.proofs.Resting.{resting}
use Rattle.foster_laws.specs.Enters.{half_page, HalfOf}
use Rattle.foster_laws.specs.InHand.{IsSeen, MayWrite, write_on, apply_on, undo_on, IsSplitOf, BehindLaw}
use Rattle.foster_laws.proofs.HalfSizes.{le_true}
use Rattle.foster_laws.proofs.Entering.{split_pages, half_law}
use Rattle.foster_laws.proofs.Linking.{live_unfinished, open_law}
use Rattle.foster_laws.proofs.InHand.{lsn_is, page_is, some_items, all_own, own_last, AllOwn, takes_it, spelled_of, value_is, page_fits, old_fits, last_fits}

leaf_is : (s : PageState) (rows : Rows) → rows ≡ Leaf (leaf_rows rows) → leaf_only rows s ≡ Some s
leaf_is s (Leaf rows) e = refl
leaf_is s (Branch rows) e = absurd cc

-- the record is on the page that was split, or on the new one
on_split : (x : Split) (b : Bool) (page : ℕ) → page ≡ cond b x.page x.child → eqb page x.child ≡ false → page ≡ x.page
on_split x true page is other = is
on_split x false page is other = absurd (let same : eqb page x.child ≡ true = eq-eqb page x.child is in let clash : true ≡ false = sym same ∙ other in cc)

module _ (opening : List Record) (h : List Entry) (x : Split) (s : PageState) (key : List ℕ) (seen : IsSeen opening h) (few : HasNumbers (life_log opening h) 1) (split : IsSplitOf (life_log opening h) x s key) where
  abbrev log : List Record
  log = life_log opening h

  abbrev e : Entry
  e = Rec (next opening h) (kinds.Split x)

  abbrev log' : List Record
  log' = life_log opening (after_split opening h x)

  log_is : log' ≡ log ++ kinds.Split x ∷ []
  log_is = log_more opening h (next opening h) (kinds.Split x)

  half : HalfOf log x s key
  half = (half_law log x s key).half (split_pages log x s seen.rest.sound.lawful seen.some split.image split.number) split.halves split.own

  image_is : image log' (half_page x key) ≡ Some half.state
  image_is = ap (λ (l : List Record). image l (half_page x key)) log_is ∙ half.image

  head_is : next opening h ≡ head log' (half_page x key)
  head_is = sym (ap (λ (l : List Record). head l (half_page x key)) log_is ∙ half.last)

  -- what the split leaves as it is
  phase_same : (t : ℕ) → phase (after_split opening h x) t ≡ phase h t
  phase_same t = (resting opening h (e ∷ []) t).phase refl

  locks_same : (t : ℕ) → locks opening (after_split opening h x) t ≡ locks opening h t
  locks_same t = (resting opening h (e ∷ []) t).locks refl

  open_same : (t : ℕ) → open_writes log' t ≡ open_writes log t
  open_same t = (resting opening h (e ∷ []) t).open_writes refl

  last_same : (t : ℕ) → last log' t ≡ last log t
  last_same t = (resting opening h (e ∷ []) t).last refl

  current_same : current log' ≡ current log
  current_same = ap current log_is ∙ (structure log (kinds.Split x)).current refl

  some' : log' ≢ []
  some' empty = not_empty log (kinds.Split x) (sym log_is ∙ empty)
    where
      not_empty : (l : List Record) (r : Record) → l ++ r ∷ [] ≡ [] → ⊥
      not_empty [] r n = cc
      not_empty (y ∷ l) r n = cc

  page_number : is_page (half_page x key) ≡ true
  page_number = by (is_below (Some key) x.child_state.low)
    where
      child_most : x.child ≤ 16384
      child_most = let n = split.number in let r = split.room in omega (arith, n, r)

      by : (b : Bool) → is_page (cond b x.page x.child) ≡ true
      by true = page_fits opening h seen.lawful seen.rest seen.some x.page s split.image
      by false = page_is x.child (let n = split.number in omega (arith, n)) child_most

  prev_number : is_lsn_or_none (next opening h) ≡ true
  prev_number = lsn_is (next opening h) (omega (arith, few))

  on : (page : ℕ) → page ≡ half_page x key → eqb page x.child ≡ false → page ≡ x.page
  on page is other = on_split x (is_below (Some key) x.child_state.low) page is other

  on_half : IsOnSplit x (write_on log (next opening h) 0 (half_page x key) s key None)
  on_half other = on (half_page x key) refl other

  alone_same : (t : ℕ) → list_any (covers_write key) (locks opening h t) ≡ true → IsAlone log' key t
  alone_same t locked other n = ap (list_any (writes key)) (open_same other) ∙ (entering opening h).alone seen.lawful seen.rest.legal t key locked other n

  value_same : live (leaf_rows s.rows) key ≡ get (current log') key
  value_same = value_is opening h seen.lawful seen.rest seen.some x.page s key (record { image = split.image; at = record { leaf = split.leaf; own = split.own } }) ∙ ap (λ (m : Contents). get m key) (sym current_same)

  old_number : is_maybe_value (live (leaf_rows s.rows) key) ≡ true
  old_number = old_fits opening h seen.lawful seen.rest seen.some x.page s key (record { image = split.image; at = record { leaf = split.leaf; own = split.own } })

  last_number : (t : ℕ) → is_lsn_or_none (last log t) ≡ true
  last_number t = last_fits opening h seen.lawful seen.rest seen.some (omega (arith, few)) t

  unfinished_same : (t : ℕ) → list_any (finishes t) log ≡ false → list_any (finishes t) log' ≡ false
  unfinished_same t n = (resting opening h (e ∷ []) t).finished refl ∙ n

  image_at : (p : ℕ) → eqb p (half_page x key) ≡ true → image log' p ≡ Some half.state
  image_at p n = ap (image log') (eqb-true p (half_page x key) n) ∙ image_is

  size_of : (value : Option (List ℕ)) → is_key key ≡ true → is_maybe_value value ≡ true → state_size (with_value key value half.state) ≤ page_room
  size_of value spelled fits = le_true (state_size (with_value key value half.state)) page_room (half.room key value spelled fits)

  write_behind : (t : ℕ) → MayWrite opening h t key → (new : Option (List ℕ)) → is_maybe_value new ≡ true → is_change (live (leaf_rows s.rows) key) new ≡ true
      → Suits opening (after_split opening h x) (write_on log (next opening h) t (half_page x key) s key new)
  unfolding CanApply applied
  write_behind t may new fits change = record {
    lawful = record {
      first = some_items log' some';
      fields = record { tx = may.number; prev = last_number t; page = page_number; page_prev = prev_number; key = may.spelled; old = old_number; new = fits; change = change };
      chain = (sym (last_same t), unfinished_same t (live_unfinished opening seen.lawful h t seen.rest.legal may.live));
      heads = (head_is, tt);
      applicable = λ p n. record { can = (half.state, image_at p n, record { at = half.at; value = half.value }); fits = (with_value key new half.state, ap (option_map (with_value key new)) (image_at p n), size_of new may.spelled fits) };
      place = tt;
      value = (alone_same t may.locked, value_same, change);
      upkeep = tt;
    };
    rule = (phase_same t ∙ may.live, ap (list_any (covers_write key)) (locks_same t) ∙ may.locked);
  }

  apply_behind : (t : ℕ) → MayWrite opening h t key → (operator : ℕ) (argument : List ℕ) → is_u8 operator ≡ true → is_text argument ≡ true
      → is_some (meaning operator (live (leaf_rows s.rows) key) argument) ≡ true → is_maybe_value (meaning operator (live (leaf_rows s.rows) key) argument) ≡ true
      → Suits opening (after_split opening h x) (apply_on log (next opening h) t (half_page x key) s key operator argument)
  unfolding CanApply applied
  apply_behind t may operator argument o g means fits =
      record {
        lawful = record {
          first = some_items log' some';
          fields = record { tx = may.number; prev = last_number t; page = page_number; page_prev = prev_number; key = may.spelled; operator = o; argument = g; old = old_number };
          chain = (sym (last_same t), unfinished_same t (live_unfinished opening seen.lawful h t seen.rest.legal may.live));
          heads = (head_is, tt);
          applicable = λ p n. record {
            can = ((half.state, image_at p n, record { at = half.at; value = half.value }), means);
            fits = (with_value key (meaning operator (live (leaf_rows s.rows) key) argument) half.state, ap (option_map (with_value key (meaning operator (live (leaf_rows s.rows) key) argument))) (image_at p n), size_of (meaning operator (live (leaf_rows s.rows) key) argument) may.spelled fits);
          };
          place = tt;
          value = (alone_same t may.locked, value_same, means);
          upkeep = tt;
        };
        rule = (phase_same t ∙ may.live, ap (list_any (covers_write key)) (locks_same t) ∙ may.locked);
      }

  may_undo : (t : ℕ) → MayUndo opening h t → MayUndo opening (after_split opening h x) t
  may_undo t (inl live) = inl (phase_same t ∙ live)
  may_undo t (inr loser) = inr loser

  undo_behind : (t : ℕ) (front : List Record) (w : Record) → open_writes log t ≡ front ++ w ∷ [] → key_of w ≡ key → MayUndo opening h t
      → Suits opening (after_split opening h x) (undo_on log (next opening h) t (half_page x key) w)
  unfolding CanApply applied
  undo_behind t front w back is may =
      let own = own_last t front w (subst (AllOwn t) back (all_own t log seen.rest.sound.lawful)) in
      let k = spelled_of t w own in
      let found : (is_some (old_of w) || is_some (live (leaf_rows s.rows) key)) ≡ true =
      ap (λ (v : Option (List ℕ)). is_some (old_of w) || is_some v) (value_is opening h seen.lawful seen.rest seen.some x.page s key (record { image = split.image; at = record { leaf = split.leaf; own = split.own } }))
      ∙ ap (λ (q : List ℕ). is_some (old_of w) || is_some (get (current log) q)) (sym is)
      ∙ (entering opening h).can_undo seen.lawful seen.rest.legal t front w back in
      let there : (is_some (old_of w) || is_some (live (leaf_rows (half.state).rows) key)) ≡ true = ap (λ (v : Option (List ℕ)). is_some (old_of w) || is_some v) half.value ∙ found in
      record {
        lawful = record {
          first = some_items log' some';
          fields = record { tx = k.tx; prev = last_number t; page = page_number; page_prev = prev_number; key = k.key; restores = k.old; undo_next = k.prev };
          chain = (sym (last_same t), unfinished_same t ((open_law log t).unfinished seen.rest.sound.lawful (ap has_items back ∙ some_back front w)));
          heads = (head_is, tt);
          applicable = λ p n. record {
            can = (half.state, image_at p n, subst (λ (q : List ℕ). CanUndo q (old_of w) half.state) (sym is) (record { at = half.at; there = there }));
            fits = (with_value (key_of w) (old_of w) half.state, ap (option_map (with_value (key_of w) (old_of w))) (image_at p n), subst (λ (q : List ℕ). state_size (with_value q (old_of w) half.state) ≤ page_room) (sym is) (size_of (old_of w) (ap is_key (sym is) ∙ k.key) k.old));
          };
          place = tt;
          value = record { front = front; back = w; split = open_same t ∙ back; takes = takes_it t (last log t) (half_page x key) (next opening h) w own };
          upkeep = tt;
        };
        rule = may_undo t may;
      }
    where
      some_back : (front : List Record) (w : Record) → has_items (front ++ w ∷ []) ≡ true
      some_back [] w = refl
      some_back (y ∷ ys) w = refl

asked : (before : List Record) (x : Split) (s : PageState) (key : List ℕ) → IsSplitOf before x s key → (r : Record) (lsn after : ℕ) → NeedsSplit s r → FollowsSplit (split_step before (Rec lsn (kinds.Split x))) (Rec after r)
asked before x s key split r lsn after needs = subst (λ (o : Option PageState). FollowsSplit o (Rec after r)) (sym (ap if_leaf split.image ∙ leaf_is s s.rows split.leaf)) needs

pub behind_law : (opening : List Record) (h : List Entry) (x : Split) (s : PageState) (key : List ℕ) → BehindLaw opening h x s key
behind_law opening h x s key = record {
  write = λ seen few split t may new fits change. record { on = on_half opening h x s key seen few split; suits = write_behind opening h x s key seen few split t may new fits change };
  apply = λ seen few split t may operator argument o g means fits. record { on = on_half opening h x s key seen few split; suits = apply_behind opening h x s key seen few split t may operator argument o g means fits };
  undo = λ seen few t front w back is may split. record { on = on_half opening h x s key seen few split; suits = undo_behind opening h x s key seen few split t front w back is may };
  asked = λ split. asked (life_log opening h) x s key split;
}
