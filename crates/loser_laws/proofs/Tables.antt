-- A table of losers, as entries come.
use Rattle.std.proofs.Common.{◌≡◌, ℕ, suc, eqb, cond, List, [], ◌∷◌, ◌++◌, length, Option, Some, None, Bool, true, false, refl, sym, ap, subst, ◌∙◌}
use Rattle.std.specs.Prelude.{map, not, ◌||◌, filter}
use Rattle.std.specs.List.{find, list_any}
use Rattle.std.specs.Option.{option_map}
use Rattle.std.proofs.lemmas.Bool.{eqb-true}
use Rattle.std.proofs.lemmas.List.Folds.{list_any-append}
use Rattle.losers.specs.Losers.{ended_at, is_left, is_of, undone_at, untouched}
use Rattle.losers.specs.declared.losers.LoserState.{LoserState}
use Rattle.page_ops.specs.Asking.{forestalls, last_place}
use Rattle.page_ops.specs.Groups.{Each}
use Rattle.page_ops.specs.Outcomes.{first_of, losers_left}
use Rattle.store_model.proofs.Bools.{false_unless, not_both}
use Rattle.log_laws.proofs.Central.{eqb_self}
use Rattle.wal_record.specs.Sound.{AreLawful}
use Rattle.wal_record.specs.declared.record.End.{End}
use Rattle.loser_laws.proofs.Least.{least}
use Rattle.store_model.specs.Along.{along}
use Rattle.wal_record.specs.Chains.{finishes}
use Rattle.wal_record.specs.History.{log_of}
use Rattle.wal_record.specs.OpenWrites.{is_loser}
use Rattle.wal_record.specs.declared.entry.Entry.{Entry}
use Rattle.wal_record.specs.declared.entry.Entry.TheVariants as entries
use Rattle.wal_record.specs.declared.record.Record.{Record}
use Rattle.wal_record.specs.declared.record.Record.TheVariants as kinds
use Rattle.wal_record.specs.declared.record.Undo.{Undo}
use Rattle.wal_record.proofs.Along.{along_push}
use Rattle.wal_record.proofs.Pushes.{log_same, log_more}
use Rattle.loser_laws.specs.Losers.{AreLosers, IsDone, touches, txs_of}

pub place_push : (is : Entry → Bool) (h : List Entry) (e : Entry) → last_place is (h ++ e ∷ []) ≡ cond (is e) (suc (length h)) (last_place is h)
unfolding last_place
place_push is h e = along_push _ _ h e

-- what comes before an Undo of the transaction and before its End is the same
pub touch_undo : (u : Undo) (e : Entry) → forestalls (kinds.Undo u) e ≡ touches u.tx e
touch_undo u (entries.Rec lsn (kinds.Undo x)) = refl
touch_undo u (entries.Rec lsn (kinds.End x)) = refl
touch_undo u _ = refl

nothing_placed : (is : Entry → Bool) → last_place is [] ≡ 0
unfolding last_place along
nothing_placed is = refl

-- ---- one of them

-- an entry that touches none of its writes, and doesn't finish it
module _ (h : List Entry) (e : Entry) (x : LoserState) (k : IsDone h x) where
  one_still : touches x.tx e ≡ false → list_any (finishes x.tx) (log_of (h ++ e ∷ [])) ≡ list_any (finishes x.tx) (log_of h) → IsDone (h ++ e ∷ []) x
  one_still apart same = record {
    place = k.place ∙ sym (place_push (touches x.tx) h e ∙ ap (λ (b : Bool). cond b (suc (length h)) (last_place (touches x.tx) h)) apart);
    over = k.over ∙ sym same;
  }

or_none : (a b : Bool) → b ≡ false → (a || (b || false)) ≡ a
or_none true b e = refl
or_none false true e = absurd (cc e)
or_none false false e = refl

or_one : (a b : Bool) → b ≡ true → (a || (b || false)) ≡ true
or_one true b e = refl
or_one false true e = refl
or_one false false e = absurd (cc e)

finished_more : (h : List Entry) (lsn : ℕ) (r : Record) (t : ℕ) → list_any (finishes t) (log_of (h ++ entries.Rec lsn r ∷ [])) ≡ (list_any (finishes t) (log_of h) || (finishes t r || false))
finished_more h lsn r t = ap (list_any (finishes t)) (log_more [] h lsn r) ∙ list_any-append (finishes t) (log_of h) (r ∷ [])

record_still : (h : List Entry) (lsn : ℕ) (r : Record) (x : LoserState) → IsDone h x → touches x.tx (entries.Rec lsn r) ≡ false → finishes x.tx r ≡ false → IsDone (h ++ entries.Rec lsn r ∷ []) x
record_still h lsn r x k apart still = one_still h (entries.Rec lsn r) x k apart (finished_more h lsn r x.tx ∙ or_none (list_any (finishes x.tx) (log_of h)) (finishes x.tx r) still)

one_undone : (h : List Entry) (lsn place : ℕ) (u : Undo) (x : LoserState) → place ≡ suc (length h) → IsDone h x → IsDone (h ++ entries.Rec lsn (kinds.Undo u) ∷ []) (undone_at u.tx place x)
one_undone h lsn place u x at k = by (eqb u.tx x.tx) refl
  where
    by : (b : Bool) → eqb u.tx x.tx ≡ b → IsDone (h ++ entries.Rec lsn (kinds.Undo u) ∷ []) (cond b (record x { place = place }) x)
    by true e = record {
      place = at ∙ sym (place_push (touches x.tx) h (entries.Rec lsn (kinds.Undo u)) ∙ ap (λ (b : Bool). cond b (suc (length h)) (last_place (touches x.tx) h)) e);
      over = k.over ∙ sym (finished_more h lsn (kinds.Undo u) x.tx ∙ or_none (list_any (finishes x.tx) (log_of h)) false refl);
    }
    by false e = record_still h lsn (kinds.Undo u) x k e refl

one_ended : (h : List Entry) (lsn place tx prev : ℕ) (x : LoserState) → place ≡ suc (length h) → IsDone h x → IsDone (h ++ entries.Rec lsn (kinds.End (record { tx = tx; prev = prev })) ∷ []) (ended_at tx place x)
one_ended h lsn place tx prev x at k = by (eqb tx x.tx) refl
  where
    r : Record
    r = kinds.End (record { tx = tx; prev = prev })

    by : (b : Bool) → eqb tx x.tx ≡ b → IsDone (h ++ entries.Rec lsn (kinds.End (record { tx = tx; prev = prev })) ∷ []) (cond b (record { tx = x.tx; place = place; over = true }) x)
    by true e = record {
      place = at ∙ sym (place_push (touches x.tx) h (entries.Rec lsn (kinds.End (record { tx = tx; prev = prev }))) ∙ ap (λ (b : Bool). cond b (suc (length h)) (last_place (touches x.tx) h)) e);
      over = sym (finished_more h lsn (kinds.End (record { tx = tx; prev = prev })) x.tx ∙ or_one (list_any (finishes x.tx) (log_of h)) (eqb tx x.tx) e);
    }
    by false e = record_still h lsn (kinds.End (record { tx = tx; prev = prev })) x k e e

-- ---- all of them

each_after : (P Q : LoserState → Type 0) (f : LoserState → LoserState) → ((x : LoserState) → P x → Q (f x)) → (xs : List LoserState) → Each P xs → Each Q (map f xs)
each_after P Q f g [] k = tt
each_after P Q f g (x ∷ xs) k = (g x k.0, each_after P Q f g xs k.1)

each_same : (P Q : LoserState → Type 0) → ((x : LoserState) → P x → Q x) → (xs : List LoserState) → Each P xs → Each Q xs
each_same P Q g [] k = tt
each_same P Q g (x ∷ xs) k = (g x k.0, each_same P Q g xs k.1)

same_txs : (f : LoserState → LoserState) → ((x : LoserState) → (f x).tx ≡ x.tx) → (xs : List LoserState) → txs_of (map f xs) ≡ txs_of xs
same_txs f g [] = refl
same_txs f g (x ∷ xs) = λ i. g x i ∷ same_txs f g xs i

either_tx : (b : Bool) (x y : LoserState) → x.tx ≡ y.tx → (cond b x y).tx ≡ y.tx
either_tx true x y e = e
either_tx false x y e = refl

pub undone_txs : (tx place : ℕ) (xs : List LoserState) → txs_of (map (undone_at tx place) xs) ≡ txs_of xs
undone_txs tx place xs = same_txs (undone_at tx place) (λ x. either_tx (eqb tx x.tx) (record x { place = place }) x refl) xs

pub ended_txs : (tx place : ℕ) (xs : List LoserState) → txs_of (map (ended_at tx place) xs) ≡ txs_of xs
ended_txs tx place xs = same_txs (ended_at tx place) (λ x. either_tx (eqb tx x.tx) (record { tx = x.tx; place = place; over = true }) x refl) xs

pub all_undone : (h : List Entry) (lsn place : ℕ) (u : Undo) (xs : List LoserState) → place ≡ suc (length h) → Each (IsDone h) xs → Each (IsDone (h ++ entries.Rec lsn (kinds.Undo u) ∷ [])) (map (undone_at u.tx place) xs)
all_undone h lsn place u xs at k = each_after (IsDone h) _ (undone_at u.tx place) (λ x k. one_undone h lsn place u x at k) xs k

pub all_ended : (h : List Entry) (lsn place tx prev : ℕ) (xs : List LoserState) → place ≡ suc (length h) → Each (IsDone h) xs → Each (IsDone (h ++ entries.Rec lsn (kinds.End (record { tx = tx; prev = prev })) ∷ [])) (map (ended_at tx place) xs)
all_ended h lsn place tx prev xs at k = each_after (IsDone h) _ (ended_at tx place) (λ x k. one_ended h lsn place tx prev x at k) xs k

-- a record that is neither an Undo nor a Commit nor an End
pub all_still : (h : List Entry) (lsn : ℕ) (r : Record) (xs : List LoserState) → ((t : ℕ) → touches t (entries.Rec lsn r) ≡ false) → ((t : ℕ) → finishes t r ≡ false) → Each (IsDone h) xs → Each (IsDone (h ++ entries.Rec lsn r ∷ [])) xs
all_still h lsn r xs apart still k = each_same (IsDone h) _ (λ x k. record_still h lsn r x k (apart x.tx) (still x.tx)) xs k

-- an entry that is no record
pub all_calm : (h : List Entry) (e : Entry) (xs : List LoserState) → log_of (e ∷ []) ≡ [] → ((t : ℕ) → touches t e ≡ false) → Each (IsDone h) xs → Each (IsDone (h ++ e ∷ [])) xs
all_calm h e xs none apart k = each_same (IsDone h) _ (λ x k. one_still h e x k (apart x.tx) (ap (list_any (finishes x.tx)) (log_same [] h e none))) xs k

-- the Commit of a transaction that is none of them
pub all_committed : (h : List Entry) (lsn tx prev : ℕ) (xs : List LoserState) → Each (λ (x : LoserState). eqb tx x.tx ≡ false) xs → Each (IsDone h) xs → Each (IsDone (h ++ entries.Rec lsn (kinds.Commit (record { tx = tx; prev = prev })) ∷ [])) xs
all_committed h lsn tx prev [] apart k = tt
all_committed h lsn tx prev (x ∷ xs) apart k = (record_still h lsn (kinds.Commit (record { tx = tx; prev = prev })) x k.0 refl apart.0, all_committed h lsn tx prev xs apart.1 k.1)

-- at the start nothing is done
pub none_done : (ts : List ℕ) → Each (IsDone []) (map untouched ts)
none_done [] = tt
none_done (t ∷ ts) = (record { place = sym (nothing_placed (touches t)); over = refl }, none_done ts)

pub start_txs : (ts : List ℕ) → txs_of (map untouched ts) ≡ ts
start_txs [] = refl
start_txs (t ∷ ts) = ap (λ (us : List ℕ). t ∷ us) (start_txs ts)

-- ---- who is among them

all_chosen : (q : ℕ → Bool) (ns : List ℕ) → Each (λ t. q t ≡ true) (filter q ns)
all_chosen q [] = tt
all_chosen q (n ∷ ns) = by (all_chosen q ns) (q n) refl
  where
    by : Each (λ t. q t ≡ true) (filter q ns) → (b : Bool) → q n ≡ b → Each (λ t. q t ≡ true) (cond b (n ∷ filter q ns) (filter q ns))
    by more true e = (e, more)
    by more false e = more

each_state : (P : ℕ → Type 0) (xs : List LoserState) → Each P (txs_of xs) → Each (λ (x : LoserState). P x.tx) xs
each_state P [] k = tt
each_state P (x ∷ xs) k = (k.0, each_state P xs k.1)

-- each of them is a loser
pub each_loser : (opening : List Record) (h : List Entry) (xs : List LoserState) → AreLosers opening h xs → Each (λ (x : LoserState). is_loser opening x.tx ≡ true) xs
each_loser opening h xs k = each_state (λ t. is_loser opening t ≡ true) xs (subst (Each (λ t. is_loser opening t ≡ true)) (sym k.txs) (all_chosen (is_loser opening) _))

-- so who is none is apart from each
pub each_apart : (opening : List Record) (h : List Entry) (xs : List LoserState) (tx : ℕ) → AreLosers opening h xs → is_loser opening tx ≡ false → Each (λ (x : LoserState). eqb tx x.tx ≡ false) xs
each_apart opening h xs tx k none = each_same (λ (x : LoserState). is_loser opening x.tx ≡ true) _ (λ x is. false_unless (eqb tx x.tx) (λ e. cc (is, none, ap (is_loser opening) (eqb-true tx x.tx e)))) xs (each_loser opening h xs k)

-- what is found of a transaction
pub found_done : (h : List Entry) (tx : ℕ) (xs : List LoserState) (x : LoserState) → Each (IsDone h) xs → find (is_of tx) xs ≡ Some x → IsDone h x × (x.tx ≡ tx)
found_done h tx [] x k e = absurd (cc e)
found_done h tx (y ∷ ys) x k e = by (found_done h tx ys x k.1) (eqb tx y.tx) refl e
  where
    by : (find (is_of tx) ys ≡ Some x → IsDone h x × (x.tx ≡ tx)) → (b : Bool) → eqb tx y.tx ≡ b → cond b (Some y) (find (is_of tx) ys) ≡ Some x → IsDone h x × (x.tx ≡ tx)
    by more true same e = let is : y ≡ x = cc e in subst (λ (z : LoserState). IsDone h z × (z.tx ≡ tx)) is (k.0, sym (eqb-true tx y.tx same))
    by more false same e = more e

pub found_loser : (opening : List Record) (tx : ℕ) (xs : List LoserState) (x : LoserState) → Each (λ (y : LoserState). is_loser opening y.tx ≡ true) xs → find (is_of tx) xs ≡ Some x → is_loser opening tx ≡ true
found_loser opening tx [] x k e = absurd (cc e)
found_loser opening tx (y ∷ ys) x k e = by (found_loser opening tx ys x k.1) (eqb tx y.tx) refl e
  where
    by : (find (is_of tx) ys ≡ Some x → is_loser opening tx ≡ true) → (b : Bool) → eqb tx y.tx ≡ b → cond b (Some y) (find (is_of tx) ys) ≡ Some x → is_loser opening tx ≡ true
    by more true same e = ap (is_loser opening) (eqb-true tx y.tx same) ∙ k.0
    by more false same e = more e

find_tx : (p : ℕ → Bool) (xs : List LoserState) → find p (txs_of xs) ≡ option_map (λ (x : LoserState). x.tx) (find (λ (x : LoserState). p x.tx) xs)
find_tx p [] = refl
find_tx p (x ∷ xs) = by (find_tx p xs) (p x.tx)
  where
    by : find p (txs_of xs) ≡ option_map (λ (x : LoserState). x.tx) (find (λ (x : LoserState). p x.tx) xs) → (b : Bool) → cond b (Some x.tx) (find p (txs_of xs)) ≡ option_map (λ (x : LoserState). x.tx) (cond b (Some x) (find (λ (x : LoserState). p x.tx) xs))
    by more true = refl
    by more false = more

pub found_tx : (p : ℕ → Bool) (xs : List LoserState) → option_map (λ (x : LoserState). x.tx) (find (λ (x : LoserState). p x.tx) xs) ≡ find p (txs_of xs)
found_tx p xs = sym (find_tx p xs)

-- ---- those that are left

left_same : (h : List Entry) (xs : List LoserState) → Each (IsDone h) xs → txs_of (filter is_left xs) ≡ filter (λ (t : ℕ). not (list_any (finishes t) (log_of h))) (txs_of xs)
left_same h [] k = refl
left_same h (x ∷ xs) k = by (left_same h xs k.1) (not x.over) (not (list_any (finishes x.tx) (log_of h))) (ap not k.0.over)
  where
    by : txs_of (filter is_left xs) ≡ filter (λ (t : ℕ). not (list_any (finishes t) (log_of h))) (txs_of xs) → (b c : Bool) → b ≡ c → txs_of (cond b (x ∷ filter is_left xs) (filter is_left xs)) ≡ cond c (x.tx ∷ filter (λ (t : ℕ). not (list_any (finishes t) (log_of h))) (txs_of xs)) (filter (λ (t : ℕ). not (list_any (finishes t) (log_of h))) (txs_of xs))
    by more true true e = ap (λ (ts : List ℕ). x.tx ∷ ts) more
    by more true false e = absurd (cc e)
    by more false true e = absurd (cc e)
    by more false false e = more

pub left_are : (opening : List Record) (h : List Entry) (xs : List LoserState) → AreLosers opening h xs → txs_of (filter is_left xs) ≡ losers_left opening h
left_are opening h xs k = left_same h xs k.done ∙ ap (filter (λ (t : ℕ). not (list_any (finishes t) (log_of h)))) k.txs

first_or : (x : LoserState) (xs : List LoserState) (b : Bool) → first_of (txs_of (filter is_left xs)) ≡ option_map (λ (x : LoserState). x.tx) (find is_left xs)
    → first_of (txs_of (cond b (x ∷ filter is_left xs) (filter is_left xs))) ≡ option_map (λ (x : LoserState). x.tx) (cond b (Some x) (find is_left xs))
first_or x xs true e = refl
first_or x xs false e = e

first_same : (xs : List LoserState) → first_of (txs_of (filter is_left xs)) ≡ option_map (λ (x : LoserState). x.tx) (find is_left xs)
first_same [] = refl
first_same (x ∷ xs) = first_or x xs (is_left x) (first_same xs)

pub first_left : (xs : List LoserState) (o : Option LoserState) → o ≡ find is_left xs → first_of (txs_of (filter is_left xs)) ≡ option_map (λ (x : LoserState). x.tx) o
first_left xs o is = first_same xs ∙ sym (ap (option_map (λ (x : LoserState). x.tx)) is)

-- what comes before an End of the transaction
pub touch_end : (x : End) (e : Entry) → forestalls (kinds.End x) e ≡ touches x.tx e
touch_end x (entries.Rec lsn (kinds.Undo u)) = refl
touch_end x (entries.Rec lsn (kinds.End y)) = refl
touch_end x _ = refl

-- who isn't found is no loser
pub found_none : (opening : List Record) (h : List Entry) (xs : List LoserState) (tx : ℕ) → AreLawful opening → AreLosers opening h xs → find (is_of tx) xs ≡ None → is_loser opening tx ≡ false
found_none opening h xs tx sound k none =
    let p = λ (t : ℕ). eqb tx t in
    false_unless (is_loser opening tx) (λ loser. not_both (eqb tx tx) (eqb_self tx) ((least opening p).none sound (ap (find p) (sym k.txs) ∙ sym (found_tx p xs) ∙ ap (option_map (λ (x : LoserState). x.tx)) none) tx loser))
