-- Going through a table.
use Rattle.std.proofs.Common.{◌≡◌, ℕ, Bool, true, false, cond, List, [], ◌∷◌, ◌++◌, map, refl, sym, ap, ◌∙◌, append_assoc}
use Rattle.std.proofs.lemmas.List.{append-nil, map-append}
use Rattle.wal_record.specs.OpenWrites.{has_items}
use Rattle.wal_record.specs.declared.record.OpenWrite.{OpenWrite}
use Rattle.wal_record.specs.declared.record.Unfinished.{Unfinished}
use Rattle.listing_laws.proofs.Transactions.{nothing}
use Rattle.log_index.specs.Table.{unfinished_of, listed_before, listed_in, oldest_in}
use Rattle.log_index.specs.declared.table.Tracked.{Tracked}
use Rattle.wal_record.specs.Checkpoints.{oldest}

first_listed : (e : ℕ × Tracked) (es : List (ℕ × Tracked)) → listed_in (e ∷ es) ≡ listed_before [] e ++ listed_in es
unfolding listed_in
first_listed e es = by (has_items e.1.writes.items)
  where
    by : (b : Bool) → cond b (unfinished_of e.0 e.1 ∷ listed_in es) (listed_in es) ≡ cond b (unfinished_of e.0 e.1 ∷ []) [] ++ listed_in es
    by true = refl
    by false = refl

none_left : listed_in [] ≡ []
unfolding listed_in
none_left = refl

pub one_through : (made new all : List Unfinished) (e : ℕ × Tracked) (left rest : List (ℕ × Tracked)) → left ≡ e ∷ rest → new ≡ made ++ listed_before [] e → made ++ listed_in left ≡ all → new ++ listed_in rest ≡ all
one_through made new all e left rest h n i =
    ap (λ (us : List Unfinished). us ++ listed_in rest) n
    ∙ append_assoc made (listed_before [] e) (listed_in rest)
    ∙ ap (λ (us : List Unfinished). made ++ us) (sym (first_listed e rest) ∙ sym (ap listed_in h))
    ∙ i

pub all_through : (made all : List Unfinished) (left : List (ℕ × Tracked)) → left ≡ [] → made ++ listed_in left ≡ all → made ≡ all
all_through made all left h i = sym (append-nil made) ∙ ap (λ (us : List Unfinished). made ++ us) (sym none_left ∙ sym (ap listed_in h)) ∙ i

module _ {A : Type 0} (f : Unfinished → A) where
  pub one_mapped : (made new all : List A) (e : ℕ × Tracked) (left rest : List (ℕ × Tracked)) → left ≡ e ∷ rest → new ≡ made ++ map f (listed_before [] e) → made ++ map f (listed_in left) ≡ all → new ++ map f (listed_in rest) ≡ all
  one_mapped made new all e left rest h n i =
      ap (λ (us : List A). us ++ map f (listed_in rest)) n
      ∙ append_assoc made (map f (listed_before [] e)) (map f (listed_in rest))
      ∙ ap (λ (us : List A). made ++ us) (sym (map-append f (listed_before [] e) (listed_in rest)) ∙ ap (map f) (sym (first_listed e rest) ∙ sym (ap listed_in h)))
      ∙ i

  pub all_mapped : (made all : List A) (left : List (ℕ × Tracked)) → left ≡ [] → made ++ map f (listed_in left) ≡ all → made ≡ all
  all_mapped made all left h i = sym (append-nil made) ∙ ap (λ (us : List A). made ++ us) (sym (ap (map f) (ap listed_in h ∙ none_left))) ∙ i

-- ---- the oldest open write

pub one_older : (least new all : ℕ) (e : ℕ × Tracked) (left rest : List (ℕ × Tracked)) → left ≡ e ∷ rest → new ≡ oldest e.1.writes.items least → oldest_in least (listed_in left) ≡ all → oldest_in new (listed_in rest) ≡ all
unfolding listed_in
one_older least new all e left rest h n i = ap (λ (m : ℕ). oldest_in m (listed_in rest)) n ∙ by (has_items e.1.writes.items) refl ∙ sym (ap (λ (es : List (ℕ × Tracked)). oldest_in least (listed_in es)) h) ∙ i
  where
    by : (b : Bool) → has_items e.1.writes.items ≡ b → oldest_in (oldest e.1.writes.items least) (listed_in rest) ≡ oldest_in least (cond b (unfinished_of e.0 e.1 ∷ listed_in rest) (listed_in rest))
    by true some = refl
    by false none = ap (λ (ws : List OpenWrite). oldest_in (oldest ws least) (listed_in rest)) (nothing e.1.writes.items none)

pub all_older : (least all : ℕ) (left : List (ℕ × Tracked)) → left ≡ [] → oldest_in least (listed_in left) ≡ all → least ≡ all
unfolding listed_in
all_older least all left h i = sym (ap (λ (es : List (ℕ × Tracked)). oldest_in least (listed_in es)) h) ∙ i
