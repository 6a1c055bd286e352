-- Each step keeps the rule of a count.
use Rattle.std.proofs.Common.{◌≡◌, ◌≢◌, ℕ, zero, suc, ◌+◌, ◌%◌, ◌^◌, ◌<◌, ◌≤◌, List, [], ◌∷◌, ◌++◌, length, set, true, false, true≢false, refl, sym, ap, ◌∙◌, subst, ⊎_elim, inl, inr, arith, length-append, append_assoc}
use mathlib.Core.Option.{some, none, some-ne-none, some-injective}
use mathlib.Core.List.{IsPrefix}
use lib.ListN.{get_elem?}
use Rattle.std.specs.Prelude.{◌⊎◌, max, slice_index}
use Rattle.std.proofs.lemmas.List.{append-nil}
use Rattle.atomic_table.specs.Table.{Me, keeps, step, Allows, Splits, Joins, opening}
use Rattle.atomic_table.proofs.Lists.{at_set, at_snoc, set_again}
use Rattle.front.specs.declared.view.View.{View}
use Rattle.front.specs.Counting.{leader, marker, beginner, follower, informed, Fits, IsCounted, Advances, Looks, Checks, Learns, Hears, Reads, Stores, Confirms}
use Rattle.std.proofs.Math.Nat.{max-le}

-- each list begins with itself
pub prefix_self : {A : Type 0} (xs : List A) → IsPrefix xs xs
prefix_self xs = ([], append-nil xs)

pub prefix_trans : {A : Type 0} (xs ys zs : List A) → IsPrefix xs ys → IsPrefix ys zs → IsPrefix xs zs
prefix_trans xs ys zs p q = (p.0 ++ q.0, sym (append_assoc xs p.0 q.0) ∙ (ap (λ w. w ++ q.0) p.1 ∙ q.1))

pub prefix_length : {A : Type 0} (xs ys : List A) → IsPrefix xs ys → length xs ≤ length ys
prefix_length xs ys p = omega (arith, sym (ap length p.1) ∙ length-append xs p.0)

-- the last of a list stands at its end
at_last : {A : Type 0} (l : List A) (a b : A) (j : ℕ) → get_elem? (l ++ a ∷ []) j ≡ some b → (get_elem? l j ≡ some b) ⊎ ((j ≡ length l) × (a ≡ b))
at_last [] a b zero e = inr (refl, some-injective a b e)
at_last [] a b (suc j) e = absurd (some-ne-none b (sym e))
at_last (x ∷ xs) a b zero e = inl e
at_last (x ∷ xs) a b (suc j) e = ⊎_elim (λ was. inl was) (λ (new : (j ≡ length xs) × (a ≡ b)). inr (ap suc new.0, new.1)) (at_last xs a b j e)

off : false ≡ true → ⊥
off e = true≢false (sym e)

-- the greater of two numbers
most_of : (a b n : ℕ) → a ≤ n → b ≤ n → max a b ≤ n
most_of a b n p q = max-le p q

module _ {E : Type 0} where
  -- a longer list keeps what others have seen
  grows : (front mark : ℕ) (list more : List E) (number by : ℕ) (v : View E) → by ≢ front → Fits front mark list number by v → Fits front mark (list ++ more) number by v
  grows front mark list more number by v apart f = record { seen = prefix_trans _ _ _ f.seen (more, refl); told = prefix_trans _ _ _ f.told (more, refl); leads = λ l. absurd (apart (f.leads l).0); most = f.most; heard = f.heard; marks = f.marks }

  -- a greater number keeps what others have seen
  rises : (front mark : ℕ) (list : List E) (number more by : ℕ) (v : View E) → number ≤ more → by ≢ mark → Fits front mark list number by v → Fits front mark list more by v
  rises front mark list number more by v up apart f =
      let m = f.most in
      let h = f.heard in
      record { seen = f.seen; told = f.told; leads = f.leads; most = omega (arith, m, up); heard = omega (arith, h, up); marks = λ m. absurd (apart (f.marks m).0) }

  -- one view changes
  fits_set : (front mark : ℕ) (now : List E) (number : ℕ) (views : List (View E)) (by : ℕ) (w : View E)
      → ((j : ℕ) (u : View E) → j ≢ by → get_elem? views j ≡ some u → Fits front mark now number j u) → Fits front mark now number by w
      → (j : ℕ) (u : View E) → get_elem? (set views by w) j ≡ some u → Fits front mark now number j u
  fits_set front mark now number views by w others mine j u e =
      ⊎_elim
      (λ (x : (j ≡ by) × (w ≡ u)). subst (λ (y : ℕ × View E). Fits front mark now number y.0 y.1) (λ i. (sym x.0 i, x.1 i)) mine)
      (λ (x : (j ≢ by) × (get_elem? views j ≡ some u)). others j u x.0 x.1)
      (at_set views by j w u e)

  -- what a follower has to fit
  follows_fit : (front mark : ℕ) (list : List E) (number by durable : ℕ) (seen : List E) → IsPrefix seen list → durable ≤ number → Fits front mark list number by (follower seen durable)
  follows_fit front mark list number by durable seen begins most = record { seen = begins; told = (list, refl); leads = λ l. absurd (off l); most = most; heard = omega arith; marks = λ m. absurd (off m) }

  pub begins : IsCounted (opening (0 ∷ 0 ∷ []) [] (beginner {E = E}))
  begins = record { front = 0; mark = 0; list = []; number = 0; words = refl; fits = one }
    where
      one : (by : ℕ) (v : View E) → get_elem? (beginner ∷ []) by ≡ some v → Fits 0 0 [] 0 by v
      one zero v e = subst (Fits 0 0 [] 0 0) (some-injective _ _ e) (record { seen = prefix_self []; told = prefix_self []; leads = λ _. (refl, refl); most = omega arith; heard = omega arith; marks = λ _. (refl, refl) })
      one (suc by) v e = absurd (some-ne-none v (sym e))

  -- the leader adds entries
  pub advances : (slots id : ℕ) (seen entries : List E) (durable n : ℕ) → length entries ≡ n → length seen + n < 2 ^ 64
      → Allows IsCounted slots id (leader seen [] durable 0, []) 0 (λ k. (k + n) % 2 ^ 64) (Advances entries (step slots 0 n 0 none) (leader seen [] durable 0, []))
  advances slots id seen entries durable n long room s h homes at small =
      let words = h.words in
      let mine = h.fits id (leader seen [] durable 0) at in
      let lead = mine.leads refl in
      let now = seen ++ entries in
      let w = leader now [] durable 0 in
      let len : length now ≡ length seen + n = length-append seen entries ∙ ap (λ k. length seen + k) long in
      let word : (length h.list + n) % 2 ^ 64 ≡ length now = omega (arith, len, ap length lead.1, room) in (
        w,
        keeps,
        tt,
        record {
          front = h.front;
          mark = h.mark;
          list = now;
          number = h.number;
          words = (λ i. set (words i) 0 ((slice_index (words i) 0 + n) % 2 ^ 64)) ∙ ap (λ k. k ∷ h.number ∷ []) word;
          fits = fits_set h.front h.mark now h.number s.views id w
              (λ j u apart e. subst (λ l. Fits h.front h.mark (l ++ entries) h.number j u) (sym lead.1) (grows h.front h.mark h.list entries h.number j u (λ same. apart (same ∙ sym lead.0)) (h.fits j u e)))
              (record { seen = prefix_self now; told = (now, refl); leads = λ _. (lead.0, refl); most = mine.most; heard = mine.heard; marks = λ m. absurd (off m) });
        },
        refl,
      )

  -- the marker stores a number that isn't less
  pub stores : (slots id durable new : ℕ) → durable ≤ new → Allows IsCounted slots id (marker {E = E} [] durable 0, []) 1 (λ _. new) (λ _. Stores (step slots 1 new 0 none) (marker [] durable 0, []) new)
  stores slots id durable new up s h homes at small =
      let words = h.words in
      let mine = h.fits id (marker [] durable 0) at in
      let own = mine.marks refl in
      let above : h.number ≤ new = omega (arith, own.1, up) in
      let w : View E = marker [] new 0 in (
        w,
        keeps,
        tt,
        record {
          front = h.front;
          mark = h.mark;
          list = h.list;
          number = new;
          words = (λ i. set (words i) 1 new);
          fits = fits_set h.front h.mark h.list new s.views id w (λ j u apart e. rises h.front h.mark h.list h.number new j u above (λ same. apart (same ∙ sym own.0)) (h.fits j u e))
              (record { seen = (h.list, refl); told = (h.list, refl); leads = λ l. absurd (off l); most = omega arith; heard = omega arith; marks = λ _. (own.0, refl) });
        },
        refl,
      )

  -- the marker compares the number that it was told with its own
  pub confirms : (slots id : ℕ) (told : List E) (durable heard : ℕ)
      → Allows IsCounted slots id (marker told durable heard, []) 1 (λ k. k) (Confirms (step slots 1 0 0 none) (marker told durable heard, []))
  confirms slots id told durable heard s h homes at small =
      let words = h.words in
      let mine = h.fits id (marker told durable heard) at in
      let own = mine.marks refl in
      let least : heard ≤ durable = let l = mine.heard in omega (arith, l, own.1) in
      let w : View E = marker [] durable 0 in (
        w,
        keeps,
        tt,
        record {
          front = h.front;
          mark = h.mark;
          list = h.list;
          number = h.number;
          words = (λ i. set (words i) 1 (slice_index (words i) 1));
          fits = fits_set h.front h.mark h.list h.number s.views id w (λ j u apart e. h.fits j u e) (record { seen = mine.seen; told = (h.list, refl); leads = λ l. absurd (off l); most = mine.most; heard = omega arith; marks = λ _. own });
        },
        (least, refl),
      )

  -- a pass sees the durable number
  pub reads : (slots id : ℕ) (v : View E) → v.leads ≡ false → v.marks ≡ false
      → Allows IsCounted slots id (v, []) 1 (λ k. k) (Reads (step slots 1 0 0 none) (v, []))
  reads slots id v follows plain s h homes at small =
      let words = h.words in
      let mine = h.fits id v at in
      let found : slice_index s.words 1 ≡ h.number = ap (λ ws. slice_index ws 1) words in
      let most = mine.most in
      let w = follower v.seen (slice_index s.words 1) in (
        w,
        keeps,
        tt,
        record {
          front = h.front;
          mark = h.mark;
          list = h.list;
          number = h.number;
          words = (λ i. set (words i) 1 (slice_index (words i) 1));
          fits = fits_set h.front h.mark h.list h.number s.views id w (λ j u apart e. h.fits j u e) (follows_fit h.front h.mark h.list h.number id (slice_index s.words 1) v.seen mine.seen (omega (arith, found)));
        },
        (omega (arith, found, most), refl),
      )

  -- a pass sees the list so far
  pub looks : (slots id : ℕ) (v : View E) → v.leads ≡ false → v.marks ≡ false
      → Allows IsCounted slots id (v, []) 0 (λ k. k) (Looks (step slots 0 0 0 none) (v, []))
  looks slots id v follows plain s h homes at small =
      let words = h.words in
      let mine = h.fits id v at in
      let w = follower h.list (max v.durable v.heard) in (
        w,
        keeps,
        tt,
        record {
          front = h.front;
          mark = h.mark;
          list = h.list;
          number = h.number;
          words = (λ i. set (words i) 0 (slice_index (words i) 0));
          fits = fits_set h.front h.mark h.list h.number s.views id w (λ j u apart e. h.fits j u e) (follows_fit h.front h.mark h.list h.number id (max v.durable v.heard) h.list (prefix_self h.list) (most_of v.durable v.heard h.number mine.most mine.heard));
        },
        (mine.seen, mine.told, ap (λ ws. slice_index ws 0) words, refl),
      )

  -- the leader compares what it was told with the whole list
  pub checks : (slots id : ℕ) (seen told : List E) (durable heard : ℕ)
      → Allows IsCounted slots id (leader seen told durable heard, []) 0 (λ k. k) (Checks (step slots 0 0 0 none) (leader seen told durable heard, []))
  checks slots id seen told durable heard s h homes at small =
      let words = h.words in
      let mine = h.fits id (leader seen told durable heard) at in
      let lead = mine.leads refl in
      let w = leader seen [] (max durable heard) 0 in (
        w,
        keeps,
        tt,
        record {
          front = h.front;
          mark = h.mark;
          list = h.list;
          number = h.number;
          words = (λ i. set (words i) 0 (slice_index (words i) 0));
          fits = fits_set h.front h.mark h.list h.number s.views id w (λ j u apart e. h.fits j u e) (record { seen = mine.seen; told = (h.list, refl); leads = λ _. lead; most = most_of durable heard h.number mine.most mine.heard; heard = omega arith; marks = λ m. absurd (off m) });
        },
        (subst (λ l. IsPrefix told l) (sym lead.1) mine.told, refl),
      )

  -- a pass has seen what it was told of
  pub learns : (slots id : ℕ) (v : View E) → v.leads ≡ false
      → Allows IsCounted slots id (v, []) 0 (λ k. k) (Learns (step slots 0 0 0 none) (v, []))
  learns slots id v follows s h homes at small =
      let words = h.words in
      let mine = h.fits id v at in
      let w = follower v.told (max v.durable v.heard) in (
        w,
        keeps,
        tt,
        record {
          front = h.front;
          mark = h.mark;
          list = h.list;
          number = h.number;
          words = (λ i. set (words i) 0 (slice_index (words i) 0));
          fits = fits_set h.front h.mark h.list h.number s.views id w (λ j u apart e. h.fits j u e) (follows_fit h.front h.mark h.list h.number id (max v.durable v.heard) v.told mine.told (most_of v.durable v.heard h.number mine.most mine.heard));
        },
        refl,
      )

  -- a pass takes the durable number that it was told
  pub hears : (slots id : ℕ) (v : View E) → v.leads ≡ false
      → Allows IsCounted slots id (v, []) 0 (λ k. k) (Hears (step slots 0 0 0 none) (v, []))
  hears slots id v follows s h homes at small =
      let words = h.words in
      let mine = h.fits id v at in
      let w = follower v.seen (max v.durable v.heard) in (
        w,
        keeps,
        tt,
        record {
          front = h.front;
          mark = h.mark;
          list = h.list;
          number = h.number;
          words = (λ i. set (words i) 0 (slice_index (words i) 0));
          fits = fits_set h.front h.mark h.list h.number s.views id w (λ j u apart e. h.fits j u e) (follows_fit h.front h.mark h.list h.number id (max v.durable v.heard) v.seen mine.seen (most_of v.durable v.heard h.number mine.most mine.heard));
        },
        refl,
      )

  -- a new pass has seen as much
  pub splits : (id : ℕ) (v : View E) → Splits IsCounted id v v (follower v.seen v.durable)
  splits id v s h at =
      let mine = h.fits id v at in
      record {
        front = h.front;
        mark = h.mark;
        list = h.list;
        number = h.number;
        words = h.words;
        fits = λ j u e. ⊎_elim
            (λ was. h.fits j u (subst (λ l. get_elem? l j ≡ some u) (set_again s.views id v at) was))
            (λ (same : follower v.seen v.durable ≡ u). subst (Fits h.front h.mark h.list h.number j) same (follows_fit h.front h.mark h.list h.number j v.durable v.seen mine.seen mine.most))
            (at_snoc (set s.views id v) (follower v.seen v.durable) u j e);
      }

  -- a seat is told of what another had seen, which is spent
  pub joins : (id : ℕ) (v : View E) (other : ℕ) (u : View E) → Joins IsCounted id v other u (informed v u) (follower [] 0)
  joins id v other u s h at apart there =
      let w = informed v u in
      let mine = h.fits id v at in
      let theirs = ⊎_elim (λ (t : (other ≡ id) × (w ≡ u)). absurd (apart t.0)) (λ (t : (other ≢ id) × (get_elem? s.views other ≡ some u)). h.fits other u t.1) (at_set s.views id other w u there) in
      record {
        front = h.front;
        mark = h.mark;
        list = h.list;
        number = h.number;
        words = h.words;
        fits = fits_set h.front h.mark h.list h.number (set s.views id w) other (follower [] 0)
            (λ j x _ e. fits_set h.front h.mark h.list h.number s.views id w (λ i y _ e'. h.fits i y e')
            (record { seen = mine.seen; told = theirs.seen; leads = mine.leads; most = mine.most; heard = theirs.most; marks = mine.marks }) j x e)
            (follows_fit h.front h.mark h.list h.number other 0 [] (h.list, refl) (omega arith));
      }

  -- the first seat gives the storing of the number away
  pub parts : (id : ℕ) → Splits IsCounted id (beginner {E = E}) (leader [] [] 0 0) (marker [] 0 0)
  parts id s h at =
      let mine = h.fits id beginner at in
      let lead = mine.leads refl in
      let own = mine.marks refl in
      let new = length (set s.views id (leader [] [] 0 0)) in
      record {
        front = h.front;
        mark = new;
        list = h.list;
        number = h.number;
        words = h.words;
        fits = λ j u e. ⊎_elim
            (λ was. fits_set h.front new h.list h.number s.views id (leader [] [] 0 0)
            (λ i x other there. let f = h.fits i x there in record { seen = f.seen; told = f.told; leads = f.leads; most = f.most; heard = f.heard; marks = λ m. absurd (other ((f.marks m).0 ∙ sym own.0)) })
            (record { seen = mine.seen; told = mine.told; leads = λ _. lead; most = mine.most; heard = mine.heard; marks = λ m. absurd (off m) }) j u was)
            (λ (same : (j ≡ new) × (marker [] 0 0 ≡ u)). subst (Fits h.front new h.list h.number j) same.1 (record { seen = (h.list, refl); told = (h.list, refl); leads = λ l. absurd (off l); most = mine.most; heard = mine.heard; marks = λ _. (same.0, own.1) }))
            (at_last (set s.views id (leader [] [] 0 0)) (marker [] 0 0) u j e);
      }

  -- the first seat, which is known
  pub parted : (id : ℕ) (v : View E) → v ≡ beginner → Splits IsCounted id v (leader v.seen [] v.durable 0) (marker [] v.durable 0)
  parted id v is = subst (λ (x : View E). Splits IsCounted id x (leader x.seen [] x.durable 0) (marker [] x.durable 0)) (sym is) (parts id)

  -- the steps, at a seat that is known
  pub advances_at : (slots id : ℕ) (me : Me ℕ (View E)) (entries : List E) (n : ℕ) → me ≡ (leader me.0.seen [] me.0.durable 0, []) → length entries ≡ n → length me.0.seen + n < 2 ^ 64
      → Allows IsCounted slots id me 0 (λ k. (k + n) % 2 ^ 64) (Advances entries (step slots 0 n 0 none) me)
  advances_at slots id me entries n is long room =
      subst (λ (m : Me ℕ (View E)). Allows IsCounted slots id m 0 (λ k. (k + n) % 2 ^ 64) (Advances entries (step slots 0 n 0 none) m)) (sym is) (advances slots id me.0.seen entries me.0.durable n long room)

  pub stores_at : (slots id : ℕ) (me : Me ℕ (View E)) (new : ℕ) → me ≡ (marker [] me.0.durable 0, []) → me.0.durable ≤ new → Allows IsCounted slots id me 1 (λ _. new) (λ _. Stores (step slots 1 new 0 none) me new)
  stores_at slots id me new is up =
      subst (λ (m : Me ℕ (View E)). Allows IsCounted slots id m 1 (λ _. new) (λ _. Stores (step slots 1 new 0 none) m new)) (sym is) (stores slots id me.0.durable new up)

  pub confirms_at : (slots id : ℕ) (me : Me ℕ (View E)) (told : List E) (durable heard : ℕ) → me ≡ (marker told durable heard, []) → Allows IsCounted slots id me 1 (λ k. k) (Confirms (step slots 1 0 0 none) me)
  confirms_at slots id me told durable heard is =
      subst (λ (m : Me ℕ (View E)). Allows IsCounted slots id m 1 (λ k. k) (Confirms (step slots 1 0 0 none) m)) (sym is) (confirms slots id told durable heard)

  pub reads_at : (slots id : ℕ) (me : Me ℕ (View E)) → me.0.leads ≡ false → me.0.marks ≡ false → me.1 ≡ [] → Allows IsCounted slots id me 1 (λ k. k) (Reads (step slots 1 0 0 none) me)
  reads_at slots id me follows plain empty =
      subst (λ (c : List (ℕ × ℕ)). Allows IsCounted slots id (me.0, c) 1 (λ k. k) (Reads (step slots 1 0 0 none) (me.0, c))) (sym empty) (reads slots id me.0 follows plain)

  pub looks_at : (slots id : ℕ) (me : Me ℕ (View E)) → me.0.leads ≡ false → me.0.marks ≡ false → me.1 ≡ [] → Allows IsCounted slots id me 0 (λ k. k) (Looks (step slots 0 0 0 none) me)
  looks_at slots id me follows plain empty =
      subst (λ (c : List (ℕ × ℕ)). Allows IsCounted slots id (me.0, c) 0 (λ k. k) (Looks (step slots 0 0 0 none) (me.0, c))) (sym empty) (looks slots id me.0 follows plain)

  pub learns_at : (slots id : ℕ) (me : Me ℕ (View E)) → me.0.leads ≡ false → me.1 ≡ [] → Allows IsCounted slots id me 0 (λ k. k) (Learns (step slots 0 0 0 none) me)
  learns_at slots id me follows empty =
      subst (λ (c : List (ℕ × ℕ)). Allows IsCounted slots id (me.0, c) 0 (λ k. k) (Learns (step slots 0 0 0 none) (me.0, c))) (sym empty) (learns slots id me.0 follows)

  pub hears_at : (slots id : ℕ) (me : Me ℕ (View E)) → me.0.leads ≡ false → me.1 ≡ [] → Allows IsCounted slots id me 0 (λ k. k) (Hears (step slots 0 0 0 none) me)
  hears_at slots id me follows empty =
      subst (λ (c : List (ℕ × ℕ)). Allows IsCounted slots id (me.0, c) 0 (λ k. k) (Hears (step slots 0 0 0 none) (me.0, c))) (sym empty) (hears slots id me.0 follows)

  pub checks_at : (slots id : ℕ) (me : Me ℕ (View E)) (seen told : List E) (durable heard : ℕ) → me ≡ (leader seen told durable heard, []) → Allows IsCounted slots id me 0 (λ k. k) (Checks (step slots 0 0 0 none) me)
  checks_at slots id me seen told durable heard is =
      subst (λ (m : Me ℕ (View E)). Allows IsCounted slots id m 0 (λ k. k) (Checks (step slots 0 0 0 none) m)) (sym is) (checks slots id seen told durable heard)
