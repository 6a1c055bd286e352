-- The contents at a key, and how each record changes them.
use Rattle.std.proofs.Common.{◌≡◌, ◌≢◌, ℕ, Bool, true, false, cond, eqb, List, [], ◌∷◌, ◌++◌, Option, Some, None, refl, sym, ap, subst, ◌∙◌, arith, inl, inr, Ordering, Less, Equal, Greater}
use Rattle.std.specs.Prelude.{fold, filter, ◌||◌, ◌⊎◌}
use Rattle.std.specs.Ordering.{nat_cmp, is_eq}
use Rattle.std.specs.Cmp.Lexicographic.{slice_cmp}
use Rattle.std.specs.Option.{option_map_or, option_or}
use Rattle.std.specs.List.{list_any}
use Rattle.std.specs.FinMap.{get, insert, get-insert, get-remove}
use Rattle.std.specs.Cmp.Lexicographic.{nat_list_cmp_total}
use Rattle.std.proofs.lemmas.Bool.Decides.{nat_tests}
use Rattle.std.proofs.lemmas.Bool.{eqb-true}
use Rattle.std.proofs.lemmas.Cmp.{tied_itself}
use Rattle.std.proofs.lemmas.List.Sums.{fold-append}
use Rattle.std.proofs.lemmas.List.Folds.{list_any-append}
use Rattle.std.proofs.lemmas.Map.Lookups.{exact_bytes}
use Rattle.store_model.specs.Contents.{Contents, set_to}
use Rattle.store_model.specs.Operator.{meaning}
use Rattle.store_model.proofs.Bools.{or_left, or_right, not_both, false_unless}
use Rattle.wal_record.specs.declared.record.Undo.{Undo}
use Rattle.wal_record.specs.declared.record.Commit.{Commit}
use Rattle.wal_record.specs.declared.record.Record.{Record}
use Rattle.wal_record.specs.declared.record.Record.TheVariants as kinds
use Rattle.store_model.specs.Along.{along}
use Rattle.wal_record.specs.Contents.{after, current, committed_step, committed_contents, given}
use Rattle.wal_record.specs.OpenWrites.{open_step, open_writes, writes, opens, key_of, old_of, without_last}
use Rattle.wal_record.specs.State.{same_key}
use Rattle.wal_record.specs.Sound.{TakesBack, IsLawful, AreLawful}
use Rattle.wal_record.proofs.Along.{by_pushes}
use Rattle.wal_record.proofs.Pushes.{open_push, current_push, committed_push, lawful_front}
use Rattle.log_laws.specs.Central.{IsOpenBy, Agree, CentralLaw}

-- ---- one record at one key

abbrev pub value_after : List ℕ → Option (List ℕ) → Record → Option (List ℕ)
value_after key v r = cond (writes key r) (given v r) v

pub is_equal : (o : Ordering) → is_eq o ≡ true → o ≡ Equal
is_equal Less h = absurd cc
is_equal Equal h = refl
is_equal Greater h = absurd cc

pub equal_key : (a b : List ℕ) → same_key a b ≡ true → a ≡ b
equal_key a b h = exact_bytes a b (is_equal (slice_cmp nat_cmp a b) h)

pub own_key : (a b : List ℕ) → a ≡ b → same_key a b ≡ true
own_key a b e = subst (λ (c : List ℕ). same_key a c ≡ true) e (rw (tied_itself nat_list_cmp_total a) refl)

pub get-set_to : (m : Contents) (k : List ℕ) (v : Option (List ℕ)) (q : List ℕ) → get (set_to m k v) q ≡ cond (same_key q k) v (get m q)
get-set_to m k None q = get-remove nat_list_cmp_total m k q
get-set_to m k (Some v) q = get-insert nat_list_cmp_total m k v q

get-applied : (m : Contents) (k : List ℕ) (o : Option (List ℕ)) (q : List ℕ) → get (option_map_or (λ v. insert m k v) o m) q ≡ cond (same_key q k) (option_or o (get m q)) (get m q)
get-applied m k None q = elim (same_key q k) as (λ b. get m q ≡ cond b (get m q) (get m q)) [ true ↦ refl | false ↦ refl ]
get-applied m k (Some v) q = get-insert nat_list_cmp_total m k v q

pub get-after : (m : Contents) (key : List ℕ) (r : Record) → get (after m r) key ≡ value_after key (get m key) r
get-after m key (kinds.Write w) = get-set_to m w.key w.new key
get-after m key (kinds.Undo u) = get-set_to m u.key u.restores key
get-after m key (kinds.Apply a) = get-applied m a.key (meaning a.operator (get m a.key) a.argument) key ∙ here (same_key key a.key) refl
  where
    here : (b : Bool) → same_key key a.key ≡ b → cond b (option_or (meaning a.operator (get m a.key) a.argument) (get m key)) (get m key) ≡ cond b (option_or (meaning a.operator (get m key) a.argument) (get m key)) (get m key)
    here true e = ap (λ (k : List ℕ). option_or (meaning a.operator (get m k) a.argument) (get m key)) (sym (equal_key key a.key e))
    here false e = refl
get-after m key _ = refl

pub get-fold : (key : List ℕ) (ws : List Record) (m : Contents) → get (fold after m ws) key ≡ fold (value_after key) (get m key) ws
get-fold key [] m = refl
get-fold key (r ∷ ws) m = get-fold key ws (after m r) ∙ ap (λ (v : Option (List ℕ)). fold (value_after key) v ws) (get-after m key r)

pub neither : (a b : Bool) → (a || b) ≡ false → (a ≡ false) × (b ≡ false)
neither true b e = absurd cc
neither false b e = (refl, e)

pub either : (a b : Bool) → (a || b) ≡ true → (a ≡ false) → b ≡ true
either true b e n = absurd cc
either false b e n = e

pub only : (b : Bool) → (b || false) ≡ true → b ≡ true
only true e = refl
only false e = absurd cc

pub untouched : (key : List ℕ) (ws : List Record) (v : Option (List ℕ)) → list_any (writes key) ws ≡ false → fold (value_after key) v ws ≡ v
untouched key [] v h = refl
untouched key (r ∷ ws) v h =
    let n = neither (writes key r) (list_any (writes key) ws) h in
    let same : value_after key v r ≡ v = ap (λ (b : Bool). cond b (given v r) v) n.0 in
    ap (λ (w : Option (List ℕ)). fold (value_after key) w ws) same ∙ untouched key ws v n.1

pub fold_filtered : (key : List ℕ) (ws : List Record) (v : Option (List ℕ)) → fold (value_after key) v ws ≡ fold given v (filter (writes key) ws)
fold_filtered key [] v = refl
fold_filtered key (r ∷ ws) v = by (fold_filtered key ws) (writes key r)
  where
    by : ((x : Option (List ℕ)) → fold (value_after key) x ws ≡ fold given x (filter (writes key) ws)) → (b : Bool)
        → fold (value_after key) (cond b (given v r) v) ws ≡ fold given v (cond b (r ∷ filter (writes key) ws) (filter (writes key) ws))
    by more true = more (given v r)
    by more false = more v

-- ---- open writes, and what each found

-- it gives its own key a value, and no other
abbrev pub IsChange : Record → Type 0
IsChange r = (q : List ℕ) → writes q r ≡ same_key q (key_of r)

-- each found what those before it had left
abbrev pub Olds : (List ℕ → Option (List ℕ)) → List Record → Type 0
Olds val [] = Unit {0}
Olds val (w ∷ ws) = IsChange w × (old_of w ≡ val (key_of w)) × Olds (λ k. value_after k (val k) w) ws

pub olds_push : (val : List ℕ → Option (List ℕ)) (ws : List Record) (w : Record) → Olds val ws → IsChange w → old_of w ≡ fold (value_after (key_of w)) (val (key_of w)) ws → Olds val (ws ++ w ∷ [])
olds_push val [] w h c e = (c, e, tt)
olds_push val (x ∷ ws) w h c e = (h.0, h.1, olds_push (λ k. value_after k (val k) x) ws w h.2 c e)

pub olds_front : (val : List ℕ → Option (List ℕ)) (ws : List Record) (w : Record) → Olds val (ws ++ w ∷ []) → Olds val ws × IsChange w × (old_of w ≡ fold (value_after (key_of w)) (val (key_of w)) ws)
olds_front val [] w h = (tt, h.0, h.1)
olds_front val (x ∷ ws) w h = let g = olds_front (λ k. value_after k (val k) x) ws w h.2 in ((h.0, h.1, g.0), g.1, g.2)

pub olds_moved : (val val' : List ℕ → Option (List ℕ)) (ws : List Record) → ((k : List ℕ) → list_any (writes k) ws ≡ true → val k ≡ val' k) → Olds val ws → Olds val' ws
olds_moved val val' [] h g = tt
olds_moved val val' (x ∷ ws) h g = (
  g.0,
  g.1 ∙ h (key_of x) (or_left (writes (key_of x) x) (list_any (writes (key_of x)) ws) (g.0 (key_of x) ∙ own_key (key_of x) (key_of x) refl)),
  olds_moved (λ k. value_after k (val k) x) (λ k. value_after k (val' k) x) ws
      (λ k e. ap (λ (v : Option (List ℕ)). value_after k v x) (h k (or_right (writes k x) (list_any (writes k) ws) e))) g.2,
)

abbrev FirstOf : List ℕ → Option (List ℕ) → List Record → Type 0
FirstOf key v ws = (first : Record) × (rest : List Record) × (ws ≡ first ∷ rest) × (old_of first ≡ v)

pub first_old : (val : List ℕ → Option (List ℕ)) (key : List ℕ) (ws : List Record) → Olds val ws → list_any (writes key) ws ≡ true → FirstOf key (val key) (filter (writes key) ws)
first_old val key [] g h = absurd cc
first_old val key (x ∷ ws) g h = by (first_old (λ k. value_after k (val k) x) key ws g.2) (writes key x) refl h
  where
    by : (list_any (writes key) ws ≡ true → FirstOf key (value_after key (val key) x) (filter (writes key) ws)) → (b : Bool) → writes key x ≡ b → (b || list_any (writes key) ws) ≡ true
        → FirstOf key (val key) (cond b (x ∷ filter (writes key) ws) (filter (writes key) ws))
    by more true e h = (x, filter (writes key) ws, refl, g.1 ∙ ap val (sym (equal_key key (key_of x) (sym (g.0 key) ∙ e))))
    by more false e h = let f = more h in (f.0, f.1, f.2, f.3 ∙ ap (λ (b : Bool). cond b (given (val key) x) (val key)) e)

-- ---- what each record keeps, over contents, open writes and committed contents

abbrev pub opens_in : (ℕ → List Record) → List ℕ → ℕ → Bool
opens_in o key t = list_any (writes key) (o t)

abbrev pub Alone : (ℕ → List Record) → List ℕ → ℕ → Type 0
Alone o key t = (other : ℕ) → other ≢ t → opens_in o key other ≡ false

pub record Kept (m : Contents) (o : ℕ → List Record) (off : Contents) : Type 0 where
  pub apart : (key : List ℕ) (t u : ℕ) → opens_in o key t ≡ true → opens_in o key u ≡ true → t ≡ u
  pub value : (key : List ℕ) (t : ℕ) → Alone o key t → get m key ≡ fold (value_after key) (get off key) (o t)
  pub olds : (t : ℕ) → Olds (get off) (o t)

pub eqb_self : (n : ℕ) → eqb n n ≡ true
eqb_self n = grind (arith, nat_tests)

pub eqb_differ : (m n : ℕ) → m ≢ n → eqb m n ≡ false
eqb_differ m n h = grind (arith, nat_tests)

pub differ : (m n : ℕ) → eqb m n ≡ false → m ≢ n
differ m n h = λ e. not_both (eqb m n) (subst (λ (k : ℕ). eqb m k ≡ true) e (eqb_self m)) h

-- who has the key open is the only one
pub alone_of : (m : Contents) (o : ℕ → List Record) (off : Contents) → Kept m o off → (key : List ℕ) (t : ℕ) → opens_in o key t ≡ true → Alone o key t
alone_of m o off kept key t h = λ other n. false_unless (opens_in o key other) (λ g. n (kept.apart key other t g h))

-- ---- a write, or an operator applied

abbrev pub with_item : (ℕ → List Record) → ℕ → Record → ℕ → List Record
with_item o tx r t = cond (eqb tx t) (o t ++ r ∷ []) (o t)

module _ (o : ℕ → List Record) (r : Record) (tx : ℕ) (change : IsChange r) where
  -- a key's open writes after a write
  opened : (key : List ℕ) → opens_in (with_item o tx r) key tx ≡ (opens_in o key tx || (writes key r || false))
  opened key = ap (λ (b : Bool). list_any (writes key) (cond b (o tx ++ r ∷ []) (o tx))) (eqb_self tx) ∙ list_any-append (writes key) (o tx) (r ∷ [])

  others_open : (key : List ℕ) (t : ℕ) → tx ≢ t → opens_in (with_item o tx r) key t ≡ opens_in o key t
  others_open key t n = ap (λ (b : Bool). list_any (writes key) (cond b (o t ++ r ∷ []) (o t))) (eqb_differ tx t n)

  -- who opens a key after the write: the writer at its key, or one who did before
  pub open_before : (key : List ℕ) (t : ℕ) → opens_in (with_item o tx r) key t ≡ true → (opens_in o key t ≡ true) ⊎ ((tx ≡ t) × (key ≡ key_of r))
  open_before key t h = by (eqb tx t) refl
    where
      mine : (b : Bool) → opens_in o key tx ≡ b → (opens_in o key tx || (writes key r || false)) ≡ true → (opens_in o key tx ≡ true) ⊎ ((tx ≡ tx) × (key ≡ key_of r))
      mine true e g = inl e
      mine false e g = inr (refl, equal_key key (key_of r) (sym (change key) ∙ only (writes key r) (either (opens_in o key tx) (writes key r || false) g e)))

      by : (b : Bool) → eqb tx t ≡ b → (opens_in o key t ≡ true) ⊎ ((tx ≡ t) × (key ≡ key_of r))
      by true e =
          let same : tx ≡ t = eqb-true tx t e in
          let h' : opens_in (with_item o tx r) key tx ≡ true = subst (λ (u : ℕ). opens_in (with_item o tx r) key u ≡ true) (sym same) h in
          subst (λ (u : ℕ). (opens_in o key u ≡ true) ⊎ ((tx ≡ u) × (key ≡ key_of r))) same (mine (opens_in o key tx) refl (sym (opened key) ∙ h'))
      by false e = inl (sym (others_open key t (differ tx t e)) ∙ h)

  -- who is closed after the write was closed before
  closed_before : (key : List ℕ) (t : ℕ) → opens_in (with_item o tx r) key t ≡ false → opens_in o key t ≡ false
  closed_before key t h = by (eqb tx t) refl
    where
      by : (b : Bool) → eqb tx t ≡ b → opens_in o key t ≡ false
      by true e =
          let same : tx ≡ t = eqb-true tx t e in
          let h' : opens_in (with_item o tx r) key tx ≡ false = subst (λ (u : ℕ). opens_in (with_item o tx r) key u ≡ false) (sym same) h in
          subst (λ (u : ℕ). opens_in o key u ≡ false) same (neither (opens_in o key tx) (writes key r || false) (sym (opened key) ∙ h')).0
      by false e = sym (others_open key t (differ tx t e)) ∙ h

  pub Kept_item : (m : Contents) (off : Contents) → Kept m o off → Alone o (key_of r) tx → old_of r ≡ get m (key_of r) → Kept (after m r) (with_item o tx r) off
  Kept_item m off kept alone old = record { apart = apart; value = value; olds = λ t. olds t (eqb tx t) refl }
    where
      -- at the written key nobody else has an open write
      holder : (key : List ℕ) (u : ℕ) → key ≡ key_of r → opens_in o key u ≡ true → tx ≡ u
      holder key u e h = by (eqb tx u) refl
        where
          by : (b : Bool) → eqb tx u ≡ b → tx ≡ u
          by true g = eqb-true tx u g
          by false g = absurd (not_both (opens_in o key u) h (subst (λ (k : List ℕ). opens_in o k u ≡ false) (sym e) (alone u (λ s. differ tx u g (sym s)))))

      apart : (key : List ℕ) (t u : ℕ) → opens_in (with_item o tx r) key t ≡ true → opens_in (with_item o tx r) key u ≡ true → t ≡ u
      apart key t u ht hu = elim (open_before key t ht) [
        | inl a ↦ elim (open_before key u hu) [ inl b ↦ kept.apart key t u a b | inr b ↦ sym (holder key t b.1 a) ∙ b.0 ]
        | inr a ↦ elim (open_before key u hu) [ inl b ↦ sym a.0 ∙ holder key u a.1 b | inr b ↦ sym a.0 ∙ b.0 ]
      ]

      value : (key : List ℕ) (t : ℕ) → Alone (with_item o tx r) key t → get (after m r) key ≡ fold (value_after key) (get off key) (with_item o tx r t)
      value key t h = get-after m key r ∙ by (eqb tx t) refl
        where
          before : get m key ≡ fold (value_after key) (get off key) (o t)
          before = kept.value key t (λ other n. closed_before key other (h other n))

          by : (b : Bool) → eqb tx t ≡ b → value_after key (get m key) r ≡ fold (value_after key) (get off key) (cond b (o t ++ r ∷ []) (o t))
          by true e = ap (λ (v : Option (List ℕ)). value_after key v r) before ∙ sym (fold-append (value_after key) (get off key) (o t) (r ∷ []))
          by false e =
              let closed = neither (opens_in o key tx) (writes key r || false) (sym (opened key) ∙ h tx (differ tx t e)) in
              ap (λ (b : Bool). cond b (given (get m key) r) (get m key)) (neither (writes key r) false closed.1).0 ∙ before

      olds : (t : ℕ) (b : Bool) → eqb tx t ≡ b → Olds (get off) (cond b (o t ++ r ∷ []) (o t))
      olds t true e =
          let same : tx ≡ t = eqb-true tx t e in
          olds_push (get off) (o t) r (kept.olds t) change
          (old ∙ kept.value (key_of r) t (subst (λ (u : ℕ). Alone o (key_of r) u) same alone))
      olds t false e = kept.olds t

-- ---- a write taken back

abbrev pub with_front : (ℕ → List Record) → ℕ → List Record → ℕ → List Record
with_front o tx front t = cond (eqb tx t) front (o t)

module _ (m : Contents) (o : ℕ → List Record) (off : Contents) (kept : Kept m o off) (u : Undo) (front : List Record) (w : Record) (split : o u.tx ≡ front ++ w ∷ []) (at : u.key ≡ key_of w) (back : u.restores ≡ old_of w) where
  pub parts : Olds (get off) front × IsChange w × (old_of w ≡ fold (value_after (key_of w)) (get off (key_of w)) front)
  parts = olds_front (get off) front w (subst (λ (ws : List Record). Olds (get off) ws) split (kept.olds u.tx))

  opened_by : (key : List ℕ) → opens_in o key u.tx ≡ (list_any (writes key) front || (writes key w || false))
  opened_by key = ap (list_any (writes key)) split ∙ list_any-append (writes key) front (w ∷ [])

  same_writes : (key : List ℕ) → writes key (kinds.Undo u) ≡ writes key w
  same_writes key = ap (same_key key) at ∙ sym (parts.1 key)

  -- who has a key open had it open
  pub opened_still : (key : List ℕ) (t : ℕ) → opens_in (with_front o u.tx front) key t ≡ true → opens_in o key t ≡ true
  opened_still key t h = by (eqb u.tx t) refl h
    where
      by : (b : Bool) → eqb u.tx t ≡ b → list_any (writes key) (cond b front (o t)) ≡ true → opens_in o key t ≡ true
      by true e g = subst (λ (x : ℕ). opens_in o key x ≡ true) (eqb-true u.tx t e) (opened_by key ∙ or_left _ _ g)
      by false e g = g

  others_front : (key : List ℕ) (t : ℕ) → u.tx ≢ t → opens_in (with_front o u.tx front) key t ≡ opens_in o key t
  others_front key t n = ap (λ (b : Bool). list_any (writes key) (cond b front (o t))) (eqb_differ u.tx t n)

  mine_front : (key : List ℕ) → opens_in (with_front o u.tx front) key u.tx ≡ list_any (writes key) front
  mine_front key = ap (λ (b : Bool). list_any (writes key) (cond b front (o u.tx))) (eqb_self u.tx)

  -- the value that the writer's list promises, one write less
  less_one : (key : List ℕ) → value_after key (fold (value_after key) (get off key) (front ++ w ∷ [])) (kinds.Undo u) ≡ fold (value_after key) (get off key) front
  less_one key = ap (λ (v : Option (List ℕ)). value_after key v (kinds.Undo u)) (fold-append (value_after key) (get off key) front (w ∷ [])) ∙ by (writes key w) refl
    where
      val : Option (List ℕ)
      val = fold (value_after key) (get off key) front

      by : (b : Bool) → writes key w ≡ b → value_after key (value_after key val w) (kinds.Undo u) ≡ val
      by true e =
          let same : key ≡ key_of w = equal_key key (key_of w) (sym (parts.1 key) ∙ e) in
          ap (λ (b : Bool). cond b u.restores (value_after key val w)) (same_writes key ∙ e) ∙ back ∙ parts.2
          ∙ ap (λ (k : List ℕ). fold (value_after k) (get off k) front) (sym same)
      by false e =
          ap (λ (b : Bool). cond b u.restores (value_after key val w)) (same_writes key ∙ e)
          ∙ ap (λ (b : Bool). cond b (given val w) val) e

  pub Kept_undo : Kept (after m (kinds.Undo u)) (with_front o u.tx front) off
  Kept_undo = record {
    apart = λ key t v ht hv. kept.apart key t v (opened_still key t ht) (opened_still key v hv);
    value = value;
    olds = λ t. olds t (eqb u.tx t);
  }
    where
      olds : (t : ℕ) (b : Bool) → Olds (get off) (cond b front (o t))
      olds t true = parts.0
      olds t false = kept.olds t

      value : (key : List ℕ) (t : ℕ) → Alone (with_front o u.tx front) key t → get (after m (kinds.Undo u)) key ≡ fold (value_after key) (get off key) (with_front o u.tx front t)
      value key t h = get-after m key (kinds.Undo u) ∙ by (eqb u.tx t) refl
        where
          -- another one's key: the write taken back was of it, or not
          rest : u.tx ≢ t → (b : Bool) → writes key w ≡ b → value_after key (get m key) (kinds.Undo u) ≡ fold (value_after key) (get off key) (o t)
          rest n true e =
              let mine : opens_in o key u.tx ≡ true = opened_by key ∙ or_right (list_any (writes key) front) (writes key w || false) (or_left (writes key w) false e) in
              let none : list_any (writes key) front ≡ false = sym (mine_front key) ∙ h u.tx n in
              ap (λ (v : Option (List ℕ)). value_after key v (kinds.Undo u)) (kept.value key u.tx (alone_of m o off kept key u.tx mine) ∙ ap (fold (value_after key) (get off key)) split)
              ∙ less_one key ∙ untouched key front (get off key) none
              ∙ sym (untouched key (o t) (get off key) (alone_of m o off kept key u.tx mine t (λ s. n (sym s))))
          rest n false e =
              ap (λ (b : Bool). cond b u.restores (get m key)) (same_writes key ∙ e)
              ∙ kept.value key t (λ other d. closed other d (eqb u.tx other) refl)
            where
              closed : (other : ℕ) → other ≢ t → (b : Bool) → eqb u.tx other ≡ b → opens_in o key other ≡ false
              closed other d true g = subst (λ (x : ℕ). opens_in o key x ≡ false) (eqb-true u.tx other g)
                  (opened_by key ∙ ap (λ (b : Bool). b || (writes key w || false)) (sym (mine_front key) ∙ h u.tx n) ∙ ap (λ (b : Bool). b || false) e)
              closed other d false g = sym (others_front key other (differ u.tx other g)) ∙ h other d

          by : (b : Bool) → eqb u.tx t ≡ b → value_after key (get m key) (kinds.Undo u) ≡ fold (value_after key) (get off key) (cond b front (o t))
          by true e =
              let same : u.tx ≡ t = eqb-true u.tx t e in
              ap (λ (v : Option (List ℕ)). value_after key v (kinds.Undo u))
              (kept.value key u.tx (λ other d. sym (others_front key other (λ s. d (sym s))) ∙ h other (λ s. d (s ∙ sym same))) ∙ ap (fold (value_after key) (get off key)) split)
              ∙ less_one key
          by false e = rest (differ u.tx t e) (writes key w) refl

abbrev pub with_commit : (ℕ → List Record) → Commit → ℕ → List Record
with_commit o c t = cond (eqb c.tx t) [] (o t)

still_open : (o : ℕ → List Record) (c : Commit) (key : List ℕ) (t : ℕ) → opens_in (with_commit o c) key t ≡ true → (c.tx ≢ t) × (opens_in o key t ≡ true)
still_open o c key t h = by (eqb c.tx t) refl h
  where
    by : (b : Bool) → eqb c.tx t ≡ b → list_any (writes key) (cond b [] (o t)) ≡ true → (c.tx ≢ t) × (opens_in o key t ≡ true)
    by true e g = absurd cc
    by false e g = (differ c.tx t e, g)

-- who isn't the committer is as before
other_commit : (o : ℕ → List Record) (c : Commit) (key : List ℕ) (t : ℕ) → c.tx ≢ t → opens_in (with_commit o c) key t ≡ opens_in o key t
other_commit o c key t n = ap (λ (b : Bool). list_any (writes key) (cond b [] (o t))) (eqb_differ c.tx t n)

pub Kept_commit : (m : Contents) (o : ℕ → List Record) (off : Contents) → Kept m o off → (c : Commit) → Kept m (with_commit o c) (fold after off (o c.tx))
Kept_commit m o off kept c = record { apart = apart; value = value; olds = λ t. olds t (eqb c.tx t) refl }
  where
    olds : (t : ℕ) (b : Bool) → eqb c.tx t ≡ b → Olds (get (fold after off (o c.tx))) (cond b [] (o t))
    olds t true e = tt
    olds t false e = olds_moved (get off) (get (fold after off (o c.tx))) (o t)
        (λ key h. sym (get-fold key (o c.tx) off ∙ untouched key (o c.tx) (get off key) (alone_of m o off kept key t h c.tx (differ c.tx t e))))
        (kept.olds t)

    apart : (key : List ℕ) (t u : ℕ) → opens_in (with_commit o c) key t ≡ true → opens_in (with_commit o c) key u ≡ true → t ≡ u
    apart key t u ht hu = kept.apart key t u (still_open o c key t ht).1 (still_open o c key u hu).1

    value : (key : List ℕ) (t : ℕ) → Alone (with_commit o c) key t → get m key ≡ fold (value_after key) (get (fold after off (o c.tx)) key) (with_commit o c t)
    value key t h = by (eqb c.tx t) refl ∙ ap (λ (v : Option (List ℕ)). fold (value_after key) v (with_commit o c t)) (sym (get-fold key (o c.tx) off))
      where
        after_commit : Option (List ℕ)
        after_commit = fold (value_after key) (get off key) (o c.tx)

        -- the committer had the key open, or not
        rest : (b : Bool) → opens_in o key c.tx ≡ b → c.tx ≢ t → get m key ≡ fold (value_after key) after_commit (o t)
        rest true e n =
            let only : (other : ℕ) → other ≢ c.tx → opens_in o key other ≡ false = λ other d. false_unless (opens_in o key other) (λ g. d (kept.apart key other c.tx g e)) in
            kept.value key c.tx only ∙ sym (untouched key (o t) after_commit (only t (λ s. n (sym s))))
        rest false e n =
            let same : after_commit ≡ get off key = untouched key (o c.tx) (get off key) e in
            kept.value key t (λ other d. closed other d (eqb c.tx other) refl) ∙ ap (λ (v : Option (List ℕ)). fold (value_after key) v (o t)) (sym same)
          where
            closed : (other : ℕ) → other ≢ t → (b : Bool) → eqb c.tx other ≡ b → opens_in o key other ≡ false
            closed other d true g = subst (λ (u : ℕ). opens_in o key u ≡ false) (eqb-true c.tx other g) e
            closed other d false g = sym (other_commit o c key other (differ c.tx other g)) ∙ h other d

        by : (b : Bool) → eqb c.tx t ≡ b → get m key ≡ fold (value_after key) after_commit (cond b [] (o t))
        by true e =
            let same : c.tx ≡ t = eqb-true c.tx t e in
            kept.value key c.tx (λ other d. sym (other_commit o c key other (λ s. d (sym s))) ∙ h other (λ s. d (s ∙ sym same)))
        by false e = rest (opens_in o key c.tx) refl (differ c.tx t e)

-- ---- over whole logs

abbrev pub KeptLog : List Record → Type 0
KeptLog log = Kept (current log) (open_writes log) (committed_contents log)

kept_none : KeptLog []
unfolding current open_writes committed_contents along
kept_none = record { apart = λ key t u a b. absurd (not_both false a refl); value = λ key t h. refl; olds = λ t. tt }

moved : (m n : Contents) (o p : ℕ → List Record) (off off' : Contents) → m ≡ n → ((t : ℕ) → o t ≡ p t) → off ≡ off' → Kept m o off → Kept n p off'
moved m n o p off off' a b c k = subst (λ (x : Contents). Kept x p off') a (subst (λ (x : Contents). Kept m p x) c (let same : o ≡ p = λ i t. b t i in subst (λ (x : ℕ → List Record). Kept m x off) same k))

without_last_push : (front : List Record) (w : Record) → without_last (front ++ w ∷ []) ≡ front
without_last_push [] w = refl
without_last_push (x ∷ []) w = refl
without_last_push (x ∷ y ∷ ys) w = ap (λ (ws : List Record). x ∷ ws) (without_last_push (y ∷ ys) w)

pub front_left : (o : ℕ → List Record) (tx : ℕ) (front : List Record) (w : Record) → o tx ≡ front ++ w ∷ [] → (t : ℕ) → cond (eqb tx t) (without_last (o t)) (o t) ≡ cond (eqb tx t) front (o t)
front_left o tx front w split t = by (eqb tx t) refl
  where
    by : (b : Bool) → eqb tx t ≡ b → cond b (without_last (o t)) (o t) ≡ cond b front (o t)
    by true e = ap (λ (x : ℕ). without_last (o x)) (sym (eqb-true tx t e)) ∙ ap without_last split ∙ without_last_push front w
    by false e = refl

pub emptied : (o : ℕ → List Record) (tx : ℕ) → o tx ≡ [] → (t : ℕ) → cond (eqb tx t) [] (o t) ≡ o t
emptied o tx none t = by (eqb tx t) refl
  where
    by : (b : Bool) → eqb tx t ≡ b → cond b [] (o t) ≡ o t
    by true e = sym (ap o (sym (eqb-true tx t e)) ∙ none)
    by false e = refl

pub taken_key : (u : Undo) (w : Record) → TakesBack u w → u.key ≡ key_of w
taken_key u (kinds.Write w) h = h.0
taken_key u (kinds.Apply a) h = h.0
taken_key u _ h = absurd h

pub taken_old : (u : Undo) (w : Record) → TakesBack u w → u.restores ≡ old_of w
taken_old u (kinds.Write w) h = h.1
taken_old u (kinds.Apply a) h = h.1
taken_old u _ h = absurd h

arrive : (log : List Record) (r : Record) (o : ℕ → List Record) (off : Contents) → ((t : ℕ) → open_step t r (open_writes log t) r ≡ o t) → committed_step log (committed_contents log) r ≡ off → Kept (after (current log) r) o off → KeptLog (log ++ r ∷ [])
arrive log r o off a b k = moved _ _ _ _ _ _ (sym (current_push log r)) (λ t. sym (open_push log r t ∙ a t)) (sym (committed_push log r ∙ b)) k

kept_more : (log : List Record) (r : Record) → IsLawful log r → KeptLog log → KeptLog (log ++ r ∷ [])
kept_more log (kinds.Write w) h k = arrive log (kinds.Write w) _ _ (λ t. refl) refl (Kept_item (open_writes log) (kinds.Write w) w.tx (λ q. refl) _ _ k h.value.0 h.value.1)
kept_more log (kinds.Apply a) h k = arrive log (kinds.Apply a) _ _ (λ t. refl) refl (Kept_item (open_writes log) (kinds.Apply a) a.tx (λ q. refl) _ _ k h.value.0 h.value.1)
kept_more log (kinds.Undo u) h k =
    let rule = h.value in
    arrive log (kinds.Undo u) _ _ (front_left (open_writes log) u.tx rule.front rule.back rule.split) refl
    (Kept_undo _ (open_writes log) _ k u rule.front rule.back rule.split (taken_key u rule.back rule.takes) (taken_old u rule.back rule.takes))
kept_more log (kinds.Commit c) h k = arrive log (kinds.Commit c) _ _ (λ t. refl) refl (Kept_commit _ _ _ k c)
kept_more log (kinds.End e) h k = arrive log (kinds.End e) _ _ (emptied (open_writes log) e.tx h.value) refl k
kept_more log (kinds.Format f) h k = arrive log (kinds.Format f) _ _ (λ t. refl) refl k
kept_more log (kinds.Split f) h k = arrive log (kinds.Split f) _ _ (λ t. refl) refl k
kept_more log (kinds.Adopt f) h k = arrive log (kinds.Adopt f) _ _ (λ t. refl) refl k
kept_more log (kinds.Grow f) h k = arrive log (kinds.Grow f) _ _ (λ t. refl) refl k
kept_more log (kinds.Purge f) h k = arrive log (kinds.Purge f) _ _ (λ t. refl) refl k
kept_more log (kinds.Written f) h k = arrive log (kinds.Written f) _ _ (λ t. refl) refl k
kept_more log (kinds.Checkpoint f) h k = arrive log (kinds.Checkpoint f) _ _ (λ t. refl) refl k
kept_more log (kinds.BackupDone f) h k = arrive log (kinds.BackupDone f) _ _ (λ t. refl) refl k
kept_more log (kinds.RunDone f) h k = arrive log (kinds.RunDone f) _ _ (λ t. refl) refl k
kept_more log (kinds.Lost f) h k = arrive log (kinds.Lost f) _ _ (λ t. refl) refl k
kept_more log (kinds.Restored f) h k = arrive log (kinds.Restored f) _ _ (λ t. refl) refl k

pub kept_log : (log : List Record) → AreLawful log → KeptLog log
kept_log = by_pushes (λ log. AreLawful log → KeptLog log) (λ _. kept_none) (λ log r before sound. let parts = lawful_front log r sound in kept_more log r parts.1 (before parts.0))

open_by : (log : List Record) → KeptLog log → (key : List ℕ) (t : ℕ) → opens log key t ≡ true → IsOpenBy log key t
open_by log k key t h =
    let f = first_old (get (committed_contents log)) key (open_writes log t) (k.olds t) h in
    record {
      first = f.0;
      rest = f.1;
      own = f.2;
      committed = sym f.3;
      current = k.value key t (alone_of _ _ _ k key t h) ∙ fold_filtered key (open_writes log t) (get (committed_contents log) key)
          ∙ ap (λ (v : Option (List ℕ)). fold given v (filter (writes key) (open_writes log t))) (sym f.3)
          ∙ ap (fold given (old_of f.0)) f.2;
    }

pub agree : (log : List Record) → KeptLog log → Agree log
agree log kept = record {
  closed = λ key none. kept.value key 0 (λ other _. none other) ∙ untouched key (open_writes log 0) (get (committed_contents log) key) (none 0);
  open_by = open_by log kept;
  alone = kept.apart;
}

pub central : (log : List Record) → CentralLaw log
central log sound = agree log (kept_log log sound)
