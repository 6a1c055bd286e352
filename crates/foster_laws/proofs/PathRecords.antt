-- Records that keep a path tidy.
use Rattle.std.proofs.Common.{◌≡◌, ◌≢◌, ℕ, ◌-◌, true, false, List, [], ◌∷◌, ◌++◌, Option, Some, None, refl, sym, ap, subst, ◌∙◌, arith, append_assoc, append-nil, inl, inr}
use Rattle.std.specs.List.{list_all}
use Rattle.store_model.proofs.Bools.{both_true}
use Rattle.wal_record.specs.State.{own_end, branch_rows}
use Rattle.wal_record.specs.Chains.{names, link_of, pages_step, pages}
use Rattle.wal_record.specs.Images.{image, with_child, purged, grown}
use Rattle.wal_record.specs.declared.page.PageState.{PageState}
use Rattle.wal_record.specs.declared.record.Adopt.{Adopt}
use Rattle.wal_record.specs.declared.record.Grow.{Grow}
use Rattle.wal_record.specs.declared.record.Purge.{Purge}
use Rattle.wal_record.specs.declared.record.Split.{Split}
use Rattle.wal_record.specs.declared.record.Record.{Record}
use Rattle.wal_record.specs.declared.record.Record.TheVariants as kinds
use Rattle.wal_record.proofs.Pushes.{pages_push}
use Rattle.tree_laws.proofs.Counts.{inside_some}
use Rattle.tree_laws.proofs.Start.{missing}
use Rattle.foster_laws.specs.Enters.{Entered}
use Rattle.foster_laws.proofs.Entering.{image_off, slot_level}
use Rattle.foster_laws.proofs.Room.{limit_same, pending_same}
use Rattle.foster_laws.specs.Tidy.{IsFull}
use Rattle.foster_laws.specs.Paths.{TidyPath, TidyTo}
use Rattle.foster_laws.specs.PathRecords.{IsBefore, is_upkeep_record, PathUpkeepLaw, PathGrowLaw, PathAdoptLaw, PathPurgeLaw, PathSplitLaw}
use Rattle.foster_laws.proofs.PathSteps.{path_begins_law}
use Rattle.foster_laws.proofs.PathOrder.{path_stays_law, not_before_itself, before_trans}

-- ---- upkeep

pub image_kept : (log : List Record) (r : Record) → is_upkeep_record r ≡ true → (p : ℕ) → image (log ++ r ∷ []) p ≡ image log p
image_kept log r up p = image_off log r p (unnamed r up)
  where
    unnamed : (r : Record) → is_upkeep_record r ≡ true → names p r ≡ false
    unnamed (kinds.Written w) e = refl
    unnamed (kinds.BackupDone b) e = refl
    unnamed (kinds.Lost l) e = refl
    unnamed (kinds.Restored x) e = refl
    unnamed (kinds.RunDone d) e = refl
    unnamed (kinds.Checkpoint c) e = refl
    unnamed _ e = absurd cc

no_link : (r : Record) → is_upkeep_record r ≡ true → link_of r ≡ None
no_link (kinds.Written w) e = refl
no_link (kinds.BackupDone b) e = refl
no_link (kinds.Lost l) e = refl
no_link (kinds.Restored x) e = refl
no_link (kinds.RunDone d) e = refl
no_link (kinds.Checkpoint c) e = refl
no_link _ e = absurd cc

no_page : (n : ℕ) (r : Record) → is_upkeep_record r ≡ true → pages_step n r ≡ n
no_page n (kinds.Written w) e = refl
no_page n (kinds.BackupDone b) e = refl
no_page n (kinds.Lost l) e = refl
no_page n (kinds.Restored x) e = refl
no_page n (kinds.RunDone d) e = refl
no_page n (kinds.Checkpoint c) e = refl
no_page n _ e = absurd cc

full_kept : (log : List Record) (r : Record) → log ≢ [] → is_upkeep_record r ≡ true → IsFull log → IsFull (log ++ r ∷ [])
full_kept log r some up full =
    let p : pages (log ++ r ∷ []) ≡ pages log = pages_push log r ∙ no_page (pages log) r up in
    let w = pending_same log r (no_link r up) in
    let l = limit_same log r some in
    omega (arith, p, w, l, full)

-- the same images, and no less room in use
same_path : (img img' : ℕ → Option PageState) (full full' : Type 0) (key : List ℕ) → ((p : ℕ) → img' p ≡ img p) → (full → full') → (p : ℕ) → TidyPath img full key p → TidyPath img' full' key p
same_path img img' full full' key same fuller _ (TidyPath.root c) = TidyPath.root (λ s there some. elim (c s (sym (same 1) ∙ there) some) [ inl h ↦ inl h | inr h ↦ inr (fuller h) ])
same_path img img' full full' key same fuller _ (TidyPath.child p q s rest here own row c) =
    TidyPath.child p q s (same_path img img' full full' key same fuller p rest) (same p ∙ here) own row (λ t there f foster. let found = c t (sym (same q) ∙ there) f foster in (fuller found.0, found.1))
same_path img img' full full' key same fuller _ (TidyPath.foster p q s rest here out to) = TidyPath.foster p q s (same_path img img' full full' key same fuller p rest) (same p ∙ here) out to

not_empty : (log : List Record) (r : Record) → log ++ r ∷ [] ≢ []
not_empty [] r e = cc
not_empty (x ∷ log) r e = cc

pub path_upkeep_law : (log rest : List Record) (key : List ℕ) (p : ℕ) → PathUpkeepLaw log rest key p
path_upkeep_law log rest key p = record { tidy = tidy rest log; image = same rest log }
  where
    tidy : (rest log : List Record) → log ≢ [] → list_all is_upkeep_record rest ≡ true → TidyTo log key p → TidyTo (log ++ rest) key p
    tidy [] log some up path = subst (λ (l : List Record). TidyTo l key p) (sym (append-nil log)) path
    tidy (r ∷ rest) log some up path =
        let both = both_true (is_upkeep_record r) (list_all is_upkeep_record rest) up in
        let one : TidyTo (log ++ r ∷ []) key p = same_path (image log) (image (log ++ r ∷ [])) (IsFull log) (IsFull (log ++ r ∷ [])) key (image_kept log r both.0) (full_kept log r some both.0) p path in
        subst (λ (l : List Record). TidyTo l key p) (append_assoc log (r ∷ []) rest) (tidy rest (log ++ r ∷ []) (not_empty log r) both.1 one)

    same : (rest log : List Record) → list_all is_upkeep_record rest ≡ true → (x : ℕ) → image (log ++ rest) x ≡ image log x
    same [] log up x = ap (λ (l : List Record). image l x) (append-nil log)
    same (r ∷ rest) log up x =
        let both = both_true (is_upkeep_record r) (list_all is_upkeep_record rest) up in
        ap (λ (l : List Record). image l x) (sym (append_assoc log (r ∷ []) rest)) ∙ same rest (log ++ r ∷ []) both.1 x ∙ image_kept log r both.0 x

-- ---- the tree

pub path_grow_law : (log : List Record) (key : List ℕ) (g : Grow) (s : PageState) → PathGrowLaw log key g s
path_grow_law log key g s = record { tidy = λ entered. (path_begins_law (log ++ kinds.Grow g ∷ []) key (grown g.child s)).single entered.root refl }

-- the store stays full
fuller : (log : List Record) (r : Record) (more : ℕ) → Entered log r more → IsFull log → IsFull (log ++ r ∷ [])
fuller log r more e full =
    let u = e.used in
    let l = e.limit in
    omega (arith, u, l, full)

other_page : (log : List Record) (x p : ℕ) (u s : PageState) → image log x ≡ Some u → image log p ≡ Some s → (u ≡ s → ⊥) → x ≢ p
other_page log x p u s a b differ same = differ (inside_some u s (sym a ∙ ap (image log) same ∙ b))

before_differs : (u s : PageState) → IsBefore u s → u ≡ s → ⊥
before_differs u s b e = not_before_itself s (subst (λ (x : PageState). IsBefore x s) e b)

pub path_adopt_law : (log : List Record) (key : List ℕ) (a : Adopt) (s f : PageState) (i : ℕ) → PathAdoptLaw log key a s f i
path_adopt_law log key a s f i = record {
  tidy = λ lawful some parent fosterer level slot entered path.
      let below : f.level ≡ s.level - 1 = slot_level (s.level - 1) (own_end s) (branch_rows s.rows) i _ slot in
      let behind : IsBefore s f = inl (omega (arith, below, level)) in
      (path_stays_law log (log ++ kinds.Adopt a ∷ []) key a.parent s).tidy lawful some parent
      (record {
        state = with_child a s;
        here = entered.parent;
        level = refl;
        foster = refl;
        before = λ x u is b.
            entered.others x (other_page log x a.parent u s is parent (before_differs u s b)) (other_page log x a.fosterer u f is fosterer (before_differs u f (before_trans u s f b behind))) ∙ is;
        full = fuller log (kinds.Adopt a) 0 entered.entered;
      })
      path;
}

pub path_purge_law : (log : List Record) (key : List ℕ) (x : Purge) (s : PageState) → PathPurgeLaw log key x s
path_purge_law log key x s = record {
  tidy = λ lawful some here entered path.
      (path_stays_law log (log ++ kinds.Purge x ∷ []) key x.page s).tidy lawful some here
      (record {
        state = purged s;
        here = entered.page;
        level = refl;
        foster = refl;
        before = λ y u is b. entered.others y (other_page log y x.page u s is here (before_differs u s b)) ∙ is;
        full = fuller log (kinds.Purge x) 0 entered.entered;
      })
      path;
}

pub path_split_law : (log : List Record) (key : List ℕ) (p : ℕ) (s : PageState) (x : Split) (u : PageState) → PathSplitLaw log key p s x u
path_split_law log key p s x u = record {
  tidy = λ lawful some here page child other apart entered path.
      let unmade : (y : ℕ) (w : PageState) → image log y ≡ Some w → y ≢ x.child = λ y w is same. missing w (sym child ∙ ap (image log) (sym same) ∙ is) in
      (path_stays_law log (log ++ kinds.Split x ∷ []) key p s).tidy lawful some here
      (record {
        state = s;
        here = entered.pages.others p other (unmade p s here) ∙ here;
        level = refl;
        foster = refl;
        before = λ y w is b. entered.pages.others y (λ same. apart (subst (λ (z : PageState). IsBefore z s) (inside_some w u (sym is ∙ ap (image log) same ∙ page)) b)) (unmade y w is) ∙ is;
        full = fuller log (kinds.Split x) 1 entered.entered;
      })
      path;
}
