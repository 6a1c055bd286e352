-- The frames and rights of a pool whose device is lost, page by page.
use Rattle.std.specs.Prelude.{IfSome}
use Rattle.books.specs.Rights.{PageClaim}
use Rattle.page_ops.specs.Claims.{IsInRange}
use Rattle.page_index.proofs.Places.{for_page-outside}
use Rattle.std.proofs.Common.{◌≡◌, ◌≢◌, ℕ, zero, suc, ◌<◌, ◌≤◌, List, length, Option, Some, None, ◌⊎◌, refl, sym, ap, ◌∙◌, subst, arith, inl, inr}
use Rattle.std.proofs.lemmas.Bool.{cases_eq}
use Rattle.page_index.specs.Index.{Index, Forgets, for_page, limit_of}
use Rattle.page_ops.specs.Hands.{Hand}
use Rattle.buffer_pool.specs.declared.frame.Frame.{Frame}
use Rattle.buffer_pool.specs.declared.frame.Frame.TheVariants.{Empty, Kept, Full}
use Rattle.buffer_pool.specs.Tables.{Table, Drops, IsKept, HasFrame, Loses, Moves, SendsHome, frame_of, right_of, lost_frame, lost_right}

-- the pages up to this one are dropped, and those above are as before
pub record LosesUpTo (page : ℕ) (old new : Table) : Type 0 where
  pub limit : limit_of new.index ≡ limit_of old.index
  pub frames : (q : ℕ) → q ≤ page → frame_of new q ≡ lost_frame (frame_of old q)
  pub rights : (q : ℕ) → q ≤ page → right_of new q ≡ lost_right (frame_of old q) (right_of old q)
  pub frames_above : (q : ℕ) → page < q → frame_of new q ≡ frame_of old q
  pub rights_above : (q : ℕ) → page < q → right_of new q ≡ right_of old q

pub none_lost : (t : Table) → LosesUpTo 0 t t
none_lost t = record {
  limit = refl;
  frames = none;
  rights = none_right;
  frames_above = λ q above. refl;
  rights_above = λ q above. refl;
}
  where
    none : (q : ℕ) → q ≤ 0 → frame_of t q ≡ lost_frame (frame_of t q)
    none zero low = refl
    none (suc q) low = absurd (omega (arith, low))

    none_right : (q : ℕ) → q ≤ 0 → right_of t q ≡ lost_right (frame_of t q) (right_of t q)
    none_right zero low = refl
    none_right (suc q) low = absurd (omega (arith, low))

pub one_lost : (page now : ℕ) (t t1 t2 : Table) → now ≡ suc page → LosesUpTo page t t1 → Drops now t1 t2 → LosesUpTo now t t2
one_lost page now t t1 t2 is up drops = record {
  limit = drops.limit ∙ up.limit;
  frames = λ q low. elim (cases_eq q now) [
    | inl e ↦ ap (frame_of t2) e ∙ drops.frame ∙ ap lost_frame (up.frames_above now (omega (arith, is)) ∙ ap (frame_of t) (sym e))
    | inr d ↦ drops.frames q d ∙ up.frames q (below q low d)
  ];
  rights = λ q low. elim (cases_eq q now) [
    | inl e ↦ ap (right_of t2) e ∙ drops.right
        ∙ ap (λ (f : Frame Hand). lost_right f (right_of t1 now)) (up.frames_above now (omega (arith, is)) ∙ ap (frame_of t) (sym e))
        ∙ ap (lost_right (frame_of t q)) (up.rights_above now (omega (arith, is)) ∙ ap (right_of t) (sym e))
    | inr d ↦ drops.rights q d ∙ up.rights q (below q low d)
  ];
  frames_above = λ q above. drops.frames q (λ e. absurd (omega (arith, above, e))) ∙ up.frames_above q (omega (arith, is, above));
  rights_above = λ q above. drops.rights q (λ e. absurd (omega (arith, above, e))) ∙ up.rights_above q (omega (arith, is, above));
}
  where
    below : (q : ℕ) → q ≤ now → q ≢ now → q ≤ page
    below q low d = omega (arith, is, low, d)

-- ---- one page

pub drops_full : (page : ℕ) (h : Hand) (t t1 t3 : Table) (p : PageClaim) → frame_of t page ≡ Full h → Moves page Kept (right_of t page) t t1 → HasFrame t page → h.page ≡ page
    → p ≡ record { page = h.page; lsn = h.lsn } → SendsHome p t1 t3 → Drops page t t3
drops_full page h t t1 t3 p was takes inside whose right sends =
    let right_is : p.page ≡ page = ap (λ (x : PageClaim). x.page) right ∙ whose in
    let limits : limit_of t1.index ≡ limit_of t.index = takes.becomes.limit in
    let has : HasFrame t1 page = (inside.0, let i = inside.1 in omega (arith, i, limits)) in
    let home = subst (λ (q : ℕ). HasFrame t1 q → Moves q Empty (Some p) t1 t3) right_is sends.there has in
    record {
      limit = home.becomes.limit ∙ limits;
      frame = home.becomes.frame ∙ sym (ap lost_frame was);
      right = home.becomes.right ∙ ap Some right ∙ sym (ap (λ (f : Frame Hand). lost_right f (right_of t page)) was);
      frames = λ q apart. home.becomes.frames q apart ∙ takes.becomes.frames q apart;
      rights = λ q apart. home.becomes.rights q apart ∙ takes.becomes.rights q apart;
    }

same_drops : (page : ℕ) (t : Table) → lost_frame (frame_of t page) ≡ frame_of t page → lost_right (frame_of t page) (right_of t page) ≡ right_of t page → Drops page t t
same_drops page t frame right = record { limit = refl; frame = sym frame; right = sym right; frames = λ q apart. refl; rights = λ q apart. refl }

pub drops_kept : (page : ℕ) (t t1 : Table) → (frame_of t page ≡ Kept) × (t1 ≡ t) → Drops page t t1
drops_kept page t t1 (was, is) = subst (Drops page t) (sym is) (same_drops page t (ap lost_frame was ∙ sym was) (ap (λ (f : Frame Hand). lost_right f (right_of t page)) was))

pub drops_empty : (page : ℕ) (t t1 : Table) → (frame_of t page ≡ Empty) × (t1 ≡ t) → Drops page t t1
drops_empty page t t1 (was, is) = subst (Drops page t) (sym is) (same_drops page t (ap lost_frame was ∙ sym was) (ap (λ (f : Frame Hand). lost_right f (right_of t page)) was))

-- ---- all pages

module _ (t : Table) (index : Index) (forgets : Forgets t.index index) where
  abbrev pub forgotten : Table
  forgotten = record { frames = t.frames; index = index }

  same_rights : (q : ℕ) → right_of forgotten q ≡ right_of t q
  same_rights q = ap (λ (homes : List (Option PageClaim)). for_page None homes q) forgets.homes

  pub kept_forgotten : IsKept t → IsKept forgotten
  kept_forgotten kept = record {
    pages = kept.pages ∙ sym (ap (length {_}) forgets.homes);
    own = kept.own;
    rights = λ q. subst (λ (o : Option PageClaim). IfSome o IsInRange) (sym (same_rights q)) (kept.rights q);
  }

  pub all_lost : (page : ℕ) (t0 : Table) → length t.frames ≤ page → LosesUpTo page t0 t → Loses t0 forgotten
  all_lost page t0 past up = record {
    limit = ap (length {_}) forgets.homes ∙ up.limit;
    frames = λ q. elim (at_most q page) [
      | inl low ↦ up.frames q low
      | inr above ↦ beyond q (omega (arith, past, above)) ∙ sym (ap lost_frame (sym (up.frames_above q above) ∙ beyond q (omega (arith, past, above))))
    ];
    rights = λ q. same_rights q ∙ elim (at_most q page) [
      | inl low ↦ up.rights q low
      | inr above ↦ up.rights_above q above ∙ sym (ap (λ (f : Frame Hand). lost_right f (right_of t0 q)) (sym (up.frames_above q above) ∙ beyond q (omega (arith, past, above))))
    ];
    written = forgets.written;
  }
    where
      at_most : (a b : ℕ) → (a ≤ b) ⊎ (b < a)
      at_most a b = grind arith

      beyond : (q : ℕ) → length t.frames < q → frame_of t q ≡ Empty
      beyond q far = for_page-outside Empty t.frames q (λ some. far)
