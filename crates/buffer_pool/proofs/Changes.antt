-- What a change of one page leaves of a pool's frames and rights.
use Rattle.std.proofs.Common.{◌≡◌, ℕ, zero, suc, ◌<◌, List, length, get_or, Option, Some, false, refl, sym, ap, ◌∙◌, subst, arith, inl, inr}
use Rattle.std.specs.Prelude.{IfSome, slice_index_or, slice_set}
use Rattle.std.proofs.lemmas.List.{length-set}
use Rattle.std.proofs.lemmas.Bool.{cases_eq}
use Rattle.books.specs.Rights.{PageClaim}
use Rattle.page_index.specs.Index.{Index, for_page, home_of, limit_of, written_of, Rehomes}
use Rattle.page_index.proofs.Places.{all-pages, for_page-within, for_page-set_same, for_page-set_other, set-all}
use Rattle.page_ops.specs.Claims.{IsInRange}
use Rattle.page_ops.specs.Hands.{Hand}
use Rattle.buffer_pool.specs.declared.frame.Frame.{Frame}
use Rattle.buffer_pool.specs.declared.frame.Frame.TheVariants.{Empty, Kept, Full}
use Rattle.buffer_pool.specs.Tables.{Table, IsOf, HasFrame, IsDropped, IsKept, IsStored, Moves, PutsIn, SendsHome, Stays, frame_of, right_of}

pub kept_new : (frames : List (Frame Hand)) (index : Index) → length frames ≡ limit_of index → ((i : ℕ) → slice_index_or frames i Empty ≡ Empty) → ((page : ℕ) → IfSome (home_of index page) IsInRange)
    → IsKept (record { frames = frames; index = index })
kept_new frames index pages empty rights = record {
  pages = pages;
  own = λ q. subst (IsOf q) (sym (all-pages Empty frames empty q)) tt;
  rights = rights;
}

-- the frame of one page changes
module _ (t : Table) (page n : ℕ) (x : Frame Hand) (is : page ≡ suc n) (inside : n < length t.frames) where
  abbrev pub framed : Table
  framed = record { frames = slice_set t.frames n x; index = t.index }

  pub moves : Moves page x (right_of t page) t framed
  moves = record {
    becomes = record {
      limit = refl;
      frame = ap (for_page Empty (slice_set t.frames n x)) is ∙ for_page-set_same Empty t.frames n x inside;
      right = refl;
      frames = λ q apart. for_page-set_other Empty t.frames n x q (λ e. apart (e ∙ sym is));
      rights = λ q apart. refl;
    };
    written = λ q. refl;
  }

  own_set : IsOf (suc n) x → ((q : ℕ) → IsOf q (for_page Empty t.frames q)) → (q : ℕ) → IsOf q (for_page Empty (slice_set t.frames n x) q)
  own_set here all zero = tt
  own_set here all (suc m) = set-all (λ (i : ℕ) (f : Frame Hand). IsOf (suc i) f) Empty t.frames n x (λ i. all (suc i)) here m

  pub kept_framed : IsKept t → IsOf page x → IsKept framed
  kept_framed kept here = record {
    pages = length-set t.frames n x ∙ kept.pages;
    own = own_set (subst (λ (p : ℕ). IsOf p x) is here) kept.own;
    rights = kept.rights;
  }

-- and so does the home of its right
module _ (t : Table) (index : Index) (page n : ℕ) (x : Frame Hand) (right : Option PageClaim) (is : page ≡ suc n) (inside : n < length t.frames) (rehomed : Rehomes t.index index page right) where
  abbrev pub moved : Table
  moved = record { frames = slice_set t.frames n x; index = index }

  pub moves_too : Moves page x right t moved
  moves_too = record {
    becomes = record {
      limit = rehomed.limit;
      frame = ap (for_page Empty (slice_set t.frames n x)) is ∙ for_page-set_same Empty t.frames n x inside;
      right = rehomed.home;
      frames = λ q apart. for_page-set_other Empty t.frames n x q (λ e. apart (e ∙ sym is));
      rights = rehomed.others;
    };
    written = rehomed.written;
  }

  pub kept_moved : IsKept t → IsOf page x → IfSome right IsInRange → IsKept moved
  kept_moved kept here range = record {
    pages = length-set t.frames n x ∙ kept.pages ∙ sym rehomed.limit;
    own = own_set t page n x is inside (subst (λ (p : ℕ). IsOf p x) is here) kept.own;
    rights = ranges;
  }
    where
      ranges : (q : ℕ) → IfSome (home_of index q) IsInRange
      ranges q = elim (cases_eq q page) [
        | inl e ↦ subst (λ (o : Option PageClaim). IfSome o IsInRange) (sym (ap (home_of index) e ∙ rehomed.home)) range
        | inr d ↦ subst (λ (o : Option PageClaim). IfSome o IsInRange) (sym (rehomed.others q d)) (kept.rights q)
      ]

-- a page in its frame is that page
pub own_page : (t : Table) (page n : ℕ) (d : Frame Hand) (h : Hand) → IsKept t → page ≡ suc n → n < length t.frames → get_or t.frames n d ≡ Full h → h.page ≡ page
own_page t page n d h kept is inside at = subst (IsOf page) (sym (for_page-within Empty d t.frames page n is inside) ∙ at) (kept.own page)

pub frame_at : (t : Table) (page n : ℕ) (d f : Frame Hand) → page ≡ suc n → n < length t.frames → get_or t.frames n d ≡ f → frame_of t page ≡ f
frame_at t page n d f is inside at = sym (for_page-within Empty d t.frames page n is inside) ∙ at

-- ---- a page that is taken, and then put back or sent home

module _ (page : ℕ) (h : Hand) (t t1 : Table) (was : frame_of t page ≡ Full h) (takes : Moves page Kept (right_of t page) t t1) (inside : HasFrame t page) (whose : h.page ≡ page) where
  -- it was written
  pub stored : (h' : Hand) (t2 t3 : Table) (lsn : ℕ) → h' ≡ record h { dirty = false } → Stays t1 t2 → (HasFrame t1 page → written_of t2.index page ≡ lsn) → lsn ≡ h.lsn → PutsIn h' t2 t3 → IsStored page h t t3
  stored h' t2 t3 lsn is noted wrote told puts =
      let page_is : h'.page ≡ page = ap (λ (x : Hand). x.page) is ∙ whose in
      let limits : limit_of t1.index ≡ limit_of t.index = takes.becomes.limit in
      let limits' : limit_of t2.index ≡ limit_of t1.index = noted.limit in
      let has : HasFrame t2 page = (inside.0, let i = inside.1 in omega (arith, i, limits, limits')) in
      let put = subst (λ (p : ℕ). Moves p (Full h') (right_of t2 p) t2 t3) page_is (puts.there (subst (HasFrame t2) (sym page_is) has)) in
      record {
        was = was;
        frame = record {
          limit = put.becomes.limit ∙ limits' ∙ limits;
          frame = put.becomes.frame ∙ (λ i. Full (is i));
          right = put.becomes.right ∙ noted.rights page ∙ takes.becomes.right;
          frames = λ q apart. put.becomes.frames q apart ∙ noted.frames q ∙ takes.becomes.frames q apart;
          rights = λ q apart. put.becomes.rights q apart ∙ noted.rights q ∙ takes.becomes.rights q apart;
        };
        written = put.written page ∙ wrote (inside.0, let i = inside.1 in omega (arith, i, limits)) ∙ told;
      }

  -- it was dropped
  pub dropped : (h' : Hand) (t3 : Table) (p : PageClaim) → h' ≡ h → p ≡ record { page = h'.page; lsn = h'.lsn } → SendsHome p t1 t3 → IsDropped page h t t3
  dropped h' t3 p is right sends =
      let right_is : p ≡ record { page = page; lsn = h.lsn } = right ∙ (λ i. record { page = (ap (λ (x : Hand). x.page) is ∙ whose) i; lsn = (is i).lsn }) in
      let limits : limit_of t1.index ≡ limit_of t.index = takes.becomes.limit in
      let has : HasFrame t1 page = (inside.0, let i = inside.1 in omega (arith, i, limits)) in
      let home = subst (λ (r : PageClaim). HasFrame t1 r.page → Moves r.page Empty (Some r) t1 t3) right_is sends.there has in
      record {
        was = was;
        frame = record {
          limit = home.becomes.limit ∙ limits;
          frame = home.becomes.frame;
          right = home.becomes.right;
          frames = λ q apart. home.becomes.frames q apart ∙ takes.becomes.frames q apart;
          rights = λ q apart. home.becomes.rights q apart ∙ takes.becomes.rights q apart;
        };
      }

  -- it is as before
  pub put_again : (h' : Hand) (t3 : Table) → h' ≡ h → PutsIn h' t1 t3 → Stays t t3
  put_again h' t3 is puts =
      let page_is : h'.page ≡ page = ap (λ (x : Hand). x.page) is ∙ whose in
      let limits : limit_of t1.index ≡ limit_of t.index = takes.becomes.limit in
      let has : HasFrame t1 page = (inside.0, let i = inside.1 in omega (arith, i, limits)) in
      let put = subst (λ (p : ℕ). Moves p (Full h') (right_of t1 p) t1 t3) page_is (puts.there (subst (HasFrame t1) (sym page_is) has)) in
      record {
        limit = put.becomes.limit ∙ limits;
        frames = λ q. elim (cases_eq q page) [
          | inl e ↦ ap (frame_of t3) e ∙ put.becomes.frame ∙ (λ i. Full (is i)) ∙ sym was ∙ ap (frame_of t) (sym e)
          | inr d ↦ put.becomes.frames q d ∙ takes.becomes.frames q d
        ];
        rights = λ q. elim (cases_eq q page) [
          | inl e ↦ ap (right_of t3) e ∙ put.becomes.right ∙ takes.becomes.right ∙ ap (right_of t) (sym e)
          | inr d ↦ put.becomes.rights q d ∙ takes.becomes.rights q d
        ];
      }
