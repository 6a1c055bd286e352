-- The grow law.
use Rattle.std.proofs.Common.{◌≡◌, ℕ, ◌+◌, ◌-◌, ◌<◌, true, List, [], ◌∷◌, Some, refl, sym, arith, nat_lt}
use Rattle.std.proofs.lemmas.Bool.{and_from}
use Rattle.std.proofs.lemmas.Bool.Decides.{nat_tests}
use Rattle.wal_record.specs.State.{has_own, branch_rows, child_at}
use Rattle.wal_record.specs.Images.{grown}
use Rattle.wal_record.specs.declared.page.PageState.{PageState}
use Rattle.wal_record.specs.declared.record.Grow.{Grow}
use Rattle.foster_laws.specs.Grows.{GrowLaw}

one_higher : (level : ℕ) → level < 255 → nat_lt (level + 1) 256 ≡ true
one_higher level h = grind (arith, nat_tests)

every : (c : ℕ) (s : PageState) (key : List ℕ) → has_own (grown c s) key ≡ true
every c s [] = refl
every c s (b ∷ bs) = refl

leads : (c : ℕ) (s : PageState) (key : List ℕ) → child_at key (branch_rows (grown c s).rows) ≡ Some c
leads c s [] = refl
leads c s (b ∷ bs) = refl

level_is : (n : ℕ) → n + 1 - 1 ≡ n
level_is n = omega arith

pub grow : (s : PageState) (g : Grow) → GrowLaw s g
grow s g = record {
  root = λ keeps low high foster level is number. record {
    can = record { foster = foster; level = level; child = is };
    keeps = record {
      level = one_higher s.level level;
      fences = refl;
      texts = refl;
      foster = refl;
      rows = (omega arith, refl, refl, and_from _ _ (and_from _ _ refl (and_from _ _ refl number)) refl);
      size = omega arith;
    };
    free = refl;
    own = every g.child s;
    leads = leads g.child s;
    points = λ i. record { child = g.child; fence = record { level = level_is s.level i; low = sym low i; high = sym high i } } ∷ [];
  };
}
