-- Worked examples of pointers. The leaf with a, b and c was split at b and at c, and the root has grown
-- over it: page 1 leads to page 4, whose foster child is page 2, whose foster child is page 3.
use Rattle.std.proofs.Common.{◌≡◌, ℕ, List, [], ◌∷◌, ◌++◌, Some, None, refl}
use Rattle.std.specs.Option.{option_map}
use Rattle.store_model.specs.Along.{along}
use Rattle.wal_record.specs.Images.{applied, image}
use Rattle.wal_record.specs.Tree.{pointers, incoming, fence_at}
use Rattle.wal_record.specs.declared.page.BranchRow.{BranchRow}
use Rattle.wal_record.specs.declared.page.Rows.TheVariants.{Branch}
use Rattle.wal_record.proofs.ExampleLogs.{b, c, grown_log, adopt_three}

abbrev to : ℕ → List ℕ → BranchRow
to child low = record { low = Some low; child = child }

-- a branch promises its children the level below its own, their separator, and the next one or the end
branch_pointers :
    pointers (record { level = 1; low = Some []; high = None; foster = Some (record { key = c; child = 5 }); rows = Branch (to 2 [] ∷ to 3 b ∷ []) })
    ≡ record { child = 2; fence = record { level = 0; low = Some []; high = Some b } } ∷ record { child = 3; fence = record { level = 0; low = Some b; high = Some c } }
    ∷ record { child = 5; fence = record { level = 1; low = Some c; high = None } } ∷ []
branch_pointers = refl

-- the root has no incoming pointer, the other pages have one
none_to_root : incoming (image grown_log) 4 1 ≡ 0
unfolding image applied along
none_to_root = refl

one_to_two : incoming (image grown_log) 4 2 ≡ 1
unfolding image applied along
one_to_two = refl

one_to_three : incoming (image grown_log) 4 3 ≡ 1
unfolding image applied along
one_to_three = refl

one_to_four : incoming (image grown_log) 4 4 ≡ 1
unfolding image applied along
one_to_four = refl

-- what an adoption from further down the chain would break: the root's first row would then promise that
-- page 4 ends at c, but page 4 with its foster children has no end
promised : option_map pointers (image (grown_log ++ adopt_three ∷ []) 1)
    ≡ Some (record { child = 4; fence = record { level = 0; low = Some []; high = Some c } } ∷ record { child = 3; fence = record { level = 0; low = Some c; high = None } } ∷ [])
unfolding image applied along
promised = refl

broken : fence_at (image (grown_log ++ adopt_three ∷ [])) 4 ≡ Some (record { level = 0; low = Some []; high = None })
unfolding image applied along
broken = refl
