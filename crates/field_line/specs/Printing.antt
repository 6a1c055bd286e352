-- How a field is printed.
use Rattle.std.specs.Prelude.{ℕ, List, ◌++◌, codes}
use Rattle.std.specs.Borrow.{Bor}
use Rattle.std.specs.Fmt.{decimal}

-- a name and a value behind what stands there
abbrev pub with_field : List ℕ → List ℕ → List ℕ → List ℕ
with_field line name value = line ++ codes " " ++ name ++ codes "=" ++ value

-- a number and its name
abbrev pub number_field : Bor (List ℕ) × ℕ → List ℕ
number_field field = codes " " ++ field.0.now ++ codes "=" ++ decimal field.1

-- the name of a field that is absent
abbrev pub without_field : List ℕ → List ℕ → List ℕ
without_field line name = line ++ codes " " ++ name ++ codes " none"
