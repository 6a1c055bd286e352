-- Lists of copies and entries, one item more.
use Rattle.std.proofs.Common.{◌≡◌, ◌⊎◌, ℕ, ◌<◌, ◌≤◌, arith, Bool, true, List, [], ◌∷◌, ◌++◌, refl, inl, inr}
use Rattle.std.specs.List.{list_all}
use Rattle.std.proofs.lemmas.Bool.{cases_order}
use Rattle.store_model.proofs.Bools.{and_true, both_true}
use Rattle.wal_record.specs.declared.entry.Entry.{Entry}
use Rattle.page_ops.specs.Groups.{Each}
use Rattle.backup_set.specs.Backup.{IsAmong}
use Rattle.backup_set.specs.declared.copy.PageCopy.{PageCopy}
use Rattle.backups.specs.Backups.{SomeOf}

pub low_or_high : (m n : ℕ) → (m ≤ n) ⊎ (n < m)
low_or_high m n = by (cases_order m n)
  where
    by : (m ≡ n) ⊎ ((m < n) ⊎ (n < m)) → (m ≤ n) ⊎ (n < m)
    by (inl same) = inl (omega (arith, same))
    by (inr (inl less)) = inl (omega (arith, less))
    by (inr (inr more)) = inr more

pub each_more : {A : Type 0} (P Q : A → Type 0) → ((x : A) → P x → Q x) → (xs : List A) → Each P xs → Each Q xs
each_more P Q h [] all = tt
each_more P Q h (x ∷ xs) all = (h x all.0, each_more P Q h xs all.1)

pub each_both : {A : Type 0} (P : A → Type 0) (xs ys : List A) → Each P xs → Each P ys → Each P (xs ++ ys)
each_both P [] ys a b = b
each_both P (x ∷ xs) ys a b = (a.0, each_both P xs ys a.1 b)

pub among_left : (c : PageCopy) (cs ds : List PageCopy) → IsAmong c cs → IsAmong c (cs ++ ds)
among_left c [] ds among = absurd among
among_left c (x ∷ xs) ds (inl is) = inl is
among_left c (x ∷ xs) ds (inr more) = inr (among_left c xs ds more)

pub among_last : (c : PageCopy) (cs : List PageCopy) → IsAmong c (cs ++ c ∷ [])
among_last c [] = inl refl
among_last c (x ∷ xs) = inr (among_last c xs)

pub some_left : (P : Entry → Type 0) (xs ys : List Entry) → SomeOf P xs → SomeOf P (xs ++ ys)
some_left P [] ys s = absurd s
some_left P (x ∷ xs) ys (inl is) = inl is
some_left P (x ∷ xs) ys (inr more) = inr (some_left P xs ys more)

pub some_right : (P : Entry → Type 0) (xs ys : List Entry) → SomeOf P ys → SomeOf P (xs ++ ys)
some_right P [] ys s = s
some_right P (x ∷ xs) ys s = inr (some_right P xs ys s)

pub some_more : (P Q : Entry → Type 0) → ((e : Entry) → P e → Q e) → (xs : List Entry) → SomeOf P xs → SomeOf Q xs
some_more P Q h [] s = absurd s
some_more P Q h (x ∷ xs) (inl is) = inl (h x is)
some_more P Q h (x ∷ xs) (inr more) = inr (some_more P Q h xs more)

pub all_both : (f : Entry → Bool) (xs ys : List Entry) → list_all f xs ≡ true → list_all f ys ≡ true → list_all f (xs ++ ys) ≡ true
all_both f [] ys h k = k
all_both f (x ∷ xs) ys h k = let both = both_true (f x) (list_all f xs) h in and_true (f x) (list_all f (xs ++ ys)) both.0 (all_both f xs ys both.1 k)

pub all_more : (f g : Entry → Bool) → ((e : Entry) → f e ≡ true → g e ≡ true) → (xs : List Entry) → list_all f xs ≡ true → list_all g xs ≡ true
all_more f g h [] all = refl
all_more f g h (x ∷ xs) all = let both = both_true (f x) (list_all f xs) all in and_true (g x) (list_all g xs) (h x both.0) (all_more f g h xs both.1)

pub each_of_all : (f : Entry → Bool) (P : Entry → Type 0) → ((e : Entry) → f e ≡ true → P e) → (xs : List Entry) → list_all f xs ≡ true → Each P xs
each_of_all f P h [] all = tt
each_of_all f P h (x ∷ xs) all = let both = both_true (f x) (list_all f xs) all in (h x both.0, each_of_all f P h xs both.1)
