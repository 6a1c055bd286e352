-- Laws of what is said of a list with the items before each one in sight.
use Rattle.std.proofs.Common.{◌≡◌, List, [], ◌∷◌, ◌++◌, sym, ap, subst, ◌∙◌, append_assoc}
use Rattle.std.proofs.lemmas.List.{append-nil}
use Rattle.store_model.specs.Along.{along_from, along, AllFrom, AllAlong}

module _ {A S : Type 0} where
  along_from_push : (step : List A → S → A → S) (before : List A) (s : S) (xs : List A) (x : A) → along_from step before s (xs ++ x ∷ []) ≡ step (before ++ xs) (along_from step before s xs) x
  along_from_push step before s [] x = ap (λ (b : List A). step b s x) (sym (append-nil before))
  along_from_push step before s (y ∷ ys) x =
      along_from_push step (before ++ y ∷ []) (step before s y) ys x
      ∙ ap (λ (b : List A). step b (along_from step (before ++ y ∷ []) (step before s y) ys) x) (append_assoc before (y ∷ []) ys)

  pub along_push : (step : List A → S → A → S) (s : S) (xs : List A) (x : A) → along step s (xs ++ x ∷ []) ≡ step xs (along step s xs) x
  unfolding along
  along_push step s xs x = along_from_push step [] s xs x

module _ {A : Type 0} where
  AllFrom_front : (P : List A → A → Type 0) (before xs : List A) (x : A) → AllFrom P before (xs ++ x ∷ []) → AllFrom P before xs × P (before ++ xs) x
  AllFrom_front P before [] x h = (tt, subst (λ (b : List A). P b x) (sym (append-nil before)) h.0)
  AllFrom_front P before (y ∷ ys) x h =
      let rest = AllFrom_front P (before ++ y ∷ []) ys x h.1 in
      ((h.0, rest.0), subst (λ (b : List A). P b x) (append_assoc before (y ∷ []) ys) rest.1)

  pub AllAlong_front : (P : List A → A → Type 0) (xs : List A) (x : A) → AllAlong P (xs ++ x ∷ []) → AllAlong P xs × P xs x
  unfolding AllAlong
  AllAlong_front P xs x h = AllFrom_front P [] xs x h

  AllFrom_back : (P : List A → A → Type 0) (before xs : List A) (x : A) → AllFrom P before xs → P (before ++ xs) x → AllFrom P before (xs ++ x ∷ [])
  AllFrom_back P before [] x h g = (subst (λ (b : List A). P b x) (append-nil before) g, tt)
  AllFrom_back P before (y ∷ ys) x h g = (h.0, AllFrom_back P (before ++ y ∷ []) ys x h.1 (subst (λ (b : List A). P b x) (sym (append_assoc before (y ∷ []) ys)) g))

  pub AllAlong_back : (P : List A → A → Type 0) (xs : List A) (x : A) → AllAlong P xs → P xs x → AllAlong P (xs ++ x ∷ [])
  unfolding AllAlong
  AllAlong_back P xs x h g = AllFrom_back P [] xs x h g

  AllFrom_less : (P : List A → A → Type 0) (before xs ys : List A) → AllFrom P before (xs ++ ys) → AllFrom P before xs
  AllFrom_less P before [] ys h = tt
  AllFrom_less P before (x ∷ xs) ys h = (h.0, AllFrom_less P (before ++ x ∷ []) xs ys h.1)

  pub AllAlong_less : (P : List A → A → Type 0) (xs ys : List A) → AllAlong P (xs ++ ys) → AllAlong P xs
  unfolding AllAlong
  AllAlong_less P xs ys h = AllFrom_less P [] xs ys h

  AllFrom_more : (P Q : List A → A → Type 0) → ((xs : List A) (x : A) → P xs x → Q xs x) → (before xs : List A) → AllFrom P before xs → AllFrom Q before xs
  AllFrom_more P Q h before [] a = tt
  AllFrom_more P Q h before (x ∷ xs) a = (h before x a.0, AllFrom_more P Q h (before ++ x ∷ []) xs a.1)

  pub AllAlong_more : (P Q : List A → A → Type 0) → ((xs : List A) (x : A) → P xs x → Q xs x) → (xs : List A) → AllAlong P xs → AllAlong Q xs
  unfolding AllAlong
  AllAlong_more P Q h xs a = AllFrom_more P Q h [] xs a

  from_end : (P : List A → Type 0) → ((xs : List A) (x : A) → P xs → P (xs ++ x ∷ [])) → (before xs : List A) → P before → P (before ++ xs)
  from_end P more before [] h = subst P (sym (append-nil before)) h
  from_end P more before (x ∷ xs) h = subst P (append_assoc before (x ∷ []) xs) (from_end P more (before ++ x ∷ []) xs (more before x h))

  -- an induction that adds items at the end
  pub by_pushes : (P : List A → Type 0) → P [] → ((xs : List A) (x : A) → P xs → P (xs ++ x ∷ [])) → (xs : List A) → P xs
  by_pushes P none more xs = from_end P more [] xs none
