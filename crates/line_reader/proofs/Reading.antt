-- A line that is read part by part.
use Rattle.std.proofs.Common.{◌≡◌, ◌+◌, ◌-◌, ◌<◌, ◌≤◌, ℕ, zero, suc, Bool, true, false, List, [], ◌∷◌, ◌++◌, Some, None, refl, sym, ap, subst, ◌∙◌, arith, inl, inr, ⊎_elim, append_assoc, append-nil, length, length-append, nat_le, take, drop, get_or, take-append-drop}
use Rattle.std.specs.Prelude.{Option, min, ◌||◌, if◌then◌else◌}
use Rattle.memchr.specs.Find.{IsFirstByte, is_byte}
use Rattle.std.proofs.Math.Seq.{take-length, drop-append_seam, drop-nil}
use Rattle.std.proofs.lemmas.List.{length-take, length-take-le, drop-take, drop_all}
use Rattle.std.proofs.lemmas.List.Folds.{list_any-append}
use Rattle.std.specs.Io.KnownBytes.{Consumes, IsAtEnd, prepend_known}
use Rattle.std.specs.Global.{Vec}
use Rattle.std.proofs.KnownBytes.{Consumes-trans}
use Rattle.std.proofs.lemmas.Bool.{leb-true, leb-false, cases_lt, eqb-true}
use Rattle.line_reader.specs.Lines.{Reader, to_come, has_end, is_end, longest_script, BeginsWithEnd, IsFront, IsNextEnd, GivesPart, TakesNext, ended}
use Rattle.line_reader.specs.declared.input.Next.TheVariants as nexts

-- ---- a part of a line

front_none : (bytes : List ℕ) (n : ℕ) → n ≤ length bytes → ((k : ℕ) → k < n → is_end (get_or bytes k 0) ≡ false) → has_end (take n bytes) ≡ false
front_none bytes zero l none = refl
front_none [] (suc n) l none = absurd (omega (arith, l))
front_none (b ∷ bytes) (suc n) l none = (λ i. none 0 (omega arith) i || has_end (take n bytes)) ∙ front_none bytes n (omega (arith, l)) (λ k less. none (suc k) (omega (arith, less)))

-- what doesn't end a line
is_none : (bytes : List ℕ) (k : ℕ) → (is_end (get_or bytes k 0) ≡ true → ⊥) → is_end (get_or bytes k 0) ≡ false
is_none bytes k not = by (is_end (get_or bytes k 0)) not
  where
    by : (b : Bool) → (b ≡ true → ⊥) → b ≡ false
    by true not = absurd (not refl)
    by false not = refl

-- no line end
pub no_end : (bytes : List ℕ) → IsFirstByte (is_byte 10) bytes None → IsFront bytes bytes false
no_end bytes none = record {
  rest = [];
  whole = sym (append-nil bytes);
  one = ap has_end (sym (take-length bytes)) ∙ front_none bytes (length bytes) (omega arith) (λ k less. is_none bytes k (none k (omega arith) less));
  next = refl;
}

-- a line end at this place
pub an_end : (bytes : List ℕ) (i : ℕ) → IsFirstByte (is_byte 10) bytes (Some i) → IsFront bytes (take i bytes) true
an_end bytes i (first, is) = record {
  rest = drop i bytes;
  whole = sym (take-append-drop i bytes);
  one = front_none bytes i (omega (arith, first.high)) (λ k less. is_none bytes k (first.before k (omega arith) less));
  next = (drop (suc i) bytes, here bytes i first.high is);
}
  where
    here : (bytes : List ℕ) (i : ℕ) → i < length bytes → is_end (get_or bytes i 0) ≡ true → drop i bytes ≡ 10 ∷ drop (suc i) bytes
    here [] i l is = absurd (omega (arith, l))
    here (b ∷ bytes) zero l is = ap (λ (x : ℕ). x ∷ bytes) (eqb-true b 10 is)
    here (b ∷ bytes) (suc i) l is = here bytes i (omega (arith, l)) is

-- the first pending bytes are gone
pub skipped : (r : Reader) (items : List ℕ) (from upto count : ℕ) → take (upto - from) (drop from items) ≡ r.pending → count ≤ length r.pending → take (upto - (from + count)) (drop (from + count) items) ≡ drop count r.pending
skipped r items from upto count is few =
    let size : upto - from ≡ count + (upto - (from + count)) = omega (arith, few, ap length is, length-take-most (upto - from) (drop from items)) in
    ap (take (upto - (from + count))) (drop_more from count items) ∙ sym (drop-take count (upto - (from + count)) (drop from items)) ∙ ap (λ (n : ℕ). drop count (take n (drop from items))) (sym size) ∙ ap (drop count) is
  where
    length-take-most : (n : ℕ) (xs : List ℕ) → length (take n xs) ≤ n
    length-take-most n xs = omega (arith, length-take n xs)

    drop_more : (from count : ℕ) (xs : List ℕ) → drop (from + count) xs ≡ drop count (drop from xs)
    drop_more zero count xs = let same : 0 + count ≡ count = omega arith in ap (λ (n : ℕ). drop n xs) same
    drop_more (suc n) count [] = drop-nil (suc n + count) ∙ sym (drop-nil count)
    drop_more (suc n) count (x ∷ xs) = let next : suc n + count ≡ suc (n + count) = omega arith in ap (λ (k : ℕ). drop k (x ∷ xs)) next ∙ drop_more n count xs

-- the pending bytes before the first line end, of so many
pub gives : (old new : Reader) (before after part : List ℕ) (k most : ℕ) (ends : Bool) → after ≡ before ++ part → IsFront (take k old.pending) part ends → k ≡ min (length old.pending) most → new.pending ≡ drop (length part) old.pending → new.taken ≡ old.taken + length part
    → GivesPart old new before after most ends
gives old new before after part k most ends line front size pending taken = record {
  part = part;
  line = line;
  pending = whole ∙ ap (λ (x : List ℕ). part ++ x) (sym left);
  one = front.one;
  bound = omega (arith, within, size);
  taken = taken;
  next = by ends front.next;
}
  where
    behind : List ℕ
    behind = front.rest ++ drop k old.pending

    whole : old.pending ≡ part ++ behind
    whole = sym (take-append-drop k old.pending) ∙ ap (λ (x : List ℕ). x ++ drop k old.pending) front.whole ∙ append_assoc part front.rest (drop k old.pending)

    left : new.pending ≡ behind
    left = pending ∙ ap (drop (length part)) whole ∙ drop-append_seam part behind

    within : length part + length front.rest ≡ k
    within = sym (length-append part front.rest) ∙ ap length (sym front.whole) ∙ length-take-le k old.pending (omega (arith, size))

    by : (ends : Bool) → BeginsWithEnd ends front.rest → IsNextEnd ends (length part) most new.pending
    by true (more, is) = (more ++ drop k old.pending, left ∙ ap (λ (x : List ℕ). x ++ drop k old.pending) is)
    by false is = ⊎_elim
        (λ all. inr (left ∙ (λ i. is i ++ drop k old.pending) ∙ drop_all k old.pending (omega (arith, size, all))))
        (λ full. inl (omega (arith, within, ap length is, size, full)))
        (cases_lt (length old.pending) most)

-- ---- a line, part by part

-- a reader is filled behind a part of a line
pub filled : (old mid new : Reader) (lo lm ln : Option (List ℕ)) (line : List ℕ) → Consumes (to_come old lo) (to_come mid lm) line → Consumes (to_come mid lm) (to_come new ln) [] → Consumes (to_come old lo) (to_come new ln) line
filled old mid new lo lm ln line took more = subst (Consumes (to_come old lo) (to_come new ln)) (append-nil line) (Consumes-trans _ _ _ line [] took more)

-- a part of what is pending is taken
pub parted : (old new : Reader) (left : Option (List ℕ)) (part : List ℕ) → old.pending ≡ part ++ new.pending → Consumes (to_come old left) (to_come new left) part
parted old new None part e = tt
parted old new (Some bytes) part e = ap (λ (x : List ℕ). x ++ bytes) e ∙ append_assoc part new.pending bytes

-- a reader is filled, and gives a line a part
pub more : (old at mid new : Reader) (lo la ln : Option (List ℕ)) (line line' : List ℕ) (most : ℕ) (ends : Bool) → Consumes (to_come old lo) (to_come at la) line → Consumes (to_come at la) (to_come mid ln) [] → GivesPart mid new line line' most ends → Consumes (to_come old lo) (to_come new ln) line'
more old at mid new lo la ln line line' most ends took filled_again p =
    subst (Consumes (to_come old lo) (to_come new ln)) (sym p.line) (Consumes-trans _ _ _ line p.part (filled old at mid lo la ln line took filled_again) (parted mid new ln p.part p.pending))

-- the line's end is taken off
pub end_off : (mid got : Reader) (ends : Bool) (size most : ℕ) → ends ≡ true → IsNextEnd ends size most mid.pending → got.pending ≡ drop 1 mid.pending → mid.pending ≡ (10 ∷ []) ++ got.pending
end_off mid got true size most e (more, is) left = is ∙ ap (λ (x : List ℕ). 10 ∷ x) (sym (left ∙ ap (drop 1) is))
end_off mid got false size most e next left = absurd cc

-- a line has a part more
pub one_more : (line part : List ℕ) → has_end line ≡ false → has_end part ≡ false → has_end (line ++ part) ≡ false
one_more line part a b = list_any-append is_end line part ∙ (λ i. a i || b i)

-- the script has no more
pub too_long : (old mid new : Reader) (lo lm ln : Option (List ℕ)) (line : List ℕ) → Consumes (to_come old lo) (to_come mid lm) line → Consumes (to_come mid lm) (to_come new ln) [] → has_end line ≡ false → new.taken ≡ old.taken + length line → longest_script < new.taken
    → TakesNext old new lo ln nexts.Bad
too_long old mid new lo lm ln line took more one size much = (line, filled old mid new lo lm ln line took more, inr (inl one, omega (arith, size, much)), size)

-- the line is too long
pub too_many : (old new : Reader) (lo ln : Option (List ℕ)) (line : List ℕ) → Consumes (to_come old lo) (to_come new ln) line → has_end line ≡ false → new.taken ≡ old.taken + length line → 2048 ≤ length line → TakesNext old new lo ln nexts.Bad
too_many old new lo ln line took one size many = (line, took, inl (one, inl many), size)

-- the input ends behind these bytes of a line
pub at_end : (old mid new : Reader) (lo lm ln : Option (List ℕ)) (line : List ℕ) → Consumes (to_come old lo) (to_come mid lm) line → Consumes (to_come mid lm) (to_come new ln) [] × IsAtEnd (to_come new ln)
    → has_end line ≡ false → new.taken ≡ old.taken + length line → TakesNext old new lo ln (ended line)
at_end old mid new lo lm ln [] took last one size = (Consumes-trans _ _ _ [] [] took last.0, last.1, omega (arith, size))
at_end old mid new lo lm ln (b ∷ bs) took last one size =
    (b ∷ bs, subst (Consumes (to_come old lo) (to_come new ln)) (append-nil (b ∷ bs)) (Consumes-trans _ _ _ (b ∷ bs) [] took last.0), inl (one, inr (omega arith, last.1)), size)

-- the line's end is taken
pub at_line : (old mid got new : Reader) (lo lm ln : Option (List ℕ)) (line : Vec ℕ) (b : ℕ) → Consumes (to_come old lo) (to_come mid lm) line.items → Consumes (to_come mid lm) (to_come got ln) (b ∷ []) → b ≡ 10
    → has_end line.items ≡ false → length line.items < 2048 → got.taken ≡ old.taken + length line.items + 1 → new.pending ≡ got.pending → new.taken ≡ got.taken → new.lines ≡ (if nat_le got.taken longest_script then old.lines + 1 else old.lines)
    → TakesNext old new lo ln (if nat_le got.taken longest_script then nexts.Line line else nexts.Bad)
at_line old mid got new lo lm ln line b took last is one short taken pending same lines = by (nat_le got.taken longest_script) refl lines
  where
    end : Consumes (to_come mid lm) (to_come new ln) (10 ∷ [])
    end = subst (λ (p : List ℕ). Consumes (to_come mid lm) (prepend_known p ln) (10 ∷ [])) (sym pending) (subst (λ (x : ℕ). Consumes (to_come mid lm) (to_come got ln) (x ∷ [])) is last)

    whole : Consumes (to_come old lo) (to_come new ln) (line.items ++ 10 ∷ [])
    whole = Consumes-trans _ _ _ line.items (10 ∷ []) took end

    by : (c : Bool) → nat_le got.taken longest_script ≡ c → new.lines ≡ (if c then old.lines + 1 else old.lines) → TakesNext old new lo ln (if c then nexts.Line line else nexts.Bad)
    by true e lines = (whole, record { one = one; short = short }, same ∙ taken, omega (arith, leb-true _ _ e, same), lines)
    by false e lines = (line.items ++ 10 ∷ [], whole, inr (inr (line.items, refl, one), omega (arith, leb-false _ _ e, taken, length-append line.items (10 ∷ []))), omega (arith, same, taken, length-append line.items (10 ∷ [])))
