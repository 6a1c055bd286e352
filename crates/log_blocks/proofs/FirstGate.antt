-- The first gate of an empty log.
use Rattle.std.proofs.Common.{◌≡◌, inl, ⊎_elim, ℕ, ◌+◌, ◌-◌, ◌<◌, ◌≤◌, List, [], ◌∷◌, ◌++◌, length, take, drop, refl, sym, ◌∙◌, ap, subst, arith, length-append}
use Rattle.std.proofs.lemmas.List.{drop_all, append-nil}
use Rattle.media.specs.Kept.{Kept, Torn, written}
use Rattle.log_blocks.specs.Log.{Block, Behind, StandsFor, StandsForMore, StandsForSome, blocks}

-- a short disk is an empty log
pub short_is : (bs : List Block) (k : Kept) → StandsFor bs k → length k.bytes ≤ 1 → bs ≡ []
short_is [] k s short = refl
short_is (b ∷ bs) k s short = ⊎_elim (λ one. one.1) (λ (h : Behind k.start (blocks (b ∷ bs)) k). absurd (omega (arith, ap length h.bytes, length-append (blocks (b ∷ bs)) (h.gate ∷ h.rest), short))) s.bytes

pub empty_log : (k : Kept) → length k.bytes ≤ 1 → StandsFor [] k
empty_log k short = record { sequence = record { from_one = λ _. refl; run = tt }; bytes = inl (short, refl) }

pub torn_first : (bs : List Block) (k c : Kept) (at : ℕ) → at ≡ k.start → length k.bytes ≤ 1 → StandsFor bs k → Torn at 1 k c → StandsFor bs c
torn_first bs k c at place short s torn =
    subst (λ (l : List Block). StandsFor l c) (sym (short_is bs k s short)) (empty_log c (omega (arith, torn.no_longer, place, short)))

pub written_first : (start at : ℕ) (bs : List Block) (k c : Kept) → k.start ≡ start → at ≡ start → length k.bytes ≤ 1 → StandsFor bs k → c ≡ written k at (0 ∷ []) → Behind start (blocks bs) c
written_first start at bs k c from place short s done =
    let none : at - k.start ≡ 0 = omega (arith, from, place) in
    let rest : drop (at - k.start + 1) k.bytes ≡ [] = drop_all (at - k.start + 1) k.bytes (omega (arith, short)) in
    let whole : c.bytes ≡ 0 ∷ [] = ap (λ (d : Kept). d.bytes) done ∙ ap (λ (n : ℕ). (take n k.bytes ++ 0 ∷ []) ++ drop (at - k.start + 1) k.bytes) none ∙ ap (λ (l : List ℕ). ([] ++ 0 ∷ []) ++ l) rest in
    record {
      from = ap (λ (d : Kept). d.start) done ∙ from;
      gate = 0;
      rest = [];
      bytes = whole ∙ ap (λ (l : List Block). blocks l ++ 0 ∷ []) (sym (short_is bs k s short));
      closed = omega arith;
    }

pub long_behind : (start : ℕ) (bs : List Block) (k : Kept) → k.start ≡ start → 1 < length k.bytes → StandsFor bs k → Behind start (blocks bs) k
long_behind start bs k from long s = ⊎_elim (λ one. absurd (omega (arith, one.0, long))) (λ h. subst (λ n. Behind n (blocks bs) k) from h) s.bytes

pub some_none : (bs pending : List Block) (c : Kept) → StandsFor bs c → StandsForSome bs pending c
some_none bs pending c s = record { whole = 0; within = omega arith; stands = subst (λ (l : List Block). StandsFor l c) (sym (append-nil bs)) s }

pub more_none : (bs pending : List Block) (c : Kept) → StandsFor bs c → StandsForMore bs pending 0 c
more_none bs pending c s = record { whole = 0; no_fewer = omega arith; within = omega arith; stands = subst (λ (l : List Block). StandsFor l c) (sym (append-nil bs)) s }
