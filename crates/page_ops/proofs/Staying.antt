-- A page stays as it is while its head does: each record that names it raises its head.
use Rattle.std.proofs.Common.{◌≡◌, ℕ, Bool, true, false, cond, List, [], ◌∷◌, ◌++◌, Option, Some, refl, sym, ap, ◌∙◌, arith, append_assoc, append-nil, length-append}
use Rattle.std.specs.Prelude.{◌≤◌, ◌+◌, length}
use mathlib.Core.List.{IsPrefix}
use Rattle.wal_record.specs.Chains.{names, head}
use Rattle.wal_record.specs.History.{log_of, life_log}
use Rattle.wal_record.specs.Images.{applied, image}
use Rattle.wal_record.specs.declared.page.PageState.{PageState}
use Rattle.wal_record.specs.declared.record.Record.{Record}
use Rattle.wal_record.specs.declared.entry.Entry.{Entry}
use Rattle.wal_record.specs.declared.entry.Entry.TheVariants.{Rec}
use Rattle.wal_record.proofs.Along.{by_pushes}
use Rattle.wal_record.proofs.Pushes.{head_push, image_push}
use Rattle.page_ops.specs.Claims.{PageAgrees}
use Rattle.page_ops.specs.Hands.{Hand, IsInHand}
use Rattle.store_model.specs.Along.{along}

no_head : (p : ℕ) → head [] p ≡ 0
unfolding head along
no_head p = refl

head_step : (n h : ℕ) (b : Bool) → h ≤ n → cond b (n + 1) h ≤ n + 1
head_step n h true e = omega arith
head_step n h false e = omega (arith, e)

head_in : (p : ℕ) (log : List Record) → head log p ≤ length log
head_in p = by_pushes (λ (log : List Record). head log p ≤ length log) (let e = no_head p in omega (arith, e)) (λ log r before.
    let step = head_step (length log) (head log p) (names p r) before in
    let n : length (log ++ r ∷ []) ≡ length log + 1 = length-append log (r ∷ []) in
    let e = head_push log r p in
    omega (arith, step, n, e))

-- a record that leaves the head as it was doesn't name the page
unnamed : (b : Bool) (n h most : ℕ) (x i first : Option PageState) → most ≤ n → cond b (n + 1) h ≡ most → (h ≡ most → i ≡ first) → cond b x i ≡ first
unnamed true n h most x i first within same before = absurd (omega (arith, within, same))
unnamed false n h most x i first within same before = before same

pub same_image : (log : List Record) (p : ℕ) (rest : List Record) → head (log ++ rest) p ≡ head log p → image (log ++ rest) p ≡ image log p
same_image log p = by_pushes (λ (rest : List Record). head (log ++ rest) p ≡ head log p → image (log ++ rest) p ≡ image log p)
    (λ _. ap (λ (l : List Record). image l p) (append-nil log))
    (λ rest r before same.
    let longer : (log ++ rest) ++ r ∷ [] ≡ log ++ (rest ++ r ∷ []) = append_assoc log rest (r ∷ []) in
    let within : head log p ≤ length (log ++ rest) = let e = head_in p log in let n = length-append log rest in omega (arith, e, n) in
    let heads : cond (names p r) (length (log ++ rest) + 1) (head (log ++ rest) p) ≡ head log p = sym (head_push (log ++ rest) r p) ∙ ap (λ (l : List Record). head l p) longer ∙ same in
    ap (λ (l : List Record). image l p) (sym longer) ∙ image_push (log ++ rest) r p
    ∙ unnamed (names p r) (length (log ++ rest)) (head (log ++ rest) p) (head log p) (applied r p (image (log ++ rest) p)) (image (log ++ rest) p) (image log p) within heads before)

log_of_both : (h t : List Entry) → log_of (h ++ t) ≡ log_of h ++ log_of t
log_of_both [] t = refl
log_of_both (Rec lsn r ∷ es) t = ap (λ (rs : List Record). r ∷ rs) (log_of_both es t)
log_of_both (_ ∷ es) t = log_of_both es t

pub longer_log : (opening : List Record) (h t : List Entry) → life_log opening (h ++ t) ≡ life_log opening h ++ log_of t
longer_log opening h t = ap (λ (l : List Record). opening ++ l) (log_of_both h t) ∙ sym (append_assoc opening (log_of h) (log_of t))

-- A page in hand is its image in each later history with which its right agrees.
pub image_later : (opens : List Record → Type 0) (x : Hand) (h : List Entry) → IsInHand opens x → IsPrefix x.pass.log h → PageAgrees opens h (record { page = x.page; lsn = x.lsn })
    → (opening : List Record) → opens opening → image (life_log opening h) x.page ≡ Some x.state
image_later opens x h hand begins agrees opening stands =
    let first = life_log opening x.pass.log in
    let more = log_of begins.0 in
    let is : first ++ more ≡ life_log opening h = sym (longer_log opening x.pass.log begins.0) ∙ ap (life_log opening) begins.1 in
    let same : head (first ++ more) x.page ≡ head first x.page = ap (λ (l : List Record). head l x.page) is ∙ sym (agrees opening stands) ∙ hand.head opening stands in
    ap (λ (l : List Record). image l x.page) (sym is) ∙ same_image first x.page more same ∙ hand.image opening stands
