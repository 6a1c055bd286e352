-- What a batch keeps ready, call by call.
use Rattle.std.proofs.Common.{Bool, true, false, true≢false, ◌&&◌, ⊎_elim, ◌≡◌, ◌⊎◌, ℕ, ◌+◌, ◌-◌, ◌*◌, ◌<◌, ◌≤◌, List, [], ◌∷◌, ◌++◌, length, take, drop, get_or, refl, sym, ◌∙◌, ap, subst, arith, append_assoc, length-append, length-take, length-drop}
use Rattle.std.specs.Prelude.{Option, None, Some, IfSome}
use Rattle.std.proofs.lemmas.List.{get_or-take, get_or_append_left}
use Rattle.std.proofs.Math.Seq.{get_or-append_seam}
use Rattle.std.proofs.lemmas.Option.{none-some}
use Rattle.std.proofs.lemmas.Bool.{leb-true}
use Rattle.log_blocks.specs.Log.{Block}
use Rattle.log_blocks.specs.Batch.{Filling, IsSized, AreSized, IsReady, IsSpare, Grows, Joins, block_in, in_open, begun, has_room, joins, joined}

pub sized_left : (xs ys : List Block) → AreSized (xs ++ ys) → AreSized xs
sized_left [] ys s = tt
sized_left (x ∷ xs) ys s = (s.0, sized_left xs ys s.1)

pub sized_right : (xs ys : List Block) → AreSized (xs ++ ys) → AreSized ys
sized_right [] ys s = s
sized_right (x ∷ xs) ys s = sized_right xs ys s.1

pub sized_join : (xs ys : List Block) → AreSized xs → AreSized ys → AreSized (xs ++ ys)
sized_join [] ys a b = b
sized_join (x ∷ xs) ys a b = (a.0, sized_join xs ys a.1 b)

-- the payload of the last block fits its header
pub last_fits : (closed : List Block) (last : Option Filling) → AreSized (closed ++ in_open last) → IfSome last (λ f. length f.payload < 4294967296)
last_fits closed None s = tt
last_fits closed (Some f) s = let here = (sized_right closed (block_in f ∷ []) s).0 in omega (arith, here.payload.1)

pub joins_last : (closed : List Block) (b : Block) (count size : ℕ) → joins (closed ++ b ∷ []) count size ≡ has_room b.count (length b.payload) count size
joins_last [] b count size = refl
joins_last (x ∷ []) b count size = refl
joins_last (x ∷ y ∷ ys) b count size = joins_last (y ∷ ys) b count size

pub joined_last : (closed : List Block) (b : Block) (count checkpoint : ℕ) (bytes : List ℕ)
    → joined (closed ++ b ∷ []) count checkpoint bytes ≡ closed ++ (record { first = b.first; checkpoint = checkpoint; count = b.count + count; payload = b.payload ++ bytes }) ∷ []
joined_last [] b count checkpoint bytes = refl
joined_last (x ∷ []) b count checkpoint bytes = refl
joined_last (x ∷ y ∷ ys) b count checkpoint bytes = ap (λ (l : List Block). x ∷ l) (joined_last (y ∷ ys) b count checkpoint bytes)

-- the last block grows in room alone
pub grown : (old new : Option Filling) → Grows old new → in_open new ≡ in_open old
grown None None g = refl
grown None (Some n) g = absurd g
grown (Some f) None g = absurd g
grown (Some f) (Some n) g = ap (λ (b : Block). b ∷ []) g.0

pub grown_none : (old new : Option Filling) → Grows old new → new ≡ None → old ≡ None
grown_none None new g none = refl
grown_none (Some f) None g none = absurd g
grown_none (Some f) (Some n) g none = absurd (none-some n (sym none))

and_both : (a b : Bool) → (a && b) ≡ true → (a ≡ true) × (b ≡ true)
and_both true b e = (refl, e)
and_both false b e = absurd (true≢false (sym e))

pub room_left : (records bytes count size : ℕ) → has_room records bytes count size ≡ true → (records + count ≤ 65535) × (bytes + size ≤ 4194304)
room_left records bytes count size e =
    let both = and_both _ _ e in
    (leb-true (records + count) 65535 both.0, leb-true (bytes + size) 4194304 both.1)

-- another block becomes the last
pub ready_next : (closed nodes closed2 nodes2 : List Block) (last last2 : Option Filling) (spares spares2 : List Filling) (next : Filling) → IsReady closed last nodes spares
    → last2 ≡ Some next → IsSized (block_in next) → closed2 ≡ closed ++ in_open last → length nodes2 ≡ length spares2 + 1 → 17 * length spares2 ≤ next.room
    → ((i : ℕ) (f : Filling) → i < length spares2 → IsSpare (i + 1) (get_or spares2 i f)) → length closed2 + length nodes2 < 9223372036854775808 → length spares2 ≤ 4294967296
    → IsReady closed2 last2 nodes2 spares2
ready_next closed nodes closed2 nodes2 last last2 spares spares2 next r is sized done nodes_is room buffers few spare =
    subst (λ (o : Option Filling). IsReady closed2 o nodes2 spares2) (sym is) (record {
      alone = λ none. absurd (none-some next (sym none));
      node_each = nodes_is;
      room = room;
      buffers = buffers;
      sized = sized_join closed2 (block_in next ∷ []) (subst AreSized (sym done) r.sized) (sized, tt);
      few = few;
      spare = spare;
    })

-- a buffer is taken from those that wait
pub buffers_left : (spares spares2 : List Filling) → ((i : ℕ) (f : Filling) → i < length spares → IsSpare (i + 1) (get_or spares i f)) → spares2 ≡ take (length spares - 1) spares
    → (i : ℕ) (f : Filling) → i < length spares2 → IsSpare (i + 1) (get_or spares2 i f)
buffers_left spares spares2 all is i f lt =
    let size = ap length is in
    let below : i < length spares - 1 = omega (arith, size, lt, length-take (length spares - 1) spares) in
    subst (IsSpare (i + 1)) (sym (ap (λ (l : List Filling). get_or l i f) is ∙ get_or-take (length spares - 1) spares i f below)) (all i f (omega arith))

-- a buffer joins those that wait
pub buffers_more : (spares spares2 : List Filling) (b : Filling) → ((i : ℕ) (f : Filling) → i < length spares → IsSpare (i + 1) (get_or spares i f)) → spares2 ≡ spares ++ b ∷ []
    → IsSpare (length spares + 1) b → (i : ℕ) (f : Filling) → i < length spares2 → IsSpare (i + 1) (get_or spares2 i f)
buffers_more spares spares2 b all is new i f lt =
    let size : length spares2 ≡ length spares + 1 = ap length is ∙ length-append spares (b ∷ []) in
    ⊎_elim
    (λ (below : i < length spares). subst (IsSpare (i + 1)) (sym (ap (λ (l : List Filling). get_or l i f) is ∙ get_or_append_left spares (b ∷ []) f i below)) (all i f below))
    (λ (at : length spares ≡ i). subst (λ n. IsSpare (n + 1) (get_or spares2 n f)) at (subst (IsSpare (length spares + 1)) (sym (ap (λ (l : List Filling). get_or l (length spares) f) is ∙ get_or-append_seam spares b [] f)) new))
    (below_or i (length spares) (omega (arith, size, lt)))
  where
    below_or : (i n : ℕ) → i < n + 1 → (i < n) ⊎ (n ≡ i)
    below_or i n lt = grind (arith, lt)

-- room for one more short record
pub ready_more : (closed nodes nodes2 : List Block) (last last2 : Option Filling) (spares spares2 : List Filling) (node : Block) (b : Filling) → IsReady closed last nodes spares
    → Grows last last2 → IfSome last2 (λ f. 17 * (length spares + 1) ≤ f.room) → nodes2 ≡ nodes ++ node ∷ [] → spares2 ≡ spares ++ b ∷ [] → IsSpare (length spares + 1) b
    → length closed + length nodes < 4611686018427387904 → length spares < 4294967296 → IsReady closed last2 nodes2 spares2
ready_more closed nodes nodes2 last last2 spares spares2 node b r g room nodes_is spares_is new few spare =
    let more : length spares2 ≡ length spares + 1 = ap length spares_is ∙ length-append spares (b ∷ []) in
    let nodes_more : length nodes2 ≡ length nodes + 1 = ap length nodes_is ∙ length-append nodes (node ∷ []) in
    let same = grown last last2 g in
    record {
      alone = λ none. r.alone (grown_none last last2 g none);
      node_each = omega (arith, more, nodes_more, ap length same, r.node_each);
      room = subst (λ n. IfSome last2 (λ f. 17 * n ≤ f.room)) (sym more) room;
      buffers = buffers_more spares spares2 b r.buffers spares_is new;
      sized = subst (λ (l : List Block). AreSized (closed ++ l)) (sym same) r.sized;
      few = omega (arith, few, nodes_more);
      spare = omega (arith, more, spare);
    }

-- the last block has grown, and nothing else
pub ready_grown : (closed nodes : List Block) (last last2 : Option Filling) (spares : List Filling) → IsReady closed last nodes spares → Grows last last2 → IsReady closed last2 nodes spares
ready_grown closed nodes None None spares r g = r
ready_grown closed nodes None (Some f) spares r g = absurd g
ready_grown closed nodes (Some f) None spares r g = absurd g
ready_grown closed nodes (Some f) (Some n) spares r g = record {
  alone = λ none. absurd (none-some n (sym none));
  node_each = r.node_each;
  room = omega (arith, r.room, g.1);
  buffers = r.buffers;
  sized = subst (λ (b : Block). AreSized (closed ++ b ∷ [])) (sym g.0) r.sized;
  few = r.few;
  spare = r.spare;
}

-- records have joined the last block
pub ready_joined : (closed nodes nodes2 : List Block) (last last2 : Option Filling) (spares spares2 : List Filling) (count checkpoint room : ℕ) (bytes : List ℕ) → IsReady closed last nodes spares
    → Joins count checkpoint bytes room last last2 → joins (closed ++ in_open last) count (length bytes) ≡ true → 17 * length spares2 ≤ room
    → (length (in_open last) ≡ 1 → length nodes2 ≡ length spares2 + 1) → ((i : ℕ) (f : Filling) → i < length spares2 → IsSpare (i + 1) (get_or spares2 i f)) → length closed + length nodes2 < 9223372036854775808 → length spares2 ≤ 4294967296
    → IsReady closed last2 nodes2 spares2
ready_joined closed nodes nodes2 None last2 spares spares2 count checkpoint room bytes r j takes enough nodes_is buffers few spare = absurd j
ready_joined closed nodes nodes2 (Some f) None spares spares2 count checkpoint room bytes r j takes enough nodes_is buffers few spare = absurd j
ready_joined closed nodes nodes2 (Some f) (Some n) spares spares2 count checkpoint room bytes r j takes enough nodes_is buffers few spare =
    let left = room_left f.count (length f.payload) count (length bytes) (sym (joins_last closed (block_in f) count (length bytes)) ∙ takes) in
    let old = (sized_right closed (block_in f ∷ []) r.sized).0 in
    let new : IsSized (begun (f.count + count) checkpoint (f.payload ++ bytes)) = record {
      count = (omega (arith, old.count.0), left.0);
      payload = (omega (arith, length-append f.payload bytes, old.payload.0), omega (arith, length-append f.payload bytes, left.1));
    } in
    record {
      alone = λ none. absurd (none-some n (sym none));
      node_each = nodes_is refl;
      room = omega (arith, enough, j.1);
      buffers = buffers;
      sized = sized_join closed (block_in n ∷ []) (sized_left closed (block_in f ∷ []) r.sized) (subst IsSized (sym j.0) new, tt);
      few = few;
      spare = spare;
    }

-- the blocks, once records have joined the last
pub blocks_joined : (closed : List Block) (last last2 : Option Filling) (count checkpoint room : ℕ) (bytes : List ℕ) → Joins count checkpoint bytes room last last2
    → closed ++ in_open last2 ≡ joined (closed ++ in_open last) count checkpoint bytes
blocks_joined closed None last2 count checkpoint room bytes j = absurd j
blocks_joined closed (Some f) None count checkpoint room bytes j = absurd j
blocks_joined closed (Some f) (Some n) count checkpoint room bytes j =
    ap (λ (b : Block). closed ++ b ∷ []) j.0 ∙ sym (joined_last closed (block_in f) count checkpoint bytes)

-- the block that records begin is within the limits
pub sized_new : (f g : Filling) (count checkpoint room : ℕ) (bytes : List ℕ) → g ≡ record { checkpoint = checkpoint; count = f.count + count; payload = f.payload ++ bytes; room = room }
    → f.count ≡ 0 → f.payload ≡ [] → (1 ≤ count) × (count ≤ 65535) → (1 ≤ length bytes) × (length bytes ≤ 4194304) → IsSized (block_in g)
sized_new f g count checkpoint room bytes is none empty counts sizes =
    let same : f.payload ++ bytes ≡ bytes = ap (λ (l : List ℕ). l ++ bytes) empty in
    subst (λ (x : Filling). IsSized (block_in x)) (sym is) (record {
      count = (omega (arith, none, counts.0), omega (arith, none, counts.1));
      payload = (omega (arith, ap length same, sizes.0), omega (arith, ap length same, sizes.1));
    })

-- all blocks of one batch behind those of another, with their last one open
pub ready_moved : (closed nodes closed2 nodes2 more kept : List Block) (last last2 : Option Filling) (spares spares2 : List Filling) (f : Filling)
    → IsReady closed last nodes spares → IsReady more (Some f) nodes2 spares2 → length spares ≡ 0 → last2 ≡ Some f
    → closed2 ≡ (closed ++ in_open last) ++ more → kept ≡ drop (length (in_open last)) nodes ++ take 1 nodes2
    → length (closed ++ in_open last) + length (more ++ block_in f ∷ []) < 9223372036854775808 → IsReady closed2 last2 kept spares
ready_moved closed nodes closed2 nodes2 more kept last last2 spares spares2 f r m zero is done nodes_is few =
    let len : length kept ≡ 1 = omega (arith, ap length nodes_is, length-append (drop (length (in_open last)) nodes) (take 1 nodes2), length-drop (length (in_open last)) nodes, length-take 1 nodes2, r.node_each, m.node_each, zero) in
    subst (λ (o : Option Filling). IsReady closed2 o kept spares) (sym is) (record {
      alone = λ none. absurd (none-some f (sym none));
      node_each = omega (arith, len, zero);
      room = omega (arith, zero);
      buffers = λ i g lt. absurd (omega (arith, lt, zero));
      sized = subst (λ (l : List Block). AreSized (l ++ block_in f ∷ [])) (sym done)
          (subst AreSized (sym (append_assoc (closed ++ in_open last) more (block_in f ∷ []))) (sized_join (closed ++ in_open last) (more ++ block_in f ∷ []) r.sized m.sized));
      few = omega (arith, ap length done, length-append (closed ++ in_open last) more, few, length-append more (block_in f ∷ []), len);
      spare = omega (arith, zero);
    })

-- a batch whose blocks have gone
pub ready_left : (more nodes nodes2 closed2 : List Block) (f : Filling) (last2 : Option Filling) (spares : List Filling) → IsReady more (Some f) nodes spares
    → closed2 ≡ [] → last2 ≡ None → nodes2 ≡ drop 1 nodes → IsReady closed2 last2 nodes2 spares
ready_left more nodes nodes2 closed2 f last2 spares r none is nodes_is =
    let len : length nodes2 ≡ length spares = omega (arith, ap length nodes_is, length-drop 1 nodes, r.node_each) in
    subst (λ (o : Option Filling). IsReady closed2 o nodes2 spares) (sym is) (record {
      alone = λ _. none;
      node_each = omega (arith, len);
      room = tt;
      buffers = r.buffers;
      sized = subst (λ (l : List Block). AreSized (l ++ [])) (sym none) tt;
      few = omega (arith, ap length none, len, r.spare);
      spare = r.spare;
    })

pub count_fits : (closed : List Block) (last last2 : Option Filling) (count size : ℕ) → Grows last last2 → joins (closed ++ in_open last) count size ≡ true → IfSome last2 (λ f. f.count + count < 65536)
count_fits closed None None count size g takes = tt
count_fits closed None (Some n) count size g takes = absurd g
count_fits closed (Some f) None count size g takes = absurd g
count_fits closed (Some f) (Some n) count size g takes =
    let left = room_left f.count (length f.payload) count size (sym (joins_last closed (block_in f) count size) ∙ takes) in
    omega (arith, left.0, ap (λ (b : Block). b.count) g.0)

pub grows_same : (last : Option Filling) → Grows last last
grows_same None = tt
grows_same (Some f) = (refl, omega arith)

-- after growth the records join what was there before it
pub joins_grown : (last last2 last3 : Option Filling) (count checkpoint room : ℕ) (bytes : List ℕ) → Grows last last2 → Joins count checkpoint bytes room last2 last3 → Joins count checkpoint bytes room last last3
joins_grown None None last3 count checkpoint room bytes g j = j
joins_grown None (Some n) last3 count checkpoint room bytes g j = absurd g
joins_grown (Some f) None last3 count checkpoint room bytes g j = absurd g
joins_grown (Some f) (Some n) None count checkpoint room bytes g j = absurd j
joins_grown (Some f) (Some n) (Some m) count checkpoint room bytes g j =
    (j.0 ∙ (λ i. begun ((g.0 i).count + count) checkpoint ((g.0 i).payload ++ bytes)), j.1)

-- room for all is room for a part
pub at_least : (last : Option Filling) (room part : ℕ) → IfSome last (λ f. room ≤ f.room) → part ≤ room → IfSome last (λ f. part ≤ f.room)
at_least None room part enough le = tt
at_least (Some f) room part enough le = omega (arith, enough, le)

pub less_room : (last : Option Filling) (room left size : ℕ) → IfSome last (λ f. room ≤ f.room) → left + size ≤ room → IfSome last (λ f. left + size ≤ f.room)
less_room None room left size enough le = tt
less_room (Some f) room left size enough le = omega (arith, enough, le)

-- the buffer that is taken
pub popped : (spares left : List Filling) (b : Filling) → ((i : ℕ) (f : Filling) → i < length spares → IsSpare (i + 1) (get_or spares i f)) → 1 ≤ length spares
    → spares ≡ left ++ b ∷ [] → IsSpare (length spares) b
popped spares left b all some is =
    let size : length spares ≡ length left + 1 = ap length is ∙ length-append left (b ∷ []) in
    let one : length left + 1 ≡ length spares = omega (arith, size) in
    let here = all (length left) b (omega (arith, size)) in
    subst (λ n. IsSpare n b) one (subst (IsSpare (length left + 1)) (ap (λ (l : List Filling). get_or l (length left) b) is ∙ get_or-append_seam left b [] b) here)
