-- A heap in which one element may be out of order, and the steps that mend it.
use Rattle.std.proofs.Common.{◌≡◌, ℕ, zero, suc, ◌+◌, ◌-◌, ◌*◌, ◌/◌, ◌<◌, ◌≤◌, Bool, true, false, List, length, get_or, ⊎_elim, arith}
use Rattle.std.proofs.lemmas.Bool.{cases_eq, both_ways}
use Rattle.queue.specs.Linear.{Linear}
use Rattle.queue.specs.Heap.{Heap, Edges}

-- What swapping a and b does to each place.
abbrev pub Places : {X : Type 0} → List X → List X → ℕ → ℕ → Type 0
Places {X} xs ys a b =
    ((d : X) → get_or ys a d ≡ get_or xs b d) × ((d : X) → get_or ys b d ≡ get_or xs a d)
    × ((k : ℕ) (d : X) → (k ≡ a → ⊥) → (k ≡ b → ⊥) → get_or ys k d ≡ get_or xs k d)

-- Only the element at place may come before its parent, and its parent precedes its children.
abbrev pub Rising : {X : Type 0} → (X → X → Bool) → List X → ℕ → Type 0
Rising {X} leb xs place =
    ((i j : ℕ) (d : X) → 2 * i < j → j ≤ 2 * i + 2 → j < length xs → (j ≡ place → ⊥) → leb (get_or xs i d) (get_or xs j d) ≡ true)
    × ((i j : ℕ) (d : X) → 2 * i < place → place ≤ 2 * i + 2 → 2 * place < j → j ≤ 2 * place + 2 → j < length xs → leb (get_or xs i d) (get_or xs j d) ≡ true)

-- Only the element at place may come after its children, and its parent precedes them.
abbrev pub Sinking : {X : Type 0} → (X → X → Bool) → List X → ℕ → Type 0
Sinking {X} leb xs place =
    ((i j : ℕ) (d : X) → 2 * i < j → j ≤ 2 * i + 2 → j < length xs → (i ≡ place → ⊥) → leb (get_or xs i d) (get_or xs j d) ≡ true)
    × ((i j : ℕ) (d : X) → 2 * i < place → place ≤ 2 * i + 2 → 2 * place < j → j ≤ 2 * place + 2 → j < length xs → leb (get_or xs i d) (get_or xs j d) ≡ true)

module _ {X : Type 0} {leb : X → X → Bool} (lin : Linear leb) where
  pub not_later : (a b : X) → leb a b ≡ false → leb b a ≡ true
  not_later a b n = ⊎_elim (λ e. absurd (both_ways (leb a b) n e)) (λ e. e) (lin.total a b)

  pub itself : (a : X) → leb a a ≡ true
  itself a = ⊎_elim (λ e. e) (λ e. e) (lin.total a a)

  pub root_least : (xs : List X) → Edges leb xs → (n k : ℕ) (d : X) → k ≤ n → k < length xs → leb (get_or xs 0 d) (get_or xs k d) ≡ true
  root_least xs edges zero k d b s = let e : k ≡ 0 = omega arith in let h = itself (get_or xs 0 d) in cc
  root_least xs edges (suc n) k d b s =
      ⊎_elim
      (λ (e : k ≡ 0). let h = itself (get_or xs 0 d) in cc)
      (λ (ne : k ≡ 0 → ⊥).
      lin.trans (get_or xs 0 d) (get_or xs ((k - 1) / 2) d) (get_or xs k d)
      (root_least xs edges n ((k - 1) / 2) d (omega arith) (omega arith))
      (edges ((k - 1) / 2) k d (omega arith) (omega arith) s))
      (cases_eq k 0)

pub heap_from_edges : {X : Type 0} (leb : X → X → Bool) (xs : List X) → Edges leb xs → Heap leb xs
heap_from_edges leb xs edges k d p s = edges ((k - 1) / 2) k d (omega arith) (omega arith) s

pub edges_from_heap : {X : Type 0} (leb : X → X → Bool) (xs : List X) → Heap leb xs → Edges leb xs
edges_from_heap leb xs heap i j d l h s = let e : (j - 1) / 2 ≡ i = omega arith in let t = heap j d (omega arith) s in cc

-- The last element rises by a step.
module _ {X : Type 0} {leb : X → X → Bool} (lin : Linear leb) (xs ys : List X) (p place : ℕ) (lo : 2 * p < place) (hi : place ≤ 2 * p + 2) (within : place < length xs) (long : length ys ≡ length xs) (swapped : Places xs ys p place) (less : (d : X) → leb (get_or xs place d) (get_or xs p d) ≡ true) (was : Rising leb xs place) where
  rise_edges : (i j : ℕ) (d : X) → 2 * i < j → j ≤ 2 * i + 2 → j < length ys → (j ≡ p → ⊥) → leb (get_or ys i d) (get_or ys j d) ≡ true
  rise_edges i j d l h s n =
      ⊎_elim
      (λ (e : j ≡ place). let q : i ≡ p = omega arith in let a = swapped.0 d in let b = swapped.1 d in let t = less d in cc)
      (λ (ne : j ≡ place → ⊥).
      let o = swapped.2 j d n ne in
      ⊎_elim
      (λ (e : i ≡ place). let b = swapped.1 d in let t = was.1 p j d lo hi (omega arith) (omega arith) (omega arith) in cc)
      (λ (me : i ≡ place → ⊥).
      ⊎_elim
      (λ (e : i ≡ p).
      let a = swapped.0 d in
      let t = lin.trans _ _ _ (less d) (was.0 p j d (omega arith) (omega arith) (omega arith) ne) in
      cc)
      (λ (pe : i ≡ p → ⊥). let a = swapped.2 i d pe me in let t = was.0 i j d l h (omega arith) ne in cc)
      (cases_eq i p))
      (cases_eq i place))
      (cases_eq j place)

  rise_over : (i j : ℕ) (d : X) → 2 * i < p → p ≤ 2 * i + 2 → 2 * p < j → j ≤ 2 * p + 2 → j < length ys → leb (get_or ys i d) (get_or ys j d) ≡ true
  rise_over i j d l h l' h' s =
      let a = swapped.2 i d (λ e. omega arith) (λ e. omega arith) in
      let t = was.0 i p d l h (omega arith) (λ e. omega arith) in
      ⊎_elim
      (λ (e : j ≡ place). let b = swapped.1 d in cc)
      (λ (ne : j ≡ place → ⊥).
      let b = swapped.2 j d (λ e. omega arith) ne in
      let u = lin.trans _ _ _ t (was.0 p j d l' h' (omega arith) ne) in
      cc)
      (cases_eq j place)

  pub rise_steps : Rising leb ys p
  rise_steps = (rise_edges, rise_over)

-- The first element sinks: where it rests, and a step.
module _ {X : Type 0} (leb : X → X → Bool) where
  pub sink_rests : Linear leb → (xs : List X) (place child : ℕ) → ((d : X) → leb (get_or xs place d) (get_or xs child d) ≡ true) → ((j : ℕ) (d : X) → 2 * place < j → j ≤ 2 * place + 2 → j < length xs → leb (get_or xs child d) (get_or xs j d) ≡ true) → Sinking leb xs place → Edges leb xs
  sink_rests lin xs place child fine least sinking i j d l h s =
      ⊎_elim
      (λ (e : i ≡ place). let t = lin.trans _ _ _ (fine d) (least j d (omega arith) (omega arith) s) in cc)
      (λ (ne : i ≡ place → ⊥). sinking.0 i j d l h s ne)
      (cases_eq i place)

module _ {X : Type 0} (leb : X → X → Bool) (xs ys : List X) (place c : ℕ) (lo : 2 * place < c) (hi : c ≤ 2 * place + 2) (within : c < length xs) (long : length ys ≡ length xs) (swapped : Places xs ys place c) (less : (d : X) → leb (get_or xs c d) (get_or xs place d) ≡ true) (least : (j : ℕ) (d : X) → 2 * place < j → j ≤ 2 * place + 2 → j < length xs → leb (get_or xs c d) (get_or xs j d) ≡ true) (was : Sinking leb xs place) where
  sink_edges : (i j : ℕ) (d : X) → 2 * i < j → j ≤ 2 * i + 2 → j < length ys → (i ≡ c → ⊥) → leb (get_or ys i d) (get_or ys j d) ≡ true
  sink_edges i j d l h s n =
      ⊎_elim
      (λ (e : i ≡ place).
      let a = swapped.0 d in
      ⊎_elim
      (λ (f : j ≡ c). let b = swapped.1 d in let t = less d in cc)
      (λ (nf : j ≡ c → ⊥). let b = swapped.2 j d (λ q. omega arith) nf in let t = least j d (omega arith) (omega arith) (omega arith) in cc)
      (cases_eq j c))
      (λ (ne : i ≡ place → ⊥).
      let a = swapped.2 i d ne n in
      ⊎_elim
      (λ (f : j ≡ place). let b = swapped.0 d in let t = was.1 i c d (omega arith) (omega arith) lo hi within in cc)
      (λ (nf : j ≡ place → ⊥). let b = swapped.2 j d nf (λ q. omega arith) in let t = was.0 i j d l h (omega arith) ne in cc)
      (cases_eq j place))
      (cases_eq i place)

  sink_over : (i j : ℕ) (d : X) → 2 * i < c → c ≤ 2 * i + 2 → 2 * c < j → j ≤ 2 * c + 2 → j < length ys → leb (get_or ys i d) (get_or ys j d) ≡ true
  sink_over i j d l h l' h' s =
      let e : i ≡ place = omega arith in
      let a = swapped.0 d in
      let b = swapped.2 j d (λ q. omega arith) (λ q. omega arith) in
      let t = was.0 c j d l' h' (omega arith) (λ q. omega arith) in
      cc

  pub sink_steps : Sinking leb ys c
  sink_steps = (sink_edges, sink_over)
