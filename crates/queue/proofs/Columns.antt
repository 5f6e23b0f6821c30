-- What putting and taking leave in a column, from what the sifts leave in its front.
use Rattle.std.proofs.Common.{◌≡◌, ℕ, zero, suc, ◌+◌, ◌-◌, ◌<◌, ◌≤◌, Bool, true, List, [], ◌∷◌, ◌++◌, length, get_or, take, drop, set, sym, refl, ap, ◌∙◌, subst, arith}
use Rattle.std.specs.List.{AllByRecursion}
use Rattle.std.specs.List.Sorted.{IsPermutation}
use Rattle.std.proofs.lemmas.List.{length-append, length-drop, length-set, length-take-le, length_push, take_at, take_more, take_more_set, drop_at, drop-set-lt, get_or_append_left, get_or-append_right, get_or-drop, get_or_read, get_or-take}
use Rattle.std.proofs.lemmas.Slice.{drop-append-drop}
use Rattle.std.proofs.lemmas.List.Edits.{swap_is}
use Rattle.std.proofs.ByRecursion.{All-from_get_or}
use Rattle.std.proofs.lemmas.List.Sorted.{IsPermutation-sym, IsPermutation-trans, IsPermutation-cons, IsPermutation-to_front, IsPermutation-swap, length_permutation}
use Rattle.queue.specs.Linear.{Linear}
use Rattle.queue.specs.Heap.{Heap, Edges, Above, Below, Added, Removed}
use Rattle.queue.proofs.Sifting.{Places, root_least, heap_from_edges, edges_from_heap}

pub take_of_set : {X : Type 0} (n : ℕ) (xs : List X) (i : ℕ) (y : X) → take n (set xs i y) ≡ set (take n xs) i y
take_of_set zero xs i y = refl
take_of_set (suc n) [] i y = refl
take_of_set (suc n) (x ∷ xs) zero y = refl
take_of_set (suc n) (x ∷ xs) (suc i) y = ap (λ l. x ∷ l) (take_of_set n xs i y)

above_push : {X : Type 0} (leb : X → X → Bool) (xs : List X) (x : X) → Heap leb xs → Above leb (xs ++ x ∷ [])
above_push leb xs x heap i j d l h s =
    let long = length_push xs x in
    let a = get_or_append_left xs (x ∷ []) d i (omega arith) in
    let b = get_or_append_left xs (x ∷ []) d j (omega arith) in
    let t = edges_from_heap leb xs heap i j d l h (omega arith) in
    cc

module _ {X : Type 0} (leb : X → X → Bool) (xs : List X) (count : ℕ) (x : X) (ys : List X) (room : count < length xs) (long : length ys ≡ count + 1) where
  pub added : IsPermutation (take (count + 1) (set xs count x)) ys → (Above leb (take (count + 1) (set xs count x)) → Edges leb ys) → Added leb xs count x (ys ++ drop (count + 1) (set xs count x)) (count + 1)
  added same mends =
      let zs = set xs count x in
      let front = take_at ys (drop (count + 1) zs) (count + 1) long in
      let pushed = take_more_set xs count x room in
      record {
        room = room;
        answer = refl;
        long = simp (length-append, length-drop, length-set) (omega arith);
        contents =
            rw front
            (IsPermutation-trans (x ∷ take count xs) (take count xs ++ x ∷ []) ys
            (IsPermutation-sym (take count xs ++ x ∷ []) (x ∷ take count xs) (IsPermutation-to_front (take count xs) x))
            (rw pushed at same));
        beyond = drop_at ys (drop (count + 1) zs) (count + 1) long ∙ drop-set-lt (count + 1) xs count x (omega arith);
        ordered = λ heap.
            rw front (heap_from_edges leb ys (mends (rw pushed (above_push leb (take count xs) x heap))));
      }

module _ {X : Type 0} (leb : X → X → Bool) (lin : Linear leb) (xs : List X) (count n : ℕ) (zs ys : List X) (r : X) (some : 0 < count) (within : count ≤ length xs) (is : n ≡ count - 1) (swapped : Places xs zs 0 n) (was : zs ≡ set (set xs 0 (get_or xs n r)) n (get_or xs 0 r)) (wide : length zs ≡ length xs) (long : length ys ≡ n) (read : r ≡ get_or xs 0 r) where
  one_more : count ≡ n + 1
  one_more = omega arith

  answered : (d : X) → r ≡ get_or zs n d
  answered d = get_or_read xs 0 r (omega arith) read d ∙ sym (swapped.1 d)

  front_swapped : IsPermutation (take count xs) (take count zs)
  front_swapped =
      let a : get_or (take count xs) n r ≡ get_or xs n r = get_or-take count xs n r (omega arith) in
      let b : get_or (take count xs) 0 r ≡ get_or xs 0 r = get_or-take count xs 0 r (omega arith) in
      let size : length (take count xs) ≡ count = length-take-le count xs within in
      let e : take count zs ≡ set (set (take count xs) 0 (get_or xs n r)) n (get_or xs 0 r) =
      ap (take count) was ∙ take_of_set count (set xs 0 (get_or xs n r)) n (get_or xs 0 r)
      ∙ ap (λ l. set l n (get_or xs 0 r)) (take_of_set count xs 0 (get_or xs n r)) in
      let f = swap_is (take count xs) 0 n r (omega arith) (omega arith) in
      IsPermutation-swap (take count xs) (take count zs) 0 n (omega arith) (omega arith)
      (e ∙ ap (λ y. set (set (take count xs) 0 y) n (get_or xs 0 r)) (sym a)
      ∙ ap (λ y. set (set (take count xs) 0 (get_or (take count xs) n r)) n y) (sym b) ∙ f)

  contents : IsPermutation (take n zs) ys → IsPermutation (take count xs) (r ∷ ys)
  contents same =
      let e : take count zs ≡ take n zs ++ r ∷ [] =
      ap (λ k. take k zs) one_more ∙ take_more zs n r (omega arith) ∙ ap (λ y. take n zs ++ y ∷ []) (sym (answered r)) in
      IsPermutation-trans (take count xs) (take n zs ++ r ∷ []) (r ∷ ys) (subst (IsPermutation (take count xs)) e front_swapped)
      (IsPermutation-trans (take n zs ++ r ∷ []) (r ∷ take n zs) (r ∷ ys) (IsPermutation-to_front (take n zs) r) (IsPermutation-cons r (take n zs) ys same))

  below : Heap leb (take count xs) → Below leb (take n zs)
  below heap i j d p l h s =
      let size : length (take n zs) ≡ n = length-take-le n zs (omega arith) in
      let size' : length (take count xs) ≡ count = length-take-le count xs within in
      let a = get_or-take n zs i d (omega arith) in
      let b = get_or-take n zs j d (omega arith) in
      let a' = get_or-take count xs i d (omega arith) in
      let b' = get_or-take count xs j d (omega arith) in
      let o = swapped.2 i d (λ e. omega arith) (λ e. omega arith) in
      let o' = swapped.2 j d (λ e. omega arith) (λ e. omega arith) in
      let t = edges_from_heap leb (take count xs) heap i j d l h (omega arith) in
      cc

  least : Heap leb (take count xs) → AllByRecursion (λ y. leb r y ≡ true) (take count xs)
  least heap =
      let first : get_or (take count xs) 0 r ≡ r = get_or-take count xs 0 r some ∙ sym read in
      All-from_get_or (λ y. leb r y ≡ true) (take count xs) r
      (λ i s. let t = root_least lin (take count xs) (edges_from_heap leb (take count xs) heap) i i r (omega arith) s in rw first at t)

  pub removed : IsPermutation (take n zs) ys → (Below leb (take n zs) → Edges leb ys) → Removed leb xs count (ys ++ drop n zs) r
  removed same mends =
      let front : take (count - 1) (ys ++ drop n zs) ≡ ys = take_at ys (drop n zs) (count - 1) (omega arith) in
      let size : length (ys ++ drop n zs) ≡ length xs = simp (length-append, length-drop) (omega arith) in
      record {
        some = some;
        within = within;
        long = size;
        contents = rw front (contents same);
        freed = λ d.
            rw (← is)
            (get_or-append_right ys (drop n zs) n n d long (omega arith) ∙ get_or-drop n zs (n - n) d
            ∙ ap (λ k. get_or zs k d) (omega arith) ∙ sym (answered d));
        beyond =
            drop-append-drop n zs ys count (omega arith) long
            ∙ ap (drop count) was ∙ drop-set-lt count (set xs 0 (get_or xs n r)) n (get_or xs 0 r) (omega arith)
            ∙ drop-set-lt count xs 0 (get_or xs n r) some;
        least = least;
        ordered = λ heap. rw front (heap_from_edges leb ys (mends (below heap)));
      }

-- The same where the front's length k is written another way; the length of what came of it follows.
part_long : {X : Type 0} (k : ℕ) (zs ys : List X) → k ≤ length zs → IsPermutation (take k zs) ys → length ys ≡ k
part_long k zs ys within same = length_permutation (take k zs) ys same ∙ length-take-le k zs within

pub added_part : {X : Type 0} (leb : X → X → Bool) (xs : List X) (count : ℕ) (x : X) (ys : List X) (k : ℕ) → k ≡ count + 1 → count < length xs → IsPermutation (take k (set xs count x)) ys → (Above leb (take k (set xs count x)) → Edges leb ys) → Added leb xs count x (ys ++ drop k (set xs count x)) (count + 1)
added_part leb xs count x ys k is room =
    let zs = set xs count x in
    let P : ℕ → Type 0 = λ k. IsPermutation (take k zs) ys → (Above leb (take k zs) → Edges leb ys) → Added leb xs count x (ys ++ drop k zs) (count + 1) in
    let wide = length-set xs count x in
    subst P (sym is) (λ same. added leb xs count x ys room (part_long (count + 1) zs ys (omega arith) same) same)

pub removed_part : {X : Type 0} (leb : X → X → Bool) → Linear leb → (xs : List X) (count : ℕ) (zs ys : List X) (r : X) (k : ℕ) → k ≡ count - 1 → 0 < count → count ≤ length xs → Places xs zs 0 (count - 1) → zs ≡ set (set xs 0 (get_or xs (count - 1) r)) (count - 1) (get_or xs 0 r) → length zs ≡ length xs → r ≡ get_or xs 0 r → IsPermutation (take k zs) ys → (Below leb (take k zs) → Edges leb ys) → Removed leb xs count (ys ++ drop k zs) r
removed_part leb lin xs count zs ys r k is some within swapped was wide read =
    let P : ℕ → Type 0 = λ k. IsPermutation (take k zs) ys → (Below leb (take k zs) → Edges leb ys) → Removed leb xs count (ys ++ drop k zs) r in
    subst P (sym is)
    (λ same. removed leb lin xs count (count - 1) zs ys r some within refl swapped was wide (part_long (count - 1) zs ys (omega arith) same) read same)
