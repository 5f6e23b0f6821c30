-- Heap order, and what putting and taking do to a column.
use Rattle.std.specs.Prelude.{◌≡◌, ℕ, ◌+◌, ◌-◌, ◌*◌, ◌/◌, ◌<◌, ◌≤◌, Bool, true, ◌⊎◌, List, ◌∷◌, length, take, drop, Option, Result, slice_index_or}
use Rattle.std.specs.List.{AllByRecursion}
use Rattle.std.specs.List.Sorted.{IsPermutation}
use Rattle.std.specs.Result as results
use Rattle.std.specs.Option as options
use Rattle.queue.specs.declared.heap.Full.{Full}

-- Heap order: each element but the first comes no earlier than its parent, which for place k stands at (k - 1) / 2.
abbrev pub Heap : {X : Type 0} → (X → X → Bool) → List X → Type 0
Heap {X} leb xs = (k : ℕ) (d : X) → 0 < k → k < length xs → leb (slice_index_or xs ((k - 1) / 2) d) (slice_index_or xs k d) ≡ true

-- The same by edges: i is the parent of j where j is 2 i + 1 or 2 i + 2.
abbrev pub Edges : {X : Type 0} → (X → X → Bool) → List X → Type 0
Edges {X} leb xs = (i j : ℕ) (d : X) → 2 * i < j → j ≤ 2 * i + 2 → j < length xs → leb (slice_index_or xs i d) (slice_index_or xs j d) ≡ true

-- Heap order but for the last element.
abbrev pub Above : {X : Type 0} → (X → X → Bool) → List X → Type 0
Above {X} leb xs = (i j : ℕ) (d : X) → 2 * i < j → j ≤ 2 * i + 2 → j + 1 < length xs → leb (slice_index_or xs i d) (slice_index_or xs j d) ≡ true

-- Heap order but for the first element.
abbrev pub Below : {X : Type 0} → (X → X → Bool) → List X → Type 0
Below {X} leb xs = (i j : ℕ) (d : X) → 0 < i → 2 * i < j → j ≤ 2 * i + 2 → j < length xs → leb (slice_index_or xs i d) (slice_index_or xs j d) ≡ true

-- x was put into the queue of the first count elements of xs: ys is the column then, and n the answer.
pub record Added {X : Type 0} (leb : X → X → Bool) (xs : List X) (count : ℕ) (x : X) (ys : List X) (n : ℕ) : Type 0 where
  pub room : count < length xs
  pub answer : n ≡ count + 1
  pub long : length ys ≡ length xs
  pub contents : IsPermutation (x ∷ take count xs) (take (count + 1) ys)
  pub beyond : drop (count + 1) ys ≡ drop (count + 1) xs
  pub ordered : Heap leb (take count xs) → Heap leb (take (count + 1) ys)

abbrev pub Put : {X : Type 0} → (X → X → Bool) → List X → ℕ → X → List X → Result ℕ Full → Type 0
Put leb xs count x ys r = results.MatchResult r (λ n. Added leb xs count x ys n) (λ _. (length xs ≤ count) × (ys ≡ xs))

-- x was taken out of the queue of the first count elements of xs: ys is the column then.
pub record Removed {X : Type 0} (leb : X → X → Bool) (xs : List X) (count : ℕ) (ys : List X) (x : X) : Type 0 where
  pub some : 0 < count
  pub within : count ≤ length xs
  pub long : length ys ≡ length xs
  pub contents : IsPermutation (take count xs) (x ∷ take (count - 1) ys)
  pub freed : (d : X) → slice_index_or ys (count - 1) d ≡ x
  pub beyond : drop count ys ≡ drop count xs
  pub least : Heap leb (take count xs) → AllByRecursion (λ y. leb x y ≡ true) (take count xs)
  pub ordered : Heap leb (take count xs) → Heap leb (take (count - 1) ys)

abbrev pub Took : {X : Type 0} → (X → X → Bool) → List X → ℕ → List X → Option X → Type 0
Took leb xs count ys r = options.MatchOption r (((count ≡ 0) ⊎ (length xs < count)) × (ys ≡ xs)) (λ x. Removed leb xs count ys x)
