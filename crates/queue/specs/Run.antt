-- Runs of puts and takes from an empty queue, judged by what was put in and not yet taken out.
use Rattle.std.specs.Prelude.{◌≡◌, ℕ, ◌<◌, ◌≤◌, Bool, true, List, [], ◌∷◌, ◌++◌, length, take, drop, Result, slice_index_or}
use Rattle.std.specs.List.{ContainsAt as Has, AllByRecursion}
use Rattle.std.specs.List.Sorted.{IsPermutation}
use Rattle.std.specs.Result as results
use Rattle.queue.specs.declared.run.Op.{Op}
use Rattle.queue.specs.declared.run.Op.TheVariants.{Put, Take}
use Rattle.queue.specs.declared.run.Reply.{Reply}
use Rattle.queue.specs.declared.run.Reply.TheVariants.{Added, Refused, Taken, Empty}
use Rattle.queue.specs.declared.run.Short.{Short}
use Rattle.queue.specs.Heap.{Heap}

-- The element that one put has put in, if its reply says so.
abbrev pub entered : {X : Type 0} → Op X → Reply X → List X
entered (Put x) Added = x ∷ []
entered (Put x) Refused = []
entered (Put x) (Taken y) = []
entered (Put x) Empty = []
entered Take Added = []
entered Take Refused = []
entered Take (Taken y) = []
entered Take Empty = []

-- All elements put in, and all taken out, in their order.
abbrev pub put_in : {X : Type 0} → List (Op X) → List (Reply X) → List X
put_in [] rs = []
put_in (o ∷ os) [] = []
put_in (o ∷ os) (r ∷ rs) = entered o r ++ put_in os rs

abbrev pub left : {X : Type 0} → Reply X → List X
left Added = []
left Refused = []
left (Taken x) = x ∷ []
left Empty = []

abbrev pub taken_out : {X : Type 0} → List (Reply X) → List X
taken_out [] = []
taken_out (r ∷ rs) = left r ++ taken_out rs

-- held is what was put in and not yet taken out, in some order, each as often.
abbrev pub Holds : {X : Type 0} → List (Op X) → List (Reply X) → List X → Type 0
Holds ops replies held = IsPermutation (put_in ops replies) (taken_out replies ++ held)

-- The right reply where held is in the queue and room is the column's length:
-- a put is refused exactly when no room is left, and a take answers a least element, or that there is none.
abbrev pub Right : {X : Type 0} → (X → X → Bool) → ℕ → List X → Op X → Reply X → Type 0
Right leb room held (Put x) Added = length held < room
Right leb room held (Put x) Refused = room ≤ length held
Right leb room held (Put x) (Taken y) = ⊥
Right leb room held (Put x) Empty = ⊥
Right leb room held Take Added = ⊥
Right leb room held Take Refused = ⊥
Right leb room held Take (Taken x) = Has held x × AllByRecursion (λ y. leb x y ≡ true) held
Right leb room held Take Empty = held ≡ []

-- Each of the first n replies is right, given what was put in and not yet taken out before it.
abbrev pub RightUntil : {X : Type 0} → (X → X → Bool) → ℕ → List (Op X) → List (Reply X) → ℕ → Type 0
RightUntil {X} leb room ops replies n =
    (i : ℕ) → i < n → (held : List X) × Holds (take i ops) (take i replies) held × Right leb room held (slice_index_or ops i Take) (slice_index_or replies i Empty)

-- A run that was made: the replies written, the queue ys that it leaves, and n, the number of elements in it.
pub record Made {X : Type 0} (leb : X → X → Bool) (ops : List (Op X)) (xs : List X) (before : List (Reply X)) (ys : List X) (replies : List (Reply X)) (n : ℕ) : Type 0 where
  pub enough : length ops ≤ length before
  pub right : RightUntil leb (length xs) ops replies (length ops)
  pub holds : Holds ops (take (length ops) replies) (take n ys)
  pub ordered : Heap leb (take n ys)
  pub within : n ≤ length ys
  pub wide : length ys ≡ length xs
  pub long : length replies ≡ length before
  pub beyond : drop (length ops) replies ≡ drop (length ops) before

abbrev pub Ran : {X : Type 0} → (X → X → Bool) → List (Op X) → List X → List (Reply X) → List X → List (Reply X) → Result ℕ Short → Type 0
Ran leb ops xs before ys replies r =
    results.MatchResult r (λ n. Made leb ops xs before ys replies n) (λ _. (length before < length ops) × (ys ≡ xs) × (replies ≡ before))

-- One put or take, on a queue of count elements in heap order.
abbrev pub Ready : {X : Type 0} → (X → X → Bool) → List X → ℕ → Type 0
Ready leb xs count = (count ≤ length xs) × Heap leb (take count xs)

pub record Step {X : Type 0} (leb : X → X → Bool) (op : Op X) (xs : List X) (count : ℕ) (ys : List X) (reply : Reply X) (n : ℕ) : Type 0 where
  pub right : Right leb (length xs) (take count xs) op reply
  pub contents : IsPermutation (take count xs ++ entered op reply) (left reply ++ take n ys)
  pub ready : Ready leb ys n
  pub wide : length ys ≡ length xs
