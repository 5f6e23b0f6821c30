-- What folding promises, in the words of rules and facts.
use Rattle.std.specs.Prelude.{◌≡◌, ℕ, ◌<◌, ◌≤◌, true, false, cond, List, [], ◌∷◌, map, length, take, slice_index_or, None}
use Rattle.measure.specs.Ops.{Ops}
use Rattle.sheet.specs.Slots.{Slot, sheet, passes}
use Rattle.sheet.specs.Refusals.{Answer, accepted, refused, Told, a_fact}
use Rattle.sheet.specs.Rules.{Inference}
use Rattle.derivation.specs.Maps.{fold_rules}
use Rattle.guide.specs.Weighted.{weighted}
use Rattle.abstraction.specs.Fold.{group_of, folded}

-- An inference over groups instead of facts. A struck one is left alone.
abbrev pub fold_inference : (ℕ → ℕ) → Inference → Inference
fold_inference group a =
    cond a.struck a (record { head = group a.head; body = map group a.body; cost = a.cost; struck = false })

pub record Folds (xs : List Slot) (facts : ℕ) (groups : List ℕ) (n : ℕ) (before after : List Slot) (a : Answer (Unit {0})) : Type 0 where
  -- the second sheet begins with the rules of the passed one over groups, each under its number
  pub rules : a ≡ accepted tt → take (length xs) (sheet after) ≡ map (fold_inference (group_of groups)) (sheet xs)
  -- and has no others where the slot after them was empty
  pub alone : a ≡ accepted tt → slice_index_or before (length xs) None ≡ None → sheet after ≡ map (fold_inference (group_of groups)) (sheet xs)
  -- each of them is struck or names only groups below n
  pub names : a ≡ accepted tt → passes n (take (length xs) after) ≡ true
  -- each fact has one of the n groups
  pub grouped : a ≡ accepted tt → (f : ℕ) → f < facts → group_of groups f < n
  -- the fact that is told has none of them, and each lower one has
  pub lowest : (f : ℕ) → a ≡ refused 12 (a_fact f ∷ []) → (f < facts) × (n ≤ group_of groups f) × ((k : ℕ) → k < f → group_of groups k < n)
  -- a refusal changes nothing
  pub kept : (k : ℕ) (vs : List Told) → a ≡ refused k vs → after ≡ before

-- Under every measure, the slots that are written weigh what the slots that were read weigh, over groups.
abbrev pub FoldedWeighted : {W : Type 0} → Ops W → Type 0
FoldedWeighted m =
    (group : ℕ → ℕ) (xs second : List Slot) → weighted m (take (length xs) (folded group xs second)) ≡ fold_rules group (weighted m xs)
