-- How the columns show a state of the search.
use Rattle.std.specs.Prelude.{◌≡◌, ℕ, ◌+◌, ◌<◌, Bool, false, cond, not, List, [], ◌∷◌, map, reverse, length, take, Some, None, Ok, Err, count_by, Option, Result, ◌==◌, nat_eq, slice_index, slice_index_or}
use Rattle.std.specs.List.{AllByRecursion}
use Rattle.measure.specs.Ops.{Ops}
use Rattle.sheet.specs.declared.rule.Rule.{Rule}
use Rattle.sheet.specs.Slots.{Slot}
use Rattle.sheet.specs.declared.refusal.Refusal.{Refusal}
use Rattle.sheet.specs.declared.refusal.Refusal.TheVariants.{OutOfReach}
use Rattle.sheet.specs.Rules.{body_of}
use Rattle.sheet.specs.Slots.{rule_at}
use Rattle.derivation.specs.Search.{Closed, State, is_closed, weight_in, reason_in, no_reason, reached, final, closed_count, taken_count}
use Rattle.guide.specs.Weighted.{weighted}
use Rattle.search.specs.declared.columns.Counts.{Counts}

-- How many places of a body name the fact f, and how many are not closed.
abbrev pub occurs : ℕ → List ℕ → ℕ
occurs f [] = 0
occurs f (x ∷ xs) = cond (x == f) 1 0 + occurs f xs

abbrev pub unclosed : {W : Type 0} → List (Closed W) → List ℕ → ℕ
unclosed cs [] = 0
unclosed cs (x ∷ xs) = cond (is_closed cs x) 0 1 + unclosed cs xs

-- The open places of a rule; a struck rule has none.
abbrev pub open_places : {W : Type 0} → List (Closed W) → Rule → ℕ
open_places cs r = cond r.struck 0 (unclosed cs (body_of r))

-- The columns show the closed facts: their weights, their rules, and the rules in closing order.
pub record Shows {W : Type 0} (m : Ops W) (xs : List Slot) (s : State W) (weights : List W) (reasons order : List ℕ) (closed taken : ℕ) : Type 0 where
  pub weights_at : (f : ℕ) → slice_index_or weights f m.heaviest ≡ weight_in m s.closed f
  pub reasons_at : (f : ℕ) → slice_index_or reasons f no_reason ≡ reason_in s.closed f
  pub order_is : take closed order ≡ reverse (map (λ c. c.rule) s.closed)
  -- each closed fact is the head of its rule, which stands
  pub named : AllByRecursion (λ c. (c.rule < length xs) × ((rule_at xs c.rule).struck ≡ false) × ((rule_at xs c.rule).head ≡ c.fact)) s.closed
  pub closed_is : closed ≡ length s.closed
  pub taken_is : taken ≡ length s.taken

-- While the search runs: the open places, which facts have a reason, and how many have none.
pub record Running {W : Type 0} (xs : List Slot) (s : State W) (reasons missing : List ℕ) (closed : ℕ) : Type 0 where
  pub missing_at : (r : ℕ) → slice_index missing r ≡ open_places s.closed (rule_at xs r)
  pub closed_at : (f : ℕ) → is_closed s.closed f ≡ not (reason_in s.closed f == no_reason)
  pub free : closed + count_by (λ r. nat_eq r no_reason) reasons ≡ length reasons

-- Whether the fact is the target.
abbrev pub wanted : Option ℕ → ℕ → Bool
wanted None f = false
wanted (Some t) f = f == t

-- The state that the search of a sheet ends in.
unfoldable pub outcome : {W : Type 0} → Ops W → List Slot → (ℕ → W) → Option ℕ → State W
outcome m xs rest target = final m (weighted m xs) rest target

-- What the main loop answers: the counts, found or not.
abbrev pub run_answer : {W : Type 0} → Option ℕ → State W → Result Counts Refusal
run_answer target s =
    cond (reached target s) (Ok (record { closed = closed_count s; taken = taken_count s })) (Err (OutOfReach (closed_count s) (taken_count s)))
