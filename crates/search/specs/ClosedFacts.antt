-- The facts closed so far, in the columns that show them.
use Rattle.std.specs.Prelude.{◌≡◌, ℕ, List, Option, length, replicate}
use Rattle.measure.specs.Ops.{Ops}
use Rattle.sheet.specs.Slots.{Slot}
use Rattle.derivation.specs.Search.{no_reason, closed_count, taken_count}
use Rattle.search.specs.declared.closed.Closed.{Closed}
use Rattle.search.specs.Shown.{Shows, outcome}

-- The columns are the same references, as long as they were.
pub record SameClosed {W : Type 0} (before left : Closed W) : Type 0 where
  pub weights : left.weights.ghost_name ≡ before.weights.ghost_name
  pub reasons : left.reasons.ghost_name ≡ before.reasons.ghost_name
  pub order : left.order.ghost_name ≡ before.order.ghost_name
  pub long : length left.weights.now ≡ length before.weights.now

-- No fact is closed.
pub record NoneClosed {W : Type 0} (m : Ops W) (closed : Closed W) : Type 0 where
  pub weights : closed.weights.now ≡ replicate (length closed.weights.now) m.heaviest
  pub reasons : closed.reasons.now ≡ replicate (length closed.reasons.now) no_reason
  pub none : closed.count ≡ 0

-- The columns show the state that a search ends in.
abbrev pub ShowsEnd : {W : Type 0} → Ops W → List Slot → (ℕ → W) → Option ℕ → Closed W → Type 0
ShowsEnd m xs rest target closed =
    Shows m xs (outcome m xs rest target) closed.weights.now closed.reasons.now closed.order.now (closed_count (outcome m xs rest target)) (taken_count (outcome m xs rest target))
