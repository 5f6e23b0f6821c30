-- The weighted rules that a column of slots gives.
use Rattle.std.specs.Prelude.{true, List, [], map}
use Rattle.measure.specs.Ops.{Ops}
use Rattle.sheet.specs.Slots.{Slot}
use Rattle.std.specs.Prelude.{None, Some}
use Rattle.sheet.specs.Rules.{body_of, read}
use Rattle.derivation.specs.Rules.{Rule}

-- A rule weighs the effort of its cost. An empty slot counts as a struck rule.
abbrev pub weigh : {W : Type 0} → Ops W → Slot → Rule W
weigh m None = record { head = 0; body = []; effort = m.nothing; struck = true }
weigh m (Some r) = record { head = r.head; body = body_of r; effort = m.effort (read r).cost; struck = r.struck }

abbrev pub weighted : {W : Type 0} → Ops W → List Slot → List (Rule W)
weighted m xs = map (weigh m) xs
