-- What a map guide answers.
use Rattle.std.specs.Prelude.{ℕ, cond, ◌&&◌, List, length, nat_lt, slice_index, slice_index_or}
use Rattle.measure.specs.Ops.{Ops}

-- The entry of a group in a column; nothing beyond it, or beyond the column beside it.
abbrev pub of_group : {W V : Type 0} → Ops W → List W → List V → ℕ → W
of_group m column beside g =
    cond (nat_lt g (length column) && nat_lt g (length beside)) (slice_index_or column g m.nothing) m.nothing

-- The entry of a fact's group; nothing for a fact beyond the map.
abbrev pub by_group : {W V : Type 0} → Ops W → List ℕ → List W → List V → ℕ → W
by_group m groups column beside f = cond (nat_lt f (length groups)) (of_group m column beside (slice_index groups f)) m.nothing
