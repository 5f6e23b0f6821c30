-- The table holds by computation.
use Rattle.std.proofs.Common.{refl}
use Rattle.derivation.specs.Fit.{rule_fits}
use Rattle.derivation.specs.Search.{entry, queued, candidate, take_entry, step, final}
use Rattle.derivation.specs.Contexts.{context_rules, surveyed, context}
use Rattle.derivation.specs.Examples.{Table}

pub table : Table
unfolding rule_fits entry queued candidate take_entry step final context_rules surveyed context
table = record { sample_total = refl; sample_hardest = refl; sample_total_steps = refl; sample_trees = (refl, refl); sample_target_1 = refl; sample_floors = refl; sample_rests = refl; sample_mapped = refl; tie = refl; tie_fits = refl; tie_unfit = refl; tie_target = refl; circle_unreached = refl; nothing_unreached = refl; tower_weights = refl }
