-- Worked examples of the definitions, as one table.
use Rattle.std.specs.Prelude.{◌≡◌, ℕ, zero, suc, false, List, [], ◌∷◌, ◌++◌, map, Some, None, Option, slice_index, slice_index_or}
use Rattle.measure.specs.declared.total.Total.{Total}
use Rattle.measure.specs.declared.hardest.Hardest.{Hardest}
use Rattle.measure.specs.Ops.{Ops}
use Rattle.measure.specs.Total.{total_ops, of_total}
use Rattle.measure.specs.Hardest.{hardest_ops, of_hardest}
use Rattle.measure.specs.TotalSteps.{total_steps_ops, pair}
use Rattle.derivation.specs.Rules.{Rule}
use Rattle.derivation.specs.Fit.{fits, target_fails, rule_fails, check_fit}
use Rattle.derivation.specs.Trees.{weight}
use Rattle.derivation.specs.Search.{final, answer, closed_count, taken_count, weight_of, reason_of}
use Rattle.derivation.specs.Line.{line, line_tree}
use Rattle.derivation.specs.Contexts.{surveyed, context}
use Rattle.derivation.specs.Maps.{fold_rules}

-- A rule with a cost, read under a measure.
abbrev pub rule : {W : Type 0} → Ops W → ℕ → List ℕ → ℕ → Rule W
rule m f body cost = record { head = f; body = body; effort = m.effort cost; struck = false }

abbrev pub sample : {W : Type 0} → Ops W → List (Rule W)
sample m =
    rule m 0 [] 4
    ∷ rule m 1 [] 9
    ∷ rule m 1 (0 ∷ []) 3
    ∷ rule m 2 (0 ∷ 1 ∷ []) 2
    ∷ rule m 3 (2 ∷ []) 6
    ∷ rule m 3 (1 ∷ 1 ∷ []) 1
    ∷ rule m 4 (3 ∷ 2 ∷ []) 0
    ∷ []

abbrev pub tie_sheet : {W : Type 0} → Ops W → List (Rule W)
tie_sheet m = rule m 1 [] 5 ∷ rule m 0 [] 1 ∷ rule m 1 (0 ∷ []) 2 ∷ rule m 2 (1 ∷ []) 8 ∷ []

-- Two facts, each from the other.
abbrev pub circle : {W : Type 0} → Ops W → List (Rule W)
circle m = rule m 1 (0 ∷ []) 0 ∷ rule m 0 (1 ∷ []) 0 ∷ []

-- Each of the facts 1 to n from its neighbour below, twice.
abbrev pub doubling : {W : Type 0} → Ops W → ℕ → List (Rule W)
doubling m zero = []
doubling m (suc n) = doubling m n ++ (rule m (suc n) (n ∷ n ∷ []) 0 ∷ [])

abbrev pub tower : {W : Type 0} → Ops W → List (Rule W)
tower m = rule m 0 [] 1000000 ∷ doubling m 10

-- The numbers below n.
abbrev pub below : ℕ → List ℕ
below zero = []
below (suc n) = below n ++ (n ∷ [])

-- All that a search tells: the answer, both counts, the line, and the columns.
pub record Outcome (W : Type 0) : Type 0 where
  pub found : Option W
  pub closed : ℕ
  pub taken : ℕ
  pub line : List ℕ
  pub weights : List W
  pub reasons : List ℕ

abbrev pub outcome : {W : Type 0} → Ops W → List (Rule W) → (ℕ → W) → ℕ → ℕ → Outcome W
outcome m rules rest target facts =
    let s = final m rules rest (Some target) in
    record {
      found = answer m target s;
      closed = closed_count s;
      taken = taken_count s;
      line = line m rules s target;
      weights = map (weight_of m s) (below facts);
      reasons = map (reason_of s) (below facts);
    }

-- The rests of the tie sheet, with this one for fact 0.
abbrev pub tie_rests : ℕ → List Hardest
tie_rests rest = map of_hardest (rest ∷ 8 ∷ 0 ∷ [])

-- The blank guide.
abbrev pub blank : {W : Type 0} → Ops W → ℕ → W
blank m f = m.nothing

-- A guide given by a column.
abbrev pub column : {W : Type 0} → Ops W → List W → ℕ → W
column m ws f = slice_index_or ws f m.nothing

-- The groups of the sample's facts.
abbrev pub groups : ℕ → ℕ
groups f = slice_index (0 ∷ 0 ∷ 1 ∷ 1 ∷ 2 ∷ []) f

abbrev pub group_floors : List Total
group_floors = map (surveyed total_ops (fold_rules groups (sample total_ops))) (below 3)

abbrev pub group_rests : List Total
group_rests = map (context total_ops (column total_ops group_floors) (fold_rules groups (sample total_ops)) 2) (below 3)

-- What the definitions give for these sheets.
pub record Table : Type 0 where
  pub sample_total :
      outcome total_ops (sample total_ops) (blank total_ops) 4 5
      ≡ record {
        found = Some (of_total 28);
        closed = 5;
        taken = 7;
        line = 0 ∷ 2 ∷ 3 ∷ 5 ∷ 6 ∷ [];
        weights = map of_total (4 ∷ 7 ∷ 13 ∷ 15 ∷ 28 ∷ []);
        reasons = 0 ∷ 2 ∷ 3 ∷ 5 ∷ 6 ∷ [];
      }
  pub sample_hardest :
      outcome hardest_ops (sample hardest_ops) (blank hardest_ops) 4 5
      ≡ record {
        found = Some (of_hardest 4);
        closed = 5;
        taken = 5;
        line = 0 ∷ 2 ∷ 3 ∷ 5 ∷ 6 ∷ [];
        weights = map of_hardest (4 ∷ 4 ∷ 4 ∷ 4 ∷ 4 ∷ []);
        reasons = 0 ∷ 2 ∷ 3 ∷ 5 ∷ 6 ∷ [];
      }
  pub sample_total_steps :
      outcome total_steps_ops (sample total_steps_ops) (blank total_steps_ops) 4 5
      ≡ record {
        found = Some (pair 28 10);
        closed = 5;
        taken = 7;
        line = 0 ∷ 2 ∷ 3 ∷ 5 ∷ 6 ∷ [];
        weights = pair 4 1 ∷ pair 7 2 ∷ pair 13 4 ∷ pair 15 5 ∷ pair 28 10 ∷ [];
        reasons = 0 ∷ 2 ∷ 3 ∷ 5 ∷ 6 ∷ [];
      }
  -- each line's derivation weighs what is answered
  pub sample_trees :
      (weight total_ops (sample total_ops) (line_tree total_ops (sample total_ops) (0 ∷ 2 ∷ 3 ∷ 5 ∷ 6 ∷ [])) ≡ of_total 28)
      × (weight hardest_ops (sample hardest_ops) (line_tree hardest_ops (sample hardest_ops) (0 ∷ 2 ∷ 3 ∷ 5 ∷ 6 ∷ [])) ≡ of_hardest 4)
  pub sample_target_1 :
      outcome total_ops (sample total_ops) (blank total_ops) 1 2
      ≡ record {
        found = Some (of_total 7);
        closed = 2;
        taken = 2;
        line = 0 ∷ 2 ∷ [];
        weights = map of_total (4 ∷ 7 ∷ []);
        reasons = 0 ∷ 2 ∷ [];
      }
  pub sample_floors : group_floors ≡ map of_total (4 ∷ 9 ∷ 18 ∷ [])
  pub sample_rests : group_rests ≡ map of_total (14 ∷ 9 ∷ 0 ∷ [])
  -- the guide made of these fits the sample
  pub sample_mapped :
      check_fit total_ops (λ f. column total_ops group_floors (groups f)) (λ f. column total_ops group_rests (groups f)) (sample total_ops) 4
      ≡ fits
  pub tie :
      outcome hardest_ops (tie_sheet hardest_ops) (column hardest_ops (tie_rests 8)) 2 3
      ≡ record {
        found = Some (of_hardest 8);
        closed = 3;
        taken = 4;
        line = 1 ∷ 2 ∷ 3 ∷ [];
        weights = map of_hardest (1 ∷ 2 ∷ 8 ∷ []);
        reasons = 1 ∷ 2 ∷ 3 ∷ [];
      }
  pub tie_fits : check_fit hardest_ops (blank hardest_ops) (column hardest_ops (tie_rests 8)) (tie_sheet hardest_ops) 2 ≡ fits
  pub tie_unfit : check_fit hardest_ops (blank hardest_ops) (column hardest_ops (tie_rests 9)) (tie_sheet hardest_ops) 2 ≡ rule_fails 2
  pub tie_target : check_fit hardest_ops (blank hardest_ops) (column hardest_ops (tie_rests 8)) (tie_sheet hardest_ops) 0 ≡ target_fails
  pub circle_unreached :
      outcome total_ops (circle total_ops) (blank total_ops) 0 2
      ≡ record {
        found = None;
        closed = 0;
        taken = 0;
        line = [];
        weights = map of_total (1000000000 ∷ 1000000000 ∷ []);
        reasons = 65535 ∷ 65535 ∷ [];
      }
  pub nothing_unreached :
      outcome total_ops [] (blank total_ops) 0 1
      ≡ record {
        found = None;
        closed = 0;
        taken = 0;
        line = [];
        weights = map of_total (1000000000 ∷ []);
        reasons = 65535 ∷ [];
      }
  pub tower_weights :
      map (surveyed total_ops (tower total_ops)) (9 ∷ 10 ∷ []) ≡ map of_total (512000000 ∷ 1000000000 ∷ [])
