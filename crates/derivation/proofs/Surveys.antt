-- A survey closes exactly the derivable facts, each at its lightest weight.
use Rattle.std.proofs.Common.{◌≡◌, ℕ, true, false, eqb, List, [], ◌∷◌, None, refl, ◌∙◌, inl, inr}
use Rattle.std.proofs.lemmas.Bool.{both_ways, cases_Bool, cond-false, or_parts}
use Rattle.measure.specs.Ops.{Ops, Laws}
use Rattle.derivation.specs.Trees.{Derivable}
use Rattle.derivation.specs.Search.{Closed, survey, is_closed, weight_in, queued}
use Rattle.derivation.specs.Theorems.{Surveyed}
use Rattle.derivation.proofs.Log.{Recorded, line_recorded}
use Rattle.derivation.proofs.Run.{final_ended}
use Rattle.derivation.proofs.Answered.{none_left}
use Rattle.derivation.proofs.Guides.{blank_consistent}

pub weight_absent : {W : Type 0} (m : Ops W) (cs : List (Closed W)) (f : ℕ) → is_closed cs f ≡ false → weight_in m cs f ≡ m.heaviest
weight_absent m [] f h = refl
weight_absent m (c ∷ cs) f h =
    let p = or_parts (eqb c.fact f) (is_closed cs f) h in
    cond-false (eqb c.fact f) c.weight (weight_in m cs f) p.0 ∙ weight_absent m cs f p.1

module _ {W : Type 0} {m : Ops W} (laws : Laws m) where
  pub surveyed_at : Surveyed m
  surveyed_at rules f =
      let s = survey m rules in
      let end = final_ended laws rules (λ f. m.nothing) (λ f. m.nothing) None (blank_consistent laws rules) in
      let empty : (r : ℕ) → queued m rules s r ≡ false = elim end.over [ inl h ↦ absurd (both_ways false refl h) | inr h ↦ h ] in
      let tree : is_closed s.closed f ≡ true → Recorded m rules s.closed f _ = line_recorded m rules s.closed end.sound.log f in
      let shut : Derivable m rules f → is_closed s.closed f ≡ true =
      λ d. elim (cases_Bool (is_closed s.closed f)) [
        | inl h ↦ h
        | inr h ↦ absurd (none_left laws rules (λ f. m.nothing) (λ f. m.nothing) None (blank_consistent laws rules) s end empty f h d)
      ] in
      record {
        derivable = λ h. (_, (tree h).derives);
        closed = shut;
        lightest = λ d. (_, (tree (shut d)).derives, (tree (shut d)).weighs, end.sound.lightest f (shut d));
        absent = λ never. elim (cases_Bool (is_closed s.closed f)) [
          | inl h ↦ absurd (never (_, (tree h).derives))
          | inr h ↦ weight_absent m s.closed f h
        ];
      }
