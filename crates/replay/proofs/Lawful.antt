-- The law of edits, and the whole promise, of a run that was started.
use Rattle.std.proofs.Common.{◌≡◌, ℕ, ◌≤◌, List, [], map, length, take, replicate, None, sym, ap, ◌∙◌, subst}
use Rattle.measure.specs.Ops.{Ops, Laws}
use Rattle.search.specs.declared.columns.Found.{Found}
use Rattle.sheet.specs.Slots.{Slot}
use Rattle.sheet.specs.Refusals.{Answer, accepted, after, answer}
use Rattle.replay.specs.declared.call.Call.{Call}
use Rattle.replay.specs.Replies.{Reply}
use Rattle.replay.specs.Rules.{weighted_after}
use Rattle.replay.specs.Run.{Board, Lengths, found_on, searched, board_after, replies_to, Written}
use Rattle.replay.specs.Law.{Lawful}
use Rattle.replay.specs.Whole.{InOrder, Whole}
use Rattle.replay.proofs.Judging.{Steps, steps}
use Rattle.replay.proofs.Promising.{whole}
use Rattle.replay.proofs.Running.{length_scan}
use Rattle.replay.proofs.Tidy.{Tidy, tidy_new, tidy_sheet}

module _ {W G : Type 0} (m : Ops W) (long : Lengths) (floor rest : G → ℕ → W) (n : ℕ) (few : n ≤ 16000) (b : Board W) (new : b.slots ≡ replicate n None) (calls : List (Call G)) where
  abbrev last : Board W
  last = board_after m long floor rest b calls

  all_steps : Steps n few [] calls (replies_to m long floor rest b calls) last.slots
  all_steps = steps n few m long floor rest [] b (subst (Tidy n few []) (sym new) (tidy_new n few)) calls

  -- the replies were written, and the slots are those at the end of the list
  pub lawful : (before left : List (Reply W)) → Written before left (replies_to m long floor rest b calls) → (xs : List Slot) → xs ≡ last.slots
      → Lawful n calls (map answer (take (length calls) left)) xs
  lawful before left w xs is =
      let told : map answer (take (length calls) left) ≡ replies_to m long floor rest b calls = ap (λ (k : ℕ). map answer (take k left)) (sym (length_scan _ _ b calls)) ∙ w.told in
      record { judged = rw told all_steps.judged; leaves = rw is (tidy_sheet n few _ _ all_steps.tidy) }

  pub whole_by : Laws m → (floor' rest' : ℕ → W) (facts target : ℕ) → InOrder m (weighted_after m n calls) floor' rest' facts target long
      → (s : Answer (Unit {0})) → s ≡ accepted tt → (b₀ b₁ left : Board W) (long' : Lengths) → b₁ ≡ after s (λ _. last) b₀ → long' ≡ long
      → (a : Answer (Found W)) → a ≡ found_on m long' floor' rest' facts target b₁ → left ≡ searched m long' floor' rest' facts target b₁
      → Whole m n calls rest' facts target a left.weights left.reasons left.line
  whole_by laws floor' rest' facts target o s e b₀ b₁ left long' is same a given leaves =
      let made : b₁ ≡ last = is ∙ ap (λ z. after z (λ _. last) b₀) e in
      rw (given, leaves, made, same) (whole laws n few calls last all_steps.tidy floor' rest' facts target long o)
