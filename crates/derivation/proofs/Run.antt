-- The search runs until the target is closed or the queue is empty, and its states are sound.
use Rattle.std.proofs.Common.{◌≡◌, ℕ, zero, suc, ◌<◌, Bool, true, false, cond, ◌⊎◌, List, length, Some, None, Option, refl, inl, inr, arith}
use Rattle.std.proofs.lemmas.Bool.{cases_Bool}
use Rattle.measure.specs.Ops.{Ops, Laws}
use Rattle.derivation.specs.Rules.{Rule}
use Rattle.derivation.specs.Fit.{Consistent}
use Rattle.derivation.specs.Search.{State, Entry, start, queued, take_entry, reached, after, step, onward, run, final}
use Rattle.derivation.proofs.Queue.{First, Sought, sought}
use Rattle.derivation.proofs.Invariant.{Sound, sound_start, sound_taken, queued_parts, queued_under}
use Rattle.derivation.proofs.Untaken.{untaken, untaken_all, untaken_falls}

module _ {W : Type 0} {m : Ops W} (laws : Laws m) (rules : List (Rule W)) (floor rest : ℕ → W) (target : Option ℕ)
    (guided : Consistent m floor rest rules) where
  abbrev left : State W → ℕ
  left s = untaken (length rules) s.taken

  abbrev Next : State W → Option (State W) → Type 0
  Next s None = (reached target s ≡ true) ⊎ ((r : ℕ) → queued m rules s r ≡ false)
  Next s (Some s') = Sound m rules rest target s' × (left s' < left s)

  falls : (s : State W) (e : Entry W) → First laws rules rest s (length rules) e → left (take_entry m rules s e) < left s
  unfolding take_entry
  falls s e best =
      let p = queued_parts m rules s e.rule best.waits in
      omega (arith, untaken_falls (length rules) e.rule s.taken best.under p.2)

  next_of : (s : State W) → Sound m rules rest target s → (b : Bool) → reached target s ≡ b
      → (o : Option (Entry W)) → Sought laws rules rest s (length rules) o → Next s (cond b None (after m rules s o))
  next_of s sound true e o q = inl e
  next_of s sound false e None none =
      inr (λ r. elim (cases_Bool (queued m rules s r)) [ inl h ↦ none r (queued_under m rules s r h) | inr h ↦ h ])
  next_of s sound false e (Some a) best = (sound_taken laws rules floor rest target guided s sound e a best, falls s a best)

  next : (s : State W) → Sound m rules rest target s → Next s (step m rules rest target s)
  unfolding step
  next s sound = next_of s sound _ refl _ (sought laws rules rest s (length rules))

  -- a sound state in which no step is left
  pub record Ended (s : State W) : Type 0 where
    pub sound : Sound m rules rest target s
    pub over : (reached target s ≡ true) ⊎ ((r : ℕ) → queued m rules s r ≡ false)

  ended_on : (k : ℕ) (s : State W) → Sound m rules rest target s → left s < suc k
      → ((s' : State W) → Sound m rules rest target s' → left s' < k → Ended (run m rules rest target k s'))
      → (o : Option (State W)) → Next s o → Ended (onward s (run m rules rest target k) o)
  ended_on k s sound h ih None q = record { sound = sound; over = q }
  ended_on k s sound h ih (Some s') q = ih s' q.0 (omega (arith, q.1))

  ended : (k : ℕ) (s : State W) → Sound m rules rest target s → left s < k → Ended (run m rules rest target k s)
  ended zero s sound h = absurd (omega arith)
  ended (suc k) s sound h = ended_on k s sound h (ended k) (step m rules rest target s) (next s sound)

  pub final_ended : Ended (final m rules rest target)
  unfolding final
  final_ended = ended (suc (length rules)) start (sound_start m rules rest target) (omega (arith, untaken_all (length rules)))
