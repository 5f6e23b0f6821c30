-- Which entry the definition takes: the one that precedes all others.
use Rattle.std.proofs.Common.{◌≡◌, ℕ, zero, suc, ◌+◌, ◌-◌, ◌<◌, ◌≤◌, Bool, true, false, cond, List, length, Some, None, Option, sym, refl, ap, ◌∙◌, inl, inr, arith}
use Rattle.std.proofs.lemmas.Bool.{cases_eq, cases_Bool}
use Rattle.measure.specs.Ops.{Ops, Laws}
use Rattle.queue.specs.declared.entry.Entry.{Entry}
use Rattle.queue.specs.Entry.{entry_leb}
use Rattle.queue.specs.Entries.{entry_apart}
use Rattle.derivation.specs.Rules.{Rule}
use Rattle.derivation.specs.Search.{State, first, queued, entry, candidate, least, reached, take_entry, step, run}
use Rattle.derivation.proofs.Queue.{First, Sought, sought}

module _ {W : Type 0} {m : Ops W} (laws : Laws m) (rules : List (Rule W)) (rest : ℕ → W) (s : State W) (x : Entry W)
    (waits : queued m rules s x.rule ≡ true) (is : x ≡ entry m rules rest s.closed x.rule)
    (best : (r : ℕ) → queued m rules s r ≡ true → entry_leb m x (entry m rules rest s.closed r) ≡ true) where
  -- an earlier rule's entry does not precede x
  behind : (e : Entry W) (k : ℕ) → x.rule ≡ k → First laws rules rest s k e → entry_leb m e x ≡ false
  behind e k q f =
      elim (cases_Bool (entry_leb m e x)) [
        | inl h ↦ (
            let b : entry_leb m x e ≡ true = rw f.is (best e.rule f.waits) in
            let c = ap (λ (z : Entry W). z.rule) ((entry_apart laws).antisym e x h b) in
            absurd (omega (arith, f.under, c, q)))
        | inr h ↦ h
      ]

  here : (k : ℕ) → x.rule ≡ k → (o : Option (Entry W)) → Sought laws rules rest s k o → first m o (Some x) ≡ Some x
  here k q None none = refl
  here k q (Some e) f = ap (λ b. Some (cond b e x)) (behind e k q f)

  beyond : (b : Bool) (k : ℕ) → queued m rules s k ≡ b → first m (Some x) (cond b (Some (entry m rules rest s.closed k)) None) ≡ Some x
  beyond true k q = ap (λ b. Some (cond b x (entry m rules rest s.closed k))) (best k q)
  beyond false k q = refl

  pub least_is : (n : ℕ) → x.rule < n → least m rules rest s n ≡ Some x
  unfolding candidate
  least_is zero h = absurd (omega arith)
  least_is (suc n) h =
      elim (cases_eq x.rule n) [
        | inl e ↦ (
            let q : queued m rules s n ≡ true = ap (queued m rules s) (sym e) ∙ waits in
            let i : entry m rules rest s.closed n ≡ x = ap (entry m rules rest s.closed) (sym e) ∙ sym is in
            rw (q, i) (here n e (least m rules rest s n) (sought laws rules rest s n)))
        | inr e ↦ rw (least_is n (omega arith)) (beyond (queued m rules s n) n refl)
      ]

module _ {W : Type 0} {m : Ops W} (laws : Laws m) (rules : List (Rule W)) (rest : ℕ → W) (target : Option ℕ) (s : State W) where
  pub none_least : ((r : ℕ) → queued m rules s r ≡ false) → (n : ℕ) → least m rules rest s n ≡ None
  unfolding candidate
  none_least none zero = refl
  none_least none (suc n) = rw (none_least none n, none n)

  pub step_none : least m rules rest s (length rules) ≡ None → step m rules rest target s ≡ None
  unfolding step
  step_none e = rw e (either (reached target s))
    where
      either : (b : Bool) → ◌≡◌ {A = Option (State W)} (cond b None None) None
      either true = refl
      either false = refl

  pub step_reached : reached target s ≡ true → step m rules rest target s ≡ None
  unfolding step
  step_reached e = rw e

  pub step_some : (x : Entry W) → reached target s ≡ false → least m rules rest s (length rules) ≡ Some x → step m rules rest target s ≡ Some (take_entry m rules s x)
  unfolding step
  step_some x e l = rw (e, l)

  pub run_ended : step m rules rest target s ≡ None → (k : ℕ) → run m rules rest target k s ≡ s
  run_ended e zero = refl
  run_ended e (suc k) = rw e

  -- one step fewer is left
  pub run_on : (s' : State W) (n taken : ℕ) → taken ≤ n → step m rules rest target s ≡ Some s' → run m rules rest target (suc n - taken) s ≡ run m rules rest target (suc n - (taken + 1)) s'
  run_on s' n taken h e =
      let a : suc n - taken ≡ suc (n - taken) = omega arith in
      let b : suc n - (taken + 1) ≡ n - taken = omega arith in
      rw (a, b, e)
