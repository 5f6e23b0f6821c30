-- Putting an entry into a filled queue, and taking one out.
use Rattle.std.proofs.Common.{◌≡◌, ℕ, ◌+◌, ◌-◌, ◌<◌, ◌≤◌, Bool, true, false, cond, not, ◌&&◌, ◌||◌, eqb, List, [], ◌∷◌, length, take, count_by, Ok, Err, Result, sym, refl, ap, ◌∙◌, inl, inr, arith}
use Rattle.std.specs.List.{AllByRecursion}
use Rattle.std.proofs.lemmas.List.Sums.{sum_by-cons}
use Rattle.std.proofs.lemmas.List.Sorted.{sum_by-IsPermutation}
use Rattle.std.proofs.ByRecursion.{all_shuffled}
use Rattle.std.proofs.lemmas.Bool.{cases_Bool, eqb-true, eq-eqb}
use Rattle.measure.specs.Ops.{Ops}
use Rattle.std.specs.Prelude.{MatchResult, IsOk}
use Rattle.queue.specs.declared.heap.Full.{Full}
use Rattle.queue.specs.declared.entry.Entry.{Entry}
use Rattle.queue.specs.Entry.{entry_leb}
use Rattle.queue.specs.Heap.{Added, Removed}
use Rattle.search.specs.Waiting.{Filled}

-- 1 for true, 0 for false
abbrev pub bit : Bool → ℕ
bit b = cond b 1 0

-- where there is room, an element is put in
pub was_added : {U W : Type 0} (m : Ops W) (xs ys : List (Entry W)) (count n : ℕ) (x : Entry W) (r : Result U Full) → count < length xs
    → MatchResult r (λ _. Added (entry_leb m) xs count x ys n) (λ _. (length xs ≤ count) × (ys ≡ xs) × (n ≡ count))
    → Added (entry_leb m) xs count x ys n
was_added m xs ys count n x (Ok u) room h = h
was_added m xs ys count n x (Err e) room h = absurd (omega (arith, room, h.0))

pub put_is_ok : {U W : Type 0} (m : Ops W) (xs ys : List (Entry W)) (count n : ℕ) (x : Entry W) (r : Result U Full) → count < length xs
    → MatchResult r (λ _. Added (entry_leb m) xs count x ys n) (λ _. (length xs ≤ count) × (ys ≡ xs) × (n ≡ count)) → IsOk r
put_is_ok m xs ys count n x (Ok u) room h = refl
put_is_ok m xs ys count n x (Err e) room h = absurd (omega (arith, room, h.0))

-- a list with an entry of rule r among its elements
pub has_rule : {W : Type 0} (P : Entry W → Type 0) (r : ℕ) (es : List (Entry W)) → AllByRecursion P es → 0 < count_by (λ e. eqb e.rule r) es → (e : Entry W) × P e × (e.rule ≡ r)
has_rule P r [] all h = absurd (omega arith)
has_rule P r (e ∷ es) all h =
    elim (cases_Bool (eqb e.rule r)) [
      | inl y ↦ (e, all.0, eqb-true e.rule r y)
      | inr n ↦ has_rule P r es all.1 (
          let c = sum_by-cons (λ (e : Entry _). bit (eqb e.rule r)) e es in
          let z : bit (eqb e.rule r) ≡ 0 = ap (λ b. bit b) n in
          omega (arith, c, z))
    ]

cond_flag : (b : Bool) → bit b ≡ 1 → b ≡ true
cond_flag true h = refl
cond_flag false h = absurd (omega arith)

module _ {W : Type 0} (m : Ops W) (of : ℕ → Entry W) where
  pub filled_same : (flag flag' : ℕ → Bool) (queue : List (Entry W)) (count : ℕ) → ((r : ℕ) → flag' r ≡ flag r)
      → Filled m of flag queue count → Filled m of flag' queue count
  filled_same flag flag' queue count same f = record {
    inside = f.inside;
    ordered = f.ordered;
    entries = f.entries;
    members = λ r. f.members r ∙ ap (λ b. bit b) (sym (same r));
  }

  -- x is put in
  pub filled_put : (flag flag' : ℕ → Bool) (queue queue' : List (Entry W)) (count n : ℕ) (x : Entry W)
      → Filled m of flag queue count → Added (entry_leb m) queue count x queue' n
      → x ≡ of x.rule → flag x.rule ≡ false → ((r : ℕ) → flag' r ≡ (eqb x.rule r || flag r))
      → Filled m of flag' queue' n
  filled_put flag flag' queue queue' count n x f a is absent new = record {
    inside = omega (arith, a.answer, a.room, a.long);
    ordered = rw a.answer (a.ordered f.ordered);
    entries = rw a.answer (all_shuffled _ _ _ a.contents (is, f.entries));
    members = λ r. rw a.answer (counted r (eqb x.rule r) refl);
  }
    where
      total : (r : ℕ) → count_by (λ e. eqb e.rule r) (take (count + 1) queue') ≡ bit (eqb x.rule r) + bit (flag r)
      total r =
          sum_by-IsPermutation (λ (e : Entry W). bit (eqb e.rule r)) _ _ a.contents
          ∙ sum_by-cons (λ (e : Entry W). bit (eqb e.rule r)) x (take count queue)
          ∙ ap (λ k. bit (eqb x.rule r) + k) (f.members r)

      counted : (r : ℕ) (b : Bool) → eqb x.rule r ≡ b → count_by (λ e. eqb e.rule r) (take (count + 1) queue') ≡ bit (flag' r)
      counted r true e =
          let q : flag r ≡ false = ap flag (sym (eqb-true x.rule r e)) ∙ absent in
          rw (new r, e) (total r ∙ (rw (e, q)))
      counted r false e = rw (new r, e) (total r ∙ (rw e (omega arith)))

  -- x is taken out
  pub record Taken (flag flag' : ℕ → Bool) (queue' : List (Entry W)) (left : ℕ) (x : Entry W) : Type 0 where
    pub is : x ≡ of x.rule
    pub flagged : flag x.rule ≡ true
    pub least : (r : ℕ) → flag r ≡ true → entry_leb m x (of r) ≡ true
    pub filled : Filled m of flag' queue' left

  pub filled_take : (flag flag' : ℕ → Bool) (queue queue' : List (Entry W)) (count : ℕ) (x : Entry W)
      → Filled m of flag queue count → Removed (entry_leb m) queue count queue' x
      → ((r : ℕ) → flag' r ≡ (not (eqb x.rule r) && flag r))
      → Taken flag flag' queue' (count - 1) x
  filled_take flag flag' queue queue' count x f a new = record {
    is = parts.0;
    flagged = cond_flag (flag x.rule) (here (bit (flag x.rule)) refl);
    least = smallest;
    filled = record {
      inside = omega (arith, a.within, a.long);
      ordered = a.ordered f.ordered;
      entries = parts.1;
      members = λ r. counted r (eqb x.rule r) refl;
    };
  }
    where
      parts : AllByRecursion (λ e. e ≡ of e.rule) (x ∷ take (count - 1) queue')
      parts = all_shuffled _ _ _ a.contents f.entries

      total : (r : ℕ) → bit (flag r) ≡ bit (eqb x.rule r) + count_by (λ e. eqb e.rule r) (take (count - 1) queue')
      total r =
          sym (f.members r)
          ∙ sym (sum_by-IsPermutation (λ (e : Entry W). bit (eqb e.rule r)) _ _ a.contents)
          ∙ sum_by-cons (λ (e : Entry W). bit (eqb e.rule r)) x (take (count - 1) queue')

      at_most : (b : Bool) → bit b ≤ 1
      at_most true = omega arith
      at_most false = omega arith

      here : (k : ℕ) → k ≡ bit (flag x.rule) → k ≡ 1
      here k e =
          let t = total x.rule in
          let y : bit (eqb x.rule x.rule) ≡ 1 = ap (λ b. bit b) (eq-eqb x.rule x.rule refl) in
          omega (arith, t, y, e, at_most (flag x.rule))

      smallest : (r : ℕ) → flag r ≡ true → entry_leb m x (of r) ≡ true
      smallest r h =
          let both = all_both _ _ (take count queue) (a.least f.ordered) f.entries in
          let found = has_rule _ r (take count queue) both (let e = f.members r in let y : bit (flag r) ≡ 1 = ap (λ b. bit b) h in omega (arith, e, y)) in
          let q : found.0 ≡ of r = found.1.1 ∙ ap of found.2 in
          rw q at found.1.0
        where
          all_both : (P Q : Entry W → Type 0) (es : List (Entry W)) → AllByRecursion P es → AllByRecursion Q es → AllByRecursion (λ e. P e × Q e) es
          all_both P Q [] p q = tt
          all_both P Q (e ∷ es) p q = ((p.0, q.0), all_both P Q es p.1 q.1)

      counted : (r : ℕ) (b : Bool) → eqb x.rule r ≡ b → count_by (λ e. eqb e.rule r) (take (count - 1) queue') ≡ bit (flag' r)
      counted r true e =
          let t = total r in
          let y : bit (eqb x.rule r) ≡ 1 = ap (λ b. bit b) e in
          rw (new r, e) (omega (arith, t, y, at_most (flag r)))
      counted r false e =
          let t = total r in
          let y : bit (eqb x.rule r) ≡ 0 = ap (λ b. bit b) e in
          rw (new r, e) (omega (arith, t, y))
