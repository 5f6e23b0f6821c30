-- The rules of a sheet as the theory reads them, and the entries of the queue.
use Rattle.std.proofs.Common.{◌≡◌, ℕ, zero, suc, ◌<◌, ◌≤◌, Bool, true, false, cond, not, ◌&&◌, eqb, List, [], ◌∷◌, map, length, get_or, take, set, sym, refl, ap, ◌∙◌, inl, inr, arith}
use Rattle.std.proofs.lemmas.List.{get_or-set_other, get_or_past}
use Rattle.std.proofs.ByRecursion.{All-from_get_or, All-get_or}
use Rattle.std.proofs.lemmas.List.Sums.{get_or-le-sum_by}
use Rattle.std.proofs.lemmas.Bool.{cases_Bool, both_ways, eq-eqb, lt-ltb, le-ltb, cases_lt}
use Rattle.measure.specs.Ops.{Ops}
use Rattle.queue.specs.declared.entry.Entry.{Entry}
use Rattle.sheet.specs.declared.rule.Rule as sheet_rule
use Rattle.sheet.specs.Slots.{Slot}
use Rattle.std.specs.Prelude.{None, Some}
use Rattle.sheet.specs.Rules.{body_of, read}
use Rattle.sheet.specs.Slots.{rule_in, rule_at, passes}
use Rattle.sheet.proofs.Within.{passes_at}
use Rattle.derivation.specs.Rules as theory
use Rattle.derivation.specs.Joins.{joined}
use Rattle.derivation.specs.Search.{Closed, State, is_closed, all_closed, weight_in, among, queued, entry}
use Rattle.guide.specs.Weighted.{weigh, weighted}
use Rattle.search.specs.Entries.{held, rule_weight, rule_entry}
use Rattle.search.specs.Waiting.{waiting, Filled, entry_at}
use Rattle.search.proofs.Filling.{bit}
use Rattle.search.specs.Shown.{unclosed, open_places}
use Rattle.search.proofs.Opening.{none_unclosed}

module _ {W : Type 0} (m : Ops W) where
  pub weighted_at : (xs : List Slot) (r : ℕ) → theory.rule_at m (weighted m xs) r ≡ weigh m (get_or xs r None)
  weighted_at [] r = refl
  weighted_at (x ∷ xs) zero = refl
  weighted_at (x ∷ xs) (suc r) = weighted_at xs r

  weigh_head : (x : Slot) → (weigh m x).head ≡ (rule_in x).head
  weigh_head None = refl
  weigh_head (Some r) = refl

  weigh_body : (x : Slot) → (weigh m x).body ≡ body_of (rule_in x)
  weigh_body None = refl
  weigh_body (Some r) = refl

  weigh_struck : (x : Slot) → (weigh m x).struck ≡ (rule_in x).struck
  weigh_struck None = refl
  weigh_struck (Some r) = refl

  pub head_is : (xs : List Slot) (r : ℕ) → (theory.rule_at m (weighted m xs) r).head ≡ (rule_at xs r).head
  head_is xs r = ap (λ (a : theory.Rule W). a.head) (weighted_at xs r) ∙ weigh_head (get_or xs r None)

  pub body_is : (xs : List Slot) (r : ℕ) → (theory.rule_at m (weighted m xs) r).body ≡ body_of (rule_at xs r)
  body_is xs r = ap (λ (a : theory.Rule W). a.body) (weighted_at xs r) ∙ weigh_body (get_or xs r None)

  pub struck_is : (xs : List Slot) (r : ℕ) → (theory.rule_at m (weighted m xs) r).struck ≡ (rule_at xs r).struck
  struck_is xs r = ap (λ (a : theory.Rule W). a.struck) (weighted_at xs r) ∙ weigh_struck (get_or xs r None)

  pub length_weighted : (xs : List Slot) → length (weighted m xs) ≡ length xs
  length_weighted [] = refl
  length_weighted (x ∷ xs) = ap suc (length_weighted xs)

  map_same : (g h : ℕ → W) → ((f : ℕ) → g f ≡ h f) → (l : List ℕ) → map g l ≡ map h l
  map_same g h e [] = refl
  map_same g h e (x ∷ l) = let a = e x in let b = map_same g h e l in cc

  -- the queue of the theory and the waiting rules of the columns
  pub queued_is : (xs : List Slot) (s : State W) (missing : List ℕ) (r : ℕ) → length missing ≡ length xs
      → get_or missing r 0 ≡ open_places s.closed (rule_at xs r)
      → queued m (weighted m xs) s r ≡ waiting xs s.taken missing r
  unfolding queued waiting
  queued_is xs s missing r l o =
      rw (struck_is xs r, body_is xs r, o)
      (elim (cases_lt r (length missing)) [
        | inl h ↦ rw (lt-ltb r (length missing) h) (one (rule_at xs r).struck)
        | inr h ↦ (
            let e : (rule_at xs r).struck ≡ true = ap (λ z. (rule_in z).struck) (get_or_past xs r None (omega (arith, l))) in
            rw (e, le-ltb r (length missing) h))
      ])
    where
      one : (b : Bool) → (not b && (all_closed s.closed (body_of (rule_at xs r)) && not (among s.taken r)))
          ≡ (not b && (eqb (cond b 0 (unclosed s.closed (body_of (rule_at xs r)))) 0 && not (among s.taken r)))
      one true = refl
      one false = ap (λ z. z && not (among s.taken r)) (sym (none_unclosed s.closed (body_of (rule_at xs r))))

  -- its entries
  pub entry_is : (rest : ℕ → W) (xs : List Slot) (cs : List (Closed W)) (ws : List W) (r n : ℕ) → passes n xs ≡ true → r < length xs
      → ((f : ℕ) → get_or ws f m.heaviest ≡ weight_in m cs f)
      → entry m (weighted m xs) rest cs r ≡ entry_at m rest xs ws r
  unfolding entry rule_entry rule_weight
  entry_is rest xs cs ws r n p h same =
      let e : theory.rule_at m (weighted m xs) r ≡ weigh m (Some (rule_at xs r)) = weighted_at xs r ∙ ap (weigh m) (passes_at n xs r p h).0 in
      rw (e, map_same (weight_in m cs) (held m ws) (λ f. sym (same f)) (body_of (rule_at xs r)))

  -- closing f keeps the entry of a rule whose body is closed
  held_same : (ws : List W) (h : ℕ) (w : W) (cs : List (Closed W)) → is_closed cs h ≡ false → (body : List ℕ) → unclosed cs body ≡ 0
      → map (held m (set ws h w)) body ≡ map (held m ws) body
  held_same ws h w cs o [] z = refl
  held_same ws h w cs o (x ∷ xs) z =
      elim (cases_Bool (is_closed cs x)) [
        | inl c ↦ (
            let u : unclosed cs xs ≡ 0 = let y = rw c at z in omega (arith, y) in
            let a = get_or-set_other ws h x w m.heaviest (λ e. both_ways _ o (ap (is_closed cs) (sym e) ∙ c)) in
            let b = held_same ws h w cs o xs u in
            cc)
        | inr c ↦ absurd (let y = rw c at z in omega (arith, y))
      ]

  weight_kept : (ws : List W) (h : ℕ) (w : W) (cs : List (Closed W)) (a : sheet_rule.Rule) → is_closed cs h ≡ false → unclosed cs (body_of a) ≡ 0
      → rule_weight m a ws ≡ rule_weight m a (set ws h w)
  unfolding rule_weight
  weight_kept ws h w cs a o z = ap (λ l. m.join (m.effort (read a).cost) (joined m l)) (sym (held_same ws h w cs o (body_of a) z))

  pub entry_kept : (rest : ℕ → W) (xs : List Slot) (ws : List W) (h : ℕ) (w : W) (cs : List (Closed W)) (r : ℕ) → is_closed cs h ≡ false
      → (rule_at xs r).struck ≡ false → open_places cs (rule_at xs r) ≡ 0
      → entry_at m rest xs ws r ≡ entry_at m rest xs (set ws h w) r
  unfolding rule_entry
  entry_kept rest xs ws h w cs r o s z =
      let g : W → Entry W = λ v. record { priority = m.join v (rest (rule_at xs r).head); weight = v; rule = r } in
      ap g (weight_kept ws h w cs (rule_at xs r) o (rw s at z))

-- a filled queue, where the entries of the flagged rules are the same under another function
pub filled_swap : {W : Type 0} (m : Ops W) (of of' : ℕ → Entry W) (flag : ℕ → Bool) (queue : List (Entry W)) (count : ℕ)
    → ((r : ℕ) → flag r ≡ true → of r ≡ of' r) → Filled m of flag queue count → Filled m of' flag queue count
filled_swap {W} m of of' flag queue count same f = record {
  inside = f.inside;
  ordered = f.ordered;
  entries = All-from_get_or (λ e. e ≡ of' e.rule) (take count queue) (of 0) each;
  members = f.members;
}
  where
    flagged : (b : Bool) → 1 ≤ bit b → b ≡ true
    flagged true h = refl
    flagged false h = absurd (omega arith)

    each : (i : ℕ) → i < length (take count queue) → get_or (take count queue) i (of 0) ≡ of' (get_or (take count queue) i (of 0)).rule
    each i h =
        let e = get_or (take count queue) i (of 0) in
        let one : bit (eqb e.rule e.rule) ≡ 1 = ap bit (eq-eqb e.rule e.rule refl) in
        let le = get_or-le-sum_by (λ (z : Entry W). bit (eqb z.rule e.rule)) (take count queue) i (of 0) h in
        All-get_or (λ e. e ≡ of e.rule) (take count queue) i (of 0) h f.entries
        ∙ same e.rule (flagged (flag e.rule) (omega (arith, le, one, f.members e.rule)))
