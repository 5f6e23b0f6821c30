-- The main loop, turn by turn: closed groups have their least rests.
use Rattle.std.proofs.Common.{◌≡◌, ℕ, ◌-◌, ◌<◌, Bool, true, List, [], ◌∷◌, length, get_or, take, set, replicate, sym, refl, ap, ◌∙◌, subst, inl, inr, arith}
use Rattle.std.specs.List.{ContainsAt as Has, AllByRecursion}
use Rattle.std.specs.List.Sorted.{IsPermutation}
use Rattle.std.proofs.ByRecursion.{all-has}
use Rattle.std.proofs.lemmas.List.{get_or-set_same, get_or-set_other}
use Rattle.std.proofs.lemmas.Bool.{cases_eq}
use Rattle.measure.specs.Ops.{Ops, Laws}
use Rattle.queue.specs.declared.entry.Entry.{Entry}
use Rattle.queue.specs.Entry.{entry_leb}
use Rattle.queue.specs.Heap.{Removed}
use Rattle.derivation.specs.Rules.{Rule, rule_at, Standing}
use Rattle.derivation.specs.Contexts.{Move, Chain, chain_weight}
use Rattle.derivation.specs.Maps.{LeastChain}
use Rattle.derivation.proofs.Queue.{precedes_before}
use Rattle.derivation.proofs.Weights.{part_right, join_right}
use Rattle.search.specs.Entries.{held}
use Rattle.search.proofs.Starting.{get_or_same}
use Rattle.contexts.specs.Offers.{Done, Settled, Offering, Honest, Follows}
use Rattle.contexts.specs.Closing.{Closing}
use Rattle.contexts.proofs.Offering.{offering_settles, offering_honest, settled_removed, honest_removed}

-- an entry taken out of the queue
pub taken_out : {X : Type 0} {leb : X → X → Bool} {xs ys : List X} {count left : ℕ} {x : X} → Removed leb xs count ys x × (left ≡ count - 1)
    → IsPermutation (take count xs) (x ∷ take left ys)
taken_out {xs = xs} {ys} {count} {x = x} out = subst (λ (k : ℕ). IsPermutation (take count xs) (x ∷ take k ys)) (sym out.1) out.0.contents

module _ {W : Type 0} {m : Ops W} (laws : Laws m) (floor : ℕ → W) (rules : List (Rule W)) (facts target : ℕ) where
  -- no group is closed, and the target is offered nothing
  pub closing_start : (rests : List W) (done : List ℕ) (k n : ℕ) → rests ≡ replicate k m.heaviest → done ≡ replicate n 0 → target < facts
      → (w : W) (before entries : List (Entry W)) → w ≡ m.nothing → before ≡ [] → Offering done target w before entries
      → Closing m floor rules facts target rests done entries
  closing_start rests done k n blank none under w before entries weightless empty offered =
      let o : Offering done target m.nothing [] entries = rw (weightless, empty) at offered in
      let never : (f : ℕ) → Done done f → ⊥ = λ f d. let z = ap (λ (l : List ℕ). get_or l f 0) none ∙ get_or_same n f 0 in omega (arith, d, z) in
      record {
        attained = λ f d. absurd (never f d);
        least = λ f d. absurd (never f d);
        blank = λ f d. ap (λ (l : List W). get_or l f m.heaviest) blank ∙ get_or_same k f m.heaviest;
        start = offering_settles m done target m.nothing [] entries o laws;
        onward = λ r i s d. absurd (never _ d);
        honest = offering_honest m done target m.nothing [] entries o floor rules facts target (under, refl, ([], refl, refl)) tt;
      }

  module _ (rests : List W) (done : List ℕ) (entries : List (Entry W)) (now : Closing m floor rules facts target rests done entries) where
    -- a chain from a group that is not closed has an entry in the queue that is no heavier
    frontier : (moves : List Move) (f : ℕ) → Chain m rules moves f target → (Done done f → ⊥)
        → (e : Entry W) × Has entries e × (m.leb e.weight (chain_weight m floor rules moves) ≡ true)
    frontier [] f c unclosed =
        elim now.start [
          | inl d ↦ absurd (unclosed (rw c d))
          | inr o ↦ (o.0, o.1, o.3)
        ]
    frontier (a ∷ moves) f c unclosed =
        let h = (rule_at m rules a.rule).head in
        elim (cases_eq (get_or done h 0) 1) [
          | inl d ↦ elim (now.onward a.rule a.place c.0 d c.1) [
            | inl e ↦ absurd (unclosed (subst (Done done) c.2 e))
            | inr o ↦ (o.0, o.1, laws.trans _ _ _ o.3 (join_right laws _ _ _ (now.least h d moves c.3)))
          ]
          | inr d ↦ (
              let more = frontier moves h c.3 d in
              (more.0, more.1, laws.trans _ _ _ more.2 (part_right laws _ _)))
        ]

    -- the queue is empty
    pub ended : entries ≡ [] → (k : ℕ) → LeastChain m floor rules target k (held m rests k)
    ended z k =
        let none : (e : Entry W) → Has entries e → ⊥ = λ e h. let l = ap length z in omega (arith, h.1, l) in
        elim (cases_eq (get_or done k 0) 1) [
          | inl d ↦ record {
            least = now.least k d;
            attained = λ moves c. now.attained k d;
            absent = λ never. let a = now.attained k d in absurd (never a.0 a.1);
          }
          | inr d ↦ (
              let never : (moves : List Move) → Chain m rules moves k target → ⊥ = λ moves c. let f = frontier moves k c d in none f.0 f.1 in
              record {
                least = λ moves c. absurd (never moves c);
                attained = λ moves c. absurd (never moves c);
                absent = λ _. now.blank k d;
              })
        ]

    module _ (entries' : List (Entry W)) (x : Entry W) (out : IsPermutation entries (x ∷ entries')) where
      taken : Honest m floor rules facts target x
      taken = (honest_removed m entries entries' x out floor rules facts target now.honest).0

      pub group_under : x.rule < facts
      group_under = taken.0

      -- its group is closed already
      pub dropped : Done done x.rule → Closing m floor rules facts target rests done entries'
      dropped d = record {
        attained = now.attained;
        least = now.least;
        blank = now.blank;
        start = settled_removed m entries entries' x out done done d (λ b h. h) _ _ now.start;
        onward = λ r i s h l. settled_removed m entries entries' x out done done d (λ b h. h) _ _ (now.onward r i s h l);
        honest = (honest_removed m entries entries' x out floor rules facts target now.honest).1;
      }

      -- it closes its group at the least weight of a chain
      module _ (least : AllByRecursion (λ y. entry_leb m x y ≡ true) entries) (in_rests : x.rule < length rests) (in_done : x.rule < length done) (new : Done done x.rule → ⊥) where
        abbrev rests' : List W
        rests' = set rests x.rule x.weight

        abbrev done' : List ℕ
        done' = set done x.rule 1

        lightest : (moves : List Move) → Chain m rules moves x.rule target → m.leb x.weight (chain_weight m floor rules moves) ≡ true
        lightest moves c =
            let f = frontier moves x.rule c new in
            let first = all-has (λ y. entry_leb m x y ≡ true) entries f.0 least f.1 in
            let honest = all-has (Honest m floor rules facts target) entries f.0 now.honest f.1 in
            let p = (precedes_before laws x f.0 first).by_priority in
            let q : m.leb x.weight f.0.weight ≡ true = rw (taken.1, honest.1) at p in
            laws.trans _ _ _ q f.2

        here : held m rests' x.rule ≡ x.weight
        here = get_or-set_same rests x.rule x.weight m.heaviest in_rests

        there : (f : ℕ) → (f ≡ x.rule → ⊥) → held m rests' f ≡ held m rests f
        there f ne = get_or-set_other rests x.rule f x.weight m.heaviest ne

        before : (f : ℕ) → (f ≡ x.rule → ⊥) → Done done' f → Done done f
        before f ne d = sym (get_or-set_other done x.rule f 1 0 ne) ∙ d

        closed_here : Done done' x.rule
        closed_here = get_or-set_same done x.rule 1 0 in_done

        still : (f : ℕ) → Done done f → Done done' f
        still f d = elim (cases_eq f x.rule) [
          | inl e ↦ rw e closed_here
          | inr e ↦ get_or-set_other done x.rule f 1 0 e ∙ d
        ]

        closed : (P : ℕ → ℕ → Type 0) (entries'' : List (Entry W))
            → ((r i : ℕ) → Standing m rules r → (rule_at m rules r).head ≡ x.rule → P r i)
            → Follows m floor rules facts done' x.rule x.weight P entries' entries''
            → Closing m floor rules facts target rests' done' entries''
        closed P entries'' all follows = record {
          attained = λ f d. elim (cases_eq f x.rule) [
            | inl e ↦ rw (e, here) taken.2
            | inr e ↦ rw (there f e) (now.attained f (before f e d))
          ];
          least = λ f d moves c. elim (cases_eq f x.rule) [
            | inl e ↦ rw (e, here) (lightest moves (rw e at c))
            | inr e ↦ rw (there f e) (now.least f (before f e d) moves c)
          ];
          blank = λ f d. elim (cases_eq f x.rule) [
            | inl e ↦ absurd (d (rw e closed_here))
            | inr e ↦ there f e ∙ now.blank f (λ h. d (still f h))
          ];
          start = later _ _ now.start;
          onward = λ r i s d l. elim (cases_eq (rule_at m rules r).head x.rule) [
            | inl e ↦ rw (e, here) (follows.places r i (all r i s e) l)
            | inr e ↦ rw (there _ e) (later _ _ (now.onward r i s (before _ e d) l))
          ];
          honest = follows.honest target taken.2 (honest_removed m entries entries' x out floor rules facts target now.honest).1;
        }
          where
            later : (b : ℕ) (w : W) → Settled m done entries b w → Settled m done' entries'' b w
            later b w s = elim (settled_removed m entries entries' x out done done' closed_here still b w s) [
              | inl d ↦ inl d
              | inr o ↦ inr (follows.grows b w o)
            ]

        -- the same for columns that are written by a call
        pub closed_by : (left : List W) (marks : List ℕ) → left ≡ rests' → marks ≡ done' → (P : ℕ → ℕ → Type 0) (entries'' : List (Entry W))
            → ((r i : ℕ) → Standing m rules r → (rule_at m rules r).head ≡ x.rule → P r i)
            → Follows m floor rules facts marks x.rule x.weight P entries' entries''
            → Closing m floor rules facts target left marks entries''
        closed_by left marks e f P entries'' all follows = rw (e, f) (closed P entries'' all (rw f at follows))
