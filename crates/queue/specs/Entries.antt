-- The laws of an entry's order, from those of its measure.
use Rattle.std.specs.Prelude.{◌≡◌, ℕ, Bool, true, false, ◌⊎◌, nat_le, refl}
use Rattle.std.proofs.Common.{◌∙◌, inl, inr, arith}
use Rattle.std.proofs.lemmas.Bool.{false≢true}
use Rattle.std.proofs.lemmas.Bool.Decides.{nat_tests}
use Rattle.measure.specs.Ops.{Ops, Laws}
use Rattle.queue.specs.Linear.{Linear, Apart}
use Rattle.queue.specs.Entry.{before, entry_leb, entry_canon}

-- one key in front of the next keeps each law
before_total : (ab ba s t : Bool) → (ab ≡ true) ⊎ (ba ≡ true) → (s ≡ true) ⊎ (t ≡ true) → (before ab ba s ≡ true) ⊎ (before ba ab t ≡ true)
before_total true true s t h k = k
before_total true false s t h k = inl refl
before_total false true s t h k = inr refl
before_total false false s t h k = h

before_trans : (ab ba bc cb ac ca s t u : Bool) → (ab ≡ true → bc ≡ true → ac ≡ true) → (cb ≡ true → ba ≡ true → ca ≡ true) → (bc ≡ true → ca ≡ true → ba ≡ true) → (ca ≡ true → ab ≡ true → cb ≡ true) → (s ≡ true → t ≡ true → u ≡ true) → before ab ba s ≡ true → before bc cb t ≡ true → before ac ca u ≡ true
before_trans ab ba bc cb ac ca s t u f g h k l p q = grind (arith, nat_tests)

before_both : (ab ba s t : Bool) → before ab ba s ≡ true → before ba ab t ≡ true → (ab ≡ true) × (ba ≡ true) × (s ≡ true) × (t ≡ true)
before_both true true s t p q = (refl, refl, p, q)
before_both true false s t p q = absurd (false≢true q)
before_both false true s t p q = absurd (false≢true p)
before_both false false s t p q = absurd (false≢true p)

rule_same : (a b : ℕ) → nat_le a b ≡ true → nat_le b a ≡ true → a ≡ b
rule_same a b p q = grind (arith, nat_tests)

module _ {W : Type 0} {m : Ops W} (laws : Laws m) where
  pub entry_linear : Linear (entry_leb m)
  entry_linear = record {
    total = λ a b.
        before_total _ _ _ _ (laws.total a.priority b.priority)
        (before_total _ _ _ _ (laws.total a.weight b.weight) (grind (arith, nat_tests)));
    trans = λ a b c p q.
        before_trans _ _ _ _ _ _ _ _ _
        (laws.trans a.priority b.priority c.priority) (laws.trans c.priority b.priority a.priority)
        (laws.trans b.priority c.priority a.priority) (laws.trans c.priority a.priority b.priority)
        (before_trans (m.leb a.weight b.weight) (m.leb b.weight a.weight) (m.leb b.weight c.weight) (m.leb c.weight b.weight) (m.leb a.weight c.weight) (m.leb c.weight a.weight) (nat_le a.rule b.rule) (nat_le b.rule c.rule) (nat_le a.rule c.rule)
        (laws.trans a.weight b.weight c.weight) (laws.trans c.weight b.weight a.weight)
        (laws.trans b.weight c.weight a.weight) (laws.trans c.weight a.weight b.weight)
        (λ x y. grind (arith, nat_tests)))
        p q;
  }

  pub entry_apart : Apart (entry_leb m) (entry_canon m)
  entry_apart = record {
    antisym = λ a b p q.
        let k = before_both _ _ _ _ p q in
        let j = before_both _ _ _ _ k.2 k.3 in
        let x = laws.antisym a.priority b.priority k.0 k.1 in
        let y = laws.antisym a.weight b.weight j.0 j.1 in
        let z : a.rule ≡ b.rule = rule_same a.rule b.rule j.2 j.3 in
        cc;
    seen = λ a b.
        let n = λ (x y : W). laws.leb_norm x (m.norm y) ∙ laws.leb_norm' x y in
        let p = n a.priority b.priority in
        let p' = n b.priority a.priority in
        let w = n a.weight b.weight in
        let w' = n b.weight a.weight in
        cc;
  }
