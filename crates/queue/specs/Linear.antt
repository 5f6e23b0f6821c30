-- The laws of an order, given as a test: leb a b says that a comes no later than b.
use Rattle.std.specs.Prelude.{◌≡◌, Bool, true, ◌⊎◌}

-- Any two elements compare, and the order is transitive.
pub record Linear {X : Type 0} (leb : X → X → Bool) : Type 0 where
  pub total : (a b : X) → (leb a b ≡ true) ⊎ (leb b a ≡ true)
  pub trans : (a b c : X) → leb a b ≡ true → leb b c ≡ true → leb a c ≡ true

-- Two elements of which neither comes before the other count as the same one, by canon; the order sees no more than canon does.
pub record Apart {X : Type 0} (leb : X → X → Bool) (canon : X → X) : Type 0 where
  pub antisym : (a b : X) → leb a b ≡ true → leb b a ≡ true → canon a ≡ canon b
  pub seen : (a b : X) → leb (canon a) (canon b) ≡ leb a b
