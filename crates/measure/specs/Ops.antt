-- What a measure of effort is: its operations, as one record, and its laws.
use Rattle.std.specs.Prelude.{◌≡◌, ℕ, min, Bool, true, ◌⊎◌}

-- The highest cost that a rule can have; a higher one counts as this one.
abbrev pub cost_limit : ℕ
cost_limit = 1000000

-- The operations over the records W.
-- A weight is a record that norm keeps; norm takes a record outside the measure's range to heaviest.
-- leb a b: a is no heavier than b.
pub record Ops (W : Type 0) : Type 0 where
  pub nothing : W
  pub heaviest : W
  pub norm : W → W
  pub effort : ℕ → W
  pub join : W → W → W
  pub leb : W → W → Bool

-- The laws, over all records, in range or not.
pub record Laws {W : Type 0} (m : Ops W) : Type 0 where
  -- any two records compare, comparisons chain, and records that tie count as one weight
  pub total : (a b : W) → (m.leb a b ≡ true) ⊎ (m.leb b a ≡ true)
  pub trans : (a b c : W) → m.leb a b ≡ true → m.leb b c ≡ true → m.leb a c ≡ true
  pub antisym : (a b : W) → m.leb a b ≡ true → m.leb b a ≡ true → m.norm a ≡ m.norm b
  -- joins may be regrouped and swapped, and joining nothing changes nothing
  pub assoc : (a b c : W) → m.join (m.join a b) c ≡ m.join a (m.join b c)
  pub comm : (a b : W) → m.join a b ≡ m.join b a
  pub neutral : (a : W) → m.join m.nothing a ≡ m.norm a
  -- no weight is lighter than nothing or heavier than heaviest
  pub lightest : (a : W) → m.leb m.nothing a ≡ true
  pub most : (a : W) → m.leb a m.heaviest ≡ true
  -- joining the same weight keeps the order
  pub mono : (a b c : W) → m.leb a b ≡ true → m.leb (m.join a c) (m.join b c) ≡ true
  -- a record counts as the weight that norm takes it to, in comparisons and in joins
  pub leb_norm : (a b : W) → m.leb (m.norm a) b ≡ m.leb a b
  pub leb_norm' : (a b : W) → m.leb a (m.norm b) ≡ m.leb a b
  pub join_norm : (a b : W) → m.join (m.norm a) b ≡ m.join a b
  -- nothing, heaviest, efforts, joins and what norm gives are weights
  pub norm_nothing : m.norm m.nothing ≡ m.nothing
  pub norm_heaviest : m.norm m.heaviest ≡ m.heaviest
  pub norm_effort : (c : ℕ) → m.norm (m.effort c) ≡ m.effort c
  pub norm_join : (a b : W) → m.norm (m.join a b) ≡ m.join a b
  pub norm_norm : (a : W) → m.norm (m.norm a) ≡ m.norm a
  -- a cost above the limit has the effort of the limit
  pub effort_limit : (c : ℕ) → m.effort c ≡ m.effort (min c cost_limit)
