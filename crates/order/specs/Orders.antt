-- Strict total orders, each as the test whether one entry goes before another.
use Rattle.std.specs.Prelude.{◌≡◌, ◌≢◌, Bool, true, false, not, ◌&&◌, ◌||◌, List, [], ◌∷◌}

-- the laws of a strict total order
pub record InOrder {X : Type 0} (before : X → X → Bool) : Type 0 where
  -- no entry goes before itself
  pub never : (a : X) → before a a ≡ false
  -- of two different entries exactly one goes before the other
  pub one : (a b : X) → (a ≢ b) → before a b ≡ not (before b a)
  -- what goes before an entry goes before all that this entry goes before
  pub through : (a b c : X) → before a b ≡ true → before b c ≡ true → before a c ≡ true

-- of two lists the one with the earlier entry goes before, on the first place where they differ; a list goes before one that it begins
unfoldable pub list_before : {X : Type 0} → (X → X → Bool) → List X → List X → Bool
list_before before [] [] = false
list_before before [] (y ∷ ys) = true
list_before before (x ∷ xs) [] = false
list_before before (x ∷ xs) (y ∷ ys) = before x y || (not (before y x) && list_before before xs ys)
