-- Arrays whose elements a closure makes.
use Rattle.std.proofs.Common.{◌≡◌, ℕ, zero, suc, ◌+◌, ◌<◌, ◌≤◌, List, get_or, subst, ⊎_elim, arith}
use Rattle.std.proofs.lemmas.Bool.{cases_eq}
use Rattle.std.specs.Array.{IsFromFnResult, IsFromFnResultFrom}
use Rattle.std.specs.Fn.{Called, Mut}

-- what holds of each call of a closure that stays as it is, holds of the elements that the calls made
module _ {F B : Type 0} (g : Mut F (ℕ × Unit {0}) B) (f : F) (P : ℕ → B → Type 0) (size : ℕ) (call : (i : ℕ) (y : B) (q : F) → i < size → Called g f (i, tt) y q → (q ≡ f) × P i y) where
  made_from : (ys : List B) (i n : ℕ) → i + n ≤ size → IsFromFnResultFrom g f ys i n → (k : ℕ) (d : B) → i ≤ k → k < i + n → P k (get_or ys k d)
  made_from ys i zero s made k d l m = absurd (omega arith)
  made_from ys i (suc n) s made k d l m =
      let here = call i made.1 made.0 (omega arith) made.3 in
      ⊎_elim
      (λ (e : k ≡ i). rw (e, made.2.1 d) here.1)
      (λ (e : k ≡ i → ⊥). made_from ys (i + 1) n (omega arith) (subst (λ q. IsFromFnResultFrom g q ys (i + 1) n) here.0 made.4) k d (omega arith) (omega arith))
      (cases_eq k i)

  pub made_by : (ys : List B) → IsFromFnResult g f ys size → (k : ℕ) (d : B) → k < size → P k (get_or ys k d)
  made_by ys made k d l = made_from ys 0 size (omega arith) made.each k d (omega arith) (omega arith)
