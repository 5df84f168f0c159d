-- What holds of every list of a table still does after one is replaced.
use Rattle.std.proofs.Common.{◌≡◌, ℕ, ◌<◌, Bool, true, List, [], length, get_or, set, ⊎_elim}
use Rattle.std.proofs.lemmas.List.{get_or-set_same, get_or-set_other}
use Rattle.std.proofs.lemmas.Bool.{cases_eq}

pub each_put : (test : List ℕ → Bool) (rows : List (List ℕ)) (n i : ℕ) (row : List ℕ) → i < length rows → ((k : ℕ) → k < n → test (get_or rows k []) ≡ true) → test row ≡ true
    → (k : ℕ) → k < n → test (get_or (set rows i row) k []) ≡ true
each_put test rows n i row w h t k l =
    ⊎_elim (λ (e : k ≡ i). rw (e, get_or-set_same rows i row [] w) t) (λ (e : k ≡ i → ⊥). rw (get_or-set_other rows i k row [] e) (h k l)) (cases_eq k i)

-- the same of two tables side by side
pub both_put : (test : List ℕ → List ℕ → Bool) (us vs : List (List ℕ)) (n i : ℕ) (a b : List ℕ) → i < length us → i < length vs
    → ((k : ℕ) → k < n → test (get_or us k []) (get_or vs k []) ≡ true) → test a b ≡ true → (k : ℕ) → k < n → test (get_or (set us i a) k []) (get_or (set vs i b) k []) ≡ true
both_put test us vs n i a b u v h t k l =
    ⊎_elim
    (λ (e : k ≡ i). rw (e, get_or-set_same us i a [] u, get_or-set_same vs i b [] v) t)
    (λ (e : k ≡ i → ⊥). rw (get_or-set_other us i k a [] e, get_or-set_other vs i k b [] e) (h k l))
    (cases_eq k i)
