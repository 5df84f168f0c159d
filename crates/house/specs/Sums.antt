-- What rows add up to. Assumes nothing.
use Rattle.std.specs.Prelude.{◌≡◌, ℕ, zero, suc, ◌+◌, ◌<◌, ◌≤◌, true, List, ◌≢◌, slice_index}
use Rattle.std.proofs.Math.Logic.{⊎_elim}
use native.Mathlib.Omega.{arith}
use Rattle.std.proofs.lemmas.Bool.{cases_eq}
use Rattle.std.proofs.lemmas.Bool.Decides.{nat_tests}
use Rattle.rows.specs.Rows.{is_open, Agrees}
use Rattle.house.specs.Loads.{holds_of, share, load, is_within, is_over}

module _ (counts : List (List ℕ)) (n : ℕ) (partial row : List ℕ) (agrees : Agrees n partial row) where
  -- an open line adds nothing, and a chosen one what it adds to the row
  share_le : (k : ℕ) → k < n → share counts partial k ≤ share counts row k
  share_le k l = let a = agrees k l in grind (arith, nat_tests)

  -- what is chosen adds up to no more than the row
  load_le : (k : ℕ) → k ≤ n → load counts partial k ≤ load counts row k
  unfolding load
  load_le zero l = omega arith
  load_le (suc k) l = omega (arith, load_le k, share_le k)

  -- nor with the holds of an option that the row has on a line that is open yet
  load_beside : (line option : ℕ) → is_open (slice_index partial line) ≡ true → slice_index row line ≡ option → option < 16 → (k : ℕ) → line < k → k ≤ n
      → load counts partial k + holds_of counts line option ≤ load counts row k
  unfolding load
  load_beside line option open_here at small zero l m = absurd (omega arith)
  load_beside line option open_here at small (suc k) l m =
      ⊎_elim
      (λ (e : line ≡ k). let a = load_le k (omega arith) in grind (arith, nat_tests))
      (λ (ne : line ≡ k → ⊥). omega (arith, load_beside line option open_here at small k, share_le k))
      (cases_eq line k)

  -- so a row that passes has no struck option
  pub over_sound : (limit line option : ℕ) → is_over counts limit n partial line option ≡ true → is_within counts limit n row ≡ true → slice_index row line ≢ option
  over_sound limit line option over within at = let more = load_beside line option in grind (arith, nat_tests, more)
