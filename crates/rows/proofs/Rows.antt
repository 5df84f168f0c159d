-- The laws of rows. Assumes nothing.
use Rattle.std.proofs.Common.{◌≡◌, ℕ, ◌<◌, ◌≤◌, true, eqb, List, length, get_or, take, arith}
use Rattle.std.specs.List.{list_all}
use Rattle.std.proofs.lemmas.List.{get_or_default, get_or-take, length-take-le}
use Rattle.std.proofs.lemmas.List.Sums.{AllPass-from_list_all, list_all-from_AllPass}
use Rattle.std.proofs.lemmas.Bool.{and_parts, and_from, ltb-true, lt-ltb, eqb-true, eq-eqb}
use Rattle.masks.specs.Members.{is_option}
use Rattle.rows.specs.Rows.{is_row}

pub row_length : (n : ℕ) (row : List ℕ) → is_row n row ≡ true → length row ≡ n
row_length n row h = eqb-true (length row) n (and_parts (eqb (length row) n) (list_all is_option row) h).0

pub row_option : (n : ℕ) (row : List ℕ) → is_row n row ≡ true → (k d : ℕ) → k < n → get_or row k d < 16
row_option n row h k d l =
    let len = row_length n row h in
    ltb-true (get_or row k d) 16 (AllPass-from_list_all is_option row (and_parts (eqb (length row) n) (list_all is_option row) h).1 k d (omega arith))

pub row_from : (n : ℕ) (row : List ℕ) (d : ℕ) → length row ≡ n → ((k : ℕ) → k < n → get_or row k d < 16) → is_row n row ≡ true
row_from n row d e h =
    and_from (eqb (length row) n) (list_all is_option row) (eq-eqb (length row) n e)
    (list_all-from_AllPass is_option row (λ k d' l. lt-ltb (get_or row k d') 16 (rw (get_or_default row k d' d l) (h k (omega arith)))))

-- the entries above a line are a row
pub row_take : (n k : ℕ) (row : List ℕ) → is_row n row ≡ true → k ≤ n → is_row k (take k row) ≡ true
row_take n k row h l =
    let len = row_length n row h in
    row_from k (take k row) 0 (length-take-le k row (omega arith)) (λ j i. rw (get_or-take k row j 0 i) (row_option n row h j 0 (omega arith)))
