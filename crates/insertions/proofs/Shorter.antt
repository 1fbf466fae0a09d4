-- A row below the last of some rows stands where it stands among those before the last. For rows of any number of words. Assumes nothing.
use mathlib.Core.Path.{◌≡◌, refl, sym, ap, ◌∙◌}
use mathlib.Core.Bool.{true}
use mathlib.Core.List.{List}
use Prim.Native.Nat.{Ordering}
use Prim.Native.Nat.{ℕ, zero, suc, ◌+◌, ◌-◌, ◌<◌}
use native.Mathlib.Omega.{arith}
use Rattle.model.specs.Row.{Row, order, ascending}
use Rattle.laws.proofs.Sets.{Above, Ascending, ascending-holds, ascending_true}
use Rattle.rows.specs.Rows.{row_at, rows_from, first_rows, locate, locate_by}
use Rattle.std.specs.Prelude.{Err}

-- a row belongs at the start of no rows
pub none_located : (r : Row) (s : List ℕ) → Err 0 ≡ locate r (first_rows s 0)
unfolding rows_from
none_located r s = refl

module _ (w : ℕ) (s : List ℕ) where
  above_shorter : (r : Row) (j k : ℕ) → Above r (rows_from w s j (suc k)) → Above r (rows_from w s j k)
  unfolding rows_from
  above_shorter r j zero a = tt
  above_shorter r j (suc k) a = (a.0, above_shorter r (suc j) k a.1)

  ascends : (j k : ℕ) → Ascending (rows_from w s j (suc k)) → Ascending (rows_from w s j k)
  unfolding rows_from
  ascends j zero a = tt
  ascends j (suc k) a = (above_shorter (row_at w s j) (suc j) k a.0, ascends (suc j) k a.1)

  located_before : (r : Row) (j k : ℕ) → order r (row_at w s (j + k)) ≡ Ordering.lt → locate r (rows_from w s j (suc k)) ≡ locate r (rows_from w s j k)
  unfolding rows_from
  located_before r j zero e = let f : j + 0 ≡ j = omega arith in rw (rw f at e)
  located_before r j (suc k) e =
      let f : j + suc k ≡ suc j + k = omega arith in
      ap (locate_by (order r (row_at w s j))) (located_before r (suc j) k (rw f at e))

  module _ (n : ℕ) (some : 0 < n) where
    last : n ≡ suc (n - 1)
    last = omega arith

    pub ascending_shorter : ascending (rows_from w s 0 n) ≡ true → ascending (rows_from w s 0 (n - 1)) ≡ true
    ascending_shorter e = ascending_true (rows_from w s 0 (n - 1)) (ascends 0 (n - 1) (ascending-holds (rows_from w s 0 (suc (n - 1))) (rw last at e)))

    pub located_shorter : (r : Row) → order r (row_at w s (n - 1)) ≡ Ordering.lt → locate r (rows_from w s 0 (n - 1)) ≡ locate r (rows_from w s 0 n)
    located_shorter r e =
        let f : 0 + (n - 1) ≡ n - 1 = omega arith in
        sym (ap (λ (k : ℕ). locate r (rows_from w s 0 k)) last ∙ located_before r 0 (n - 1) (rw f e))
