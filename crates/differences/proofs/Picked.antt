-- One pass over two ascending places: the numbers of the rows that stand in one of them alone. Assumes nothing.
use mathlib.Core.Path.{subst, ◌≡◌, refl, sym, ap, ap₂, ◌∙◌}
use mathlib.Core.Bool.{true, false}
use mathlib.Core.List.{List, [], ◌∷◌, ◌++◌, append_assoc, append-nil}
use Prim.Native.Nat.{ℕ, zero, suc, ◌+◌, ◌-◌, ◌≤◌, ◌<◌, Ordering}
use native.Mathlib.Nat.{add-zero}
use native.Mathlib.Numerals.{add-one}
use native.Mathlib.Omega.{arith}
use lib.ListN.{length, take, drop, set, length-drop, length-set}
use lib.Seq.{paste, sets, drop-drop, drop-set-add, drop-set-lt, length-sets, take-add, take_all, take-set-le, take-suc-set}
use Rattle.model.specs.Row.{Row, ascending, count_from, max_rows, order}
use Rattle.model.specs.Areas.{stride}
use Rattle.laws.proofs.Order.{flip, lt≢eq, lt≢gt, order_flip}
use Rattle.laws.proofs.Parts.{map-append}
use Rattle.laws.proofs.Sets.{Ascending, ascending-holds}
use Rattle.rows.specs.Rows.{row_at, rows_from, first_rows}
use Rattle.rows.proofs.Words.{paste_sets, rows_cons, rows_none}
use Rattle.merges.specs.Merges.{order_first, kept_by}
use Rattle.merges.proofs.Merge.{Gives, first_above, gives_then, kept_passed, kept-passes}
use Rattle.merges.proofs.Merged.{first-left}
use Rattle.areas.proofs.Pasted.{pasted_before, pasted_here}
use Rattle.states.proofs.Worked.{Below, below-append, below_at, length_numbers}
use Rattle.differences.specs.Differences.{chosen, picks_size, Compares, Told}

-- ---- one side of a pass

-- the rows with these numbers, and then those of the rows from i on that are not among the others from j on, are the rows that stand alone
pub record Picked (s : List ℕ) (n : ℕ) (t : List ℕ) (m i j : ℕ) (numbers : List ℕ) : Type 0 where
  pub gives : Gives (kept_by false) (first_rows s n) (first_rows t m) (chosen s numbers) (rows_from stride s i (n - i)) (rows_from stride t j (m - j))
  pub below : Below n numbers

module _ (s : List ℕ) (n : ℕ) (t : List ℕ) (m : ℕ) where
  pub picked_start : Picked s n t m 0 0 []
  unfolding rows_from
  picked_start =
      let a : n - 0 ≡ n = omega arith in
      let b : m - 0 ≡ m = omega arith in
      record { gives = rw (a, b) (λ hl hr. (hl, hr, refl)); below = tt }

  module _ (i j : ℕ) (numbers : List ℕ) (p : Picked s n t m i j numbers) where
    abbrev left_from : ℕ → List Row
    left_from k = rows_from stride s k (n - k)

    abbrev right_from : ℕ → List Row
    right_from k = rows_from stride t k (m - k)

    -- the first row left stands alone
    pub picked_came : i < n → order_first (row_at stride s i) (right_from j) ≡ Ordering.lt → Picked s n t m (i + 1) j (numbers ++ (i ∷ []))
    picked_came h e =
        record {
          gives = rw (map-append (row_at stride s) numbers (i ∷ []))
              (gives_then (kept_by false) (first_rows s n) (first_rows t m) (chosen s numbers) (left_from i) (right_from j) (row_at stride s i ∷ []) (left_from (i + 1)) (right_from j) p.gives
              (rw (rows_cons stride s n i h) ((kept-passes false).less (row_at stride s i) (left_from (i + 1)) (right_from j) e)));
          below = below-append n numbers (i ∷ []) p.below (h, tt);
        }

    -- rows are passed that tell nothing
    passed : (i' j' : ℕ) → Gives (kept_by false) (left_from i) (right_from j) [] (left_from i') (right_from j') → Picked s n t m i' j' numbers
    passed i' j' g =
        record {
          gives = rw (sym (append-nil (chosen s numbers)))
              (gives_then (kept_by false) (first_rows s n) (first_rows t m) (chosen s numbers) (left_from i) (right_from j) [] (left_from i') (right_from j') p.gives g);
          below = p.below;
        }

    module _ (g : j < m) where
      -- the first of the others is below the rows left
      pub picked_past : order_first (row_at stride t j) (left_from i) ≡ Ordering.lt → Picked s n t m i (j + 1) numbers
      picked_past e =
          passed i (j + 1) (rw (rows_cons stride t m j g)
          (λ hl hr. (hl, hr.1, kept_passed false (row_at stride t j) (left_from i) (right_from (j + 1)) (first_above (row_at stride t j) (left_from i) e hl))))

      -- the first rows are one
      pub picked_same : i < n → order (row_at stride s i) (row_at stride t j) ≡ Ordering.eq → Picked s n t m (i + 1) (j + 1) numbers
      picked_same h e =
          passed (i + 1) (j + 1)
          (subst (λ (r : List Row). Gives (kept_by false) (left_from i) r [] (left_from (i + 1)) (right_from (j + 1))) (sym (rows_cons stride t m j g))
          (subst (λ (l : List Row). Gives (kept_by false) l (row_at stride t j ∷ right_from (j + 1)) [] (left_from (i + 1)) (right_from (j + 1))) (sym (rows_cons stride s n i h))
          ((kept-passes false).equal (row_at stride s i) (row_at stride t j) (left_from (i + 1)) (right_from (j + 1)) e)))

    pub picked_all : n ≤ i → Ascending (first_rows s n) → Ascending (first_rows t m) → Told s n (first_rows t m) numbers
    picked_all h hl hr =
        record {
          rows = sym ((p.gives hl hr).2 ∙ ap (λ (l : List Row). chosen s numbers ++ kept_by false l (right_from j)) (rows_none stride s n i h) ∙ append-nil (chosen s numbers));
          below = λ k. below_at n numbers k p.below;
        }

  -- the others are passed: every row left stands alone
  pub picked_rest : (i j : ℕ) (numbers : List ℕ) (k : ℕ) → Picked s n t m i j numbers → m ≤ j → i + k ≤ n → Picked s n t m (i + k) j (numbers ++ count_from i k)
  picked_rest i j numbers zero p h f = rw (append-nil numbers, add-zero i) p
  picked_rest i j numbers (suc k) p h f =
      let e : i + suc k ≡ suc i + k = omega arith in
      let one : Picked s n t m (i + 1) j (numbers ++ (i ∷ [])) = picked_came i j numbers p (omega arith) (ap (order_first (row_at stride s i)) (rows_none stride t m j h)) in
      rw (e, sym (append_assoc numbers (i ∷ []) (count_from (suc i) k))) (picked_rest (suc i) j (numbers ++ (i ∷ [])) k (rw (add-one i) at one) h (omega arith))

-- ---- both sides of a pass

-- what is told of either place
pub record Passed (s : List ℕ) (n : ℕ) (t : List ℕ) (m i j : ℕ) (a b : List ℕ) : Type 0 where
  pub ours : Picked s n t m i j a
  pub theirs : Picked t m s n j i b

module _ (s : List ℕ) (n : ℕ) (t : List ℕ) (m i j : ℕ) (a b : List ℕ) (p : Passed s n t m i j a b) (h : i < n) where
  -- the first of our rows stands alone
  passed_less : order_first (row_at stride s i) (rows_from stride t j (m - j)) ≡ Ordering.lt → Passed s n t m (i + 1) j (a ++ (i ∷ [])) b
  passed_less e = record { ours = picked_came s n t m i j a p.ours h e; theirs = picked_past t m s n j i b p.theirs h e }

  module _ (g : j < m) where
    -- the first rows are one
    passed_equal : order (row_at stride s i) (row_at stride t j) ≡ Ordering.eq → Passed s n t m (i + 1) (j + 1) a b
    passed_equal e =
        let back : order (row_at stride t j) (row_at stride s i) ≡ Ordering.eq = order_flip (row_at stride s i) (row_at stride t j) ∙ ap flip e in
        record { ours = picked_same s n t m i j a p.ours g h e; theirs = picked_same t m s n j i b p.theirs h g back }

    -- the first of their rows stands alone
    passed_greater : order (row_at stride s i) (row_at stride t j) ≡ Ordering.gt → Passed s n t m i (j + 1) a (b ++ (j ∷ []))
    passed_greater e =
        let back : order (row_at stride t j) (row_at stride s i) ≡ Ordering.lt = order_flip (row_at stride s i) (row_at stride t j) ∙ ap flip e in
        let below : order_first (row_at stride t j) (rows_from stride s i (n - i)) ≡ Ordering.lt = rw (rows_cons stride s n i h) back in
        record { ours = picked_past s n t m i j a p.ours g below; theirs = picked_came t m s n j i b p.theirs g below }

-- ---- the numbers in bytes

-- what a pass has told after i old rows and j new ones
pub record Comparing (old : List ℕ) (m : ℕ) (new : List ℕ) (n : ℕ) (i j : ℕ) (picks : List ℕ) (gained lost : ℕ) : Type 0 where
  pub long : length picks ≡ picks_size
  pub old-few : i ≤ m
  pub new-few : j ≤ n
  pub lost-few : lost ≤ i
  pub gained-few : gained ≤ j
  pub passed : Passed new n old m j i (take gained picks) (take lost (drop max_rows picks))

module _ (old : List ℕ) (m : ℕ) (new : List ℕ) (n : ℕ) (hm : m ≤ max_rows) (hn : n ≤ max_rows) where
  module _ (i j : ℕ) (picks : List ℕ) (gained lost : ℕ) (c : Comparing old m new n i j picks gained lost) where
    module _ (h : j < n) where
      pub comparing_less : order_first (row_at stride new j) (rows_from stride old i (m - i)) ≡ Ordering.lt →
          Comparing old m new n i (j + 1) (set picks gained j) (gained + 1) lost
      comparing_less e =
          let came : take (gained + 1) (set picks gained j) ≡ take gained picks ++ (j ∷ []) = rw (add-one gained) (take-suc-set picks gained j (omega (arith, c.long, c.gained-few))) in
          let gone : drop max_rows (set picks gained j) ≡ drop max_rows picks = drop-set-lt max_rows picks gained j (omega (arith, c.gained-few)) in
          record {
            long = length-set picks gained j ∙ c.long;
            old-few = c.old-few;
            new-few = omega arith;
            lost-few = c.lost-few;
            gained-few = omega (arith, c.gained-few);
            passed = rw (came, gone) (passed_less new n old m j i (take gained picks) (take lost (drop max_rows picks)) c.passed h e);
          }

      module _ (o : Ordering) (e : order_first (row_at stride new j) (rows_from stride old i (m - i)) ≡ o) (d : Ordering.lt ≡ o → ⊥) where
        pub old-left : i < m
        old-left = first-left (row_at stride new j) old m i o c.old-few e d

        facing : order (row_at stride new j) (row_at stride old i) ≡ o
        facing = rw (rows_cons stride old m i old-left) at e

      pub comparing_equal : order_first (row_at stride new j) (rows_from stride old i (m - i)) ≡ Ordering.eq → Comparing old m new n (i + 1) (j + 1) picks gained lost
      comparing_equal e =
          record {
            long = c.long;
            old-few = omega (arith, old-left Ordering.eq e lt≢eq);
            new-few = omega arith;
            lost-few = omega (arith, c.lost-few);
            gained-few = omega (arith, c.gained-few);
            passed = passed_equal new n old m j i (take gained picks) (take lost (drop max_rows picks)) c.passed h (old-left Ordering.eq e lt≢eq) (facing Ordering.eq e lt≢eq);
          }

      pub comparing_greater : order_first (row_at stride new j) (rows_from stride old i (m - i)) ≡ Ordering.gt →
          Comparing old m new n (i + 1) j (set picks (max_rows + lost) i) gained (lost + 1)
      comparing_greater e =
          let g : i < m = old-left Ordering.gt e lt≢gt in
          let room : lost < length (drop max_rows picks) = rw (length-drop max_rows picks) (omega (arith, c.long, c.lost-few)) in
          let came : take gained (set picks (max_rows + lost) i) ≡ take gained picks = take-set-le gained picks (max_rows + lost) i (omega (arith, c.gained-few)) in
          let gone : take (lost + 1) (drop max_rows (set picks (max_rows + lost) i)) ≡ take lost (drop max_rows picks) ++ (i ∷ []) =
          rw (add-one lost, drop-set-add max_rows picks lost i) (take-suc-set (drop max_rows picks) lost i room) in
          record {
            long = length-set picks (max_rows + lost) i ∙ c.long;
            old-few = omega arith;
            new-few = c.new-few;
            lost-few = omega (arith, c.lost-few);
            gained-few = c.gained-few;
            passed = rw (came, gone)
                (passed_greater new n old m j i (take gained picks) (take lost (drop max_rows picks)) c.passed h g (facing Ordering.gt e lt≢gt));
          }

    -- the new rows are passed, and the numbers of the old ones that are left are written
    pub comparing_end : n ≤ j → (after : List ℕ) → after ≡ sets picks (max_rows + lost) (count_from i (m - i)) → ascending (first_rows new n) ≡ true →
        ascending (first_rows old m) ≡ true → Compares old m new n after (record { gained = gained; lost = lost + (m - i) })
    comparing_end h after e an ao =
        let rest : List ℕ = count_from i (m - i) in
        let at : ℕ = max_rows + lost in
        let size : length rest ≡ m - i = length_numbers i (m - i) in
        let fits : at + (m - i) ≤ length picks = omega (arith, c.long, c.lost-few, c.old-few) in
        let whole : take (m - i) rest ≡ rest = take_all (m - i) rest (omega (arith, size)) in
        let pasted : after ≡ paste picks at rest (m - i) = e ∙ sym (paste_sets picks rest at (m - i) rest (sym whole) size fits) in
        let enough : m - i ≤ length rest = omega (arith, size) in
        let came : take gained after ≡ take gained picks = ap (take gained) pasted ∙ pasted_before picks rest at (m - i) fits enough 0 gained (omega (arith, c.gained-few)) in
        let gone : take (lost + (m - i)) (drop max_rows after) ≡ take lost (drop max_rows picks) ++ rest =
        take-add lost (m - i) (drop max_rows after)
        ∙ ap₂ {A = List ℕ} {B = List ℕ} {C = List ℕ} (λ a b. a ++ b)
        (ap (λ (l : List ℕ). take lost (drop max_rows l)) pasted ∙ pasted_before picks rest at (m - i) fits enough max_rows lost (omega arith))
        (ap (take (m - i)) (drop-drop lost max_rows after) ∙ ap (λ (l : List ℕ). take (m - i) (drop at l)) pasted ∙ pasted_here picks rest at (m - i) fits enough ∙ whole) in
        let all : i + (m - i) ≡ m = omega (arith, c.old-few) in
        let news : Ascending (first_rows new n) = ascending-holds (first_rows new n) an in
        let olds : Ascending (first_rows old m) = ascending-holds (first_rows old m) ao in
        record {
          long = ap length e ∙ length-sets picks at rest ∙ c.long;
          gained-few = omega (arith, c.gained-few, c.new-few);
          lost-few = omega (arith, c.lost-few, c.old-few);
          came = rw came (picked_all new n old m j i (take gained picks) c.passed.ours h news olds);
          gone = rw gone
              (picked_all old m new n (i + (m - i)) j (take lost (drop max_rows picks) ++ rest)
              (picked_rest old m new n i j (take lost (drop max_rows picks)) (m - i) c.passed.theirs h (omega (arith, all))) (omega (arith, all)) olds news);
        }
