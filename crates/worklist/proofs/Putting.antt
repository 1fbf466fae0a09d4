-- A node put among entries that stand by level. Assumes nothing.
use Prim.Native.Nat.{ℕ, zero, suc, ◌+◌, ◌-◌, ◌≤◌, ◌<◌, suc-le-suc, zero-le}
use mathlib.Core.Path.{◌≡◌, refl, sym, ap, ◌∙◌}
use mathlib.Core.Bool.{true, false, true≢false}
use mathlib.Core.List.{List, [], ◌∷◌, ◌++◌, append_assoc}
use native.Mathlib.Nat.{le_refl}
use native.Mathlib.Omega.{arith}
use lib.Dec.{ltb}
use lib.ListN.{length, get_or, set, take, drop, replicate, length-append, get_or-append}
use lib.Seq.{slice, take-suc, set_at, length-take-le, get_or-take, append_snoc, take-append_seam, drop-append_seam, drop-append-add}
use borrow.Author.Tests.{le-ltb, lt-ltb}
use Rattle.model.specs.Row.{max_nodes}
use Rattle.model.specs.Areas.{padded}
use Rattle.rows.proofs.Words.{drop_zeros}
use Rattle.insertions.proofs.Gaps.{gap, gap_turn}
use Rattle.worklist.specs.Listed.{is_above, place_for, put_at}

-- ---- the entry before an index

module _ (levels : List ℕ) (level : ℕ) where
  pub above_some : (s : List ℕ) (at : ℕ) → is_above levels level s at ≡ true → 0 < at
  above_some s zero e = absurd (true≢false (sym e))
  above_some s (suc at) e = suc-le-suc zero-le

  -- it depends on the entries before the index alone
  pub above_same : (s t : List ℕ) (at : ℕ) → ((j : ℕ) → j < at → get_or s j 0 ≡ get_or t j 0) → is_above levels level s at ≡ is_above levels level t at
  above_same s t zero h = refl
  above_same s t (suc at) h = ap (λ (x : ℕ). ltb level (get_or levels x 0)) (h at (le_refl (suc at)))

  pub place_down : (s : List ℕ) (at : ℕ) → is_above levels level s at ≡ true → place_for levels level s (at - 1) ≡ place_for levels level s at
  place_down s zero e = absurd (true≢false (sym e))
  place_down s (suc at) e = let n : suc at - 1 ≡ at = omega arith in rw (n, e)

  pub place_stop : (s : List ℕ) (at : ℕ) → is_above levels level s at ≡ false → place_for levels level s at ≡ at
  place_stop s zero e = refl
  place_stop s (suc at) e = rw e

  -- behind the entries that are not above the level, before those that are
  pub place_is : (s : List ℕ) (a m : ℕ) → ((j : ℕ) → j < a → get_or levels (get_or s j 0) 0 ≤ level) → ((j : ℕ) → a ≤ j → j < a + m → level < get_or levels (get_or s j 0) 0) →
      place_for levels level s (a + m) ≡ a
  place_is s zero zero low high = refl
  place_is s (suc a) zero low high =
      let e : suc a + 0 ≡ suc a = omega arith in
      rw (e, le-ltb level (get_or levels (get_or s a 0) 0) (low a (le_refl (suc a))))
  place_is s a (suc m) low high =
      let e : a + suc m ≡ suc (a + m) = omega arith in
      rw (e, lt-ltb level (get_or levels (get_or s (a + m) 0) 0) (high (a + m) (omega arith) (omega arith))) (place_is s a m low (λ j h g. high j h (omega arith)))

-- ---- entries moved one place up

module _ (s : List ℕ) (k : ℕ) (room : k < length s) where
  -- what stands before the gap
  pub gap_before : (at : ℕ) → at ≤ k → (t : List ℕ) → t ≡ gap 1 at k s → (j : ℕ) → j < at → get_or t j 0 ≡ get_or s j 0
  gap_before at h t e j g =
      ap (λ (l : List ℕ). get_or l j 0) e
      ∙ get_or-append (take (at + 1) s) (slice at k s ++ drop (k + 1) s) 0 j (rw (length-take-le (at + 1) s (omega arith)) (omega arith))
      ∙ get_or-take (at + 1) s j 0 (omega arith)

  pub gap_down : (at : ℕ) → 0 < at → at ≤ k → (t : List ℕ) → t ≡ gap 1 at k s → set t at (get_or t (at - 1) 0) ≡ gap 1 (at - 1) k s
  gap_down at p h t e =
      let n : at ≡ at - 1 + 1 = omega arith in
      ap (λ (x : ℕ). set t x (get_or t (at - 1) 0)) n ∙ gap_turn 1 at k s t p h (omega arith) e

  pub gap_put : (at i : ℕ) → at ≤ k → (t : List ℕ) → t ≡ gap 1 at k s → set t at i ≡ put_at at k i s
  gap_put at i h t e =
      let n : at + 1 ≡ suc at = omega arith in
      let front : take (at + 1) s ≡ take at s ++ (get_or s at 0 ∷ []) = rw n (take-suc s at 0 (omega arith)) in
      let rest : List ℕ = slice at k s ++ drop (k + 1) s in
      ap (λ (l : List ℕ). set l at i) (e ∙ ap (λ (l : List ℕ). l ++ rest) front ∙ append_snoc (take at s) (get_or s at 0) rest)
      ∙ set_at (take at s) (get_or s at 0) rest i at (length-take-le at s (omega arith))

-- ---- entries, then zeros

module _ (low high : List ℕ) where
  abbrev all : List ℕ
  all = padded max_nodes (low ++ high)

  pub front_at : (j : ℕ) → j < length (low ++ high) → get_or (padded max_nodes (low ++ high)) j 0 ≡ get_or (low ++ high) j 0
  front_at j h = get_or-append (low ++ high) (replicate (max_nodes - length (low ++ high)) 0) 0 j h

  pub put-padded : (i : ℕ) → length (low ++ high) < max_nodes → put_at (length low) (length (low ++ high)) i (padded max_nodes (low ++ high)) ≡ padded max_nodes (low ++ (i ∷ high))
  put-padded i room =
      let zeros : List ℕ = replicate (max_nodes - length (low ++ high)) 0 in
      let k : ℕ = length (low ++ high) in
      let front : take (length low) all ≡ low = ap (take (length low)) (append_assoc low high zeros) ∙ take-append_seam low (high ++ zeros) in
      let back : slice (length low) k all ≡ high = ap (drop (length low)) (take-append_seam (low ++ high) zeros) ∙ drop-append_seam low high in
      let more : length (low ++ (i ∷ high)) ≡ k + 1 = omega (arith, length-append low (i ∷ high), length-append low high) in
      let n : max_nodes - k - 1 ≡ max_nodes - length (low ++ (i ∷ high)) = omega arith in
      let rest : drop (k + 1) all ≡ replicate (max_nodes - length (low ++ (i ∷ high))) 0 = drop-append-add (low ++ high) zeros 1 ∙ drop_zeros 1 (max_nodes - k)
      ∙ ap (λ (x : ℕ). replicate {A = ℕ} x 0) n in
      rw (front, back, rest) (sym (append_assoc low (i ∷ high) (replicate (max_nodes - length (low ++ (i ∷ high))) 0)))
