-- Masks: made column by column, and what the mask of a join keeps. Assumes nothing.
use mathlib.Core.Path.{◌≡◌, refl, sym, ap, ◌∙◌}
use mathlib.Core.Bool.{Bool, true, false, cond, ◌&&◌, ◌||◌, or-true}
use mathlib.Core.List.{List, [], ◌∷◌, ◌++◌, map, append-nil}
use Prim.Native.Nat.{ℕ, zero, suc, ◌+◌, ◌-◌, ◌*◌, ◌≤◌, ◌<◌}
use native.Mathlib.Nat.{not-suc-le-zero, le_of_suc-le-suc, zero-add}
use native.Mathlib.Numerals.{add-one}
use native.Mathlib.Omega.{arith}
use lib.Dec.{eqb, leb, ltb}
use lib.ListN.{length, get_or, set, take, drop, replicate, length-set}
use lib.Seq.{ext_get_or, take-suc, get_or-drop, get_or-set_same, get_or-set_other}
use borrow.Author.Tests.{lt-ltb, le-leb, ltb-true, eqb-true, eqb-false, eq-eqb}
use Rattle.model.specs.Row.{count_from, keep, keep_if, numbers_below}
use Rattle.model.specs.Areas.{stride}
use Rattle.model.specs.Network.{columns_below, pairs_below}
use Rattle.laws.proofs.Parts.{map-append, keep_append, numbers_more, length-counted, counted_at}
use Rattle.laws.proofs.Sets.{and_first, and_second, and_both}
use Rattle.nodes.specs.Nodes.{pairs_of}
use Rattle.masks.specs.Masks.{JoinFits, pair_columns, columns_from, among, keeping, is_used, used_columns}
use Rattle.masks.specs.declared.Joining.{Joining}

-- ---- the columns of pairs

-- pair k, of pairs whose columns are below the stride
pub pair_below : (pairs : List ℕ) (p k : ℕ) → pairs_below stride stride (pairs_of p pairs) ≡ true → k < p → (get_or pairs (2 * k) 0 < stride) × (get_or pairs (2 * k + 1) 0 < stride)
pair_below pairs zero k e h = absurd (not-suc-le-zero h)
pair_below pairs (suc p) zero e h =
    let b : (ltb (get_or pairs 0 0) stride && ltb (get_or pairs 1 0) stride)
    ≡ true = and_first (ltb (get_or pairs 0 0) stride && ltb (get_or pairs 1 0) stride) (pairs_below stride stride (pairs_of p (drop 2 pairs))) e in (
      ltb-true (get_or pairs 0 0) stride (and_first (ltb (get_or pairs 0 0) stride) (ltb (get_or pairs 1 0) stride) b),
      ltb-true (get_or pairs 1 0) stride (and_second (ltb (get_or pairs 0 0) stride) (ltb (get_or pairs 1 0) stride) b),
    )
pair_below pairs (suc p) (suc k) e h =
    let b : (ltb (get_or pairs 0 0) stride && ltb (get_or pairs 1 0) stride)
    ≡ true = and_first (ltb (get_or pairs 0 0) stride && ltb (get_or pairs 1 0) stride) (pairs_below stride stride (pairs_of p (drop 2 pairs))) e in
    let ih : (get_or (drop 2 pairs) (2 * k) 0 < stride) × (get_or (drop 2 pairs) (2 * k + 1) 0 < stride) = pair_below (drop 2 pairs) p k
    (and_second (ltb (get_or pairs 0 0) stride && ltb (get_or pairs 1 0) stride) (pairs_below stride stride (pairs_of p (drop 2 pairs))) e) (le_of_suc-le-suc h) in
    let f : 2 * suc k ≡ 2 + 2 * k = omega arith in
    let g : 2 * suc k + 1 ≡ 2 + (2 * k + 1) = omega arith in
    (rw (f, ← get_or-drop 2 pairs (2 * k) 0) ih.0, rw (g, ← get_or-drop 2 pairs (2 * k + 1) 0) ih.1)

pub side_below : (pairs : List ℕ) (p j side : ℕ) → pairs_below stride stride (pairs_of p pairs) ≡ true → j < p → side ≤ 1 → get_or pairs (2 * j + side) 0 < stride
side_below pairs p j zero e h g = let z : 2 * j + 0 ≡ 2 * j = omega arith in rw z (pair_below pairs p j e h).0
side_below pairs p j (suc zero) e h g = (pair_below pairs p j e h).1
side_below pairs p j (suc (suc side)) e h g = absurd (omega arith)

-- the columns of one pair more
pub pairs_more : (pairs : List ℕ) (side j : ℕ) → pair_columns pairs (j + 1) side ≡ pair_columns pairs j side ++ (get_or pairs (2 * j + side) 0 ∷ [])
pairs_more pairs side j =
    let f : ℕ → ℕ = λ i. get_or pairs (2 * i + side) 0 in
    ap (map f) (numbers_more j) ∙ map-append f (numbers_below j) (j ∷ [])

-- ---- columns from a first one up to an end

-- up to column j, and one column more
module _ (first end : ℕ) (columns : List ℕ) (j : ℕ) (h : j < length columns) where
  columns-turn : (t : Bool) → (leb first (get_or columns j 0) && ltb (get_or columns j 0) end) ≡ t →
      columns_from first end (take (j + 1) columns) ≡ columns_from first end (take j columns) ++ map (λ c. c - first) (keep_if t (get_or columns j 0) [])
  columns-turn t e =
      let p : ℕ → Bool = λ c. leb first c && ltb c end in
      let one : take (j + 1) columns ≡ take j columns ++ (get_or columns j 0 ∷ []) = rw add-one (take-suc columns j 0 h) in
      ap (columns_from first end) one ∙ ap (map (λ c. c - first)) (keep_append p (take j columns) (get_or columns j 0 ∷ []))
      ∙ map-append (λ c. c - first) (keep p (take j columns)) (keep p (get_or columns j 0 ∷ []))
      ∙ ap (λ (b : Bool). columns_from first end (take j columns) ++ map (λ c. c - first) (keep_if b (get_or columns j 0) [])) e

  pub column-kept : first ≤ get_or columns j 0 → get_or columns j 0 < end →
      columns_from first end (take (j + 1) columns) ≡ columns_from first end (take j columns) ++ ((get_or columns j 0 - first) ∷ [])
  column-kept f g = columns-turn true (and_both (leb first (get_or columns j 0)) (ltb (get_or columns j 0) end) (le-leb first (get_or columns j 0) f) (lt-ltb (get_or columns j 0) end g))

  pub column_passed : (leb first (get_or columns j 0) && ltb (get_or columns j 0) end) ≡ false → columns_from first end (take (j + 1) columns) ≡ columns_from first end (take j columns)
  column_passed e = columns-turn false e ∙ append-nil (columns_from first end (take j columns))

-- ---- a mask made

pub keeping-long : (columns used : List ℕ) → length (keeping columns used) ≡ stride
unfolding keeping
keeping-long columns used = length-counted (λ k. cond (among columns k) k (get_or used k 0)) 0 stride

keeping_at : (columns used : List ℕ) (k : ℕ) → k < stride → get_or (keeping columns used) k 0 ≡ cond (among columns k) k (get_or used k 0)
unfolding keeping
keeping_at columns used k h = let f : ℕ → ℕ = λ i. cond (among columns i) i (get_or used i 0) in counted_at 0 f 0 stride k h ∙ ap f (zero-add k)

-- a mask that keeps no column more
pub keeping_none : (used : List ℕ) → length used ≡ stride → used ≡ keeping [] used
keeping_none used e = ext_get_or 0 used (keeping [] used) (e ∙ sym (keeping-long [] used)) (λ k h. sym (keeping_at [] used k (omega arith)))

among_more : (columns : List ℕ) (c k : ℕ) → among (columns ++ (c ∷ [])) k ≡ (eqb k c || among columns k)
among_more [] c k = refl
among_more (d ∷ columns) c k = ap (λ (t : Bool). eqb k d || t) (among_more columns c k) ∙ go (eqb k d) (eqb k c)
  where
    go : (t u : Bool) → (t || (u || among columns k)) ≡ (u || (t || among columns k))
    go true true = refl
    go true false = refl
    go false u = refl

-- a mask that keeps one column more
pub keeping_more : (columns used : List ℕ) (c : ℕ) → c < stride → set (keeping columns used) c c ≡ keeping (columns ++ (c ∷ [])) used
keeping_more columns used c h =
    ext_get_or 0 (set (keeping columns used) c c) (keeping (columns ++ (c ∷ [])) used)
    (length-set (keeping columns used) c c ∙ keeping-long columns used ∙ sym (keeping-long (columns ++ (c ∷ [])) used))
    (λ k g. let b : k < stride = omega (arith, length-set (keeping columns used) c c, keeping-long columns used) in
    go k b (eqb k c) refl ∙ ap (λ (t : Bool). cond t k (get_or used k 0)) (sym (among_more columns c k)) ∙ sym (keeping_at (columns ++ (c ∷ [])) used k b))
  where
    go : (k : ℕ) → k < stride → (t : Bool) → eqb k c ≡ t → get_or (set (keeping columns used) c c) k 0 ≡ cond (t || among columns k) k (get_or used k 0)
    go k b true e =
        let f : k ≡ c = eqb-true k c e in
        ap (λ (i : ℕ). get_or (set (keeping columns used) c c) i 0) f ∙ get_or-set_same (keeping columns used) c c 0 (omega (arith, keeping-long columns used)) ∙ sym f
    go k b false e = get_or-set_other (keeping columns used) c k c 0 (eqb-false k c e) ∙ keeping_at columns used k b

-- ---- the mask of a join

module _ (how : Joining) (side first end : ℕ) where
  used_long : length (used_columns how side first end) ≡ stride
  unfolding used_columns
  used_long = length-counted (λ k. cond (is_used how side first end k) k stride) 0 stride

  used_at : (k : ℕ) → k < stride → get_or (used_columns how side first end) k 0 ≡ cond (is_used how side first end k) k stride
  unfolding used_columns
  used_at k h = let f : ℕ → ℕ = λ i. cond (is_used how side first end i) i stride in counted_at 0 f 0 stride k h ∙ ap f (zero-add k)

  -- the pairs' columns kept in the mask that keeps none, then the columns given
  pub used_made : keeping (columns_from first end (take how.n how.columns)) (keeping (pair_columns how.pairs how.p side) (replicate stride stride)) ≡ used_columns how side first end
  used_made =
      let given : List ℕ = columns_from first end (take how.n how.columns) in
      let paired : List ℕ = pair_columns how.pairs how.p side in
      ext_get_or 0 (keeping given (keeping paired (replicate stride stride))) (used_columns how side first end)
      (keeping-long given (keeping paired (replicate stride stride)) ∙ sym used_long)
      (λ k g. let b : k < stride = omega (arith, keeping-long given (keeping paired (replicate stride stride))) in
      keeping_at given (keeping paired (replicate stride stride)) k b ∙ ap (cond (among given k) k) (keeping_at paired (replicate stride stride) k b ∙ ap (cond (among paired k) k) (full k
      stride b))
      ∙ go (among paired k) (among given k) k ∙ sym (used_at k b))
    where
      full : (k n : ℕ) → k < n → get_or (replicate n stride) k 0 ≡ stride
      full k zero h = absurd (not-suc-le-zero h)
      full zero (suc n) h = refl
      full (suc k) (suc n) h = full k n (le_of_suc-le-suc h)

      go : (t u : Bool) (k : ℕ) → cond u k (cond t k stride) ≡ cond (t || u) k stride
      go true true k = refl
      go true false k = refl
      go false u k = refl

-- ---- what a mask keeps

-- columns of rows followed by zeros, one for each word of a row
pub record Mask (used : List ℕ) : Type 0 where
  pub size : length used ≡ stride
  pub below : columns_below (stride + stride) used ≡ true

-- a mask keeps a column
abbrev pub Keeps : List ℕ → ℕ → Type 0
Keeps used c = (c < stride) × (get_or used c 0 ≡ c)

-- a mask keeps what a join uses of a side, whose columns are from the first up to the end
pub record Uses (how : Joining) (side first end : ℕ) (used : List ℕ) : Type 0 where
  pub mask : Mask used
  pub pairs : (j : ℕ) → j < how.p → Keeps used (get_or how.pairs (2 * j + side) 0)
  pub columns : (j : ℕ) → j < how.n → first ≤ get_or how.columns j 0 → get_or how.columns j 0 < end → Keeps used (get_or how.columns j 0 - first)

columns-counted : (w : ℕ) (f : ℕ → ℕ) (i n : ℕ) → ((k : ℕ) → k < i + n → f k < w) → columns_below w (map f (count_from i n)) ≡ true
columns-counted w f i zero h = refl
columns-counted w f i (suc n) h =
    and_both (ltb (f i) w) (columns_below w (map f (count_from (suc i) n))) (lt-ltb (f i) w (h i (omega arith))) (columns-counted w f (suc i) n (λ k g. h k (omega arith)))

among_at : (columns : List ℕ) (j k : ℕ) → j < length columns → get_or columns j 0 ≡ k → among columns k ≡ true
among_at [] j k h e = absurd (not-suc-le-zero h)
among_at (c ∷ columns) zero k h e = ap (λ (t : Bool). t || among columns k) (eq-eqb k c (sym e))
among_at (c ∷ columns) (suc j) k h e = ap (λ (t : Bool). eqb k c || t) (among_at columns j k (le_of_suc-le-suc h) e) ∙ or-true (eqb k c)

among-from : (first end : ℕ) (columns : List ℕ) (n j : ℕ) → j < n → j < length columns → first ≤ get_or columns j 0 → get_or columns j 0 < end →
    among (columns_from first end (take n columns)) (get_or columns j 0 - first) ≡ true
among-from first end [] n j g h f l = absurd (not-suc-le-zero h)
among-from first end (c ∷ columns) zero j g h f l = absurd (not-suc-le-zero g)
among-from first end (c ∷ columns) (suc n) zero g h f l =
    ap (λ (t : Bool). among (map (λ d. d - first) (keep_if t c (keep (λ d. leb first d && ltb d end) (take n columns)))) (c - first))
    (and_both (leb first c) (ltb c end) (le-leb first c f) (lt-ltb c end l))
    ∙ ap (λ (t : Bool). t || among (columns_from first end (take n columns)) (c - first)) (eq-eqb (c - first) (c - first) refl)
among-from first end (c ∷ columns) (suc n) (suc j) g h f l =
    go (leb first c && ltb c end) (among-from first end columns n j (le_of_suc-le-suc g) (le_of_suc-le-suc h) f l)
  where
    go : (t : Bool) → among (columns_from first end (take n columns)) (get_or columns j 0 - first) ≡ true →
        among (map (λ d. d - first) (keep_if t c (keep (λ d. leb first d && ltb d end) (take n columns)))) (get_or columns j 0 - first) ≡ true
    go true e = ap (λ (t : Bool). eqb (get_or columns j 0 - first) (c - first) || t) e ∙ or-true (eqb (get_or columns j 0 - first) (c - first))
    go false e = e

module _ (how : Joining) (fits : JoinFits how) (side first end : ℕ) (hs : side ≤ 1) (he : end ≤ first + stride) where
  used_below : columns_below (stride + stride) (used_columns how side first end) ≡ true
  unfolding used_columns
  used_below = columns-counted (stride + stride) (λ k. cond (is_used how side first end k) k stride) 0 stride (λ k h. go k (is_used how side first end k) (omega arith))
    where
      go : (k : ℕ) (t : Bool) → k < stride → cond t k stride < stride + stride
      go k true h = omega arith
      go k false h = omega arith

  used_keeps : (k : ℕ) → k < stride → is_used how side first end k ≡ true → Keeps (used_columns how side first end) k
  used_keeps k h e = (h, used_at how side first end k h ∙ ap (λ (t : Bool). cond t k stride) e)

  used_by_join : Uses how side first end (used_columns how side first end)
  used_by_join =
      record {
        mask = record { size = used_long how side first end; below = used_below };
        pairs =
            λ j h. let c : ℕ = get_or how.pairs (2 * j + side) 0 in
            let f : ℕ → ℕ = λ i. get_or how.pairs (2 * i + side) 0 in
            used_keeps c (side_below how.pairs how.p j side fits.pairs h hs)
            (ap (λ (t : Bool). t || among (columns_from first end (take how.n how.columns)) c)
            (among_at (pair_columns how.pairs how.p side) j c (rw (length-counted f 0 how.p) h) (counted_at 0 f 0 how.p j h ∙ ap f (zero-add j))));
        columns =
            λ j h f l. let c : ℕ = get_or how.columns j 0 - first in
            used_keeps c (omega arith)
            (ap (λ (t : Bool). among (pair_columns how.pairs how.p side) c || t) (among-from first end how.columns how.n j h (omega (arith, fits.columns-long)) f l)
            ∙ or-true (among (pair_columns how.pairs how.p side) c));
      }

  pub uses : (used : List ℕ) → used ≡ used_columns how side first end → Uses how side first end used
  uses used e = rw e used_by_join
