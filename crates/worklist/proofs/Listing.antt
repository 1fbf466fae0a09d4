-- The worked list, node by node. Assumes nothing.
use Prim.Native.Nat.{ℕ, zero, suc, ◌+◌, ◌-◌, ◌≤◌, ◌<◌, suc-le-suc, zero-le}
use mathlib.Core.Path.{◌≡◌, refl, sym, ap, ap₂, ◌∙◌}
use mathlib.Core.Bool.{Bool, true, false, ◌&&◌}
use mathlib.Core.List.{List, [], ◌∷◌, ◌++◌, append_assoc, append-nil, flat_map}
use native.Mathlib.Nat.{le_refl, not-suc-le-zero, le_of_suc-le-suc}
use native.Mathlib.Omega.{arith}
use lib.ListN.{length, get_or, replicate, length-append, get_or-append}
use lib.Seq.{append_snoc, get_or-append-add}
use lib.Dec.{eqb}
use borrow.Author.Tests.{eqb-true, eq-eqb, ne_eqb}
use Rattle.model.specs.Row.{numbers_below, count_from, keep, keep_if, max_nodes}
use Rattle.model.specs.Areas.{padded}
use Rattle.laws.proofs.Parts.{numbers_more, keep_append, flat_append, flat_one, count_more}
use Rattle.laws.proofs.Sets.{and_first}
use Rattle.states.proofs.Worked.{at_most_once, length_numbers}
use Rattle.states.proofs.Head.{padded-length}
use Rattle.worklist.specs.Listed.{is_of_level, level_list, due_list, place_for, put_at}
use Rattle.worklist.proofs.Putting.{place_is, front_at, put-padded}

-- ---- numbers that pass a test, and lists of counted numbers

keep_more : (p : ℕ → Bool) (n : ℕ) → keep p (numbers_below (n + 1)) ≡ keep p (numbers_below n) ++ keep_if (p n) n []
keep_more p n = ap (keep p) (numbers_more n) ∙ keep_append p (numbers_below n) (n ∷ [])

pub keep_none : (p : ℕ → Bool) (from n : ℕ) → ((i : ℕ) → from ≤ i → i < from + n → p i ≡ false) → keep p (count_from from n) ≡ []
keep_none p from zero h = refl
keep_none p from (suc n) h = rw (h from (le_refl from) (omega arith)) (keep_none p (suc from) n (λ i a b. h i (omega arith) (omega arith)))

pub flat_same : (f g : ℕ → List ℕ) (from n : ℕ) → ((l : ℕ) → from ≤ l → l < from + n → f l ≡ g l) → flat_map f (count_from from n) ≡ flat_map g (count_from from n)
unfolding flat_map
flat_same f g from zero h = refl
flat_same f g from (suc n) h =
    ap₂ {A = List ℕ} {B = List ℕ} {C = List ℕ} (λ a b. a ++ b) (h from (le_refl from) (omega arith)) (flat_same f g (suc from) n (λ l a b. h l (omega arith) (omega arith)))

flat_split : (f : ℕ → List ℕ) (from a b : ℕ) → flat_map f (count_from from (a + b)) ≡ flat_map f (count_from from a) ++ flat_map f (count_from (from + a) b)
unfolding flat_map
flat_split f from zero b = let e : 0 + b ≡ b = omega arith in let z : from + 0 ≡ from = omega arith in rw (e, z)
flat_split f from (suc a) b =
    let e : suc a + b ≡ suc (a + b) = omega arith in
    let z : from + suc a ≡ suc from + a = omega arith in
    rw (e, z) (ap (λ (l : List ℕ). f from ++ l) (flat_split f (suc from) a b) ∙ sym (append_assoc (f from) (flat_map f (count_from (suc from) a)) (flat_map f (count_from (suc from + a) b))))

-- the last number gives its list
flat_last : (f : ℕ → List ℕ) (from n : ℕ) → flat_map f (count_from from (suc n)) ≡ flat_map f (count_from from n) ++ f (from + n)
flat_last f from n = ap (flat_map f) (count_more from n) ∙ flat_append f (count_from from n) ((from + n) ∷ []) ∙ ap (λ (l : List ℕ). flat_map f (count_from from n) ++ l) (flat_one f (from + n))

-- the first number gives nothing
pub flat_first : (f : ℕ → List ℕ) (n : ℕ) → f 0 ≡ [] → flat_map f (numbers_below n) ≡ flat_map f (count_from 1 (n - 1))
unfolding flat_map
flat_first f zero e = refl
flat_first f (suc n) e = let z : suc n - 1 ≡ n = omega arith in rw (z, e)

-- ---- what holds of every entry

-- every number of a list is such
abbrev AllAre : (ℕ → Type 0) → List ℕ → Type 0
AllAre P l = (j : ℕ) → j < length l → P (get_or l j 0)

module _ (P : ℕ → Type 0) where
  are-append : (a b : List ℕ) → AllAre P a → AllAre P b → AllAre P (a ++ b)
  are-append [] b x y j h = y j h
  are-append (z ∷ a) b x y zero h = x 0 (suc-le-suc zero-le)
  are-append (z ∷ a) b x y (suc j) h = are-append a b (λ i g. x (suc i) (suc-le-suc g)) y j (le_of_suc-le-suc h)

  are-keep : (p : ℕ → Bool) (from n : ℕ) → ((x : ℕ) → from ≤ x → x < from + n → p x ≡ true → P x) → AllAre P (keep p (count_from from n))
  are-keep p from zero h = λ j g. absurd (not-suc-le-zero g)
  are-keep p from (suc n) h = go (p from) refl (are-keep p (suc from) n (λ x a b. h x (omega arith) (omega arith)))
    where
      go : (t : Bool) → p from ≡ t → AllAre P (keep p (count_from (suc from) n)) → AllAre P (keep_if t from (keep p (count_from (suc from) n)))
      go true e rest zero g = h from (le_refl from) (omega arith) e
      go true e rest (suc j) g = rest j (le_of_suc-le-suc g)
      go false e rest j g = rest j g

  are_flat : (f : ℕ → List ℕ) (from n : ℕ) → ((l : ℕ) → from ≤ l → l < from + n → AllAre P (f l)) → AllAre P (flat_map f (count_from from n))
  unfolding flat_map
  are_flat f from zero h = λ j g. absurd (not-suc-le-zero g)
  are_flat f from (suc n) h = are-append (f from) (flat_map f (count_from (suc from) n)) (h from (le_refl from) (omega arith)) (are_flat f (suc from) n (λ l a b. h l (omega arith) (omega arith)))

-- ---- one node more

module _ (levels : List ℕ) (due : List Bool) where
  abbrev level : ℕ → ℕ
  level i = get_or levels i 0

  -- the entries of some levels are nodes of them
  are-listed : (n from m : ℕ) → AllAre (λ x. (x < n) × (from ≤ get_or levels x 0) × (get_or levels x 0 < from + m)) (flat_map (level_list levels due n) (count_from from m))
  are-listed n from m =
      are_flat (λ x. (x < n) × (from ≤ get_or levels x 0) × (get_or levels x 0 < from + m)) (level_list levels due n) from m
      (λ l a b.
      are-keep (λ x. (x < n) × (from ≤ get_or levels x 0) × (get_or levels x 0 < from + m)) (is_of_level levels due l) 0 n
      (λ x p q e.
      let own : level x ≡ l = eqb-true (level x) l (and_first (eqb (level x) l) (get_or due x false) e) in
      (omega arith, omega arith, omega arith)))

  level_other : (i l : ℕ) → is_of_level levels due l i ≡ false → level_list levels due (i + 1) l ≡ level_list levels due i l
  level_other i l e = keep_more (is_of_level levels due l) i ∙ rw e (append-nil (level_list levels due i l))

  level_own : (i l : ℕ) → is_of_level levels due l i ≡ true → level_list levels due (i + 1) l ≡ level_list levels due i l ++ (i ∷ [])
  level_own i l e = keep_more (is_of_level levels due l) i ∙ rw e

  pub unmarked_of : (i : ℕ) → get_or due i false ≡ false → (l : ℕ) → 1 ≤ l → is_of_level levels due l i ≡ false
  unmarked_of i e l h = rw e (none (eqb (get_or levels i 0) l))
    where
      none : (t : Bool) → (t && false) ≡ false
      none true = refl
      none false = refl

  pub table_of : (i : ℕ) → get_or levels i 0 ≡ 0 → (l : ℕ) → 1 ≤ l → is_of_level levels due l i ≡ false
  table_of i e l h = ap (λ (t : Bool). t && get_or due i false) (ne_eqb (get_or levels i 0) l (λ f. absurd (omega arith)))

  -- no more entries than nodes
  pub due_few : (n : ℕ) → length (due_list levels due n) ≤ n
  unfolding flat_map
  due_few zero = zero-le
  due_few (suc n) =
      let f : ℕ → List ℕ = level_list levels due (suc n) in
      let z : suc n - 1 ≡ n = omega arith in
      rw z (omega (arith, at_most_once (λ i. get_or levels i 0) (λ i. get_or due i false) (suc n) (numbers_below (suc n)), length_numbers 0 (suc n), length-append (f 0) (flat_map f (count_from 1 n))))

  -- the entries of the nodes before one: room for one more, and each is one of them
  module _ (i : ℕ) (few : i < max_nodes) (s : List ℕ) (k : ℕ) (is : s ≡ padded max_nodes (due_list levels due i)) (many : k ≡ length (due_list levels due i)) where
    pub node-room : k < length s
    node-room = rw (ap length is ∙ padded-length max_nodes (due_list levels due i) (omega (arith, due_few i))) (omega (arith, due_few i))

    pub node_entries : (j : ℕ) → j < k → get_or s j 0 < i
    node_entries j h =
        rw (is, get_or-append (due_list levels due i) (replicate (max_nodes - length (due_list levels due i)) 0) 0 j (omega arith)) (are-listed i 1 (i - 1) j (omega arith)).0

  module _ (low : (i : ℕ) → get_or levels i 0 ≤ i) where
    -- no node of the first n has level n
    due_top : (n : ℕ) → flat_map (level_list levels due n) (count_from 1 n) ≡ due_list levels due n
    due_top zero = refl
    due_top (suc n) =
        let z : suc n - 1 ≡ n = omega arith in
        flat_last (level_list levels due (suc n)) 1 n
        ∙ rw (
          z,
          keep_none (is_of_level levels due (1 + n)) 0 (suc n)
              (λ i a b. ap (λ (t : Bool). t && get_or due i false) (ne_eqb (get_or levels i 0) (1 + n) (λ e. absurd (omega (arith, low i, e))))),
        )
        (append-nil (flat_map (level_list levels due (suc n)) (count_from 1 n)))

    due_next : (i : ℕ) → due_list levels due (i + 1) ≡ flat_map (level_list levels due (i + 1)) (count_from 1 i)
    due_next i = let z : i + 1 - 1 ≡ i = omega arith in rw z

    -- a node that is not listed leaves the entries as they are
    pub node_skip : (i : ℕ) (s : List ℕ) (k : ℕ) → s ≡ padded max_nodes (due_list levels due i) → k ≡ length (due_list levels due i) → ((l : ℕ) → 1 ≤ l → is_of_level levels due l i ≡ false) →
        (s ≡ padded max_nodes (due_list levels due (i + 1))) × (k ≡ length (due_list levels due (i + 1)))
    node_skip i s k is many h =
        let same : due_list levels due i ≡ due_list levels due (i + 1) = sym
        (due_next i ∙ flat_same (level_list levels due (i + 1)) (level_list levels due i) 1 i (λ l a b. level_other i l (h l a)) ∙ due_top i) in
        (is ∙ ap (padded max_nodes) same, many ∙ ap length same)

    -- a node that is listed: behind the entries of its level and below, before those above
    module _ (i : ℕ) (derived : get_or levels i 0 ≡ 0 → ⊥) (marked : get_or due i false ≡ true) where
      -- the entries of its level and below
      abbrev lower : List ℕ
      lower = flat_map (level_list levels due i) (count_from 1 (get_or levels i 0))

      -- those above
      abbrev higher : List ℕ
      higher = flat_map (level_list levels due i) (count_from (1 + get_or levels i 0) (i - get_or levels i 0))

      due_split : due_list levels due i ≡ lower ++ higher
      due_split =
          let z : i ≡ level i + (i - level i) = omega (arith, low i) in
          sym (due_top i) ∙ ap (λ (n : ℕ). flat_map (level_list levels due i) (count_from 1 n)) z ∙ flat_split (level_list levels due i) 1 (level i) (i - level i)

      other : (l : ℕ) → (get_or levels i 0 ≡ l → ⊥) → level_list levels due (i + 1) l ≡ level_list levels due i l
      other l h = level_other i l (ap (λ (t : Bool). t && get_or due i false) (ne_eqb (level i) l h))

      lower_more : flat_map (level_list levels due (i + 1)) (count_from 1 (get_or levels i 0)) ≡ lower ++ (i ∷ [])
      lower_more =
          let m : ℕ = level i - 1 in
          let z : level i ≡ suc m = omega (arith, derived) in
          let own : is_of_level levels due (1 + m) i ≡ true = rw marked (ap (λ (t : Bool). t && true) (eq-eqb (level i) (1 + m) (omega arith))) in
          let f : ℕ → List ℕ = level_list levels due i in
          let g : ℕ → List ℕ = level_list levels due (i + 1) in
          ap (λ (n : ℕ). flat_map g (count_from 1 n)) z
          ∙ flat_last g 1 m
          ∙ ap₂ {A = List ℕ} {B = List ℕ} {C = List ℕ} (λ a b. a ++ b) (flat_same g f 1 m (λ l a b. other l (λ e. absurd (omega arith)))) (level_own i (1 + m) own)
          ∙ sym (append_assoc (flat_map f (count_from 1 m)) (f (1 + m)) (i ∷ []))
          ∙ ap (λ (l : List ℕ). l ++ (i ∷ [])) (sym (flat_last f 1 m) ∙ ap (λ (n : ℕ). flat_map f (count_from 1 n)) (sym z))

      due_put : due_list levels due (i + 1) ≡ lower ++ (i ∷ higher)
      due_put =
          let z : i ≡ level i + (i - level i) = omega (arith, low i) in
          let g : ℕ → List ℕ = level_list levels due (i + 1) in
          due_next i
          ∙ ap (λ (n : ℕ). flat_map g (count_from 1 n)) z
          ∙ flat_split g 1 (level i) (i - level i)
          ∙ ap₂ {A = List ℕ} {B = List ℕ} {C = List ℕ} (λ a b. a ++ b) lower_more
          (flat_same g (level_list levels due i) (1 + level i) (i - level i) (λ l a b. other l (λ e. absurd (omega arith))))
          ∙ append_snoc lower i higher

      -- the entries of the nodes before it, and the node put among them
      module _ (s : List ℕ) (k : ℕ) (few : i < max_nodes) (is : s ≡ padded max_nodes (due_list levels due i)) (many : k ≡ length (due_list levels due i)) where
        s_split : s ≡ padded max_nodes (lower ++ higher)
        s_split = is ∙ ap (padded max_nodes) due_split

        k_split : k ≡ length (lower ++ higher)
        k_split = many ∙ ap length due_split

        s_lower : (j : ℕ) → j < length lower → get_or s j 0 ≡ get_or lower j 0
        s_lower j h = ap (λ (l : List ℕ). get_or l j 0) s_split ∙ front_at lower higher j (omega (arith, length-append lower higher)) ∙ get_or-append lower higher 0 j h

        s_higher : (j : ℕ) → j < length higher → get_or s (length lower + j) 0 ≡ get_or higher j 0
        s_higher j h = ap (λ (l : List ℕ). get_or l (length lower + j) 0) s_split ∙ front_at lower higher (length lower + j) (omega (arith, length-append lower higher))
            ∙ get_or-append-add lower higher j 0

        place_at_lem : place_for levels (get_or levels i 0) s k ≡ length lower
        place_at_lem =
            ap (place_for levels (level i) s) (k_split ∙ length-append lower higher) ∙ place_is levels (level i) s (length lower) (length higher)
            (λ j h. rw (s_lower j h) (omega (arith, are-listed i 1 (level i) j h)))
            (λ j h g.
            let d : ℕ = j - length lower in
            let e : j ≡ length lower + d = omega arith in
            let r : d < length higher = omega arith in
            rw (e, s_higher d r) (omega (arith, are-listed i (1 + level i) (i - level i) d r)))

        pub node-put : (after : List ℕ) → after ≡ put_at (place_for levels (get_or levels i 0) s k) k i s →
            (after ≡ padded max_nodes (due_list levels due (i + 1))) × (k + 1 ≡ length (due_list levels due (i + 1)))
        node-put after e = (
          e ∙ ap (λ (p : ℕ). put_at p k i s) place_at_lem ∙ rw (k_split, s_split) (put-padded lower higher i (omega (arith, due_few i, k_split))) ∙ ap (padded max_nodes) (sym due_put),
          omega (arith, k_split, ap length due_put, length-append lower higher, length-append lower (i ∷ higher)),
        )
