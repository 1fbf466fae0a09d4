-- Good form, part by part. Assumes nothing.
use mathlib.Core.Bool.{◌&&◌, Bool, cond, false, true}
use mathlib.Core.List.{List}
use mathlib.Core.Path.{ap, ap₂, refl, sym, ◌∙◌, ◌≡◌}
use Prim.Native.Nat.{◌*◌, ◌+◌, ◌<◌, ℕ, ◌≤◌, ◌-◌}
use native.Mathlib.Omega.{arith}
use lib.ListN.{drop, get_or, length, take}
use lib.Dec.{eqb, ltb}
use lib.Seq.{get_or-take, length-take-le, slice}
use Rattle.std.proofs.lemmas.Bool.Decides.{nat_tests}
use borrow.Author.Tests.{lt-leb, ltb-true}
use Rattle.model.specs.Row.{all_of, numbers_below, max_nodes, max_rows, max_width}
use Rattle.model.specs.Areas.{all_zero, empty_place, good_area, good_place, held_in, layout, good_form, good_stamps, good_worked, long_enough}
use Rattle.rows.specs.Rows.{first_rows}
use Rattle.row_checks.specs.RowChecks.{good_rows}
use Rattle.row_checks.proofs.Checked.{place-checked}
use Rattle.laws.proofs.All.{all_ext}
use Rattle.model.specs.Network.{Node, widths}
use Rattle.areas.specs.Lent.{counts_from, lent, place_at}
use Rattle.laws.proofs.Fits.{length-widths}
use Rattle.model.specs.Areas.{area_size, head_words, place_size, stride}

-- ---- conjunctions whose last test decides

pub long_last : (a b c d : Bool) → a ≡ true → b ≡ true → c ≡ true → (a && b && c && d) ≡ d
long_last a b c d e f g = rw (e, f, g)

pub form_last : (a b c d e : Bool) → a ≡ true → b ≡ true → c ≡ true → d ≡ true → (a && b && c && d && e) ≡ e
form_last a b c d e f g h i = rw (f, g, h, i)

-- ---- places

pub too_many : (w count : ℕ) (area : List ℕ) (i : ℕ) → max_rows < count → good_place layout w count area i ≡ false
unfolding good_place
too_many w count area i h = rw (lt-leb count max_rows h)

pub empty_is : (area : List ℕ) (i count : ℕ) → count ≡ 0 → good_place layout 0 0 area i ≡ empty_place layout count area i
unfolding good_place empty_place held_in
empty_is area i count e = rw e

pub empty_not : (area : List ℕ) (i count : ℕ) → eqb count 0 ≡ false → empty_place layout count area i ≡ false
unfolding empty_place
empty_not area i count e = rw e

pub part_is : (area : List ℕ) (i : ℕ) → place_at area i ≡ take place_size (drop (place_size * i) area)
part_is area i =
    let e : i * place_size ≡ place_size * i = omega arith in
    let f : i * place_size + place_size - i * place_size ≡ place_size = omega arith in
    ap₂ {A = ℕ} {B = ℕ} {C = List ℕ} (λ a b. take a (drop b area)) f e

-- what the check of a place says
pub place-form : (w count : ℕ) (area part : List ℕ) (i : ℕ) (good clean : Bool) → w ≤ max_width → count ≤ max_rows → i < max_nodes → area_size ≤ length area → part
    ≡ take place_size (drop (place_size * i) area) →
    good ≡ good_rows w (first_rows part count) → clean ≡ all_zero (slice (count * stride) place_size part) → good_place layout w count area i ≡ (good && clean)
place-form w count area part i good clean narrow few h l p g z =
    sym (place-checked w count area i narrow few (omega arith))
    ∙ ap (λ (s : List ℕ). good_rows w (first_rows s count) && all_zero (slice (count * stride) place_size s)) (sym p)
    ∙ ap₂ {A = Bool} {B = Bool} {C = Bool} (λ a b. a && b) (sym g) (sym z)

-- the place with number i is of good form
abbrev pub node_good : List ℕ → ℕ → (ℕ → ℕ) → List ℕ → ℕ → Bool
node_good ws n count area i = cond (ltb i n) (good_place layout (get_or ws i 0) (count i) area i) (empty_place layout (count i) area i)

pub area_is : (ws : List ℕ) (n : ℕ) (count : ℕ → ℕ) (area : List ℕ) → n ≤ length ws → good_area layout (take n ws) count area ≡ all_of (node_good ws n count area) (numbers_below max_nodes)
unfolding good_area
area_is ws n count area h =
    all_ext (λ i. cond (ltb i (length (take n ws))) (good_place layout (get_or (take n ws) i 0) (count i) area i) (empty_place layout (count i) area i)) (node_good ws n count area) 0 max_nodes
    (λ i. go i (ltb i n) refl)
  where
    go : (i : ℕ) (t : Bool) → ltb i n ≡ t → cond (ltb i (length (take n ws))) (good_place layout (get_or (take n ws) i 0) (count i) area i) (empty_place layout (count i) area i)
        ≡ node_good ws n count area i
    go i true e = rw (length-take-le n ws h, e, get_or-take n ws i 0 (ltb-true i n e))
    go i false e = rw (length-take-le n ws h, e)

-- ---- all four areas

pub long_parts : (rows gained lost head : List ℕ) → long_enough layout (lent rows gained lost head) ≡ true →
    (area_size ≤ length rows) × (area_size ≤ length gained) × (area_size ≤ length lost) × (head_words ≤ length head)
unfolding long_enough
long_parts rows gained lost head e = grind (arith, nat_tests)

-- good form from the widths alone
pub form_is : (n : ℕ) (ws rows gained lost head : List ℕ) (nodes : List Node) → n ≤ length ws → take n ws ≡ widths nodes → good_form layout nodes (lent rows gained lost head)
    ≡ (good_area layout (take n ws) (counts_from head 1) rows && good_area layout (take n ws) (counts_from head 65) gained && good_area layout (take n ws)
    (counts_from head 97) lost && good_stamps n head && good_worked n head)
unfolding good_form
form_is n ws rows gained lost head nodes h e =
    let size : length nodes ≡ n = sym (length-widths nodes) ∙ ap length (sym e) ∙ length-take-le n ws h in
    ap₂ {A = List ℕ} {B = ℕ} {C = Bool}
    (λ v k. good_area layout v (counts_from head 1) rows && good_area layout v (counts_from head 65) gained && good_area layout v (counts_from head 97) lost && good_stamps k head && good_worked
    k head) (sym e) size
