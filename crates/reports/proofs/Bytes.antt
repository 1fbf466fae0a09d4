-- Bytes written one part after the other. Assumes nothing.
use mathlib.Core.List.{◌++◌, List, [], flat_map, map, ◌∷◌}
use mathlib.Core.Bool.{Bool, cond, false, true}
use mathlib.Core.Path.{ap, ap₂, refl, sym, ◌∙◌, ◌≡◌}
use Prim.Native.Nat.{◌*◌, ◌+◌, ◌/◌, suc, zero, zero-le, ℕ, ◌≤◌}
use native.Mathlib.Nat.{add_comm, add-zero, mul-le-mul_right, suc-mul, zero-mul}
use native.Mathlib.Omega.{arith}
use lib.ListN.{get_or, length, length-append}
use Rattle.std.specs.Int.{to_le_bytes, w32}
use Rattle.model.specs.Row.{Relation, Row, count_from, numbers_below, max_rows, max_width, Wide}
use Rattle.rows.proofs.Words.{length_fields}
use Rattle.reports.specs.Written.{allowed_of, records_of, report_size}
use Rattle.model.specs.Record.{bytes16, bytes32}
use Rattle.model.specs.Calls.{change_record, record_of, report_bytes}
use Rattle.model.specs.Watched.{allows, was_gained, was_lost}
use Rattle.laws.proofs.Watched.{flat_changes}
use Rattle.model.specs.Delta.{Change}
use Rattle.model.specs.Areas.{fields, held_in, layout, place_size, stride}
use Rattle.rows.proofs.Place.{fields_split, held_wide, length_held}
use Rattle.laws.proofs.Parts.{flat_append, flat_one}

-- ---- numbers

-- a word's bytes
pub le_bytes : (x : ℕ) → to_le_bytes w32 x ≡ bytes32 x
le_bytes x =
    let low : x / 1 ≡ x = omega arith in
    let high : x / 16777216 ≡ x / 65536 / 256 = omega arith in
    cc

-- ---- fields

pub length_fields32 : (l : List ℕ) → length (flat_map bytes32 l) ≡ 4 * length l
unfolding flat_map
length_fields32 [] = refl
length_fields32 (x ∷ l) = omega (arith, length_fields32 l)

pub fields_more : (k : ℕ) (words : List ℕ) (from : ℕ) → flat_map bytes32 (fields (k + 1) words from) ≡ flat_map bytes32 (fields k words from) ++ bytes32 (get_or words (from + k) 0)
unfolding fields
fields_more k words from =
    ap (flat_map bytes32) (fields_split k 1 words from)
    ∙ flat_append bytes32 (fields k words from) (get_or words (from + k) 0 ∷ [])
    ∙ ap (λ (l : List ℕ). flat_map bytes32 (fields k words from) ++ l) (flat_one bytes32 (get_or words (from + k) 0))

pub fields-size : (k : ℕ) (words : List ℕ) (from : ℕ) → length (flat_map bytes32 (fields k words from)) ≡ 4 * k
fields-size k words from = length_fields32 (fields k words from) ∙ ap (λ (n : ℕ). 4 * n) (length_fields k words from)

pub fields_none : (words : List ℕ) (from : ℕ) → flat_map bytes32 (fields 0 words from) ≡ []
unfolding flat_map fields
fields_none words from = refl

-- ---- records

pub record_is : (kind node w : ℕ) (words : List ℕ) (from : ℕ) →
    ((bytes16 (6 + 4 * w) ++ bytes16 kind) ++ bytes16 node) ++ flat_map bytes32 (fields w words from) ≡ change_record kind node (fields w words from)
unfolding change_record
record_is kind node w words from = rw (length_fields w words from)

pub record_size : (kind node : ℕ) (r : Row) → length (change_record kind node r) ≡ 6 + 4 * length r
unfolding change_record
record_size kind node r = omega (arith, length_fields32 r)

pub records_size : (kind node w : ℕ) (rows : Relation) → Wide w rows → length (records_of kind node rows) ≡ length rows * (6 + 4 * w)
unfolding flat_map
records_size kind node w [] h = sym (zero-mul (6 + 4 * w))
records_size kind node w (r ∷ rows) h =
    length-append (change_record kind node r) (records_of kind node rows)
    ∙ ap₂ {A = ℕ} {B = ℕ} {C = ℕ} (λ a b. a + b) (record_size kind node r ∙ ap (λ (n : ℕ). 6 + 4 * n) h.0) (records_size kind node w rows h.1)
    ∙ sym (suc-mul (length rows) (6 + 4 * w) ∙ add_comm (length rows * (6 + 4 * w)) (6 + 4 * w))

map-counted : (f : ℕ → Row) (from n : ℕ) → map f (count_from from (n + 1)) ≡ map f (count_from from n) ++ (f (from + n) ∷ [])
map-counted f from zero = ap (λ (k : ℕ). f k ∷ []) (sym (add-zero from))
map-counted f from (suc n) =
    let e : suc from + n ≡ from + suc n = omega arith in
    let g : suc n + 1 ≡ suc (n + 1) = omega arith in
    rw g (ap (λ (l : List Row). f from ∷ l) (map-counted f (suc from) n ∙ rw e))

-- one row more of a node's place
pub held_more : (w j : ℕ) (area : List ℕ) (node : ℕ) → held_in layout w (j + 1) area node ≡ held_in layout w j area node ++ (fields w area (node * place_size + j * stride) ∷ [])
unfolding held_in
held_more w j area node =
    let e : place_size * node + stride * (0 + j) ≡ node * place_size + j * stride = omega arith in
    map-counted (λ k. fields w area (place_size * node + stride * k)) 0 j ∙ ap (λ (k : ℕ). map (λ i. fields w area (place_size * node + stride * i)) (numbers_below j) ++ (fields w area k ∷ [])) e

pub held_none : (kind node w : ℕ) (area : List ℕ) → records_of kind node (held_in layout w 0 area node) ≡ []
unfolding held_in flat_map
held_none kind node w area = refl

pub held_size : (kind node w j : ℕ) (area : List ℕ) → length (records_of kind node (held_in layout w j area node)) ≡ j * (6 + 4 * w)
held_size kind node w j area = records_size kind node w (held_in layout w j area node) (held_wide layout w j area node) ∙ ap (λ (n : ℕ). n * (6 + 4 * w)) (length_held layout w j area node)

pub records_more : (kind node w j : ℕ) (area : List ℕ) → records_of kind node (held_in layout w (j + 1) area node) ≡ records_of kind node (held_in layout w j area node) ++ change_record kind node
    (fields w area (node * place_size + j * stride))
records_more kind node w j area =
    ap (records_of kind node) (held_more w j area node)
    ∙ flat_append (change_record kind node) (held_in layout w j area node) (fields w area (node * place_size + j * stride) ∷ [])
    ∙ ap (λ (l : List ℕ). records_of kind node (held_in layout w j area node) ++ l) (flat_one (change_record kind node) (fields w area (node * place_size + j * stride)))

pub allowed_size_is : (t : Bool) (kind node w n : ℕ) (area : List ℕ) → length (allowed_of t kind node (held_in layout w n area node)) ≡ cond t (n * (6 + 4 * w)) 0
allowed_size_is true kind node w n area = held_size kind node w n area
allowed_size_is false kind node w n area = refl

-- ---- sizes

pub size_bound : (n w : ℕ) → n ≤ max_rows → w ≤ max_width → n * (6 + 4 * w) ≤ max_rows * (6 + 4 * max_width)
size_bound n w h g =
    let a : n * (6 + 4 * w) ≤ max_rows * (6 + 4 * w) = mul-le-mul_right (6 + 4 * w) h in
    omega arith

pub allowed_bound : (t : Bool) (n w : ℕ) → n ≤ max_rows → w ≤ max_width → cond t (n * (6 + 4 * w)) 0 ≤ max_rows * (6 + 4 * max_width)
allowed_bound true n w h g = size_bound n w h g
allowed_bound false n w h g = zero-le

-- ---- a node's report

-- gained rows, then lost ones
pub report_parts : (sign node : ℕ) (change : Change) → report_bytes sign node change
    ≡ allowed_of (allows sign was_gained) max_rows node change.gained ++ allowed_of (allows sign was_lost) 65 node change.lost
unfolding report_bytes
report_parts sign node change = flat_changes record_of sign node change

-- the size of a node's report
pub report_length : (sign node w g l : ℕ) (gained lost : List ℕ) → length (report_bytes sign node (record { gained = held_in layout w g gained node; lost = held_in layout w l lost node }))
    ≡ report_size sign w g l
report_length sign node w g l gained lost =
    ap length (report_parts sign node (record { gained = held_in layout w g gained node; lost = held_in layout w l lost node }))
    ∙ length-append (allowed_of (allows sign was_gained) max_rows node (held_in layout w g gained node)) (allowed_of (allows sign was_lost) 65 node (held_in layout w l lost node))
    ∙ ap₂ {A = ℕ} {B = ℕ} {C = ℕ} (λ x y. x + y) (allowed_size_is (allows sign was_gained) max_rows node w g gained) (allowed_size_is (allows sign was_lost) 65 node w l lost)
