-- Lines of changed rows, and of a node. Assumes nothing.
use Prim.Native.Nat.{ℕ, ◌<◌, ◌+◌, ◌≤◌, ◌*◌}
use mathlib.Core.Bool.{Bool, cond}
use mathlib.Core.List.{List, ◌∷◌, ◌++◌, flat_map, []}
use mathlib.Core.Path.{◌≡◌, ap₂, ◌∙◌, ap, sym, refl}
use native.Mathlib.Omega.{arith}
use lib.ListN.{get_or, set, take, length}
use lib.Seq.{sets, get_or-take}
use Rattle.model.specs.Delta.{Change}
use Rattle.model.specs.Areas.{padded, fields, held_in, layout, place_size, stride}
use Rattle.model.specs.Watched.{allows, changes_of, was_gained, was_lost}
use Rattle.model.specs.Text.{change_line, line, node_lines}
use Rattle.laws.proofs.Watched.{flat_changes}
use Rattle.laws.proofs.Parts.{flat_append, flat_one}
use Rattle.model.specs.Row.{max_rows, max_width}
use Rattle.rows.proofs.Padding.{padded_more, take-padded}
use Rattle.rows.proofs.Words.{length_fields}
use Rattle.rows.proofs.Place.{fields_split}
use Rattle.network.specs.declared.Network.{Network}
use Rattle.network.specs.Reading.{Built}
use Rattle.reports.proofs.Bytes.{held_more}
use Rattle.admission.specs.Admission.{change_in}
use Rattle.admission.proofs.Changes.{change_at_lem}
use Rattle.lines.specs.Written.{Put}
use Rattle.lines.proofs.Written.{put_more}
use Rattle.station_lines.specs.Lines.{change_lines, change_room, lines_in, node_room}

-- one field more of a row
pub numbers_more : (node k : ℕ) (words : List ℕ) (from : ℕ) (numbers : List ℕ) (x : ℕ) → k < max_width → numbers ≡ padded (1 + max_width) (node ∷ fields k words from) → x ≡ get_or words (from + k) 0 →
    set numbers (k + 1) x ≡ padded (1 + max_width) (node ∷ fields (k + 1) words from)
unfolding fields
numbers_more node k words from numbers x h e f =
    ap₂ {A = List ℕ} {B = ℕ} {C = List ℕ} (λ n y. set n (k + 1) y) e f
    ∙ padded_more (1 + max_width) (node ∷ fields k words from) (get_or words (from + k) 0) (k + 1) (omega (arith, length_fields k words from)) (omega arith)
    ∙ ap (λ (l : List ℕ). padded (1 + max_width) (node ∷ l)) (sym (fields_split k 1 words from))

-- the numbers of a line, without the zeros
pub numbers_taken : (node w : ℕ) (words : List ℕ) (from : ℕ) (numbers : List ℕ) → w ≤ max_width → numbers ≡ padded (1 + max_width) (node ∷ fields w words from) → take (w + 1) numbers
    ≡ node ∷ fields w words from
numbers_taken node w words from numbers h e = ap (take (w + 1)) e ∙ take-padded (1 + max_width) (w + 1) (node ∷ fields w words from) (omega (arith, length_fields w words from))

-- one row more
pub lines_more : (sign node w j : ℕ) (area out before after : List ℕ) (at to r : ℕ) → Put (change_lines sign node (held_in layout w j area node)) (change_room * j) at out before to →
    Put (line (sign ∷ []) (node ∷ fields w area (node * place_size + j * stride))) change_room to before after r →
    Put (change_lines sign node (held_in layout w (j + 1) area node)) (change_room * (j + 1)) at out after r
unfolding change_lines
lines_more sign node w j area out before after at to r p q =
    let one : List ℕ = line (sign ∷ []) (node ∷ fields w area (node * place_size + j * stride)) in
    let all : change_lines sign node (held_in layout w (j + 1) area node) ≡ change_lines sign node (held_in layout w j area node) ++ line (sign ∷ [])
    (node ∷ fields w area (node * place_size + j * stride)) =
    ap (change_lines sign node) (held_more w j area node)
    ∙ flat_append (λ x. line (sign ∷ []) (node ∷ x)) (held_in layout w j area node) (fields w area (node * place_size + j * stride) ∷ [])
    ∙ ap (λ (l : List ℕ). change_lines sign node (held_in layout w j area node) ++ l) (flat_one (λ x. line (sign ∷ []) (node ∷ x)) (fields w area (node * place_size + j * stride))) in
    let both = put_more (change_lines sign node (held_in layout w j area node)) one p q in
    record { bytes = both.bytes ∙ ap (sets out at) (sym all); next = omega (arith, both.next, ap length all); short = omega (arith, both.short) }

pub lines_none : (sign node w : ℕ) (area out : List ℕ) (at : ℕ) → Put (change_lines sign node (held_in layout w 0 area node)) (change_room * 0) at out out at
unfolding change_lines held_in flat_map
lines_none sign node w area out at = record { bytes = refl; next = omega arith; short = omega arith }

-- gained lines, then lost ones
pub node_lines_lem : (sign node : ℕ) (change : Change) (more less : Bool) (out first second : List ℕ) (at to r g l : ℕ) → more ≡ allows sign was_gained → less ≡ allows sign was_lost →
    Put (cond more (change_lines 43 node change.gained) []) (change_room * g) at out first to → Put (cond less (change_lines 45 node change.lost) []) (change_room * l) to first second r →
    g ≤ max_rows → l ≤ max_rows → Put (flat_map change_line (changes_of sign node change)) node_room at out second r
unfolding change_lines change_line
node_lines_lem sign node change more less out first second at to r g l em el p q fg fl =
    let all : cond more (change_lines 43 node change.gained) [] ++ cond less (change_lines 45 node change.lost) [] ≡ flat_map change_line (changes_of sign node change) =
    ap₂ {A = Bool} {B = Bool} {C = List ℕ} (λ a b. cond a (change_lines 43 node change.gained) [] ++ cond b (change_lines 45 node change.lost) []) em el
    ∙ sym (flat_changes change_line sign node change) in
    let both = put_more (cond more (change_lines 43 node change.gained) []) (cond less (change_lines 45 node change.lost) []) p q in
    record { bytes = both.bytes ∙ ap (sets out at) all; next = omega (arith, both.next, ap length all); short = omega (arith, both.short, fg, fl) }

-- ---- a node

module _ (net : Network) (b : Built net) (gained lost head : List ℕ) where
  -- the lines of a node of the network
  pub watched_is : (node : ℕ) → node < net.count → flat_map change_line (changes_of (get_or net.signs node 0) node (change_in net node gained lost head)) ≡ lines_in net gained lost head node
  unfolding node_lines
  watched_is node h =
      let sign : get_or (take net.count net.signs) node 0 ≡ get_or net.signs node 0 = get_or-take net.count net.signs node 0 h in
      ap₂ {A = ℕ} {B = Change} {C = List ℕ} (λ s x. flat_map change_line (changes_of s node x)) (sym sign) (sym (change_at_lem net b node gained lost head h))
