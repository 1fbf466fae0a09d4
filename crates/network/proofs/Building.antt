-- A network grows by one item at a time, and the arrays beside its nodes hold their widths and levels. Assumes nothing.
use mathlib.Core.Path.{◌≡◌, refl, sym, ap, ap₂, ◌∙◌}
use mathlib.Core.Bool.{Bool, true, false, cond}
use mathlib.Core.List.{List, [], ◌∷◌, ◌++◌, map}
use Prim.Native.Nat.{ℕ, zero, suc, ◌+◌, ◌*◌, ◌≤◌, ◌<◌, max, zero-le}
use native.Mathlib.Nat.{le_refl}
use native.Mathlib.Numerals.{add-one}
use native.Mathlib.Omega.{arith}
use lib.ListN.{length, get_or, set, take, replicate, length-set}
use lib.Seq.{take-suc, take-suc-set, take-set-lt, get_or-set_other, get_or-set_same, length-take-le}
use lib.Dec.{ltb}
use borrow.Author.Tests.{ltb-false, ltb-true, not-true, not-false}
use Rattle.model.specs.Record.{Bytes, fields_at}
use Rattle.model.specs.Network.{node_item, watch_item, width_of, width_on, level_of, levels, widths, highest, inputs_of, is_table}
use Rattle.model.specs.Network.{left_of, right_of, node_fits, fits_on, pairs_at, sign_of, priority_of}
use Rattle.laws.proofs.Build.{build_more}
use Rattle.laws.proofs.Fits.{widths_more}
use Rattle.laws.proofs.Inputs.{inputs_below, inputs_fit, inputs_high, inputs_highest}
use Rattle.std.proofs.lemmas.Bool.{false≢true}
use Rattle.std.specs.Prelude.{Some, None}
use Rattle.nodes.specs.Nodes.{lists_of, with_lists, own_or, PartsAre}
use Rattle.nodes.specs.declared.Inputs.{Inputs}
use Rattle.derived_records.specs.Bodies.{node_in_record, NodeFits}
use Rattle.nodes.specs.declared.Parts.{Parts}
use Rattle.network.specs.Reading.{slot_node, nodes_of, network_of, Sound, Built, Extends, NextSlot, InputsBelow, WidthIs, LevelIs, Ends, Shaped, no_slot}
use Rattle.nodes.specs.declared.Node.{Node}
use Rattle.network.specs.declared.Slot.{Slot}
use Rattle.network.specs.declared.Network.{Network}
use Rattle.derived_records.proofs.Lists.{length-fields_at_lem}
use Rattle.model.specs.Network as model
use Rattle.model.specs.Row.{max_nodes, max_width}

-- ---- bounds of a list with one element changed

pub set_below : (f : ℕ → ℕ) (l : List ℕ) (k x : ℕ) → ((i : ℕ) → get_or l i 0 ≤ f i) → x ≤ f k → (i : ℕ) → get_or (set l k x) i 0 ≤ f i
set_below f [] k x h g i = h i
set_below f (y ∷ l) zero x h g zero = g
set_below f (y ∷ l) zero x h g (suc i) = h (suc i)
set_below f (y ∷ l) (suc k) x h g zero = h 0
set_below f (y ∷ l) (suc k) x h g (suc i) = set_below (λ j. f (suc j)) l k x (λ j. h (suc j)) g i

pub set_ends : (l : List ℕ) (count x : ℕ) → Ends count l → Ends (count + 1) (set l count x)
set_ends l count x h i g = get_or-set_other l count i x 0 (omega arith) ∙ h i (omega arith)

pub zero_at : (n i : ℕ) → get_or {A = ℕ} (replicate n 0) i 0 ≡ 0
zero_at zero i = refl
zero_at (suc n) zero = refl
zero_at (suc n) (suc i) = zero_at n i

map-append : (a b : List Slot) → map slot_node (a ++ b) ≡ map slot_node a ++ map slot_node b
map-append [] b = refl
map-append (x ∷ a) b = ap (λ (l : List model.Node). slot_node x ∷ l) (map-append a b)

-- ---- one node more

levels_more : (nodes : List model.Node) (n : model.Node) → model.levels (nodes ++ (n ∷ [])) ≡ model.levels nodes ++ (level_of n (model.levels nodes) ∷ [])
unfolding model.levels
levels_more nodes n = build_more level_of nodes n

-- the first elements of a list with one more stored behind them
take_more : (l : List ℕ) (count x : ℕ) → count < length l → take (count + 1) (set l count x) ≡ take count l ++ (x ∷ [])
take_more l count x h = rw add-one (take-suc-set l count x h)

module _ (net : Network) (slot : Slot) (width level : ℕ) (next : NextSlot net slot width level) where
  abbrev grown : Network
  grown = record {
    count = net.count + 1;
    slots = set net.slots net.count slot;
    widths = set net.widths net.count width;
    levels = set net.levels net.count level;
    signs = net.signs;
    priorities = net.priorities;
  }

  b : Built net
  b = next.built

  nodes_grown : nodes_of grown ≡ nodes_of net ++ (slot_node slot ∷ [])
  nodes_grown =
      let e : take (net.count + 1) (set net.slots net.count slot) ≡ take net.count net.slots ++ (slot ∷ []) =
      rw add-one (take-suc-set net.slots net.count slot (omega (arith, next.room, next.built.slots_length))) in
      ap (map slot_node) e ∙ map-append (take net.count net.slots) (slot ∷ [])

  -- an array beside the nodes that has zeros behind them has one zero more
  ends_grown : (l : List ℕ) → length l ≡ max_nodes → Ends net.count l → take (net.count + 1) l ≡ take net.count l ++ (0 ∷ [])
  ends_grown l size ends =
      ap (λ (n : ℕ). take n l) (add-one net.count)
      ∙ take-suc l net.count 0 (omega (arith, next.room))
      ∙ ap (λ (x : ℕ). take net.count l ++ (x ∷ [])) (ends net.count (le_refl net.count))

  sound_grown : Sound grown
  sound_grown =
      record {
        few = omega (arith, next.room);
        widths =
            take_more net.widths net.count width (omega (arith, next.room, next.built.widths-length))
            ∙ ap₂ {A = List ℕ} {B = ℕ} {C = List ℕ} (λ l x. l ++ (x ∷ [])) next.built.sound.widths next.width_is
            ∙ sym (ap model.widths nodes_grown ∙ widths_more (nodes_of net) (slot_node slot));
        levels =
            take_more net.levels net.count level (omega (arith, next.room, next.built.levels-length))
            ∙ ap₂ {A = List ℕ} {B = ℕ} {C = List ℕ} (λ l x. l ++ (x ∷ [])) next.built.sound.levels next.level_is
            ∙ sym (ap model.levels nodes_grown ∙ levels_more (nodes_of net) (slot_node slot));
      }

  shaped_grown : (i : ℕ) → i < net.count + 1 → Shaped (get_or (set net.slots net.count slot) i no_slot)
  shaped_grown i h = go (ltb i net.count) refl
    where
      go : (t : Bool) → ltb i net.count ≡ t → Shaped (get_or (set net.slots net.count slot) i no_slot)
      go true e = let k : i < net.count = ltb-true i net.count e in rw (get_or-set_other net.slots net.count i slot no_slot (omega arith)) (next.built.shaped i k)
      go false e =
          let k : net.count ≤ i = ltb-false i net.count e in
          let same : i ≡ net.count = omega arith in
          rw (same, get_or-set_same net.slots net.count slot no_slot (omega (arith, next.room, next.built.slots_length))) next.shaped

  pub extends_node : Extends net (node_item (slot_node slot)) grown
  extends_node =
      record {
        built = record {
          slots_length = length-set net.slots net.count slot ∙ next.built.slots_length;
          widths-length = length-set net.widths net.count width ∙ next.built.widths-length;
          levels-length = length-set net.levels net.count level ∙ next.built.levels-length;
          signs-length = next.built.signs-length;
          priorities-length = next.built.priorities-length;
          sound = sound_grown;
          shaped = shaped_grown;
          narrow = set_below (λ i. max_width) net.widths net.count width next.built.narrow next.narrow;
          low = set_below (λ i. i) net.levels net.count level next.built.low next.low;
          unwatched = λ i h. next.built.unwatched i (omega arith);
          unranked = λ i h. next.built.unranked i (omega arith);
          widths-end = set_ends net.widths net.count width next.built.widths-end;
          levels-end = set_ends net.levels net.count level next.built.levels-end;
        };
        is = λ i. record {
          nodes = nodes_grown i;
          signs = ends_grown net.signs next.built.signs-length next.built.unwatched i;
          priorities = ends_grown net.priorities next.built.priorities-length next.built.unranked i;
        };
      }

-- ---- one watch more

module _ (net : Network) (node sign priority : ℕ) (b : Built net) (within : node < net.count) where
  pub extends_watch : Extends net (watch_item (record { node = node; sign = sign; priority = priority })) (record {
    count = net.count;
    slots = net.slots;
    widths = net.widths;
    levels = net.levels;
    signs = set net.signs node sign;
    priorities = set net.priorities node priority;
  })
  extends_watch =
      record {
        built = record {
          slots_length = b.slots_length;
          widths-length = b.widths-length;
          levels-length = b.levels-length;
          signs-length = length-set net.signs node sign ∙ b.signs-length;
          priorities-length = length-set net.priorities node priority ∙ b.priorities-length;
          sound = record { few = b.sound.few; widths = b.sound.widths; levels = b.sound.levels };
          shaped = b.shaped;
          narrow = b.narrow;
          low = b.low;
          unwatched = λ i h. get_or-set_other net.signs node i sign 0 (omega arith) ∙ b.unwatched i h;
          unranked = λ i h. get_or-set_other net.priorities node i priority 0 (omega arith) ∙ b.unranked i h;
          widths-end = b.widths-end;
          levels-end = b.levels-end;
        };
        is = λ i. record {
          nodes = nodes_of net;
          signs = take-set-lt net.count net.signs node sign within i;
          priorities = take-set-lt net.count net.priorities node priority within i;
        };
      }

-- ---- widths and levels from the arrays

-- behind the nodes the arrays have zeros, so that any index reads the same in the first numbers as in all
take_ends : (l : List ℕ) (count i : ℕ) → Ends count l → get_or (take count l) i 0 ≡ get_or l i 0
take_ends l zero i h = sym (h i zero-le)
take_ends [] (suc count) i h = refl
take_ends (x ∷ l) (suc count) zero h = refl
take_ends (x ∷ l) (suc count) (suc i) h = take_ends l count i (λ j g. h (suc j) (omega arith))

-- a node's sign and priority, from the arrays
pub sign_at : (net : Network) → Built net → (i : ℕ) → get_or net.signs i 0 ≡ sign_of (network_of net) i
sign_at net b i = sym (take_ends net.signs net.count i b.unwatched)

pub priority_at_lem : (net : Network) → Built net → (i : ℕ) → get_or net.priorities i 0 ≡ priority_of (network_of net) i
priority_at_lem net b i = sym (take_ends net.priorities net.count i b.unranked)

highest-same : (a b inputs : List ℕ) → ((i : ℕ) → get_or a i 0 ≡ get_or b i 0) → highest a inputs ≡ highest b inputs
highest-same a b [] h = refl
highest-same a b (i ∷ inputs) h = ap₂ {A = ℕ} {B = ℕ} {C = ℕ} (λ x y. max x y) (h i) (highest-same a b inputs h)

level_low : (n : model.Node) (ws ls : List ℕ) → node_fits ws n ≡ true → ((i : ℕ) → get_or ls i 0 ≤ i) → level_of n ls ≤ length ws
level_low n ws ls f low = go (is_table n) refl
  where
    go : (t : Bool) → is_table n ≡ t → cond t 0 (suc (highest ls (inputs_of n))) ≤ length ws
    go true e = zero-le
    go false e =
        let b : (left_of n < length ws) × (right_of n < length ws) × (fits_on (get_or ws (left_of n) 0) (get_or ws (right_of n) 0) n ≡ true) = inputs_fit ws n e f in
        inputs_high ls n (length ws) (omega (arith, low (left_of n), b.0)) (omega (arith, low (right_of n), b.1))

-- a table's width does not go by another's
table_width : (n : model.Node) → is_table n ≡ true → (u v : ℕ) → width_on u n ≡ width_on v n
table_width (model.table w) e u v = refl
table_width (model.select i c k o) e u v = absurd (false≢true e)
table_width (model.project i columns) e u v = refl
table_width (model.join l r pairs columns) e u v = refl
table_width (model.set_operation o l r) e u v = absurd (false≢true e)
table_width (model.no_match l r pairs) e u v = absurd (false≢true e)

-- a node's width and level, from its parts
module _ (n : Node) (r : Parts) (are : PartsAre n r) where
  pub width_next : (ws : List ℕ) (i : Inputs) → r.inputs ≡ Some i → WidthIs n ws (own_or (get_or ws i.left 0) r.width)
  width_next ws i e columns pairs h =
      let first : i.left ≡ left_of (with_lists n columns pairs) = rw e at are.left columns pairs in
      ap (λ (j : ℕ). own_or (get_or ws j 0) r.width) first ∙ are.width columns pairs (get_or ws (left_of (with_lists n columns pairs)) 0) h

  pub width_none : (ws : List ℕ) → r.inputs ≡ None → WidthIs n ws (own_or 0 r.width)
  width_none ws e columns pairs h =
      let m : model.Node = with_lists n columns pairs in
      let d : is_table m ≡ true = not-false (is_table m) (sym (rw e at are.derived columns pairs)) in
      are.width columns pairs 0 h ∙ table_width m d 0 (get_or ws (left_of m) 0)

  pub level_none : (ls : List ℕ) → r.inputs ≡ None → LevelIs n ls 0
  level_none ls e columns pairs = rw (not-false (is_table (with_lists n columns pairs)) (sym (rw e at are.derived columns pairs)))

  pub level_next : (ls : List ℕ) (i : Inputs) → r.inputs ≡ Some i → LevelIs n ls (max (get_or ls i.left 0) (get_or ls i.right 0) + 1)
  level_next ls i e columns pairs =
      let m : model.Node = with_lists n columns pairs in
      let d : is_table m ≡ false = not-true (is_table m) (sym (rw e at are.derived columns pairs)) in
      let left : i.left ≡ left_of m = rw e at are.left columns pairs in
      let right : i.right ≡ right_of m = rw e at are.right columns pairs in
      let high : highest ls (inputs_of m) ≡ max (get_or ls (left_of m) 0) (get_or ls (right_of m) 0) = inputs_highest ls m d in
      rw (d, high, ← left, ← right) (add-one _)

-- the node that comes next, from the arrays
module _ (net : Network) (n : Node) (bs : Bytes) (at : ℕ) (b : Built net) (f : NodeFits n (take net.count net.widths) bs at) where
  counted : length (take net.count net.widths) ≡ net.count
  counted = length-take-le net.count net.widths (omega (arith, b.sound.few, b.widths-length))

  -- a node that fits uses nodes before it alone
  pub fits_inputs : (m : ℕ) → net.count < m → InputsBelow n m
  fits_inputs m h =
      let e : (left_of (node_in_record n bs at) < m) × (right_of (node_in_record n bs at) < m) = inputs_below (node_in_record n bs at) (take net.count net.widths) m f.fits (rw counted h) in
      (fields_at bs at ((lists_of n).from + 2 * (lists_of n).pairs) (lists_of n).columns, pairs_at bs at 3 (lists_of n).pairs, e.0, e.1)

  pub next_slot : (slot : Slot) (width level : ℕ) → net.count < max_nodes → slot_node slot ≡ node_in_record n bs at → Shaped slot → WidthIs n net.widths width → LevelIs n net.levels level →
      NextSlot net slot width level
  next_slot slot width level room s shape w l =
      record {
        built = b;
        room = room;
        shaped = shape;
        width_is = wide ∙ ap₂ {A = model.Node} {B = List ℕ} {C = ℕ} (λ x ws. width_of x ws) (sym s) b.sound.widths;
        level_is =
            high
            ∙ ap (λ (x : ℕ). cond (is_table (node_in_record n bs at)) 0 (suc x))
            (highest-same net.levels (take net.count net.levels) (inputs_of (node_in_record n bs at)) (λ i. sym (take_ends net.levels net.count i b.levels-end)))
            ∙ ap₂ {A = model.Node} {B = List ℕ} {C = ℕ} (λ x ls. level_of x ls) (sym s) b.sound.levels;
        narrow = rw wide (f.narrow (λ i. rw (take_ends net.widths net.count i b.widths-end) (b.narrow i)));
        low = rw (high, ← counted) (level_low (node_in_record n bs at) (take net.count net.widths) net.levels f.fits b.low);
      }
    where
      wide : width ≡ width_of (node_in_record n bs at) (take net.count net.widths)
      wide =
          w (fields_at bs at ((lists_of n).from + 2 * (lists_of n).pairs) (lists_of n).columns) (pairs_at bs at 3 (lists_of n).pairs)
          (length-fields_at_lem bs at ((lists_of n).from + 2 * (lists_of n).pairs) (lists_of n).columns)
          ∙ ap (λ (x : ℕ). width_on x (node_in_record n bs at)) (sym (take_ends net.widths net.count (left_of (node_in_record n bs at)) b.widths-end))

      high : level ≡ level_of (node_in_record n bs at) net.levels
      high = l (fields_at bs at ((lists_of n).from + 2 * (lists_of n).pairs) (lists_of n).columns) (pairs_at bs at 3 (lists_of n).pairs)

-- the item of a slot is that of its record
pub as_item : {net r : Network} {m n : model.Node} → m ≡ n → Extends net (node_item m) r → Extends net (node_item n) r
as_item {net} {r} e x = rw e at x
