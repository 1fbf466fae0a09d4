-- A network that reading accepts: each node's fields are right, given the nodes before it. Assumes nothing.
use mathlib.Core.Bool.{◌&&◌, Bool, cond, false, not, true}
use mathlib.Core.List.{◌++◌, List, [], ◌∷◌}
use mathlib.Core.Path.{ap, refl, sym, ◌∙◌, ◌≡◌}
use Prim.Native.Nat.{◌+◌, ◌<◌, suc, zero, ℕ, ◌≤◌, zero-le}
use native.Mathlib.Omega.{arith}
use native.Mathlib.Nat.{le_of_suc-le-suc, not-suc-le-zero}
use lib.ListN.{get_or-append, length, length-append, take, get_or}
use lib.Dec.{eqb, leb, ltb}
use lib.Seq.{get_or_at, take_at}
use borrow.Author.Tests.{eqb-true, ltb-false, ltb-true, eqb-false, leb-false}
use Rattle.model.specs.Network.{AllFit, Item, Network, Node, has_shape, is_node, is_unknown, item_at, item_fits, no_network, node_at, node_fits, node_item, read_network, nodes_in}
use Rattle.model.specs.Network.{read_records, record_fault, refused_reading, table, watch_item, width_of, widths, with_item, build}
use Rattle.model.specs.Record.{Bytes, first_broken, is_broken, kind_at, offsets, rule, accepted}
use Rattle.laws.proofs.Build.{build_more, length-build}
use Rattle.laws.proofs.ByKind.{item-narrow, width_from}
use Rattle.model.specs.Row.{max_width, is_empty, max_nodes}

-- rule 7 of a record that breaks none
last_holds : (a b c d e : Bool) → first_broken (rule 3 a ∷ rule 4 b ∷ rule 5 c ∷ rule 6 d ∷ rule 7 (not e) ∷ []) ≡ 0 → e ≡ true
last_holds true b c d e h = absurd (omega arith)
last_holds false true c d e h = absurd (omega arith)
last_holds false false true d e h = absurd (omega arith)
last_holds false false false true e h = absurd (omega arith)
last_holds false false false false true h = refl
last_holds false false false false false h = absurd (omega arith)

pub fault_fits : (ws signs : List ℕ) (bs : Bytes) (at : ℕ) → record_fault ws signs bs at ≡ 0 → item_fits ws signs (item_at (kind_at bs at) bs at) ≡ true
unfolding record_fault
fault_fits ws signs bs at e =
    let kind : ℕ = kind_at bs at in
    last_holds (is_broken bs at) (is_unknown kind) (is_node (item_at kind bs at) && leb max_nodes (length ws)) (not (has_shape kind bs at)) (item_fits ws signs (item_at kind bs at)) e

pub widths_more : (nodes : List Node) (n : Node) → widths (nodes ++ (n ∷ [])) ≡ widths nodes ++ (width_of n (widths nodes) ∷ [])
unfolding widths
widths_more nodes n = build_more width_of nodes n

pub length-widths : (nodes : List Node) → length (widths nodes) ≡ length nodes
unfolding widths
length-widths nodes = length-build width_of nodes

take_front : (k : ℕ) (a b : List ℕ) → k ≤ length a → take k (a ++ b) ≡ take k a
take_front zero a b h = refl
take_front (suc k) [] b h = absurd (not-suc-le-zero h)
take_front (suc k) (x ∷ a) b h = ap (λ (l : List ℕ). x ∷ l) (take_front k a b (le_of_suc-le-suc h))

-- one node more that fits
fit_more : (nodes : List Node) (n : Node) → AllFit nodes → node_fits (widths nodes) n ≡ true → AllFit (nodes ++ (n ∷ []))
fit_more nodes n all f i h = go (ltb i (length nodes)) refl
  where
    new : take i (widths (nodes ++ (n ∷ []))) ≡ take i (widths nodes ++ (width_of n (widths nodes) ∷ []))
    new = ap (take i) (widths_more nodes n)

    size : length (nodes ++ (n ∷ [])) ≡ length nodes + 1
    size = length-append nodes (n ∷ [])

    go : (t : Bool) → ltb i (length nodes) ≡ t → node_fits (take i (widths (nodes ++ (n ∷ [])))) (node_at (nodes ++ (n ∷ [])) i) ≡ true
    go true e =
        let k : i < length nodes = ltb-true i (length nodes) e in
        let ws : take i (widths (nodes ++ (n ∷ []))) ≡ take i (widths nodes) = new ∙ take_front i (widths nodes) (width_of n (widths nodes) ∷ []) (rw (length-widths nodes) (omega arith)) in
        rw (ws, get_or-append nodes (n ∷ []) (table 0) i k) (all i k)
    go false e =
        let k : length nodes ≤ i = ltb-false i (length nodes) e in
        let at : i ≡ length nodes = omega (arith, size) in
        let ws : take i (widths (nodes ++ (n ∷ []))) ≡ widths nodes = new ∙ take_at (widths nodes) (width_of n (widths nodes) ∷ []) i (length-widths nodes ∙ sym at) in
        rw (ws, get_or_at nodes n [] (table 0) i (sym at)) f

item_more : (net : Network) (item : Item) → AllFit net.nodes → item_fits (widths net.nodes) net.signs item ≡ true → AllFit (with_item net item).nodes
unfolding item_fits
item_more net (node_item n) all f = fit_more net.nodes n all f
item_more net (watch_item w) all f = all

records_fit : (bs : Bytes) (net : Network) (ats : List ℕ) → AllFit net.nodes → AllFit (read_records bs net ats).network.nodes
unfolding read_records
records_fit bs net [] all = all
records_fit bs net (at ∷ rest) all =
    go (eqb (record_fault (widths net.nodes) net.signs bs at) 0) refl (records_fit bs (with_item net (item_at (kind_at bs at) bs at)) rest)
  where
    next : Network
    next = with_item net (item_at (kind_at bs at) bs at)

    go : (t : Bool) → eqb (record_fault (widths net.nodes) net.signs bs at) 0 ≡ t → (AllFit next.nodes → AllFit (read_records bs next rest).network.nodes) →
        AllFit (cond t (read_records bs next rest) (refused_reading (record_fault (widths net.nodes) net.signs bs at) at)).network.nodes
    go true e ih =
        let none : record_fault (widths net.nodes) net.signs bs at ≡ 0 = eqb-true (record_fault (widths net.nodes) net.signs bs at) 0 e in
        ih (item_more net (item_at (kind_at bs at) bs at) all (fault_fits (widths net.nodes) net.signs bs at none))
    go false e ih = λ i h. absurd (not-suc-le-zero h)

-- a network that is read fits; beside a refusal it has no node
pub read_fits : (bs : Bytes) → AllFit (nodes_in bs)
unfolding read_network
read_fits bs = go (is_empty bs)
  where
    go : (t : Bool) → AllFit (cond t (refused_reading 2 0) (read_records bs no_network (offsets bs))).network.nodes
    go true = λ i h. absurd (not-suc-le-zero h)
    go false = records_fit bs no_network (offsets bs) (λ i h. absurd (not-suc-le-zero h))

-- ---- a verdict with number 0 is acceptance

records_accepted : (bs : Bytes) (net : Network) (ats : List ℕ) → (read_records bs net ats).verdict.number ≡ 0 → (read_records bs net ats).verdict ≡ accepted
unfolding read_records
records_accepted bs net [] z = refl
records_accepted bs net (at ∷ rest) z =
    go (eqb (record_fault (widths net.nodes) net.signs bs at) 0) refl z (records_accepted bs (with_item net (item_at (kind_at bs at) bs at)) rest)
  where
    next : Network
    next = with_item net (item_at (kind_at bs at) bs at)

    fault : ℕ
    fault = record_fault (widths net.nodes) net.signs bs at

    go : (t : Bool) → eqb (record_fault (widths net.nodes) net.signs bs at) 0 ≡ t →
        (cond t (read_records bs next rest) (refused_reading (record_fault (widths net.nodes) net.signs bs at) at)).verdict.number ≡ 0 →
        ((read_records bs next rest).verdict.number ≡ 0 → (read_records bs next rest).verdict ≡ accepted) →
        (cond t (read_records bs next rest) (refused_reading (record_fault (widths net.nodes) net.signs bs at) at)).verdict ≡ accepted
    go true e y ih = ih y
    go false e y ih = absurd (eqb-false (record_fault (widths net.nodes) net.signs bs at) 0 e y)

pub read_accepted : (bs : Bytes) → (read_network bs).verdict.number ≡ 0 → (read_network bs).verdict ≡ accepted
unfolding read_network
read_accepted bs z = go (is_empty bs) z
  where
    go : (t : Bool) → (cond t (refused_reading 2 0) (read_records bs no_network (offsets bs))).verdict.number ≡ 0 → (cond t (refused_reading 2 0) (read_records bs no_network (offsets bs))).verdict
        ≡ accepted
    go true y = absurd (omega arith)
    go false y = records_accepted bs no_network (offsets bs) y

-- ---- no more nodes and no greater width than the largest

-- what holds of the nodes of a network
pub record Small (nodes : List Node) : Type 0 where
  pub few : length nodes ≤ max_nodes
  pub narrow : (i : ℕ) → get_or (widths nodes) i 0 ≤ max_width

-- as many widths as nodes: at most 32
pub widths-few : (nodes : List Node) → Small nodes → length (widths nodes) ≤ max_nodes
widths-few nodes small = omega (arith, small.few, length-widths nodes)

-- rules 5 and 6 of a record that breaks none
rules_hold : (a b c d e : Bool) → first_broken (rule 3 a ∷ rule 4 b ∷ rule 5 c ∷ rule 6 (not d) ∷ rule 7 e ∷ []) ≡ 0 → (c ≡ false) × (d ≡ true)
rules_hold true b c d e h = absurd (omega arith)
rules_hold false true c d e h = absurd (omega arith)
rules_hold false false true d e h = absurd (omega arith)
rules_hold false false false false e h = absurd (omega arith)
rules_hold false false false true e h = (refl, refl)

pub fault_shape : (ws signs : List ℕ) (bs : Bytes) (at : ℕ) → record_fault ws signs bs at ≡ 0 → ((is_node (item_at (kind_at bs at) bs at) && leb max_nodes (length ws)) ≡ false)
    × (has_shape (kind_at bs at) bs at ≡ true)
unfolding record_fault
fault_shape ws signs bs at e =
    let kind : ℕ = kind_at bs at in
    rules_hold (is_broken bs at) (is_unknown kind) (is_node (item_at kind bs at) && leb max_nodes (length ws)) (has_shape kind bs at) (not (item_fits ws signs (item_at kind bs at))) e

-- a watch comes at any time, a node after fewer than 32
pub item_room : (item : Item) (ws : List ℕ) → (is_node item && leb max_nodes (length ws)) ≡ false → (n : Node) → item ≡ node_item n → length ws < max_nodes
item_room (node_item m) ws e n f = leb-false 32 (length ws) e
item_room (watch_item w) ws e n f = let z : ◌≡◌ {A = ℕ} 0 1 = cc in absurd (omega arith)

-- one number more that is at most m
pub most_more : (l : List ℕ) (x m : ℕ) → ((j : ℕ) → get_or l j 0 ≤ m) → x ≤ m → (k : ℕ) → get_or (l ++ (x ∷ [])) k 0 ≤ m
most_more [] x m f g zero = g
most_more [] x m f g (suc k) = zero-le
most_more (y ∷ l) x m f g zero = f 0
most_more (y ∷ l) x m f g (suc k) = most_more l x m (λ j. f (suc j)) g k

widths-narrow : (nodes : List Node) (n : Node) → ((i : ℕ) → get_or (widths nodes) i 0 ≤ max_width) → width_of n (widths nodes) ≤ max_width → (i : ℕ) → get_or (widths (nodes ++ (n ∷ []))) i 0 ≤ max_width
widths-narrow nodes n h g i = rw (widths_more nodes n) (most_more (widths nodes) (width_of n (widths nodes)) max_width h g i)

small_more : (net : Network) (item : Item) → Small net.nodes → ((n : Node) → item ≡ node_item n → length (widths net.nodes) < max_nodes) → width_from item (widths net.nodes) ≤ max_width →
    Small (with_item net item).nodes
small_more net (node_item n) s room w =
    record { few = omega (arith, length-append net.nodes (n ∷ []), room n refl, length-widths net.nodes); narrow = widths-narrow net.nodes n s.narrow w }
small_more net (watch_item x) s room w = s

no_nodes : Small []
unfolding widths build
no_nodes = record { few = zero-le; narrow = λ i. zero-le }

records_small : (bs : Bytes) (net : Network) (ats : List ℕ) → Small net.nodes → Small (read_records bs net ats).network.nodes
unfolding read_records
records_small bs net [] s = s
records_small bs net (at ∷ rest) s =
    go (eqb (record_fault (widths net.nodes) net.signs bs at) 0) refl (records_small bs (with_item net (item_at (kind_at bs at) bs at)) rest)
  where
    next : Network
    next = with_item net (item_at (kind_at bs at) bs at)

    go : (t : Bool) → eqb (record_fault (widths net.nodes) net.signs bs at) 0 ≡ t → (Small next.nodes → Small (read_records bs next rest).network.nodes) →
        Small (cond t (read_records bs next rest) (refused_reading (record_fault (widths net.nodes) net.signs bs at) at)).network.nodes
    go true e ih =
        let none : record_fault (widths net.nodes) net.signs bs at ≡ 0 = eqb-true (record_fault (widths net.nodes) net.signs bs at) 0 e in
        let shape : ((is_node (item_at (kind_at bs at) bs at) && leb max_nodes (length (widths net.nodes))) ≡ false)
        × (has_shape (kind_at bs at) bs at ≡ true) = fault_shape (widths net.nodes) net.signs bs at none in
        ih (small_more net (item_at (kind_at bs at) bs at) s (item_room (item_at (kind_at bs at) bs at) (widths net.nodes) shape.0)
        (item-narrow (kind_at bs at) (widths net.nodes) net.signs bs at shape.1 (fault_fits (widths net.nodes) net.signs bs at none) s.narrow))
    go false e ih = no_nodes

-- so are the nodes of a network that is read
pub read_small : (bs : Bytes) → Small (nodes_in bs)
unfolding read_network
read_small bs = go (is_empty bs)
  where
    go : (t : Bool) → Small (cond t (refused_reading 2 0) (read_records bs no_network (offsets bs))).network.nodes
    go true = no_nodes
    go false = records_small bs no_network (offsets bs) no_nodes
