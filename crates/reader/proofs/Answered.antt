-- The nodes' kinds stored one after the other, and the reader's answer. Assumes nothing.
use mathlib.Core.Path.{◌≡◌, refl, sym, ap, ◌∙◌}
use mathlib.Core.List.{List, [], ◌∷◌, ◌++◌, map}
use Prim.Native.Nat.{ℕ, suc, ◌+◌, ◌<◌}
use native.Mathlib.Omega.{arith}
use native.Mathlib.Numerals.{add-one}
use lib.ListN.{length, get_or, set, take, length-map}
use lib.Seq.{take-suc, length-take-le}
use Rattle.model.specs.Areas.{padded}
use Rattle.model.specs.Network.{kind_of}
use Rattle.model.specs.Record.{Bytes, accepted}
use Rattle.model.specs.Calls.{ReadAnswer, read_call}
use Rattle.model.specs.Row.{max_nodes}
use Rattle.model.specs.Network as model
use Rattle.rows.proofs.Padding.{padded_more}
use Rattle.network.specs.Reading.{slot_node, no_slot, nodes_of, reading_of, Built, ReadsNetwork}
use Rattle.network.specs.declared.Network.{Network}
use Rattle.verdicts.specs.declared.Refusal.{Refusal}
use Rattle.std.specs.Prelude.{Ok, Err}
use Rattle.network.specs.declared.Slot.{Slot}
use Rattle.network.proofs.Kept.{ends_padded}
use Rattle.reader.specs.Answer.{answer_of}

-- the kinds of the first slots
abbrev pub kinds_to : List Slot → ℕ → List ℕ
kinds_to slots i = map kind_of (map slot_node (take i slots))

map_snoc : (l : List Slot) (s : Slot) → map kind_of (map slot_node (l ++ (s ∷ []))) ≡ map kind_of (map slot_node l) ++ (kind_of (slot_node s) ∷ [])
map_snoc [] s = refl
map_snoc (x ∷ l) s = ap (λ (m : List ℕ). kind_of (slot_node x) ∷ m) (map_snoc l s)

length-kinds : (l : List Slot) → length (map kind_of (map slot_node l)) ≡ length l
length-kinds [] = refl
length-kinds (x ∷ l) = ap suc (length-kinds l)

pub kinds_more : (slots : List Slot) (i x : ℕ) (kinds : List ℕ) → i < length slots → i < max_nodes → kinds ≡ padded max_nodes (kinds_to slots i) → x ≡ kind_of (slot_node (get_or slots i no_slot)) →
    set kinds i x ≡ padded max_nodes (kinds_to slots (i + 1))
kinds_more slots i x kinds h g e f =
    let one : take (i + 1) slots ≡ take i slots ++ (get_or slots i no_slot ∷ []) = rw add-one (take-suc slots i no_slot h) in
    let more : kinds_to slots (i + 1) ≡ kinds_to slots i ++ (x ∷ []) =
    ap (λ (l : List Slot). map kind_of (map slot_node l)) one ∙ map_snoc (take i slots) (get_or slots i no_slot) ∙ ap (λ (k : ℕ). kinds_to slots i ++ (k ∷ [])) (sym f) in
    ap (λ (l : List ℕ). set l i x) e ∙ padded_more max_nodes (kinds_to slots i) x i (length-kinds (take i slots) ∙ length-take-le i slots (omega arith)) g ∙ ap (padded max_nodes) (sym more)

-- ---- the reader's answer

-- what the model's reading answers
answer : model.Reading → ReadAnswer
answer r =
    record {
      verdict = r.verdict;
      count = length r.network.nodes;
      kinds = padded max_nodes (map kind_of r.network.nodes);
      widths = padded max_nodes (model.widths r.network.nodes);
      levels = padded max_nodes (model.levels r.network.nodes);
    }

pub answered : (bs : Bytes) (net : Network) (kinds : List ℕ) → ReadsNetwork bs (Ok net) → kinds ≡ padded max_nodes (map kind_of (nodes_of net)) →
    answer_of (Ok (record { count = net.count; kinds = kinds; widths = net.widths; levels = net.levels })) ≡ read_call bs
unfolding read_call answer
answered bs net kinds h k =
    let b : Built net = h.built in
    let count : net.count
    ≡ length (nodes_of net) = sym
    (length-map (take net.count net.slots) slot_node ∙ length-take-le net.count net.slots (omega (arith, b.sound.few, b.slots_length))) in
    let ws : net.widths ≡ padded max_nodes (model.widths (nodes_of net)) = ends_padded max_nodes net.count net.widths b.widths-length b.sound.few b.widths-end
    ∙ ap (padded max_nodes) b.sound.widths in
    let ls : net.levels ≡ padded max_nodes (model.levels (nodes_of net)) = ends_padded max_nodes net.count net.levels b.levels-length b.sound.few b.levels-end
    ∙ ap (padded max_nodes) b.sound.levels in
    let same : answer_of (Ok (record { count = net.count; kinds = kinds; widths = net.widths; levels = net.levels })) ≡ answer (reading_of (Ok net)) =
    λ i. record { verdict = accepted; count = count i; kinds = k i; widths = ws i; levels = ls i } in
    same ∙ ap answer h.is

pub answered-refused : (bs : Bytes) (d : Refusal) → ReadsNetwork bs (Err d) → answer_of (Err d) ≡ read_call bs
unfolding read_call answer model.widths model.levels model.build
answered-refused bs d h = ap answer h.is
