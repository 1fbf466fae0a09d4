-- Batches read record by record. Assumes nothing.
use mathlib.Core.Bool.{◌&&◌, Bool, cond, false, not, true}
use mathlib.Core.List.{◌++◌, List, [], ◌∷◌}
use mathlib.Core.Path.{◌≡◌, ap, ap₂, refl, sym, ◌∙◌}
use Prim.Native.Nat.{◌*◌, ◌+◌, ◌<◌, suc, ℕ, ◌≤◌}
use native.Mathlib.Omega.{arith}
use lib.Dec.{eqb, leb, ltb}
use lib.ListN.{get_or, length, length-append, take}
use borrow.Author.Tests.{eq-eqb, ltb-true, ne_eqb, leb-false}
use Rattle.network.specs.Reading.{Built, no_slot, nodes_of, slot_node}
use Rattle.model.specs.Record.{Bytes, Verdict, accepted, field_at, first_broken, is_broken, kind_at, length_at, offsets, refused, rule}
use Rattle.model.specs.Batch.{Event, event_at, event_fault, event_fault_by, event_fits, event_fits_by, is_event_kind, max_events, read_batch, read_events}
use Rattle.records.specs.Actions.{action_number}
use Rattle.records.specs.declared.Action.{Action}
use Rattle.records.specs.declared.Action.TheVariants.{Put, Remove}
use Rattle.records.proofs.Header.{Whole, whole}
use Rattle.events.specs.Reading.{NumbersOf, ReadsEvent, is_table_in, number_of, size_of}
use Rattle.std.specs.Prelude.{Result, Ok, Err}
use Rattle.verdicts.proofs.Numbers.{rule_some}
use Rattle.verdicts.specs.declared.Rule.{Rule}
use Rattle.verdicts.specs.declared.Rule.TheVariants.{BrokenEvent, UnknownEvent, TooManyEvents, WrongEvent}
use Rattle.network.proofs.Nodes.{level_at, nodes-count, slot_node_lem, width_is}
use Rattle.records.proofs.Offsets.{remaining, remaining_all, remaining_broken, remaining_none, remaining_whole}
use Rattle.network.specs.declared.Network.{Network}
use Rattle.model.specs.Network as model

-- ---- one record

-- each action's kind is one of events
pub kind_known : (a : Action) → is_event_kind (action_number a) ≡ true
kind_known Put = refl
kind_known Remove = refl

module _ (a b c d : Bool) where
  pub fits-first : a ≡ false → false ≡ (a && b && c && d)
  fits-first e = rw e

  pub fits-second : a ≡ true → b ≡ false → false ≡ (a && b && c && d)
  fits-second e f = rw (e, f)

  pub fits_third : a ≡ true → b ≡ true → c ≡ false → false ≡ (a && b && c && d)
  fits_third e f g = rw (e, f, g)

  pub fits_last : a ≡ true → b ≡ true → c ≡ true → d ≡ (a && b && c && d)
  fits_last e f g = rw (e, f, g)

module _ (count : ℕ) (ws ls : List ℕ) (before : ℕ) (bs : Bytes) (at : ℕ) where
  -- its kind is one of events
  abbrev pub event_kind : Bool
  event_kind = is_event_kind (kind_at bs at)

  abbrev Reads : Result ℕ Rule → Type 0
  Reads r = ReadsEvent count ws ls before bs at r

  abbrev Fits : Bool
  Fits = event_fits_by count (is_table_in ls) ws bs at

  pub reads-broken : is_broken bs at ≡ true → Reads (Err BrokenEvent)
  reads-broken e = record { number = rw e; size = λ z. absurd (omega arith) }

  pub reads_no_event : is_broken bs at ≡ false → event_kind ≡ false → Reads (Err UnknownEvent)
  reads_no_event e f = record { number = rw (e, f); size = λ z. absurd (omega arith) }

  pub reads_too_many : is_broken bs at ≡ false → event_kind ≡ true → leb max_events before ≡ true → Reads (Err TooManyEvents)
  reads_too_many e f g = record { number = rw (e, f, g); size = λ z. absurd (omega arith) }

  pub reads_misfit : is_broken bs at ≡ false → event_kind ≡ true → leb max_events before ≡ false → Fits ≡ false → Reads (Err WrongEvent)
  reads_misfit e f g h = record { number = rw (e, f, g, h); size = λ z. absurd (omega arith) }

  pub reads_event : (n : ℕ) → is_broken bs at ≡ false → event_kind ≡ true → leb max_events before ≡ false → Fits ≡ true → n ≡ length_at bs at → Reads (Ok n)
  reads_event n e f g h i = record { number = rw (e, f, g, h); size = λ z. i }

-- ---- the network's numbers are those of its nodes

module _ (net : Network) (b : Built net) (bs : Bytes) where
  level_says : (t : ℕ) → t < net.count → is_table_in net.levels t ≡ model.is_table (model.node_at (nodes_of net) t)
  level_says t h = go (model.is_table (slot_node (get_or net.slots t no_slot))) refl
    where
      node : model.is_table (model.node_at (nodes_of net) t) ≡ model.is_table (slot_node (get_or net.slots t no_slot))
      node = ap model.is_table (slot_node_lem net b t h)

      go : (u : Bool) → model.is_table (slot_node (get_or net.slots t no_slot)) ≡ u → is_table_in net.levels t ≡ model.is_table (model.node_at (nodes_of net) t)
      go true e = eq-eqb (get_or net.levels t 0) 0
          (level_at net b t h ∙ ap (λ (u : Bool). cond u 0 (suc (model.highest (take t (model.levels (nodes_of net))) (model.inputs_of (slot_node (get_or net.slots t no_slot)))))) e)
          ∙ sym (node ∙ e)
      go false e =
          let up : get_or net.levels t 0 ≡ suc (model.highest (take t (model.levels (nodes_of net))) (model.inputs_of (slot_node (get_or net.slots t no_slot)))) = level_at net b t h
          ∙ ap (λ (u : Bool). cond u 0 (suc (model.highest (take t (model.levels (nodes_of net))) (model.inputs_of (slot_node (get_or net.slots t no_slot)))))) e in
          ne_eqb (get_or net.levels t 0) 0 (λ z. absurd (omega arith)) ∙ sym (node ∙ e)

  fits-same : (at : ℕ) → event_fits_by net.count (is_table_in net.levels) net.widths bs at ≡ event_fits (nodes_of net) bs at
  unfolding event_fits
  fits-same at = go (ltb (field_at bs at 0) net.count) refl
    where
      t : ℕ
      t = field_at bs at 0

      go : (u : Bool) → ltb (field_at bs at 0) net.count ≡ u → event_fits_by net.count (is_table_in net.levels) net.widths bs at ≡ event_fits (nodes_of net) bs at
      go true e =
          let h : field_at bs at 0 < net.count = ltb-true (field_at bs at 0) net.count e in
          rw (nodes-count net b, width_is net b (field_at bs at 0) h, level_says (field_at bs at 0) h)
      go false e = rw (nodes-count net b, e)
          (both (leb 6 (length_at bs at)) (eqb (get_or net.levels (field_at bs at 0) 0) 0) (eqb (length_at bs at) (6 + 4 * get_or net.widths (field_at bs at 0) 0))
          (model.is_table (model.node_at (nodes_of net) (field_at bs at 0))) (eqb (length_at bs at) (6 + 4 * get_or (model.widths (nodes_of net)) (field_at bs at 0) 0)))
        where
          both : (p q r s u : Bool) → (p && false && q && r) ≡ (p && false && s && u)
          both true q r s u = refl
          both false q r s u = refl

  -- a reading by the arrays says what the rules say of the nodes
  built-number : (before at : ℕ) (r : Result ℕ Rule) → ReadsEvent net.count net.widths net.levels before bs at r → number_of r ≡ event_fault (nodes_of net) before bs at
  unfolding event_fault
  built-number before at r e = e.number ∙ ap (λ (f : Bool). event_fault_by f before bs at) (fits-same at)

-- the same of numbers that are a network's
pub reads-number : {count : ℕ} {ws ls : List ℕ} (o : NumbersOf count ws ls) (bs : Bytes) (before at : ℕ) (r : Result ℕ Rule) → ReadsEvent count ws ls before bs at r →
    number_of r ≡ event_fault (nodes_of o.net) before bs at
reads-number o bs before at r e =
    built-number o.net o.built bs before at r (rw (o.count_is, o.widths-are, o.levels-are) e)

pub reads-size : (count : ℕ) (ws ls : List ℕ) (bs : Bytes) (before at : ℕ) (r : Result ℕ Rule) (n : ℕ) → ReadsEvent count ws ls before bs at r → r ≡ Ok n → n ≡ length_at bs at
reads-size count ws ls bs before at r n e f = sym (ap size_of f) ∙ e.size (ap number_of f)

-- what is no event has a number
pub refused-number : (r : Result ℕ Rule) → ((n : ℕ) → r ≡ Ok n → ⊥) → number_of r ≡ 0 → ⊥
refused-number (Ok n) k e = k n refl
refused-number (Err rule) k e = omega (arith, rule_some rule)

-- ---- what is known of a record without a fault

unbroken : (fits : Bool) (k : ℕ) (bs : Bytes) (at : ℕ) → event_fault_by fits k bs at ≡ 0 → is_broken bs at ≡ false
unbroken fits k bs at e = go (is_broken bs at) refl
  where
    go : (t : Bool) → is_broken bs at ≡ t → is_broken bs at ≡ false
    go true f = let z : ◌≡◌ {A = ℕ} 10 0 = rw f at e in absurd (omega arith)
    go false f = f

-- an event that is read is not the 65th
unfilled : (fits : Bool) (k : ℕ) (bs : Bytes) (at : ℕ) → event_fault_by fits k bs at ≡ 0 → k + 1 ≤ max_events
unfilled fits k bs at e = go (is_broken bs at) (is_event_kind (kind_at bs at)) (leb max_events k) fits refl e
  where
    go : (p q r u : Bool) → leb max_events k ≡ r → first_broken (rule 10 p ∷ rule 11 (not q) ∷ rule 12 r ∷ rule 13 (not u) ∷ []) ≡ 0 → k + 1 ≤ max_events
    go true q r u f z = absurd (omega arith)
    go false false r u f z = absurd (omega arith)
    go false true true u f z = absurd (omega arith)
    go false true false u f z = omega (arith, leb-false max_events k f)

module _ (count : ℕ) (ws ls : List ℕ) (before : ℕ) (bs : Bytes) (at : ℕ) (r : Result ℕ Rule) (n : ℕ) (e : ReadsEvent count ws ls before bs at r) (f : r ≡ Ok n) where
  faultless : event_fault_by (event_fits_by count (is_table_in ls) ws bs at) before bs at ≡ 0
  faultless = sym e.number ∙ ap number_of f

  pub brought_whole : Whole bs at
  brought_whole = whole bs at (unbroken (event_fits_by count (is_table_in ls) ws bs at) before bs at faultless)

  pub brought_few : before + 1 ≤ max_events
  brought_few = unfilled (event_fits_by count (is_table_in ls) ws bs at) before bs at faultless

-- ---- record after record

-- the verdict of the records at some offsets, after so many events
pub verdict_from : List model.Node → Bytes → ℕ → List ℕ → Verdict
verdict_from nodes bs k [] = accepted
verdict_from nodes bs k (at ∷ rest) = cond (eqb (event_fault nodes k bs at) 0) (verdict_from nodes bs (suc k) rest) (refused (event_fault nodes k bs at) at)

verdict_is : (nodes : List model.Node) (bs : Bytes) (done : List Event) (ats : List ℕ) → (read_events nodes bs done ats).verdict ≡ verdict_from nodes bs (length done) ats
unfolding read_events verdict_from
verdict_is nodes bs done [] = refl
verdict_is nodes bs done (at ∷ rest) = go (eqb (event_fault nodes (length done) bs at) 0) (verdict_is nodes bs (done ++ (event_at (model.widths nodes) bs at ∷ [])) rest)
  where
    go : (t : Bool) → (read_events nodes bs (done ++ (event_at (model.widths nodes) bs at ∷ [])) rest).verdict
        ≡ verdict_from nodes bs (length (done ++ (event_at (model.widths nodes) bs at ∷ []))) rest →
        (cond t (read_events nodes bs (done ++ (event_at (model.widths nodes) bs at ∷ [])) rest) (record { verdict = refused (event_fault nodes (length done) bs at) at; events = [] })).verdict
        ≡ cond t (verdict_from nodes bs (suc (length done)) rest) (refused (event_fault nodes (length done) bs at) at)
    go true ih = let size : length (done ++ (event_at (model.widths nodes) bs at ∷ [])) ≡ suc (length done) = length-append done (event_at (model.widths nodes) bs at ∷ []) ∙ omega arith in ih
        ∙ ap (λ (k : ℕ). verdict_from nodes bs k rest) size
    go false ih = refl

module _ (nodes : List model.Node) (bs : Bytes) where
  -- what is left to read decides
  abbrev pub Left : ℕ → ℕ → Type 0
  Left k at = (read_batch nodes bs).verdict ≡ verdict_from nodes bs k (remaining bs at)

  pub left_start : Left 0 0
  unfolding read_batch
  left_start = verdict_is nodes bs [] (offsets bs) ∙ ap (verdict_from nodes bs 0) (remaining_all bs)

  whole_event : (k at : ℕ) → event_fault nodes k bs at ≡ 0 → is_broken bs at ≡ false
  unfolding event_fault
  whole_event k at e = unbroken (event_fits nodes bs at) k bs at e

  pub left-next : (k at next : ℕ) → Left k at → at < length bs → event_fault nodes k bs at ≡ 0 → next ≡ at + length_at bs at → Left (k + 1) next
  unfolding verdict_from
  left-next k at next l h e f =
      l
      ∙ ap (verdict_from nodes bs k) (remaining_whole bs at h (whole_event k at e))
      ∙ ap (λ (t : Bool). cond t (verdict_from nodes bs (suc k) (remaining bs (at + length_at bs at))) (refused (event_fault nodes k bs at) at)) (eq-eqb (event_fault nodes k bs at) 0 e)
      ∙ ap₂ {A = ℕ} {B = ℕ} {C = Verdict} (λ n m. verdict_from nodes bs n (remaining bs m)) (let g : suc k ≡ k + 1 = omega arith in g) (sym f)

  pub left-refused : (k at : ℕ) → Left k at → at < length bs → (event_fault nodes k bs at ≡ 0 → ⊥) → refused (event_fault nodes k bs at) at ≡ (read_batch nodes bs).verdict
  unfolding verdict_from
  left-refused k at l h n = sym (l ∙ go (is_broken bs at) refl)
    where
      no : eqb (event_fault nodes k bs at) 0 ≡ false
      no = ne_eqb (event_fault nodes k bs at) 0 n

      go : (t : Bool) → is_broken bs at ≡ t → verdict_from nodes bs k (remaining bs at) ≡ refused (event_fault nodes k bs at) at
      go true f = ap (verdict_from nodes bs k) (remaining_broken bs at h f) ∙ ap (λ (t : Bool). cond t (verdict_from nodes bs (suc k) []) (refused (event_fault nodes k bs at) at)) no
      go false f = ap (verdict_from nodes bs k) (remaining_whole bs at h f)
          ∙ ap (λ (t : Bool). cond t (verdict_from nodes bs (suc k) (remaining bs (at + length_at bs at))) (refused (event_fault nodes k bs at) at)) no

  pub left_end : (k at : ℕ) → Left k at → length bs ≤ at → accepted ≡ (read_batch nodes bs).verdict
  unfolding verdict_from
  left_end k at l h = sym (l ∙ ap (verdict_from nodes bs k) (remaining_none bs at h))
