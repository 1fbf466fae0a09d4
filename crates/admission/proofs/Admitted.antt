-- What refusals 1 to 8 leave: a call's answer, and what good form says of the places. Assumes nothing.
use mathlib.Core.Bool.{Bool, false, true, cond}
use mathlib.Core.List.{List}
use mathlib.Core.Path.{ap, sym, ◌∙◌, ◌≡◌}
use Prim.Native.Nat.{ℕ, ◌≤◌}
use native.Mathlib.Omega.{arith}
use lib.ListN.{get_or, length}
use Rattle.network.specs.declared.Network.{Network}
use Rattle.verdicts.specs.declared.Refusal.{Refusal}
use Rattle.verdicts.proofs.Numbers.{not-accepted}
use Rattle.std.specs.Prelude.{Ok, Err}
use Rattle.model.specs.Network.{AllFit, read_network, widths}
use Rattle.model.specs.Areas.{Areas, gained_count, good_area, good_form, good_stamps, good_worked, layout, lost_count, row_count}
use Rattle.network.specs.Reading.{Built, network_of, nodes_of}
use Rattle.verdicts.specs.Verdicts.{refusal_of}
use Rattle.model.specs.Record.{Bytes, is_accepted, Verdict}
use Rattle.admission.specs.Admission.{Changes, Admits}
use Rattle.coherence.specs.Held.{Checkable, Places}
use Rattle.areas.proofs.Good.{long_parts}
use Rattle.model.specs.Calls.{after_form, form_verdict}
use Rattle.areas.specs.Lent.{lent}
use Rattle.laws.proofs.Fits.{read_fits, length-widths}
use Rattle.states.proofs.Fitted.{form_parts, place-good, few_at}
use Rattle.network.proofs.Nodes.{nodes-count, narrow-widths, width_is}
use Rattle.model.specs.Network as model
use Rattle.model.specs.Areas.{area_size, head_words}
use Rattle.model.specs.Row.{max_nodes, max_width}

-- ---- the parts of good form

module _ (net : Network) (b : Built net) (rows gained lost head : List ℕ) (good : good_form layout (nodes_of net) (lent rows gained lost head) ≡ true) where
  parts : (good_area layout (widths (nodes_of net)) (row_count head) rows ≡ true) × (good_area layout (widths (nodes_of net)) (gained_count head) gained ≡ true)
      × (good_area layout (widths (nodes_of net)) (lost_count head) lost ≡ true) × (good_stamps (length (nodes_of net)) head ≡ true) × (good_worked (length (nodes_of net)) head ≡ true)
  parts = form_parts (nodes_of net) (lent rows gained lost head) good

  size : length (widths (nodes_of net)) ≡ net.count
  size = length-widths (nodes_of net) ∙ nodes-count net b

  few : length (widths (nodes_of net)) ≤ max_nodes
  few = rw size b.sound.few

  narrow : (i : ℕ) → get_or (widths (nodes_of net)) i 0 ≤ max_width
  narrow = narrow-widths net b

  pub rows-places : (area_size ≤ length rows) → (head_words ≤ length head) → Places net.widths net.count rows head
  rows-places lr lh =
      record {
        few = b.sound.few;
        widths-long = omega (arith, b.widths-length, b.sound.few);
        narrow = b.narrow;
        rows_long = lr;
        head-long = lh;
        good = λ i h. rw (← width_is net b i h) (place-good (widths (nodes_of net)) few narrow (row_count head) rows parts.0 i (rw size h));
      }

  pub changes-good : (area_size ≤ length gained) → (area_size ≤ length lost) → (head_words ≤ length head) → Changes net gained lost head
  changes-good lg ll lh =
      record {
        gained-long = lg;
        lost-long = ll;
        head-long = lh;
        gained-few = λ i h. few_at (widths (nodes_of net)) few narrow (gained_count head) gained parts.1 i (rw size h);
        lost-few = λ i h. few_at (widths (nodes_of net)) few narrow (lost_count head) lost parts.2 i (rw size h);
      }

-- ---- after 1 to 8

module _ (net : Bytes) (rows gained lost head : List ℕ) where
  abbrev a : Areas
  a = lent rows gained lost head

  module _ (d : Refusal) (f : Admits net (lent rows gained lost head) (Err d)) where
    pub form-refused : is_accepted (form_verdict net (lent rows gained lost head)) ≡ false
    form-refused = ap is_accepted (sym f.verdict) ∙ not-accepted d

    -- where 1 to 8 refuse, a call answers with their verdict
    pub after-refused : {A : Type 0} (answer : model.Network → A) (refusal : Verdict → A) →
        after_form net (lent rows gained lost head) answer refusal ≡ refusal (refusal_of d)
    after-refused answer refusal =
        ap (λ (t : Bool). cond t (answer (read_network net).network) (refusal (form_verdict net a))) form-refused ∙ ap refusal (sym f.verdict)

  module _ (n : Network) (f : Admits net (lent rows gained lost head) (Ok n)) where
    pub form-accepted : is_accepted (form_verdict net (lent rows gained lost head)) ≡ true
    form-accepted = ap is_accepted (sym f.verdict)

    -- where they let pass, it answers for the network that was read
    pub after_admitted : {A : Type 0} (answer : model.Network → A) (refusal : Verdict → A) →
        after_form net (lent rows gained lost head) answer refusal ≡ answer (network_of n)
    after_admitted answer refusal =
        ap (λ (t : Bool). cond t (answer (read_network net).network) (refusal (form_verdict net a))) form-accepted ∙ ap answer (sym f.admitted.network)

    fits : AllFit (nodes_of n)
    fits = rw (ap (λ (x : model.Network). x.nodes) f.admitted.network) (read_fits net)

    long : (area_size ≤ length rows) × (area_size ≤ length gained) × (area_size ≤ length lost) × (head_words ≤ length head)
    long = long_parts rows gained lost head f.admitted.long

    pub checkable : Checkable n rows head
    checkable = record { built = f.admitted.built; fit = fits; places = rows-places n f.admitted.built rows gained lost head f.admitted.good long.0 long.3 }

    pub changes_admitted : Changes n gained lost head
    changes_admitted = changes-good n f.admitted.built rows gained lost head f.admitted.good long.1 long.2 long.3
