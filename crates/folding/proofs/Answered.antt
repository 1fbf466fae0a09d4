-- What folding answers, by its tests. Assumes nothing.
use mathlib.Core.Bool.{Bool, true, false, not}
use mathlib.Core.List.{List, []}
use mathlib.Core.Path.{◌≡◌, ap, refl, sym, ◌∙◌}
use Prim.Native.Nat.{ℕ}
use native.Mathlib.Nat.{zero-add}
use lib.Dec.{leb}
use lib.ListN.{length}
use borrow.Author.Tests.{leb-true, not-false, not-true}
use Rattle.model.specs.Row.{Relation, all_of, max_rows, numbers_below}
use Rattle.model.specs.Record.{accepted, refused}
use Rattle.model.specs.Areas.{layout, over}
use Rattle.model.specs.Pending.{fold_all, good_pending, pending_in, pending_of}
use Rattle.model.specs.Calls.{fold_in}
use Rattle.laws.proofs.All.{all_below}
use Rattle.areas.specs.Lent.{lent}
use Rattle.network.specs.declared.Network.{Network}
use Rattle.network.specs.Reading.{Built, network_of, nodes_of}
use Rattle.network.proofs.Building.{sign_at}
use Rattle.network.proofs.Nodes.{narrow-widths, nodes-count}
use Rattle.folding.specs.Folding.{Changed, FitTo, Ready, Signed, changes_held, folded_at}
use Rattle.folding.proofs.Ready.{all_fitted, fits_at}

module _ (net : Network) (b : Built net) (gained lost head p : List ℕ) (d : Changed (nodes_of net) gained lost head) where
  -- every node's rows once folded
  abbrev all : List Relation
  all = fold_all (network_of net) (changes_held (nodes_of net) gained lost head) (pending_in layout (network_of net) p)

  -- its signs
  pub signed : Signed (network_of net) net.signs
  signed = record { long = b.signs-length; are = sign_at net b }

  -- the pending area itself
  pub folded_17 : (good : Bool) → good ≡ good_pending layout (network_of net) p → not good ≡ true → record { verdict = refused 17 0; pending = p }
      ≡ fold_in layout (network_of net) (lent [] gained lost head) p
  unfolding fold_in
  folded_17 good e t = sym (rw (sym e ∙ not-true good t))

  module _ (good : Bool) (e : good ≡ good_pending layout (network_of net) p) (passed : not good ≡ false) where
    whole : good_pending layout (network_of net) p ≡ true
    whole = sym e ∙ not-false good passed

    -- all that folding reads
    pub ready : Ready (network_of net) gained lost head p
    ready =
        record {
          few = rw (nodes-count net b) b.sound.few;
          narrow = narrow-widths net b;
          changed = d;
          pending-good = whole;
        }

    module _ (fit : Bool) (f : fit ≡ all_of (λ rel. leb (length rel) max_rows) (fold_all (network_of net) (changes_held (nodes_of net) gained lost head) (pending_in layout (network_of net) p))) where
      -- a node would have too many rows
      pub folded_over : not fit ≡ true → record { verdict = refused 17 0; pending = p } ≡ fold_in layout (network_of net) (lent [] gained lost head) p
      unfolding fold_in
      folded_over t = sym (rw (whole, sym f ∙ not-true fit t))

      module _ (t : not fit ≡ false) where
        -- every node's rows fit
        pub fit_to : FitTo net.count (network_of net) gained lost head p
        fit_to i h =
            let every : all_of (fits_at (network_of net) gained lost head p) (numbers_below net.count) ≡ true =
            all_fitted (network_of net) net.count gained lost head p (nodes-count net b) _ refl ∙ sym f ∙ not-false fit t in
            leb-true (length (folded_at (network_of net) gained lost head p i)) max_rows
            (ap (fits_at (network_of net) gained lost head p) (sym (zero-add i)) ∙ all_below (fits_at (network_of net) gained lost head p) 0 net.count every i h)

        -- the folded rows are written
        pub folded_all : (after : List ℕ) → after ≡ over (pending_of layout all) p → record { verdict = accepted; pending = after }
            ≡ fold_in layout (network_of net) (lent [] gained lost head) p
        unfolding fold_in
        folded_all after a = ap (λ (y : List ℕ). record { verdict = accepted; pending = y }) a ∙ sym (rw (whole, sym f ∙ not-false fit t))
