-- Rule 17 of a pending area, test by test. Assumes nothing.
use mathlib.Core.Bool.{Bool, true, false, ◌||◌}
use mathlib.Core.List.{List}
use mathlib.Core.Path.{◌≡◌, ap, sym, ◌∙◌}
use Prim.Native.Nat.{ℕ, ◌<◌, ◌≤◌}
use lib.Dec.{eqb}
use lib.ListN.{get_or, length, take}
use borrow.Author.Tests.{le-leb, lt-leb}
use Rattle.model.specs.Row.{all_of, numbers_below, max_nodes}
use Rattle.model.specs.Network.{Network, widths, sign_of}
use Rattle.model.specs.Areas.{layout, area_size, good_area}
use Rattle.model.specs.Watched.{allows, was_gained}
use Rattle.model.specs.Pending.{alerts, good_pending, pending_count, pending_size}
use Rattle.laws.proofs.All.{all_ext}
use Rattle.areas.specs.Lent.{counts_from}
use Rattle.pending.specs.Placed.{may_hold}

module _ (net : Network) (p : List ℕ) where
  -- too short
  pub judged_short : length p < pending_size → false ≡ good_pending layout net p
  unfolding good_pending
  judged_short h = rw (lt-leb pending_size (length p) h)

  module _ (long : pending_size ≤ length p) (n : ℕ) (ws : List ℕ) (is : take n ws ≡ widths net.nodes) (good : Bool) (e : good ≡ good_area layout (take n ws) (counts_from p area_size) p) where
    -- a place that is not of good form
    pub judged_places : good ≡ false → false ≡ good_pending layout net p
    unfolding good_pending
    judged_places t =
        let no : good_area layout (widths net.nodes) (pending_count layout p) p ≡ false = ap (λ (v : List ℕ). good_area layout v (counts_from p area_size) p) (sym is) ∙ sym e ∙ t in
        rw (le-leb pending_size (length p) long, no)

    -- else the nodes that hold rows decide
    pub judged_held : good ≡ true → (signs : List ℕ) → ((i : ℕ) → get_or signs i 0 ≡ sign_of net i) → (held : Bool) → held ≡ all_of (may_hold signs p) (numbers_below max_nodes) →
        held ≡ good_pending layout net p
    unfolding good_pending
    judged_held t signs are held h =
        let yes : good_area layout (widths net.nodes) (pending_count layout p) p ≡ true = ap (λ (v : List ℕ). good_area layout v (counts_from p area_size) p) (sym is) ∙ sym e ∙ t in
        h ∙ all_ext (may_hold signs p) (λ i. alerts net i || eqb (pending_count layout p i) 0) 0 max_nodes
        (λ i. ap (λ (s : ℕ). allows s was_gained || eqb (pending_count layout p i) 0) (are i)) ∙ sym (rw (le-leb pending_size (length p) long, yes))
