-- A report has at most 2,816 bytes: 64 gained and 64 lost rows of at most 22 bytes each. Assumes nothing.
use mathlib.Core.Bool.{Bool, cond, false, not, true}
use mathlib.Core.List.{List, []}
use mathlib.Core.Path.{ap, refl, ◌≡◌}
use Prim.Native.Nat.{◌≤◌, ◌<◌, zero-le, ℕ}
use native.Mathlib.Omega.{arith}
use lib.ListN.{get_or, length}
use lib.Dec.{eqb, leb, ltb}
use borrow.Author.Tests.{ltb-true}
use Rattle.model.specs.Areas.{Areas, gained_count, good_form, layout, lost_count}
use Rattle.model.specs.Watched.{allows, was_gained, was_lost}
use Rattle.model.specs.Calls.{form_verdict, is_watched, report_bytes, report_call, report_in, report_of, report_rule, unless, longest_report}
use Rattle.model.specs.Delta.{Change}
use Rattle.model.specs.Network.{Node, read_network, nodes_in, sign_of, widths}
use Rattle.model.specs.Record.{Bytes, is_accepted}
use Rattle.laws.proofs.Fits.{length-widths, read_small}
use Rattle.laws.proofs.Sets.{and_first}
use Rattle.model.specs.Row.{max_nodes, max_rows}
use Rattle.reports.proofs.Bytes.{allowed_bound, report_length}
use Rattle.states.proofs.Fitted.{few_at, form_parts}
use Rattle.laws.proofs.Verdicts.{form-holds, or-holds, unless_holds}
use Rattle.admission.proofs.Changes.{change_held}

module _ (net : Bytes) (a : Areas) where
  abbrev nodes : List Node
  nodes = nodes_in net

  report_most : (node : ℕ) → good_form layout nodes a ≡ true → node < length nodes → length (report_of (read_network net).network node a) ≤ longest_report
  unfolding report_of
  report_most node good h =
      let sign : ℕ = sign_of (read_network net).network node in
      let w : ℕ = get_or (widths nodes) node 0 in
      let inside : node < length (widths nodes) = rw (length-widths nodes) h in
      let few : length (widths nodes) ≤ max_nodes = rw (length-widths nodes) (read_small net).few in
      let fewest = few_at (widths nodes) few (read_small net).narrow in
      let gained-few : gained_count a.head node ≤ max_rows = fewest (gained_count a.head) a.gained (form_parts nodes a good).1 node inside in
      let lost-few : lost_count a.head node ≤ max_rows = fewest (lost_count a.head) a.lost (form_parts nodes a good).2 node inside in
      omega (
        arith,
        ap (λ (c : Change). length (report_bytes sign node c)) (change_held nodes a node inside),
        report_length sign node w (gained_count a.head node) (lost_count a.head node) a.gained a.lost,
        allowed_bound (allows sign was_gained) (gained_count a.head node) w gained-few ((read_small net).narrow node),
        allowed_bound (allows sign was_lost) (lost_count a.head node) w lost-few ((read_small net).narrow node),
      )

  -- the length that a report answers, once 1 to 8 let pass
  size_in : (node : ℕ) (out : Bytes) → good_form layout nodes a ≡ true → (report_in (read_network net).network node a out).size ≤ longest_report
  unfolding report_in
  size_in node out good = go (is_accepted (report_rule (read_network net).network node (length text) (length out))) refl
    where
      text : Bytes
      text = report_of (read_network net).network node a

      watched : Bool
      watched = is_watched (read_network net).network node

      go : (t : Bool) → is_accepted (report_rule (read_network net).network node (length text) (length out)) ≡ t → length (cond t text []) ≤ longest_report
      go true e =
          let is : watched ≡ true = unless_holds watched 15 refl (or-holds (unless watched 15) (unless (leb (length text) (length out)) 16) e).0 in
          let inside : ltb node (length nodes) ≡ true = and_first (ltb node (length nodes)) (not (eqb (sign_of (read_network net).network node) 0)) is in
          report_most node good (ltb-true node (length nodes) inside)
      go false e = zero-le

  -- the length that a report answers
  pub size_most : (node : ℕ) (out : Bytes) → (report_call net node a out).size ≤ longest_report
  unfolding report_call
  size_most node out = go (is_accepted (form_verdict net a)) refl
    where
      go : (t : Bool) → is_accepted (form_verdict net a) ≡ t →
          (cond t (report_in (read_network net).network node a out) (record { verdict = form_verdict net a; size = 0; out = out })).size ≤ longest_report
      go true e = size_in node out (form-holds net a e)
      go false e = zero-le
