-- A node's report after refusals 1 to 8. Assumes nothing.
use mathlib.Core.Bool.{◌&&◌, Bool, false, not, true}
use mathlib.Core.List.{List, []}
use mathlib.Core.Path.{ap, ap₂, refl, sym, ◌∙◌, ◌≡◌}
use Prim.Native.Nat.{◌<◌, ℕ, ◌≤◌}
use native.Mathlib.Omega.{arith}
use lib.ListN.{get_or-eq_default, get_or, length, take}
use lib.Dec.{eqb, leb, ltb}
use lib.Seq.{length-take-le}
use borrow.Author.Tests.{le-leb, lt-leb, lt-ltb, ltb-false, ltb-true, ne_eqb}
use Rattle.network.specs.declared.Network.{Network}
use Rattle.model.specs.Areas.{changes_in, gained_count, lost_count}
use Rattle.network.specs.Reading.{Built, network_of, nodes_of}
use Rattle.std.specs.Prelude.{Ok, Err}
use Rattle.verdicts.specs.declared.Refusal.{Refusal}
use Rattle.verdicts.specs.Verdicts.{refusal_of}
use Rattle.model.specs.Record.{Bytes, accepted, refused, Verdict}
use Rattle.model.specs.Delta.{Change}
use Rattle.reports.specs.Written.{report_size}
use Rattle.model.specs.Calls.{is_watched, report_bytes, report_call, report_in, report_of, written_to, ReportAnswer}
use Rattle.network.proofs.Nodes.{nodes-count}
use Rattle.areas.specs.Lent.{lent}
use Rattle.reports.proofs.Bytes.{report_length}
use Rattle.admission.specs.Admission.{change_in}
use Rattle.admission.specs.Admission.{Admits}
use Rattle.admission.proofs.Admitted.{after_admitted, after-refused}
use Rattle.admission.proofs.Changes.{change_at_lem}
use Rattle.model.specs.Network as model
use Rattle.model.specs.Row.{max_nodes}

both_false : (a : Bool) → (a && false) ≡ false
both_false true = refl
both_false false = refl

-- a sign that is not 0 is that of a node
module _ (net : Network) (b : Built net) (node sign : ℕ) (e : sign ≡ get_or (take net.count net.signs) node 0) (n : sign ≡ 0 → ⊥) where
  pub sign-inside : node < net.count
  sign-inside = go (ltb node net.count) refl
    where
      size : length (take net.count net.signs) ≡ net.count
      size = length-take-le net.count net.signs (omega (arith, b.sound.few, b.signs-length))

      go : (t : Bool) → ltb node net.count ≡ t → node < net.count
      go true f = ltb-true node net.count f
      go false f = absurd (n (e ∙ get_or-eq_default (take net.count net.signs) 0 (rw size (ltb-false node net.count f))))

  pub sign-few : node < max_nodes
  sign-few = omega (arith, sign-inside, b.sound.few)

module _ (net : Network) (b : Built net) (node : ℕ) (gained lost head : List ℕ) where
  -- the report's bytes
  report_is : (sign : ℕ) → sign ≡ get_or (take net.count net.signs) node 0 → node < net.count → report_of (network_of net) node (lent [] gained lost head)
      ≡ report_bytes sign node (change_in net node gained lost head)
  unfolding report_of
  report_is sign e h = ap₂ {A = ℕ} {B = Change} {C = List ℕ} (λ s x. report_bytes s node x) (sym e) (change_at_lem net b node gained lost head h)

  module _ (out : List ℕ) where
    pub unwatched : (sign : ℕ) → sign ≡ get_or (take net.count net.signs) node 0 → sign ≡ 0 → record { verdict = refused 15 0; size = 0; out = out }
        ≡ report_in (network_of net) node (lent [] gained lost head) out
    unfolding report_in
    unwatched sign e z =
        let zero-sign : get_or (take net.count net.signs) node 0 ≡ 0 = sym e ∙ z in
        let no : is_watched (network_of net) node ≡ false = ap (λ (s : ℕ). ltb node (length (nodes_of net)) && not (eqb s 0)) zero-sign ∙ both_false (ltb node (length (nodes_of net))) in
        rw no

    watched : (sign : ℕ) → sign ≡ get_or (take net.count net.signs) node 0 → (sign ≡ 0 → ⊥) → is_watched (network_of net) node ≡ true
    watched sign e n =
        let h : node < net.count = sign-inside net b node sign e n in
        let inside : ltb node (length (nodes_of net)) ≡ true = lt-ltb node (length (nodes_of net)) (rw (nodes-count net b) h) in
        let set : eqb (get_or (take net.count net.signs) node 0) 0 ≡ false = ap (λ (s : ℕ). eqb s 0) (sym e) ∙ ne_eqb sign 0 n in
        ap₂ {A = Bool} {B = Bool} {C = Bool} (λ x y. x && not y) inside set

    module _ (sign size : ℕ) (e : sign ≡ get_or (take net.count net.signs) node 0) (n : sign ≡ 0 → ⊥)
        (s : size ≡ report_size sign (get_or net.widths node 0) (gained_count head node) (lost_count head node)) where
      inside : node < net.count
      inside = sign-inside net b node sign e n

      length_is : length (report_of (network_of net) node (lent [] gained lost head)) ≡ size
      length_is = ap length (report_is sign e inside) ∙ report_length sign node (get_or net.widths node 0) (gained_count head node) (lost_count head node) gained lost ∙ sym s

      pub too_short : length out < size → record { verdict = refused 16 0; size = 0; out = out } ≡ report_in (network_of net) node (lent [] gained lost head) out
      unfolding report_in
      too_short h =
          let no : leb (length (report_of (network_of net) node (lent [] gained lost head))) (length out) ≡ false = ap (λ (k : ℕ). leb k (length out)) length_is ∙ lt-leb size (length out) h in
          rw (watched sign e n, no)

      pub written : (after : List ℕ) → size ≤ length out → after ≡ written_to out (report_bytes sign node (change_in net node gained lost head)) →
          record { verdict = accepted; size = size; out = after } ≡ report_in (network_of net) node (lent [] gained lost head) out
      unfolding report_in
      written after h f =
          let yes-fits : leb (length (report_of (network_of net) node (lent [] gained lost head))) (length out) ≡ true = ap (λ (k : ℕ). leb k (length out)) length_is
          ∙ le-leb size (length out) h in
          let same : after ≡ written_to out (report_of (network_of net) node (lent [] gained lost head)) = f ∙ ap (written_to out) (sym (report_is sign e inside)) in
          rw (watched sign e n, yes-fits) (λ i. record { verdict = accepted; size = sym length_is i; out = same i })

-- ---- the whole call

module _ (net : Bytes) (node : ℕ) (rows gained lost head out : List ℕ) where
  -- what is answered for a network that was read, and for a refusal
  abbrev answer : model.Network → ReportAnswer
  answer n = report_in n node (lent rows gained lost head) out

  abbrev refusal : Verdict → ReportAnswer
  refusal v = record { verdict = v; size = 0; out = out }

  pub report_refused : (r : Refusal) → Admits net (lent rows gained lost head) (Err r) → record { verdict = refusal_of r; size = 0; out = out }
      ≡ report_call net node (lent rows gained lost head) out
  unfolding report_call
  report_refused r f = sym (after-refused net rows gained lost head r f answer refusal)

  -- the rows are not looked at
  without_rows : (n : model.Network) → report_in n node (lent [] gained lost head) out ≡ answer n
  unfolding report_in report_of changes_in
  without_rows n = refl

  pub report_known : (n : Network) → Admits net (lent rows gained lost head) (Ok n) → (x : ReportAnswer) → x ≡ report_in (network_of n) node (lent [] gained lost head) out →
      x ≡ report_call net node (lent rows gained lost head) out
  unfolding report_call
  report_known n f x k = k ∙ without_rows (network_of n) ∙ sym (after_admitted net rows gained lost head n f answer refusal)
