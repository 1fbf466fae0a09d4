-- Each step of the program does what its definitions say. Assumes nothing.
use mathlib.Core.Bool.{Bool, cond, false, true}
use mathlib.Core.List.{List, [], ◌∷◌}
use mathlib.Core.Path.{ap, refl, subst, sym, ◌∙◌, ◌≡◌}
use Prim.Native.Nat.{ℕ, ◌+◌, ◌-◌, ◌≤◌}
use native.Mathlib.Omega.{arith}
use lib.Dec.{ltb}
use lib.ListN.{drop, get_or, length, length-drop}
use lib.Seq.{length-take-le, sets}
use borrow.Author.Tests.{le-leb}
use Rattle.model.specs.Record.{Bytes, is_accepted}
use Rattle.model.specs.Network.{read_network, nodes_in}
use Rattle.model.specs.Station.{State}
use Rattle.model.specs.Areas.{Areas, coherent, good_form, layout, long_enough, rows_in, same_relations, state_in, tables_of, area_size}
use Rattle.model.specs.Evaluation.{evaluate}
use Rattle.model.specs.Calls.{Applied, Result, open_call, result_of}
use Rattle.model.specs.Text.{Piece, batch, batch_word, broken, bytes_between, line, no_input_words, node_lines, refused_line, unfinished, unfinished_word}
use Rattle.laws.proofs.Sets.{and_first}
use Rattle.network.specs.Reading.{ReadsNetwork, network_of, nodes_of}
use Rattle.network.specs.declared.Network.{Network}
use Rattle.std.specs.Prelude.{Ok, Err}
use Rattle.verdicts.specs.declared.Refusal.{Refusal}
use Rattle.areas.specs.Lent.{lent}
use Rattle.areas.proofs.Good.{long_parts}
use Rattle.network.proofs.Nodes.{nodes-count}
use Rattle.admission.specs.Admission.{Changes}
use Rattle.admission.proofs.Admitted.{changes-good}
use Rattle.lines.specs.Written.{Put, PutIfRoom}
use Rattle.station_lines.specs.Lines.{lines_in, node_room}
use Rattle.pieces.specs.Pieces.{pieces_on}
use Rattle.stages.specs.declared.Said.{Said}
use Rattle.stages.specs.declared.Stage.{Stage}
use Rattle.stages.specs.declared.Stage.TheVariants.{Begin, Cut, End, Tell}
use Rattle.stages.specs.Stages.{Applies, Files, Opened, Says, Wrote, areas_after, batch_line, has_input, piece_areas, piece_stage, piece_text, refusal, stage_of, state_of, step_of}
use Rattle.stages.proofs.Batches.{open_verdict_lem, opened_again, result_is, state_is}
use Rattle.model.specs.Network as model
use Rattle.model.specs.Areas as areas
use Rattle.model.specs.Areas.{head_words}
use Rattle.model.specs.Row.{max_nodes}

pub wrote-put : (text all : Bytes) (most : ℕ) (before out : Bytes) (size : ℕ) → Put text most 0 before out size → text ≡ all → most ≤ length before → Wrote all before out size
wrote-put text all most before out size p e h =
    record { bytes = p.bytes ∙ ap (sets before 0) e; is = omega (arith, p.next, ap length e); fits = omega (arith, p.short, h) }

-- nothing is written
pub put-nothing : (text before : Bytes) → text ≡ [] → Put text node_room 0 before before 0
put-nothing text before e = record { bytes = ap (sets before 0) (sym e); next = omega (arith, ap length e); short = omega arith }

-- areas of the named words are long enough
pub long_is : (rows gained lost head : List ℕ) → area_size ≤ length rows → area_size ≤ length gained → area_size ≤ length lost → head_words ≤ length head
    → long_enough layout (lent rows gained lost head) ≡ true
unfolding long_enough
long_is rows gained lost head r g l h = rw (le-leb area_size (length rows) r, le-leb area_size (length gained) g, le-leb area_size (length lost) l, le-leb head_words (length head) h) refl

pub head-long : (a : Areas) → long_enough layout a ≡ true → head_words ≤ length a.head
head-long a h = (long_parts a.rows a.gained a.lost a.head h).3

-- ---- a batch

pub applied-head : (net : Bytes) (a : Areas) (k : Opened net a) (b : Bytes) (r : Result) → Applied net b a r → head_words ≤ length r.areas.head
applied-head net a k b r m = rw (result_is net a k b r m) (head-long (areas_after net a b) (opened_again net a k b).long)

module _ (net : Bytes) (a : Areas) (k : Opened net a) (b : Bytes) (next : ℕ) (before out : Bytes) (size : ℕ) (room : node_room ≤ length before) (r : Result) (m : Applied net b a r) where
  verdict_is : r.verdict ≡ (step_of net a b).verdict
  unfolding result_of
  verdict_is = ap (λ (x : Result). x.verdict) (result_is net a k b r m)

  pub refused-batch : is_accepted r.verdict ≡ false → PutIfRoom (refused_line r.verdict.number r.verdict.place) 50 before out size →
      Applies net b next a r.areas before out (record { size = size; stage = Cut next })
  refused-batch n p =
      let no : is_accepted (step_of net a b).verdict ≡ false = ap is_accepted (sym verdict_is) ∙ n in
      let text : refused_line r.verdict.number r.verdict.place ≡ batch_line (step_of net a b) =
      ap refusal verdict_is ∙ sym (ap (λ (t : Bool). cond t (line batch_word ((step_of net a b).state.number ∷ [])) (refusal (step_of net a b).verdict)) no) in
      record {
        wrote = wrote-put (refusal r.verdict) (batch_line (step_of net a b)) 50 before out size (p.whole (omega (arith, room))) text (omega (arith, room));
        areas = ap (λ (x : Result). x.areas) (result_is net a k b r m);
        stage = sym (ap (λ (t : Bool). cond t (Tell 0 next) (Cut next)) no);
      }

  pub accepted-batch : is_accepted r.verdict ≡ true → Put (line batch_word (get_or r.areas.head 0 0 ∷ [])) 27 0 before out size →
      Applies net b next a r.areas before out (record { size = size; stage = Tell 0 next })
  unfolding state_in
  accepted-batch z p =
      let yes : is_accepted (step_of net a b).verdict ≡ true = ap is_accepted (sym verdict_is) ∙ z in
      let number : get_or r.areas.head 0 0 ≡ (step_of net a b).state.number =
      ap (λ (x : Result). (state_of net x.areas).number) (result_is net a k b r m) ∙ ap (λ (s : State). s.number) (state_is net a k b) in
      let text : line batch_word (get_or r.areas.head 0 0 ∷ []) ≡ batch_line (step_of net a b) =
      ap (λ (n : ℕ). line batch_word (n ∷ [])) number ∙ sym (ap (λ (t : Bool). cond t (line batch_word ((step_of net a b).state.number ∷ [])) (refusal (step_of net a b).verdict)) yes) in
      record {
        wrote = wrote-put (line batch_word (get_or r.areas.head 0 0 ∷ [])) (batch_line (step_of net a b)) 27 before out size p text (omega (arith, room));
        areas = ap (λ (x : Result). x.areas) (result_is net a k b r m);
        stage = sym (ap (λ (t : Bool). cond t (Tell 0 next) (Cut next)) yes);
      }

-- ---- before everything

module _ (f : Files) (a : Areas) (before out : Bytes) (size : ℕ) (room : node_room ≤ length before) where
  pub says_no_input : has_input f ≡ false → Put (line no_input_words []) 9 0 before out size → Says f Begin a a before out (record { size = size; stage = End })
  says_no_input n p =
      record {
        wrote = wrote-put (line no_input_words []) _ 9 before out size p (rw n) (omega (arith, room));
        areas = rw n;
        stage = rw n;
      }

  module _ (long : long_enough layout a ≡ true) (y : has_input f ≡ true) (r : Result) (e : r ≡ open_call f.net a) where
    verdict_read : r.verdict ≡ (read_network f.net).verdict
    verdict_read = ap (λ (x : Result). x.verdict) e ∙ open_verdict_lem f.net a long

    pub says-refused : is_accepted r.verdict ≡ false → PutIfRoom (refused_line r.verdict.number r.verdict.place) 50 before out size →
        Says f Begin a r.areas before out (record { size = size; stage = End })
    says-refused n p =
        let no : is_accepted (read_network f.net).verdict ≡ false = ap is_accepted (sym verdict_read) ∙ n in
        record {
          wrote = wrote-put (refusal r.verdict) _ 50 before out size (p.whole (omega (arith, room))) (ap refusal verdict_read ∙ rw (y, no)) (omega (arith, room));
          areas = ap (λ (x : Result). x.areas) e ∙ rw y;
          stage = rw (y, no);
        }

    pub says-opened : is_accepted r.verdict ≡ true → Says f Begin a r.areas before before (record { size = 0; stage = Cut 0 })
    says-opened z =
        let yes : is_accepted (read_network f.net).verdict ≡ true = ap is_accepted (sym verdict_read) ∙ z in
        record {
          wrote = record { bytes = rw (y, yes); is = rw (y, yes); fits = omega arith };
          areas = ap (λ (x : Result). x.areas) e ∙ rw y;
          stage = rw (y, yes);
        }

-- ---- a piece of the file

pub between_length : (file : Bytes) (start end : ℕ) → start ≤ end → end ≤ length file → length (bytes_between file start end) ≡ end - start
between_length file start end h g = length-take-le (end - start) (drop start file) (rw length-drop (omega arith))

module _ (f : Files) (start : ℕ) (a : Areas) (before out : Bytes) (size : ℕ) (room : node_room ≤ length before) where
  pub says-batch : (end : ℕ) (after : Areas) (r : Said) → (start ≤ end) × (end + 4 ≤ length f.batches) × (pieces_on f.batches start
      ≡ batch (bytes_between f.batches start end) ∷ pieces_on f.batches (end + 4)) →
      Applies f.net (bytes_between f.batches start end) (end + 4) a after before out r → Says f (Cut start) a after before out r
  says-batch end after r n s =
      let b : Bytes = bytes_between f.batches start end in
      let next : end + 4 ≡ start + length (bytes_between f.batches start end) + 4 = omega (arith, n.0, n.1, between_length f.batches start end n.0 (omega (arith, n.1))) in
      record {
        wrote = subst (λ (l : List Piece). Wrote (piece_text f.net a l) before out r.size) (sym n.2) s.wrote;
        areas = s.areas ∙ ap (piece_areas f.net a) (sym n.2);
        stage = s.stage ∙ ap (stage_of (step_of f.net a b)) next ∙ ap (piece_stage f.net a start) (sym n.2);
      }

  -- a piece after which the program ends
  says_last : (p : List Piece) → pieces_on f.batches start ≡ p → piece_areas f.net a p ≡ a → piece_stage f.net a start p ≡ End →
      Wrote (piece_text f.net a p) before out size → Says f (Cut start) a a before out (record { size = size; stage = End })
  says_last p e s g w =
      record {
        wrote = subst (λ (l : List Piece). Wrote (piece_text f.net a l) before out size) (sym e) w;
        areas = sym s ∙ ap (piece_areas f.net a) (sym e);
        stage = sym g ∙ ap (piece_stage f.net a start) (sym e);
      }

  pub says-broken : (at : ℕ) → pieces_on f.batches start ≡ broken at ∷ [] → PutIfRoom (refused_line 10 at) 50 before out size →
      Says f (Cut start) a a before out (record { size = size; stage = End })
  says-broken at e p = says_last (broken at ∷ []) e refl refl
      (wrote-put (refused_line 10 at) (refused_line 10 at) 50 before out size (p.whole (omega (arith, room))) refl (omega (arith, room)))

  pub says-unfinished : pieces_on f.batches start ≡ unfinished ∷ [] → Put (line unfinished_word []) 11 0 before out size →
      Says f (Cut start) a a before out (record { size = size; stage = End })
  says-unfinished e p = says_last (unfinished ∷ []) e refl refl (wrote-put (line unfinished_word []) (line unfinished_word []) 11 before out size p refl (omega (arith, room)))

pub says-end : (f : Files) (start : ℕ) (a : Areas) (before : Bytes) (room : node_room ≤ length before) → pieces_on f.batches start ≡ [] →
    Says f (Cut start) a a before before (record { size = 0; stage = End })
says-end f start a before room e = says_last f start a before before 0 room [] e refl refl (record { bytes = refl; is = refl; fits = omega arith })

-- ---- a node's lines

module _ (net : Bytes) (nw : Network) (q : ReadsNetwork net (Ok nw)) (rows gained lost head : List ℕ) (k : Opened net (lent rows gained lost head)) where
  network_is : network_of nw ≡ (read_network net).network
  network_is = ap (λ (x : model.Reading). x.network) q.is

  good : good_form layout (nodes_of nw) (lent rows gained lost head) ≡ true
  unfolding coherent
  good =
      let ns : List model.Node = nodes_in net in
      let here : good_form layout (nodes_in net) (lent rows gained lost head) ≡ true =
      and_first (good_form layout ns (lent rows gained lost head))
      (same_relations (rows_in layout ns (lent rows gained lost head)) (evaluate ns (tables_of ns (rows_in layout ns (lent rows gained lost head))))) k.whole in
      ap (λ (n : model.Network). good_form layout n.nodes (lent rows gained lost head)) network_is ∙ here

  pub changes-are : Changes nw gained lost head
  changes-are =
      let long : (area_size ≤ length rows) × (area_size ≤ length gained) × (area_size ≤ length lost) × (head_words ≤ length head) = long_parts rows gained lost head k.long in
      changes-good nw q.built rows gained lost head good long.1 long.2 long.3

  -- the rows' area is not looked at
  pub lines_are : (i : ℕ) → lines_in nw gained lost head i ≡ node_lines (read_network net).network (state_of net (lent rows gained lost head)).changes i
  unfolding state_in areas.changes_in
  lines_are i = ap (λ (n : model.Network). node_lines n (areas.changes_in layout n.nodes (lent [] gained lost head)) i) network_is

  pub count_is : nw.count ≡ length (nodes_in net)
  count_is = sym (nodes-count nw q.built) ∙ ap (λ (n : model.Network). length n.nodes) network_is

-- a refused network has no node
pub none_read : (net : Bytes) (r : Refusal) → ReadsNetwork net (Err r) → 0 ≡ length (nodes_in net)
none_read net r q = ap (λ (x : model.Reading). length x.network.nodes) q.is

pub says-node : (f : Files) (node next : ℕ) (a : Areas) (before out : Bytes) (size : ℕ) →
    Put (node_lines (read_network f.net).network (state_of f.net a).changes node) node_room 0 before out size → node_room ≤ length before →
    (s : Stage) → s ≡ cond (ltb (node + 1) max_nodes) (Tell (node + 1) next) (Cut next) → Says f (Tell node next) a a before out (record { size = size; stage = s })
says-node f node next a before out size p room s e = record { wrote = wrote-put _ _ node_room before out size p refl room; areas = refl; stage = e }

-- ---- the end

pub says-over : (f : Files) (a : Areas) (before : Bytes) → Says f End a a before before (record { size = 0; stage = End })
says-over f a before = record { wrote = record { bytes = refl; is = refl; fits = omega arith }; areas = refl; stage = refl }
