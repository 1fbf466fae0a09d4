-- Every run of the station program hands out the program's output, and there is one: each step leaves less to do. Assumes nothing.
use mathlib.Core.Bool.{Bool, ◌&&◌, cond, false, true, true≢false}
use mathlib.Core.List.{List, [], ◌∷◌, ◌++◌, append_assoc, append-nil, flat_map}
use mathlib.Core.Path.{ap, ap₂, refl, subst, sym, ◌∙◌, ◌≡◌}
use Prim.Native.Nat.{ℕ, zero, suc, ◌+◌, ◌≤◌, ◌<◌}
use native.Mathlib.Omega.{arith}
use lib.Dec.{leb, ltb}
use lib.ListN.{drop, length, take}
use lib.Seq.{sets, take_at}
use borrow.Author.Tests.{ltb-false, ltb-true}
use Rattle.model.specs.Row.{numbers_below, max_nodes}
use Rattle.model.specs.Record.{Bytes, is_accepted}
use Rattle.model.specs.Network.{read_network, nodes_in}
use Rattle.model.specs.Station.{State, Step}
use Rattle.model.specs.Areas.{Areas, layout, long_enough}
use Rattle.model.specs.Text.{Piece, batch, broken, unfinished, bytes_between, max_file, batch_word, no_input_words, unfinished_word, line, node_lines}
use Rattle.model.specs.Text.{program_output, run_files, run_pieces, step_lines}
use Rattle.laws.proofs.Parts.{sets_first}
use Rattle.pieces.specs.declared.Piece as declared
use Rattle.pieces.specs.declared.Piece.TheVariants.{Batch, Broken, Unfinished}
use Rattle.pieces.specs.declared.Piece.TheVariants as piece
use Rattle.pieces.specs.Pieces.{Next, pieces_on, refusal_of}
use Rattle.laws.proofs.Watched.{batch_by_node}
use Rattle.pieces.proofs.Cut.{found, pieces_all}
use Rattle.stages.specs.declared.Stage.{Stage}
use Rattle.stages.specs.declared.Stage.TheVariants.{Begin, Cut, End, Tell}
use Rattle.stages.specs.Stages.{Files, Opened, Ready, Says, Wrote, file_of, has_input, is_over, state_of, step_of}
use Rattle.stages.specs.Stages.{areas_after, areas_at, batch_line, piece_areas, piece_stage, piece_text, refusal, stage_after, stage_of, text_at}
use Rattle.program.specs.Runs.{Prints, Runs, Turn, handed_out, left, output_of}
use Rattle.stages.proofs.Batches.{open_yes, opened_again, opened_ready, opened-state, state_is}
use Rattle.stages.proofs.Nodes.{node-first, nodes_all, nodes-over, nodes_from}
use Rattle.stages.proofs.Steps.{between_length}

-- the bytes that were written
pub written : (text before out : Bytes) (size : ℕ) → Wrote text before out size → take size out ≡ text
written text before out size w =
    ap (take size) (w.bytes ∙ sets_first before text (omega (arith, w.is, w.fits))) ∙ take_at text (drop (length text) before) size (sym w.is)

module _ (f : Files) where
  -- what is printed from a stage on
  abbrev pub output_from : Stage → Areas → Bytes
  output_from Begin a = output_of f
  output_from (Cut start) a = run_pieces (read_network f.net).network (state_of f.net a) (pieces_on f.batches start)
  output_from (Tell node next) a = nodes_from f.net a node ++ run_pieces (read_network f.net).network (state_of f.net a) (pieces_on f.batches next)
  output_from End a = []

  -- ---- before everything

  begin_no : has_input f ≡ false → output_of f ≡ line no_input_words []
  unfolding program_output
  begin_no n = go f.found_net f.found_batches n
    where
      go : (x y : Bool) → (x && y && leb (length f.net) max_file && leb (length f.batches) max_file) ≡ false → program_output (file_of x f.net) (file_of y f.batches)
          ≡ line no_input_words []
      go false y e = refl
      go true false e = refl
      go true true e = rw e

  begin_yes : has_input f ≡ true → output_of f ≡ run_files f.net f.batches
  unfolding program_output
  begin_yes n = go f.found_net f.found_batches n
    where
      go : (x y : Bool) → (x && y && leb (length f.net) max_file && leb (length f.batches) max_file) ≡ true → program_output (file_of x f.net) (file_of y f.batches)
          ≡ run_files f.net f.batches
      go false y e = absurd (true≢false (sym e))
      go true false e = absurd (true≢false (sym e))
      go true true e = rw e

  module _ (a : Areas) (long : long_enough layout a ≡ true) where
    begin_step : (t : Bool) → has_input f ≡ t → (v : Bool) → is_accepted (read_network f.net).verdict ≡ v →
        output_from Begin a ≡ text_at f Begin a ++ output_from (stage_after f Begin a) (areas_at f Begin a)
    unfolding run_files
    begin_step false e v g = begin_no e ∙ rw e (sym (append-nil (line no_input_words [])))
    begin_step true e false g = begin_yes e ∙ rw (e, g) (sym (append-nil (refusal (read_network f.net).verdict)))
    begin_step true e true g =
        begin_yes e
        ∙ rw (e, g)
        (ap₂ {A = State} {B = List Piece} {C = Bytes} (run_pieces (read_network f.net).network) (sym (opened-state f.net a (open_yes f.net a long g))) (pieces_all f.batches))

    begin_ready : (t : Bool) → has_input f ≡ t → (v : Bool) → is_accepted (read_network f.net).verdict ≡ v → Ready f (stage_after f Begin a) (areas_at f Begin a)
    begin_ready false e v g = rw e tt
    begin_ready true e false g = rw (e, g) tt
    begin_ready true e true g = rw (e, g) (opened_ready f.net a (open_yes f.net a long g))

  -- ---- a piece

  -- the lines of all nodes
  abbrev told : State → Bytes
  told x = flat_map (node_lines (read_network f.net).network x.changes) (numbers_below (length (nodes_in f.net)))

  module _ (start : ℕ) (a : Areas) (k : Opened f.net a) where
    -- a batch, told by its answer
    batch_output : (b : Bytes) (next : ℕ) (t : Bool) → is_accepted (step_of f.net a b).verdict ≡ t →
        step_lines (read_network f.net).network (step_of f.net a b) ++ run_pieces (read_network f.net).network (step_of f.net a b).state (pieces_on f.batches next)
        ≡ batch_line (step_of f.net a b) ++ output_from (stage_of (step_of f.net a b) next) (areas_after f.net a b)
    unfolding step_lines
    batch_output b next true e =
        let st : Step = step_of f.net a b in
        let s : state_of f.net (areas_after f.net a b) ≡ (step_of f.net a b).state = state_is f.net a k b in
        let rest : State → Bytes = λ x. run_pieces (read_network f.net).network x (pieces_on f.batches next) in
        let all : told (step_of f.net a b).state ≡ nodes_from f.net (areas_after f.net a b) 0 = ap told (sym s) ∙ nodes_all f.net (areas_after f.net a b) in
        rw e
        (ap (λ (l : Bytes). l ++ rest st.state) (batch_by_node (read_network f.net).network st.state)
        ∙ append_assoc (line batch_word (st.state.number ∷ [])) (told st.state) (rest st.state)
        ∙ ap₂ {A = Bytes} {B = State} {C = Bytes} (λ l x. line batch_word (st.state.number ∷ []) ++ (l ++ rest x)) all (sym s))
    batch_output b next false e =
        rw e
        (ap (λ (x : State). refusal (step_of f.net a b).verdict ++ run_pieces (read_network f.net).network x (pieces_on f.batches next)) (sym (state_is f.net a k b)))

    -- what is printed from here on, if the pieces from here on are these
    pieces_output : (p : List Piece) → pieces_on f.batches start ≡ p → run_pieces (read_network f.net).network (state_of f.net a) p
        ≡ piece_text f.net a p ++ output_from (piece_stage f.net a start p) (piece_areas f.net a p) →
        output_from (Cut start) a ≡ text_at f (Cut start) a ++ output_from (stage_after f (Cut start) a) (areas_at f (Cut start) a)
    pieces_output p e h =
        ap (run_pieces (read_network f.net).network (state_of f.net a)) e
        ∙ h
        ∙ ap (λ (l : List Piece). piece_text f.net a l ++ output_from (piece_stage f.net a start l) (piece_areas f.net a l)) (sym e)

    next_is : (end : ℕ) → start ≤ end → end + 4 ≤ length f.batches → end + 4 ≡ start + length (bytes_between f.batches start end) + 4
    next_is end h g = omega (arith, h, g, between_length f.batches start end h (omega (arith, g)))

    piece_step : (p : declared.Piece) → Next f.batches start p → output_from (Cut start) a ≡ text_at f (Cut start) a ++ output_from (stage_after f (Cut start) a) (areas_at f (Cut start) a)
    unfolding run_pieces
    piece_step (Batch end) n =
        let b : Bytes = bytes_between f.batches start end in
        pieces_output (batch b ∷ pieces_on f.batches (end + 4)) n.2
        (batch_output b (end + 4) (is_accepted (step_of f.net a b).verdict) refl
        ∙ ap (λ (x : ℕ). batch_line (step_of f.net a b) ++ output_from (stage_of (step_of f.net a b) x) (areas_after f.net a b)) (next_is end n.0 n.1))
    piece_step (Broken at) n = pieces_output (broken at ∷ []) n (sym (append-nil (refusal (refusal_of (Broken at)))))
    piece_step Unfinished n = pieces_output (unfinished ∷ []) n (sym (append-nil (line unfinished_word [])))
    piece_step piece.End n = pieces_output [] n refl

    -- the areas are opened, and less of the file is left
    batch_ready : (b : Bytes) (next : ℕ) (t : Bool) → is_accepted (step_of f.net a b).verdict ≡ t → Ready f (stage_of (step_of f.net a b) next) (areas_after f.net a b)
    batch_ready b next true e = rw e (opened_again f.net a k b, omega arith)
    batch_ready b next false e = rw e (opened_again f.net a k b)

    batch_falls : (b : Bytes) (next : ℕ) (t : Bool) → is_accepted (step_of f.net a b).verdict ≡ t → start < next → next ≤ length f.batches →
        left f (stage_of (step_of f.net a b) next) < left f (Cut start)
    batch_falls b next true e h g = rw e (omega (arith, h, g))
    batch_falls b next false e h g = rw e (omega (arith, h, g))

    -- what the step leaves, if the pieces from here on are these
    abbrev After : List Piece → Type 0
    After l = Ready f (piece_stage f.net a start l) (piece_areas f.net a l) × (left f (piece_stage f.net a start l) < left f (Cut start))

    piece_ready : (p : declared.Piece) → Next f.batches start p → Ready f (stage_after f (Cut start) a) (areas_at f (Cut start) a)
        × (left f (stage_after f (Cut start) a) < left f (Cut start))
    piece_ready (Batch end) n =
        let b : Bytes = bytes_between f.batches start end in
        let t : Bool = is_accepted (step_of f.net a b).verdict in
        let next : ℕ = start + length (bytes_between f.batches start end) + 4 in
        subst After (sym n.2)
        (batch_ready b next t refl, batch_falls b next t refl (omega arith) (omega (arith, n.1, next_is end n.0 n.1)))
    piece_ready (Broken at) n = subst After (sym n) (tt, omega arith)
    piece_ready Unfinished n = subst After (sym n) (tt, omega arith)
    piece_ready piece.End n = subst After (sym n) (tt, omega arith)

  -- ---- a node

  module _ (node next : ℕ) (a : Areas) (k : Opened f.net a) (h : node < max_nodes) where
    node-step : (t : Bool) → ltb (node + 1) max_nodes ≡ t → output_from (Tell node next) a ≡ text_at f (Tell node next) a ++ output_from (stage_after f (Tell node next) a) a
    node-step t e =
        let rest : Bytes = run_pieces (read_network f.net).network (state_of f.net a) (pieces_on f.batches next) in
        let here : Bytes = node_lines (read_network f.net).network (state_of f.net a).changes node in
        ap (λ (l : Bytes). l ++ rest) (node-first f.net a node h)
        ∙ append_assoc here (nodes_from f.net a (node + 1)) rest
        ∙ ap (λ (l : Bytes). here ++ l) (go t e)
      where
        go : (t : Bool) → ltb (node + 1) max_nodes ≡ t → nodes_from f.net a (node + 1) ++ run_pieces (read_network f.net).network (state_of f.net a) (pieces_on f.batches next)
            ≡ output_from (stage_after f (Tell node next) a) a
        go true e = rw e refl
        go false e = rw (e, nodes-over f.net a (node + 1) (ltb-false (node + 1) max_nodes e)) refl

    node_ready : (t : Bool) → ltb (node + 1) max_nodes ≡ t → Ready f (stage_after f (Tell node next) a) a × (left f (stage_after f (Tell node next) a) < left f (Tell node next))
    node_ready true e = rw e ((k, ltb-true (node + 1) max_nodes e), omega (arith, h))
    node_ready false e = rw e (k, omega (arith, h))

  -- ---- any step

  -- its text, then what is printed from the next stage on
  pub output_step : (s : Stage) (a : Areas) → Ready f s a → output_from s a ≡ text_at f s a ++ output_from (stage_after f s a) (areas_at f s a)
  output_step Begin a k = begin_step a k (has_input f) refl (is_accepted (read_network f.net).verdict) refl
  output_step (Cut start) a k = piece_step start a k (found f.batches start).piece (found f.batches start).next
  output_step (Tell node next) a k = node-step node next a k.0 k.1 (ltb (node + 1) max_nodes) refl
  output_step End a k = refl

  -- it leaves what the next one needs
  pub ready_step : (s : Stage) (a : Areas) → Ready f s a → Ready f (stage_after f s a) (areas_at f s a)
  ready_step Begin a k = begin_ready a k (has_input f) refl (is_accepted (read_network f.net).verdict) refl
  ready_step (Cut start) a k = (piece_ready start a k (found f.batches start).piece (found f.batches start).next).0
  ready_step (Tell node next) a k = (node_ready node next a k.0 k.1 (ltb (node + 1) max_nodes) refl).0
  ready_step End a k = tt

  begin_falls : (t : Bool) → left f (cond t (Cut 0) End) < left f Begin
  begin_falls true = omega arith
  begin_falls false = omega arith

  -- and less to do
  pub falls : (s : Stage) (a : Areas) → Ready f s a → is_over s ≡ false → left f (stage_after f s a) < left f s
  falls Begin a k n = begin_falls (has_input f && is_accepted (read_network f.net).verdict)
  falls (Cut start) a k n = (piece_ready start a k (found f.batches start).piece (found f.batches start).next).1
  falls (Tell node next) a k n = (node_ready node next a k.0 k.1 (ltb (node + 1) max_nodes) refl).1
  falls End a k n = absurd (true≢false n)

  -- ---- runs

  pub over_output : (s : Stage) (a : Areas) → is_over s ≡ true → [] ≡ output_from s a
  over_output Begin a e = absurd (true≢false (sym e))
  over_output (Cut start) a e = absurd (true≢false (sym e))
  over_output (Tell node next) a e = absurd (true≢false (sym e))
  over_output End a e = refl

  -- a step's contract: what it needs is left again, and its bytes come first
  module _ (s : Stage) (a : Areas) (k : Ready f s a) (t : Turn) (d : Says f s a t.areas t.before t.out t.said) where
    pub ready_again : Ready f t.said.stage t.areas
    ready_again = rw (d.stage, d.areas) (ready_step s a k)

    pub falls_again : is_over s ≡ false → left f t.said.stage < left f s
    falls_again n = rw d.stage (falls s a k n)

    pub output_again : output_from s a ≡ take t.said.size t.out ++ output_from t.said.stage t.areas
    output_again = rw (d.stage, d.areas, written (text_at f s a) t.before t.out t.said.size d.wrote) (output_step s a k)

  pub runs_print : (turns : List Turn) (s : Stage) (a : Areas) → Ready f s a → Runs f s a turns → handed_out turns ≡ output_from s a
  unfolding flat_map
  runs_print [] s a k r = over_output s a r
  runs_print (t ∷ turns) s a k r =
      ap (λ (l : Bytes). take t.said.size t.out ++ l) (runs_print turns t.said.stage t.areas (ready_again s a k t r.1) r.2)
      ∙ sym (output_again s a k t r.1)

-- the theorem
pub prints : Prints
prints f a turns long r = runs_print f turns Begin a long r

-- ---- there is a run

-- steps from a stage to the end
pub record Run (f : Files) (s : Stage) (a : Areas) : Type 0 where
  pub turns : List Turn
  pub runs : Runs f s a turns

module _ (f : Files) where
  -- a step that meets its contract, into bytes that are as many as its text
  abbrev turn_at : Stage → Areas → Turn
  turn_at s a = record { before = text_at f s a; out = sets (text_at f s a) 0 (text_at f s a); areas = areas_at f s a; said = record { size = length (text_at f s a); stage = stage_after f s a } }

  turn-says : (s : Stage) (a : Areas) → Says f s a (turn_at s a).areas (turn_at s a).before (turn_at s a).out (turn_at s a).said
  turn-says s a = record { wrote = record { bytes = refl; is = refl; fits = omega arith }; areas = refl; stage = refl }

  run_within : (n : ℕ) (s : Stage) (a : Areas) → left f s ≤ n → Ready f s a → Run f s a
  run_within zero s a h k = go (is_over s) refl
    where
      go : (t : Bool) → is_over s ≡ t → Run f s a
      go true e = record { turns = []; runs = e }
      go false e = absurd (omega (arith, h, falls f s a k e))
  run_within (suc n) s a h k = go (is_over s) refl (run_within n (stage_after f s a) (areas_at f s a))
    where
      go : (t : Bool) → is_over s ≡ t → (left f (stage_after f s a) ≤ n → Ready f (stage_after f s a) (areas_at f s a) → Run f (stage_after f s a) (areas_at f s a)) → Run f s a
      go true e ih = record { turns = []; runs = e }
      go false e ih =
          let rest : Run f (stage_after f s a) (areas_at f s a) = ih (omega (arith, h, falls f s a k e)) (ready_step f s a k) in
          record { turns = turn_at s a ∷ rest.turns; runs = (e, turn-says s a, rest.runs) }

-- every pair of files has a run
pub has_run : (f : Files) (a : Areas) → long_enough layout a ≡ true → Run f Begin a
has_run f a long = run_within f (left f Begin) Begin a (omega arith) long
