-- The station program's steps: what each prints, what the areas then hold, and where the program then stands.
use Rattle.std.specs.Prelude.{◌≡◌, Bool, true, false, ◌&&◌, cond, List, [], ◌∷◌, ℕ, ◌+◌, ◌≤◌, ◌<◌, leb, ltb, length}
use Rattle.std.proofs.lemmas.List.Edits.{sets}
use Rattle.model.specs.Row.{max_nodes}
use Rattle.model.specs.Record.{Bytes, Verdict, is_accepted}
use Rattle.model.specs.Network.{read_network, nodes_in}
use Rattle.model.specs.Station as model
use Rattle.model.specs.Station.{State}
use Rattle.model.specs.Areas.{Areas, layout, long_enough, coherent, state_in}
use Rattle.model.specs.Calls.{open_call, result_of}
use Rattle.model.specs.Text.{File, missing, file, Piece, batch, broken, unfinished, max_file}
use Rattle.model.specs.Text.{batch_word, unfinished_word, no_input_words, line, refused_line, node_lines}
use Rattle.pieces.specs.declared.Piece.TheVariants.{Broken}
use Rattle.pieces.specs.Pieces.{pieces_on, refusal_of}
use Rattle.stages.specs.declared.Stage.{Stage}
use Rattle.stages.specs.declared.Stage.TheVariants.{Begin, Cut, Tell, End}
use Rattle.stages.specs.declared.Said.{Said}

-- ---- the files

-- what was read of the two files, and whether each was there
pub record Files : Type 0 where
  pub found_net : Bool
  pub found_batches : Bool
  pub net : Bytes
  pub batches : Bytes

-- the files, from the arguments of a step
abbrev pub files : Bool → Bool → Bytes → Bytes → Files
files n b net batches = record { found_net = n; found_batches = b; net = net; batches = batches }

-- a file that may be missing
abbrev pub file_of : Bool → Bytes → File
file_of true bytes = file bytes
file_of false bytes = missing

-- both are there, of at most 65,536 bytes
abbrev pub has_input : Files → Bool
has_input f = f.found_net && f.found_batches && leb (length f.net) max_file && leb (length f.batches) max_file

-- ---- the areas

-- a network that opening accepts, and coherent areas
pub record Opened (net : Bytes) (a : Areas) : Type 0 where
  pub accepts : (read_network net).verdict.number ≡ 0
  pub long : long_enough layout a ≡ true
  pub whole : coherent layout (nodes_in net) a ≡ true

-- the state that the areas hold
abbrev pub state_of : Bytes → Areas → State
state_of net a = state_in layout (nodes_in net) a

-- the plain station's step from that state
abbrev pub step_of : Bytes → Areas → Bytes → model.Step
step_of net a b = model.step (nodes_in net) (state_of net a) b

-- the areas after a batch
abbrev pub areas_after : Bytes → Areas → Bytes → Areas
areas_after net a b = (result_of (nodes_in net) a (step_of net a b)).areas

-- ---- a batch

-- the line of a refusal
abbrev pub refusal : Verdict → Bytes
refusal v = refused_line v.number v.place

-- its number, or its refusal
abbrev pub batch_line : model.Step → Bytes
batch_line st = cond (is_accepted st.verdict) (line batch_word (st.state.number ∷ [])) (refusal st.verdict)

-- then its nodes' lines, or the piece that starts at an offset
abbrev pub stage_of : model.Step → ℕ → Stage
stage_of st next = cond (is_accepted st.verdict) (Tell 0 next) (Cut next)

-- ---- the piece of the file that comes first

-- what it prints before its nodes' lines
abbrev pub piece_text : Bytes → Areas → List Piece → Bytes
piece_text net a [] = []
piece_text net a (batch b ∷ rest) = batch_line (step_of net a b)
piece_text net a (broken at ∷ rest) = refusal (refusal_of (Broken at))
piece_text net a (unfinished ∷ rest) = line unfinished_word []

-- the areas after it
abbrev pub piece_areas : Bytes → Areas → List Piece → Areas
piece_areas net a [] = a
piece_areas net a (batch b ∷ rest) = areas_after net a b
piece_areas net a (broken at ∷ rest) = a
piece_areas net a (unfinished ∷ rest) = a

-- where the program then stands, given where the piece starts: a batch ends with its mark of 4 bytes
abbrev pub piece_stage : Bytes → Areas → ℕ → List Piece → Stage
piece_stage net a start [] = End
piece_stage net a start (batch b ∷ rest) = stage_of (step_of net a b) (start + length b + 4)
piece_stage net a start (broken at ∷ rest) = End
piece_stage net a start (unfinished ∷ rest) = End

-- ---- a step

-- what it prints
abbrev pub text_at : Files → Stage → Areas → Bytes
text_at f Begin a = cond (has_input f)
    (cond (is_accepted (read_network f.net).verdict) [] (refusal (read_network f.net).verdict))
    (line no_input_words [])
text_at f (Cut start) a = piece_text f.net a (pieces_on f.batches start)
text_at f (Tell node next) a = node_lines (read_network f.net).network (state_of f.net a).changes node
text_at f End a = []

-- the areas after it
abbrev pub areas_at : Files → Stage → Areas → Areas
areas_at f Begin a = cond (has_input f) (open_call f.net a).areas a
areas_at f (Cut start) a = piece_areas f.net a (pieces_on f.batches start)
areas_at f (Tell node next) a = a
areas_at f End a = a

-- where the program then stands; every node has its turn, and one past the network's last prints nothing
abbrev pub stage_after : Files → Stage → Areas → Stage
stage_after f Begin a = cond (has_input f && is_accepted (read_network f.net).verdict) (Cut 0) End
stage_after f (Cut start) a = piece_stage f.net a start (pieces_on f.batches start)
stage_after f (Tell node next) a = cond (ltb (node + 1) max_nodes) (Tell (node + 1) next) (Cut next)
stage_after f End a = End

-- the program is over
abbrev pub is_over : Stage → Bool
is_over Begin = false
is_over (Cut start) = false
is_over (Tell node next) = false
is_over End = true

-- what a step needs: at first areas that are long enough, then that they were opened
abbrev pub Ready : Files → Stage → Areas → Type 0
Ready f Begin a = long_enough layout a ≡ true
Ready f (Cut start) a = Opened f.net a
Ready f (Tell node next) a = Opened f.net a × (node < max_nodes)
Ready f End a = Unit {0}

-- a text is written from the first byte on, no other byte changes, and its length is told
pub record Wrote (text before out : Bytes) (size : ℕ) : Type 0 where
  pub bytes : out ≡ sets before 0 text
  pub is : size ≡ length text
  pub fits : size ≤ length before

-- what a batch's step does
pub record Applies (net b : Bytes) (next : ℕ) (a after : Areas) (before out : Bytes) (r : Said) : Type 0 where
  pub wrote : Wrote (batch_line (step_of net a b)) before out r.size
  pub areas : after ≡ areas_after net a b
  pub stage : r.stage ≡ stage_of (step_of net a b) next

-- what a step does
pub record Says (f : Files) (s : Stage) (a after : Areas) (before out : Bytes) (r : Said) : Type 0 where
  pub wrote : Wrote (text_at f s a) before out r.size
  pub areas : after ≡ areas_at f s a
  pub stage : r.stage ≡ stage_after f s a
