-- The station program: how it cuts its file into batches, and the lines it prints. Document 01, "Examples".
use Rattle.std.specs.Prelude.{Bool, ◌&&◌, cond, ℕ, zero, suc, ◌+◌, ◌-◌, ◌/◌, ◌%◌, leb, ltb, eqb, length, take, drop}
use mathlib.Core.List.{List, [], ◌∷◌, ◌++◌, flat_map}
use Rattle.model.specs.Record.{Bytes, length_at, kind_at, is_broken, offsets, is_accepted}
use Rattle.model.specs.Network.{Network, Reading, read_network, sign_of}
use Rattle.model.specs.Delta.{Change, change_at}
use Rattle.model.specs.Station.{State, opened, Step, step}
use Rattle.model.specs.Watched.{Direction, was_gained, was_lost, WatchedChange, changes_of, watched_changes}

-- ---- cutting the file into batches

-- "a record of length 4, kind 34"
abbrev pub is_mark : Bytes → ℕ → Bool
is_mark file at = eqb (length_at file at) 4 && eqb (kind_at file at) 34

-- what the file holds, in order
pub data Piece : Type 0 where
  batch : Bytes → Piece  -- a batch that a mark ends
  broken : ℕ → Piece  -- a broken length, by its offset from its batch's first byte
  unfinished : Piece  -- whole records without a mark

-- the bytes from one offset up to another
abbrev pub bytes_between : Bytes → ℕ → ℕ → Bytes
bytes_between file from to = take (to - from) (drop from file)

-- the pieces from the batch that starts at an offset, given the offsets of the records from there or later on
unfoldable pub pieces_from : Bytes → ℕ → List ℕ → List Piece
unfolding is_broken
pieces_from file start [] = cond (leb (length file) start) [] (unfinished ∷ [])
pieces_from file start (at ∷ rest) =
    let next : List Piece = batch (bytes_between file start at) ∷ pieces_from file (at + 4) rest in
    let same : List Piece = pieces_from file start rest in
    cond (is_broken file at) (broken (at - start) ∷ []) (cond (is_mark file at) next same)

-- "It looks for the mark by record lengths first"
unfoldable pub pieces : Bytes → List Piece
unfolding pieces_from offsets
pieces file = pieces_from file 0 (offsets file)

-- ---- lines

-- "one space between"
abbrev pub space : ℕ
space = 32

-- the end of a line
abbrev pub newline : ℕ
newline = 10

-- the digits of a number, at most so many
unfoldable pub digits : ℕ → ℕ → Bytes
digits zero n = []
digits (suc more) n =
    let front : Bytes = digits more (n / 10) ++ ((48 + (n % 10)) ∷ []) in
    cond (ltb n 10) ((48 + n) ∷ []) front

-- "decimal"; a number of 64 bits has at most 20 digits
unfoldable pub decimal : ℕ → Bytes
unfolding digits
decimal n = digits 20 n

-- "batch"
abbrev pub batch_word : Bytes
batch_word = 98 ∷ 97 ∷ 116 ∷ 99 ∷ 104 ∷ []

-- "refused"
abbrev pub refused_word : Bytes
refused_word = 114 ∷ 101 ∷ 102 ∷ 117 ∷ 115 ∷ 101 ∷ 100 ∷ []

-- "unfinished"
abbrev pub unfinished_word : Bytes
unfinished_word = 117 ∷ 110 ∷ 102 ∷ 105 ∷ 110 ∷ 105 ∷ 115 ∷ 104 ∷ 101 ∷ 100 ∷ []

-- "no input"
abbrev pub no_input_words : Bytes
no_input_words = 110 ∷ 111 ∷ 32 ∷ 105 ∷ 110 ∷ 112 ∷ 117 ∷ 116 ∷ []

-- a line: a word, then numbers, one space before each
unfoldable pub line : Bytes → List ℕ → Bytes
unfolding decimal flat_map
line word numbers = word ++ flat_map (λ n. space ∷ decimal n) numbers ++ (newline ∷ [])

-- "A refusal prints "refused", number, place"
unfoldable pub refused_line : ℕ → ℕ → Bytes
unfolding line
refused_line number place = line refused_word (number ∷ place ∷ [])

-- "+ or -"
abbrev pub change_sign : Direction → ℕ
change_sign was_gained = 43
change_sign was_lost = 45

-- a watched change as its line: "+ or -, node, fields"
unfoldable pub change_line : WatchedChange → Bytes
unfolding line
change_line c = line (change_sign c.direction ∷ []) (c.node ∷ c.row)

-- the lines of one node's changes, in their order
unfoldable pub node_lines : Network → List Change → ℕ → Bytes
unfolding change_line changes_of flat_map
node_lines net changes i = flat_map change_line (changes_of (sign_of net i) i (change_at changes i))

-- an accepted batch: "batch" and the new number, then "a line per watched change"
unfoldable pub batch_lines : Network → State → Bytes
unfolding line change_line watched_changes flat_map
batch_lines net s = line batch_word (s.number ∷ []) ++ flat_map change_line (watched_changes net s.changes)

-- what a batch prints
unfoldable pub step_lines : Network → Step → Bytes
unfolding batch_lines refused_line
step_lines net st = cond (is_accepted st.verdict) (batch_lines net st.state)
    (refused_line st.verdict.number st.verdict.place)

-- ---- the program

-- the pieces in turn: "after a refused batch it goes on with the next"; a broken length "ends the program"
unfoldable pub run_pieces : Network → State → List Piece → Bytes
unfolding step step_lines refused_line line
run_pieces net s [] = []
run_pieces net s (batch b ∷ rest) = step_lines net (step net.nodes s b) ++ run_pieces net
    (step net.nodes s b).state rest
run_pieces net s (broken at ∷ rest) = refused_line 10 at
run_pieces net s (unfinished ∷ rest) = line unfinished_word []

-- "A refused network ends the program"
unfoldable pub run_files : Bytes → Bytes → Bytes
unfolding read_network run_pieces opened pieces refused_line
run_files net file =
    let reading : Reading = read_network net in
    let output : Bytes = run_pieces reading.network (opened reading.network.nodes) (pieces file) in
    cond (is_accepted reading.verdict) output (refused_line reading.verdict.number reading.verdict.place)

-- a file that may be missing
pub data File : Type 0 where
  missing : File
  file : Bytes → File

-- the most bytes of a file
abbrev pub max_file : ℕ
max_file = 65536

-- "if either is missing or above 65,536 bytes, it prints "no input" once and ends"
unfoldable pub program_output : File → File → Bytes
unfolding run_files line
program_output missing b = line no_input_words []
program_output (file n) missing = line no_input_words []
program_output (file n) (file b) = cond (leb (length n) max_file && leb (length b) max_file) (run_files n b)
    (line no_input_words [])
