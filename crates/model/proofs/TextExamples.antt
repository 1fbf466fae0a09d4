-- Computed examples of the station program's text. Each says in its comment what it pins.
use mathlib.Core.Path.{◌≡◌, refl, ap₂}
use mathlib.Core.Bool.{◌&&◌, cond}
use mathlib.Core.List.{[], ◌∷◌, ◌++◌, map, flat_map}
use Prim.Native.Nat.{ℕ}
use lib.Dec.{leb}
use lib.ListN.{length}
use Rattle.model.specs.Record.{Bytes}
use Rattle.model.specs.Network.{table}
use Rattle.model.specs.Delta.{Change}
use Rattle.model.specs.Watched.{watched_changes}
use Rattle.model.specs.Text.{batch, broken, unfinished, pieces, change_line, decimal, line, no_input_words, run_files, File, missing, file, max_file, program_output}
use Rattle.model.specs.Examples.{record_bytes, put, network_n, batch1, batch2, batch3, batch4}

-- the record that ends a batch
mark : Bytes
unfolding record_bytes
mark = record_bytes 34 []

-- ---- cutting a file

-- a batch; an empty one; one with a record of kind 34 that is 6 bytes long, and one of 4 bytes and another kind; then a broken length, 10 bytes into its batch
pieces-broken :
    pieces (put 0 (1 ∷ []) ++ mark ++ mark ++ record_bytes 34 (7 ∷ []) ++ record_bytes 33 [] ++ mark ++ put 1 (2 ∷ []) ++ (3 ∷ 0 ∷ 34 ∷ 0 ∷ []) ++ mark)
    ≡ batch (put 0 (1 ∷ [])) ∷ batch [] ∷ batch (record_bytes 34 (7 ∷ []) ++ record_bytes 33 []) ∷ broken 10 ∷ []
unfolding pieces put record_bytes mark
pieces-broken = refl

-- whole records without a mark at the end, and nothing at the end
pieces_ended :
    map pieces ((mark ++ put 0 (1 ∷ []) ++ put 0 (2 ∷ [])) ∷ mark ∷ [] ∷ (mark ++ (4 ∷ [])) ∷ [])
    ≡ (batch [] ∷ unfinished ∷ []) ∷ (batch [] ∷ []) ∷ [] ∷ (batch [] ∷ broken 0 ∷ []) ∷ []
unfolding pieces put record_bytes mark
pieces_ended = refl

-- ---- lines

-- "decimal": 0, 10, 4294967295
decimals : map decimal (0 ∷ 10 ∷ 4294967295 ∷ []) ≡ (48 ∷ []) ∷ (49 ∷ 48 ∷ []) ∷ (52 ∷ 50 ∷ 57 ∷ 52 ∷ 57 ∷ 54 ∷ 55 ∷ 50 ∷ 57 ∷ 53 ∷ []) ∷ []
unfolding decimal
decimals = refl

-- a row gained, and 0 lost
abbrev moved : ℕ → Change
moved n = record { gained = (n ∷ []) ∷ []; lost = (0 ∷ []) ∷ [] }

-- the lines of watched changes: "nodes ascending, gained first", each node's as its sign allows
watched_lines :
    flat_map change_line (watched_changes (record { nodes = table 1 ∷ table 1 ∷ table 1 ∷ []; signs = 3 ∷ 0 ∷ 2 ∷ []; priorities = 4 ∷ 0 ∷ 9 ∷ [] }) (moved 1 ∷ moved 2 ∷ moved 3 ∷ []))
    ≡ (43 ∷ 32 ∷ 48 ∷ 32 ∷ 49 ∷ 10 ∷ []) ++ (45 ∷ 32 ∷ 48 ∷ 32 ∷ 48 ∷ 10 ∷ []) ++ (45 ∷ 32 ∷ 50 ∷ 32 ∷ 48 ∷ 10 ∷ [])
unfolding watched_changes change_line flat_map
watched_lines = refl

-- "batch" and a digit
batch_line : ℕ → Bytes
batch_line digit = 98 ∷ 97 ∷ 116 ∷ 99 ∷ 104 ∷ 32 ∷ digit ∷ 10 ∷ []

-- a sign, and 4 5
line45 : ℕ → Bytes
line45 sign = sign ∷ 32 ∷ 52 ∷ 32 ∷ 53 ∷ 10 ∷ []

-- "the whole output" on N with its four batches
output_on_N :
    run_files network_n (batch1 ++ mark ++ batch2 ++ mark ++ batch3 ++ mark ++ batch4 ++ mark)
    ≡ batch_line 49 ++ line45 43 ++ batch_line 50 ++ batch_line 51 ++ line45 45 ++ batch_line 52
unfolding run_files network_n batch1 batch2 batch3 batch4 mark batch_line line45
output_on_N = refl

-- "refused", number, place: 11 at the second record, the next batch gets number 1, a broken length ends the program
output_refused :
    run_files network_n (put 3 (5 ∷ []) ++ record_bytes 99 [] ++ mark ++ mark ++ (1 ∷ []))
    ≡ (114 ∷ 101 ∷ 102 ∷ 117 ∷ 115 ∷ 101 ∷ 100 ∷ 32 ∷ 49 ∷ 49 ∷ 32 ∷ 49 ∷ 48 ∷ 10 ∷ [])
    ++ batch_line 49
    ++ (114 ∷ 101 ∷ 102 ∷ 117 ∷ 115 ∷ 101 ∷ 100 ∷ 32 ∷ 49 ∷ 48 ∷ 32 ∷ 48 ∷ 10 ∷ [])
unfolding run_files network_n put record_bytes mark batch_line
output_refused = refl

-- a refused network ends the program with its number and its place
output_network : run_files (record_bytes 1 (1 ∷ []) ++ record_bytes 11 []) mark ≡ 114 ∷ 101 ∷ 102 ∷ 117 ∷ 115 ∷ 101 ∷ 100 ∷ 32 ∷ 52 ∷ 32 ∷ 54 ∷ 10 ∷ []
unfolding run_files record_bytes mark
output_network = refl

-- "unfinished"
output_unfinished : run_files network_n (put 3 (5 ∷ [])) ≡ 117 ∷ 110 ∷ 102 ∷ 105 ∷ 110 ∷ 105 ∷ 115 ∷ 104 ∷ 101 ∷ 100 ∷ 10 ∷ []
unfolding run_files network_n put
output_unfinished = refl

-- ---- the files

-- "no input" and a newline
abbrev no_input : Bytes
no_input = 110 ∷ 111 ∷ 32 ∷ 105 ∷ 110 ∷ 112 ∷ 117 ∷ 116 ∷ 10 ∷ []

-- for either file that is missing
output_missing : (f : File) → (program_output missing f ∷ program_output (file []) missing ∷ []) ≡ no_input ∷ no_input ∷ []
unfolding program_output line
output_missing f = refl

-- the output by the lengths of two files
by_lengths : (n b : Bytes) (j k : ℕ) → length n ≡ j → length b ≡ k → program_output (file n) (file b) ≡ cond (leb j 65536 && leb k 65536) (run_files n b) (line no_input_words [])
unfolding program_output
by_lengths n b j k e f = ap₂ {A = ℕ} {B = ℕ} {C = Bytes} (λ x y. cond (leb x max_file && leb y max_file) (run_files n b) (line no_input_words [])) e f

-- files of just 65,536 bytes are taken
output_full : (n b : Bytes) → length n ≡ 65536 → length b ≡ 65536 → program_output (file n) (file b) ≡ run_files n b
output_full n b e f = by_lengths n b 65536 65536 e f

-- a network or batches of one byte more are not
output_over : (n b : Bytes) → length n ≡ 65537 → program_output (file n) (file b) ≡ line no_input_words []
output_over n b e = by_lengths n b 65537 (length b) e refl

output_over-batches : (n b : Bytes) → length n ≡ 65536 → length b ≡ 65537 → program_output (file n) (file b) ≡ line no_input_words []
output_over-batches n b e f = by_lengths n b 65536 65537 e f
