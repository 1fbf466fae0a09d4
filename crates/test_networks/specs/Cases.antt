-- Cases of a file of networks.
use Rattle.std.specs.Prelude.{◌≡◌, cond, [], ◌∷◌, ◌++◌, ℕ, ◌+◌, ◌≤◌, ◌<◌, leb, get_or, length}
use Rattle.model.specs.Record.{Bytes, u16}
use Rattle.model.specs.Calls.{ReadAnswer}
use Rattle.model.specs.Text.{line}
use Rattle.test_networks.specs.declared.Case.{Case}

-- the case whose bytes stand at an offset
abbrev pub case_in : Bytes → ℕ → Case
case_in bs at =
    record { name = at + 3; net = at + 3 + get_or bs at 0; next = at + 3 + get_or bs at 0 + u16 bs (at + 1) }

-- none: no name and no network, at the file's end
abbrev pub no_case : ℕ → Case
no_case end = record { name = end; net = end; next = end }

-- the case at an offset, none where the file ends before it does
abbrev pub case_at : Bytes → ℕ → Case
case_at bs at = cond (leb (case_in bs at).next (length bs)) (case_in bs at) (no_case (length bs))

-- it is read: it ends after its offset, inside the file, with its name and then its network inside it
pub record ReadsCase (bs : Bytes) (at : ℕ) (c : Case) : Type 0 where
  pub is : c ≡ case_at bs at
  pub after : at < c.next
  pub name : c.name ≤ c.net
  pub net : c.net ≤ c.next
  pub whole : c.next ≤ length bs

-- ---- what is printed of a network

-- " kinds"
abbrev pub kinds_word : Bytes
kinds_word = 32 ∷ 107 ∷ 105 ∷ 110 ∷ 100 ∷ 115 ∷ []

-- " widths"
abbrev pub widths_word : Bytes
widths_word = 32 ∷ 119 ∷ 105 ∷ 100 ∷ 116 ∷ 104 ∷ 115 ∷ []

-- " levels"
abbrev pub levels_word : Bytes
levels_word = 32 ∷ 108 ∷ 101 ∷ 118 ∷ 101 ∷ 108 ∷ 115 ∷ []

-- the reader's answer in four lines
abbrev pub answer_lines : ReadAnswer → Bytes
answer_lines x =
    line [] (x.verdict.number ∷ x.verdict.place ∷ x.count ∷ [])
    ++ line kinds_word x.kinds ++ line widths_word x.widths ++ line levels_word x.levels
